use Rattle.std.proofs.lemmas.Result.{IfOk-weaker}
use Rattle.example_http.proofs.connection.serve.Goals as goal

-- `block_on` ran the future that `served` returned, and its connection was new.
pub returns : goal.returns
returns g c = record {
  closes = IfOk-weaker c.block_on.result _ _ (λ ended gives. (c.in_ok-served.served, c.in_ok-served.ensures.new, gives)) c.block_on.ensures;
}
