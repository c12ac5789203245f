use Rattle.std.proofs.Common.{rules, ◌≡◌, [], ◌∷◌, ◌∙◌, subst, sym, ap}
use Rattle.atomic_table.specs.Table.{opening}
use Rattle.tower_latch.specs.CoreTable.{Agree, initial}
use Rattle.tower_latch.proofs.CoreTableMoves.{begins}
use Rattle.tower_latch.proofs.guarded.Guarded.new.Goals as goal

pub new-requires-2 : goal.new-requires-2
new-requires-2 g c =
    let items : c.push.new.self.items ≡ c.new.result ∷ [] = search rules in
    let its : g.C.Core.terms c.new.result.core ≡ c.terms-terms.result = ap g.C.Core.terms c.new.ensures ∙ sym c.terms-terms.ensures in
    let none_out : g.C.Core.out c.new.result.core ≡ 0 = ap g.C.Core.out c.new.ensures ∙ g.met.C.Core.starts c.args.core c.requires in
    subst (λ l. Agree (λ k. g.C.Core.terms k.core ≡ c.terms-terms.result) (λ k. g.C.Core.out k.core) (opening (0 ∷ []) l initial)) (sym items)
    (begins (λ k. g.C.Core.terms k.core ≡ c.terms-terms.result) (λ k. g.C.Core.out k.core) c.new.result its none_out)
