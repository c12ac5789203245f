use Rattle.std.proofs.Common.{sym, ◌∙◌}
use Rattle.tower_buffer.proofs.MailFew.{response_shared}
use Rattle.tower_buffer.proofs.buffer.mail_core.decided.Goals as goal

pub returns-in-Done-clause-unstalled : goal.returns-in-Done-clause-unstalled
returns-in-Done-clause-unstalled g c = λ e. response_shared c.args.id (sym c.response.ensures ∙ c.one.ensures.unstalled e)
