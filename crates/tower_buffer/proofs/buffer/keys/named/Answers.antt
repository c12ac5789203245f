use Rattle.std.proofs.Common.{sym, ◌∙◌}
use Rattle.tower_buffer.proofs.MailFew.{freed_shares, frees_few}
use Rattle.tower_buffer.proofs.buffer.keys.named.Goals as goal

pub returns-in-One-clause-most : goal.returns-in-One-clause-most
returns-in-One-clause-most c = λ old new frees. freed_shares old new c.in-One.key c.one.result c.args.wakes c.in-One.is frees c.one.ensures.all (λ e. sym c.ticket.ensures ∙ c.one.ensures.unstalled e)

pub returns-in_default-clause-most : goal.returns-in_default-clause-most
returns-in_default-clause-most c = λ old new frees. frees_few old new c.args.wakes frees
