use Rattle.std.proofs.Common.{rules, ◌≡◌, ◌∙◌, ◌+◌, ◌≤◌, ap, is_some, length, true, arith, if◌then◌else◌}
use Rattle.tower_pool.specs.ReadyCache.{is_pending, cancel}
use Rattle.tower_pool.proofs.PendingLemmas.{length-cancel, none_after}
use Rattle.tower_pool.proofs.ready_cache.pending.Pending.push.Goals as goal

pub append-requires-clause-room : goal.append-requires-clause-room
append-requires-clause-room g c =
    let eq = g.K.PartialEq.eq in
    let done : is_some c.make_room.result ≡ true = search rules in
    let items : c.make_room.new.self.items ≡ cancel eq c.args.key c.args.self.now.items = c.make_room.ensures.items ∙ (λ j. if done j then cancel eq c.args.key c.args.self.now.items else c.args.self.now.items) in
    let fits : length c.args.self.now.items + c.args.more ≤ c.make_room.new.self.room = search rules in
    omega (arith, ap length items, length-cancel eq c.args.key c.args.self.now.items, fits, c.requires.some)

pub append-requires-clause-alone : goal.append-requires-clause-alone
append-requires-clause-alone g c = λ alive.
    let eq = g.K.PartialEq.eq in
    let done : is_some c.make_room.result ≡ true = search rules in
    let items : c.make_room.new.self.items ≡ cancel eq c.args.key c.args.self.now.items = c.make_room.ensures.items ∙ (λ j. if done j then cancel eq c.args.key c.args.self.now.items else c.args.self.now.items) in
    ap (is_pending eq c.args.key) items ∙ none_after eq g.met.K.Eq.laws c.args.key c.args.self.now.items c.requires.apart
