use Rattle.std.proofs.Common.{rules, ◌≡◌, Some, inr}
use Rattle.tower_pool.specs.SpawnReady.{view_of}
use Rattle.tower_pool.proofs.spawn_ready.service.SpawnReady.hand_over.Goals as goal

pub returns-clause-hands : goal.returns-clause-hands
returns-clause-hands g c =
    let here : c.args.self.now.service ≡ Some c.in-Some.service = search rules in
    rw here (inr (record {
      share = c.in-Ok.share;
      shared = search rules;
      shares = search rules;
      running = view_of c.start.new.self;
      starts = search rules;
      hands = search rules;
    }))
