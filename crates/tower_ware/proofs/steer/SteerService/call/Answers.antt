use Rattle.std.proofs.Common.{rules, All, ◌≡◌, ◌<◌, [], sym, subst, length}
use Rattle.tower_ware.specs.Steer.{Rested}
use Rattle.tower_ware.proofs.SteerLemmas.{each_write, rested_at, rested_called}
use Rattle.tower_ware.proofs.steer.SteerService.call.Goals as goal

pub returns-clause-sound : goal.returns-clause-sound
returns-clause-sound g c =
    let ss = c.self.inside.services.items in
    let each : All g.S.Service.sound ss = subst (λ v. All g.S.Service.sound v.services) (sym c.self.view_is) c.requires.sound.each in
    let was = subst (λ v. Rested g.S.Service.ready v.services v.listed) (sym c.self.view_is) c.requires.sound.rested in
    let none : c.self.inside.listed.items ≡ [] = search rules in
    record {
      chooses = c.pick-index.ensures.sound;
      each = each_write g.S.Service.sound ss c.pick-index.result c.call.new.self c.call.ensures.sound each;
      rested = rw (c.push_back_reserved.ensures.items, none) (rested_called g.S.Service.ready ss _ _ (rw none at was));
    }

pub returns-clause-called : goal.returns-clause-called
returns-clause-called g c =
    let ss = c.self.inside.services.items in
    let was = subst (λ v. Rested g.S.Service.ready v.services v.listed) (sym c.self.view_is) c.requires.sound.rested in
    let none : c.self.inside.listed.items ≡ [] = search rules in
    let inside : c.pick-index.result < length ss = search rules in
    record {
      index = c.pick-index.result;
      service = c.index_mut.result.now;
      left = c.call.new.self;
      picked = search rules;
      inside = search rules;
      there = search rules;
      ready = rested_at g.S.Service.ready ss c.pick-index.result _ (rw none at was) inside (sym c.index_mut.ensures.value);
      called = c.call.ensures.called;
      services = search rules;
      listed = rw (c.push_back_reserved.ensures.items, none);
      room = search rules;
    }
