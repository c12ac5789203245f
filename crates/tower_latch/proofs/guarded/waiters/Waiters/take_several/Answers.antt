use Rattle.std.proofs.Common.{refl, ◌++◌, inl, length, ap, ◌∙◌, arith}
use Rattle.tower_latch.specs.Wakes.{IsSpared}
use Rattle.tower_latch.proofs.Crowds.{sifted_all, sifted_rest, sifts_on, sifts_taken}
use Rattle.tower_latch.proofs.guarded.waiters.Waiters.take_several.Goals.{then-not-is_passed_over+in-Ok+in-Some, then-not-is_passed_over+in-Ok+in_default-take_crowd, else-not-is_passed_over}
use Rattle.tower_latch.proofs.guarded.waiters.Waiters.take_several.Goals as goal

pub returns-in_default : goal.returns-in_default
returns-in_default g c =
    sifted_rest (g.C.Core.stalls c.args.core.now) c.args.wakes c.requires c.args.self.now c.looking.self c.looking.groups.items _ c.looking.key c.looking.invariant
    c.take_rest.new.self c.take_rest.ensures.left (ap (λ items. items ++ c.take_rest.result.items) c.in_default.ensures.items ∙ ap (λ items. c.looking.groups.items ++ items) c.take_rest.ensures.handed)

pub looking-preserved : goal.looking-preserved
looking-preserved g c =
    let spared = IsSpared (g.C.Core.stalls c.args.core.now) c.args.wakes in
    elim c.if-not-is_passed_over.branch [
      | then-not-is_passed_over+in-Ok+in-Some w ↦ rw w.self-is (rw w.groups-is (rw w.push_reserved.ensures.items (rw w.in-Ok.ensures.items (
          sifts_taken spared c.args.self.now c.looking.self w.take_crowd.new.self c.looking.groups.items c.looking.key c.looking.invariant (inl w.take_crowd.ensures.taken) w.take_crowd.ensures.others
          w.in-Some.group w.take_crowd.ensures.taken w.in-Some.ensures.handed))))
      | then-not-is_passed_over+in-Ok+in_default-take_crowd w ↦ rw w.self-is (rw w.groups-is (rw w.in-Ok.ensures.items (
          sifts_on spared c.args.self.now c.looking.self w.take_crowd.new.self c.looking.groups.items c.looking.key c.looking.invariant (inl w.take_crowd.ensures.taken) w.take_crowd.ensures.others
          (w.take_crowd.ensures.taken ∙ w.in_default-take_crowd.ensures.handed))))
      | else-not-is_passed_over w ↦ rw w.self-is (rw w.groups-is (
          sifts_on spared c.args.self.now c.looking.self c.looking.self c.looking.groups.items c.looking.key c.looking.invariant (w.if-not-is_passed_over.ensures refl) (λ key. inl refl) refl))
    ]

pub returns : goal.returns
returns g c =
    sifted_all (g.C.Core.stalls c.args.core.now) c.args.wakes c.requires c.args.self.now c.looking.self c.looking.groups.items _ c.looking.key c.looking.invariant
    (omega (arith, c.looking-test.false, c.len.ensures, ap length c.self-in-looking.view_is)) (ap (λ items. c.looking.groups.items ++ items) c.new.ensures.items)
