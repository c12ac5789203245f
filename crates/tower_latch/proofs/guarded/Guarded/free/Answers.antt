use Rattle.std.proofs.Common.{◌≡◌, ap, sym, subst, ◌∙◌}
use Rattle.tower_latch.specs.CoreTable.{MayFree}
use Rattle.tower_latch.proofs.guarded.Guarded.free.Goals as goal

pub free-requires : goal.free-requires
free-requires g c = record {
  its = c.requires.its ∙ ap (λ v. v.table) (sym c.self.view_is) ∙ sym (ap (λ t. t.table.shared.table_id) c.deref.ensures);
  has = c.requires.has;
  core = subst (λ n. MayFree (λ k. g.C.Core.terms k.core ≡ n) (λ k. g.C.Core.out k.core) c.args.seat.me) (sym (ap (λ t. t.table.shared.key) c.deref.ensures ∙ ap (λ v. v.terms) c.self.view_is)) c.requires.core;
}

pub returns : goal.returns
returns g c = record {
  its = c.free.ensures.its ∙ ap (λ t. t.table.shared.table_id) c.deref.ensures ∙ ap (λ v. v.table) c.self.view_is;
  left = c.free.ensures.left;
}
