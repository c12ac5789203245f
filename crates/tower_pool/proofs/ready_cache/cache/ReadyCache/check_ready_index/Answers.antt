use Rattle.std.proofs.Common.{All, rules, ℕ, ◌||◌, Err, is_some, refl, sym, ap, subst, ◌∙◌, arith}
use Rattle.futures.specs.declared.task.Poll.TheVariants.{Ready}
use Rattle.futures.specs.Task.{Hears}
use Rattle.tower_pool.specs.ReadyCache.{Askable, HeardFrom, Sound, is_pending, put_back, pending_entry}
use Rattle.tower_pool.proofs.NeedsLemmas.{heard_back, heard_kept}
use Rattle.tower_pool.specs.Pending.{knows}
use Rattle.indexmap.specs.IndexMap.{set_value_at}
use Rattle.tower_pool.proofs.CacheLemmas.{checked_of, same_view}
use Rattle.tower_pool.proofs.KeptLemmas.{kept_back, kept_left, kept_lent, known_at, known_written}
use Rattle.tower_pool.proofs.PlaceLemmas.{All-swap_remove, All-written, at_written, for_some, inside, one_less, swap_written, taken, within}
use Rattle.tower_pool.proofs.PendingLemmas.{All-put_back}
use Rattle.tower_pool.proofs.StirsLemmas.{quiet_at}
use Rattle.tower_pool.proofs.ready_cache.cache.ReadyCache.check_ready_index.Goals as goal

pub invariant_of-self : goal.invariant_of-self
invariant_of-self g c = kept_lent g.K.PartialEq.eq g.met.K.Eq.laws g.K.Clone.is_clone c.self.inside.ready.entries c.self.inside.pending.items (knows g.K.PartialEq.eq c.self.inside.pending) c.self.inside.pending.room c.self.invariant c.args.index c.poll_ready.new.self

pub unwrap-key-requires : goal.unwrap-key-requires
unwrap-key-requires g c =
    ap is_some (c.swap_remove_index.ensures.entry ∙ at_written _ c.args.index _ _ c.poll_ready.new.self c.pair_mut-service.ensures.value)

pub invariant_of-self-in-Ready-Err : goal.invariant_of-self-in-Ready-Err
invariant_of-self-in-Ready-Err g c =
    let u = c.unwrap-key.result in
    kept_left g.K.PartialEq.eq g.met.K.Eq.laws g.K.Clone.is_clone (set_value_at c.self.inside.ready.entries c.args.index c.poll_ready.new.self) c.self.inside.pending.items (knows g.K.PartialEq.eq c.self.inside.pending) c.self.inside.pending.room
    (kept_lent g.K.PartialEq.eq g.met.K.Eq.laws g.K.Clone.is_clone c.self.inside.ready.entries c.self.inside.pending.items (knows g.K.PartialEq.eq c.self.inside.pending) c.self.inside.pending.room c.self.invariant c.args.index c.poll_ready.new.self) u.0
    c.swap_remove_index.new.self.entries (for_some _ u _ c.unwrap-key.ensures c.swap_remove_index.ensures.updates).0 c.let_go.new.self.items (knows g.K.PartialEq.eq c.let_go.new.self) c.let_go.new.self.room c.let_go.ensures.room
    (omega (arith, one_less _ _ _ _ c.unwrap-key.ensures c.swap_remove_index.ensures.len)) c.let_go.ensures.items c.let_go.ensures.knows

pub unwrap-key-requires-in-Pending : goal.unwrap-key-requires-in-Pending
unwrap-key-requires-in-Pending g c =
    ap is_some (c.swap_remove_index-in-Pending.ensures.entry ∙ at_written _ c.args.index _ _ c.poll_ready.new.self c.pair_mut-service.ensures.value)

pub put_back-requires-clause-known : goal.put_back-requires-clause-known
put_back-requires-clause-known g c =
    let u = c.unwrap-key-in-Pending.result in
    let there = sym c.swap_remove_index-in-Pending.ensures.entry ∙ c.unwrap-key-in-Pending.ensures in
    c.self.invariant.known u.0 ∙ (λ j. (sym (known_written (g.K.PartialEq.eq u.0) c.self.inside.ready.entries c.args.index c.poll_ready.new.self) ∙ known_at g.K.PartialEq.eq g.met.K.Eq.laws _ c.args.index u.0 u.1 there) j || is_pending g.K.PartialEq.eq u.0 c.self.inside.pending.items)

pub invariant_of-self-in-Pending : goal.invariant_of-self-in-Pending
invariant_of-self-in-Pending g c =
    let u = c.unwrap-key-in-Pending.result in
    let there = sym c.swap_remove_index-in-Pending.ensures.entry ∙ c.unwrap-key-in-Pending.ensures in
    kept_back g.K.PartialEq.eq g.met.K.Eq.laws g.K.Clone.is_clone (set_value_at c.self.inside.ready.entries c.args.index c.poll_ready.new.self) c.self.inside.pending.items (knows g.K.PartialEq.eq c.self.inside.pending) c.self.inside.pending.room
    (kept_lent g.K.PartialEq.eq g.met.K.Eq.laws g.K.Clone.is_clone c.self.inside.ready.entries c.self.inside.pending.items (knows g.K.PartialEq.eq c.self.inside.pending) c.self.inside.pending.room c.self.invariant c.args.index c.poll_ready.new.self) u.0
    c.swap_remove_index-in-Pending.new.self.entries (for_some _ u _ c.unwrap-key-in-Pending.ensures c.swap_remove_index-in-Pending.ensures.updates).0 c.put_back.new.self.items (knows g.K.PartialEq.eq c.put_back.new.self) c.put_back.new.self.room c.put_back.ensures.room
    u.1 (one_less _ _ _ _ c.unwrap-key-in-Pending.ensures c.swap_remove_index-in-Pending.ensures.len)
    (known_at g.K.PartialEq.eq g.met.K.Eq.laws _ c.args.index u.0 u.1 there)
    c.put_back.ensures.items c.put_back.ensures.knows

pub returns-in-Ready-Ok-clause-checked : goal.returns-in-Ready-Ok-clause-checked
returns-in-Ready-Ok-clause-checked g c =
    let came = rw c.in-Ready-Ok.field-0-is at c.in-Ready-Ok.ensures.polled in
    checked_of g.K.PartialEq.eq g.S.Service _ _ (ap (λ v. v.lists) c.self.view_is) c.args.index _ _ _ _ c.poll_ready.new.self c.pair_mut-service.ensures.value came (refl, refl)

pub returns-in-Ready-Ok-clause-ready : goal.returns-in-Ready-Ok-clause-ready
returns-in-Ready-Ok-clause-ready g c = λ e.
    let came = rw c.in-Ready-Ok.field-0-is at c.in-Ready-Ok.ensures.polled in
    (_, at_written _ c.args.index _ _ c.poll_ready.new.self c.pair_mut-service.ensures.value, g.met.S.Service.readies _ _ came)

pub returns-in-Ready-Ok-clause-sound : goal.returns-in-Ready-Ok-clause-sound
returns-in-Ready-Ok-clause-sound g c =
    let s = subst (λ v. Sound g.S.Service.sound v.lists) (sym c.self.view_is) c.requires in
    record { ready = All-written g.S.Service.sound _ _ _ c.poll_ready.ensures.sound s.ready; pending = s.pending }

pub returns-in-Ready-Err-clause-checked : goal.returns-in-Ready-Err-clause-checked
returns-in-Ready-Err-clause-checked g c =
    let es = c.self.inside.ready.entries in
    let w = c.poll_ready.new.self in
    let at = c.pair_mut-service.ensures.value in
    let k = c.pair_mut-service.result.0.now in
    let v = c.pair_mut-service.result.1.now in
    let came : g.S.Service.polled v (Ready (Err c.in-Ready-Err.error)) w = search rules in
    let there = sym c.swap_remove_index.ensures.entry ∙ c.unwrap-key.ensures in
    let is = taken _ c.args.index _ c.unwrap-key.result (at_written es c.args.index k v w at) there in
    let out = for_some _ c.unwrap-key.result _ c.unwrap-key.ensures c.swap_remove_index.ensures.entries in
    (checked_of g.K.PartialEq.eq g.S.Service _ _ (ap (λ v. v.lists) c.self.view_is) c.args.index _ _ (k, v) _ w at came
    ((λ j. Err (record { 0 = (is j).0; 1 = c.in-Ready-Err.error })), same_view _ _ _ _ (out ∙ swap_written es c.args.index w _ (k, v) (within es c.args.index _ at)) c.let_go.ensures.items))

pub returns-in-Ready-Err-clause-sound : goal.returns-in-Ready-Err-clause-sound
returns-in-Ready-Err-clause-sound g c =
    let s = subst (λ v. Sound g.S.Service.sound v.lists) (sym c.self.view_is) c.requires in
    let there = sym c.swap_remove_index.ensures.entry ∙ c.unwrap-key.ensures in
    record {
      ready = subst (All (λ e. g.S.Service.sound e.1)) (sym (for_some _ c.unwrap-key.result _ c.unwrap-key.ensures c.swap_remove_index.ensures.entries))
          (All-swap_remove (λ e. g.S.Service.sound e.1) _ _ _ (inside _ _ _ there) (All-written g.S.Service.sound _ _ _ c.poll_ready.ensures.sound s.ready));
      pending = subst (All (Askable g.S.Service.sound)) (sym c.let_go.ensures.items) s.pending;
    }

pub returns-in-Pending-clause-checked : goal.returns-in-Pending-clause-checked
returns-in-Pending-clause-checked g c =
    let es = c.self.inside.ready.entries in
    let w = c.poll_ready.new.self in
    let at = c.pair_mut-service.ensures.value in
    let k = c.pair_mut-service.result.0.now in
    let v = c.pair_mut-service.result.1.now in
    let u = c.unwrap-key-in-Pending.result in
    let there = sym c.swap_remove_index-in-Pending.ensures.entry ∙ c.unwrap-key-in-Pending.ensures in
    let is = taken _ c.args.index _ u (at_written es c.args.index k v w at) there in
    let out = for_some _ u _ c.unwrap-key-in-Pending.ensures c.swap_remove_index-in-Pending.ensures.entries in
    (checked_of g.K.PartialEq.eq g.S.Service _ _ (ap (λ v. v.lists) c.self.view_is) c.args.index _ _ (k, v) _ w at c.in-Pending.ensures.polled (
      refl,
      same_view _ _ _ _ (out ∙ swap_written es c.args.index w _ (k, v) (within es c.args.index _ at))
          (c.put_back.ensures.items ∙ ap (λ p. put_back g.K.PartialEq.eq p.0 p.1 c.self.inside.pending.items) is),
    ))

pub returns-in-Pending-clause-sound : goal.returns-in-Pending-clause-sound
returns-in-Pending-clause-sound g c =
    let s = subst (λ v. Sound g.S.Service.sound v.lists) (sym c.self.view_is) c.requires in
    let es = c.self.inside.ready.entries in
    let w = c.poll_ready.new.self in
    let there = sym c.swap_remove_index-in-Pending.ensures.entry ∙ c.unwrap-key-in-Pending.ensures in
    let is = taken _ c.args.index _ c.unwrap-key-in-Pending.result (at_written es c.args.index _ _ w c.pair_mut-service.ensures.value) there in
    record {
      ready = subst (All (λ e. g.S.Service.sound e.1)) (sym (for_some _ c.unwrap-key-in-Pending.result _ c.unwrap-key-in-Pending.ensures c.swap_remove_index-in-Pending.ensures.entries))
          (All-swap_remove (λ e. g.S.Service.sound e.1) _ _ _ (inside _ _ _ there) (All-written g.S.Service.sound _ _ _ c.poll_ready.ensures.sound s.ready));
      pending = subst (All (Askable g.S.Service.sound)) (sym c.put_back.ensures.items)
          (All-put_back _ g.met.K.Eq.laws g.S.Service.sound _ _ _ (subst (λ p. g.S.Service.sound p.1) (sym is) c.poll_ready.ensures.sound) s.pending);
    }

pub returns-in-Ready-Ok-clause-heard : goal.returns-in-Ready-Ok-clause-heard
returns-in-Ready-Ok-clause-heard g c = λ h.
    let needs = g.S.Service.needs in
    heard_kept needs _ _ c.poll_ready.ensures.kept 0 _ (subst (λ v. HeardFrom needs c.args.cx.now 0 v.lists.pending) (sym c.self.view_is) h)

pub returns-in-Ready-Err-clause-heard : goal.returns-in-Ready-Err-clause-heard
returns-in-Ready-Err-clause-heard g c = λ h.
    let needs = g.S.Service.needs in
    subst (HeardFrom needs _ 0) (sym c.let_go.ensures.items)
    (heard_kept needs _ _ c.poll_ready.ensures.kept 0 _ (subst (λ v. HeardFrom needs c.args.cx.now 0 v.lists.pending) (sym c.self.view_is) h))

pub returns-in-Pending-clause-heard : goal.returns-in-Pending-clause-heard
returns-in-Pending-clause-heard g c = λ h.
    let needs = g.S.Service.needs in
    let es = c.self.inside.ready.entries in
    let w = c.poll_ready.new.self in
    let u = c.unwrap-key-in-Pending.result in
    let there = sym c.swap_remove_index-in-Pending.ensures.entry ∙ c.unwrap-key-in-Pending.ensures in
    let is = taken _ c.args.index _ u (at_written es c.args.index _ _ w c.pair_mut-service.ensures.value) there in
    subst (HeardFrom needs _ 0) (sym c.put_back.ensures.items)
    (heard_back needs _ _ c.poll_ready.ensures.kept (is_pending g.K.PartialEq.eq u.0 c.self.inside.pending.items) c.self.inside.pending.items (pending_entry u.0 u.1)
    (subst (λ p. (source : ℕ) → needs p.1 source → Hears c.poll_ready.new.cx source) (sym is) c.in-Pending.ensures.heard)
    (subst (λ v. HeardFrom needs c.args.cx.now 0 v.lists.pending) (sym c.self.view_is) h))

pub returns-in-Pending-clause-quiet : goal.returns-in-Pending-clause-quiet
returns-in-Pending-clause-quiet g c = quiet_at g.S.Service.stirs _ _ (ap (λ v. v.lists) c.self.view_is) c.args.index _ c.poll_ready.new.self c.pair_mut-service.ensures.value c.poll_ready.ensures.quiet

pub returns-in-Ready-Ok-clause-quiet : goal.returns-in-Ready-Ok-clause-quiet
returns-in-Ready-Ok-clause-quiet g c = quiet_at g.S.Service.stirs _ _ (ap (λ v. v.lists) c.self.view_is) c.args.index _ c.poll_ready.new.self c.pair_mut-service.ensures.value c.poll_ready.ensures.quiet

pub returns-in-Ready-Err-clause-quiet : goal.returns-in-Ready-Err-clause-quiet
returns-in-Ready-Err-clause-quiet g c = quiet_at g.S.Service.stirs _ _ (ap (λ v. v.lists) c.self.view_is) c.args.index _ c.poll_ready.new.self c.pair_mut-service.ensures.value c.poll_ready.ensures.quiet
