use Rattle.std.proofs.Common.{rules, ◌≡◌, ◌∙◌, [], ◌∷◌, ◌++◌, Ok, Err, ◌&&◌, ◌||◌, not, is_some, cond, Some, true, false, ap, sym, refl, arith}
use Rattle.std.specs.Map.{lookup}
use Rattle.std.specs.Option.{option_map_or}
use Rattle.futures.specs.declared.task.Poll.TheVariants.{Ready}
use Rattle.tower_pool.specs.declared.ready_cache.error.Error.TheVariants.{Failed}
use Rattle.indexmap.specs.IndexMap.{insert_entry}
use Rattle.tower_pool.specs.ReadyCache.{is_pending}
use Rattle.tower_pool.specs.Pending.{cache_of, entry_of, knows}
use Rattle.tower_pool.proofs.AskLemmas.{asked_by, sound_first, sound_gone, sound_last, sound_ready, when_ok}
use Rattle.tower_pool.proofs.CacheLemmas.{same_view}
use Rattle.tower_pool.proofs.NeedsLemmas.{heard_gone, heard_waits}
use Rattle.tower_pool.proofs.StirsLemmas.{quiet_ever}
use Rattle.tower_pool.proofs.KeptLemmas.{kept_dropped, kept_failed, kept_inserted, kept_last}
use Rattle.tower_pool.proofs.ready_cache.cache.ReadyCache.ask.Goals as goal

pub returns-then-is_cancelled-clause-held : goal.returns-then-is_cancelled-clause-held
returns-then-is_cancelled-clause-held g c =
    let q = entry_of c.unwrap-key.result in
    let mid = c.take_first.new.self.items in
    let take = c.take_first.ensures.items ∙ ap (λ r. option_map_or (λ e. entry_of e ∷ c.take_first.new.self.items) r []) c.unwrap-key.ensures in
    let gone : q.cancelled ≡ true = search rules in
    kept_dropped g.K.PartialEq.eq g.met.K.Eq.laws g.K.Clone.is_clone c.args.ready.now.entries c.args.pending.now.items (knows g.K.PartialEq.eq c.args.pending.now) c.args.pending.now.room c.requires.held q mid take
    c.args.ready.now.entries mid (knows g.K.PartialEq.eq c.take_first.new.self) c.take_first.new.self.room c.take_first.ensures.room gone refl refl c.take_first.ensures.knows

pub returns-then-is_err-clause-held : goal.returns-then-is_err-clause-held
returns-then-is_err-clause-held g c =
    let q = entry_of c.unwrap-key.result in
    let mid = c.take_first.new.self.items in
    let take = c.take_first.ensures.items ∙ ap (λ r. option_map_or (λ e. entry_of e ∷ c.take_first.new.self.items) r []) c.unwrap-key.ensures in
    let alive : q.cancelled ≡ false = search rules in
    kept_last g.K.PartialEq.eq g.met.K.Eq.laws g.K.Clone.is_clone c.args.ready.now.entries c.args.pending.now.items (knows g.K.PartialEq.eq c.args.pending.now) c.args.pending.now.room c.requires.held q mid take
    c.reserve.new.self.entries c.append.new.self.items (knows g.K.PartialEq.eq c.append.new.self) c.append.new.self.room (c.append.ensures.room ∙ c.take_first.ensures.room)
    (entry_of (q.key, q.service, false)) refl (sym alive) c.reserve.ensures.entries c.append.ensures.items (λ k. c.append.ensures.knows k ∙ c.take_first.ensures.knows k)

pub returns-in-Pending-clause-held : goal.returns-in-Pending-clause-held
returns-in-Pending-clause-held g c =
    let q = entry_of c.unwrap-key.result in
    let mid = c.take_first.new.self.items in
    let take = c.take_first.ensures.items ∙ ap (λ r. option_map_or (λ e. entry_of e ∷ c.take_first.new.self.items) r []) c.unwrap-key.ensures in
    let alive : q.cancelled ≡ false = search rules in
    kept_last g.K.PartialEq.eq g.met.K.Eq.laws g.K.Clone.is_clone c.args.ready.now.entries c.args.pending.now.items (knows g.K.PartialEq.eq c.args.pending.now) c.args.pending.now.room c.requires.held q mid take
    c.reserve.new.self.entries c.append-in-Pending.new.self.items (knows g.K.PartialEq.eq c.append-in-Pending.new.self) c.append-in-Pending.new.self.room (c.append-in-Pending.ensures.room ∙ c.take_first.ensures.room)
    (entry_of (q.key, c.poll_ready.new.self, false)) refl (sym alive) c.reserve.ensures.entries c.append-in-Pending.ensures.items (λ k. c.append-in-Pending.ensures.knows k ∙ c.take_first.ensures.knows k)

pub returns-in-Ready-Ok-clause-held : goal.returns-in-Ready-Ok-clause-held
returns-in-Ready-Ok-clause-held g c =
    let q = entry_of c.unwrap-key.result in
    let mid = c.take_first.new.self.items in
    let take = c.take_first.ensures.items ∙ ap (λ r. option_map_or (λ e. entry_of e ∷ c.take_first.new.self.items) r []) c.unwrap-key.ensures in
    let alive : q.cancelled ≡ false = search rules in
    let eq = g.K.PartialEq.eq in
    let entries = when_ok c.insert.result c.unwrap.result _ c.unwrap.ensures c.insert.ensures.entries in
    let put = when_ok c.insert.result c.unwrap.result _ c.unwrap.ensures c.insert.ensures.updates in
    kept_inserted g.K.PartialEq.eq g.met.K.Eq.laws g.K.Clone.is_clone c.args.ready.now.entries c.args.pending.now.items (knows g.K.PartialEq.eq c.args.pending.now) c.args.pending.now.room c.requires.held q mid take
    c.insert.new.self.entries mid (knows eq c.take_first.new.self) c.take_first.new.self.room c.take_first.ensures.room alive c.poll_ready.new.self
    (entries ∙ (λ j. insert_entry eq (c.reserve.ensures.entries j) q.key c.poll_ready.new.self)) (λ k. put.0 k ∙ (λ j. cond (eq q.key k) (Some c.poll_ready.new.self) (lookup (eq k) (c.reserve.ensures.entries j)))) refl c.take_first.ensures.knows

pub returns-in-Ready-Err-clause-held : goal.returns-in-Ready-Err-clause-held
returns-in-Ready-Err-clause-held g c =
    let q = entry_of c.unwrap-key.result in
    let mid = c.take_first.new.self.items in
    let take = c.take_first.ensures.items ∙ ap (λ r. option_map_or (λ e. entry_of e ∷ c.take_first.new.self.items) r []) c.unwrap-key.ensures in
    let alive : q.cancelled ≡ false = search rules in
    let eq = g.K.PartialEq.eq in
    kept_failed g.K.PartialEq.eq g.met.K.Eq.laws g.K.Clone.is_clone c.args.ready.now.entries c.args.pending.now.items (knows g.K.PartialEq.eq c.args.pending.now) c.args.pending.now.room c.requires.held q mid take
    c.reserve.new.self.entries c.let_go.new.self.items (knows eq c.let_go.new.self) c.let_go.new.self.room (c.let_go.ensures.room ∙ c.take_first.ensures.room) alive c.contains_key.result
    (c.contains_key.ensures ∙ (λ j. is_some (lookup (eq q.key) (c.reserve.ensures.entries j)))) c.reserve.ensures.entries c.let_go.ensures.items
    (λ k. c.let_go.ensures.knows k ∙ (λ j. c.take_first.ensures.knows k j && not (eq q.key k && not (c.contains_key.result || is_pending eq q.key mid))))

pub returns-then-is_cancelled-clause-sound : goal.returns-then-is_cancelled-clause-sound
returns-then-is_cancelled-clause-sound g c =
    let q = entry_of c.unwrap-key.result in
    let mid = c.take_first.new.self.items in
    let take = c.take_first.ensures.items ∙ ap (λ r. option_map_or (λ e. entry_of e ∷ c.take_first.new.self.items) r []) c.unwrap-key.ensures in
    sound_gone g.K.PartialEq.eq g.S.Service.sound _ _ refl c.requires.sound q mid take c.args.ready.now.entries mid refl refl

pub returns-then-is_err-clause-sound : goal.returns-then-is_err-clause-sound
returns-then-is_err-clause-sound g c =
    let q = entry_of c.unwrap-key.result in
    let mid = c.take_first.new.self.items in
    let take = c.take_first.ensures.items ∙ ap (λ r. option_map_or (λ e. entry_of e ∷ c.take_first.new.self.items) r []) c.unwrap-key.ensures in
    let alive : q.cancelled ≡ false = search rules in
    sound_last g.K.PartialEq.eq g.S.Service.sound _ _ refl c.requires.sound q mid take c.reserve.new.self.entries c.append.new.self.items (entry_of (q.key, q.service, false)) c.reserve.ensures.entries (sound_first g.K.PartialEq.eq g.S.Service.sound _ _ refl c.requires.sound q mid take alive) c.append.ensures.items

pub returns-in-Pending-clause-sound : goal.returns-in-Pending-clause-sound
returns-in-Pending-clause-sound g c =
    let q = entry_of c.unwrap-key.result in
    let mid = c.take_first.new.self.items in
    let take = c.take_first.ensures.items ∙ ap (λ r. option_map_or (λ e. entry_of e ∷ c.take_first.new.self.items) r []) c.unwrap-key.ensures in
    sound_last g.K.PartialEq.eq g.S.Service.sound _ _ refl c.requires.sound q mid take c.reserve.new.self.entries c.append-in-Pending.new.self.items (entry_of (q.key, c.poll_ready.new.self, false)) c.reserve.ensures.entries c.poll_ready.ensures.sound c.append-in-Pending.ensures.items

pub returns-in-Ready-Ok-clause-sound : goal.returns-in-Ready-Ok-clause-sound
returns-in-Ready-Ok-clause-sound g c =
    let q = entry_of c.unwrap-key.result in
    let mid = c.take_first.new.self.items in
    let take = c.take_first.ensures.items ∙ ap (λ r. option_map_or (λ e. entry_of e ∷ c.take_first.new.self.items) r []) c.unwrap-key.ensures in
    let entries = when_ok c.insert.result c.unwrap.result _ c.unwrap.ensures c.insert.ensures.entries in
    sound_ready g.K.PartialEq.eq g.S.Service.sound _ _ refl c.requires.sound q mid take c.insert.new.self.entries mid q.key c.poll_ready.new.self c.poll_ready.ensures.sound
    (entries ∙ ap (λ es. insert_entry g.K.PartialEq.eq es q.key c.poll_ready.new.self) c.reserve.ensures.entries) refl

pub returns-in-Ready-Err-clause-sound : goal.returns-in-Ready-Err-clause-sound
returns-in-Ready-Err-clause-sound g c =
    let q = entry_of c.unwrap-key.result in
    let mid = c.take_first.new.self.items in
    let take = c.take_first.ensures.items ∙ ap (λ r. option_map_or (λ e. entry_of e ∷ c.take_first.new.self.items) r []) c.unwrap-key.ensures in
    sound_gone g.K.PartialEq.eq g.S.Service.sound _ _ refl c.requires.sound q mid take c.reserve.new.self.entries c.let_go.new.self.items c.reserve.ensures.entries c.let_go.ensures.items

pub poll_ready-requires : goal.poll_ready-requires
poll_ready-requires g c =
    let q = entry_of c.unwrap-key.result in
    let mid = c.take_first.new.self.items in
    let take = c.take_first.ensures.items ∙ ap (λ r. option_map_or (λ e. entry_of e ∷ c.take_first.new.self.items) r []) c.unwrap-key.ensures in
    let alive : q.cancelled ≡ false = search rules in
    sound_first g.K.PartialEq.eq g.S.Service.sound _ _ refl c.requires.sound q mid take alive

pub returns-in-Pending-clause-polled : goal.returns-in-Pending-clause-polled
returns-in-Pending-clause-polled g c =
    let q = entry_of c.unwrap-key.result in
    let mid = c.take_first.new.self.items in
    let take = c.take_first.ensures.items ∙ ap (λ r. option_map_or (λ e. entry_of e ∷ c.take_first.new.self.items) r []) c.unwrap-key.ensures in
    let alive : q.cancelled ≡ false = search rules in
    let w = c.poll_ready.new.self in
    let was = cache_of c.args.ready.now.entries c.args.pending.now in
    asked_by g.K.PartialEq.eq g.S.Service was was refl q mid take (Ok true) (cache_of c.reserve.new.self.entries c.append-in-Pending.new.self)
    (alive, (w, c.in-Pending.ensures.polled, same_view _ _ _ _ c.reserve.ensures.entries (c.append-in-Pending.ensures.items ∙ (λ j. mid ++ entry_of (q.key, w, sym alive j) ∷ []))))

pub returns-in-Ready-Err-clause-polled : goal.returns-in-Ready-Err-clause-polled
returns-in-Ready-Err-clause-polled g c =
    let q = entry_of c.unwrap-key.result in
    let mid = c.take_first.new.self.items in
    let take = c.take_first.ensures.items ∙ ap (λ r. option_map_or (λ e. entry_of e ∷ c.take_first.new.self.items) r []) c.unwrap-key.ensures in
    let alive : q.cancelled ≡ false = search rules in
    let w = c.poll_ready.new.self in
    let was = cache_of c.args.ready.now.entries c.args.pending.now in
    let came : g.S.Service.polled q.service (Ready (Err c.in-Ready-Err.error)) w = search rules in
    asked_by g.K.PartialEq.eq g.S.Service was was refl q mid take (Err (Failed q.key c.in-Ready-Err.error)) (cache_of c.reserve.new.self.entries c.let_go.new.self)
    (alive, refl, (w, came, same_view _ _ _ _ c.reserve.ensures.entries c.let_go.ensures.items))

pub returns-in-Ready-Ok-clause-used : goal.returns-in-Ready-Ok-clause-used
returns-in-Ready-Ok-clause-used g c = omega (arith, c.reserve.ensures.room.0, c.insert.ensures.spare)

pub returns-then-is_cancelled-clause-heard : goal.returns-then-is_cancelled-clause-heard
returns-then-is_cancelled-clause-heard g c =
    let q = entry_of c.unwrap-key.result in
    let mid = c.take_first.new.self.items in
    let take = c.take_first.ensures.items ∙ ap (λ r. option_map_or (λ e. entry_of e ∷ c.take_first.new.self.items) r []) c.unwrap-key.ensures in
    λ n. heard_gone g.S.Service.needs _ _ (λ fact h. h) n _ q mid take

pub returns-in-Pending-clause-heard : goal.returns-in-Pending-clause-heard
returns-in-Pending-clause-heard g c =
    let q = entry_of c.unwrap-key.result in
    let mid = c.take_first.new.self.items in
    let take = c.take_first.ensures.items ∙ ap (λ r. option_map_or (λ e. entry_of e ∷ c.take_first.new.self.items) r []) c.unwrap-key.ensures in
    λ n. heard_waits g.S.Service.needs _ _ c.poll_ready.ensures.kept n _ q mid _ (entry_of (q.key, c.poll_ready.new.self, false)) take c.append-in-Pending.ensures.items c.in-Pending.ensures.heard

pub returns-in-Ready-Ok-clause-heard : goal.returns-in-Ready-Ok-clause-heard
returns-in-Ready-Ok-clause-heard g c =
    let q = entry_of c.unwrap-key.result in
    let mid = c.take_first.new.self.items in
    let take = c.take_first.ensures.items ∙ ap (λ r. option_map_or (λ e. entry_of e ∷ c.take_first.new.self.items) r []) c.unwrap-key.ensures in
    λ n. heard_gone g.S.Service.needs _ _ c.poll_ready.ensures.kept n _ q mid take

pub returns-in-Pending-clause-quiet : goal.returns-in-Pending-clause-quiet
returns-in-Pending-clause-quiet g c = quiet_ever g.S.Service.stirs _ _ c.poll_ready.ensures.quiet

pub returns-in-Ready-Ok-clause-quiet : goal.returns-in-Ready-Ok-clause-quiet
returns-in-Ready-Ok-clause-quiet g c = quiet_ever g.S.Service.stirs _ _ c.poll_ready.ensures.quiet

pub returns-in-Ready-Err-clause-quiet : goal.returns-in-Ready-Err-clause-quiet
returns-in-Ready-Err-clause-quiet g c = quiet_ever g.S.Service.stirs _ _ c.poll_ready.ensures.quiet
