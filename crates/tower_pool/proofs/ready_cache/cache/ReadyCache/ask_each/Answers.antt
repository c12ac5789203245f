use Rattle.std.proofs.Common.{rules, suc, ◌≡◌, ◌<◌, ◌-◌, ◌∙◌, Ok, Err, true, false, true≢false, inl, ap, sym, subst, refl, arith}
use Rattle.tower_pool.specs.declared.ready_cache.error.Error.TheVariants.{Memory}
use Rattle.tower_pool.specs.ReadyCachePoll.{PolledFirst}
use Rattle.tower_pool.specs.Pending.{cache_of}
use Rattle.tower_pool.proofs.KeptLemmas.{kept_rotated}
use Rattle.tower_pool.specs.ReadyCache.{HeardFrom}
use Rattle.tower_pool.proofs.AskLemmas.{Asking, asking_begins, asking_left, asking_stops, asking_waits, sound_rotated, when_ok}
use Rattle.tower_pool.proofs.NeedsLemmas.{heard_none}
use Rattle.tower_pool.proofs.StirsLemmas.{quiet_then}
use Rattle.tower_pool.proofs.ready_cache.cache.ReadyCache.ask_each.Goals as goal

pub loop-left-init : goal.loop-left-init
loop-left-init g c =
    let old = cache_of c.args.ready.now.entries c.args.pending.now in
    record {
      held = c.requires.held;
      asking = subst (λ n. Asking g.K.PartialEq.eq g.S.Service old old n false) (sym c.len-left.ensures.len) (asking_begins g.K.PartialEq.eq g.S.Service old);
      sound = c.requires.sound;
      armed = λ e. absurd (true≢false (sym e));
      heard = λ source need. absurd (heard_none g.S.Service.needs _ c.len-left.result (omega (arith, c.len-left.ensures.len)) source need);
      quiet = inl;
      kept = λ fact h. h;
      used = omega (arith, c.len-left.ensures.len);
      touches = omega (arith, c.len-left.ensures.len);
    }

pub loop-left-preserved-in-Ok-true : goal.loop-left-preserved-in-Ok-true
loop-left-preserved-in-Ok-true g c =
    let old = cache_of c.args.ready.now.entries c.args.pending.now in
    let was = cache_of c.loop-left.ready.entries c.loop-left.pending in
    let now = cache_of c.ask.new.ready.entries c.ask.new.pending in
    let some : 0 < c.loop-left.left = search rules in
    let n = c.loop-left.left - 1 in
    let e : c.loop-left.left ≡ suc n = omega (arith, some) in
    let h : Asking g.K.PartialEq.eq g.S.Service old was (suc n) c.loop-left.waits = subst (λ m. Asking g.K.PartialEq.eq g.S.Service old was m c.loop-left.waits) e c.loop-left.invariant.asking in
    let is : c.ask.result ≡ Ok true = c.in-Ok-true.is ∙ ap Ok c.in-Ok-true.field-0-test in
    let turn : PolledFirst g.K.PartialEq.eq g.S.Service was (Ok true) now = rw is at c.ask.ensures.polled in
    record {
      held = c.ask.ensures.held;
      asking = asking_waits g.K.PartialEq.eq g.S.Service old was now n c.loop-left.waits h turn;
      sound = c.ask.ensures.sound;
      armed = λ _. c.ask.ensures.armed is;
      heard = when_ok c.ask.result true _ is c.ask.ensures.heard n (subst (λ m. HeardFrom g.S.Service.needs c.loop-left.cx m c.loop-left.pending.items) e c.loop-left.invariant.heard);
      quiet = quiet_then (λ h. h) (λ h. h) c.loop-left.invariant.quiet c.ask.ensures.quiet;
      kept = λ fact h. c.ask.ensures.kept fact (c.loop-left.invariant.kept fact h);
      used = omega (arith, c.ask.ensures.used, c.loop-left.invariant.used, e);
      touches = omega (arith, c.ask.ensures.touches, c.loop-left.invariant.touches, e);
    }

pub loop-left-preserved : goal.loop-left-preserved
loop-left-preserved g c =
    let old = cache_of c.args.ready.now.entries c.args.pending.now in
    let was = cache_of c.loop-left.ready.entries c.loop-left.pending in
    let now = cache_of c.ask.new.ready.entries c.ask.new.pending in
    let some : 0 < c.loop-left.left = search rules in
    let n = c.loop-left.left - 1 in
    let e : c.loop-left.left ≡ suc n = omega (arith, some) in
    let h : Asking g.K.PartialEq.eq g.S.Service old was (suc n) c.loop-left.waits = subst (λ m. Asking g.K.PartialEq.eq g.S.Service old was m c.loop-left.waits) e c.loop-left.invariant.asking in
    let is : c.ask.result ≡ Ok false = c.in-Ok-false.is ∙ ap Ok c.in-Ok-false.field-0-test in
    let turn : PolledFirst g.K.PartialEq.eq g.S.Service was (Ok false) now = rw is at c.ask.ensures.polled in
    record {
      held = c.ask.ensures.held;
      asking = asking_left g.K.PartialEq.eq g.S.Service old was now n c.loop-left.waits h turn;
      sound = c.ask.ensures.sound;
      armed = λ w. c.ask.ensures.kept _ (c.loop-left.invariant.armed w);
      heard = when_ok c.ask.result false _ is c.ask.ensures.heard n (subst (λ m. HeardFrom g.S.Service.needs c.loop-left.cx m c.loop-left.pending.items) e c.loop-left.invariant.heard);
      quiet = quiet_then (λ h. h) (λ h. h) c.loop-left.invariant.quiet c.ask.ensures.quiet;
      kept = λ fact h. c.ask.ensures.kept fact (c.loop-left.invariant.kept fact h);
      used = omega (arith, c.ask.ensures.used, c.loop-left.invariant.used, e);
      touches = omega (arith, c.ask.ensures.touches, c.loop-left.invariant.touches, e);
    }

pub returns-in-Err-clause-polled : goal.returns-in-Err-clause-polled
returns-in-Err-clause-polled g c =
    let old = cache_of c.args.ready.now.entries c.args.pending.now in
    let was = cache_of c.loop-left.ready.entries c.loop-left.pending in
    let now = cache_of c.ask.new.ready.entries c.ask.new.pending in
    let some : 0 < c.loop-left.left = search rules in
    let n = c.loop-left.left - 1 in
    let e : c.loop-left.left ≡ suc n = omega (arith, some) in
    let h : Asking g.K.PartialEq.eq g.S.Service old was (suc n) c.loop-left.waits = subst (λ m. Asking g.K.PartialEq.eq g.S.Service old was m c.loop-left.waits) e c.loop-left.invariant.asking in
    asking_stops g.K.PartialEq.eq g.S.Service old was now n c.loop-left.waits h c.in-Err.error (cache_of c.ask.new.ready.entries c.rotate.new.self) c.in-Err.ensures.polled refl c.rotate.ensures.items

pub returns-in-Err-clause-held : goal.returns-in-Err-clause-held
returns-in-Err-clause-held g c =
    kept_rotated g.K.PartialEq.eq g.met.K.Eq.laws g.K.Clone.is_clone c.ask.new.ready.entries c.ask.new.pending.items _ _ c.ask.ensures.held _ c.rotate.new.self.items _ _ c.rotate.ensures.items c.rotate.ensures.knows c.rotate.ensures.room

pub returns-in-Err-clause-sound : goal.returns-in-Err-clause-sound
returns-in-Err-clause-sound g c =
    sound_rotated g.S.Service.sound c.ask.new.ready.entries c.ask.new.ready.entries c.ask.new.pending.items c.rotate.new.self.items _ refl c.rotate.ensures.items c.ask.ensures.sound

pub returns-in-Err-clause-touches : goal.returns-in-Err-clause-touches
returns-in-Err-clause-touches g c =
    let some : 0 < c.loop-left.left = search rules in
    omega (arith, some, c.ask.ensures.touches, c.loop-left.invariant.touches, c.rotate.ensures.touches)

pub returns-in-Err-clause-full : goal.returns-in-Err-clause-full
returns-in-Err-clause-full g c = λ is.
    let some : 0 < c.loop-left.left = search rules in
    let memory : c.in-Err.error ≡ Memory = cc is in
    let full = c.ask.ensures.full (c.in-Err.is ∙ ap Err memory) in
    omega (arith, some, full, c.loop-left.invariant.used)

pub returns-in-Err-clause-quiet : goal.returns-in-Err-clause-quiet
returns-in-Err-clause-quiet g c = quiet_then (λ h. h) (λ h. h) c.loop-left.invariant.quiet c.ask.ensures.quiet
