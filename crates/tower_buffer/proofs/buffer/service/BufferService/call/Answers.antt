use Rattle.std.proofs.Common.{rules, ◌≡◌, Some, None, IsSome, Option, refl}
use Rattle.tower_buffer.proofs.buffer.service.BufferService.call.Goals as goal

there : {L : Type 0} → (share : Option L) → IsSome share → (x : L) × (share ≡ Some x)
there (Some x) h = (x, refl)
there None h = absurd (cc h)

-- src/buffer/service.rt:132:5
pub returns-in-Failed-clause-called : goal.returns-in-Failed-clause-called
returns-in-Failed-clause-called g c =
    let kept = there c.self.inside.share (c.self.invariant (search rules)) in
    record { reserved = search rules; share = kept.0; has = search rules; reply = c.step.result; gave_reply = search rules; sends = search rules }

-- src/buffer/service.rt:132:5
pub returns-in-Closed-clause-called : goal.returns-in-Closed-clause-called
returns-in-Closed-clause-called g c =
    let kept = there c.self.inside.share (c.self.invariant (search rules)) in
    record { reserved = search rules; share = kept.0; has = search rules; reply = c.step.result; gave_reply = search rules; sends = search rules }

-- src/buffer/service.rt:132:5
pub returns-in-Memory-clause-called : goal.returns-in-Memory-clause-called
returns-in-Memory-clause-called g c =
    let kept = there c.self.inside.share (c.self.invariant (search rules)) in
    record { reserved = search rules; share = kept.0; has = search rules; reply = c.step.result; gave_reply = search rules; sends = search rules }
