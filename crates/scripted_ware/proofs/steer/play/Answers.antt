use Rattle.tower_ware.specs.SteerLemmas.{cloned_sound}
use Rattle.scripted_ware.proofs.steer.play.Goals as goal

-- A clone of the steer is sound, since clones of its parts are.
pub play-requires-clause-clones : goal.play-requires-clause-clones
play-requires-clause-clones c =
    λ x y cloned sound. cloned_sound _ _ _ _ _ (λ p q same h. tt) (λ p q same h. tt) x y cloned sound
