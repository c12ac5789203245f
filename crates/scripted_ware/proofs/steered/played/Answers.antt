use Rattle.tower_ware.specs.SteerLemmas.{cloned_sound}
use Rattle.scripted_ware.proofs.steered.played.Goals as goal

-- A clone of the steer is sound, since every service is.
pub play-requires-clause-clones : goal.play-requires-clause-clones
play-requires-clause-clones g c =
    λ x y cloned sound. cloned_sound _ _ _ _ _ (λ p q same h. tt) (λ p q same h. c.requires.sound q) x y cloned sound
