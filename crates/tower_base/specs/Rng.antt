-- The words of `HasherRng`.
use Rattle.std.specs.Prelude.{◌≡◌, ℕ, ◌+◌, ◌%◌, ◌^◌, fold}
use Rattle.std.specs.Hash.{u64}
use Rattle.std.specs.Hash.BuildHasherDefault.{initial_hasher}
use Rattle.std.specs.Hash.FoldHasher.{initial}
use Rattle.std.specs.declared.hash.BuildHasherDefault.{BuildHasherDefault}
use Rattle.std.specs.declared.hash.FoldHasher.{FoldHasher}
use Rattle.std.specs.declared.hash.Hasher.{Ghosts as HasherOf}
use Rattle.std.specs.declared.hash.BuildHasher.{Ghosts as BuildHasherOf}

-- what contracts see of a `HasherRng`
pub record HasherRngView (H : Type 0) : Type 0 where
  pub hasher : H
  pub counter : ℕ

-- The generator has the default hasher of a `HashMap`, and hasn't made a word yet.
pub record New (rng : HasherRngView (BuildHasherDefault FoldHasher)) : Type 0 where
  pub hasher : initial_hasher rng.hasher ≡ initial
  pub counter : rng.counter ≡ 0

-- the builder's hash of a 64-bit number
abbrev pub hash_of : {H S : Type 0} → BuildHasherOf H S → HasherOf S → H → ℕ → ℕ
hash_of b h hasher counter = h.finish (fold h.write (b.build_hasher hasher) (u64 counter))

-- A word is the hash of the counter, which goes up by one and wraps.
pub record Word {H S : Type 0} (b : BuildHasherOf H S) (h : HasherOf S) (old : HasherRngView H) (word : ℕ) (new : HasherRngView H) : Type 0 where
  pub hashed : word ≡ hash_of b h old.hasher old.counter
  pub hasher : new.hasher ≡ old.hasher
  pub counter : new.counter ≡ (old.counter + 1) % 2 ^ 64
