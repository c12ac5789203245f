-- What a `ReadyCache` ends as, if a `&mut` to one of its ready services was returned.
use Rattle.std.specs.Prelude.{ℕ, Option}
use Rattle.std.specs.Borrow.{Fml, RattleType, MutBor, LendsIf}
use Rattle.std.specs.Option.{option_map_or}
use Rattle.std.specs.declared.clone.Clone.{Ghosts as CloneOf}
use Rattle.indexmap.specs.IndexMap.{set_value_at}
use Rattle.std.specs.HashMap.Lent.{HashMembers}
use Rattle.tower_pool.specs.ReadyCache.{CountedView}
use Rattle.tower_pool.specs.contracts.ready_cache.cache.ReadyCache.{the_row}

-- c, with w as the ready service at the index, if there is one
abbrev pub with_ready_at : {K S : Type 0} → CountedView K S → Option ℕ → S → CountedView K S
with_ready_at c i w = record c { lists = record c.lists { ready = option_map_or (λ i. set_value_at c.lists.ready i w) i c.lists.ready } }

-- When the loan `r` ends, its last value is the ready service of `c` at the index. If nothing was lent (`None`), `c` is unchanged. `key` and `clone`
-- are what the key's `Hash`, with its `Eq`, and its `Clone` say.
abbrev pub LendsReady : (K S Q : RattleType) → HashMembers K.Denot → CloneOf K.Denot → MutBor (CountedView K.Denot S.Denot) → Option ℕ → Option (MutBor S.Denot) → Fml
LendsReady K S Q key clone c i r = LendsIf (the_row K S Q (record { eq = key.eq }) (record { hash_input = key.hash_input }) clone) S c r (with_ready_at c.now i) c.now
