-- What contracts see of a `Links`.
use Rattle.std.specs.Prelude.{ℕ, List, refl}
use Rattle.std.specs.Coded.{Coded, code_by, coded×, coded_ℕ, coded_list}
use Rattle.slab.specs.Slab.{Slab, slab_code}

-- The linked keys, from the front; the slab of the values under all keys, linked or not, with its capacity; and how many entries were
-- reached so far.
pub record LinksView (T : Type 0) : Type 0 where
  pub order : List ℕ
  pub entries : Slab T
  pub touches : ℕ

abbrev pub links_code : {T : Type 0} → Coded T → Coded (LinksView T)
links_code {T} code =
    code_by
    (List ℕ × (Slab T × ℕ))
    (coded× (coded_list coded_ℕ) (coded× (slab_code code) coded_ℕ))
    (λ l. (l.order, (l.entries, l.touches)))
    (λ p. record { order = p.0; entries = p.1.0; touches = p.1.1 })
    (λ _. refl)
