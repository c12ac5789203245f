-- The waits of an `ExponentialBackoff` double.
use Rattle.std.proofs.Common.{◌≡◌, ◌≢◌, ⊎_elim, ℕ, zero, suc, ◌+◌, ◌-◌, ◌*◌, ◌/◌, ◌^◌, ◌<◌, ◌≤◌, min, Bool, true, false, nat_eq, nat_lt, if◌then◌else◌, List, [], ◌∷◌, length, Ok, Err, refl, ap, ◌∙◌, subst, arith}
use Rattle.std.proofs.Math.Nat.{mul-le-mul_left, mul-le-mul_right, pow-suc, div-mul-le_self, div-le_of_le-mul}
use Rattle.std.proofs.lemmas.Nat.{le-div}
use Rattle.std.proofs.lemmas.Bool.Decides.{leb_tells}
use Rattle.std.specs.List.{AllZip}
use Rattle.tower_base.specs.declared.service.Clock.{Ghosts as ClockOf}
use Rattle.tower_base.specs.declared.util.rng.Rng.{Ghosts as RngOf}
use Rattle.tower_laws.specs.Backoff.{Between, DrawsWords, MakersFit, NeverShrink, Waits, WaitsDouble, WithinShare, doubling}
use Rattle.tower_retry.specs.Backoff.{ExponentialBackoffMakerView, ExponentialBackoffView, Jitters, base_of}
use Rattle.tower_retry.specs.declared.retry.backoff.invalid.InvalidBackoff.TheVariants.{MaximumBelowMinimum, MaximumIsZero, JitterAbove100}

below_pow : (n : ℕ) → n < 2 ^ n
below_pow zero = omega arith
below_pow (suc n) = let more = below_pow n in let twice : 2 ^ suc n ≡ 2 ^ n * 2 = pow-suc 2 n in omega arith

mul_min : (k a b : ℕ) → k * min a b ≡ min (k * a) (k * b)
mul_min k a b = ⊎_elim
    (λ le. let first : min a b ≡ a = (let h = le.1 in omega arith) in let more : k * a ≤ k * b = mul-le-mul_left k le.1 in
    ap (λ (x : ℕ). k * x) first ∙ least (k * a) (k * b) more)
    (λ lt. let second : min a b ≡ b = (let h = lt.1 in omega arith) in let less : b ≤ a = (let h = lt.1 in omega arith) in
    let more : k * b ≤ k * a = mul-le-mul_left k less in ap (λ (x : ℕ). k * x) second ∙ other (k * a) (k * b) more)
    (leb_tells a b)
  where
    least : (x y : ℕ) → x ≤ y → x ≡ min x y
    least x y le = omega arith

    other : (x y : ℕ) → y ≤ x → y ≡ min x y
    other x y le = omega arith

-- the factor of the next wait
next_factor : (k next limit : ℕ) → k ≤ limit → next ≡ min (k + 1) limit → min (2 ^ next) limit ≡ min (2 * min (2 ^ k) limit) limit
next_factor k next limit fits is = ⊎_elim
    (λ below. let one : next ≡ suc k = (let h = below.1 in omega arith) in
    let twice : 2 ^ next ≡ 2 ^ k * 2 = ap (λ (n : ℕ). 2 ^ n) one ∙ pow-suc 2 k in omega arith)
    (λ at. let all : next ≡ limit = (let h = at.1 in omega arith) in let here = below_pow k in let there = below_pow next in let h = at.1 in omega arith)
    (leb_tells (suc k) limit)

next_base : (least most k next limit : ℕ) → k ≤ limit → next ≡ min (k + 1) limit
    → min (least * min (2 ^ next) limit) most ≡ min (2 * min (least * min (2 ^ k) limit) most) (min (least * limit) most)
next_base least most k next limit fits is =
    let factor = next_factor k next limit fits is in
    let grown : least * min (2 ^ next) limit ≡ least * min (2 * min (2 ^ k) limit) limit = ap (λ (x : ℕ). least * x) factor in
    let spread : least * min (2 * min (2 ^ k) limit) limit ≡ min (least * (2 * min (2 ^ k) limit)) (least * limit) = mul_min least (2 * min (2 ^ k) limit) limit in
    by (least * min (2 ^ next) limit) (least * (2 * min (2 ^ k) limit)) (least * min (2 ^ k) limit) (least * limit) (grown ∙ spread) (twice least (min (2 ^ k) limit))
  where
    twice : (a b : ℕ) → a * (2 * b) ≡ 2 * (a * b)
    twice a b = grind arith

    by : (a b x y : ℕ) → a ≡ min b y → b ≡ 2 * x → min a most ≡ min (2 * min x most) (min y most)
    by a b x y e d = omega arith

-- a share of at most the whole
share_fits : (base word n d : ℕ) → word < 2 ^ 64 → d ≢ 0 → base * (word / 2 ^ 11) / 2 ^ 53 * n / d ≤ base * n / d
share_fits base word n d fits some =
    let part : word / 2 ^ 11 ≤ 2 ^ 53 = omega arith in
    let whole : base * (word / 2 ^ 11) ≤ 2 ^ 53 * base = subst (λ (x : ℕ). base * (word / 2 ^ 11) ≤ x) (swap base (2 ^ 53)) (mul-le-mul_left base part) in
    let below : base * (word / 2 ^ 11) / 2 ^ 53 ≤ base = div-le_of_le-mul (2 ^ 53) whole in
    divided (base * (word / 2 ^ 11) / 2 ^ 53 * n) (base * n) (mul-le-mul_right n below)
  where
    swap : (a b : ℕ) → a * b ≡ b * a
    swap a b = grind arith

    divided : (a b : ℕ) → a ≤ b → a / d ≤ b / d
    divided a b le = let back = div-mul-le_self a d in le-div (a / d) b d (omega arith) (omega arith)

module _ {R C : Type 0} (r : RngOf R) (c : ClockOf C) where
  abbrev Maker : Type 0
  Maker = ExponentialBackoffMakerView R C

  abbrev View : Type 0
  View = ExponentialBackoffView R C

  -- the jitter of one wait
  no_jitter : (b : Bool) (old : View) (extra : ℕ) (new : View) → b ≡ true → Jitters r b old extra new → extra ≡ 0
  no_jitter true old extra new e here = here.0
  no_jitter false old extra new e here = absurd (cc e)

  some_jitter : (b : Bool) (old : View) (extra : ℕ) (new : View) → Jitters r b old extra new → extra ≤ old.maker.most - base_of old
  some_jitter true old extra new here = let none = here.0 in omega arith
  some_jitter false old extra new here = let is = here.2 in omega arith

  share_jitter : (b : Bool) (old : View) (extra : ℕ) (new : View) → DrawsWords r c → Jitters r b old extra new
      → extra ≤ base_of old * old.maker.jitter.numerator / old.maker.jitter.divisor
  share_jitter true old extra new draws here = let none = here.0 in omega arith
  share_jitter false old extra new draws here =
      let word = here.0 in
      let fits = share_fits (base_of old) word old.maker.jitter.numerator old.maker.jitter.divisor (draws old.maker.rng new.maker.rng word here.1) old.maker.jitter.divides in
      let is = here.2 in omega arith

  -- the waits from a backoff on
  record From (old : View) (waits : List ℕ) : Type 0 where
    plain : old.maker.jitter.numerator ≡ 0 → waits ≡ doubling (length waits) (base_of old) (min (old.maker.least * (2 ^ 32 - 1)) old.maker.most)
    between : AllZip (Between old.maker) (doubling (length waits) (base_of old) (min (old.maker.least * (2 ^ 32 - 1)) old.maker.most)) waits
    share : DrawsWords r c → AllZip (WithinShare old.maker) (doubling (length waits) (base_of old) (min (old.maker.least * (2 ^ 32 - 1)) old.maker.most)) waits

  from : (waits : List ℕ) (old : View) → old.count ≤ 2 ^ 32 - 1 → Waits r c old waits → From old waits
  from [] old fits here = record { plain = λ none. refl; between = tt; share = λ draws. tt }
  from (wait ∷ waits) old fits (sleep, new, begins, lasts, rest) =
      let more = from waits new (let is = begins.counted in omega arith) rest in
      let least : new.maker.least ≡ old.maker.least = ap (λ (m : Maker). m.least) begins.same in
      let most : new.maker.most ≡ old.maker.most = ap (λ (m : Maker). m.most) begins.same in
      let jitter = ap (λ (m : Maker). m.jitter) begins.same in
      let greatest : min (new.maker.least * (2 ^ 32 - 1)) new.maker.most ≡ min (old.maker.least * (2 ^ 32 - 1)) old.maker.most =
      ap (λ (x : ℕ). min (x * (2 ^ 32 - 1)) new.maker.most) least ∙ ap (λ (y : ℕ). min (old.maker.least * (2 ^ 32 - 1)) y) most in
      let base : base_of new ≡ min (2 * base_of old) (min (old.maker.least * (2 ^ 32 - 1)) old.maker.most) =
      ap (λ (x : ℕ). min (x * min (2 ^ new.count) (2 ^ 32 - 1)) new.maker.most) least
      ∙ (ap (λ (y : ℕ). min (old.maker.least * min (2 ^ new.count) (2 ^ 32 - 1)) y) most
      ∙ next_base old.maker.least old.maker.most old.count new.count (2 ^ 32 - 1) fits begins.counted) in
      let long : wait ≡ base_of old + begins.extra = wait_is (c.reading sleep.clock) (base_of old + begins.extra) wait sleep.deadline begins.deadline lasts in
      let next : doubling (length waits) (base_of new) (min (new.maker.least * (2 ^ 32 - 1)) new.maker.most)
      ≡ doubling (length waits) (min (2 * base_of old) (min (old.maker.least * (2 ^ 32 - 1)) old.maker.most)) (min (old.maker.least * (2 ^ 32 - 1)) old.maker.most) =
      ap (λ (x : ℕ). doubling (length waits) x (min (new.maker.least * (2 ^ 32 - 1)) new.maker.most)) base
      ∙ ap (λ (y : ℕ). doubling (length waits) (min (2 * base_of old) (min (old.maker.least * (2 ^ 32 - 1)) old.maker.most)) y) greatest in
      record {
        plain = λ none. first_plain (base_of old) begins.extra wait long (no_jitter (nat_eq old.maker.jitter.numerator 0) old begins.extra new (zero_tells old.maker.jitter.numerator none) begins.jitters)
            waits _ (more.plain (ap (λ j. j.numerator) jitter ∙ none) ∙ next);
        between = (
          first_between (base_of old) begins.extra wait old.maker.most long (some_jitter (nat_eq old.maker.jitter.numerator 0) old begins.extra new begins.jitters) (base_fits old),
          subst (λ (xs : List ℕ). AllZip (λ plain later. (plain ≤ later) × (later ≤ old.maker.most)) xs waits) next
              (subst (λ (y : ℕ). AllZip (λ plain later. (plain ≤ later) × (later ≤ y)) (doubling (length waits) (base_of new) (min (new.maker.least * (2 ^ 32 - 1)) new.maker.most)) waits) most more.between),
        );
        share = λ draws. (
          first_share (base_of old) begins.extra wait _ long (share_jitter (nat_eq old.maker.jitter.numerator 0) old begins.extra new draws begins.jitters),
          subst (λ (xs : List ℕ). AllZip (λ plain later. later ≤ plain + plain * old.maker.jitter.numerator / old.maker.jitter.divisor) xs waits) next
              (subst (λ j. AllZip (λ plain later. later ≤ plain + plain * j.numerator / j.divisor) (doubling (length waits) (base_of new) (min (new.maker.least * (2 ^ 32 - 1)) new.maker.most)) waits) jitter (more.share draws)),
        );
      }
    where
      wait_is : (reading long wait deadline : ℕ) → deadline ≡ reading + long → deadline ≡ reading + wait → wait ≡ long
      wait_is reading long wait deadline one two = omega arith

      zero_tells : (n : ℕ) → n ≡ 0 → nat_eq n 0 ≡ true
      zero_tells n none = ap (λ (x : ℕ). nat_eq x 0) none

      base_fits : (v : View) → base_of v ≤ v.maker.most
      base_fits v = omega arith

      first_plain : (base extra wait : ℕ) → wait ≡ base + extra → extra ≡ 0 → (waits plain : List ℕ) → waits ≡ plain → wait ∷ waits ≡ base ∷ plain
      first_plain base extra wait long none waits plain same = let is : wait ≡ base = omega arith in ap (λ (x : ℕ). x ∷ waits) is ∙ ap (λ (xs : List ℕ). base ∷ xs) same

      first_between : (base extra wait most : ℕ) → wait ≡ base + extra → extra ≤ most - base → base ≤ most → (base ≤ wait) × (wait ≤ most)
      first_between base extra wait most long fits below = (omega arith, omega arith)

      first_share : (base extra wait share : ℕ) → wait ≡ base + extra → extra ≤ share → wait ≤ base + share
      first_share base extra wait share long fits = omega arith

  grows : (n last wait greatest : ℕ) → last ≤ wait → wait ≤ greatest → NeverShrink last (doubling n wait greatest)
  grows zero last wait greatest rise fits = tt
  grows (suc n) last wait greatest rise fits = (rise, grows n wait (min (2 * wait) greatest) greatest (omega arith) (omega arith))

  first_base : (first : View) → first.count ≡ 0 → first.maker.least ≤ first.maker.most → base_of first ≡ first.maker.least
  first_base first new fits =
      ap (λ (k : ℕ). min (first.maker.least * min (2 ^ k) (2 ^ 32 - 1)) first.maker.most) new ∙ by first.maker.least first.maker.most fits
    where
      by : (least most : ℕ) → least ≤ most → min (least * 1) most ≡ least
      by least most fits = omega arith

  pub waits_double : WaitsDouble r c
  waits_double first waits new fits here =
      let all = from waits first (omega arith) here in
      let base = first_base first new fits in
      let greatest = min (first.maker.least * (2 ^ 32 - 1)) first.maker.most in
      record {
        grow = grows (length waits) 0 first.maker.least greatest (omega arith) (omega arith);
        plain = λ none. all.plain none ∙ ap (λ (x : ℕ). doubling (length waits) x greatest) base;
        between = subst (λ (x : ℕ). AllZip (Between first.maker) (doubling (length waits) x greatest) waits) base all.between;
        share = λ draws. subst (λ (x : ℕ). AllZip (WithinShare first.maker) (doubling (length waits) x greatest) waits) base (all.share draws);
      }

pub makers_fit : (R C : Type 0) → MakersFit R C
makers_fit R C parts made e = by (nat_lt parts.most parts.least) refl e
  where
    then_fits : (a b : Bool) → (if a then Err MaximumIsZero else (if b then Err JitterAbove100 else Ok parts)) ≡ Ok made → parts ≡ made
    then_fits true b e = cc
    then_fits false true e = cc
    then_fits false false e = cc

    by : (b : Bool) → nat_lt parts.most parts.least ≡ b
        → (if b then Err MaximumBelowMinimum else (if nat_eq parts.most 0 then Err MaximumIsZero else (if nat_lt (100 * parts.jitter.divisor) parts.jitter.numerator then Err JitterAbove100 else Ok parts))) ≡ Ok made
        → made.least ≤ made.most
    by true below e = absurd (cc e)
    by false below e =
        let same = then_fits (nat_eq parts.most 0) (nat_lt (100 * parts.jitter.divisor) parts.jitter.numerator) e in
        let fits : parts.least ≤ parts.most = grind arith in
        subst (λ (m : ExponentialBackoffMakerView R C). m.least ≤ m.most) same fits
