-- How numbers and words are read.
use Rattle.std.proofs.Common.{◌≡◌, ◌≢◌, ℕ, zero, suc, ◌<◌, ◌≤◌, ◌^◌, List, [], ◌∷◌, length, get_or, decimal, Result, Ok, Err, sym, ◌∙◌, ap, arith, All, IsUtf8}
use Rattle.std.proofs.lemmas.Str.Parse.{IsNumeralModel, numerals_by_value, tells_digits, parse_plain}
use Rattle.std.proofs.lemmas.Fmt.{decimal_digit, decimal-digits_value, parse-decimal, first_decimal, decimal_nonempty, IsAscii-decimal}
use Rattle.std.proofs.lemmas.Str.{IsUtf8-from_ascii}
use Rattle.std.proofs.lemmas.Str.Ascii.{IsAscii-from_all}
use Rattle.std.specs.Str.Parse.{ParsesUnsigned, AllDigits, digits_value}

own : IsNumeralModel (AllDigits 10) (digits_value 10)
own = numerals_by_value (AllDigits 10) tells_digits

-- 0 is written as one digit
pub zero_is : decimal 0 ≡ 48 ∷ []
zero_is = decimal_digit 0 (omega arith)

-- each other number's text is there, and doesn't begin with 0
pub begins : (bs : List ℕ) (n : ℕ) → n < 2 ^ 64 → bs ≡ decimal n → bs ≢ 48 ∷ [] → (0 < length bs) × (48 < get_or bs 0 0)
begins bs zero fits same ne = absurd (ne (same ∙ zero_is))
begins bs (suc m) fits same ne = rw same ((decimal_nonempty (suc m) fits, first_decimal (suc m) (omega arith) fits))

-- what is read as a number is how that is written
pub read_ok : {E : Type 0} (bs : List ℕ) (r : Result ℕ E) (n : ℕ) → ParsesUnsigned 64 10 bs r → 48 < get_or bs 0 0 → r ≡ Ok n → bs ≡ decimal n
read_ok bs r n h first e =
    let ne : get_or bs 0 0 ≢ 43 = omega arith in
    let said = parse_plain own 64 bs r h ne in
    let met : (AllDigits 10 bs × (0 < length bs) × (digits_value 10 bs < 2 ^ 64)) × (n ≡ digits_value 10 bs) = rw e at said in
    let back : decimal (digits_value 10 bs) ≡ bs = decimal-digits_value own bs met.0.0 met.0.1 (λ z. absurd (omega arith)) met.0.2 in
    sym (ap decimal met.1 ∙ back)

-- what isn't read as one is no number's text
pub read_err : {E : Type 0} (bs : List ℕ) (r : Result ℕ E) (e : E) (n : ℕ) → ParsesUnsigned 64 10 bs r → r ≡ Err e → n < 2 ^ 64 → bs ≢ decimal n
read_err bs r e n h bad fits same = let good : r ≡ Ok n = parse-decimal 64 n bs r fits fits same h in cc

-- a number's text is text
pub number_is_text : (bs : List ℕ) (n : ℕ) → n < 2 ^ 64 → bs ≡ decimal n → IsUtf8 bs
number_is_text bs n fits same = rw same (IsUtf8-from_ascii (decimal n) (IsAscii-decimal n fits))

below : (bs : List ℕ) → All (λ b. (33 ≤ b) × (b ≤ 126)) bs → All (λ b. b < 128) bs
below bs h = λ k d lt. let p : (33 ≤ get_or bs k d) × (get_or bs k d ≤ 126) = h k d lt in omega arith

-- a word is text
pub word_is_text : (bs : List ℕ) → All (λ b. (33 ≤ b) × (b ≤ 126)) bs → IsUtf8 bs
word_is_text bs h = IsUtf8-from_ascii bs (IsAscii-from_all bs (below bs h))
