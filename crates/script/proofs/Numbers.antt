-- What the library's `parse` reads, in the words of the language.
use Rattle.std.proofs.Common.{◌≡◌, ℕ, ◌^◌, ◌<◌, ◌&&◌, true, cond, ltb, List, length, Some, None, Ok, Err, Result, sym, arith}
use Rattle.std.specs.Str.Parse.{IsNumeral, ParsesUnsigned, without_leading_plus, digits_value}
use Rattle.std.specs.Result.{result_ok}
use Rattle.std.specs.Str.{all_ascii_digits}
use Rattle.std.proofs.lemmas.Str.Parse.{IsNumeralModel, numerals_by_value, tells_all_ascii_digits}
use Rattle.std.proofs.lemmas.Bool.{lt-ltb}
use Rattle.std.proofs.lemmas.Bool.Decides.{nat_tests}
use Rattle.script.specs.Tokens.{number_of}

-- `all_ascii_digits` and `digits_value 10` are the library's own words for digits and what they write.
pub own : IsNumeralModel (λ ds. all_ascii_digits ds ≡ true) (digits_value 10)
own = numerals_by_value _ tells_all_ascii_digits

no_number : (ds : List ℕ) → (IsNumeral 10 ds × (digits_value 10 ds < 2 ^ 64) → ⊥)
    → cond (ltb 0 (length ds) && (all_ascii_digits ds && ltb (digits_value 10 ds) (2 ^ 64))) (Some (digits_value 10 ds)) None ≡ None
no_number ds never = grind (arith, nat_tests, own.to ds)

pub parsed : {E : Type 0} (word : List ℕ) (r : Result ℕ E) → ParsesUnsigned 64 10 word r → result_ok r ≡ number_of word
parsed word (Ok n) reads =
    let digits = own.from (without_leading_plus word) reads.0.0.1 in
    simp (reads.1, digits, lt-ltb _ _ reads.0.0.0, lt-ltb _ _ reads.0.1)
parsed word (Err e) reads = sym (no_number (without_leading_plus word) reads)
