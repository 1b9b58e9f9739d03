-- A command written out as words and read again is that command.
use Rattle.std.proofs.Common.{◌≡◌, ℕ, ◌^◌, ◌<◌, true, List, [], ◌∷◌, length, decimal, sym, refl, ap, ◌∙◌, subst, arith}
use Rattle.std.specs.Str.Parse.{digits_value}
use Rattle.std.specs.Str.{all_ascii_digits}
use Rattle.std.proofs.lemmas.Fmt.{decimal_nonempty, digits_decimal, digits_value-decimal}
use Rattle.std.proofs.lemmas.Str.Parse.{tells_all_ascii_digits}
use Rattle.std.proofs.lemmas.Bool.{ne_eqb, lt-ltb}
use Rattle.memory.specs.declared.calls.Call.TheVariants as call
use Rattle.script.specs.Tokens.{token_of}
use Rattle.script.specs.Reading.{ReadsBack}
use Rattle.script.specs.declared.commands.Command.TheVariants as command
use Rattle.script.specs.declared.commands.Kind.TheVariants.{Back, Through}
use Rattle.script.specs.declared.tokens.Token.TheVariants as token
use Rattle.script.proofs.Numbers.{own}

-- Digits are read as the number that they write. The first is no letter, and neither '+' nor '#'.
token_of-digits : (w : List ℕ) → 0 < length w → all_ascii_digits w ≡ true → digits_value 10 w < 2 ^ 64 → token_of w ≡ token.Number (digits_value 10 w)
token_of-digits [] some digits small = absurd (omega arith)
token_of-digits (b ∷ bs) some digits small =
    let digit = (tells_all_ascii_digits.parts b bs digits).0 in
    let below = λ (k : ℕ) (h : k < 48). ne_eqb b k (λ e. omega arith) in
    let above = λ (k : ℕ) (h : 57 < k). ne_eqb b k (λ e. omega arith) in
    let fits = lt-ltb (digits_value 10 (b ∷ bs)) (2 ^ 64) small in
    let long = lt-ltb 0 (length (b ∷ bs)) some in
    simp (
      below 35 (omega arith),
      below 43 (omega arith),
      above 109 (omega arith),
      above 108 (omega arith),
      above 115 (omega arith),
      above 102 (omega arith),
      above 101 (omega arith),
      above 99 (omega arith),
      above 119 (omega arith),
      above 98 (omega arith),
      above 116 (omega arith),
      digits,
      fits,
      long,
    )

pub token_of-decimal : (n : ℕ) → n < 2 ^ 64 → token_of (decimal n) ≡ token.Number n
token_of-decimal n small =
    let is = digits_value-decimal own n small in
    token_of-digits (decimal n) (decimal_nonempty n small) (digits_decimal own n small) (subst (λ x. x < 2 ^ 64) (sym is) small)
    ∙ ap (λ x. token.Number x) is

pub reads_back : ReadsBack
reads_back (command.Memory Back places) h = simp (token_of-decimal places h, lt-ltb places (2 ^ 64) h)
reads_back (command.Memory Through places) h = simp (token_of-decimal places h, lt-ltb places (2 ^ 64) h)
reads_back (command.Call (call.Load p)) h = simp (token_of-decimal p h, lt-ltb p (2 ^ 64) h)
reads_back (command.Call (call.Store p v)) h =
    let wide : v < 2 ^ 64 = omega arith in
    simp (token_of-decimal p h.0, lt-ltb p (2 ^ 64) h.0, token_of-decimal v wide, lt-ltb v (2 ^ 32) h.1)
reads_back (command.Call (call.Flush p)) h = simp (token_of-decimal p h, lt-ltb p (2 ^ 64) h)
reads_back (command.Call (call.Evict p)) h = simp (token_of-decimal p h, lt-ltb p (2 ^ 64) h)
reads_back (command.Call call.Cut) h = refl
reads_back command.Size h = refl
reads_back command.Words h = refl
