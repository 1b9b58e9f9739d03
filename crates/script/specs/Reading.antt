-- Which words are which command, and why others are none.
use Rattle.std.specs.Prelude.{◌≡◌, ℕ, ◌^◌, ◌<◌, Bool, true, cond, List, map, length, Some, None, Ok, Err, MatchResult, Option, Result, nat_lt, slice_index_or}
use Rattle.memory.specs.declared.calls.Call.TheVariants as call
use Rattle.script.specs.Language.{words_of}
use Rattle.script.specs.Tokens.{token_of}
use Rattle.script.specs.declared.commands.Command.{Command}
use Rattle.script.specs.declared.commands.Command.TheVariants as command
use Rattle.script.specs.declared.commands.Kind.{Kind}
use Rattle.script.specs.declared.commands.Verb.{Verb}
use Rattle.script.specs.declared.commands.Verb.TheVariants as verb
use Rattle.script.specs.declared.flaws.Flaw.{Flaw}
use Rattle.script.specs.declared.flaws.Flaw.TheVariants.{NoSuchCall, NoSuchMemory, TooFewWords, TooManyWords, NotANumber, NoMemory}
use Rattle.script.specs.declared.tokens.Token.{Token}
use Rattle.script.specs.declared.tokens.Token.TheVariants as token

-- One after the other: the first refusal is the answer.
abbrev pub then : {A B : Type 0} → Result A Flaw → (A → Result B Flaw) → Result B Flaw
then (Ok a) next = next a
then (Err flaw) next = Err flaw

-- How many words a line with this verb has, the verb included.
abbrev pub words_in : Verb → ℕ
words_in verb.Memory = 3
words_in verb.Load = 2
words_in verb.Store = 3
words_in verb.Flush = 2
words_in verb.Evict = 2
words_in verb.Cut = 1
words_in verb.Size = 1
words_in verb.Words = 1

-- A line has exactly that many words.
abbrev pub counted : Verb → ℕ → Result (Unit {0}) Flaw
counted v count = cond (nat_lt count (words_in v)) (Err TooFewWords) (cond (nat_lt (words_in v) count) (Err TooManyWords) (Ok tt))

-- The number below a limit that a token writes, where the token has this index in its line.
abbrev pub number_in : ℕ → ℕ → Token → Result ℕ Flaw
number_in limit index token.Comment = Err (NotANumber index)
number_in limit index (token.Verb v) = Err (NotANumber index)
number_in limit index (token.Kind k) = Err (NotANumber index)
number_in limit index (token.Number n) = cond (nat_lt n limit) (Ok n) (Err (NotANumber index))
number_in limit index token.Other = Err (NotANumber index)

-- The same of the token that stands at the index.
abbrev pub number_at : ℕ → List Token → ℕ → Result ℕ Flaw
number_at limit ts index = number_in limit index (slice_index_or ts index token.Other)

-- The number that a token writes, converted to a type, where `gives` says what the conversion may answer.
abbrev pub Numbered : {N E : Type 0} → (ℕ → Result N E → Type 0) → ℕ → Token → Result N Flaw → Type 0
Numbered gives index token.Comment r = r ≡ Err (NotANumber index)
Numbered gives index (token.Verb v) r = r ≡ Err (NotANumber index)
Numbered gives index (token.Kind k) r = r ≡ Err (NotANumber index)
Numbered gives index (token.Number n) r = (q : _) × gives n q × MatchResult q (λ x. r ≡ Ok x) (λ _. r ≡ Err (NotANumber index))
Numbered gives index token.Other r = r ≡ Err (NotANumber index)

-- The kind of memory that a token names.
abbrev pub kind_in : Token → Result Kind Flaw
kind_in token.Comment = Err NoSuchMemory
kind_in (token.Verb v) = Err NoSuchMemory
kind_in (token.Kind k) = Ok k
kind_in (token.Number n) = Err NoSuchMemory
kind_in token.Other = Err NoSuchMemory

-- The same of the token that stands at the index.
abbrev pub kind_at : List Token → ℕ → Result Kind Flaw
kind_at ts index = kind_in (slice_index_or ts index token.Other)

-- The command of a line that has the verb's number of words. Places fit 64 bits, words 32.
abbrev pub formed : Verb → List Token → Result Command Flaw
formed verb.Memory ts = then (kind_at ts 1) (λ kind. then (number_at (2 ^ 64) ts 2) (λ places. Ok (command.Memory kind places)))
formed verb.Load ts = then (number_at (2 ^ 64) ts 1) (λ p. Ok (command.Call (call.Load p)))
formed verb.Store ts =
    then (number_at (2 ^ 64) ts 1) (λ p. then (number_at (2 ^ 32) ts 2) (λ v. Ok (command.Call (call.Store p v))))
formed verb.Flush ts = then (number_at (2 ^ 64) ts 1) (λ p. Ok (command.Call (call.Flush p)))
formed verb.Evict ts = then (number_at (2 ^ 64) ts 1) (λ p. Ok (command.Call (call.Evict p)))
formed verb.Cut ts = Ok (command.Call call.Cut)
formed verb.Size ts = Ok command.Size
formed verb.Words ts = Ok command.Words

-- A command other than a memory line needs a memory.
abbrev pub needed : Bool → Command → Result (Option Command) Flaw
needed ready (command.Memory kind places) = Ok (Some (command.Memory kind places))
needed ready (command.Call c) = cond ready (Ok (Some (command.Call c))) (Err NoMemory)
needed ready command.Size = cond ready (Ok (Some command.Size)) (Err NoMemory)
needed ready command.Words = cond ready (Ok (Some command.Words)) (Err NoMemory)

-- What a line says by its first word.
abbrev pub said : Bool → Token → List Token → Result (Option Command) Flaw
said ready token.Comment ts = Ok None
said ready (token.Verb v) ts = then (counted v (length ts)) (λ _. then (formed v ts) (needed ready))
said ready (token.Kind k) ts = Err NoSuchCall
said ready (token.Number n) ts = Err NoSuchCall
said ready token.Other ts = Err NoSuchCall

-- What a line's words say, where `ready` tells whether a memory was made before:
-- a command, nothing (no words, or a comment), or why it is refused.
abbrev pub understood : Bool → List Token → Result (Option Command) Flaw
understood ready ts = cond (nat_lt 0 (length ts)) (said ready (slice_index_or ts 0 token.Other) ts) (Ok None)

-- The numbers of a command fit their types.
abbrev pub Fitting : Command → Type 0
Fitting (command.Memory kind places) = places < 2 ^ 64
Fitting (command.Call (call.Load p)) = p < 2 ^ 64
Fitting (command.Call (call.Store p v)) = (p < 2 ^ 64) × (v < 2 ^ 32)
Fitting (command.Call (call.Flush p)) = p < 2 ^ 64
Fitting (command.Call (call.Evict p)) = p < 2 ^ 64
Fitting (command.Call call.Cut) = Unit {0}
Fitting command.Size = Unit {0}
Fitting command.Words = Unit {0}

-- Every command, written out as words and read again where a memory was made before, is that command.
abbrev pub ReadsBack : Type 0
ReadsBack = (c : Command) → Fitting c → understood true (map token_of (words_of c)) ≡ Ok (Some c)
