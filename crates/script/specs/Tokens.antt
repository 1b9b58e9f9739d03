-- What one word can stand for.
use Rattle.std.specs.Prelude.{ℕ, ◌^◌, Bool, cond, ◌&&◌, length, Some, None, codes, Option, ◌==◌, nat_lt, slice_index}
use Rattle.std.specs.Str.Parse.{without_leading_plus, digits_value}
use Rattle.std.specs.Str.{all_ascii_digits, bytes_eq}
use Rattle.script.specs.Language.{Word}
use Rattle.script.specs.declared.commands.Kind.{Kind}
use Rattle.script.specs.declared.commands.Kind.TheVariants.{Back, Through}
use Rattle.script.specs.declared.commands.Verb.{Verb}
use Rattle.script.specs.declared.commands.Verb.TheVariants.{Memory, Load, Store, Flush, Evict, Cut, Size, Words}
use Rattle.script.specs.declared.tokens.Token.{Token}
use Rattle.script.specs.declared.tokens.Token.TheVariants as token

-- The verb that a word is.
abbrev pub verb_of : Word → Option Verb
verb_of word =
    cond (bytes_eq word (codes "memory")) (Some Memory)
    (cond (bytes_eq word (codes "load")) (Some Load)
    (cond (bytes_eq word (codes "store")) (Some Store)
    (cond (bytes_eq word (codes "flush")) (Some Flush)
    (cond (bytes_eq word (codes "evict")) (Some Evict)
    (cond (bytes_eq word (codes "cut")) (Some Cut)
    (cond (bytes_eq word (codes "size")) (Some Size)
    (cond (bytes_eq word (codes "words")) (Some Words) None)))))))

-- The kind of memory that a word is.
abbrev pub kind_of : Word → Option Kind
kind_of word =
    cond (bytes_eq word (codes "back")) (Some Back)
    (cond (bytes_eq word (codes "through")) (Some Through) None)

-- One decimal digit or more, after a plus sign or none, of a number below 2^64.
abbrev pub number_of : Word → Option ℕ
number_of word =
    cond (nat_lt 0 (length (without_leading_plus word)) && (all_ascii_digits (without_leading_plus word) && nat_lt (digits_value 10 (without_leading_plus word)) (2 ^ 64)))
    (Some (digits_value 10 (without_leading_plus word))) None

-- A word that is no verb and no kind is a number, or something else.
abbrev pub number_token : Option ℕ → Token
number_token None = token.Other
number_token (Some n) = token.Number n

-- A word that is no verb is a kind, or what `number_token` says.
abbrev pub kind_token : Option Kind → Word → Token
kind_token None word = number_token (number_of word)
kind_token (Some kind) word = token.Kind kind

-- A word is a verb, or what `kind_token` says.
abbrev pub verb_token : Option Verb → Word → Token
verb_token None word = kind_token (kind_of word) word
verb_token (Some verb) word = token.Verb verb

-- It begins with '#'.
abbrev pub commented : Word → Bool
commented word = slice_index word 0 == 35

-- A word that begins with '#', a verb, a kind of memory, a number, or something else.
abbrev pub token_of : Word → Token
token_of word = cond (commented word) token.Comment (verb_token (verb_of word) word)
