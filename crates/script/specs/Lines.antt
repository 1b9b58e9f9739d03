-- A line cut into words.
use Rattle.std.specs.Prelude.{◌≡◌, ℕ, ◌<◌, cond, List, [], ◌∷◌, ◌++◌, map, length, vec_items, vec_len, string_bytes, codes, ◌==◌}
use Rattle.std.specs.Str.{EmptyOrStartsWithPassing, NoCharPasses}
use Rattle.std.specs.Char.{is_not_whitespace, is_whitespace}
use Rattle.script.specs.Language.{Word, line_text}
use Rattle.script.specs.Tokens.{token_of}
use Rattle.script.specs.declared.lines.Line.{Line}

-- These words are the line's: its text has them one space apart, and its tokens are what they stand for.
pub record WordsAre (words : List Word) (line : Line) : Type 0 where
  pub text : string_bytes line.text ≡ line_text words
  pub tokens : vec_items line.tokens ≡ map token_of words

-- The words of a text, which white space parts: each is as long as it can be.
abbrev pub WordsIn : List ℕ → List Word → Type 0
WordsIn text [] = NoCharPasses is_not_whitespace text
WordsIn text (word ∷ words) =
    (gap : List ℕ) × (rest : List ℕ)
    × (text ≡ gap ++ (word ++ rest)) × NoCharPasses is_not_whitespace gap
    × (0 < length word) × NoCharPasses is_whitespace word × ((more : List ℕ) × EmptyOrStartsWithPassing is_whitespace rest more)
    × WordsIn rest words

-- The line is the text cut into its words.
abbrev pub CutFrom : List ℕ → Line → Type 0
CutFrom text line = (words : List Word) × WordsIn text words × WordsAre words line

-- One word more, with a space before it unless it is the first.
pub record WithWord (line : Line) (word : Word) (longer : Line) : Type 0 where
  pub text : string_bytes longer.text ≡ (string_bytes line.text ++ cond (vec_len line.tokens == 0) [] (codes " ")) ++ word
  pub tokens : vec_items longer.tokens ≡ vec_items line.tokens ++ (token_of word ∷ [])
