-- What a memory means: two lists of words, working and lasting, both of the memory's size.
use Rattle.std.specs.Prelude.{◌≡◌, ℕ, List, length, slice_index}

-- The working words are those that a load answers; the lasting words are those that a power cut leaves.
pub record Image : Type 0 where
  pub working : List ℕ
  pub lasting : List ℕ

-- The number of places.
abbrev pub size_of : Image → ℕ
size_of i = length i.working

-- Both lists have that length.
abbrev pub Level : Image → Type 0
Level i = length i.lasting ≡ length i.working

-- Word p of a list.
abbrev pub word_at : List ℕ → ℕ → ℕ
word_at words p = slice_index words p
