-- Tables of words that a caller lends.
use Rattle.std.specs.Prelude.{◌≡◌, ℕ, ◌<◌, min, List, drop, length, slice_set, take}
use Rattle.std.proofs.Common.{sym, ◌∙◌}
use Rattle.std.proofs.Math.Nat.{min-le_left, min_comm}
use Rattle.std.proofs.lemmas.List.{length-take-le}
use Rattle.memory.specs.Image.{Image, Level, size_of}
use Rattle.memory.specs.declared.calls.Call.{Call}
use Rattle.memory.specs.declared.calls.Call.TheVariants.{Store, Flush}

-- A memory of these working and lasting words.
abbrev pub image_of : List ℕ → List ℕ → Image
image_of working lasting = record { working = working; lasting = lasting }

-- The length of the shorter of two tables.
abbrev pub shorter : List ℕ → List ℕ → ℕ
shorter table other = min (length table) (length other)

-- The first words of a table, as many as the shorter of two tables has.
abbrev pub front : List ℕ → List ℕ → List ℕ
front table other = take (shorter table other) table

-- The memory that stands on two tables: the first words of both, as many as the shorter has.
abbrev pub lent_by : List ℕ → List ℕ → Image
lent_by working lasting = image_of (front working lasting) (front lasting working)

-- Both lists have that many words.
pub lent_level : (working lasting : List ℕ) → Level (lent_by working lasting)
lent_level working lasting =
    length-take-le (shorter lasting working) lasting (min-le_left (length lasting) (length working))
    ∙ min_comm (length lasting) (length working)
    ∙ sym (length-take-le (shorter working lasting) working (min-le_left (length working) (length lasting)))

-- The words of a table past the length of the shorter of the two.
abbrev pub rest_of : List ℕ → List ℕ → List ℕ
rest_of table other = drop (shorter table other) table

-- These words, but that both lists have v at place p.
abbrev pub saved : ℕ → ℕ → Image → Image
saved p v i = image_of (slice_set i.working p v) (slice_set i.lasting p v)

-- A store and a flush of one place, of a memory whose calls do this, make the word last and change no other.
abbrev pub Saves : (Call → Image → Image) → Type 0
Saves does = (i : Image) (p v : ℕ) → p < size_of i → does (Flush p) (does (Store p v) i) ≡ saved p v i
