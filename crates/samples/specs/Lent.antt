-- A table that is lent to a memory, before and after.
use Rattle.std.specs.Prelude.{◌≡◌, ℕ, List, drop}
use Rattle.memories.specs.Tables.{shorter}

-- Past the length of the shorter table every word is the same before and after.
abbrev pub RestKept : List ℕ → List ℕ → List ℕ → Type 0
RestKept table other after = drop (shorter table other) after ≡ drop (shorter table other) table
