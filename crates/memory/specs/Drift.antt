-- Drift: what may become of lasting words at a store, a flush, an evict and a cut.
use Rattle.std.specs.Prelude.{◌≡◌, ℕ, ◌⊎◌, List, length}
use Rattle.memory.specs.Image.{word_at}

-- One lasting word, before and after: it stays, or takes the working word of its place.
-- proofs/Drift.antt has lemmas on it for the layers above. Where the checker's search proves a memory, it looks inside.
abbrev pub Settles : ℕ → ℕ → ℕ → Type 0
Settles working before after = (after ≡ before) ⊎ (after ≡ working)

-- Every lasting word settles by itself.
pub record Drift (working before after : List ℕ) : Type 0 where
  pub long : length after ≡ length before
  pub each : (p : ℕ) → Settles (word_at working p) (word_at before p) (word_at after p)
