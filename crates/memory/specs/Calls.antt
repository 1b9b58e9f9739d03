-- What each call of a memory answers, and what it may do to the words.
use Rattle.std.specs.Prelude.{◌≡◌, ℕ, Some, None, Ok, Option, Result, MatchResult, slice_set}
use Rattle.memory.specs.declared.calls.Call.{Call}
use Rattle.memory.specs.declared.calls.Call.TheVariants.{Load, Store, Flush, Evict, Cut}
use Rattle.memory.specs.declared.refusals.MemoryFault.{MemoryFault}
use Rattle.memory.specs.Refusals.{within}
use Rattle.memory.specs.Image.{Image, size_of, word_at}
use Rattle.memory.specs.Drift.{Drift}

-- A store makes working word p equal v; drift follows.
pub record Stored (i : Image) (p v : ℕ) (j : Image) : Type 0 where
  pub works : j.working ≡ slice_set i.working p v
  pub drifts : Drift j.working i.lasting j.lasting

-- A flush makes lasting word p equal working word p; the other lasting words drift.
pub record Flushed (i : Image) (p : ℕ) (j : Image) : Type 0 where
  pub works : j.working ≡ i.working
  pub lasts : word_at j.lasting p ≡ word_at i.working p
  pub drifts : Drift i.working i.lasting j.lasting

-- An evict is drift alone.
pub record Evicted (i : Image) (j : Image) : Type 0 where
  pub works : j.working ≡ i.working
  pub drifts : Drift i.working i.lasting j.lasting

-- A cut is drift, after which every working word equals its lasting word.
pub record IsCut (i : Image) (j : Image) : Type 0 where
  pub works : j.working ≡ j.lasting
  pub drifts : Drift i.working i.lasting j.lasting
  pub size : size_of j ≡ size_of i

-- What a granted call may do to the words.
abbrev pub Allows : Call → Image → Image → Type 0
Allows (Load p) i j = j ≡ i
Allows (Store p v) i j = Stored i p v j
Allows (Flush p) i j = Flushed i p j
Allows (Evict p) i j = Evicted i j
Allows Cut i j = IsCut i j

-- What a granted call did: something that the rules allow, and what this memory does exactly.
pub record Done (exact : Call → Image → Image → Type 0) (call : Call) (i j : Image) : Type 0 where
  pub allowed : Allows call i j
  pub exactly : exact call i j

-- What a call leaves: what is done where it is granted, and every word as it was where it is refused.
abbrev pub Leaves : {A : Type 0} → (Call → Image → Image → Type 0) → Call → Image → Result A MemoryFault → Image → Type 0
Leaves exact call i r j = MatchResult r (λ _. Done exact call i j) (λ _. j ≡ i)

-- What a call answers: a load its word, the others nothing, and refusal 13 where the place is not there.
abbrev pub answer_of : Call → Image → Result (Option ℕ) MemoryFault
answer_of (Load p) i = within (size_of i) p (Some (word_at i.working p))
answer_of (Store p v) i = within (size_of i) p None
answer_of (Flush p) i = within (size_of i) p None
answer_of (Evict p) i = within (size_of i) p None
answer_of Cut i = Ok None
