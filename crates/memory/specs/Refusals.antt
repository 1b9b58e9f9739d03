-- Refusals: what one tells, how it is shown, and when a memory refuses.
use Rattle.std.specs.Prelude.{ℕ, cond, List, ◌++◌, Ok, Err, codes, decimal, Result, nat_lt}
use Rattle.memory.specs.declared.refusals.Layer.{Layer}
use Rattle.memory.specs.declared.refusals.Layer.TheVariants.{Memory, Log, Engine}
use Rattle.memory.specs.declared.refusals.Refusal.{Refusal}
use Rattle.memory.specs.declared.refusals.MemoryFault.{MemoryFault}

-- What a refusal of the memory tells: number 13, found by the memory, at the place that was asked for.
abbrev pub tells : MemoryFault → Refusal
tells fault = record { number = 13; layer = Memory; place = fault.place }

-- The layer's name as it is shown.
abbrev pub layer_text : Layer → List ℕ
layer_text Memory = codes "memory"
layer_text Log = codes "log"
layer_text Engine = codes "engine"

-- A refusal as it is shown: `refused NUMBER LAYER PLACE`.
abbrev pub refusal_text : Refusal → List ℕ
refusal_text refusal =
    codes "refused " ++ (decimal refusal.number ++ (codes " " ++ (layer_text refusal.layer ++ (codes " " ++ decimal refusal.place))))

-- The refusal of place p.
abbrev pub beyond : ℕ → MemoryFault
beyond p = record { place = p }

-- The answer where p is below the size, and refusal 13 at p exactly where it is not.
abbrev pub within : {A : Type 0} → ℕ → ℕ → A → Result A MemoryFault
within size p answer = cond (nat_lt p size) (Ok answer) (Err (beyond p))
