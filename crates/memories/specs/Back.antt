-- The write-back memory: which table is which list, and what each call does exactly.
use Rattle.std.specs.Prelude.{ℕ, List, [], ◌∷◌, cond, is_ok, slice_set}
use Rattle.std.proofs.Common.{ap, get_or-set_same}
use Rattle.memory.specs.Calls.{answer_of}
use Rattle.memory.specs.Held.{Loan, loan}
use Rattle.memory.specs.Image.{Image, Level, word_at}
use Rattle.memory.specs.declared.calls.Call.{Call}
use Rattle.memory.specs.declared.calls.Call.TheVariants.{Load, Store, Flush, Evict, Cut}
use Rattle.memories.specs.Tables.{Saves, image_of, lent_by, lent_level, rest_of}
use Rattle.memories.specs.declared.write_back.WriteBack.{WriteBack}

-- The first words of one table are the working list, those of the other the lasting list.
abbrev pub back_image : WriteBack → Image
back_image m = lent_by m.working.now m.lasting.now

-- Both lists have the length of the shorter table.
pub back_level : (m : WriteBack) → Level (back_image m)
back_level m = lent_level m.working.now m.lasting.now

-- The tables that it holds, and their words past the size.
abbrev pub back_held : WriteBack → List Loan
back_held m =
    loan m.working.ghost_name (rest_of m.working.now m.lasting.now)
    ∷ loan m.lasting.ghost_name (rest_of m.lasting.now m.working.now) ∷ []

-- Word p alone is copied from the working list to the lasting one.
abbrev pub copied : ℕ → Image → Image
copied p i = image_of i.working (slice_set i.lasting p (word_at i.working p))

-- A store touches the working word alone, a flush and an evict copy word p alone, and a cut keeps all lasting words.
abbrev pub back_does : Call → Image → Image
back_does (Load p) i = i
back_does (Store p v) i = image_of (slice_set i.working p v) i.lasting
back_does (Flush p) i = copied p i
back_does (Evict p) i = copied p i
back_does Cut i = image_of i.lasting i.lasting

-- What a call leaves: what it does where it is granted, and every word as it was where it is refused.
abbrev pub back_after : Image → Call → Image
back_after i call = cond (is_ok (answer_of call i)) (back_does call i) i

-- What is flushed is the word that was stored.
pub back_saves : Saves back_does
back_saves i p v inside = ap (λ (word : ℕ). image_of (slice_set i.working p v) (slice_set i.lasting p word)) (get_or-set_same i.working p v 0 inside)
