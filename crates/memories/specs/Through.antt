-- The write-through memory: one table is both lists.
use Rattle.std.specs.Prelude.{List, [], ◌∷◌, slice_set, refl}
use Rattle.memory.specs.Held.{Loan, loan}
use Rattle.memory.specs.Image.{Image, Level}
use Rattle.memory.specs.declared.calls.Call.{Call}
use Rattle.memory.specs.declared.calls.Call.TheVariants.{Load, Store, Flush, Evict, Cut}
use Rattle.memories.specs.Tables.{image_of}
use Rattle.memories.specs.declared.write_through.WriteThrough.{WriteThrough}

-- The one table is the working list and the lasting list.
abbrev pub through_image : WriteThrough → Image
through_image m = image_of m.words.now m.words.now

-- So they have one length.
pub through_level : (m : WriteThrough) → Level (through_image m)
through_level m = refl

-- The table that it holds. All words of it are the memory's.
abbrev pub through_held : WriteThrough → List Loan
through_held m = loan m.words.ghost_name [] ∷ []

-- A store makes word p last at once; no other call changes a word.
abbrev pub through_does : Call → Image → Image
through_does (Load p) i = i
through_does (Store p v) i = image_of (slice_set i.working p v) (slice_set i.lasting p v)
through_does (Flush p) i = i
through_does (Evict p) i = i
through_does Cut i = i
