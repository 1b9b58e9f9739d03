-- The first words of two tables: where both have one length, and once one of them is written to.
use Rattle.std.proofs.Common.{◌≡◌, ℕ, ◌<◌, List, length, set, arith, length-set}
use Rattle.std.proofs.lemmas.List.{get_or-take, take_all}
use Rattle.std.proofs.Math.Seq.{take-set-lt}
use Rattle.memory.specs.Image.{word_at}
use Rattle.memories.specs.Back.{copied}
use Rattle.memories.specs.Tables.{front, image_of, lent_by, shorter}

pub level_whole : (working lasting : List ℕ) → length lasting ≡ length working → lent_by working lasting ≡ image_of working lasting
level_whole working lasting level = simp (take_all (shorter working lasting) working (omega arith), take_all (shorter lasting working) lasting (omega arith))

pub working_set : (working lasting : List ℕ) (p v : ℕ) → p < shorter working lasting
    → lent_by (set working p v) lasting ≡ image_of (set (front working lasting) p v) (front lasting working)
working_set working lasting p v inside = simp (length-set working p v, take-set-lt (shorter working lasting) working p v inside)

pub lasting_set : (working lasting : List ℕ) (p : ℕ) → p < shorter working lasting
    → lent_by working (set lasting p (word_at working p)) ≡ copied p (lent_by working lasting)
lasting_set working lasting p inside =
    let v = word_at working p in
    let other : p < shorter lasting working = omega arith in
    let word = get_or-take (shorter working lasting) working p 0 inside in
    simp (length-set lasting p v, take-set-lt (shorter lasting working) lasting p v other, word)
