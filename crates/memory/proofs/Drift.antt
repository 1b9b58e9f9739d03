-- What proofs use of drift. Only the lemmas on one word look into `Settles`; all else goes through them.
use Rattle.std.proofs.Common.{◌≡◌, ℕ, ◌<◌, List, length, set, sym, refl, ◌∙◌, subst, inl, inr, ⊎_elim, length-set, get_or-set_other, get_or-set_same}
use Rattle.std.proofs.lemmas.List.{ext_get_or}
use Rattle.std.proofs.lemmas.Bool.{cases_eq}
use Rattle.memory.specs.Drift.{Drift, Settles}
use Rattle.memory.specs.Image.{word_at}

-- One word may stay.
pub settles_stay : (working before : ℕ) → Settles working before before
settles_stay working before = inl refl

-- It may take the working word.
pub settles_take : (working before : ℕ) → Settles working before working
settles_take working before = inr refl

-- Two drifts under the same working word are one.
pub settles_then : (working before between after : ℕ) → Settles working before between → Settles working between after → Settles working before after
settles_then working before between after first (inl stays) = subst (λ (x : ℕ). Settles working before x) (sym stays) first
settles_then working before between after first (inr takes) = inr takes

-- A word that equals the working word already stays what it is.
pub settles_settled : (working after : ℕ) → Settles working working after → after ≡ working
settles_settled working after (inl stays) = stays
settles_settled working after (inr takes) = takes

-- All words may stay.
pub drift_none : (working before : List ℕ) → Drift working before before
drift_none working before = record { long = refl; each = λ p. settles_stay (word_at working p) (word_at before p) }

-- Word p alone may take its working word.
pub drift_one : (working before : List ℕ) (p : ℕ) → p < length before → Drift working before (set before p (word_at working p))
drift_one working before p inside =
    record {
      long = length-set before p (word_at working p);
      each = λ k.
          ⊎_elim
          (λ (same : k ≡ p). rw same (rw (get_or-set_same before p (word_at working p) 0 inside) (settles_take (word_at working p) (word_at before p))))
          (λ (other : k ≡ p → ⊥). rw (get_or-set_other before p k (word_at working p) 0 other) (settles_stay (word_at working k) (word_at before k)))
          (cases_eq k p);
    }

-- Two drifts under the same working words are one.
pub drift_then : (working before between after : List ℕ) → Drift working before between → Drift working between after → Drift working before after
drift_then working before between after first second =
    record {
      long = second.long ∙ first.long;
      each = λ p. settles_then (word_at working p) (word_at before p) (word_at between p) (word_at after p) (first.each p) (second.each p);
    }

-- Words that all last already stay what they are.
pub drift_settled : (working after : List ℕ) → Drift working working after → after ≡ working
drift_settled working after drift =
    ext_get_or 0 after working drift.long (λ p _. settles_settled (word_at working p) (word_at after p) (drift.each p))
