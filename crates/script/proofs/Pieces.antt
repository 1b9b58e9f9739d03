-- The library's iterators give the words of a text, and its lines.
use Rattle.std.proofs.Common.{◌≡◌, ℕ, List, [], ◌∷◌, ◌++◌, map, length, sym, ap, ◌∙◌, subst, Bor}
use Rattle.std.proofs.lemmas.List.{map-append}
use Rattle.std.specs.Iterator.{Yields}
use Rattle.std.specs.Str.Iter.{lines_rest, split_whitespace_rest, lines_steps, split_whitespace_steps}
use Rattle.std.specs.Str.{NoCharPasses}
use Rattle.std.specs.Char.{is_not_whitespace}
use Rattle.std.specs.declared.str.Lines.{Lines}
use Rattle.std.specs.declared.str.SplitWhitespace.{SplitWhitespace}
use Rattle.script.specs.Lines.{CutFrom, WordsIn}
use Rattle.script.specs.Scripts.{CutAs, LinesIn}
use Rattle.script.specs.declared.lines.Line.{Line}

pub words_in_text : (xs : List (Bor (List ℕ))) (s t : SplitWhitespace) → Yields split_whitespace_steps s xs t → NoCharPasses is_not_whitespace (split_whitespace_rest t)
    → WordsIn (split_whitespace_rest s) (map (λ x. x.now) xs)
words_in_text [] s t y none = subst (λ (j : SplitWhitespace). NoCharPasses is_not_whitespace (split_whitespace_rest j)) (sym y) none
words_in_text (x ∷ xs) s t y none =
    (y.1.0, split_whitespace_rest y.0, y.1.1, y.1.3, y.1.2, y.1.4, y.1.5, words_in_text xs y.0 t y.2 none)

pub lines_in_text : (xs : List (Bor (List ℕ))) (s t : Lines) → Yields lines_steps s xs t → length (lines_rest t) ≡ 0 → LinesIn (lines_rest s) (map (λ x. x.now) xs)
lines_in_text [] s t y none = ap (λ (j : Lines). length (lines_rest j)) y ∙ none
lines_in_text (x ∷ xs) s t y none = (lines_rest y.0, y.1.0.0, y.1.0.2, lines_in_text xs y.0 t y.2 none)

-- The same of an iterator that begins as one over the text.
pub lines_of_text : (text : List ℕ) (xs : List (Bor (List ℕ))) (i s t : Lines) → Yields lines_steps s xs t → s ≡ i → lines_rest i ≡ text
    → length (lines_rest t) ≡ 0 → LinesIn text (map (λ x. x.now) xs)
lines_of_text text xs i s t y same e none =
    subst (λ (all : List ℕ). LinesIn all (map (λ x. x.now) xs)) (ap lines_rest same ∙ e) (lines_in_text xs s t y none)

-- One line more.
pub cut_more : (texts : List (List ℕ)) (lines : List Line) (text : List ℕ) (line : Line) → CutAs texts lines → CutFrom text line
    → CutAs (texts ++ (text ∷ [])) (lines ++ (line ∷ []))
cut_more [] [] text line are cut = (cut, tt)
cut_more [] (l ∷ lines) text line are cut = absurd are
cut_more (t ∷ texts) [] text line are cut = absurd are
cut_more (t ∷ texts) (l ∷ lines) text line are cut = (are.0, cut_more texts lines text line are.1 cut)

-- The same where the texts are those that references point to.
pub pieces_cut : (rs : List (Bor (List ℕ))) (r : Bor (List ℕ)) (lines : List Line) (line : Line) → CutAs (map (λ x. x.now) rs) lines → CutFrom r.now line
    → CutAs (map (λ x. x.now) (rs ++ (r ∷ []))) (lines ++ (line ∷ []))
pieces_cut rs r lines line are cut = rw (map-append (λ x. x.now) rs (r ∷ [])) (cut_more (map (λ x. x.now) rs) lines r.now line are cut)
