-- Words one space apart, one word after the other.
use Rattle.std.proofs.Common.{◌≡◌, ℕ, false, cond, eqb, List, [], ◌∷◌, ◌++◌, map, length, vec_len, codes, ap, ◌∙◌, append_assoc, append-nil, arith, Bor}
use Rattle.std.proofs.lemmas.List.{length-map, map-append}
use Rattle.std.proofs.lemmas.Bool.{ne_eqb}
use Rattle.script.specs.Language.{Word, after_word, line_text}
use Rattle.script.specs.Lines.{WithWord, WordsAre}
use Rattle.script.specs.Tokens.{token_of}
use Rattle.script.specs.declared.lines.Line.{Line}

after_push : (ws : List Word) (w : Word) → after_word (ws ++ (w ∷ [])) ≡ after_word ws ++ (codes " " ++ w)
after_push [] w = simp append-nil
after_push (v ∷ vs) w = simp (after_push vs w, append_assoc)

-- No space before the first word, one before each other.
abbrev pub gap : ℕ → Word
gap n = cond (eqb n 0) [] (codes " ")

text_push : (ws : List Word) (w : Word) → line_text (ws ++ (w ∷ [])) ≡ (line_text ws ++ gap (length ws)) ++ w
text_push [] w = append-nil w
text_push (v ∷ vs) w =
    let some : eqb (length (v ∷ vs)) 0 ≡ false = ne_eqb (length (v ∷ vs)) 0 (λ e. omega arith) in
    simp (after_push vs w, append_assoc, some)

pub words_more : (ws : List Word) (w : Word) (line longer : Line) → WordsAre ws line → WithWord line w longer → WordsAre (ws ++ (w ∷ [])) longer
words_more ws w line longer are more =
    let count : vec_len line.tokens ≡ length ws = line.tokens.ok.0 ∙ ap length are.tokens ∙ length-map ws token_of in
    record {
      text = more.text ∙ simp (are.text, count, text_push ws w);
      tokens = more.tokens ∙ simp (are.tokens, map-append);
    }

-- The same where the words are those that references point to.
pub pieces_more : (rs : List (Bor Word)) (r : Bor Word) (line longer : Line) → WordsAre (map (λ x. x.now) rs) line → WithWord line r.now longer
    → WordsAre (map (λ x. x.now) (rs ++ (r ∷ []))) longer
pieces_more rs r line longer are more = rw (map-append (λ x. x.now) rs (r ∷ [])) (words_more (map (λ x. x.now) rs) r.now line longer are more)
