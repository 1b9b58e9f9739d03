-- A script line by line: what the lines so far say stands before what the others say.
use Rattle.std.proofs.Common.{◌≡◌, ℕ, ◌+◌, ◌||◌, Bool, true, false, is_some, List, [], ◌∷◌, ◌++◌, map, length, vec_items, Some, None, Ok, Err, Option, Result, sym, refl, ap, ◌∙◌, subst, append_assoc, append-nil, length-append, arith, Bor}
use Rattle.std.proofs.lemmas.List.{length-map, map-append}
use Rattle.script.specs.Lines.{CutFrom}
use Rattle.script.specs.Reading.{understood}
use Rattle.script.specs.Scripts.{CutAs, LinesIn, LinesOf, Outcome, before, commands_of, first_then, lines_of, made_by, script_from, script_of}
use Rattle.script.specs.declared.commands.Command.{Command}
use Rattle.script.specs.declared.flaws.Flaw.{Flaw}
use Rattle.script.specs.declared.lines.Line.{Line}
use Rattle.script.specs.declared.scripts.Step.{Step}
use Rattle.script.proofs.Pieces.{pieces_cut}

-- What is said by lines whose commands are these, with what the lines after them say.
abbrev pub joined : List (Option Command) → Outcome → Outcome
joined done (Ok cs) = Ok (done ++ cs)
joined done (Err x) = Err (length done + x.0, x.1)

-- Before no line there is nothing.
joined_none : (o : Outcome) → o ≡ joined [] o
joined_none (Ok cs) = refl
joined_none (Err x) = ap (λ (n : ℕ). Err (n, x.1)) (omega arith)

-- One command more is said by the lines before, or by the first of the others.
joined_before : (done : List (Option Command)) (c : Option Command) (o : Outcome) → joined done (before c o) ≡ joined (done ++ (c ∷ [])) o
joined_before done c (Ok cs) = ap (λ (xs : List (Option Command)). Ok xs) (sym (append_assoc done (c ∷ []) cs))
joined_before done c (Err x) =
    let long : length (done ++ (c ∷ [])) ≡ length done + 1 = length-append done (c ∷ []) in
    let same : length done + (x.0 + 1) ≡ length (done ++ (c ∷ [])) + x.0 = omega arith in
    ap (λ (n : ℕ). Err (n, x.1)) same

-- What some lines say, whatever lines come after them: these steps, with `ready` for whether a memory is made by then,
-- or that this one of them is refused.
abbrev pub Said : List Line → Bool → List Step → Option (ℕ × Flaw) → Type 0
Said lines ready steps None =
    (lines_of steps ≡ lines) × ((rest : List Line) → script_of (lines ++ rest) ≡ joined (commands_of steps) (script_from ready rest))
Said lines ready steps (Some why) = (rest : List Line) → script_of (lines ++ rest) ≡ Err why

said_none : Said [] false [] None
said_none = (refl, λ rest. joined_none (script_from false rest))

-- A memory is made by a line if it was before it, or if the line is a command.
made_or : (ready : Bool) (c : Option Command) → made_by ready c ≡ (ready || is_some c)
made_or true None = refl
made_or false None = refl
made_or true (Some c) = refl
made_or false (Some c) = refl

-- One line more begins what the others say.
opened : (lines : List Line) (line : Line) (ready : Bool) (steps : List Step) (r : Result (Option Command) Flaw) (rest : List Line)
    → Said lines ready steps None → understood ready (vec_items line.tokens) ≡ r
    → script_of ((lines ++ (line ∷ [])) ++ rest) ≡ joined (commands_of steps) (first_then r (λ c. script_from (made_by ready c) rest))
opened lines line ready steps r rest so says =
    ap script_of (append_assoc lines (line ∷ []) rest)
    ∙ so.1 (line ∷ rest)
    ∙ ap (λ (s : Result (Option Command) Flaw). joined (commands_of steps) (first_then s (λ c. script_from (made_by ready c) rest))) says

-- One line more, which says this.
said_more : (lines : List Line) (line : Line) (ready : Bool) (steps : List Step) (c : Option Command)
    → Said lines ready steps None → understood ready (vec_items line.tokens) ≡ Ok c
    → Said (lines ++ (line ∷ [])) (ready || is_some c) (steps ++ (record { line = line; command = c } ∷ [])) None
said_more lines line ready steps c so says =
    let step : Step = record { line = line; command = c } in (
      map-append (λ (s : Step). s.line) steps (step ∷ []) ∙ ap (λ (ls : List Line). ls ++ (line ∷ [])) so.0,
      λ rest.
          opened lines line ready steps (Ok c) rest so says
          ∙ joined_before (commands_of steps) c (script_from (made_by ready c) rest)
          ∙ ap (λ (b : Bool). joined (commands_of steps ++ (c ∷ [])) (script_from b rest)) (made_or ready c)
          ∙ ap (λ (cs : List (Option Command)). joined cs (script_from (ready || is_some c) rest)) (sym (map-append (λ (s : Step). s.command) steps (step ∷ []))),
    )

-- One line more, which is refused.
said_flaw : (lines : List Line) (line : Line) (ready : Bool) (steps : List Step) (flaw : Flaw)
    → Said lines ready steps None → understood ready (vec_items line.tokens) ≡ Err flaw
    → Said (lines ++ (line ∷ [])) ready steps (Some (length steps, flaw))
said_flaw lines line ready steps flaw so says =
    λ rest.
    opened lines line ready steps (Err flaw) rest so says
    ∙ ap (λ (n : ℕ). Err (n, flaw)) (omega (arith, length-map steps (λ (s : Step). s.command)))

-- One line more, after a refused one.
said_still : (lines : List Line) (line : Line) (ready : Bool) (steps : List Step) (why : ℕ × Flaw)
    → Said lines ready steps (Some why) → Said (lines ++ (line ∷ [])) ready steps (Some why)
said_still lines line ready steps why so = λ rest. ap script_of (append_assoc lines (line ∷ []) rest) ∙ so (line ∷ rest)

-- The pieces of a text so far, cut into lines, say this.
pub record SoFar (pieces : List (Bor (List ℕ))) (ready : Bool) (steps : List Step) (refused : Option (ℕ × Flaw)) : Type 0 where
  pub lines : List Line
  pub cut : CutAs (map (λ x. x.now) pieces) lines
  pub said : Said lines ready steps refused

-- No piece says nothing.
pub so_far_none : SoFar [] false [] None
so_far_none = record { lines = []; cut = tt; said = said_none }

-- One piece more, which is understood, where none was refused.
pub so_far_more : (pieces : List (Bor (List ℕ))) (r : Bor (List ℕ)) (ready : Bool) (steps : List Step) (refused : Option (ℕ × Flaw)) (line : Line) (c : Option Command)
    → SoFar pieces ready steps refused → CutFrom r.now line → is_some refused ≡ false → understood ready (vec_items line.tokens) ≡ Ok c
    → SoFar (pieces ++ (r ∷ [])) (ready || is_some c) (steps ++ (record { line = line; command = c } ∷ [])) refused
so_far_more pieces r ready steps None line c so cut none says =
    record { lines = so.lines ++ (line ∷ []); cut = pieces_cut pieces r so.lines line so.cut cut; said = said_more so.lines line ready steps c so.said says }
so_far_more pieces r ready steps (Some why) line c so cut none says = absurd (grind arith)

-- One piece more, which is the first to be refused.
pub so_far_flaw : (pieces : List (Bor (List ℕ))) (r : Bor (List ℕ)) (ready : Bool) (steps : List Step) (refused : Option (ℕ × Flaw)) (line : Line) (flaw : Flaw)
    → SoFar pieces ready steps refused → CutFrom r.now line → is_some refused ≡ false → understood ready (vec_items line.tokens) ≡ Err flaw
    → SoFar (pieces ++ (r ∷ [])) ready steps (Some (length steps, flaw))
so_far_flaw pieces r ready steps None line flaw so cut none says =
    record { lines = so.lines ++ (line ∷ []); cut = pieces_cut pieces r so.lines line so.cut cut; said = said_flaw so.lines line ready steps flaw so.said says }
so_far_flaw pieces r ready steps (Some why) line flaw so cut none says = absurd (grind arith)

-- One piece more, where one was refused before it.
pub so_far_still : (pieces : List (Bor (List ℕ))) (r : Bor (List ℕ)) (ready : Bool) (steps : List Step) (refused : Option (ℕ × Flaw)) (line : Line)
    → SoFar pieces ready steps refused → CutFrom r.now line → is_some refused ≡ true → SoFar (pieces ++ (r ∷ [])) ready steps refused
so_far_still pieces r ready steps None line so cut some = absurd (grind arith)
so_far_still pieces r ready steps (Some why) line so cut some =
    record { lines = so.lines ++ (line ∷ []); cut = pieces_cut pieces r so.lines line so.cut cut; said = said_still so.lines line ready steps why so.said }

-- What all lines of a text say, where none is refused.
pub all_understood : (text : List ℕ) (pieces : List (Bor (List ℕ))) (ready : Bool) (steps : List Step) (refused : Option (ℕ × Flaw))
    → LinesIn text (map (λ x. x.now) pieces) → SoFar pieces ready steps refused → refused ≡ None
    → LinesOf text (lines_of steps) × (script_of (lines_of steps) ≡ Ok (commands_of steps))
all_understood text pieces ready steps refused are so none =
    let all = subst (λ (o : Option (ℕ × Flaw)). SoFar pieces ready steps o) none so in (
      (map (λ x. x.now) pieces, are, subst (λ (ls : List Line). CutAs (map (λ x. x.now) pieces) ls) (sym all.said.0) all.cut),
      ap script_of (all.said.0 ∙ sym (append-nil all.lines)) ∙ all.said.1 [] ∙ ap (λ (cs : List (Option Command)). Ok cs) (append-nil (commands_of steps)),
    )

-- What all lines of a text say, where one is refused.
pub all_refused : (text : List ℕ) (pieces : List (Bor (List ℕ))) (ready : Bool) (steps : List Step) (refused : Option (ℕ × Flaw)) (why : ℕ × Flaw)
    → LinesIn text (map (λ x. x.now) pieces) → SoFar pieces ready steps refused → refused ≡ Some why
    → (lines : List Line) × LinesOf text lines × (script_of lines ≡ Err why)
all_refused text pieces ready steps refused why are so some =
    let all = subst (λ (o : Option (ℕ × Flaw)). SoFar pieces ready steps o) some so in
    (all.lines, (map (λ x. x.now) pieces, are, all.cut), ap script_of (sym (append-nil all.lines)) ∙ all.said [])
