-- Whole scripts: what all lines say, or the first that is refused.
use Rattle.std.specs.Prelude.{◌≡◌, ℕ, ◌+◌, ◌<◌, Bool, true, false, List, [], ◌∷◌, length, map, Some, None, Ok, Err, vec_items, Option, Result}
use Rattle.std.specs.Str.Lines.{IsFirstLine as FirstLine}
use Rattle.script.specs.Lines.{CutFrom}
use Rattle.script.specs.Reading.{understood}
use Rattle.script.specs.declared.commands.Command.{Command}
use Rattle.script.specs.declared.flaws.Flaw.{Flaw}
use Rattle.script.specs.declared.lines.Line.{Line}
use Rattle.script.specs.declared.scripts.Script.{Script}
use Rattle.script.specs.declared.scripts.Step.{Step}
use Rattle.script.specs.declared.read.Unread.{Unread}
use Rattle.script.specs.declared.read.Unread.TheVariants as unread

-- What the lines say, one after the other, or the index of the first that is refused, and why.
abbrev pub Outcome : Type 0
Outcome = Result (List (Option Command)) (ℕ × Flaw)

-- After a line that is a command there is a memory: the first command can only be a memory line.
abbrev pub made_by : Bool → Option Command → Bool
made_by ready None = ready
made_by ready (Some c) = true

-- One line before the others.
abbrev pub before : Option Command → Outcome → Outcome
before c (Ok cs) = Ok (c ∷ cs)
before c (Err x) = Err (x.0 + 1, x.1)

-- The first line's answer, and then the others'; after a refused line nothing is looked at.
abbrev pub first_then : Result (Option Command) Flaw → (Option Command → Outcome) → Outcome
first_then (Ok c) rest = before c (rest c)
first_then (Err flaw) rest = Err (0, flaw)

-- What some lines say, where `ready` tells whether a memory was made before them.
abbrev pub script_from : Bool → List Line → Outcome
script_from ready [] = Ok []
script_from ready (line ∷ rest) = first_then (understood ready (vec_items line.tokens)) (λ c. script_from (made_by ready c) rest)

-- What a whole script says: no memory is made before its first line.
abbrev pub script_of : List Line → Outcome
script_of lines = script_from false lines

-- The lines of some steps, and what each of them says.
abbrev pub lines_of : List Step → List Line
lines_of steps = map (λ (s : Step). s.line) steps

abbrev pub commands_of : List Step → List (Option Command)
commands_of steps = map (λ (s : Step). s.command) steps

-- The lines of a text: the first at its beginning, as the library cuts it, and those of the rest.
abbrev pub LinesIn : List ℕ → List (List ℕ) → Type 0
LinesIn text [] = length text ≡ 0
LinesIn text (line ∷ lines) = (rest : List ℕ) × (0 < length text) × FirstLine text line rest × LinesIn rest lines

-- Each line is one of the texts cut into its words, in their order.
abbrev pub CutAs : List (List ℕ) → List Line → Type 0
CutAs [] [] = Unit {0}
CutAs [] (line ∷ lines) = ⊥
CutAs (text ∷ texts) [] = ⊥
CutAs (text ∷ texts) (line ∷ lines) = CutFrom text line × CutAs texts lines

-- The lines of a script, cut into words.
abbrev pub LinesOf : List ℕ → List Line → Type 0
LinesOf text lines = (texts : List (List ℕ)) × LinesIn text texts × CutAs texts lines

-- The text is a script, and this is it: its lines, and what each of them says.
abbrev pub Understood : List ℕ → Script → Type 0
Understood text script =
    LinesOf text (lines_of (vec_items script.steps))
    × (script_of (lines_of (vec_items script.steps)) ≡ Ok (commands_of (vec_items script.steps)))

-- It is refused for the first of its lines that is, or there was no memory to hold it.
abbrev pub RefusedFor : List ℕ → Unread → Type 0
RefusedFor text (unread.Line index flaw) = (lines : List Line) × LinesOf text lines × (script_of lines ≡ Err (index, flaw))
RefusedFor text unread.NoRoom = Unit {0}
