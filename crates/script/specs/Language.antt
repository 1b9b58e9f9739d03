-- The rig's language: the words that each command is written as. A word is the list of its bytes.
use Rattle.std.specs.Prelude.{ℕ, List, [], ◌∷◌, ◌++◌, codes, decimal}
use Rattle.memory.specs.declared.calls.Call.TheVariants.{Load, Store, Flush, Evict, Cut}
use Rattle.script.specs.declared.commands.Command.{Command}
use Rattle.script.specs.declared.commands.Command.TheVariants as command
use Rattle.script.specs.declared.commands.Kind.{Kind}
use Rattle.script.specs.declared.commands.Kind.TheVariants.{Back, Through}

abbrev pub Word : Type 0
Word = List ℕ

-- The word for a kind of memory.
abbrev pub kind_name : Kind → Word
kind_name Back = codes "back"
kind_name Through = codes "through"

-- The words of a command.
abbrev pub words_of : Command → List Word
words_of (command.Memory kind places) = codes "memory" ∷ kind_name kind ∷ decimal places ∷ []
words_of (command.Call (Load p)) = codes "load" ∷ decimal p ∷ []
words_of (command.Call (Store p v)) = codes "store" ∷ decimal p ∷ decimal v ∷ []
words_of (command.Call (Flush p)) = codes "flush" ∷ decimal p ∷ []
words_of (command.Call (Evict p)) = codes "evict" ∷ decimal p ∷ []
words_of (command.Call Cut) = codes "cut" ∷ []
words_of command.Size = codes "size" ∷ []
words_of command.Words = codes "words" ∷ []

-- What follows the first of some words that stand one space apart.
abbrev pub after_word : List Word → List ℕ
after_word [] = []
after_word (w ∷ ws) = codes " " ++ (w ++ after_word ws)

-- Words one space apart.
abbrev pub line_text : List Word → List ℕ
line_text [] = []
line_text (w ∷ ws) = w ++ after_word ws
