-- How it is shown why a script is refused.
use Rattle.std.specs.Prelude.{ℕ, ◌+◌, ◌^◌, ◌-◌, List, ◌++◌, codes, decimal, min}
use Rattle.script.specs.declared.flaws.Flaw.{Flaw}
use Rattle.script.specs.declared.flaws.Flaw.TheVariants.{NoSuchCall, NoSuchMemory, TooFewWords, TooManyWords, NotANumber, NoMemory}
use Rattle.script.specs.declared.read.Unread.{Unread}
use Rattle.script.specs.declared.read.Unread.TheVariants as unread

-- Why a line is no command.
abbrev pub flaw_text : Flaw → List ℕ
flaw_text NoSuchCall = codes "no such call"
flaw_text NoSuchMemory = codes "no such memory: it is back or through"
flaw_text TooFewWords = codes "too few words"
flaw_text TooManyWords = codes "too many words"
flaw_text (NotANumber word) = codes "word " ++ (decimal word ++ codes " is not a number that fits")
flaw_text NoMemory = codes "a call before any memory"

-- People count lines from 1. The last number that there is stands for all beyond it.
abbrev pub line_number : ℕ → ℕ
line_number index = min (index + 1) (2 ^ 64 - 1)

-- Why a script is not carried out.
abbrev pub unread_text : Unread → List ℕ
unread_text (unread.Line index flaw) = codes "line " ++ (decimal (line_number index) ++ (codes ": " ++ flaw_text flaw))
unread_text unread.NoRoom = codes "no memory left to hold the script"
