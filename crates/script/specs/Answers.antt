-- What a command answers of a memory, how that is shown, and what it does to the words.
use Rattle.std.specs.Prelude.{◌≡◌, ℕ, List, ◌++◌, Some, None, Ok, Err, codes, decimal, Option, Result}
use Rattle.memory.specs.Calls.{Leaves, answer_of}
use Rattle.memory.specs.Image.{Image, size_of}
use Rattle.memory.specs.declared.calls.Call.{Call}
use Rattle.memory.specs.declared.refusals.MemoryFault.{MemoryFault}
use Rattle.script.specs.declared.answers.Answer.{Answer}
use Rattle.script.specs.declared.answers.Answer.TheVariants as answer
use Rattle.script.specs.declared.commands.Command.{Command}
use Rattle.script.specs.declared.commands.Command.TheVariants as command

-- The answer of a granted call: nothing, or a word.
abbrev pub word_answer : Option ℕ → Answer
word_answer None = answer.Done
word_answer (Some word) = answer.Value word

-- The answer of a call, or its refusal.
abbrev pub call_answer : Result (Option ℕ) MemoryFault → Result Answer MemoryFault
call_answer (Ok word) = Ok (word_answer word)
call_answer (Err fault) = Err fault

-- The answer of a memory that holds these words, or its refusal. A memory line and `words` ask nothing of it.
abbrev pub answered : Command → Image → Result Answer MemoryFault
answered (command.Memory kind places) i = Ok answer.Done
answered (command.Call call) i = call_answer (answer_of call i)
answered command.Size i = Ok (answer.Size (size_of i))
answered command.Words i = Ok answer.Done

-- Only a call can change words.
abbrev pub Asked : (Call → Image → Image → Type 0) → Command → Image → Image → Type 0
Asked exact (command.Memory kind places) i j = j ≡ i
Asked exact (command.Call call) i j = Leaves exact call i (answer_of call i) j
Asked exact command.Size i j = j ≡ i
Asked exact command.Words i j = j ≡ i

-- An answer as it is shown: `ok`, `value WORD` or the size.
abbrev pub answer_text : Answer → List ℕ
answer_text answer.Done = codes "ok"
answer_text (answer.Value word) = codes "value " ++ decimal word
answer_text (answer.Size places) = decimal places
