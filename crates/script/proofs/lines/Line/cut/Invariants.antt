use Rattle.std.proofs.Common.{map}
use Rattle.script.specs.Lines.{WordsAre}
use Rattle.script.proofs.lines.Line.cut.Given as goal

abbrev pub invariant-loop-word : goal.invariant-loop-word
invariant-loop-word l = record {
  can_next : (goal.iterator-loop-word).can_next l.word-iterator;
  is_finite : (goal.iterator-loop-word).is_finite l.word-iterator;
  words : WordsAre (map (λ x. x.now) l.yielded) l.line;
}
