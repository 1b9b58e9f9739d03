use Rattle.std.proofs.Common.{vec_items}
use Rattle.script.proofs.Turns.{SoFar}
use Rattle.script.proofs.read.read_script.Given as goal

abbrev pub invariant-loop-line : goal.invariant-loop-line
invariant-loop-line l = record {
  can_next : (goal.iterator-loop-line).can_next l.line-iterator;
  is_finite : (goal.iterator-loop-line).is_finite l.line-iterator;
  so_far : SoFar l.yielded l.ready (vec_items l.steps) l.refused;
}
