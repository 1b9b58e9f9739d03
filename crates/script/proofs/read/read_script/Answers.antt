use Rattle.std.proofs.Common.{sym, ◌∙◌}
use Rattle.script.proofs.Pieces.{lines_of_text}
use Rattle.script.proofs.Turns.{all_refused, all_understood, so_far_still}
use Rattle.script.proofs.read.read_script.Goals as goal

pub loop-line-preserved-then-is_some : goal.loop-line-preserved-then-is_some
loop-line-preserved-then-is_some c = record {
  can_next = tt;
  is_finite = tt;
  so_far = so_far_still _ _ _ _ _ _ c.loop-line.invariant.so_far c.in_ok-line.ensures (sym c.is_some.ensures ∙ c.if-is_some.true);
}

pub returns-in-Some-refused-clause-read : goal.returns-in-Some-refused-clause-read
returns-in-Some-refused-clause-read c =
    let begins = c.into_iter-line-iterator.ensures.into_iter_gives in
    let are = lines_of_text _ _ _ _ _ c.loop-line.yielded_by begins c.lines-line-items.ensures.rest c.in-None.ensures.steps.0.0 in
    all_refused _ _ _ _ _ _ are c.loop-line.invariant.so_far c.in-Some-refused.is

pub returns-in-None-refused-clause-read : goal.returns-in-None-refused-clause-read
returns-in-None-refused-clause-read c =
    let begins = c.into_iter-line-iterator.ensures.into_iter_gives in
    let are = lines_of_text _ _ _ _ _ c.loop-line.yielded_by begins c.lines-line-items.ensures.rest c.in-None.ensures.steps.0.0 in
    all_understood _ _ _ _ _ are c.loop-line.invariant.so_far c.in-None-refused.is
