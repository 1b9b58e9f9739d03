use Rattle.script.proofs.Spaced.{pieces_more}
use Rattle.script.proofs.lines.Line.cut.Goals as goal

pub loop-word-preserved : goal.loop-word-preserved
loop-word-preserved c = record {
  can_next = tt;
  is_finite = tt;
  words = pieces_more _ _ _ _ c.loop-word.invariant.words c.in_ok-add_word.ensures;
}
