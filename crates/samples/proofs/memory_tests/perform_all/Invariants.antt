use Rattle.std.proofs.Common.{◌≡◌, fold, take}
use Rattle.memories.specs.Back.{back_after, back_held, back_image}
use Rattle.samples.proofs.memory_tests.perform_all.Given as goal

abbrev pub invariant-loop-call : goal.invariant-loop-call
invariant-loop-call l = record {
  words : back_image l.memory ≡ fold back_after (back_image l.initial.memory) (take l.call-index l.calls);
  held : back_held l.memory ≡ back_held l.initial.memory;
}
