use Rattle.std.proofs.Common.{◌≡◌, fold, take}
use Rattle.memories.specs.Back.{back_after}
use Rattle.memories.specs.Tables.{lent_by, rest_of}
use Rattle.samples.proofs.memory_tests.perform_each.Given as goal

abbrev pub invariant-loop-call : goal.invariant-loop-call
invariant-loop-call l = record {
  words : lent_by l.working l.lasting ≡ fold back_after (lent_by l.initial.working l.initial.lasting) (take l.call-index l.calls);
  working : rest_of l.working l.lasting ≡ rest_of l.initial.working l.initial.lasting;
  lasting : rest_of l.lasting l.working ≡ rest_of l.initial.lasting l.initial.working;
}
