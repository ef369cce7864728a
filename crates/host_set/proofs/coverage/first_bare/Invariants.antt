use Rattle.host_set.proofs.Covered.{Walk}
use Rattle.host_set.proofs.coverage.first_bare.Given as goal

abbrev pub invariant-steps : goal.invariant-steps
invariant-steps l = Walk l.ranges l.gpa l.reached l.range-index
