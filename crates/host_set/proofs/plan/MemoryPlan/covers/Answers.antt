use Rattle.std.proofs.Common.{rules}
use Rattle.host_set.specs.Plans.{Covers}
use Rattle.host_set.proofs.Covered.{covered_is, same_tests}
use Rattle.host_set.proofs.plan.MemoryPlan.covers.Goals as goal

pub returns-clause-exact : goal.returns-clause-exact
returns-clause-exact c = search rules

pub returns-clause-test : goal.returns-clause-test
returns-clause-test c =
    same_tests _ _ (Covers c.args.self.now c.args.gpa c.args.bytes) (returns-clause-exact c) (covered_is c.args.self.now c.args.gpa c.args.bytes)
