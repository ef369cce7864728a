use Rattle.std.proofs.Common.{rules}
use Rattle.host_set.proofs.Ranges.{are_placed}
use Rattle.host_set.proofs.plan.MemoryPlan.from_ranges.Goals as goal

pub invariant_of-result : goal.invariant_of-result
invariant_of-result c = are_placed c.args.ranges.items (search rules)
