use Rattle.std.proofs.Common.{◌≡◌, ◌+◌, drop}
use Rattle.host_set.specs.Plans.{placed_behind}
use Rattle.host_set.proofs.plan.placed_count.Given as goal

abbrev pub invariant-steps : goal.invariant-steps
invariant-steps l = l.i + placed_behind l.end (drop l.i l.ranges) ≡ placed_behind 0 l.ranges
