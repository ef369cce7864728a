use Rattle.std.proofs.Common.{sym, arith}
use Rattle.std.proofs.lemmas.List.{take_all, length-take}
use Rattle.host_set.proofs.plan.first_ranges.Goals as goal

pub returns-then-ranges-le-MOST_RANGES-clause-front : goal.returns-then-ranges-le-MOST_RANGES-clause-front
returns-then-ranges-le-MOST_RANGES-clause-front c = sym (take_all 64 c.args.ranges.now c.if-ranges-le-MOST_RANGES.true)

pub slice_bounds-result-end : goal.slice_bounds-result-end
slice_bounds-result-end c = omega (arith, length-take 64 c.args.ranges.now)

pub returns-clause-few : goal.returns-clause-few
returns-clause-few c = omega (arith, length-take 64 c.args.ranges.now)
