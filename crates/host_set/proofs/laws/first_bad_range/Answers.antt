use Rattle.host_set.proofs.RuleLemmas.{plan_of_none, none_of_plan, first_of_bad}
use Rattle.host_set.proofs.laws.first_bad_range.Goals as goal

pub returns-clause-accepted : goal.returns-clause-accepted
returns-clause-accepted c = λ ranges. (plan_of_none ranges, none_of_plan ranges)

pub returns-clause-first : goal.returns-clause-first
returns-clause-first c = first_of_bad
