use Rattle.component_list.proofs.SameRules.{seen_same, rules_at, inside_at_0}
use Rattle.component_list.proofs.laws.offsets_do_not_count.Goals as goal

pub returns-clause-seen : goal.returns-clause-seen
returns-clause-seen c = seen_same

pub returns-clause-rules : goal.returns-clause-rules
returns-clause-rules c = rules_at

pub returns-clause-inside : goal.returns-clause-inside
returns-clause-inside c = inside_at_0
