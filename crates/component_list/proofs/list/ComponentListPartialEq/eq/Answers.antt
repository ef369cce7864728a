use Rattle.std.proofs.Common.{rules}
use Rattle.component_list.proofs.Equality.{lists_decided}
use Rattle.component_list.proofs.list.ComponentListPartialEq.eq.Goals as goal

pub returns-then-self-other-clause-exact : goal.returns-then-self-other-clause-exact
returns-then-self-other-clause-exact c = lists_decided c.equal_headers_are_one.ensures _ _ _ (search rules)

pub returns-else-self-other-clause-exact : goal.returns-else-self-other-clause-exact
returns-else-self-other-clause-exact c = lists_decided c.equal_headers_are_one.ensures _ _ _ (search rules)
