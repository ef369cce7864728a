use Rattle.component_list.proofs.Equality.{components_exact, lists_exact}
use Rattle.component_list.proofs.laws.equality_is_exact.Goals as goal

pub returns-clause-components : goal.returns-clause-components
returns-clause-components c = components_exact c.equal_headers_are_one.ensures

pub returns-clause-lists : goal.returns-clause-lists
returns-clause-lists c = lists_exact c.equal_headers_are_one.ensures
