use Rattle.launch_platform.proofs.EnteringPages.{can_add, can_extend}
use Rattle.launch_platform.proofs.laws.pages_enter.Goals as goal

pub returns-clause-added : goal.returns-clause-added
returns-clause-added c = can_add

pub returns-clause-extended : goal.returns-clause-extended
returns-clause-extended c = can_extend
