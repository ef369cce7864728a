use Rattle.component_list.proofs.FaultLaws.{first_fault_is, no_fault_is}
use Rattle.component_list.proofs.laws.first_fault_of_a_list.Goals as goal

pub returns-clause-fault : goal.returns-clause-fault
returns-clause-fault c = first_fault_is

pub returns-clause-none : goal.returns-clause-none
returns-clause-none c = no_fault_is
