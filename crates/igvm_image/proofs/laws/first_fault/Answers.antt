use Rattle.igvm_image.proofs.FaultLaws.{first_fault_said, no_fault_said}
use Rattle.igvm_image.proofs.laws.first_fault.Goals as goal

pub returns-clause-fault : goal.returns-clause-fault
returns-clause-fault c = first_fault_said

pub returns-clause-none : goal.returns-clause-none
returns-clause-none c = no_fault_said
