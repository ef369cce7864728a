use Rattle.launch_likeness.proofs.Launched.{one_list_launched, one_list_fits}
use Rattle.launch_likeness.proofs.StepWants.{one_list_wants}
use Rattle.launch_likeness.proofs.laws.one_list_one_launch.Goals as goal

pub returns-clause-launch : goal.returns-clause-launch
returns-clause-launch c = one_list_launched

pub returns-clause-fits : goal.returns-clause-fits
returns-clause-fits c = one_list_fits

pub returns-clause-wants : goal.returns-clause-wants
returns-clause-wants c = λ file other p same. one_list_wants file other p same (one_list_launched file other p same)
