use Rattle.launch_likeness.proofs.Launched.{file_platforms}
use Rattle.launch_likeness.proofs.laws.platforms_of_a_list.Goals as goal

pub returns : goal.returns
returns c = file_platforms
