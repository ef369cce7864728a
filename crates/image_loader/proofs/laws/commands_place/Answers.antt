use Rattle.std.proofs.Common.{[]}
use Rattle.launch_platform.specs.Machine.{started}
use Rattle.image_loader.specs.Loads.{directives}
use Rattle.image_loader.proofs.Done.{all_done}
use Rattle.image_loader.proofs.laws.commands_place.Goals as goal

pub returns : goal.returns
returns c = λ load. all_done load [] (directives load) (started load.platform.kind)
