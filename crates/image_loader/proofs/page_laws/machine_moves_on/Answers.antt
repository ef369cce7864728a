use Rattle.image_loader.proofs.NewPages.{behind_one_more}
use Rattle.image_loader.proofs.page_laws.machine_moves_on.Goals as goal

pub returns : goal.returns
returns c = behind_one_more
