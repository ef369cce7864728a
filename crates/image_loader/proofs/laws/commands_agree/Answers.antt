use Rattle.image_loader.proofs.Agreement.{digests_agree}
use Rattle.image_loader.proofs.laws.commands_agree.Goals as goal

pub returns : goal.returns
returns c = digests_agree c.records_join.ensures.infos c.records_join.ensures.streams c.records_join.ensures.rows
