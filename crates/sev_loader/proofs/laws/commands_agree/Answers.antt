use Rattle.sev_loader.proofs.SevAgreement.{agree}
use Rattle.sev_loader.proofs.laws.commands_agree.Goals as goal

pub returns : goal.returns
returns c = agree c.records_join.ensures.streams
