use Rattle.sev_loader.proofs.SevAgreement.{measured_by_flag}
use Rattle.sev_loader.proofs.laws.measured_pages.Goals as goal

pub returns : goal.returns
returns c = measured_by_flag
