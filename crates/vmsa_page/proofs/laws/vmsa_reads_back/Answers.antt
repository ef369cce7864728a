use Rattle.vmsa_page.proofs.PageLaws.{vmsa_of_page}
use Rattle.vmsa_page.proofs.laws.vmsa_reads_back.Goals as goal

pub returns : goal.returns
returns c = vmsa_of_page
