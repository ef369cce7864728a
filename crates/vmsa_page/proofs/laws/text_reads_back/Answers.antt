use Rattle.vmsa_page.proofs.PlainVmsas.{is_plain, text_is_read}
use Rattle.vmsa_page.proofs.laws.text_reads_back.Goals as goal

pub returns-clause-plain : goal.returns-clause-plain
returns-clause-plain c = is_plain

pub returns-clause-read : goal.returns-clause-read
returns-clause-read c = text_is_read c.plain_reads_back.ensures
