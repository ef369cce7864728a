use Rattle.vmsa_page.proofs.PageLaws.{page_of_vmsa, short_page, bytes_by}
use Rattle.vmsa_page.proofs.PagesRead.{page_fits}
use Rattle.vmsa_page.proofs.laws.page_reads_back.Goals as goal

pub returns-clause-valid : goal.returns-clause-valid
returns-clause-valid c page size all = page_fits page (bytes_by page all) size

pub returns-clause-whole : goal.returns-clause-whole
returns-clause-whole c page size all = page_of_vmsa page size (bytes_by page all)

pub returns-clause-short : goal.returns-clause-short
returns-clause-short c page size all = short_page page size (bytes_by page all)
