use Rattle.vmsa_page.proofs.PageLaws.{bytes_by}
use Rattle.vmsa_page.proofs.PagesRead.{page_fits}
use Rattle.vmsa_page.proofs.TextSizes.{short_text}
use Rattle.vmsa_page.specs.Pages.{vmsa_of}
use Rattle.vmsa_page.proofs.laws.text_is_short.Goals as goal

pub returns : goal.returns
returns c page size all = short_text (vmsa_of page) (page_fits page (bytes_by page all) size)
