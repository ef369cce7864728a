use Rattle.igvm_tool.proofs.VmsaTextLemmas as lemma
use Rattle.vmsa_page.specs.Pages.{vmsa_of}
use Rattle.igvm_tool.proofs.laws.printed_vmsa_is_built.Goals as goal

pub returns-clause-printed : goal.returns-clause-printed
returns-clause-printed c = lemma.printed

pub returns-clause-built : goal.returns-clause-built
returns-clause-built c = λ files json target page within bytes found.
    lemma.built files json target page (c.text_reads_back.ensures.read (vmsa_of page) (c.page_reads_back.ensures.valid page within bytes)) (c.page_reads_back.ensures.short page within bytes)
    (c.text_is_short.ensures page within bytes) found
