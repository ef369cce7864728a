use Rattle.launch_platform.proofs.FittingTags.{zero_fits, zeros_of, other_tags_fit, tdx_tag, tdx_fits}
use Rattle.launch_platform.proofs.laws.tags_fit.Goals as goal

pub returns-clause-zero : goal.returns-clause-zero
returns-clause-zero c = λ page size. (zeros_of page, zero_fits page size)

pub returns-clause-snp : goal.returns-clause-snp
returns-clause-snp c = other_tags_fit

pub returns-clause-tdx : goal.returns-clause-tdx
returns-clause-tdx c = λ tag page. (tdx_tag tag page, tdx_fits tag page)
