use Rattle.igvm_headers.proofs.ReadHeaders.{header_read}
use Rattle.igvm_headers.proofs.laws.what_is_read.Goals as goal

pub returns-clause-tail : goal.returns-clause-tail
returns-clause-tail c = λ kind content h form. (header_read kind content h form).tail_fits

pub returns-clause-large : goal.returns-clause-large
returns-clause-large c = λ kind content h form. (header_read kind content h form).large_is_normal

pub returns-clause-carried : goal.returns-clause-carried
returns-clause-carried c = λ kind content h form. (header_read kind content h form).kind_is_carried
