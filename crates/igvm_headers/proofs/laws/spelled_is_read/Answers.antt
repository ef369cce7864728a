use Rattle.igvm_headers.proofs.ReadBack.{header_again, tail_again}
use Rattle.igvm_headers.proofs.Spelled.{content_length}
use Rattle.igvm_headers.proofs.laws.spelled_is_read.Goals as goal

pub returns-clause-header : goal.returns-clause-header
returns-clause-header c = header_again

pub returns-clause-tail : goal.returns-clause-tail
returns-clause-tail c = tail_again

pub returns-clause-size : goal.returns-clause-size
returns-clause-size c = content_length
