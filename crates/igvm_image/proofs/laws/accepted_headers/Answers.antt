use Rattle.igvm_image.specs.AcceptedLaws.{header_kept, has_platform}
use Rattle.igvm_image.proofs.laws.accepted_headers.Goals as goal

pub returns-clause-each : goal.returns-clause-each
returns-clause-each c = header_kept

pub returns-clause-platform : goal.returns-clause-platform
returns-clause-platform c = has_platform
