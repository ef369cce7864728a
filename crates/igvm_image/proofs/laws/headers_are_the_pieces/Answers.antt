use Rattle.igvm_image.proofs.HeaderLaws.{headers_as_many, headers_each}
use Rattle.igvm_image.proofs.laws.headers_are_the_pieces.Goals as goal

pub returns-clause-as_many : goal.returns-clause-as_many
returns-clause-as_many c = headers_as_many

pub returns-clause-each : goal.returns-clause-each
returns-clause-each c = headers_each
