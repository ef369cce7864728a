use Rattle.igvm_headers.proofs.FieldBytes.{fields_bytes, spelled_bytes}
use Rattle.igvm_headers.proofs.laws.fields_are_bytes.Goals as goal

pub returns-clause-fields : goal.returns-clause-fields
returns-clause-fields c = fields_bytes

pub returns-clause-spelled : goal.returns-clause-spelled
returns-clause-spelled c = spelled_bytes
