use Rattle.param_areas.proofs.ByCalls.{byte_by_calls, told_by_calls}
use Rattle.param_areas.proofs.laws.last_value_stands.Goals as goal

pub returns-clause-byte : goal.returns-clause-byte
returns-clause-byte c = byte_by_calls

pub returns-clause-told : goal.returns-clause-told
returns-clause-told c = told_by_calls
