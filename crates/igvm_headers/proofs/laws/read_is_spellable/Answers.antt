use Rattle.igvm_headers.proofs.ReadHeaders.{header_read, read_spells}
use Rattle.igvm_headers.proofs.laws.read_is_spellable.Goals as goal

pub returns-clause-kind : goal.returns-clause-kind
returns-clause-kind c = λ kind content h is. (header_read kind content h is.form).type

pub returns-clause-spellable : goal.returns-clause-spellable
returns-clause-spellable c = read_spells
