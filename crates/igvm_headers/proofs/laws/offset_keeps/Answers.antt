use Rattle.igvm_headers.proofs.Offsets.{fields_same, numbers_at, spellable_at, lists_at, last_counts, own_offset}
use Rattle.igvm_headers.proofs.laws.offset_keeps.Goals as goal

pub returns-clause-size : goal.returns-clause-size
returns-clause-size c = fields_same

pub returns-clause-numbers : goal.returns-clause-numbers
returns-clause-numbers c = numbers_at

pub returns-clause-spellable : goal.returns-clause-spellable
returns-clause-spellable c = spellable_at

pub returns-clause-lists : goal.returns-clause-lists
returns-clause-lists c = lists_at

pub returns-clause-last : goal.returns-clause-last
returns-clause-last c = last_counts

pub returns-clause-own : goal.returns-clause-own
returns-clause-own c = own_offset
