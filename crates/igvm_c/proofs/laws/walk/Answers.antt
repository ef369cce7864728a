use Rattle.igvm_c.proofs.WalkLaws.{walk_first, walk_each, walk_numbers, walk_more}
use Rattle.igvm_c.proofs.laws.walk.Goals as goal

pub returns-clause-first : goal.returns-clause-first
returns-clause-first c = walk_first

pub returns-clause-each : goal.returns-clause-each
returns-clause-each c = walk_each

pub returns-clause-number : goal.returns-clause-number
returns-clause-number c = walk_numbers

pub returns-clause-more : goal.returns-clause-more
returns-clause-more c = walk_more
