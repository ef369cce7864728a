use Rattle.igvm_measure.proofs.WalkLemmas.{taken_walk, taken_page}
use Rattle.igvm_measure.proofs.walk.Walk.next.Goals as goal

pub returns-clause-walk : goal.returns-clause-walk
returns-clause-walk c = taken_walk c.headers.self c.next_of.new.run c.headers.invariant.walk c.next_of.ensures.run

pub returns-clause-some : goal.returns-clause-some
returns-clause-some c = taken_page c.headers.self c.next_of.new.run c.next_of.result _ c.headers.invariant.left c.next_of.ensures.some
