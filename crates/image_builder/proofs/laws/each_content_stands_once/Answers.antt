use Rattle.image_builder.proofs.FirstUses.{nothing_more, used_again, first_used, first_offset}
use Rattle.image_builder.proofs.laws.each_content_stands_once.Goals as goal

pub returns-clause-nothing : goal.returns-clause-nothing
returns-clause-nothing c = nothing_more

pub returns-clause-again : goal.returns-clause-again
returns-clause-again c = used_again

pub returns-clause-first : goal.returns-clause-first
returns-clause-first c = first_used

pub returns-clause-offset : goal.returns-clause-offset
returns-clause-offset c = first_offset
