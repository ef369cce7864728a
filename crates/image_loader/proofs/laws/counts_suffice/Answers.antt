use Rattle.image_loader.proofs.Counts.{placed_few, contexts_many, no_ids}
use Rattle.image_loader.proofs.laws.counts_suffice.Goals as goal

pub returns-clause-pages : goal.returns-clause-pages
returns-clause-pages c = placed_few

pub returns-clause-contexts : goal.returns-clause-contexts
returns-clause-contexts c = contexts_many

pub returns-clause-ids : goal.returns-clause-ids
returns-clause-ids c = no_ids
