use Rattle.std.proofs.Common.{rules}
use Rattle.further_words.proofs.ChoiceWords.{lent_possible}
use Rattle.further_words.proofs.job.strip_job.Goals as goal

pub returns-clause-possible : goal.returns-clause-possible
returns-clause-possible c = (search rules, search rules, lent_possible _ _ _ c.choice_of.ensures c.in_ok-wanted.was)
