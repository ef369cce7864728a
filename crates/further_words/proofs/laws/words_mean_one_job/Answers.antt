use Rattle.further_words.proofs.FurtherLemmas.{one_job}
use Rattle.further_words.proofs.laws.words_mean_one_job.Goals as goal

pub returns : goal.returns
returns c = one_job c.words_of_a_job.ensures
