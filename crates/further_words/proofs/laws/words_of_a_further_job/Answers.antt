use Rattle.further_words.proofs.FurtherLemmas.{words_mean_further}
use Rattle.further_words.proofs.laws.words_of_a_further_job.Goals as goal

pub returns : goal.returns
returns c = words_mean_further c.words_of_a_job.ensures
