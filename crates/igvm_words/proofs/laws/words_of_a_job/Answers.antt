use Rattle.igvm_words.proofs.WordsLemmas.{words_mean}
use Rattle.igvm_words.proofs.laws.words_of_a_job.Goals as goal

pub returns : goal.returns
returns c = words_mean
