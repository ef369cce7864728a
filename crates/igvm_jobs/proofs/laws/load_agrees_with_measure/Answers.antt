use Rattle.igvm_jobs.proofs.HeadlineLemmas as lemma
use Rattle.igvm_jobs.proofs.laws.load_agrees_with_measure.Goals as goal

pub returns : goal.returns
returns c = lemma.agree
