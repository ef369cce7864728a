use Rattle.igvm_image.proofs.FitsLemmas.{headers_fit}
use Rattle.igvm_image.proofs.NumberLaws.{numbers_fit}
use Rattle.igvm_image.proofs.laws.pages_fit.Goals as goal

pub returns-clause-fit : goal.returns-clause-fit
returns-clause-fit c = headers_fit

pub returns-clause-numbers : goal.returns-clause-numbers
returns-clause-numbers c = numbers_fit c.read_is_spellable.ensures.spellable
