use Rattle.igvm_outside.proofs.fakes.made_shelf.MadeShelfShelf.open_file.Goals as goal

pub returns-in_err-open_file-in-None-clause-made : goal.returns-in_err-open_file-in-None-clause-made
returns-in_err-open_file-in-None-clause-made c = λ size made. absurd (c.in-None.ensures size made)

pub returns-in_err-open_file-in-None-clause-inner : goal.returns-in_err-open_file-in-None-clause-inner
returns-in_err-open_file-in-None-clause-inner c = λ size made. absurd (c.in-None.ensures size made)

pub returns-in_ok-open_file-in-None-clause-made : goal.returns-in_ok-open_file-in-None-clause-made
returns-in_ok-open_file-in-None-clause-made c = λ size made. absurd (c.in-None.ensures size made)

pub returns-in_ok-open_file-in-None-clause-inner : goal.returns-in_ok-open_file-in-None-clause-inner
returns-in_ok-open_file-in-None-clause-inner c = λ size made. absurd (c.in-None.ensures size made)
