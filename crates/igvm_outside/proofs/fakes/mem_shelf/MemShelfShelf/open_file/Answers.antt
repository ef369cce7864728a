use Rattle.std.proofs.Common.{ap, subst}
use Rattle.igvm_outside.specs.MemFiles.{IsFileAt}
use Rattle.igvm_outside.proofs.MemReads.{found}
use Rattle.igvm_outside.proofs.fakes.mem_shelf.MemShelfShelf.open_file.Goals as goal

pub returns-in-Some-clause-found : goal.returns-in-Some-clause-found
returns-in-Some-clause-found c =
    found c.self.inside.files.items _ _ _ (ap (λ s. s.files) c.self.view_is)
    (subst (λ files. IsFileAt files c.args.name.now c.in-Some.file) c.deref.ensures.value c.in-Some.ensures)
