use Rattle.std.proofs.Common.{◌≡◌, ◌∙◌, ap, arith, ℕ, length, get_or}
use Rattle.elf_pages.specs.Pages.{pages_in, pages_of}
use Rattle.elf_pages.proofs.TouchedPages.{same_pages}
use Rattle.elf_pages.proofs.view.ElfView.gpa.Goals as goal

pub page_number-requires-clause-within : goal.page_number-requires-clause-within
page_number-requires-clause-within c =
    let same : pages_in c.as_slice.result.now ≡ pages_of c.args.self.now =
    ap pages_in c.as_slice.ensures.value ∙ same_pages c.self.inside.file.now _ _ c.self.invariant.same ∙ ap pages_of c.self.view_is in
    omega (arith, ap (length {A = ℕ}) same, c.from.ensures, c.requires)

pub returns-clause-address : goal.returns-clause-address
returns-clause-address c =
    let same : pages_in c.as_slice.result.now ≡ pages_of c.args.self.now =
    ap pages_in c.as_slice.ensures.value ∙ same_pages c.self.inside.file.now _ _ c.self.invariant.same ∙ ap pages_of c.self.view_is in
    c.page_number.ensures.page ∙ ap (λ ps. get_or ps c.from.result 0) same ∙ ap (λ n. get_or (pages_of c.args.self.now) n 0) c.from.ensures
