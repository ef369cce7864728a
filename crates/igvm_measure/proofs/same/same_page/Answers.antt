use Rattle.std.proofs.Common.{◌≡◌, Decides, ap, sym, ◌∙◌}
use Rattle.std.proofs.lemmas.Bool.Decides.{Decides-eqb}
use Rattle.std.proofs.lemmas.Slice.Eq.{slice_eq-Decides}
use Rattle.igvm_headers.specs.Pages.{padded_page}
use Rattle.igvm_measure.proofs.PageBytes.{same_lent}
use Rattle.igvm_measure.proofs.same.same_page.Goals as goal

pub returns-then-lent-other_lent : goal.returns-then-lent-other_lent
returns-then-lent-other_lent c =
    let lent = c.lent-lent.result.now in
    let other = c.lent-other_lent.result.now in
    let page = c.lent-lent.ensures.page in
    let other_page = c.lent-other_lent.ensures.page in
    let decides : Decides c.eq.result (lent ≡ other) = slice_eq-Decides Decides-eqb lent other c.eq.result c.eq.ensures in (
      (λ same. page ∙ ap padded_page (decides.0 same) ∙ sym other_page),
      (λ same. decides.1 (same_lent lent other c.if-lent-other_lent.true (sym page ∙ same ∙ other_page))),
    )
