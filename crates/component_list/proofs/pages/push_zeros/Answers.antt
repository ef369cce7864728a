use Rattle.std.proofs.Common.{◌≡◌, ◌∙◌, ap, arith, ℕ}
use Rattle.component_list.specs.declared.component.Content.TheVariants.{Zero}
use Rattle.component_list.specs.Expansion.{all_zero, page_at}
use Rattle.component_list.proofs.PageParts.{parts_more}
use Rattle.component_list.proofs.pages.push_zeros.Goals as goal

pub pages-preserved : goal.pages-preserved
pages-preserved c =
    let is : c.page_at-part.result ≡ page_at c.args.run.now c.pages.k Zero =
    c.page_at-part.ensures ∙ ap (λ (k : ℕ). page_at c.args.run.now k Zero) c.from.ensures in
    let more = parts_more c.args.run.now all_zero c.args.parts.now.items c.pages.parts.items c.pages.k c.page_at-part.result c.pages.invariant is in
    grind arith
