use Rattle.std.proofs.Common.{◌∙◌, ap, length, arith, length-append}
use Rattle.component_list.specs.Expansion.{Progress, pages_named}
use Rattle.component_list.proofs.progress.Progress.add.Goals as goal

-- few components were there, and the directive adds few
pub overflow_cast-len : goal.overflow_cast-len
overflow_cast-len c =
    let grown = ap length c.in-Ok.ensures.pushed ∙ length-append c.self.inside.parts.items _ in
    let same = ap (λ (p : Progress). length p.parts) c.self.view_is in
    let counted = c.push_parts.new.parts.ok.0 in
    let pages = c.pages_named.ensures.value ∙ ap (pages_named c.args.directive.now) c.lent-bytes.ensures in
    omega (arith, grown, same, counted, c.in-Ok.ensures.few, pages, c.len.ensures, c.requires.few)
