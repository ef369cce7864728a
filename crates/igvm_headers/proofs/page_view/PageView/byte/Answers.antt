use Rattle.std.proofs.Common.{sym, ◌∙◌, ap, get_or}
use Rattle.igvm_headers.proofs.Pages.{get_or_padded_page_lent, get_or_padded_page_past}
use Rattle.igvm_headers.proofs.page_view.PageView.byte.Goals as goal

pub returns-then-i-self : goal.returns-then-i-self
returns-then-i-self c =
    sym (get_or_padded_page_lent _ _ c.if-i-self.true) ∙ ap (λ page. get_or page c.args.i 0) c.self.view_is

pub returns-else-i-self : goal.returns-else-i-self
returns-else-i-self c =
    sym (get_or_padded_page_past _ _ c.if-i-self.false c.requires) ∙ ap (λ page. get_or page c.args.i 0) c.self.view_is
