use Rattle.std.proofs.Common.{◌≡◌, ◌∙◌, ap, arith}
use Rattle.std.specs.Rc.{rc_slice_items}
use Rattle.igvm_headers.specs.Pages.{page_bytes}
use Rattle.component_list.specs.Expansion.{piece_of, page_at}
use Rattle.component_list.proofs.PageParts.{parts_more}
use Rattle.component_list.proofs.pages.push_pieces.Goals as goal

pub pages-preserved : goal.pages-preserved
pages-preserved c =
    let content = piece_of (page_bytes c.args.run.now.large) (rc_slice_items c.in_ok-file.file) in
    let is : c.page_at-part.result ≡ page_at c.args.run.now c.pages.k (content c.pages.k) =
    c.page_at-part.ensures ∙ ap (page_at c.args.run.now c.pages.k) c.in_ok-content.ensures in
    let more = parts_more c.args.run.now content c.args.parts.now.items c.pages.parts.items c.pages.k c.page_at-part.result c.pages.invariant is in
    grind arith
