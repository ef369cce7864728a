use Rattle.std.proofs.Common.{◌≡◌, ◌+◌, length, drop, arith, length-drop, ◌∙◌}
use Rattle.igvm_headers.proofs.Pages.{put_mid_padded}
use Rattle.igvm_headers.proofs.page_view.PageView.fill.Goals as goal

pub returns : goal.returns
returns c =
    let size : length c.self.inside.lent.now + length (drop (length c.self.inside.lent.now) c.args.out.now) ≡ 4096 = omega (arith, length-drop (length c.self.inside.lent.now) c.args.out.now) in
    put_mid_padded _ _ _ _ c.copy_from_slice.ensures.after size (c.fill.ensures.after (λ y is. is)) ∙ c.self.view_is
