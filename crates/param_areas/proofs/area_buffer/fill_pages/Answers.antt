use Rattle.std.proofs.Common.{◌≡◌, ◌+◌, ◌-◌, ◌*◌, ◌≤◌, ◌∙◌, ap, length, get_or, arith}
use Rattle.param_areas.proofs.Written.{put_mid_written, length_slice}
use Rattle.param_areas.proofs.Histories.{page_filled, pages_filled}
use Rattle.param_areas.proofs.area_buffer.fill_pages.Goals as goal

pub pages-preserved : goal.pages-preserved
pages-preserved c =
    let within : 4096 * c.pages.k + 4096 ≤ length c.pages.out = omega arith in
    let size : length c.fill.new.out ≡ 4096 = omega (arith, c.fill.auto.out, length_slice c.pages.out (4096 * c.pages.k) (4096 * c.pages.k + 4096 - 4096 * c.pages.k) (omega arith)) in
    λ q h. ap (λ l. get_or l q 0) (put_mid_written (4096 * c.pages.k) (4096 * c.pages.k + 4096 - 4096 * c.pages.k) c.pages.out c.fill.new.out (omega arith))
    ∙ page_filled c.args.content.now c.pages.out c.fill.new.out c.pages.k size within (c.fill.ensures ∙ c.page.ensures) c.pages.invariant q h

pub returns : goal.returns
returns c =
    pages_filled c.args.content.now c.pages.out (omega arith) (λ q h. c.pages.invariant q (omega arith))
