-- the front and the contents that are kept make the layout
use Rattle.std.proofs.Common.{◌≡◌, ◌∙◌, arith}
use Rattle.igvm_outside.specs.JoinedBytes.{lent}
use Rattle.image_builder.specs.Layout.{layout_size}
use Rattle.image_builder.specs.Plans.{in_version}
use Rattle.image_builder.proofs.Fronts.{joined_is, in_pieces}
use Rattle.image_builder.proofs.Saturated.{plan_end}
use Rattle.image_builder.proofs.image.Image.planned.Goals as goal

pub invariant_of-result : goal.invariant_of-result
invariant_of-result c =
    let list = in_version c.args.plan.version c.args.parts.now in
    let end = c.end-bytes.ensures ∙ plan_end _ _ c.args.plan.contents list c.requires.planned in
    let bytes : c.end-bytes.result ≡ layout_size list = omega (arith, end) in
    in_pieces list c.in_ok-front.front.items (lent c.into_kept.result.items) c.end-bytes.result (omega arith)
    (c.into_kept.ensures ∙ c.requires.planned.holds) bytes c.in_ok-front.ensures (c.layout_has_its_size.ensures.layout list) c.requires.within

pub returns : goal.returns
returns c =
    joined_is (in_version c.args.plan.version c.args.parts.now) c.in_ok-front.front.items _ (c.into_kept.ensures ∙ c.requires.planned.holds) c.in_ok-front.ensures
