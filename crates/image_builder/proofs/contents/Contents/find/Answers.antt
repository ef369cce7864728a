-- the index has the place of each content of the row, and of no other
use Rattle.std.proofs.Common.{ap, ◌∙◌}
use Rattle.image_builder.specs.ContentIndex.{Row, place_in}
use Rattle.image_builder.proofs.contents.Contents.find.Goals as goal

pub returns : goal.returns
returns c =
    c.copied.ensures ∙ c.get.ensures.value ∙ c.self.invariant.0.each c.args.bytes.now
    ∙ ap (λ (row : Row). place_in row.start row.kept c.args.bytes.now) c.self.view_is
