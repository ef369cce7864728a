-- the laws of what is spelled have its length
use Rattle.std.proofs.Common.{◌+◌, ◌*◌, ◌/◌, ap, sym, ◌∙◌}
use Rattle.image_builder.proofs.sizes.spelled_size.Goals as goal

pub returns : goal.returns
returns c =
    let header = c.args.component.now.header in
    let tail = c.args.component.now.tail in
    let size = c.spelled_is_read.ensures.size header tail c.requires in
    let padded = c.spelled_is_a_piece.ensures.padded header tail in
    sym (padded ∙ ap (λ n. (8 + n + 7) / 8 * 8) (size ∙ sym c.content_size.ensures ∙ sym c.from-size.ensures))
