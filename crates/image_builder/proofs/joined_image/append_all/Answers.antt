use Rattle.std.proofs.Common.{arith, refl}
use Rattle.image_builder.proofs.Written.{contents_more}
use Rattle.image_builder.proofs.joined_image.append_all.Goals as goal

pub contents-preserved : goal.contents-preserved
contents-preserved c =
    contents_more c.args.contents.now c.args.bytes.now.items c.contents.bytes.items _ c.contents.content-index _ _ c.contents.invariant (omega arith) refl c.in_ok-append.ensures
