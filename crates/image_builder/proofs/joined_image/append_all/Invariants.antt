use Rattle.std.proofs.Common.{◌≡◌, ◌++◌, take}
use Rattle.std.specs.List.{concat}
use Rattle.igvm_outside.specs.JoinedBytes.{lent}
use Rattle.image_builder.proofs.joined_image.append_all.Given as goal

abbrev pub invariant-contents : goal.invariant-contents
invariant-contents l = l.bytes.items ≡ l.fn.bytes.items ++ concat (lent (take l.content-index l.contents))
