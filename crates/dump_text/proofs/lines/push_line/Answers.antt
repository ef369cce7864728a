use Rattle.std.proofs.Common.{append_assoc}
use Rattle.dump_text.specs.Listing.{numbered_line}
use Rattle.dump_text.proofs.lines.push_line.Goals as goal

pub returns : goal.returns
unfolding numbered_line
returns c =
    rw (
      c.push-2.ensures,
      c.push_header.ensures.text,
      c.push.ensures,
      c.number-2.ensures.text,
      c.number.ensures.text,
    ) (simp append_assoc)
