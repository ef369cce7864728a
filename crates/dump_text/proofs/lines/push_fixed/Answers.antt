use Rattle.std.proofs.Common.{append_assoc}
use Rattle.dump_text.specs.Listing.{fixed_line}
use Rattle.dump_text.proofs.lines.push_fixed.Goals as goal

pub returns : goal.returns
unfolding fixed_line
returns c =
    rw (
      c.push.ensures,
      c.push_added.ensures.text,
      c.number-5.ensures.text,
      c.number-4.ensures.text,
      c.number-3.ensures.text,
      c.number-2.ensures.text,
      c.number.ensures.text,
    ) (simp append_assoc)
