use Rattle.std.proofs.Common.{append_assoc}
use Rattle.dump_text.specs.Lines.{carried_text}
use Rattle.dump_text.proofs.header_texts.carried.Goals as goal

pub returns-clause-text : goal.returns-clause-text
unfolding carried_text
returns-clause-text c =
    rw (
      c.number.ensures.text,
      c.eight_digits.ensures.text,
    ) (simp append_assoc)
