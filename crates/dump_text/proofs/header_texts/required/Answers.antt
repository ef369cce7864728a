use Rattle.std.proofs.Common.{append_assoc}
use Rattle.dump_text.specs.Lines.{required_text}
use Rattle.dump_text.proofs.header_texts.required.Goals as goal

pub returns-clause-text : goal.returns-clause-text
unfolding required_text
returns-clause-text c =
    rw (
      c.eight_digits-2.ensures.text,
      c.number.ensures.text,
      c.eight_digits.ensures.text,
      c.sixteen_digits.ensures.text,
    ) (simp append_assoc)
