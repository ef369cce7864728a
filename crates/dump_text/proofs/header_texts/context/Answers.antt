use Rattle.std.proofs.Common.{append_assoc}
use Rattle.dump_text.specs.Lines.{context_text}
use Rattle.dump_text.proofs.header_texts.context.Goals as goal

pub returns-clause-text : goal.returns-clause-text
unfolding context_text
returns-clause-text c =
    rw (
      c.number-2.ensures.text,
      c.number.ensures.text,
      c.eight_digits.ensures.text,
      c.sixteen_digits.ensures.text,
    ) (simp append_assoc)
