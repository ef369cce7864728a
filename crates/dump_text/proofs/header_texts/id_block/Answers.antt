use Rattle.std.proofs.Common.{append_assoc}
use Rattle.dump_text.specs.Lines.{id_block_text}
use Rattle.dump_text.proofs.header_texts.id_block.Goals as goal

pub returns-clause-text : goal.returns-clause-text
unfolding id_block_text
returns-clause-text c =
    rw (
      c.number-5.ensures.text,
      c.number-4.ensures.text,
      c.number-3.ensures.text,
      c.number-2.ensures.text,
      c.digits-3.ensures.text,
      c.digits-2.ensures.text,
      c.digits.ensures.text,
      c.bytes.ensures.value,
      c.number.ensures.text,
      c.eight_digits.ensures.text,
    ) (simp append_assoc)
