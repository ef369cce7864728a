use Rattle.std.proofs.Common.{append_assoc}
use Rattle.dump_text.specs.Lines.{policy_text}
use Rattle.dump_text.proofs.header_texts.policy.Goals as goal

pub returns-clause-text : goal.returns-clause-text
unfolding policy_text
returns-clause-text c =
    rw (
      c.sixteen_digits.ensures.text,
      c.eight_digits.ensures.text,
    ) (simp append_assoc)
