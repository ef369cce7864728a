use Rattle.std.proofs.Common.{append_assoc}
use Rattle.line_buffer.specs.Fields.{byte_digits}
use Rattle.igvm_jobs.proofs.launch_texts.push_why_digests.Goals as goal

pub returns-in-BadDigest-clause-text : goal.returns-in-BadDigest-clause-text
unfolding byte_digits
returns-in-BadDigest-clause-text c =
    rw (
      c.in-BadDigest.is,
      c.digits-in-BadDigest.ensures.text,
      c.bytes-in-BadDigest.ensures.value,
      c.digits.ensures.text,
      c.bytes.ensures.value,
    ) (simp append_assoc)
