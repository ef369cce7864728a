use Rattle.std.proofs.Common.{append_assoc}
use Rattle.igvm_jobs.proofs.launch_texts.push_misfit.Goals as goal

pub returns : goal.returns
returns c =
    rw (
      c.push.ensures,
      c.push_why_digests.ensures.text,
      c.word.ensures,
      c.why_words.ensures.words,
      c.number.ensures.text,
      c.from.ensures,
    ) (simp append_assoc)
