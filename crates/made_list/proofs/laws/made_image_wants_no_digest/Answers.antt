use Rattle.made_list.proofs.NoDigest.{none_bad, none_wanted}
use Rattle.made_list.proofs.laws.made_image_wants_no_digest.Goals as goal

pub returns-clause-wanted : goal.returns-clause-wanted
returns-clause-wanted c = λ n some few.
    none_wanted (record { back = c.built_is_read_back.ensures.list; seen = c.offsets_do_not_count.ensures.seen }) n few

pub returns-clause-bad : goal.returns-clause-bad
returns-clause-bad c = λ n options some few.
    none_bad (record { back = c.built_is_read_back.ensures.list; seen = c.offsets_do_not_count.ensures.seen }) n options few
