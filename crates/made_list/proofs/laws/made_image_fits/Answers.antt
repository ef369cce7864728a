use Rattle.made_list.proofs.MadeFits.{image_fits}
use Rattle.made_list.proofs.laws.made_image_fits.Goals as goal

pub returns : goal.returns
returns c = λ n some few.
    image_fits (record { back = c.built_is_read_back.ensures.list; seen = c.offsets_do_not_count.ensures.seen }) n few
