use Rattle.operation_jobs.proofs.LaunchesAlike.{stripped_fits, stripped_launch}
use Rattle.operation_jobs.proofs.laws.stripped_image_launches_alike.Goals as goal

pub returns-clause-launch : goal.returns-clause-launch
returns-clause-launch g c = λ words given told told' out out' done.
    stripped_launch c.built_is_read_back.ensures.list c.layout_has_its_size.ensures.layout words given told told' _ done

pub returns-clause-fits : goal.returns-clause-fits
returns-clause-fits g c = λ words given told told' out out' done.
    stripped_fits c.built_is_read_back.ensures.list c.layout_has_its_size.ensures.layout words given told told' _ done
