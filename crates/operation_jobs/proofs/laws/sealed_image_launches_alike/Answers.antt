use Rattle.operation_jobs.proofs.LaunchesAlike.{sealed_fits, sealed_launch, sealed_wants}
use Rattle.operation_jobs.proofs.laws.sealed_image_launches_alike.Goals as goal

pub returns-clause-launch : goal.returns-clause-launch
returns-clause-launch g c = λ words given told told' out out' done.
    sealed_launch c.built_is_read_back.ensures.list c.layout_has_its_size.ensures.layout c.spelled_is_a_piece.ensures.padded words given told told' _ done

pub returns-clause-fits : goal.returns-clause-fits
returns-clause-fits g c = λ words given told told' out out' done.
    sealed_fits c.built_is_read_back.ensures.list c.layout_has_its_size.ensures.layout c.spelled_is_a_piece.ensures.padded words given told told' _ done

pub returns-clause-wanted : goal.returns-clause-wanted
returns-clause-wanted g c = λ words given told told' out out' done.
    sealed_wants c.built_is_read_back.ensures.list c.layout_has_its_size.ensures.layout c.spelled_is_a_piece.ensures.padded c.one_list_one_launch.ensures.launch words given told told' _ done
