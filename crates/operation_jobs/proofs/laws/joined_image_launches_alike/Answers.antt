use Rattle.operation_jobs.proofs.LaunchesAlike.{first_launch, second_launch}
use Rattle.operation_jobs.proofs.laws.joined_image_launches_alike.Goals as goal

pub returns-clause-first : goal.returns-clause-first
returns-clause-first g c = λ target given told told' out out' done.
    first_launch c.built_is_read_back.ensures.list c.layout_has_its_size.ensures.layout target given told told' _ done

pub returns-clause-second : goal.returns-clause-second
returns-clause-second g c = λ target given told told' out out' done.
    second_launch c.built_is_read_back.ensures.list c.layout_has_its_size.ensures.layout target given told told' _ done
