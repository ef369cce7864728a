use Rattle.platform_masks.specs.PlatformsLaws.{platforms_of-push, platforms_of_none}
use Rattle.platform_masks.proofs.laws.platforms_of_more.Goals as goal

pub returns-clause-none : goal.returns-clause-none
returns-clause-none c = platforms_of_none

pub returns-clause-more : goal.returns-clause-more
returns-clause-more c = platforms_of-push
