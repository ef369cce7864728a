use Rattle.component_list.proofs.ImageLists.{image_list_kept, image_version_known}
use Rattle.component_list.proofs.laws.image_lists_are_valid.Goals as goal

pub returns-clause-version : goal.returns-clause-version
returns-clause-version c = image_version_known

pub returns-clause-parts : goal.returns-clause-parts
returns-clause-parts c = image_list_kept (record { tail = c.what_is_read.ensures.tail; large = c.what_is_read.ensures.large; carried = c.what_is_read.ensures.carried })
