use Rattle.igvm_image.proofs.WordLaws.{order_said, mask_said, area_limit_said, area_repeated_said, area_unknown_said, wrap_said, pages_said}
use Rattle.igvm_image.proofs.laws.rules_in_words.Goals as goal

pub returns-clause-order : goal.returns-clause-order
returns-clause-order c = order_said

pub returns-clause-mask : goal.returns-clause-mask
returns-clause-mask c = mask_said

pub returns-clause-area_limit : goal.returns-clause-area_limit
returns-clause-area_limit c = area_limit_said

pub returns-clause-area_repeated : goal.returns-clause-area_repeated
returns-clause-area_repeated c = area_repeated_said

pub returns-clause-area_unknown : goal.returns-clause-area_unknown
returns-clause-area_unknown c = area_unknown_said

pub returns-clause-wrap : goal.returns-clause-wrap
returns-clause-wrap c = wrap_said

pub returns-clause-pages : goal.returns-clause-pages
returns-clause-pages c = pages_said
