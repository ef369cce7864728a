-- The plan for trials breaks no rule of plans.
use Rattle.std.proofs.Common.{◌≡◌, refl, None}
use Rattle.host_set.specs.Plans.{bad_range, is_placed}
use Rattle.made_list.specs.MadeImage.{trial_plan}

pub no_bad_range : bad_range trial_plan ≡ None
unfolding bad_range is_placed
no_bad_range = refl
