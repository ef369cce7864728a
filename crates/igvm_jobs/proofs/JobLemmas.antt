-- The tasks of jobs.
use Rattle.std.proofs.Common.{◌≡◌, refl, true}
use Rattle.igvm_words.specs.Words.{Job, Build, Print, Measure, Load, Make}
use Rattle.igvm_jobs.specs.Jobs.{task_of}

-- words mean each of them
pub is_meant : (job : Job) → (task_of job).meant ≡ true
is_meant (Build list target) = refl
is_meant (Print file) = refl
is_meant (Measure words) = refl
is_meant (Load words) = refl
is_meant (Make count target) = refl
