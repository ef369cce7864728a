-- What becomes of a host description that is not read, as the code keeps it.
use Rattle.std.specs.Prelude.{◌≡◌}
use Rattle.host_set.specs.declared.refusal.HostRefusal.{HostRefusal}
use Rattle.host_set.specs.declared.refusal.HostRefusal.TheVariants as reading
use Rattle.igvm_jobs.specs.declared.refusal.Refusal.{Refusal}
use Rattle.igvm_jobs.specs.declared.refusal.Refusal.TheVariants.{Memory}
use Rattle.igvm_jobs.specs.LoadJob.{host_refused}
use Rattle.igvm_jobs.specs.Refusals.{Refuses}

-- of a host description that is not read
abbrev pub IsOfHost : HostRefusal → Refusal → Type 0
IsOfHost reading.Memory refusal = refusal ≡ Memory
IsOfHost e refusal = Refuses (host_refused e) refusal
