-- How the steps of `build` end: its list is read, and its image is written.
use Rattle.std.proofs.Common.{◌≡◌, ℕ, ◌≤◌, refl, sym, inl, inr, List, length, Bool, true, false, Option, Some, None, IfSome}
use Rattle.std.specs.Prelude.{nat_lt, if◌then◌else◌}
use Rattle.std.specs.FinMap as map
use Rattle.igvm_outside.specs.Files.{Files}
use Rattle.igvm_outside.specs.declared.shelf.Shelf as shelves
use Rattle.component_list.specs.Lists.{ImageParts}
use Rattle.image_builder.specs.Layout.{layout}
use Rattle.igvm_jobs.specs.declared.status.Status.TheVariants as is
use Rattle.igvm_jobs.specs.declared.refusal.Refusal.{Refusal}
use Rattle.igvm_jobs.specs.Texts.{large_image_text, built_text}
use Rattle.igvm_jobs.specs.Outcome.{Outcome, Written, refused, done_writing}
use Rattle.igvm_jobs.specs.ImageFiles.{file_limit}
use Rattle.igvm_jobs.specs.ListFiles.{list_outcome, list_part}
use Rattle.igvm_jobs.specs.BuildJob.{build_task, parts_outcome, image_limit}
use Rattle.igvm_jobs.specs.Endings.{Stops}
use Rattle.igvm_jobs.proofs.EndingLemmas.{always, Known, part_stops}

-- the list stopped the job
pub list_stops : {S : Type 0} {s : shelves.Ghosts S} (list target : List ℕ) {r : Refusal} {shelf shelf' : S} → Stops s (list_part list (parts_outcome target)) r shelf shelf'
    → Stops s (build_task list target) r shelf shelf'
list_stops {s} list target {r} {shelf} h =
    part_stops (list_part list (parts_outcome target)) (build_task list target) (always (s.told shelf) _ (λ files. refl)) (λ given x can. inl can) (λ name reads. reads) (λ name writes. absurd writes) h

parts_told : (told : Option Files) (list target : List ℕ) (parts : ImageParts) → IfSome told (λ files. (next : ImageParts → Outcome) → list_outcome files next (map.get files list) ≡ next parts)
    → IfSome told (λ files. parts_outcome target parts ≡ list_outcome files (parts_outcome target) (map.get files list))
parts_told None list target parts listed = tt
parts_told (Some files) list target parts listed = sym (listed (parts_outcome target))

-- what becomes of a list whose components were read
pub parts_known : {S : Type 0} {s : shelves.Ghosts S} (list target : List ℕ) (parts : ImageParts) {shelf shelf' : S}
    → IfSome (s.told shelf) (λ files. (next : ImageParts → Outcome) → list_outcome files next (map.get files list) ≡ next parts)
    → s.given shelf' ≤ file_limit → Known s (build_task list target) (parts_outcome target parts) shelf shelf'
parts_known {s} list target parts {shelf} listed given = record { told = parts_told (s.told shelf) list target parts listed; can = inr (parts, given, refl) }

named_by : (target : List ℕ) (parts : ImageParts) (large : Bool) (written : Written)
    → (if large then refused is.Limit large_image_text else done_writing target (layout parts) (built_text (length (layout parts)))).written ≡ Some written → written.name ≡ target
named_by target parts true written same = cc
named_by target parts false written same = cc

-- the image that is written has the name that is asked for
pub parts_named : (target : List ℕ) (parts : ImageParts) (written : Written) → (parts_outcome target parts).written ≡ Some written → written.name ≡ target
unfolding parts_outcome
parts_named target parts written same = named_by target parts (nat_lt image_limit (length (layout parts))) written same
