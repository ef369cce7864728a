-- What stripping an accepted image gives.
use Rattle.std.proofs.Common.{◌≡◌, ◌∙◌, ℕ, List, sym, ap, subst, Some, None}
use Rattle.std.specs.Prelude.{slice_get}
use Rattle.platform_masks.specs.declared.platform.Platform.{Platform}
use Rattle.component_list.specs.ImageList.{list_of}
use Rattle.component_list.specs.Lists.{ImageParts}
use Rattle.list_changes.specs.ListPlatforms.{platforms_in}
use Rattle.further_words.specs.FurtherWords.{StripWords}
use Rattle.image_ops.specs.Stripped.{stripped}
use Rattle.igvm_jobs.specs.declared.refusal.Refusal.{Refusal}
use Rattle.igvm_jobs.specs.declared.status.Status.TheVariants as is
use Rattle.igvm_jobs.specs.Texts.{no_platform_text}
use Rattle.igvm_jobs.specs.Outcome.{Outcome, refused}
use Rattle.igvm_jobs.specs.BuildJob.{parts_outcome}
use Rattle.igvm_jobs.specs.MeasureJob.{platform_outcome, wanted_platform}
use Rattle.igvm_jobs.specs.Refusals.{Refuses}
use Rattle.operation_jobs.specs.StoredData.{data_outcome}
use Rattle.operation_jobs.specs.StripJob.{stripped_for, stripped_outcome}
use Rattle.operation_jobs.proofs.WantedPlatforms.{stands_in_list}

-- it has no such platform
pub no_platform : (words : StripWords) (bytes : List ℕ) → wanted_platform bytes words.wanted ≡ None → stripped_outcome words bytes ≡ refused is.Platform (no_platform_text words.wanted)
unfolding stripped_outcome
no_platform words bytes none = ap (platform_outcome words.wanted (stripped_for words.target bytes)) none

-- it has
pub has_platform : (words : StripWords) (bytes : List ℕ) (p : Platform) → wanted_platform bytes words.wanted ≡ Some p
    → stripped_outcome words bytes ≡ data_outcome (λ list. parts_outcome words.target (stripped p.mask list)) bytes
unfolding stripped_outcome
has_platform words bytes p found = ap (platform_outcome words.wanted (stripped_for words.target bytes)) found

-- its list isn't copied
pub list_refused : (words : StripWords) (bytes : List ℕ) (p : Platform) (r : Refusal) → wanted_platform bytes words.wanted ≡ Some p → ((next : ImageParts → Outcome) → Refuses (data_outcome next bytes) r)
    → Refuses (stripped_outcome words bytes) r
list_refused words bytes p r found refuses =
    subst (λ (x : Outcome). Refuses x r) (sym (has_platform words bytes p found)) (refuses (λ list. parts_outcome words.target (stripped p.mask list)))

-- its list is stripped
pub stripped_image : (words : StripWords) (bytes : List ℕ) (p : Platform) (list new : ImageParts) → wanted_platform bytes words.wanted ≡ Some p → list ≡ list_of bytes
    → ((next : ImageParts → Outcome) → data_outcome next bytes ≡ next list) → ((q : Platform) → slice_get (platforms_in list.parts) p.number ≡ Some q → new ≡ stripped q.mask list)
    → stripped_outcome words bytes ≡ parts_outcome words.target new
stripped_image words bytes p list new found same copied made =
    has_platform words bytes p found ∙ copied (λ l. parts_outcome words.target (stripped p.mask l))
    ∙ ap (parts_outcome words.target) (sym (made p (stands_in_list bytes words.wanted p list found same)))
