-- What the promises come to for each further command, whatever is told. `given` is how many bytes the file gave that was
-- read last; `gains` says that the output has gained a text, and `put` that the error output has, or a front where its
-- count rose.
use Rattle.std.specs.Prelude.{◌≡◌, ℕ, ◌+◌, ◌<◌, ◌≤◌, ◌⊎◌, List, length, codes, Option, Some, None, Result, Ok, Err}
use Rattle.igvm_headers.specs.SpellingConditions.{AreBytes}
use Rattle.igvm_outside.specs.Files.{Files, with_file}
use Rattle.igvm_outside.specs.declared.sink.Sink as sinks
use Rattle.platform_masks.specs.declared.platform.Platform.{Platform}
use Rattle.igvm_image.specs.FileFault.{fault_of}
use Rattle.host_set.specs.declared.range.PlanRange.{PlanRange}
use Rattle.host_set.specs.Hosts.{HostValues}
use Rattle.directive_rules.specs.declared.misfit.Misfit.{Misfit}
use Rattle.directive_rules.specs.FirstMisfit.{first_misfit}
use Rattle.launch_platform.specs.declared.phase.Phase.TheVariants as phase
use Rattle.image_loader.specs.PlacedPages.{contexts}
use Rattle.sev_chain.specs.SevBytes.{sev_digest_of}
use Rattle.sev_platform.specs.declared.sev_launch.SevLaunch as sevs
use Rattle.sev_loader.specs.SevPlaced.{sev_load_of, sev_placed}
use Rattle.igvm_words.specs.Words.{PlatformChoice}
use Rattle.component_list.specs.Lists.{ImageParts, IsList}
use Rattle.elf_pages.specs.declared.fault.ElfFault.{ElfFault}
use Rattle.elf_pages.specs.Faults.{elf_fault}
use Rattle.elf_pages.specs.Pages.{pages_of}
use Rattle.elf_list.specs.ElfParts.{with_elf_pages, pages_named}
use Rattle.image_builder.specs.Layout.{layout}
use Rattle.further_words.specs.FurtherWords.{ElfWords}
use Rattle.vmsa_page.specs.declared.refusal.VmsaRefusal.{VmsaRefusal}
use Rattle.vmsa_page.specs.declared.refusal.VmsaRefusal.TheVariants as reading
use Rattle.vmsa_page.specs.Pages.{page_of, vmsa_of}
use Rattle.vmsa_page.specs.Sources.{vmsa_source}
use Rattle.vmsa_page.specs.Texts.{vmsa_json}
use Rattle.vmsa_page.specs.Vmsas.{VmsaParts}
use Rattle.igvm_jobs.specs.declared.status.Status.{Status}
use Rattle.igvm_jobs.specs.declared.status.Status.TheVariants as is
use Rattle.igvm_jobs.specs.Texts.{no_platform_text, no_digest_text, digest_text, load_text, misfit_text, long_vmsa_text, not_json_text, field_text, built_text, long_elf_text, many_pages_text}
use Rattle.igvm_jobs.specs.BuildJob.{image_limit}
use Rattle.igvm_jobs.specs.ImageFiles.{file_limit}
use Rattle.igvm_jobs.specs.MeasureJob.{wanted_platform}
use Rattle.igvm_jobs.specs.Clauses.{Gains}
use Rattle.igvm_jobs.specs.JobAnswers.{IsHalted, IsImage, IsFileRefused, IsHostText, IsHostRefused, IsJsonText, IsLimitText}
use Rattle.igvm_tool.specs.VmsaJobs.{text_limit, page_limit}
use Rattle.igvm_tool.specs.ElfTexts.{elf_text}
use Rattle.igvm_tool.specs.BuildElfJob.{elf_limit, pages_limit}

-- ---- `sev-measure`

-- an image has no platform that is asked for, or its kind is neither SEV nor SEV-ES
abbrev pub HasNoSevDigest : PlatformChoice → List ℕ → (List ℕ → Type 0) → Type 0
HasNoSevDigest wanted bytes put =
    ((wanted_platform bytes wanted ≡ None) × put (no_platform_text wanted))
    ⊎ ((platform : Platform) × (wanted_platform bytes wanted ≡ Some platform)
    × (sev_digest_of bytes platform ≡ None) × put (no_digest_text platform.kind))

-- an image has this digest for the SEV or SEV-ES platform that is asked for
abbrev pub IsSevDigest : PlatformChoice → List ℕ → List ℕ → Type 0
IsSevDigest wanted bytes digest =
    (platform : Platform) × (wanted_platform bytes wanted ≡ Some platform) × (sev_digest_of bytes platform ≡ Some digest)

-- `sev-measure`: FILE is refused, or its image has no such digest, or the digest is put
abbrev pub SevMeasureAnswers : PlatformChoice → Status → ℕ → (List ℕ → Type 0) → (List ℕ → Type 0) → Type 0
SevMeasureAnswers wanted status given gains put =
    IsHalted status ⊎ IsFileRefused status given put
    ⊎ ((status ≡ is.Platform) × ((bytes : List ℕ) × IsImage bytes given × HasNoSevDigest wanted bytes put))
    ⊎ ((status ≡ is.Done)
    × ((bytes : List ℕ) × (digest : List ℕ) × IsImage bytes given × IsSevDigest wanted bytes digest × gains (digest_text digest)))

-- ---- `sev-load`

-- an image that the reader accepts, its SEV or SEV-ES platform that is asked for, and its digest for that
pub record IsSevMeasured (wanted : PlatformChoice) (bytes : List ℕ) (platform : Platform) (digest : List ℕ) : Type 0 where
  pub within : length bytes ≤ file_limit
  pub accepted : fault_of bytes ≡ None
  pub named : wanted_platform bytes wanted ≡ Some platform
  pub found : sev_digest_of bytes platform ≡ Some digest

-- the image has a misfit on the host that is described, and the first is put; or it has none, and it is put how much was
-- loaded, and with which digest
abbrev pub IsSevJudged : List ℕ → Platform → List ℕ → Status → List PlanRange → HostValues → (List ℕ → Type 0) → Type 0
IsSevJudged bytes platform digest status plan host gains =
    ((status ≡ is.NotFit)
    × ((misfit : Misfit) × (first_misfit bytes platform plan host ≡ Some misfit) × gains (misfit_text misfit)))
    ⊎ ((status ≡ is.Done) × (first_misfit bytes platform plan host ≡ None)
    × gains (load_text (length (sev_placed (sev_load_of bytes platform host)))
    (length (contexts (sev_load_of bytes platform host))) digest))

-- an image with a digest is judged on the host that HOST describes, or HOST is refused
abbrev pub SevHostAnswers : List ℕ → Platform → List ℕ → Status → ℕ → (List ℕ → Type 0) → (List ℕ → Type 0) → Type 0
SevHostAnswers bytes platform digest status given gains put =
    IsHostRefused status given put
    ⊎ ((text : List ℕ) × (plan : List PlanRange) × (host : HostValues) × IsHostText text given (Ok (plan, host))
    × IsSevJudged bytes platform digest status plan host gains)

-- `sev-load`: FILE is refused, or its image has no such digest, or HOST answers for an image that has one
abbrev pub SevLoadAnswers : PlatformChoice → Status → ℕ → (List ℕ → Type 0) → (List ℕ → Type 0) → Type 0
SevLoadAnswers wanted status given gains put =
    IsHalted status ⊎ IsFileRefused status given put
    ⊎ ((status ≡ is.Platform) × ((bytes : List ℕ) × IsImage bytes given × HasNoSevDigest wanted bytes put))
    ⊎ ((bytes : List ℕ) × (platform : Platform) × (digest : List ℕ) × IsSevMeasured wanted bytes platform digest
    × SevHostAnswers bytes platform digest status given gains put)

-- After a `sev-load` that is done the machine is done, and the output has gained what the machine then says of itself:
-- how many pages and contexts it holds, and its digest.
pub record SevLoadIsTold {O M : Type 0} (o : sinks.Ghosts O) (m : sevs.Ghosts M) (out out' : O) (sev' : M) : Type 0 where
  pub done : (m.state sev').phase ≡ phase.Done
  pub digest : List ℕ
  pub own : (m.state sev').digest ≡ Some digest
  pub text : Gains o (load_text (length (m.state sev').entries) (length (m.state sev').contexts) digest) out out'

-- ---- `vmsa-build`

-- a text within the limit, as long as was given, that is read so
pub record IsVmsaText (text : List ℕ) (given : ℕ) (read : Result VmsaParts VmsaRefusal) : Type 0 where
  pub size : length text ≡ given
  pub within : given ≤ text_limit
  pub reads : vmsa_source text ≡ read

-- a text describes no VMSA, and a line says why
abbrev pub IsNoVmsa : ℕ → (List ℕ → Type 0) → Type 0
IsNoVmsa given put =
    ((text : List ℕ) × IsVmsaText text given (Err reading.NotJson) × put not_json_text)
    ⊎ ((text : List ℕ) × (place : ℕ) × IsVmsaText text given (Err (reading.Field place)) × put (field_text (codes "vmsa") place))

-- the page of the VMSA that a text describes is written, and its size is put
abbrev pub IsVmsaBuilt : List ℕ → ℕ → Option Files → Option Files → (List ℕ → Type 0) → Type 0
IsVmsaBuilt target given told told' gains =
    (text : List ℕ) × (vmsa : VmsaParts) × IsVmsaText text given (Ok vmsa)
    × (told' ≡ with_file told target (page_of vmsa)) × gains (built_text 4096)

-- `vmsa-build`: JSON gave more than its limit, or describes no VMSA, or its page is written to OUT
abbrev pub VmsaBuildAnswers : List ℕ → Status → ℕ → Option Files → Option Files → (List ℕ → Type 0) → (List ℕ → Type 0)
    → Type 0
VmsaBuildAnswers target status given told told' gains put =
    IsHalted status ⊎ ((status ≡ is.Limit) × (text_limit < given) × put long_vmsa_text)
    ⊎ ((status ≡ is.Json) × IsNoVmsa given put) ⊎ ((status ≡ is.Done) × IsVmsaBuilt target given told told' gains)

-- ---- `vmsa-print`

-- the text of a page is put that has as many bytes as were given
abbrev pub IsVmsaPrinted : ℕ → (List ℕ → Type 0) → Type 0
IsVmsaPrinted given gains =
    (page : List ℕ) × (length page ≡ given) × (given ≤ page_limit) × gains (vmsa_json (vmsa_of page))

-- `vmsa-print`: FILE gave more than its limit, or the text of its page is put
abbrev pub VmsaPrintAnswers : Status → ℕ → (List ℕ → Type 0) → (List ℕ → Type 0) → Type 0
VmsaPrintAnswers status given gains put =
    IsHalted status ⊎ ((status ≡ is.Limit) × (page_limit < given) × put long_vmsa_text)
    ⊎ ((status ≡ is.Done) × IsVmsaPrinted given gains)

-- ---- `build-elf`

-- an ELF file that breaks a rule, of as many bytes as were given, and a line says which
abbrev pub IsElfRefused : ℕ → (List ℕ → Type 0) → Type 0
IsElfRefused given put =
    (file : List ℕ) × (fault : ElfFault) × (length file ≡ given) × (elf_fault file ≡ Some fault) × put (elf_text fault)

-- what is too long, too large or too many; of a file, more than its limit was given
abbrev pub IsElfLimitText : ℕ → List ℕ → Type 0
IsElfLimitText given text =
    IsLimitText given text ⊎ ((text ≡ long_elf_text) × (elf_limit < given)) ⊎ (text ≡ many_pages_text)

-- An image is written, of some list with the pages of some ELF file behind its components, and its size is put. The file
-- breaks no rule, and has as many bytes as were given, and the headers name no more pages than an image may.
pub record IsElfBuilt (words : ElfWords) (given : ℕ) (told told' : Option Files) (gains : List ℕ → Type 0) : Type 0 where
  pub parts : ImageParts
  pub list : IsList parts
  pub file : List ℕ
  pub bytes : AreBytes file
  pub size : length file ≡ given
  pub accepted : elf_fault file ≡ None
  pub few : pages_named parts.parts + length (pages_of file) ≤ pages_limit
  pub within : length (layout (with_elf_pages parts file words.mask)) ≤ image_limit
  pub written : told' ≡ with_file told words.target (layout (with_elf_pages parts file words.mask))
  pub put : gains (built_text (length (layout (with_elf_pages parts file words.mask))))

-- `build-elf`: LIST or ELF is refused, or something is too large, or the image with the pages of ELF is written to OUT
abbrev pub ElfAnswers : ElfWords → Status → ℕ → Option Files → Option Files → (List ℕ → Type 0) → (List ℕ → Type 0)
    → Type 0
ElfAnswers words status given told told' gains put =
    IsHalted status ⊎ ((status ≡ is.Json) × ((text : List ℕ) × IsJsonText text × put text))
    ⊎ ((status ≡ is.File) × IsElfRefused given put)
    ⊎ ((status ≡ is.Limit) × ((text : List ℕ) × IsElfLimitText given text × put text))
    ⊎ ((status ≡ is.Done) × IsElfBuilt words given told told' gains)
