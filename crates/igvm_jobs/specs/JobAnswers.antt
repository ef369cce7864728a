-- What the promises of a job come to: over files that are told, and of each job whatever is told.
use Rattle.std.specs.Prelude.{◌≡◌, ℕ, ◌<◌, ◌≤◌, ◌⊎◌, List, length, Option, Some, None, Result, Ok, Err}
use Rattle.igvm_headers.specs.declared.fault.ReadFault.{ReadFault}
use Rattle.igvm_headers.specs.declared.fault.ReadWhat.{ReadWhat}
use Rattle.platform_masks.specs.declared.platform.Platform.{Platform}
use Rattle.host_set.specs.declared.range.PlanRange.{PlanRange}
use Rattle.host_set.specs.declared.refusal.HostPart.{HostPart}
use Rattle.host_set.specs.declared.refusal.HostRefusal.{HostRefusal}
use Rattle.host_set.specs.declared.refusal.HostRefusal.TheVariants as reading
use Rattle.host_set.specs.Hosts.{HostValues}
use Rattle.host_set.specs.Descriptions.{host_of}
use Rattle.igvm_image.specs.FileFault.{fault_of}
use Rattle.directive_rules.specs.declared.misfit.Misfit.{Misfit}
use Rattle.igvm_measure.specs.WantedDigest.{load_misfit}
use Rattle.dump_text.specs.Listing.{print_text}
use Rattle.component_list.specs.Lists.{ImageParts}
use Rattle.component_list.specs.declared.refusal.ListPart.{ListPart}
use Rattle.image_builder.specs.Layout.{layout}
use Rattle.igvm_outside.specs.Files.{Files, with_file}
use Rattle.igvm_outside.specs.declared.shelf.Shelf as shelves
use Rattle.igvm_outside.specs.declared.sink.Sink as sinks
use Rattle.launch_platform.specs.declared.launch.Launch as launches
use Rattle.launch_platform.specs.declared.phase.Phase.TheVariants as phase
use Rattle.image_loader.specs.Loads.{load_of}
use Rattle.image_loader.specs.PlacedPages.{placed, contexts}
use Rattle.igvm_jobs.specs.declared.status.Status.{Status}
use Rattle.igvm_jobs.specs.declared.status.Status.TheVariants as is
use Rattle.igvm_words.specs.Words.{MeasureWords, LoadWords}
use Rattle.igvm_jobs.specs.Texts.{fault_text, long_file_text, no_platform_text, no_digest_text, digest_text, long_list_text, long_blob_text, large_data_text, large_image_text, not_json_text, part_text, field_text, entry_text, built_text, long_host_text, host_part_text, load_text, misfit_text}
use Rattle.igvm_jobs.specs.ImageFiles.{file_limit}
use Rattle.igvm_jobs.specs.MeasureJob.{wanted_platform, platform_digest}
use Rattle.igvm_jobs.specs.ListFiles.{list_limit}
use Rattle.igvm_jobs.specs.BuildJob.{image_limit}
use Rattle.igvm_jobs.specs.LoadJob.{host_limit}
use Rattle.igvm_jobs.specs.MakeJob.{made_image, made_text}
use Rattle.igvm_jobs.specs.Tasks.{Task}
use Rattle.igvm_jobs.specs.Clauses.{OutputIsKept, ErrorTextIsPut, FilesEndAs, Gains, MachineEndsAs, failures, FaultsHaveCauses}

-- ---- over files that are told

-- Where the files are told, the promises hold of what the job gives over them: the status is that outcome's, or a fault
-- of the outside, or want of memory; what is put and written is that outcome's; and so are the causes of a fault.
pub record FollowsFiles {S O E L : Type 0} (s : shelves.Ghosts S) (o : sinks.Ghosts O) (e : sinks.Ghosts E)
    (l : launches.Ghosts L) (task : Task) (status : Status) (shelf shelf' : S) (out out' : O) (err err' : E)
    (machine machine' : L) (files : Files) : Type 0 where
  pub status_is : (status ≡ (task.outcome files).status) ⊎ (status ≡ is.Outside) ⊎ (status ≡ is.Memory)
  pub output : OutputIsKept o (task.outcome files) status out out'
  pub error : ErrorTextIsPut e (task.outcome files) status
      (failures s o l task shelf shelf' out out' machine machine' (task.outcome files)) err err'
  pub written : FilesEndAs (task.outcome files) status task.early (s.told shelf) (s.told shelf')
  pub launch : MachineEndsAs l task.launches (task.outcome files) status
      (failures s o l task shelf shelf' out out' machine machine' (task.outcome files)) machine machine'
  pub faults : FaultsHaveCauses status
      (failures s o l task shelf shelf' out out' machine machine' (task.outcome files))

-- ---- whatever is told

-- A fault of the outside, or want of memory. In what follows `given` is how many bytes the file gave that was read last;
-- `gains` says that the output has gained a text, and `put` that the error output has, or a front where its count rose.
abbrev pub IsHalted : Status → Type 0
IsHalted status = (status ≡ is.Outside) ⊎ (status ≡ is.Memory)

-- an image that the reader accepts, of as many bytes as were given
pub record IsImage (bytes : List ℕ) (given : ℕ) : Type 0 where
  pub size : length bytes ≡ given
  pub within : given ≤ file_limit
  pub accepted : fault_of bytes ≡ None

-- a file that breaks a rule of the reader, of as many bytes as were given
pub record IsFaulty (bytes : List ℕ) (given : ℕ) (fault : ReadFault) : Type 0 where
  pub size : length bytes ≡ given
  pub within : given ≤ file_limit
  pub broken : fault_of bytes ≡ Some fault

-- the image file is refused: it gave more than its limit, or its bytes break a rule
abbrev pub IsFileRefused : Status → ℕ → (List ℕ → Type 0) → Type 0
IsFileRefused status given put =
    ((status ≡ is.Limit) × (file_limit < given) × put long_file_text)
    ⊎ ((status ≡ is.File) × ((bytes : List ℕ) × (fault : ReadFault) × IsFaulty bytes given fault × put (fault_text fault)))

-- `print`: the listing of an image is put
abbrev pub PrintAnswers : Status → ℕ → (List ℕ → Type 0) → (List ℕ → Type 0) → Type 0
PrintAnswers status given gains put =
    IsHalted status ⊎ IsFileRefused status given put
    ⊎ ((status ≡ is.Done) × ((bytes : List ℕ) × IsImage bytes given × gains (print_text bytes)))

-- an image has no platform that is asked for, or its kind has no digest
abbrev pub HasNoDigest : MeasureWords → List ℕ → (List ℕ → Type 0) → Type 0
HasNoDigest words bytes put =
    ((wanted_platform bytes words.wanted ≡ None) × put (no_platform_text words.wanted))
    ⊎ ((platform : Platform) × (wanted_platform bytes words.wanted ≡ Some platform)
    × (platform_digest bytes words.options platform ≡ None) × put (no_digest_text platform.kind))

-- an image has this digest for the platform and by the options that are asked for
abbrev pub HasDigest : MeasureWords → List ℕ → List ℕ → Type 0
HasDigest words bytes digest =
    (platform : Platform) × (wanted_platform bytes words.wanted ≡ Some platform)
    × (platform_digest bytes words.options platform ≡ Some digest)

-- `measure`: the digest of an image is put
abbrev pub MeasureAnswers : MeasureWords → Status → ℕ → (List ℕ → Type 0) → (List ℕ → Type 0) → Type 0
MeasureAnswers words status given gains put =
    IsHalted status ⊎ IsFileRefused status given put
    ⊎ ((status ≡ is.Platform) × ((bytes : List ℕ) × IsImage bytes given × HasNoDigest words bytes put))
    ⊎ ((status ≡ is.Done)
    × ((bytes : List ℕ) × (digest : List ℕ) × IsImage bytes given × HasDigest words bytes digest × gains (digest_text digest)))

-- a text is no JSON, or an entry has not its form or breaks a rule
abbrev pub IsJsonText : List ℕ → Type 0
IsJsonText text =
    (text ≡ not_json_text) ⊎ ((part : ListPart) × (item : ℕ) × (text ≡ field_text (part_text part) item))
    ⊎ ((part : ListPart) × (item : ℕ) × (what : ReadWhat) × (text ≡ entry_text part item what))

-- what is too long or too large; of a file, more than its limit was given
abbrev pub IsLimitText : ℕ → List ℕ → Type 0
IsLimitText given text =
    ((text ≡ long_list_text) × (list_limit < given)) ⊎ ((text ≡ long_blob_text) × (file_limit < given))
    ⊎ (text ≡ large_data_text) ⊎ (text ≡ large_image_text)

-- an image of some components is written, no file of which was too long, and its size is put
abbrev pub IsBuilt : List ℕ → ℕ → Option Files → Option Files → (List ℕ → Type 0) → Type 0
IsBuilt target given told told' gains =
    (parts : ImageParts) × (given ≤ file_limit) × (length (layout parts) ≤ image_limit)
    × (told' ≡ with_file told target (layout parts)) × gains (built_text (length (layout parts)))

-- `build`: an image of some components is written to OUT, and its size is put
abbrev pub BuildAnswers : List ℕ → Status → ℕ → Option Files → Option Files → (List ℕ → Type 0) → (List ℕ → Type 0)
    → Type 0
BuildAnswers target status given told told' gains put =
    IsHalted status ⊎ ((status ≡ is.Json) × ((text : List ℕ) × IsJsonText text × put text))
    ⊎ ((status ≡ is.Limit) × ((text : List ℕ) × IsLimitText given text × put text))
    ⊎ ((status ≡ is.Done) × IsBuilt target given told told' gains)

-- ---- `load`

-- the measurement of the same image, for the same platform and by the same options
abbrev pub measurement_of : LoadWords → MeasureWords
measurement_of words = record { file = words.file; wanted = words.wanted; options = words.options }

-- an image that the reader accepts, its platform that is asked for, and its digest for that
pub record IsMeasured (words : LoadWords) (bytes : List ℕ) (platform : Platform) (digest : List ℕ) : Type 0 where
  pub within : length bytes ≤ file_limit
  pub accepted : fault_of bytes ≡ None
  pub wanted : wanted_platform bytes words.wanted ≡ Some platform
  pub found : platform_digest bytes words.options platform ≡ Some digest

-- a text within the limit, as long as was given, that reads as a host description so
pub record IsHostText (text : List ℕ) (given : ℕ) (read : Result (List PlanRange × HostValues) HostRefusal) : Type 0 where
  pub size : length text ≡ given
  pub within : given ≤ host_limit
  pub reads : host_of text ≡ read

-- a text describes no host, and a line says why
abbrev pub IsNoHost : ℕ → (List ℕ → Type 0) → Type 0
IsNoHost given put =
    ((text : List ℕ) × IsHostText text given (Err reading.NotJson) × put not_json_text)
    ⊎ ((text : List ℕ) × (part : HostPart) × (item : ℕ) × IsHostText text given (Err (reading.Field part item))
    × put (field_text (host_part_text part) item))

-- the host description is refused: it gave more than its limit, or its text describes no host
abbrev pub IsHostRefused : Status → ℕ → (List ℕ → Type 0) → Type 0
IsHostRefused status given put =
    ((status ≡ is.Limit) × (host_limit < given) × put long_host_text) ⊎ ((status ≡ is.Json) × IsNoHost given put)

-- the image has a misfit on the host that is described, and the first is put; or it has none, and it is put how much was
-- loaded, and with which digest
abbrev pub IsJudged : LoadWords → List ℕ → Platform → List ℕ → Status → List PlanRange → HostValues
    → (List ℕ → Type 0) → Type 0
IsJudged words bytes platform digest status plan host gains =
    ((status ≡ is.NotFit) × ((misfit : Misfit) × (load_misfit bytes platform plan host words.options ≡ Some misfit)
    × gains (misfit_text misfit)))
    ⊎ ((status ≡ is.Done) × (load_misfit bytes platform plan host words.options ≡ None)
    × gains (load_text (length (placed (load_of bytes platform words.options host)))
    (length (contexts (load_of bytes platform words.options host))) digest))

-- an image with a digest is judged on the host that HOST describes, or HOST is refused
abbrev pub HostAnswers : LoadWords → List ℕ → Platform → List ℕ → Status → ℕ → (List ℕ → Type 0) → (List ℕ → Type 0)
    → Type 0
HostAnswers words bytes platform digest status given gains put =
    IsHostRefused status given put
    ⊎ ((text : List ℕ) × (plan : List PlanRange) × (host : HostValues) × IsHostText text given (Ok (plan, host))
    × IsJudged words bytes platform digest status plan host gains)

-- `load`: FILE is refused, or its image has no digest, or HOST answers for an image that has one
abbrev pub LoadAnswers : LoadWords → Status → ℕ → (List ℕ → Type 0) → (List ℕ → Type 0) → Type 0
LoadAnswers words status given gains put =
    IsHalted status ⊎ IsFileRefused status given put
    ⊎ ((status ≡ is.Platform) × ((bytes : List ℕ) × IsImage bytes given × HasNoDigest (measurement_of words) bytes put))
    ⊎ ((bytes : List ℕ) × (platform : Platform) × (digest : List ℕ) × IsMeasured words bytes platform digest
    × HostAnswers words bytes platform digest status given gains put)

-- After a `load` that is done the machine is done, and the output has gained what the machine then says of itself: how
-- many pages and contexts it holds, and its digest.
pub record LoadIsTold {O L : Type 0} (o : sinks.Ghosts O) (l : launches.Ghosts L) (out out' : O) (machine' : L) : Type 0 where
  pub done : (l.state machine').phase ≡ phase.Done
  pub digest : List ℕ
  pub own : (l.state machine').digest ≡ Some digest
  pub text : Gains o (load_text (length (l.state machine').entries) (length (l.state machine').contexts) digest) out out'

-- ---- `make`

-- the image of n pages is written, and what came out is put
abbrev pub IsMade : ℕ → List ℕ → Option Files → Option Files → (List ℕ → Type 0) → Type 0
IsMade n target told told' gains = (told' ≡ with_file told target (made_image n)) × gains (made_text n)

-- `make`: an image is made and written to OUT, and what came out is put
abbrev pub MakeAnswers : ℕ → List ℕ → Status → Option Files → Option Files → (List ℕ → Type 0) → Type 0
MakeAnswers n target status told told' gains =
    IsHalted status ⊎ ((status ≡ is.Done) × IsMade n target told told' gains)
