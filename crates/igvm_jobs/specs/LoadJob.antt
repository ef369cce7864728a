-- `load FILE HOST --platform P [--native-zero] [--image OUT]`.
use Rattle.std.specs.Prelude.{◌≡◌, ℕ, ◌⊎◌, List, [], length, map, nat_lt, if◌then◌else◌, true, false, Option, Some, None, IfSome, Result, Ok, Err}
use Rattle.std.specs.Option.{option_map}
use Rattle.std.specs.FinMap as map_of
use Rattle.platform_masks.specs.declared.platform.Platform.{Platform}
use Rattle.host_set.specs.declared.range.PlanRange.{PlanRange}
use Rattle.host_set.specs.declared.refusal.HostRefusal.{HostRefusal}
use Rattle.host_set.specs.declared.refusal.HostRefusal.TheVariants as reading
use Rattle.host_set.specs.Hosts.{HostValues}
use Rattle.host_set.specs.Descriptions.{host_of}
use Rattle.directive_rules.specs.declared.misfit.Misfit.{Misfit}
use Rattle.directive_rules.specs.FirstMisfit.{first_misfit}
use Rattle.igvm_measure.specs.WantedDigest.{bad_digest}
use Rattle.launch_platform.specs.declared.phase.Phase.TheVariants as phase
use Rattle.image_loader.specs.Loads.{Load, load_of}
use Rattle.image_loader.specs.PlacedPages.{entry_of, placed, contexts}
use Rattle.pages_file.specs.PagesFile.{pages_file}
use Rattle.igvm_outside.specs.Files.{Files, content}
use Rattle.igvm_words.specs.Words.{LoadWords}
use Rattle.igvm_jobs.specs.declared.status.Status.TheVariants as is
use Rattle.igvm_jobs.specs.Texts.{shelf_text, memory_text, long_host_text, not_json_text, host_part_text, field_text, load_text, misfit_text}
use Rattle.igvm_jobs.specs.Outcome.{Outcome, Written, refused, not_fit}
use Rattle.igvm_jobs.specs.Tasks.{Task}
use Rattle.igvm_jobs.specs.ImageFiles.{bytes_outcome, file_outcome}
use Rattle.igvm_jobs.specs.MeasureJob.{wanted_platform, platform_digest, platform_outcome, digest_outcome}

-- the most bytes that a host description may have
abbrev pub host_limit : ℕ
host_limit = 16777216

-- what FILE and P come to: an accepted image, the platform that is asked for, and the digest for it
pub record Setting : Type 0 where
  pub file : List ℕ
  pub platform : Platform
  pub digest : List ℕ

-- ---- the outcome

-- the pages file of a load, where one is asked for
abbrev pub pages_written : Option (List ℕ) → Load → Option Written
pages_written image load =
    option_map (λ name. record { name = name; bytes = pages_file (map entry_of (placed load)) (contexts load) }) image

-- the load ends with its digest: the machine is done, and the pages file is written where it is asked for
abbrev pub loaded : Option (List ℕ) → Load → List ℕ → Outcome
loaded image load digest =
    record {
      status = is.Done;
      out = load_text (length (placed load)) (length (contexts load)) digest;
      err = [];
      written = pages_written image load;
      launched = Some (record { load = load; phase = phase.Done });
    }

-- the load ends as its ID block says, which may want another digest: then the machine is refused
abbrev pub ended_outcome : Option (List ℕ) → Load → List ℕ → Option Misfit → Outcome
ended_outcome image load digest None = loaded image load digest
ended_outcome image load digest (Some misfit) =
    not_fit (misfit_text misfit) (Some (record { load = load; phase = phase.Refused }))

-- of an image, by the first of its headers that does not fit
abbrev pub checked_outcome : Option (List ℕ) → Load → List ℕ → Option Misfit → Outcome
checked_outcome image load digest None =
    ended_outcome image load digest (bad_digest load.file load.platform load.options)
checked_outcome image load digest (Some misfit) = not_fit (misfit_text misfit) None

-- of a host description that is not read
abbrev pub host_refused : HostRefusal → Outcome
host_refused reading.NotJson = refused is.Json not_json_text
host_refused (reading.Field part item) = refused is.Json (field_text (host_part_text part) item)
host_refused reading.Memory = refused is.Memory memory_text

-- of a host description as it is read
abbrev pub described_outcome : LoadWords → Setting → Result (List PlanRange × HostValues) HostRefusal → Outcome
described_outcome words setting (Ok (plan, host)) =
    checked_outcome words.image (load_of setting.file setting.platform words.options host) setting.digest
    (first_misfit setting.file setting.platform plan host)
described_outcome words setting (Err refusal) = host_refused refusal

-- of the text of a host description
unfoldable pub host_outcome : LoadWords → Setting → List ℕ → Outcome
host_outcome words setting text =
    if nat_lt host_limit (length text) then refused is.Limit long_host_text
    else described_outcome words setting (host_of text)

-- a host description that is not there is a fault of the shelf
abbrev pub host_file_outcome : LoadWords → Setting → Option (List ℕ) → Outcome
host_file_outcome words setting None = refused is.Outside shelf_text
host_file_outcome words setting (Some text) = host_outcome words setting text

-- of an accepted image and its platform; `next` says what becomes of it on a host
abbrev pub set_for : LoadWords → (Setting → Outcome) → List ℕ → Platform → Outcome
set_for words next bytes platform =
    digest_outcome platform.kind (λ digest. next (record { file = bytes; platform = platform; digest = digest }))
    (platform_digest bytes words.options platform)

-- of an accepted image
unfoldable pub set : LoadWords → (Setting → Outcome) → List ℕ → Outcome
set words next bytes = platform_outcome words.wanted (set_for words next bytes) (wanted_platform bytes words.wanted)

-- ---- whatever is told

-- the bytes of FILE lead on to HOST, with this
abbrev pub LeadsOn : LoadWords → List ℕ → Setting → Type 0
LeadsOn words bytes setting = (next : Setting → Outcome) → bytes_outcome (set words next) bytes ≡ next setting

-- some bytes of FILE, as many as were given, decide, whatever HOST is
abbrev pub IsByFile : LoadWords → ℕ → Outcome → Type 0
IsByFile words given outcome =
    (bytes : List ℕ) × (length bytes ≡ given) × ((next : Setting → Outcome) → outcome ≡ bytes_outcome (set words next) bytes)

-- some bytes of FILE lead on, and some text of HOST, as long as was given, decides
abbrev pub IsByHost : LoadWords → ℕ → Outcome → Type 0
IsByHost words given outcome =
    (bytes : List ℕ) × (setting : Setting) × (text : List ℕ) × LeadsOn words bytes setting × (length text ≡ given)
    × (outcome ≡ host_outcome words setting text)

-- ---- the task

-- HOST is read where FILE leads on to it, and always where the files are not told
abbrev pub IsHost : LoadWords → Option Files → List ℕ → Type 0
IsHost words told name =
    (name ≡ words.host) × IfSome told (λ files. (setting : Setting) × LeadsOn words (content files words.file) setting)

-- FILE is read, and HOST where FILE leads on to it, and OUT is written where it is asked for
abbrev pub load_task : LoadWords → Task
load_task words =
    record {
      meant = true;
      outcome = λ files. file_outcome
          (set words (λ setting. host_file_outcome words setting (map_of.get files words.host))) (map_of.get files words.file);
      can_give = λ given outcome. IsByFile words given outcome ⊎ IsByHost words given outcome;
      reads = λ told name. (name ≡ words.file) ⊎ IsHost words told name;
      writes = λ name. Some name ≡ words.image;
      launches = true;
      early = false;
    }
