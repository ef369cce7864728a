-- `sev-load FILE HOST --platform P`.
use Rattle.std.specs.Prelude.{◌≡◌, ℕ, ◌⊎◌, List, [], length, nat_lt, if◌then◌else◌, true, false, Option, Some, None, IfSome, Result, Ok, Err}
use Rattle.std.specs.FinMap as map_of
use Rattle.platform_masks.specs.declared.platform.Platform.{Platform}
use Rattle.host_set.specs.declared.range.PlanRange.{PlanRange}
use Rattle.host_set.specs.declared.refusal.HostRefusal.{HostRefusal}
use Rattle.host_set.specs.Hosts.{HostValues}
use Rattle.host_set.specs.Descriptions.{host_of}
use Rattle.directive_rules.specs.declared.misfit.Misfit.{Misfit}
use Rattle.directive_rules.specs.FirstMisfit.{first_misfit}
use Rattle.launch_platform.specs.declared.phase.Phase.TheVariants as phase
use Rattle.image_loader.specs.Loads.{Load}
use Rattle.image_loader.specs.PlacedPages.{contexts}
use Rattle.sev_chain.specs.SevBytes.{sev_digest_of}
use Rattle.sev_loader.specs.SevPlaced.{sev_load_of, sev_placed}
use Rattle.igvm_outside.specs.Files.{Files, content}
use Rattle.igvm_words.specs.Words.{PlatformChoice}
use Rattle.further_words.specs.FurtherWords.{SevLoadWords}
use Rattle.igvm_jobs.specs.declared.status.Status.TheVariants as is
use Rattle.igvm_jobs.specs.Texts.{shelf_text, long_host_text, load_text, misfit_text}
use Rattle.igvm_jobs.specs.Outcome.{Outcome, refused, not_fit}
use Rattle.igvm_jobs.specs.Tasks.{Task}
use Rattle.igvm_jobs.specs.ImageFiles.{bytes_outcome, file_outcome}
use Rattle.igvm_jobs.specs.MeasureJob.{wanted_platform, platform_outcome, digest_outcome}
use Rattle.igvm_jobs.specs.LoadJob.{Setting, host_limit, host_refused}

-- ---- the outcome

-- the load ends with its digest, and the machine is done
abbrev pub sev_loaded : Load → List ℕ → Outcome
sev_loaded load digest =
    record {
      status = is.Done;
      out = load_text (length (sev_placed load)) (length (contexts load)) digest;
      err = [];
      written = None;
      launched = Some (record { load = load; phase = phase.Done });
    }

-- of an image, by the first of its headers that does not fit
abbrev pub sev_checked : Load → List ℕ → Option Misfit → Outcome
sev_checked load digest None = sev_loaded load digest
sev_checked load digest (Some misfit) = not_fit (misfit_text misfit) None

-- of a host description as it is read
abbrev pub sev_described : Setting → Result (List PlanRange × HostValues) HostRefusal → Outcome
sev_described setting (Ok (plan, host)) =
    sev_checked (sev_load_of setting.file setting.platform host) setting.digest
    (first_misfit setting.file setting.platform plan host)
sev_described setting (Err refusal) = host_refused refusal

-- of the text of a host description
unfoldable pub sev_host_outcome : Setting → List ℕ → Outcome
sev_host_outcome setting text =
    if nat_lt host_limit (length text) then refused is.Limit long_host_text
    else sev_described setting (host_of text)

-- a host description that is not there is a fault of the shelf
abbrev pub sev_host_file : Setting → Option (List ℕ) → Outcome
sev_host_file setting None = refused is.Outside shelf_text
sev_host_file setting (Some text) = sev_host_outcome setting text

-- of an accepted image and its platform; `next` says what becomes of it on a host
abbrev pub sev_set_for : (Setting → Outcome) → List ℕ → Platform → Outcome
sev_set_for next bytes platform =
    digest_outcome platform.kind (λ digest. next (record { file = bytes; platform = platform; digest = digest }))
    (sev_digest_of bytes platform)

-- of an accepted image
unfoldable pub sev_set : PlatformChoice → (Setting → Outcome) → List ℕ → Outcome
sev_set wanted next bytes = platform_outcome wanted (sev_set_for next bytes) (wanted_platform bytes wanted)

-- ---- whatever is told

-- the bytes of FILE lead on to HOST, with this
abbrev pub SevLeadsOn : PlatformChoice → List ℕ → Setting → Type 0
SevLeadsOn wanted bytes setting = (next : Setting → Outcome) → bytes_outcome (sev_set wanted next) bytes ≡ next setting

-- some bytes of FILE, as many as were given, decide, whatever HOST is
abbrev pub IsBySevFile : PlatformChoice → ℕ → Outcome → Type 0
IsBySevFile wanted given outcome =
    (bytes : List ℕ) × (length bytes ≡ given)
    × ((next : Setting → Outcome) → outcome ≡ bytes_outcome (sev_set wanted next) bytes)

-- some bytes of FILE lead on, and some text of HOST, as long as was given, decides
abbrev pub IsBySevHost : PlatformChoice → ℕ → Outcome → Type 0
IsBySevHost wanted given outcome =
    (bytes : List ℕ) × (setting : Setting) × (text : List ℕ) × SevLeadsOn wanted bytes setting × (length text ≡ given)
    × (outcome ≡ sev_host_outcome setting text)

-- ---- the task

-- HOST is read where FILE leads on to it, and always where the files are not told
abbrev pub IsSevHost : SevLoadWords → Option Files → List ℕ → Type 0
IsSevHost words told name =
    (name ≡ words.host)
    × IfSome told (λ files. (setting : Setting) × SevLeadsOn words.wanted (content files words.file) setting)

-- FILE is read, and HOST where FILE leads on to it. `launches` is of the machine that `load` has, and this job leaves that
-- one alone: what is promised of the SEV machine is in SevClauses.
abbrev pub sev_load_task : SevLoadWords → Task
sev_load_task words =
    record {
      meant = true;
      outcome = λ files. file_outcome
          (sev_set words.wanted (λ setting. sev_host_file setting (map_of.get files words.host)))
          (map_of.get files words.file);
      can_give = λ given outcome. IsBySevFile words.wanted given outcome ⊎ IsBySevHost words.wanted given outcome;
      reads = λ told name. (name ≡ words.file) ⊎ IsSevHost words told name;
      writes = λ name. ⊥;
      launches = false;
      early = false;
    }
