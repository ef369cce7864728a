-- `make N OUT`.
use Rattle.std.specs.Prelude.{◌≡◌, ℕ, List, [], length, Some, true, false}
use Rattle.igvm_headers.specs.declared.options.Options.{Options}
use Rattle.igvm_measure.specs.Digests.{snp_digest, tdx_digest}
use Rattle.launch_platform.specs.declared.phase.Phase.TheVariants as phase
use Rattle.image_loader.specs.Loads.{Load, load_of}
use Rattle.image_loader.specs.PlacedPages.{placed, contexts}
use Rattle.image_builder.specs.Layout.{layout}
use Rattle.made_list.specs.MadeList.{made_list}
use Rattle.made_list.specs.MadeImage.{snp_platform, tdx_platform, trial_host}
use Rattle.igvm_jobs.specs.declared.status.Status.TheVariants as is
use Rattle.igvm_jobs.specs.Texts.{make_text}
use Rattle.igvm_jobs.specs.Outcome.{Outcome}
use Rattle.igvm_jobs.specs.Tasks.{Task}

-- no option is set
abbrev pub plain : Options
plain = record { native_zero = false }

-- the image of n pages
abbrev pub made_image : ℕ → List ℕ
made_image n = layout (made_list n)

-- it, loaded for SEV-SNP on the host for trials
abbrev pub made_load : ℕ → Load
made_load n = load_of (made_image n) snp_platform plain trial_host

-- what came out of it: both digests are those that are measured from the image alone
abbrev pub made_text : ℕ → List ℕ
made_text n =
    make_text n (length (made_image n)) (snp_digest plain (made_image n) snp_platform.mask) (length (placed (made_load n)))
    (length (contexts (made_load n))) (tdx_digest (made_image n) tdx_platform.mask)

-- the image is written, the machine is done, and what came out is put
abbrev pub made_outcome : ℕ → List ℕ → Outcome
made_outcome n target =
    record {
      status = is.Done;
      out = made_text n;
      err = [];
      written = Some (record { name = target; bytes = made_image n });
      launched = Some (record { load = made_load n; phase = phase.Done });
    }

-- nothing is read, and OUT is written before the image is loaded, which takes memory
abbrev pub make_task : ℕ → List ℕ → Task
make_task n target =
    record {
      meant = true;
      outcome = λ files. made_outcome n target;
      can_give = λ given outcome. outcome ≡ made_outcome n target;
      reads = λ told name. ⊥;
      writes = λ name. name ≡ target;
      launches = true;
      early = true;
    }
