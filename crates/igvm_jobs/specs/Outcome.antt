-- What a job gives: a status, a text on each output, the file that is written, and how the launch ends.
use Rattle.std.specs.Prelude.{ℕ, List, [], Option, Some, None}
use Rattle.launch_platform.specs.declared.phase.Phase.{Phase}
use Rattle.image_loader.specs.Loads.{Load}
use Rattle.igvm_jobs.specs.declared.status.Status.{Status}
use Rattle.igvm_jobs.specs.declared.status.Status.TheVariants as is

-- a file that is written, and its bytes
pub record Written : Type 0 where
  pub name : List ℕ
  pub bytes : List ℕ

-- a launch that ends: what is loaded, and the phase that the machine ends in
pub record Launched : Type 0 where
  pub load : Load
  pub phase : Phase

-- A status, what `out` gains, what `err` gains, the file that is written, and the launch. Where there is none, the
-- machine is sent no command.
pub record Outcome : Type 0 where
  pub status : Status
  pub out : List ℕ
  pub err : List ℕ
  pub written : Option Written
  pub launched : Option Launched

-- the job is done, and this text is put
abbrev pub done : List ℕ → Outcome
done text = record { status = is.Done; out = text; err = []; written = None; launched = None }

-- the job is done, this file is written, and this text is put
abbrev pub done_writing : List ℕ → List ℕ → List ℕ → Outcome
done_writing name bytes text =
    record { status = is.Done; out = text; err = []; written = Some (record { name = name; bytes = bytes }); launched = None }

-- the job is refused, with this line
abbrev pub refused : Status → List ℕ → Outcome
refused status line = record { status = status; out = []; err = line; written = None; launched = None }

-- the image does not fit, this text is put, and the launch, if one began, has ended so
abbrev pub not_fit : List ℕ → Option Launched → Outcome
not_fit text launched = record { status = is.NotFit; out = text; err = []; written = None; launched = launched }
