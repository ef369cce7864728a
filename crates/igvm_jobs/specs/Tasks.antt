-- What the clauses of the top call ask of a job. They know no job by itself: a further one is a further task.
use Rattle.std.specs.Prelude.{◌≡◌, ℕ, List, Option, Bool, false}
use Rattle.igvm_outside.specs.Files.{Files}
use Rattle.igvm_jobs.specs.declared.status.Status.TheVariants as is
use Rattle.igvm_jobs.specs.Outcome.{Outcome, refused}

-- what a job gives, and which files it may touch
pub record Task : Type 1 where
  -- whether words mean it; else they mean no job, which is usage
  pub meant : Bool
  -- what it gives over these files
  pub outcome : Files → Outcome
  -- what it can give whatever is told, where the file that was read last gave this many bytes
  pub can_give : ℕ → Outcome → Type 0
  -- a name that it may read, where the files are told, and where they are not
  pub reads : Option Files → List ℕ → Type 0
  -- a name that it may write
  pub writes : List ℕ → Type 0
  -- whether it sends commands to the machine
  pub launches : Bool
  -- whether it writes its file before it takes the last of its memory
  pub early : Bool

-- what words are answered that mean no job, where this text says how the program is used
abbrev pub no_task : List ℕ → Task
no_task usage =
    record {
      meant = false;
      outcome = λ files. refused is.Usage usage;
      can_give = λ given outcome. outcome ≡ refused is.Usage usage;
      reads = λ told name. ⊥;
      writes = λ name. ⊥;
      launches = false;
      early = false;
    }
