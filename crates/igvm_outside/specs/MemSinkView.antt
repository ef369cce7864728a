-- What contracts see of an output in memory.
use Rattle.std.specs.Prelude.{ℕ, List}
use Rattle.igvm_outside.specs.Script.{Script}

pub record MemSinkView : Type 0 where
  pub bytes : List ℕ
  pub script : Script
