-- Whether a file is refused: its length first, then the rules of the reader.
use Rattle.std.specs.Prelude.{ℕ, List, length, Option, Some, None, cond, nat_le}
use Rattle.igvm_headers.specs.declared.fault.ReadFault.{ReadFault}
use Rattle.igvm_image.specs.FileFault.{fault_of}
use Rattle.igvm_c.specs.declared.refusal.Refusal.{Refusal}
use Rattle.igvm_c.specs.declared.refusal.Refusal.TheVariants.{Rule, TooLong}

-- the longest file that is read, in bytes
abbrev pub file_limit : ℕ
file_limit = 536870912

-- a file with this first fault is refused
abbrev pub refused_by : Option ReadFault → Option Refusal
refused_by None = None
refused_by (Some fault) = Some Rule

-- why a file is refused
abbrev pub file_refusal : List ℕ → Option Refusal
file_refusal file = cond (nat_le (length file) file_limit) (refused_by (fault_of file)) (Some TooLong)
