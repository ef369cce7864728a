-- The first rule that a file breaks, as C gets it.
use Rattle.std.specs.Prelude.{ℕ, List, length, Option, Some, None, cond, nat_le}
use Rattle.igvm_headers.specs.declared.fault.ReadFault.{ReadFault}
use Rattle.igvm_image.specs.FileFault.{fault_of}
use Rattle.igvm_c.specs.declared.fault.Fault.{Fault}
use Rattle.igvm_c.specs.declared.refusal.Refusal.{Refusal}
use Rattle.igvm_c.specs.Files.{file_limit}
use Rattle.igvm_c.specs.Refusals.{refusal_status}
use Rattle.igvm_c.specs.Rules.{rule_number, number_named}

abbrev pub told_fault : ReadFault → Fault
told_fault fault = record { at = fault.at; rule = rule_number fault.what; number = number_named fault.what }

-- the status of a check
abbrev pub check_status : Option Refusal → ℕ
check_status None = 0
check_status (Some refusal) = refusal_status refusal

-- what a place holds after a check: the file's first fault where it has one, or what it held
abbrev pub fault_or : Option ReadFault → Fault → Fault
fault_or None old = old
fault_or (Some fault) old = told_fault fault

-- a file that is too long isn't read
abbrev pub checked_fault : List ℕ → Fault → Fault
checked_fault file old = cond (nat_le (length file) file_limit) (fault_or (fault_of file) old) old
