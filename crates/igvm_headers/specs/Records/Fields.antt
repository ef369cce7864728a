-- What the records share: bits, reserved fields, and a content of one length.
use Rattle.std.specs.Prelude.{ℕ, ◌/◌, ◌%◌, ◌^◌, List, length, replicate, ◌==◌, if◌then◌else◌, Bool, Result, Ok, Err}
use Rattle.igvm_headers.specs.declared.fault.HeaderFault.{HeaderFault}
use Rattle.igvm_headers.specs.declared.fault.HeaderFault.TheVariants.{Length}
use Rattle.igvm_headers.specs.declared.header.Header.{Header}

-- a bit of a number
abbrev pub is_set : ℕ → ℕ → Bool
is_set bit n = n / 2 ^ bit % 2 == 1

-- what stands for a reserved field
abbrev pub reserved : ℕ → List ℕ
reserved n = replicate n 0

-- a record of a length of its own
abbrev pub of_length : ℕ → List ℕ → Header → Result Header HeaderFault
of_length n content header = if length content == n then Ok header else Err Length
