use Rattle.std.proofs.Common.{◌≡◌, ◌-◌}
use Rattle.igvm_headers.specs.Records.Page.{least_set}
use Rattle.igvm_headers.proofs.records.page.least_unknown_flag.Given as goal

abbrev pub invariant-bits : goal.invariant-bits
invariant-bits l = least_set 30 2 l.flags ≡ least_set (32 - l.bit) l.bit l.flags
