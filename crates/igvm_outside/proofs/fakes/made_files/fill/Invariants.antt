use Rattle.std.proofs.Common.{◌≡◌, ℕ, ◌+◌, ◌/◌, ◌%◌, ◌<◌, get_or}
use Rattle.std.specs.Int.{to_le_bytes, w64}
use Rattle.igvm_outside.proofs.fakes.made_files.fill.Given as goal

-- the bytes so far are made
abbrev pub invariant-bytes : goal.invariant-bytes
invariant-bytes l = (i : ℕ) → i < l.k → get_or l.part i 0 ≡ get_or (to_le_bytes w64 ((l.place + i) / 8)) ((l.place + i) % 8) 0
