use Rattle.std.proofs.Common.{◌≡◌, length}
use Rattle.param_areas.specs.AreaBytes.{IsOpen, bytes_of}
use Rattle.param_areas.proofs.tests.lends_the_last_value_set.Given as goal

-- both areas stay open, with their sizes
abbrev pub invariant-rounds : goal.invariant-rounds
invariant-rounds g l =
    IsOpen l.areas.areas 0
    × IsOpen l.areas.areas 1
    × (length (bytes_of l.areas.areas 0) ≡ 4096)
    × (length (bytes_of l.areas.areas 1) ≡ 8192)
