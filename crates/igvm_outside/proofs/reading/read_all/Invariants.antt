use Rattle.std.proofs.Common.{length, ◌≤◌, ◌+◌, ◌-◌, ◌≡◌}
use Rattle.igvm_outside.specs.ReadProgress.{HasGiven}
use Rattle.igvm_outside.specs.ShelfCalls.{OnlyReads}
use Rattle.igvm_outside.proofs.reading.read_all.Given as goal

-- each fact is one of the shelf as it is now, and one equation ties it to the shelf at entry
abbrev pub invariant-reads : goal.invariant-reads
invariant-reads g l = record {
  given : HasGiven g.S.Shelf l.shelf l.name l.bytes.items;
  within : length l.bytes.items ≤ l.limit + 1;
  small : l.limit ≤ 536870912;
  room : length l.buffer ≡ 65536;
  no_fault : g.S.Shelf.read_faults l.shelf l.name ≡ g.S.Shelf.read_faults l.fn.shelf l.name;
  only : OnlyReads g.S.Shelf l.fn.shelf l.shelf;
}

abbrev pub decreases-reads : goal.decreases-reads
decreases-reads g l = l.limit + 1 - length l.bytes.items
