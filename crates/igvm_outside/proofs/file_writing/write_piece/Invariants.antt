use Rattle.std.proofs.Common.{ℕ, List, ◌++◌, length, ◌-◌, ◌≡◌, ◌≤◌, take}
use Rattle.std.specs.Prelude.{Option}
use Rattle.igvm_outside.specs.Files.{Files, writing, with_file}
use Rattle.igvm_outside.specs.ShelfCalls.{OnlyWrites}
use Rattle.igvm_outside.proofs.file_writing.write_piece.Given as goal

-- after what the file had stands the front of the piece that is written so far
abbrev pub invariant-writes : goal.invariant-writes
invariant-writes g l = record {
  within : l.at ≤ length l.piece;
  open_still : g.S.Shelf.state l.shelf ≡ writing (g.S.Shelf.told l.shelf) l.name;
  written : (told : Option Files) (text : List ℕ) → g.S.Shelf.told l.fn.shelf ≡ with_file told l.name text
      → g.S.Shelf.told l.shelf ≡ with_file told l.name (text ++ take l.at l.piece);
  no_fault : g.S.Shelf.write_faults l.shelf l.name ≡ g.S.Shelf.write_faults l.fn.shelf l.name;
  only : OnlyWrites g.S.Shelf l.name l.fn.shelf l.shelf;
}

abbrev pub decreases-writes : goal.decreases-writes
decreases-writes g l = length l.piece - l.at
