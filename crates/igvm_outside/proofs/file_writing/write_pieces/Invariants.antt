use Rattle.std.proofs.Common.{◌≡◌, take}
use Rattle.igvm_outside.specs.Files.{writing, with_file}
use Rattle.igvm_outside.specs.ShelfCalls.{OnlyWrites}
use Rattle.igvm_outside.specs.JoinedBytes.{lent, joined}
use Rattle.igvm_outside.proofs.file_writing.write_pieces.Given as goal

-- the file holds the front and the pieces so far
abbrev pub invariant-pieces : goal.invariant-pieces
invariant-pieces g l = record {
  open_still : g.S.Shelf.state l.shelf ≡ writing (g.S.Shelf.told l.shelf) l.name;
  written : g.S.Shelf.told l.shelf
      ≡ with_file (g.S.Shelf.told l.fn.shelf) l.name (joined l.front (lent (take l.piece-index l.pieces)));
  no_fault : g.S.Shelf.write_faults l.shelf l.name ≡ g.S.Shelf.write_faults l.fn.shelf l.name;
  only : OnlyWrites g.S.Shelf l.name l.fn.shelf l.shelf;
}
