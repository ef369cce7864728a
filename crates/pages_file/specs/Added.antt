-- What is added to a file that is being written. These words take the trait's record: at a bound `S: Shelf` it is
-- `S.Shelf`.
use Rattle.std.specs.Prelude.{◌≡◌, ℕ, List, ◌++◌, Option}
use Rattle.igvm_headers.specs.FaultCounts.{Rose}
use Rattle.igvm_outside.specs.Files.{Files, Nothing, writing, with_file}
use Rattle.igvm_outside.specs.JoinedBytes.{HoldsFront}
use Rattle.igvm_outside.specs.ShelfCalls.{OnlyWrites}
use Rattle.igvm_outside.specs.declared.shelf.Shelf as shelves

-- These bytes stand behind what the file had, there was no fault, and the file is still written.
pub record IsAdded {S : Type 0} (s : shelves.Ghosts S) (name more : List ℕ) (old new : S) : Type 0 where
  pub written : (told : Option Files) (text : List ℕ) → s.told old ≡ with_file told name text
      → s.told new ≡ with_file told name (text ++ more)
  pub open_still : s.state new ≡ writing (s.told new) name
  pub no_fault : s.write_faults new name ≡ s.write_faults old name
  pub only : OnlyWrites s name old new

-- A fault came before all these bytes stood there: the file holds a front of what it had and of them, and is closed.
pub record IsBrokenOff {S : Type 0} (s : shelves.Ghosts S) (name more : List ℕ) (old new : S) : Type 0 where
  pub front : (told : Option Files) (text : List ℕ) → s.told old ≡ with_file told name text
      → HoldsFront told (s.told new) name (text ++ more)
  pub dropped : s.state new ≡ Nothing
  pub cause : Rose (s.write_faults old name) (s.write_faults new name)
  pub only : OnlyWrites s name old new
