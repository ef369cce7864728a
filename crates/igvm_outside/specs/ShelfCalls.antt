-- What a call leaves of a shelf. These words take the trait's record: at a bound `S: Shelf` it is `S.Shelf`.
use Rattle.std.specs.Prelude.{◌≡◌, ◌⊎◌, ℕ, ◌<◌, ◌≤◌, List, length, Option, Some, IfSome, Result, OnOk, OnErr}
use Rattle.std.specs.FinMap as map
use Rattle.igvm_headers.specs.FaultCounts.{HasCause}
use Rattle.igvm_outside.specs.Files.{Files, Nothing, content, with_file, NeverFalls, IsUnwritten}
use Rattle.igvm_outside.specs.JoinedBytes.{HoldsFront}
use Rattle.igvm_outside.specs.declared.shelf.Shelf as shelves

-- The call only reads: no file changes, no count of faults falls, and nothing is being written where nothing was.
pub record OnlyReads {S : Type 0} (s : shelves.Ghosts S) (old new : S) : Type 0 where
  pub kept : s.told new ≡ s.told old
  pub reads : NeverFalls (s.read_faults old) (s.read_faults new)
  pub writes : NeverFalls (s.write_faults old) (s.write_faults new)
  pub unwritten : IsUnwritten (s.state old) → IsUnwritten (s.state new)

-- where told, the files are the same, but that this one may hold other bytes
abbrev pub MayChange : Option Files → Option Files → List ℕ → Type 0
MayChange told told' name = (told' ≡ told) ⊎ ((bytes : List ℕ) × (told' ≡ with_file told name bytes))

-- The call only writes this file: no other one changes, no count of faults falls, and nothing is given.
pub record OnlyWrites {S : Type 0} (s : shelves.Ghosts S) (name : List ℕ) (old new : S) : Type 0 where
  pub others : MayChange (s.told old) (s.told new) name
  pub reads : NeverFalls (s.read_faults old) (s.read_faults new)
  pub writes : NeverFalls (s.write_faults old) (s.write_faults new)
  pub given : s.given new ≡ s.given old

-- A file was read whole, without a fault: these are its bytes where told, as many as the shelf gave, and no more than
-- a limit.
pub record IsRead {S : Type 0} (s : shelves.Ghosts S) (name : List ℕ) (limit : ℕ) (bytes : List ℕ) (old new : S) : Type 0 where
  pub whole : IfSome (s.told old) (λ files. map.get files name ≡ Some bytes)
  pub given : s.given new ≡ length bytes
  pub within : length bytes ≤ limit
  pub no_fault : s.read_faults new name ≡ s.read_faults old name
  pub only : OnlyReads s old new
  pub unwritten : IsUnwritten (s.state new)

-- A file is longer than a limit: the shelf gave more bytes of it, and where told it has more.
pub record IsLonger {S : Type 0} (s : shelves.Ghosts S) (name : List ℕ) (limit : ℕ) (old new : S) : Type 0 where
  pub given : limit < s.given new
  pub file : IfSome (s.told old) (λ files. limit < length (content files name))

-- A file is written, and nothing is open then. After Ok it holds this text, and there was no fault; else no file has
-- changed, or it holds a front of the text, and the count of its write faults rose.
pub record Writes {S A E : Type 0} (s : shelves.Ghosts S) (name text : List ℕ) (result : Result A E) (old new : S) : Type 0 where
  pub written : OnOk result (s.told new ≡ with_file (s.told old) name text)
  pub front : OnErr result ((s.told new ≡ s.told old) ⊎ HoldsFront (s.told old) (s.told new) name text)
  pub cause : HasCause (s.write_faults old name) (s.write_faults new name) result
  pub no_fault : OnOk result (s.write_faults new name ≡ s.write_faults old name)
  pub closed : s.state new ≡ Nothing
  pub only : OnlyWrites s name old new
