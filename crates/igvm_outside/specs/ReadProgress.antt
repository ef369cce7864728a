-- A file that is read to its end, a piece at a time.
use Rattle.std.specs.Prelude.{ℕ, ◌≡◌, List, length, take, Option, IfSome}
use Rattle.igvm_outside.specs.Files.{Files, reading, content, IsThere}
use Rattle.igvm_outside.specs.declared.shelf.Shelf as shelves

-- where told, the bytes are the first of the file
abbrev pub IsFront : Option Files → List ℕ → List ℕ → Type 0
IsFront told name bytes = IfSome told (λ files. bytes ≡ take (length bytes) (content files name))

-- The file is being read, and these are the bytes that it has given.
pub record HasGiven {S : Type 0} (s : shelves.Ghosts S) (shelf : S) (name bytes : List ℕ) : Type 0 where
  pub place : s.state shelf ≡ reading (s.told shelf) name (length bytes)
  pub count : s.given shelf ≡ length bytes
  pub there : IsThere (s.told shelf) name
  pub front : IsFront (s.told shelf) name bytes
