-- Bytes in pieces, and what they are joined.
use Rattle.std.specs.Prelude.{ℕ, ◌≡◌, ◌≤◌, List, ◌++◌, length, take, map, Option}
use Rattle.std.specs.List.{concat}
use denote.Ref.{Bor}
use Rattle.igvm_outside.specs.Files.{Files, with_file}

-- the bytes of pieces that are lent
abbrev pub lent : List (Bor (List ℕ)) → List (List ℕ)
lent pieces = map (λ piece. piece.now) pieces

-- a front and the pieces after it, as one text
abbrev pub joined : List ℕ → List (List ℕ) → List ℕ
joined front pieces = front ++ concat pieces

-- the same files, but that this one holds a front of a text
abbrev pub HoldsFront : Option Files → Option Files → List ℕ → List ℕ → Type 0
HoldsFront told told' name text = (n : ℕ) × (n ≤ length text) × (told' ≡ with_file told name (take n text))
