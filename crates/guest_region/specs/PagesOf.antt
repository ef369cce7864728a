-- A row of bytes as pages.
use Rattle.std.specs.Prelude.{ℕ, zero, suc, List, [], ◌∷◌, take, drop}

-- that many pieces of one size, one after the other
unfoldable pub pieces : ℕ → ℕ → List ℕ → List (List ℕ)
pieces size zero bytes = []
pieces size (suc n) bytes = take size bytes ∷ pieces size n (drop size bytes)

-- that many pages of 4,096 bytes, one after the other
abbrev pub pages_of : ℕ → List ℕ → List (List ℕ)
pages_of n bytes = pieces 4096 n bytes
