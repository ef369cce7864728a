-- A section as headers in a row, said of the whole section: which pieces it has, and what is left behind them.
use Rattle.std.specs.Prelude.{◌≡◌, ◌≤◌, ◌<◌, ℕ, ◌+◌, List, [], ◌∷◌, length, drop, ◌⊎◌}
use Rattle.igvm_headers.specs.Numbers.{number_at, slice}
use Rattle.igvm_image.specs.Pieces.{Piece, size_of}

-- no whole header stands at the front: the type and the length are cut, or the content is
abbrev pub IsCut : List ℕ → Type 0
IsCut section = (length section < 8) ⊎ (length section < 8 + number_at 4 4 section)

-- a section begins with this type, with the length of this content, and with this content
pub record Begins (section : List ℕ) (p : Piece) : Type 0 where
  pub kind : number_at 4 0 section ≡ p.kind
  pub size : number_at 4 4 section ≡ length p.content
  pub content : slice section 8 (length p.content) ≡ p.content
  pub whole : 8 + length p.content ≤ length section

-- what stands behind a header and its padding, nothing where the padding is cut
abbrev pub behind : List ℕ → Piece → List ℕ
behind section p = drop (size_of p) section

-- a section is these pieces in a row and this rest, which is no whole header
unfoldable pub Split : List ℕ → List Piece → List ℕ → Type 0
Split section [] rest = IsCut section × (rest ≡ section)
Split section (p ∷ ps) rest = Begins section p × Split (behind section p) ps rest
