-- A header as the code lends it.
use Rattle.std.specs.Prelude.{ℕ, List}
use Rattle.igvm_image.specs.declared.piece.Piece as code
use Rattle.igvm_image.specs.Pieces.{Piece}

abbrev pub piece_view : code.Piece → Piece × List ℕ
piece_view p = (record { kind = p.kind; content = p.content.now }, p.rest.now)
