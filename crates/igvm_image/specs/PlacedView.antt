-- A header as the iterator gives it.
use Rattle.igvm_image.specs.declared.headers.Placed.{Placed}
use Rattle.igvm_image.specs.Headers.{PlacedHeader}

abbrev pub placed_view : Placed → PlacedHeader
placed_view p = record { index = p.index; at = p.at; header = p.header; raw = p.raw.now; content = p.content }
