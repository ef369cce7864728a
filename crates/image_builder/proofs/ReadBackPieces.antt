-- The section of a layout splits into the headers that were written.
use Rattle.std.proofs.Common.{◌≡◌, ℕ, ◌+◌, ◌*◌, ◌/◌, List, [], ◌∷◌, ◌++◌, length, map, drop, refl, sym, arith, subst, length-append, inl}
use Rattle.std.specs.List.{AllByRecursion, flat_map}
use Rattle.igvm_headers.specs.Numbers.{number_at, slice}
use Rattle.igvm_headers.specs.Spelling.{header_content, spelled}
use Rattle.igvm_headers.specs.HeaderFacts.{header_type, with_offset}
use Rattle.igvm_headers.specs.SpellingConditions.{IsSpellable}
use Rattle.igvm_headers.specs.declared.header.Header.{Header}
use Rattle.igvm_image.specs.Pieces.{Piece}
use Rattle.igvm_image.specs.SectionSplit.{Split, Begins}
use Rattle.component_list.specs.declared.component.Component.{Component}
use Rattle.image_builder.specs.Layout.{offset_among, written}

-- a section that begins with what is spelled begins with that header
pub record SpelledIsAPiece : Type 0 where
  pub kind : (h : Header) (tail rest : List ℕ) → IsSpellable h tail → number_at 4 0 (spelled h tail ++ rest) ≡ header_type h
  pub size : (h : Header) (tail rest : List ℕ) → IsSpellable h tail → number_at 4 4 (spelled h tail ++ rest) ≡ length (header_content h tail)
  pub content : (h : Header) (tail rest : List ℕ) → slice (spelled h tail ++ rest) 8 (length (header_content h tail)) ≡ header_content h tail
  pub padded : (h : Header) (tail : List ℕ) → length (spelled h tail) ≡ (8 + length (header_content h tail) + 7) / 8 * 8
  pub behind : (h : Header) (tail rest : List ℕ) → drop ((8 + length (header_content h tail) + 7) / 8 * 8) (spelled h tail ++ rest) ≡ rest

abbrev pub piece_of : Header → List ℕ → Piece
piece_of h tail = record { kind = header_type h; content = header_content h tail }

spelled_begins : SpelledIsAPiece → (h : Header) (tail rest : List ℕ) → IsSpellable h tail → Begins (spelled h tail ++ rest) (piece_of h tail)
spelled_begins law h tail rest spells = record {
  kind = law.kind h tail rest spells;
  size = law.size h tail rest spells;
  content = law.content h tail rest;
  whole = omega (arith, law.padded h tail, length-append (spelled h tail) rest);
}

-- a component's header with its place, and the piece that it is
abbrev pub set_header : ℕ → List (List ℕ) → Component → Header
set_header start kept c = with_offset (offset_among start kept c.content) c.header

abbrev pub set_piece : ℕ → List (List ℕ) → Component → Piece
set_piece start kept c = piece_of (set_header start kept c) c.tail

pub split_written : SpelledIsAPiece → (start : ℕ) (kept : List (List ℕ)) (parts : List Component)
    → AllByRecursion (λ c. IsSpellable (set_header start kept c) c.tail) parts
    → Split (flat_map (written start kept) parts) (map (set_piece start kept) parts) []
unfolding Split
split_written law start kept [] all = (inl (omega arith), refl)
split_written law start kept (c ∷ cs) all =
    let h = set_header start kept c in
    let rest = flat_map (written start kept) cs in (
      spelled_begins law h c.tail rest all.0,
      subst (λ s. Split s (map (set_piece start kept) cs) []) (sym (law.behind h c.tail rest)) (split_written law start kept cs all.1),
    )
