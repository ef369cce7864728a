-- What the rules ask of the headers, with one header more.
use Rattle.std.proofs.Common.{◌≡◌, ℕ, ◌+◌, List, [], ◌∷◌, ◌++◌, refl, sym, ◌∙◌, ap, append_assoc, append-nil, add_assoc, arith}
use Rattle.std.proofs.lemmas.List.Sums.{fold_push}
use Rattle.std.proofs.lemmas.List.Elements.{filter_map-append}
use Rattle.platform_masks.specs.PlatformsLaws.{platforms_of-push}
use Rattle.igvm_headers.specs.declared.header.Header.{Header}
use Rattle.igvm_image.specs.declared.area_table.AreaEntry.{AreaEntry}
use Rattle.igvm_image.specs.Areas.{areas_of, area_entry, placed_pages}
use Rattle.igvm_image.specs.HeaderRules.{seen_of, seen_after, named_from}
use Rattle.igvm_headers.specs.HeaderFacts.{class_of}
use Rattle.std.specs.Prelude.{max, Option, Some, None}
use Rattle.std.specs.Option.{option_to_list}
use Rattle.std.specs.List.{cons_option}

-- one area more
pub areas_of-push : (hs : List Header) (h : Header) → areas_of (hs ++ h ∷ []) ≡ areas_of hs ++ option_to_list (area_entry h)
areas_of-push hs h = filter_map-append area_entry hs (h ∷ []) ∙ ap (λ e. areas_of hs ++ e) (one (area_entry h))
  where
    one : (e : Option AreaEntry) → cons_option e [] ≡ option_to_list e
    one None = refl
    one (Some e) = refl

pub areas_of-cons : (h : Header) (hs : List Header) → areas_of (h ∷ hs) ≡ option_to_list (area_entry h) ++ areas_of hs
areas_of-cons h hs = one (area_entry h)
  where
    one : (e : Option AreaEntry) → cons_option e (areas_of hs) ≡ option_to_list e ++ areas_of hs
    one None = refl
    one (Some e) = refl

-- the pages of one header more
named_from-push : (areas : List AreaEntry) (hs : List Header) (h : Header)
    → named_from areas (hs ++ h ∷ []) ≡ named_from areas hs + placed_pages (areas ++ areas_of hs) h
named_from-push areas [] h = ap (λ known. placed_pages known h + 0) (sym (append-nil areas)) ∙ omega arith
named_from-push areas (g ∷ hs) h =
    let known = areas ++ option_to_list (area_entry g) in
    let same : known ++ areas_of hs ≡ areas ++ areas_of (g ∷ hs) =
    append_assoc areas (option_to_list (area_entry g)) (areas_of hs) ∙ ap (λ e. areas ++ e) (sym (areas_of-cons g hs)) in
    ap (λ n. placed_pages areas g + n) (named_from-push known hs h)
    ∙ sym (add_assoc (placed_pages areas g) (named_from known hs) (placed_pages (known ++ areas_of hs) h))
    ∙ ap (λ e. placed_pages areas g + named_from known hs + placed_pages e h) same

-- the rules ask the same of headers and one more as of what they asked before, and that one
pub seen_of-push : (hs : List Header) (h : Header) → seen_of (hs ++ h ∷ []) ≡ seen_after (seen_of hs) h
seen_of-push hs h =
    let latest = fold_push (λ (latest : ℕ) (header : Header). max latest (class_of header)) 0 hs h in
    let platforms = platforms_of-push hs h in
    let areas = areas_of-push hs h in
    let pages = named_from-push [] hs h in
    cc
