-- No rule but the one on data outside the file looks at a header's file offset.
use Rattle.std.proofs.Common.{◌≡◌, ℕ, ◌+◌, List, [], ◌∷◌, ◌++◌, length, map, fold, refl, ◌∙◌, ap, ap₂, arith, None, false}
use Rattle.std.specs.Prelude.{max}
use Rattle.std.specs.Option.{option_to_list}
use Rattle.std.specs.List.{cons_option}
use Rattle.igvm_headers.specs.declared.header.Header.{Header}
use Rattle.igvm_headers.specs.declared.header.Header.TheVariants.{Area, Context}
use Rattle.platform_masks.specs.Platforms.{platform_of, platforms_from}
use Rattle.igvm_image.specs.declared.area_table.AreaEntry.{AreaEntry}
use Rattle.igvm_image.specs.Areas.{area_entry, areas_of, placed_pages}
use Rattle.igvm_image.specs.HeaderRules.{Seen, seen_of, named_from, rule_fault, breaks_order, breaks_mask, breaks_align, breaks_area_limit, breaks_area_repeated, breaks_area_unknown, breaks_area_size, breaks_wrap, breaks_data, breaks_pages}
use Rattle.igvm_headers.specs.HeaderFacts.{class_of, with_offset}
use Rattle.igvm_image.specs.RulesLaws.{keeps_rules, rule_fault-none}

class_same : (at : ℕ) (h : Header) → class_of (with_offset at h) ≡ class_of h
class_same at (Area bytes area offset) = refl
class_same at h = refl

platform_same : (at n : ℕ) (h : Header) → platform_of n (with_offset at h) ≡ platform_of n h
platform_same at n (Area bytes area offset) = refl
platform_same at n h = refl

area_same : (at : ℕ) (h : Header) → area_entry (with_offset at h) ≡ area_entry h
area_same at (Area bytes area offset) = refl
area_same at h = refl

pages_same : (at : ℕ) (areas : List AreaEntry) (h : Header) → placed_pages areas (with_offset at h) ≡ placed_pages areas h
pages_same at areas (Area bytes area offset) = refl
pages_same at areas h = refl

latest_same : (at n : ℕ) (hs : List Header)
    → fold (λ latest header. max latest (class_of header)) n (map (with_offset at) hs)
    ≡ fold (λ latest header. max latest (class_of header)) n hs
latest_same at n [] = refl
latest_same at n (h ∷ hs) =
    latest_same at (max n (class_of (with_offset at h))) hs
    ∙ ap (λ c. fold (λ latest header. max latest (class_of header)) (max n c) hs) (class_same at h)

platforms_same : (at n : ℕ) (hs : List Header) → platforms_from n (map (with_offset at) hs) ≡ platforms_from n hs
unfolding platforms_from
platforms_same at n [] = refl
platforms_same at n (h ∷ hs) =
    ap (λ ps. ps ++ platforms_from (n + length ps) (map (with_offset at) hs)) (platform_same at n h)
    ∙ ap (λ ps. platform_of n h ++ ps) (platforms_same at (n + length (platform_of n h)) hs)

areas_same : (at : ℕ) (hs : List Header) → areas_of (map (with_offset at) hs) ≡ areas_of hs
areas_same at [] = refl
areas_same at (h ∷ hs) =
    ap (λ e. cons_option e (areas_of (map (with_offset at) hs))) (area_same at h)
    ∙ ap (cons_option (area_entry h)) (areas_same at hs)

named_same : (at : ℕ) (areas : List AreaEntry) (hs : List Header) → named_from areas (map (with_offset at) hs) ≡ named_from areas hs
named_same at areas [] = refl
named_same at areas (h ∷ hs) =
    ap₂ (λ n e. n + named_from (areas ++ option_to_list e) (map (with_offset at) hs)) (pages_same at areas h) (area_same at h)
    ∙ ap (λ n. placed_pages areas h + n) (named_same at (areas ++ option_to_list (area_entry h)) hs)

-- what the rules ask of headers
pub seen_same : (at : ℕ) (hs : List Header) → seen_of (map (with_offset at) hs) ≡ seen_of hs
seen_same at hs =
    let latest = latest_same at 0 hs in
    let platforms = platforms_same at 0 hs in
    let areas = areas_same at hs in
    let pages = named_same at [] hs in
    cc

-- the rules but the one on data
record SameRules (at : ℕ) (seen : Seen) (h : Header) : Type 0 where
  pub order : breaks_order seen (with_offset at h) ≡ breaks_order seen h
  pub mask : breaks_mask seen (with_offset at h) ≡ breaks_mask seen h
  pub align : breaks_align (with_offset at h) ≡ breaks_align h
  pub limit : breaks_area_limit seen (with_offset at h) ≡ breaks_area_limit seen h
  pub repeated : breaks_area_repeated seen (with_offset at h) ≡ breaks_area_repeated seen h
  pub unknown : breaks_area_unknown seen (with_offset at h) ≡ breaks_area_unknown seen h
  pub size : breaks_area_size (with_offset at h) ≡ breaks_area_size h
  pub wrap : breaks_wrap seen (with_offset at h) ≡ breaks_wrap seen h
  pub pages : breaks_pages seen (with_offset at h) ≡ breaks_pages seen h

same_rules : (at : ℕ) (seen : Seen) (h : Header) → SameRules at seen h
same_rules at seen (Area bytes area offset) = record { order = refl; mask = refl; align = refl; limit = refl; repeated = refl; unknown = refl; size = refl; wrap = refl; pages = refl }
same_rules at seen h = record { order = refl; mask = refl; align = refl; limit = refl; repeated = refl; unknown = refl; size = refl; wrap = refl; pages = refl }

-- the same rules at another file offset and in a file of another size
pub rules_at : (total other at : ℕ) (seen : Seen) (h : Header) → rule_fault total seen h ≡ None
    → breaks_data other (with_offset at h) ≡ false → rule_fault other seen (with_offset at h) ≡ None
rules_at total other at seen h none inside =
    let kept = keeps_rules total seen h none in
    let same = same_rules at seen h in
    rule_fault-none other seen (with_offset at h) (record {
      order = same.order ∙ kept.order;
      mask = same.mask ∙ kept.mask;
      align = same.align ∙ kept.align;
      limit = same.limit ∙ kept.limit;
      repeated = same.repeated ∙ kept.repeated;
      unknown = same.unknown ∙ kept.unknown;
      size = same.size ∙ kept.size;
      wrap = same.wrap ∙ kept.wrap;
      outside = inside;
      pages = same.pages ∙ kept.pages;
    })

-- at file offset 0 no data lie outside
pub inside_at_0 : (total : ℕ) (h : Header) → breaks_data total (with_offset 0 h) ≡ false
inside_at_0 total (Context gpa mask offset vp) = grind arith
inside_at_0 total h = refl
