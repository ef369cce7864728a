-- The headers that were written break no rule, and their list is the one that they were written from.
use Rattle.std.proofs.Common.{◌≡◌, ℕ, suc, ◌+◌, List, [], ◌∷◌, ◌++◌, length, map, refl, sym, ◌∙◌, ap, ap₂, false, Some, None, Ok}
use Rattle.std.specs.Prelude.{if◌then◌else◌, ◌==◌}
use Rattle.std.specs.List.{AllByRecursion}
use Rattle.std.proofs.lemmas.Bool.{cond-false}
use Rattle.std.proofs.lemmas.List.{map-append}
use Rattle.igvm_headers.specs.Fixed.{fault_at}
use Rattle.igvm_headers.specs.HeaderForm.{header_form}
use Rattle.igvm_headers.specs.Spelling.{header_content}
use Rattle.igvm_headers.specs.HeaderFacts.{header_type, header_tail, with_offset}
use Rattle.igvm_headers.specs.SpellingConditions.{IsSpellable}
use Rattle.igvm_headers.specs.declared.header.Header.{Header}
use Rattle.igvm_headers.specs.declared.fault.ReadWhat.TheVariants.{NoPlatform}
use Rattle.component_list.specs.Platforms.{platforms_of}
use Rattle.igvm_image.specs.Data.{data_in}
use Rattle.igvm_image.specs.Pieces.{size_of}
use Rattle.igvm_image.specs.HeaderRules.{Seen, seen_of, rule_fault, breaks_data}
use Rattle.igvm_image.specs.FileFault.{judged, judged_form, if_rules_hold, headers_fault, end_fault, unless_fault}
use Rattle.igvm_image.specs.Headers.{placed_from, placed_before, placed_header}
use Rattle.component_list.specs.declared.component.Component.{Component}
use Rattle.component_list.specs.declared.component.Content.{Content}
use Rattle.component_list.specs.ImageList.{content_of, component_of}
use Rattle.component_list.specs.Lists.{component_fault, fault_behind, fault_in}
use Rattle.component_list.specs.Ranges.{IsComponent}
use Rattle.image_builder.proofs.ReadBackContents.{IsAmong}
use Rattle.image_builder.proofs.ReadBackPieces.{set_header, set_piece}
use Rattle.image_builder.proofs.Writes.{skipped, unbroken}
use Rattle.image_builder.proofs.ReadBackOffsets.{OffsetKeeps}
use Rattle.image_builder.proofs.ReadBackData.{HasContents}
use Rattle.image_builder.proofs.ReadBackComponents.{ReadsBack, reads_back, judged_component}

-- what is spelled is read again
pub record SpelledIsRead : Type 0 where
  pub header : (h : Header) (tail : List ℕ) → IsSpellable h tail → header_form (header_type h) (header_content h tail) ≡ Ok h
  pub tail : (h : Header) (tail : List ℕ) → IsSpellable h tail → header_tail h (header_content h tail) ≡ tail

-- no rule but the one on data outside the file looks at where data stand
pub record OffsetsDoNotCount : Type 0 where
  pub seen : (at : ℕ) (hs : List Header) → seen_of (map (with_offset at) hs) ≡ seen_of hs
  pub rules : (total other at : ℕ) (seen : Seen) (h : Header) → rule_fault total seen h ≡ None → breaks_data other (with_offset at h) ≡ false
      → rule_fault other seen (with_offset at h) ≡ None
  pub inside : (total : ℕ) (h : Header) → breaks_data total (with_offset 0 h) ≡ false

-- each component of a valid list is read back
pub all_read_back : (total start : ℕ) (kept : List (List ℕ)) (body : List ℕ) (before : List Header) (parts : List Component)
    → OffsetKeeps → HasContents total start kept body → ((h : Header) → breaks_data total (with_offset 0 h) ≡ false)
    → fault_behind before parts ≡ None → AllByRecursion IsComponent parts → AllByRecursion (λ c. IsAmong kept c.content) parts
    → AllByRecursion (ReadsBack total start kept body) parts
unfolding fault_behind
all_read_back total start kept body before [] keeps has law none are among = tt
all_read_back total start kept body before (c ∷ cs) keeps has law none are among =
    let first = unbroken (length before) (component_fault (seen_of before) c) (fault_behind (before ++ c.header ∷ []) cs) none in (
      reads_back total start kept body (seen_of before) c keeps has law first.0 are.0 among.0,
      all_read_back total start kept body (before ++ c.header ∷ []) cs keeps has law first.1 are.1 among.1,
    )

pub all_spell : (total start : ℕ) (kept : List (List ℕ)) (body : List ℕ) (parts : List Component) → AllByRecursion (ReadsBack total start kept body) parts
    → AllByRecursion (λ c. IsSpellable (set_header start kept c) c.tail) parts
all_spell total start kept body [] all = tt
all_spell total start kept body (c ∷ cs) all = (all.0.spells, all_spell total start kept body cs all.1)

-- ---- the rules

-- headers that differ by where their data stand
abbrev Alike : List Header → List Header → Type 0
Alike now before = map (with_offset 0) now ≡ map (with_offset 0) before

seen_alike : OffsetsDoNotCount → (now before : List Header) → Alike now before → seen_of now ≡ seen_of before
seen_alike law now before alike = sym (law.seen 0 now) ∙ ap seen_of alike ∙ law.seen 0 before

alike_more : OffsetKeeps → (now before : List Header) (at : ℕ) (h : Header) → Alike now before → Alike (now ++ with_offset at h ∷ []) (before ++ h ∷ [])
alike_more keeps now before at h alike =
    map-append (with_offset 0) now (with_offset at h ∷ [])
    ∙ ap₂ (λ hs g. hs ++ g ∷ []) alike (keeps.last at 0 h)
    ∙ sym (map-append (with_offset 0) before (h ∷ []))

judged_set : SpelledIsRead → OffsetsDoNotCount → (total start : ℕ) (kept : List (List ℕ)) (body : List ℕ) (now before : List Header) (c : Component)
    → ReadsBack total start kept body c → Alike now before → component_fault (seen_of before) c ≡ None
    → judged total (seen_of now) (set_piece start kept c) ≡ Ok (set_header start kept c)
unfolding judged
judged_set read law total start kept body now before c back alike none =
    let h = set_header start kept c in
    let rules = law.rules 0 total _ (seen_of before) c.header (judged_component (seen_of before) c none).rules back.inside in
    ap (judged_form total (seen_of now)) (read.header h c.tail back.spells)
    ∙ ap (λ s. if_rules_hold h (rule_fault total s h)) (seen_alike law now before alike)
    ∙ ap (if_rules_hold h) rules

-- a platform is among the headers
end_kept : OffsetsDoNotCount → (start at : ℕ) (now before : List Header) → Alike now before
    → (if length (platforms_of before) == 0 then Some (fault_in (length before) NoPlatform) else None) ≡ None
    → end_fault start at now [] ≡ None
end_kept law start at now before alike none =
    let some : (length (platforms_of now) == 0) ≡ false =
    ap (λ (s : Seen). length s.platforms == 0) (seen_alike law now before alike)
    ∙ (skipped (length (platforms_of before) == 0) (fault_in (length before) NoPlatform) None none).0 in
    cond-false (length (platforms_of now) == 0) (Some (fault_at start NoPlatform)) None some

pub headers_kept : SpelledIsRead → OffsetsDoNotCount → OffsetKeeps → (total start : ℕ) (kept : List (List ℕ)) (body : List ℕ) (front at : ℕ)
    (now before : List Header) (parts : List Component)
    → AllByRecursion (ReadsBack total start kept body) parts → Alike now before → fault_behind before parts ≡ None
    → headers_fault total front at now (map (set_piece start kept) parts) [] ≡ None
unfolding headers_fault fault_behind
headers_kept read law keeps total start kept body front at now before [] all alike none = end_kept law front at now before alike none
headers_kept read law keeps total start kept body front at now before (c ∷ cs) all alike none =
    let h = set_header start kept c in
    let p = set_piece start kept c in
    let first = unbroken (length before) (component_fault (seen_of before) c) (fault_behind (before ++ c.header ∷ []) cs) none in
    let good = judged_set read law total start kept body now before c all.0 alike first.0 in
    ap (λ j. unless_fault at j (λ header. headers_fault total front (at + size_of p) (now ++ header ∷ []) (map (set_piece start kept) cs) [])) good
    ∙ headers_kept read law keeps total start kept body front (at + size_of p) (now ++ h ∷ []) (before ++ c.header ∷ []) cs all.1 (alike_more keeps now before _ c.header alike) first.1

-- ---- the list

abbrev component : Header → List ℕ → Content → Component
component h t k = record { header = h; tail = t; content = k }

component_back : SpelledIsRead → (total start : ℕ) (kept : List (List ℕ)) (body : List ℕ) (index at : ℕ) (c : Component) → ReadsBack total start kept body c
    → component_of (placed_header body index at (set_piece start kept c) (set_header start kept c)) ≡ c
component_back read total start kept body index at c back =
    let h = set_header start kept c in
    let raw = header_content h c.tail in
    ap (λ g. component g (header_tail h raw) (content_of h (data_in body h))) back.header
    ∙ ap (λ t. component c.header t (content_of h (data_in body h))) (read.tail h c.tail back.spells)
    ∙ ap (component c.header c.tail) back.content

pub list_back : SpelledIsRead → (total start : ℕ) (kept : List (List ℕ)) (body : List ℕ) (index at : ℕ) (parts : List Component)
    → AllByRecursion (ReadsBack total start kept body) parts
    → map component_of (placed_from body index at (map (set_piece start kept) parts)) ≡ parts
unfolding placed_from
list_back read total start kept body index at [] all = refl
list_back read total start kept body index at (c ∷ cs) all =
    let h = set_header start kept c in
    let p = set_piece start kept c in
    ap (λ f. map component_of (placed_before (placed_header body index at p) f (placed_from body (suc index) (at + size_of p) (map (set_piece start kept) cs))))
    (read.header h c.tail all.0.spells)
    ∙ ap₂ (λ d ds. d ∷ ds) (component_back read total start kept body index at c all.0)
    (list_back read total start kept body (suc index) (at + size_of p) cs all.1)
