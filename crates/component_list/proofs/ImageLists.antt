-- The list of an accepted file breaks no rule.
use Rattle.std.proofs.Common.{◌≡◌, ℕ, zero, suc, ◌+◌, ◌-◌, ◌*◌, ◌/◌, ◌%◌, ◌^◌, ◌<◌, ◌≤◌, List, [], ◌∷◌, ◌++◌, length, map, take, drop, replicate, length-append, append-nil, append_assoc, add-one, add-zero, zero-add, refl, sym, ◌∙◌, ap, ap₂, subst, arith, Option, Some, None, Ok, Bool, true, false}
use Rattle.std.specs.Prelude.{if◌then◌else◌, ◌==◌, ◌&&◌, ◌||◌, not, nat_lt}
use Rattle.std.proofs.lemmas.List.{take_at, map-append, length-map, length-take, length-take-le, length-drop, length-replicate, drop-drop}
use Rattle.std.proofs.Math.Seq.{take-add}
use Rattle.igvm_headers.specs.Numbers.{slice}
use Rattle.std.proofs.lemmas.List.FromFn.{length-range_with_len}
use Rattle.std.proofs.lemmas.Bool.{eq-eqb}
use Rattle.std.proofs.Math.Dec.{eqb-suc-zero}
use Rattle.std.specs.List.{slice_get, flat_map, range_with_len, AllByRecursion}
use Rattle.std.proofs.lemmas.Grind.{flat_map-append}
use Rattle.igvm_headers.specs.Fixed.{fixed_fields, fixed_fault, fixed_form, fixed_unless, fault_at, is_version}
use Rattle.igvm_headers.specs.Numbers.{number_at}
use Rattle.igvm_headers.specs.declared.fixed.FixedHeader.{FixedHeader}
use Rattle.igvm_headers.specs.declared.fault.ReadFault.{ReadFault}
use Rattle.igvm_headers.specs.Pages.{file_body, body_page, padded_page, page_bytes, small_pages}
use Rattle.igvm_headers.specs.declared.header.Header.{Header}
use Rattle.igvm_headers.specs.declared.header.Header.TheVariants.{Area, Page, Context}
use Rattle.igvm_headers.specs.declared.fault.ReadWhat.{ReadWhat}
use Rattle.igvm_headers.specs.declared.fault.ReadWhat.TheVariants.{TooShort, Magic, Version, NoPlatform}
use Rattle.platform_masks.specs.Platforms.{platforms_of}
use Rattle.igvm_image.specs.Data.{Data, data_in, data_page}
use Rattle.igvm_image.specs.HeaderRules.{Seen, seen_of, rule_fault, breaks_area_size}
use Rattle.igvm_image.specs.Headers.{PlacedHeader, IsAccepted, placed_headers, headers_of}
use Rattle.igvm_image.specs.HeadersOfFile.{IsAcceptedHeader}
use Rattle.igvm_image.specs.RulesLaws.{keeps_rules}
use Rattle.igvm_image.specs.AcceptedLaws.{accepted_is, header_kept, has_platform}
use Rattle.component_list.specs.declared.component.Component.{Component}
use Rattle.component_list.specs.declared.component.Content.TheVariants.{Zero, Bytes}
use Rattle.component_list.specs.Components.{is_unknown, breaks_length, breaks_data_type, fits_content, fills}
use Rattle.igvm_headers.specs.HeaderFacts.{with_offset, tail_size, header_tail}
use Rattle.component_list.specs.Ranges.{IsComponent}
use Rattle.component_list.specs.Lists.{component_fault, fault_behind, list_fault, unless_broken, IsValid}
use Rattle.component_list.specs.Lists as lists
use Rattle.component_list.specs.ImageList.{data_bytes, stored, content_of, component_of, components_in}
use Rattle.component_list.proofs.SameRules.{seen_same, rules_at, inside_at_0}
use Rattle.component_list.proofs.ReadHeaders.{WhatIsRead, read_is}

unknown_same : (h : Header) → is_unknown (with_offset 0 h) ≡ is_unknown h
unknown_same (Area bytes area offset) = refl
unknown_same h = refl

normal_same : (h : Header) → breaks_data_type (with_offset 0 h) ≡ breaks_data_type h
normal_same (Area bytes area offset) = refl
normal_same h = refl

tail_same : (h : Header) → tail_size (with_offset 0 h) ≡ tail_size h
tail_same (Area bytes area offset) = refl
tail_same h = refl

-- a page of data is a whole page
pub data_page_size : (data' : Data) (k : ℕ) → length (data_page data' k) ≡ 4096
unfolding body_page padded_page
data_page_size data' k = cases (data'.offset == 0)
  where
    filled : (xs : List ℕ) → length xs ≤ 4096 → length (xs ++ replicate (4096 - length xs) 0) ≡ 4096
    filled xs few = simp (length-append, length-replicate) (omega arith)

    lent : List ℕ
    lent = take 4096 (drop (data'.offset + 4096 * k) data'.body)

    cases : (b : Bool) → length (if b then replicate 4096 0 else padded_page lent) ≡ 4096
    cases true = length-replicate {A = ℕ} 4096 0
    cases false = filled lent (simp length-take (omega arith))

-- so many pages are so many bytes
pages_size : (data' : Data) (ks : List ℕ) → length (flat_map (data_page data') ks) ≡ 4096 * length ks
pages_size data' [] = refl
pages_size data' (k ∷ ks) =
    let first = data_page_size data' k in
    let others = pages_size data' ks in
    simp length-append (omega arith)

pub data_bytes_size : (data' : Data) → length (data_bytes data') ≡ 4096 * data'.pages
unfolding data_bytes
data_bytes_size data' = pages_size data' (range_with_len 0 data'.pages) ∙ ap (λ n. 4096 * n) (length-range_with_len 0 data'.pages)

stored_fills : (offset : ℕ) (data' : Data) (size : ℕ) → 4096 * data'.pages ≡ size → fills size (stored offset data') ≡ true
stored_fills offset data' size same = cases (offset == 0)
  where
    cases : (b : Bool) → fills size (if b then Zero else Bytes (data_bytes data')) ≡ true
    cases true = refl
    cases false = eq-eqb _ _ (data_bytes_size data' ∙ same)

-- an area is whole pages
whole_area : (bytes : ℕ) → (bytes == 0) || not (bytes % 4096 == 0) || nat_lt 67108864 bytes ≡ false → 4096 * (bytes / 4096) ≡ bytes
whole_area bytes kept = grind arith

content_fits : (body : List ℕ) (h : Header) → breaks_area_size h ≡ false → fits_content (with_offset 0 h) (content_of h (data_in body h)) ≡ true
content_fits body (Area bytes area offset) kept = stored_fills offset _ bytes (whole_area bytes kept)
content_fits body (Page gpa mask offset large unmeasured kind) kept = stored_fills offset _ _ (cases large)
  where
    cases : (large : Bool) → 4096 * small_pages large ≡ page_bytes large
    cases true = refl
    cases false = refl
content_fits body (Context gpa mask offset vp) kept = stored_fills offset _ 4096 refl
content_fits body h kept = refl

-- one rule in front of others
passed_over : (b : Bool) (what : ReadWhat) (others : Option ReadWhat) → b ≡ false → others ≡ None → (if b then Some what else others) ≡ None
passed_over true what others kept none = cc
passed_over false what others kept none = none

-- the component of an accepted header breaks no rule
component_kept : WhatIsRead → (total : ℕ) (body : List ℕ) (before : List Header) (placed : PlacedHeader) → IsAcceptedHeader total body before placed
    → component_fault (seen_of (map (with_offset 0) before)) (component_of placed) ≡ None
unfolding component_fault
component_kept law total body before placed is =
    let h = placed.header in
    let seen = seen_of (map (with_offset 0) before) in
    let none : rule_fault total seen h ≡ None = ap (λ s. rule_fault total s h) (seen_same 0 before) ∙ is.rules in
    let read = read_is law is.kind placed.raw h is.form in
    let known = unknown_same h ∙ read.known in
    let tail : (length (header_tail h placed.raw) == tail_size (with_offset 0 h)) ≡ true = eq-eqb _ _ (read.tail ∙ sym (tail_same h)) in
    let fits : fits_content (with_offset 0 h) (content_of h placed.content) ≡ true =
    ap (λ data'. fits_content (with_offset 0 h) (content_of h data')) is.content ∙ content_fits body h (keeps_rules total seen h none).size in
    let sized : breaks_length (component_of placed) ≡ false = ap₂ (λ a b. not (a && b)) tail fits in
    let normal = normal_same h ∙ read.normal in
    passed_over _ _ _ known (passed_over _ _ _ sized (passed_over _ _ _ normal (rules_at total 0 0 seen h none (inside_at_0 0 h))))

-- a platform stands behind the last
end_kept : (before : List Header) → 0 < length (platforms_of before) → lists.end_fault (map (with_offset 0) before) ≡ None
end_kept before some =
    ap (λ (seen : Seen). if length seen.platforms == 0 then Some (lists.fault_in (length (map (with_offset 0) before)) NoPlatform) else None) (seen_same 0 before)
    ∙ none (length (platforms_of before)) some
  where
    none : (n : ℕ) → 0 < n → (if n == 0 then Some (lists.fault_in (length (map (with_offset 0) before)) NoPlatform) else None) ≡ None
    none zero some = absurd (omega arith)
    none (suc n) some = ap (λ b. if b then Some (lists.fault_in (length (map (with_offset 0) before)) NoPlatform) else None) (eqb-suc-zero n)

-- an element between others
slice_get-seam : {X : Type 0} (xs : List X) (y : X) (ys : List X) → slice_get (xs ++ y ∷ ys) (length xs) ≡ Some y
slice_get-seam [] y ys = refl
slice_get-seam (x ∷ xs) y ys = slice_get-seam xs y ys

abbrev headers_in : List PlacedHeader → List Header
headers_in placed = map (λ p. p.header) placed

-- behind the first headers of an accepted file, the components of the others break no rule
behind_kept : WhatIsRead → (file : List ℕ) (done left : List PlacedHeader) → IsAccepted file → done ++ left ≡ placed_headers file
    → fault_behind (map (with_offset 0) (headers_in done)) (map component_of left) ≡ None
unfolding fault_behind
behind_kept law file done [] accepted all =
    let same : headers_of file ≡ headers_in done = ap headers_in (sym all ∙ append-nil done) in
    end_kept (headers_in done) (subst (λ hs. 0 < length (platforms_of hs)) same (has_platform file accepted))
behind_kept law file done (p ∷ left) accepted all =
    let total = (fixed_fields file).total in
    let before = map (with_offset 0) (headers_in done) in
    let others = map component_of left in
    let here = header_kept file (length done) p accepted (ap (λ ps. slice_get ps (length done)) (sym all) ∙ slice_get-seam done p left) in
    let first : take (length done) (headers_of file) ≡ headers_in done =
    ap (λ ps. take (length done) (headers_in ps)) (sym all)
    ∙ ap (take (length done)) (map-append (λ (q : PlacedHeader). q.header) done (p ∷ left))
    ∙ take_at (headers_in done) (headers_in (p ∷ left)) (length done) (length-map done (λ (q : PlacedHeader). q.header)) in
    let kept = component_kept law total (file_body file) (headers_in done) p (subst (λ hs. IsAcceptedHeader total (file_body file) hs p) first here) in
    let more : before ++ with_offset 0 p.header ∷ [] ≡ map (with_offset 0) (headers_in (done ++ p ∷ [])) =
    sym (ap (map (with_offset 0)) (map-append (λ (q : PlacedHeader). q.header) done (p ∷ [])) ∙ map-append (with_offset 0) (headers_in done) (p.header ∷ [])) in
    ap (λ f. unless_broken (length before) f (fault_behind (before ++ with_offset 0 p.header ∷ []) others)) kept
    ∙ ap (λ hs. fault_behind hs others) more
    ∙ behind_kept law file (done ++ p ∷ []) left accepted (append_assoc done (p ∷ []) left ∙ all)

pub image_list_kept : WhatIsRead → (file : List ℕ) → IsAccepted file → list_fault (components_in file) ≡ None
image_list_kept law file accepted = behind_kept law file [] (placed_headers file) accepted refl

-- one page more of data
range_more : (a n : ℕ) → range_with_len a (suc n) ≡ range_with_len a n ++ (a + n) ∷ []
range_more a zero = ap (λ x. x ∷ []) (sym (add-zero a))
range_more a (suc n) = ap (λ xs. a ∷ xs) (range_more (a + 1) n ∙ ap (λ x. range_with_len (a + 1) n ++ x ∷ []) (omega arith))

pub pages_more : (data' : Data) (k : ℕ) → flat_map (data_page data') (range_with_len 0 (k + 1)) ≡ flat_map (data_page data') (range_with_len 0 k) ++ data_page data' k
pages_more data' k =
    ap (λ n. flat_map (data_page data') (range_with_len 0 n)) (add-one k)
    ∙ ap (flat_map (data_page data')) (range_more 0 k ∙ ap (λ x. range_with_len 0 k ++ x ∷ []) (zero-add k))
    ∙ flat_map-append (data_page data') (range_with_len 0 k) (k ∷ [])
    ∙ ap (λ xs. flat_map (data_page data') (range_with_len 0 k) ++ xs) (append-nil (data_page data' k))

-- The components made, with those of the headers that are left, are those of all.
pub record Listing (all left : List PlacedHeader) (made : List Component) : Type 0 where
  pub same : made ++ map component_of left ≡ map component_of all
  pub each : AllByRecursion IsComponent made

pub listing_start : (all left : List PlacedHeader) → left ≡ all → Listing all left []
listing_start all left same = record { same = ap (map component_of) same; each = tt }

all_more : (xs : List Component) (c : Component) → AllByRecursion IsComponent xs → IsComponent c → AllByRecursion IsComponent (xs ++ c ∷ [])
all_more [] c each one = (one, tt)
all_more (x ∷ xs) c each one = (each.0, all_more xs c each.1 one)

pub listing_more : (all before : List PlacedHeader) (p : PlacedHeader) (left : List PlacedHeader) (made new : List Component) (c : Component)
    → Listing all before made → before ≡ p ∷ left → c ≡ component_of p → IsComponent c → new ≡ made ++ c ∷ [] → Listing all left new
listing_more all before p left made new c l first is fits pushed =
    let here = subst (λ (ps : List PlacedHeader). Listing all ps made) first l in
    let new_made : new ≡ made ++ component_of p ∷ [] = pushed ∙ ap (λ x. made ++ x ∷ []) is in
    record {
      same = ap (λ xs. xs ++ map component_of left) new_made ∙ append_assoc made (component_of p ∷ []) (map component_of left) ∙ here.same;
      each = subst (AllByRecursion IsComponent) (sym pushed) (all_more made c here.each fits);
    }

pub listing_end : WhatIsRead → (file : List ℕ) (left : List PlacedHeader) (made : List Component) → IsAccepted file → length (placed_headers file) < 2 ^ 32
    → Listing (placed_headers file) left made → left ≡ [] → (made ≡ components_in file) × IsValid made
listing_end law file left made accepted few l none =
    let same : made ≡ components_in file = sym (append-nil made) ∙ ap (λ ps. made ++ map component_of ps) (sym none) ∙ l.same in (
      same,
      record {
        kept = ap list_fault same ∙ image_list_kept law file accepted;
        fits = record {
          few = (let sized = ap length same ∙ length-map (placed_headers file) component_of in omega arith);
          each = l.each;
        };
      },
    )

-- ---- data that lie within the file

-- a page within the file's body is its bytes
page_within : (data' : Data) (k : ℕ) → (data'.offset == 0) ≡ false → data'.offset + 4096 * k + 4096 ≤ length data'.body
    → data_page data' k ≡ slice data'.body (data'.offset + 4096 * k) 4096
unfolding body_page padded_page
page_within data' k some within =
    let size : length (slice data'.body (data'.offset + 4096 * k) 4096) ≡ 4096 =
    length-take-le 4096 (drop (data'.offset + 4096 * k) data'.body) (simp length-drop (omega arith)) in
    ap (λ b. if b then replicate 4096 0 else padded_page (slice data'.body (data'.offset + 4096 * k) 4096)) some
    ∙ ap (λ n. slice data'.body (data'.offset + 4096 * k) 4096 ++ replicate (4096 - n) 0) size
    ∙ append-nil (slice data'.body (data'.offset + 4096 * k) 4096)

rows_within : (data' : Data) (n : ℕ) → (data'.offset == 0) ≡ false → data'.offset + 4096 * n ≤ length data'.body
    → flat_map (data_page data') (range_with_len 0 n) ≡ slice data'.body data'.offset (4096 * n)
rows_within data' zero some within = refl
rows_within data' (suc n) some within =
    let here : data'.offset + 4096 * n + 4096 ≤ length data'.body = omega arith in
    ap (λ k. flat_map (data_page data') (range_with_len 0 k)) (sym (add-one n))
    ∙ pages_more data' n
    ∙ ap (λ xs. xs ++ data_page data' n) (rows_within data' n some (omega arith))
    ∙ ap (λ xs. slice data'.body data'.offset (4096 * n) ++ xs) (page_within data' n some here ∙ ap (take 4096) (sym (drop-drop (4096 * n) data'.offset data'.body)))
    ∙ sym (take-add (4096 * n) 4096 (drop data'.offset data'.body))
    ∙ ap (λ k. take k (drop data'.offset data'.body)) (omega arith)

pub data_within : (data' : Data) → (data'.offset == 0) ≡ false → data'.offset + 4096 * data'.pages ≤ length data'.body
    → data_bytes data' ≡ slice data'.body data'.offset (4096 * data'.pages)
unfolding data_bytes
data_within data' some within = rows_within data' data'.pages some within

-- ---- the version

-- a test that would have refused
not_first : (b : Bool) (fault : ReadFault) (others : Option ReadFault) → (if b then Some fault else others) ≡ None → (b ≡ false) × (others ≡ None)
not_first true fault others none = cc
not_first false fault others none = (refl, none)

unless_read : (fault : Option ReadFault) (file : List ℕ) (fixed : FixedHeader) → fixed_unless fault file ≡ Ok fixed → fault ≡ None
unless_read None file fixed read = refl
unless_read (Some fault) file fixed read = cc

affirmed : (b : Bool) → not b ≡ false → b ≡ true
affirmed true h = refl
affirmed false h = cc

pub image_version_known : (file : List ℕ) → IsAccepted file → is_version (fixed_fields file).version ≡ true
unfolding fixed_form fixed_fault
image_version_known file accepted =
    let none = unless_read (fixed_fault file) file (fixed_fields file) (accepted_is file accepted).read in
    let long = not_first (nat_lt (length file) 24) (fault_at (length file) TooShort) _ none in
    let magic = not_first (not (number_at 4 0 file == 0x4D564749)) (fault_at 0 Magic) _ long.1 in
    let version = not_first (not (is_version (number_at 4 4 file))) (fault_at 4 Version) _ magic.1 in
    affirmed (is_version (number_at 4 4 file)) version.0
