-- One header more of either list, behind what is joined so far.
use Rattle.std.proofs.Common.{◌≡◌, ℕ, ◌+◌, ◌/◌, ◌^◌, ◌≤◌, List, [], ◌∷◌, ◌++◌, length, refl, sym, ◌∙◌, ap, ap₂, length-append, arith, Option, Some, None, Bool, true, false}
use Rattle.std.specs.Prelude.{if◌then◌else◌, ◌==◌, ◌||◌, nat_lt, nat_le, unwrap_or, is_some, is_none, find}
use Rattle.std.specs.Option.{option_to_list, option_map, option_or}
use Rattle.std.specs.List.{list_any}
use Rattle.std.proofs.lemmas.Bool.{eq-eqb, eqb-true}
use Rattle.std.proofs.lemmas.List.Folds.{list_any-append, find-append}
use Rattle.igvm_headers.specs.declared.header.Header.{Header}
use Rattle.igvm_headers.specs.declared.header.Header.TheVariants.{Platform, Area, Page, Insert, Param}
use Rattle.platform_masks.specs.declared.platform.Platform as platform
use Rattle.platform_masks.specs.Platforms.{platform_of}
use Rattle.igvm_image.specs.declared.area_table.AreaEntry.{AreaEntry}
use Rattle.igvm_image.specs.Areas.{area_entry, area_size, placed_pages}
use Rattle.igvm_image.specs.HeaderRules.{Seen, seen_after, breaks_order, breaks_mask, breaks_area_limit, breaks_area_repeated, breaks_area_unknown, breaks_wrap}
use Rattle.igvm_image.specs.RulesLaws.{KeepsRules}
use Rattle.component_list.specs.declared.component.Component.{Component}
use Rattle.component_list.specs.Lists.{component_fault}
use Rattle.list_changes.specs.Changes.{changed, changed_part}
use Rattle.list_changes.proofs.Walks.{keeps_all, changed_follows}

-- one of these platforms has this mask
abbrev pub has_mask : ℕ → List platform.Platform → Bool
has_mask x ps = list_any (λ p. p.mask == x) ps

-- what is seen of the other list under its new numbers: tests for masks and areas, and counts
pub record Other : Type 0 where
  pub masks : ℕ → Bool
  pub areas : ℕ → Bool
  pub count : ℕ
  pub pages : ℕ

abbrev pub told : (ℕ → ℕ) → (ℕ → ℕ) → Seen → Other
told mask_to area_to seen = record {
  masks = λ x. list_any (λ p. mask_to p.mask == x) seen.platforms;
  areas = λ x. list_any (λ e. area_to e.area == x) seen.areas;
  count = length seen.areas;
  pages = seen.pages;
}

-- Headers of one list are judged among those of both: what is seen of all is what is seen of that list, renamed, and
-- what is seen of the other, whose masks and areas are told by tests.
pub record Both (mask_to area_to : ℕ → ℕ) (own : Seen) (other : Other) (all : Seen) : Type 0 where
  pub masks : (x : ℕ) → has_mask x all.platforms ≡ (list_any (λ (p : platform.Platform). mask_to p.mask == x) own.platforms || other.masks x)
  pub areas : (x : ℕ) → is_some (area_size all.areas x) ≡ (list_any (λ (e : AreaEntry). area_to e.area == x) own.areas || other.areas x)
  pub sizes : (x bytes : ℕ) → area_size own.areas x ≡ Some bytes → area_size all.areas (area_to x) ≡ Some bytes
  pub count : length all.areas ≡ length own.areas + other.count
  pub pages : all.pages ≡ own.pages + other.pages

-- what a header needs of the new numbers
pub record IsNew (mask_to area_to : ℕ → ℕ) (own : Seen) (other : Other) (all : Seen) (h : Header) : Type 0 where
  pub order : breaks_order all (changed mask_to area_to h) ≡ false
  pub mask : breaks_mask all (changed mask_to area_to h) ≡ false
  pub repeated : breaks_area_repeated all (changed mask_to area_to h) ≡ false
  pub areas : length (seen_after own h).areas + other.count ≤ 256
  pub pages : (seen_after own h).pages + other.pages ≤ 4194304

named_size : (size : Option ℕ) → is_none size ≡ false → (bytes : ℕ) × (size ≡ Some bytes)
named_size None some = cc
named_size (Some bytes) some = (bytes, refl)

-- an area that is named has its size among all
size_here : (mask_to area_to : ℕ → ℕ) (own : Seen) (other : Other) (all : Seen) → Both mask_to area_to own other all → (area : ℕ)
    → is_none (area_size own.areas area) ≡ false → area_size all.areas (area_to area) ≡ area_size own.areas area
size_here mask_to area_to own other all both area some =
    let found = named_size (area_size own.areas area) some in
    both.sizes area found.0 found.1 ∙ sym found.1

pages_here : (mask_to area_to : ℕ → ℕ) (own : Seen) (other : Other) (all : Seen) → Both mask_to area_to own other all → (h : Header)
    → breaks_area_unknown own h ≡ false → placed_pages all.areas (changed mask_to area_to h) ≡ placed_pages own.areas h
pages_here mask_to area_to own other all both (Insert gpa mask area) known =
    ap (λ size. unwrap_or size 0 / 4096) (size_here mask_to area_to own other all both area known)
pages_here mask_to area_to own other all both (Page gpa mask offset large unmeasured kind) known = refl
pages_here mask_to area_to own other all both h known = refl

record Looks (seen : Seen) (h : Header) : Type 0 where
  pub limit : breaks_area_limit seen h ≡ false
  pub unknown : breaks_area_unknown seen h ≡ false
  pub wrap : breaks_wrap seen h ≡ false

limit_here : (n : ℕ) → n + 1 ≤ 256 → nat_le 256 n ≡ false
limit_here n few = grind arith

looks : (mask_to area_to : ℕ → ℕ) (own : Seen) (other : Other) (all : Seen) → Both mask_to area_to own other all → (h : Header)
    → length (seen_after own h).areas + other.count ≤ 256 → KeepsRules 0 own h → Looks all (changed mask_to area_to h)
looks mask_to area_to own other all both (Area bytes area offset) few rules = record {
  limit = limit_here (length all.areas)
      (let more = length-append own.areas (record { area = area; bytes = bytes } ∷ []) in let same = both.count in omega (arith, more, same, few));
  unknown = refl;
  wrap = refl;
}
looks mask_to area_to own other all both (Insert gpa mask area) few rules =
    let size = size_here mask_to area_to own other all both area rules.unknown in
    record {
      limit = refl;
      unknown = ap is_none size ∙ rules.unknown;
      wrap = ap (λ s. nat_lt (2 ^ 64) (gpa + unwrap_or s 0)) size ∙ rules.wrap;
    }
looks mask_to area_to own other all both (Param kind area byte_offset) few rules = record {
  limit = refl;
  unknown = ap is_none (size_here mask_to area_to own other all both area rules.unknown) ∙ rules.unknown;
  wrap = refl;
}
looks mask_to area_to own other all both h few rules = record { limit = refl; unknown = refl; wrap = refl }

few_pages : (n : ℕ) → n ≤ 4194304 → nat_lt 4194304 n ≡ false
few_pages n few = grind arith

pub step_follows : (mask_to area_to : ℕ → ℕ) (own : Seen) (other : Other) (all : Seen) (c : Component) → Both mask_to area_to own other all
    → component_fault own c ≡ None → IsNew mask_to area_to own other all c.header
    → component_fault all (changed_part mask_to area_to c) ≡ None
step_follows mask_to area_to own other all c both none new =
    let kept = keeps_all own c none in
    let look = looks mask_to area_to own other all both c.header new.areas kept.rules in
    let count = pages_here mask_to area_to own other all both c.header kept.rules.unknown in
    let sum = both.pages in
    let few = new.pages in
    changed_follows own all mask_to area_to c kept (record {
      order = new.order;
      mask = new.mask;
      limit = look.limit;
      repeated = new.repeated;
      unknown = look.unknown;
      wrap = look.wrap;
      pages = few_pages (all.pages + placed_pages all.areas (changed mask_to area_to c.header)) (omega (arith, sum, few, count));
    })

-- ---- and what is seen behind it

or_swap : (a b c : Bool) → ((a || b) || c) ≡ ((a || c) || b)
or_swap true b c = refl
or_swap false true true = refl
or_swap false true false = refl
or_swap false false true = refl
or_swap false false false = refl

declared_masks : (mask_to area_to : ℕ → ℕ) (x n k : ℕ) (h : Header) → has_mask x (platform_of n (changed mask_to area_to h))
    ≡ list_any (λ (p : platform.Platform). mask_to p.mask == x) (platform_of k h)
declared_masks mask_to area_to x n k (Platform mask highest_vtl kind version shared_gpa) = refl
declared_masks mask_to area_to x n k h = refl

pub size_some : (es : List AreaEntry) (x : ℕ) → is_some (area_size es x) ≡ list_any (λ (e : AreaEntry). e.area == x) es
size_some [] x = refl
size_some (e ∷ es) x = cases (e.area == x) (size_some es x)
  where
    cases : (b : Bool) → is_some (area_size es x) ≡ list_any (λ (d : AreaEntry). d.area == x) es
        → is_some (option_map (λ (d : AreaEntry). d.bytes) (if b then Some e else find (λ (d : AreaEntry). d.area == x) es)) ≡ (b || list_any (λ (d : AreaEntry). d.area == x) es)
    cases true others = refl
    cases false others = others

some_append : (xs ys : List AreaEntry) (x : ℕ) → is_some (area_size (xs ++ ys) x) ≡ (is_some (area_size xs x) || is_some (area_size ys x))
some_append xs ys x =
    size_some (xs ++ ys) x ∙ list_any-append (λ (e : AreaEntry). e.area == x) xs ys ∙ sym (ap₂ (λ b c. b || c) (size_some xs x) (size_some ys x))

declared_areas : (mask_to area_to : ℕ → ℕ) (x : ℕ) (h : Header) → is_some (area_size (option_to_list (area_entry (changed mask_to area_to h))) x)
    ≡ list_any (λ (e : AreaEntry). area_to e.area == x) (option_to_list (area_entry h))
declared_areas mask_to area_to x (Area bytes area offset) = size_some (record { area = area_to area; bytes = bytes } ∷ []) x
declared_areas mask_to area_to x h = refl

size_append : (xs ys : List AreaEntry) (x : ℕ) → area_size (xs ++ ys) x ≡ option_or (area_size xs x) (area_size ys x)
size_append xs ys x =
    ap (option_map (λ (e : AreaEntry). e.bytes)) (find-append (λ (e : AreaEntry). e.area == x) xs ys)
    ∙ cases (find (λ (e : AreaEntry). e.area == x) xs)
  where
    cases : (found : Option AreaEntry) → option_map (λ (e : AreaEntry). e.bytes) (option_or found (find (λ (e : AreaEntry). e.area == x) ys))
        ≡ option_or (option_map (λ (e : AreaEntry). e.bytes) found) (area_size ys x)
    cases None = refl
    cases (Some e) = refl

same_count : (mask_to area_to : ℕ → ℕ) (h : Header) → length (option_to_list (area_entry (changed mask_to area_to h))) ≡ length (option_to_list (area_entry h))
same_count mask_to area_to (Area bytes area offset) = refl
same_count mask_to area_to h = refl

-- the size of an area that is declared here or was before
sizes_here : (mask_to area_to : ℕ → ℕ) (own : Seen) (other : Other) (all : Seen) → Both mask_to area_to own other all → (h : Header)
    → breaks_area_repeated all (changed mask_to area_to h) ≡ false → (x bytes : ℕ)
    → area_size (own.areas ++ option_to_list (area_entry h)) x ≡ Some bytes
    → area_size (all.areas ++ option_to_list (area_entry (changed mask_to area_to h))) (area_to x) ≡ Some bytes
sizes_here mask_to area_to own other all both h new x bytes found =
    size_append all.areas (option_to_list (area_entry (changed mask_to area_to h))) (area_to x)
    ∙ cases (area_size own.areas x) refl h new (sym (size_append own.areas (option_to_list (area_entry h)) x) ∙ found)
  where
    last : (b : Bool) (entry : ℕ) → (if b then Some entry else None) ≡ Some bytes → (b ≡ true) × (entry ≡ bytes)
    last true entry found = (refl, cc)
    last false entry found = cc

    none_some : (size : Option ℕ) → is_some size ≡ false → size ≡ None
    none_some None h = refl
    none_some (Some n) h = cc

    only : (area n x : ℕ) → area_size (record { area = area; bytes = n } ∷ []) x ≡ (if area == x then Some n else None)
    only area n x = test (area == x)
      where
        test : (b : Bool) → option_map (λ (e : AreaEntry). e.bytes) (if b then Some (record { area = area; bytes = n }) else None) ≡ (if b then Some n else None)
        test true = refl
        test false = refl

    cases : (size : Option ℕ) → area_size own.areas x ≡ size → (h : Header) → breaks_area_repeated all (changed mask_to area_to h) ≡ false
        → option_or size (area_size (option_to_list (area_entry h)) x) ≡ Some bytes
        → option_or (area_size all.areas (area_to x)) (area_size (option_to_list (area_entry (changed mask_to area_to h))) (area_to x)) ≡ Some bytes
    cases (Some n) is h new found =
        ap (λ s. option_or s (area_size (option_to_list (area_entry (changed mask_to area_to h))) (area_to x))) (both.sizes x n is) ∙ found
    cases None is (Area n area offset) new found =
        let here = last (area == x) n (sym (only area n x) ∙ found) in
        let same : area ≡ x = eqb-true area x here.0 in
        let free : area_size all.areas (area_to x) ≡ None = ap (λ y. area_size all.areas (area_to y)) (sym same) ∙ none_some (area_size all.areas (area_to area)) new in
        ap (λ s. option_or s (area_size (record { area = area_to area; bytes = n } ∷ []) (area_to x))) free
        ∙ only (area_to area) n (area_to x)
        ∙ ap₂ (λ b m. if b then Some m else None) (eq-eqb (area_to area) (area_to x) (ap area_to same)) here.1
    cases None is h new found = cc

pub step_seen : (mask_to area_to : ℕ → ℕ) (own : Seen) (other : Other) (all : Seen) (c : Component) → Both mask_to area_to own other all
    → component_fault own c ≡ None → IsNew mask_to area_to own other all c.header
    → Both mask_to area_to (seen_after own c.header) other (seen_after all (changed mask_to area_to c.header))
step_seen mask_to area_to own other all c both none new =
    let h = c.header in
    let kept = keeps_all own c none in
    record {
      masks = λ x.
          list_any-append (λ (p : platform.Platform). p.mask == x) all.platforms (platform_of (length all.platforms) (changed mask_to area_to h))
          ∙ ap₂ (λ b d. b || d) (both.masks x) (declared_masks mask_to area_to x (length all.platforms) (length own.platforms) h)
          ∙ or_swap (list_any (λ (p : platform.Platform). mask_to p.mask == x) own.platforms) (other.masks x) (list_any (λ (p : platform.Platform). mask_to p.mask == x) (platform_of (length own.platforms) h))
          ∙ ap (λ b. b || other.masks x) (sym (list_any-append (λ (p : platform.Platform). mask_to p.mask == x) own.platforms (platform_of (length own.platforms) h)));
      areas = λ x.
          some_append all.areas (option_to_list (area_entry (changed mask_to area_to h))) x
          ∙ ap₂ (λ b d. b || d) (both.areas x) (declared_areas mask_to area_to x h)
          ∙ or_swap (list_any (λ (e : AreaEntry). area_to e.area == x) own.areas) (other.areas x) (list_any (λ (e : AreaEntry). area_to e.area == x) (option_to_list (area_entry h)))
          ∙ ap (λ b. b || other.areas x) (sym (list_any-append (λ (e : AreaEntry). area_to e.area == x) own.areas (option_to_list (area_entry h))));
      sizes = λ x bytes found. sizes_here mask_to area_to own other all both h new.repeated x bytes found;
      count =
          (let one = length-append all.areas (option_to_list (area_entry (changed mask_to area_to h))) in
          let two = length-append own.areas (option_to_list (area_entry h)) in
          let same = same_count mask_to area_to h in
          let sum = both.count in
          omega (arith, one, two, same, sum));
      pages =
          (let count = pages_here mask_to area_to own other all both h kept.rules.unknown in
          let sum = both.pages in
          omega (arith, count, sum));
    }

or_comm : (a b : Bool) → (a || b) ≡ (b || a)
or_comm true true = refl
or_comm true false = refl
or_comm false true = refl
or_comm false false = refl

-- the same step, seen from the other list
pub step_other : (mask_to area_to other_mask other_area : ℕ → ℕ) (own other all : Seen) (c : Component)
    → Both mask_to area_to own (told other_mask other_area other) all → Both other_mask other_area other (told mask_to area_to own) all
    → component_fault own c ≡ None → IsNew mask_to area_to own (told other_mask other_area other) all c.header
    → Both other_mask other_area other (told mask_to area_to (seen_after own c.header)) (seen_after all (changed mask_to area_to c.header))
step_other mask_to area_to other_mask other_area own other all c both back none new =
    let next = step_seen mask_to area_to own (told other_mask other_area other) all c both none new in
    record {
      masks = λ x. next.masks x ∙ or_comm (list_any (λ (p : platform.Platform). mask_to p.mask == x) (seen_after own c.header).platforms) (list_any (λ (p : platform.Platform). other_mask p.mask == x) other.platforms);
      areas = λ x. next.areas x ∙ or_comm (list_any (λ (e : AreaEntry). area_to e.area == x) (seen_after own c.header).areas) (list_any (λ (e : AreaEntry). other_area e.area == x) other.areas);
      sizes = λ x bytes found.
          size_append all.areas (option_to_list (area_entry (changed mask_to area_to c.header))) (other_area x)
          ∙ ap (λ s. option_or s (area_size (option_to_list (area_entry (changed mask_to area_to c.header))) (other_area x))) (back.sizes x bytes found);
      count = (let sum = next.count in omega (arith, sum));
      pages = (let sum = next.pages in omega (arith, sum));
    }
