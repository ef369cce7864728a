-- A list that is stripped to one of its platforms breaks no rule, and its numbers are those of its types.
use Rattle.std.proofs.Common.{◌≡◌, ℕ, zero, suc, ◌+◌, ◌^◌, ◌<◌, ◌≤◌, List, [], ◌∷◌, ◌++◌, length, map, refl, sym, ◌∙◌, ap, ap₂, subst, append-nil, arith, Some, None, Bool, true, false}
use Rattle.std.specs.Prelude.{if◌then◌else◌, ◌==◌, ◌||◌, ◌&&◌, not, nat_lt, nat_le, max, filter, unwrap_or, is_some, is_none}
use Rattle.std.specs.Option.{option_to_list}
use Rattle.std.specs.List.{slice_get, AllByRecursion}
use Rattle.std.proofs.lemmas.Bool.{eqb-true}
use Rattle.std.proofs.lemmas.List.Folds.{list_any-append}
use Rattle.igvm_headers.specs.HeaderFacts.{class_of, data_offset}
use Rattle.igvm_headers.specs.SpellingConditions.{NumbersFit, ListsAreBytes}
use Rattle.igvm_headers.specs.declared.header.Header.{Header}
use Rattle.igvm_headers.specs.declared.header.Header.TheVariants.{Platform, Policy, Area, Page, Insert, Param, Context, Required, ErrorRange, IdBlock, Carried}
use Rattle.platform_masks.specs.declared.platform.Platform as platform
use Rattle.platform_masks.specs.Platforms.{platform_of, platforms_of}
use Rattle.igvm_image.specs.declared.area_table.AreaEntry.{AreaEntry}
use Rattle.igvm_image.specs.Areas.{area_entry, area_size, placed_pages}
use Rattle.igvm_image.specs.HeaderRules.{Seen, seen_of, seen_after, is_one_bit, breaks_mask, breaks_area_limit, breaks_area_repeated, breaks_area_unknown, breaks_wrap}
use Rattle.igvm_image.specs.RulesLaws.{KeepsRules}
use Rattle.component_list.specs.declared.component.Component.{Component}
use Rattle.component_list.specs.FirstFault.{headers_in}
use Rattle.component_list.specs.Lists.{IsValid, component_fault, list_fault}
use Rattle.component_list.specs.Ranges.{IsComponent}
use Rattle.list_changes.specs.Changes.{with_mask}
use Rattle.list_changes.specs.ListPlatforms.{masks_in, platforms_in}
use Rattle.list_changes.proofs.Bits.{IsBit, apart, apart_self, apart_other, one_bit-is}
use Rattle.list_changes.proofs.Kept.{has_mask, masks_from, or_false, own_mask, platform_masks}
use Rattle.list_changes.proofs.Numbered.{mask_at, platform_bit, platform_found}
use Rattle.list_changes.proofs.Walks.{seen_end, Follows, seen_all, walks, walked, keeps_all, same_header, changed_follows}
use Rattle.image_ops.specs.Stripped.{stays, masked, stripped_parts}

-- ---- areas stay

entry_same : (m : ℕ) (h : Header) → area_entry (with_mask m h) ≡ area_entry h
entry_same m (Platform mask highest_vtl kind version shared_gpa) = refl
entry_same m (Policy policy mask) = refl
entry_same m (Area bytes area offset) = refl
entry_same m h = refl

entry_gone : (m : ℕ) (h : Header) → stays m h ≡ false → area_entry h ≡ None
entry_gone m (Area bytes area offset) gone = cc
entry_gone m h gone = refl

-- ---- one header

-- what is stripped so far is less than what it is stripped from
pub record IsLess (m : ℕ) (less seen : Seen) : Type 0 where
  pub latest : less.latest ≤ seen.latest
  pub masks : (x : ℕ) → has_mask x less.platforms ≡ true → has_mask x seen.platforms ≡ true
  pub own : has_mask m less.platforms ≡ has_mask m seen.platforms
  pub areas : less.areas ≡ seen.areas
  pub pages : less.pages ≤ seen.pages

order_less : (class latest less : ℕ) → less ≤ latest → (not (class == 0) && nat_lt class latest) ≡ false → (not (class == 0) && nat_lt class less) ≡ false
order_less class latest less few kept = grind arith

pages_less : (pages less n : ℕ) → less ≤ pages → nat_lt 4194304 (pages + n) ≡ false → nat_lt 4194304 (less + n) ≡ false
pages_less pages less n few kept = grind arith

none_less : (b c : Bool) → (b ≡ true → c ≡ true) → c ≡ false → b ≡ false
none_less true c more none = (let both = more refl in cc)
none_less false c more none = refl

-- a mask of one bit that shares a bit with another is that other
same_bit : (x m : ℕ) → IsBit x → IsBit m → not (apart x m) ≡ true → x ≡ m
same_bit x m is also shared = cases (x == m) refl
  where
    cases : (b : Bool) → (x == m) ≡ b → x ≡ m
    cases true same = eqb-true x m same
    cases false other = (let both : false ≡ true = ap not (sym (apart_other x m is also other)) ∙ shared in cc)

not_false : (b : Bool) → not b ≡ false → b ≡ true
not_false true h = refl
not_false false h = cc

-- a platform's header that stays has this mask
is_own : (m mask : ℕ) (seen : Seen) → IsBit m → not (apart mask m) ≡ true → (not (is_one_bit mask) || has_mask mask seen.platforms) ≡ false → mask ≡ m
is_own m mask seen is shared kept =
    same_bit mask m (one_bit-is mask (not_false (is_one_bit mask) (or_false (not (is_one_bit mask)) _ kept).0)) is shared

-- the rules that look at platforms and areas
record Looks (seen : Seen) (h : Header) : Type 0 where
  pub mask : breaks_mask seen h ≡ false
  pub limit : breaks_area_limit seen h ≡ false
  pub repeated : breaks_area_repeated seen h ≡ false
  pub unknown : breaks_area_unknown seen h ≡ false
  pub wrap : breaks_wrap seen h ≡ false

looks : (m : ℕ) → IsBit m → (less seen : Seen) → IsLess m less seen → (h : Header) → stays m h ≡ true → KeepsRules 0 seen h
    → Looks less (with_mask m h)
looks m is less seen l (Platform mask highest_vtl kind version shared_gpa) stay rules =
    let same = is_own m mask seen is stay rules.mask in
    let both = or_false (not (is_one_bit mask)) (has_mask mask seen.platforms) rules.mask in
    record {
      mask = ap₂ (λ b c. b || c) (ap (λ x. not (is_one_bit x)) (sym same) ∙ both.0)
          (none_less (has_mask m less.platforms) (has_mask m seen.platforms) (l.masks m) (ap (λ x. has_mask x seen.platforms) (sym same) ∙ both.1));
      limit = refl;
      repeated = refl;
      unknown = refl;
      wrap = refl;
    }
looks m is less seen l (Area bytes area offset) stay rules = record {
  mask = refl;
  limit = ap (λ areas. nat_le 256 (length areas)) l.areas ∙ rules.limit;
  repeated = ap (λ areas. is_some (area_size areas area)) l.areas ∙ rules.repeated;
  unknown = refl;
  wrap = refl;
}
looks m is less seen l (Insert gpa mask area) stay rules = record {
  mask = refl;
  limit = refl;
  repeated = refl;
  unknown = ap (λ areas. is_none (area_size areas area)) l.areas ∙ rules.unknown;
  wrap = ap (λ areas. nat_lt (2 ^ 64) (gpa + unwrap_or (area_size areas area) 0)) l.areas ∙ rules.wrap;
}
looks m is less seen l (Param kind area byte_offset) stay rules = record {
  mask = refl;
  limit = refl;
  repeated = refl;
  unknown = ap (λ areas. is_none (area_size areas area)) l.areas ∙ rules.unknown;
  wrap = refl;
}
looks m is less seen l h stay rules = record { mask = refl; limit = refl; repeated = refl; unknown = refl; wrap = refl }

same_pages : (m : ℕ) (areas : List AreaEntry) (h : Header) → placed_pages areas (with_mask m h) ≡ placed_pages areas h
same_pages m areas (Page gpa mask offset large unmeasured kind) = refl
same_pages m areas (Insert gpa mask area) = refl
same_pages m areas h = refl

or_more : (a b c d : Bool) → (a ≡ true → c ≡ true) → b ≡ d → (a || b) ≡ true → (c || d) ≡ true
or_more true b c d more same h = ap (λ x. x || d) (more refl)
or_more false b true d more same h = refl
or_more false b false d more same h = sym same ∙ h

-- what a header that stays declares
same_declared : (m : ℕ) → IsBit m → (seen : Seen) (x n k : ℕ) (h : Header) → stays m h ≡ true → breaks_mask seen h ≡ false
    → has_mask x (platform_of n (with_mask m h)) ≡ has_mask x (platform_of k h)
same_declared m is seen x n k (Platform mask highest_vtl kind version shared_gpa) stay kept =
    ap (λ y. (y == x) || false) (sym (is_own m mask seen is stay kept))
same_declared m is seen x n k h stay kept = refl

step_stays : (m : ℕ) → IsBit m → (less seen : Seen) (c : Component) → stays m c.header ≡ true → component_fault seen c ≡ None → IsLess m less seen
    → (component_fault less (masked m c) ≡ None) × IsLess m (seen_after less (masked m c).header) (seen_after seen c.header)
step_stays m is less seen c stay none l =
    let all = keeps_all seen c none in
    let h = c.header in
    let new = with_mask m h in
    let same = same_header (λ old. m) (λ area. area) h in
    let look = looks m is less seen l h stay all.rules in
    let count : placed_pages less.areas new ≡ placed_pages seen.areas h = ap (λ areas. placed_pages areas new) l.areas ∙ same_pages m seen.areas h in (
      changed_follows seen less (λ old. m) (λ area. area) c all (record {
        order = ap (λ class. not (class == 0) && nat_lt class less.latest) same.class ∙ order_less (class_of h) seen.latest less.latest l.latest all.rules.order;
        mask = look.mask;
        limit = look.limit;
        repeated = look.repeated;
        unknown = look.unknown;
        wrap = look.wrap;
        pages = ap (λ n. nat_lt 4194304 (less.pages + n)) count ∙ pages_less seen.pages less.pages (placed_pages seen.areas h) l.pages all.rules.pages;
      }),
      record {
        latest = subst (λ class. max less.latest class ≤ max seen.latest (class_of h)) (sym same.class) (let few = l.latest in omega arith);
        masks = λ x found.
            list_any-append (λ (p : platform.Platform). p.mask == x) seen.platforms (platform_of (length seen.platforms) h)
            ∙ or_more (has_mask x less.platforms) (has_mask x (platform_of (length less.platforms) new)) (has_mask x seen.platforms) (has_mask x (platform_of (length seen.platforms) h))
            (l.masks x) (same_declared m is seen x (length less.platforms) (length seen.platforms) h stay all.rules.mask)
            (sym (list_any-append (λ (p : platform.Platform). p.mask == x) less.platforms (platform_of (length less.platforms) new)) ∙ found);
        own =
            list_any-append (λ (p : platform.Platform). p.mask == m) less.platforms (platform_of (length less.platforms) new)
            ∙ ap₂ (λ b d. b || d) l.own (same_declared m is seen m (length less.platforms) (length seen.platforms) h stay all.rules.mask)
            ∙ sym (list_any-append (λ (p : platform.Platform). p.mask == m) seen.platforms (platform_of (length seen.platforms) h));
        areas = ap₂ (λ xs e. xs ++ option_to_list e) l.areas (entry_same m h);
        pages = (let few = l.pages in let n = count in omega arith);
      },
    )

gone_declared : (m : ℕ) → IsBit m → (n : ℕ) (h : Header) → stays m h ≡ false → has_mask m (platform_of n h) ≡ false
gone_declared m is n (Platform mask highest_vtl kind version shared_gpa) gone = cases (mask == m) refl
  where
    cases : (b : Bool) → (mask == m) ≡ b → (b || false) ≡ false
    cases false other = refl
    cases true same =
        let both : not (apart m m) ≡ false = ap (λ x. not (apart x m)) (sym (eqb-true mask m same)) ∙ gone in
        let self : not (apart m m) ≡ true = ap not (apart_self m is) in
        cc
gone_declared m is n h gone = refl

or_zero : (b c : Bool) → c ≡ false → (b || c) ≡ b
or_zero true c h = refl
or_zero false c h = h

step_goes : (m : ℕ) → IsBit m → (less seen : Seen) (h : Header) → stays m h ≡ false → IsLess m less seen → IsLess m less (seen_after seen h)
step_goes m is less seen h gone l = record {
  latest = (let few = l.latest in omega arith);
  masks = λ x found.
      list_any-append (λ (p : platform.Platform). p.mask == x) seen.platforms (platform_of (length seen.platforms) h)
      ∙ ap (λ b. b || has_mask x (platform_of (length seen.platforms) h)) (l.masks x found);
  own =
      l.own
      ∙ sym (or_zero (has_mask m seen.platforms) (has_mask m (platform_of (length seen.platforms) h)) (gone_declared m is (length seen.platforms) h gone))
      ∙ sym (list_any-append (λ (p : platform.Platform). p.mask == m) seen.platforms (platform_of (length seen.platforms) h));
  areas = l.areas ∙ sym (append-nil seen.areas) ∙ ap (λ e. seen.areas ++ option_to_list e) (sym (entry_gone m h gone));
  pages = (let few = l.pages in omega arith);
}

pub stripped_follows : (m : ℕ) → IsBit m → (parts : List Component) (less seen : Seen) → IsLess m less seen → Follows seen parts
    → Follows less (stripped_parts m parts) × IsLess m (seen_all less (stripped_parts m parts)) (seen_all seen parts)
unfolding stripped_parts
stripped_follows m is [] less seen l all = (tt, l)
stripped_follows m is (c ∷ parts) less seen l all =
    cases (stays m c.header) refl
    (λ stay. stripped_follows m is parts (seen_after less (masked m c).header) (seen_after seen c.header) (step_stays m is less seen c stay all.0 l).1 all.1)
    (λ gone. stripped_follows m is parts less (seen_after seen c.header) (step_goes m is less seen c.header gone l) all.1)
  where
    others : List Component
    others = filter (λ (d : Component). stays m d.header) parts

    cases : (b : Bool) → stays m c.header ≡ b
        → (stays m c.header ≡ true → Follows (seen_after less (masked m c).header) (map (masked m) others)
        × IsLess m (seen_all (seen_after less (masked m c).header) (map (masked m) others)) (seen_all (seen_after seen c.header) parts))
        → (stays m c.header ≡ false → Follows less (map (masked m) others) × IsLess m (seen_all less (map (masked m) others)) (seen_all (seen_after seen c.header) parts))
        → Follows less (map (masked m) (if b then c ∷ others else others))
        × IsLess m (seen_all less (map (masked m) (if b then c ∷ others else others))) (seen_all (seen_after seen c.header) parts)
    cases true stay with without =
        let behind = with stay in
        (((step_stays m is less seen c stay all.0 l).0, behind.0), behind.1)
    cases false gone with without = without gone

some_mask : (m : ℕ) (ps : List platform.Platform) → has_mask m ps ≡ true → 0 < length ps
some_mask m [] found = cc
some_mask m (p ∷ ps) found = omega arith

pub stripped_kept : (m : ℕ) → IsBit m → (parts : List Component) → list_fault parts ≡ None → has_mask m (platforms_of (headers_in parts)) ≡ true
    → list_fault (stripped_parts m parts) ≡ None
stripped_kept m is parts none found =
    let w = walks parts none in
    let all = stripped_follows m is parts (seen_of []) (seen_of []) (record { latest = omega arith; masks = λ x h. h; own = refl; areas = refl; pages = omega arith }) w.each in
    let last : has_mask m (seen_all (seen_of []) parts).platforms ≡ true = ap (λ (seen : Seen). has_mask m seen.platforms) (sym (seen_end [] parts)) ∙ found in
    walked (stripped_parts m parts) (record {
      each = all.0;
      some = some_mask m (seen_all (seen_of []) (stripped_parts m parts)).platforms (all.1.own ∙ last);
    })

-- ---- numbers

fields_fit : (m : ℕ) → m < 2 ^ 32 → (h : Header) → NumbersFit h → NumbersFit (with_mask m h)
fields_fit m small (Platform mask highest_vtl kind version shared_gpa) fit = (small, fit.1, fit.2, fit.3)
fields_fit m small (Policy policy mask) fit = (fit.0, small)
fields_fit m small (Area bytes area offset) fit = fit
fields_fit m small (Page gpa mask offset large unmeasured kind) fit = (fit.0, small, fit.2)
fields_fit m small (Insert gpa mask area) fit = (fit.0, small, fit.2)
fields_fit m small (Param kind area byte_offset) fit = fit
fields_fit m small (Context gpa mask offset vp) fit = (fit.0, small, fit.2, fit.3)
fields_fit m small (Required gpa mask bytes flags) fit = (fit.0, small, fit.2, fit.3)
fields_fit m small (ErrorRange gpa mask bytes) fit = (fit.0, small, fit.2)
fields_fit m small (IdBlock mask author_enabled ld family_id image_id version guest_svn id_algorithm author_algorithm) fit =
    (small, fit.1, fit.2, fit.3, fit.4, fit.5, fit.6, fit.7, fit.8)
fields_fit m small (Carried kind length) fit = fit

lists_fit : (m : ℕ) (h : Header) → ListsAreBytes h → ListsAreBytes (with_mask m h)
lists_fit m (IdBlock mask author_enabled ld family_id image_id version guest_svn id_algorithm author_algorithm) are = are
lists_fit m (Platform mask highest_vtl kind version shared_gpa) are = tt
lists_fit m (Policy policy mask) are = tt
lists_fit m (Area bytes area offset) are = tt
lists_fit m (Page gpa mask offset large unmeasured kind) are = tt
lists_fit m (Insert gpa mask area) are = tt
lists_fit m (Param kind area byte_offset) are = tt
lists_fit m (Context gpa mask offset vp) are = tt
lists_fit m (Required gpa mask bytes flags) are = tt
lists_fit m (ErrorRange gpa mask bytes) are = tt
lists_fit m (Carried kind length) are = tt

offset_same : (m : ℕ) (h : Header) → data_offset (with_mask m h) ≡ data_offset h
offset_same m (Area bytes area offset) = refl
offset_same m (Page gpa mask offset large unmeasured kind) = refl
offset_same m (Context gpa mask offset vp) = refl
offset_same m h = refl

masked_is : (m : ℕ) → m < 2 ^ 32 → (c : Component) → IsComponent c → IsComponent (masked m c)
masked_is m small c is = record {
  numbers = fields_fit m small c.header is.numbers;
  lists = lists_fit m c.header is.lists;
  tail = is.tail;
  content = is.content;
  offset = offset_same m c.header ∙ is.offset;
}

each_stripped : (m : ℕ) → m < 2 ^ 32 → (cs : List Component) → AllByRecursion IsComponent cs → AllByRecursion IsComponent (stripped_parts m cs)
unfolding stripped_parts
each_stripped m small [] all = tt
each_stripped m small (c ∷ cs) all = cases (stays m c.header) (each_stripped m small cs all.1)
  where
    others : List Component
    others = filter (λ (d : Component). stays m d.header) cs

    cases : (b : Bool) → AllByRecursion IsComponent (map (masked m) others) → AllByRecursion IsComponent (map (masked m) (if b then c ∷ others else others))
    cases true behind = (masked_is m small c all.0, behind)
    cases false behind = behind

fewer : (m : ℕ) (cs : List Component) → length (stripped_parts m cs) ≤ length cs
unfolding stripped_parts
fewer m [] = omega arith
fewer m (c ∷ cs) = cases (stays m c.header) (fewer m cs)
  where
    others : List Component
    others = filter (λ (d : Component). stays m d.header) cs

    cases : (b : Bool) → length (map (masked m) others) ≤ length cs → length (map (masked m) (if b then c ∷ others else others)) ≤ suc (length cs)
    cases true few = omega (arith, few)
    cases false few = omega (arith, few)

-- a platform's mask is of 32 bits
own_fits : (h : Header) → NumbersFit h → AllByRecursion (λ m. m < 2 ^ 32) (own_mask h)
own_fits (Platform mask highest_vtl kind version shared_gpa) fit = (fit.0, tt)
own_fits h fit = tt

all_append : (P : ℕ → Type 0) (xs ys : List ℕ) → AllByRecursion P xs → AllByRecursion P ys → AllByRecursion P (xs ++ ys)
all_append P [] ys first second = second
all_append P (x ∷ xs) ys first second = (first.0, all_append P xs ys first.1 second)

masks_small : (cs : List Component) → AllByRecursion IsComponent cs → AllByRecursion (λ m. m < 2 ^ 32) (platform_masks (headers_in cs))
masks_small [] all = tt
masks_small (c ∷ cs) all = all_append (λ m. m < 2 ^ 32) (own_mask c.header) (platform_masks (headers_in cs)) (own_fits c.header all.0.numbers) (masks_small cs all.1)

at_of : (P : ℕ → Type 0) (xs : List ℕ) (n x : ℕ) → AllByRecursion P xs → slice_get xs n ≡ Some x → P x
at_of P [] n x all here = cc
at_of P (y ∷ ys) zero x all here = (let is : y ≡ x = cc in subst P is all.0)
at_of P (y ∷ ys) (suc n) x all here = at_of P ys n x all.1 here

pub platform_small : (parts : List Component) (n : ℕ) (p : platform.Platform) → IsValid parts → slice_get (platforms_in parts) n ≡ Some p → p.mask < 2 ^ 32
platform_small parts n p valid here =
    at_of (λ m. m < 2 ^ 32) (masks_in parts) n p.mask
    (subst (AllByRecursion (λ m. m < 2 ^ 32)) (sym (masks_from 0 (headers_in parts))) (masks_small parts valid.fits.each)) (mask_at parts n p here)

pub stripped_valid : (parts : List Component) (n : ℕ) (p : platform.Platform) → IsValid parts → slice_get (platforms_in parts) n ≡ Some p → IsValid (stripped_parts p.mask parts)
stripped_valid parts n p valid here = record {
  kept = stripped_kept p.mask (platform_bit parts n p valid.kept here) parts valid.kept (platform_found parts n p here);
  fits = record {
    few = (let less = fewer p.mask parts in let all = valid.fits.few in omega (arith, less, all));
    each = each_stripped p.mask (platform_small parts n p valid here) parts valid.fits.each;
  };
}
