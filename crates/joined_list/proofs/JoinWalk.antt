-- A part of either list, behind what is joined so far.
use Rattle.std.proofs.Common.{◌≡◌, ℕ, ◌+◌, ◌≤◌, List, [], ◌∷◌, ◌++◌, length, map, refl, sym, ◌∙◌, ap, ap₂, subst, length-append, arith, Bool, true, false, ◌⊎◌, inl, inr}
use Rattle.std.specs.Prelude.{◌==◌, ◌||◌, ◌&&◌, not, nat_lt, max}
use Rattle.std.specs.Option.{option_to_list}
use Rattle.std.specs.List.{list_any, AllByRecursion}
use Rattle.igvm_headers.specs.declared.header.Header.{Header}
use Rattle.igvm_headers.specs.declared.header.Header.TheVariants.{Platform, Area}
use Rattle.igvm_headers.specs.HeaderFacts.{class_of}
use Rattle.platform_masks.specs.declared.platform.Platform as platform
use Rattle.platform_masks.specs.Platforms.{platform_of}
use Rattle.igvm_image.specs.declared.area_table.AreaEntry.{AreaEntry}
use Rattle.igvm_image.specs.Areas.{area_entry}
use Rattle.igvm_image.specs.HeaderRules.{Seen, seen_after, is_one_bit, breaks_mask, breaks_area_repeated}
use Rattle.component_list.specs.declared.component.Component.{Component}
use Rattle.list_changes.specs.Changes.{changed, changed_part}
use Rattle.list_changes.proofs.Kept.{has, or_false}
use Rattle.list_changes.proofs.Walks.{Follows, seen_all, keeps_all, same_header}
use Rattle.joined_list.proofs.EachElement.{all_append}
use Rattle.joined_list.proofs.Declared.{DeclaredIn}
use Rattle.joined_list.proofs.JoinSteps.{has_mask, told, Both, IsNew, step_follows, step_seen, step_other, size_some}

-- ---- numbers

-- new numbers of one list's masks and areas
pub record Renames (olds indices : List ℕ) (mask_to area_to : ℕ → ℕ) : Type 0 where
  pub one : (x : ℕ) → has x olds ≡ true → is_one_bit (mask_to x) ≡ true
  pub masks : (x y : ℕ) → has x olds ≡ true → has y olds ≡ true → (y == x) ≡ false → (mask_to y == mask_to x) ≡ false
  pub areas : (x y : ℕ) → has x indices ≡ true → has y indices ≡ true → (y == x) ≡ false → (area_to y == area_to x) ≡ false

-- the new numbers of two lists are apart
pub record Apart (olds indices : List ℕ) (mask_to area_to : ℕ → ℕ) (other_olds other_indices : List ℕ) (other_mask other_area : ℕ → ℕ) : Type 0 where
  pub masks : (x y : ℕ) → has x olds ≡ true → has y other_olds ≡ true → (other_mask y == mask_to x) ≡ false
  pub areas : (x y : ℕ) → has x indices ≡ true → has y other_indices ≡ true → (other_area y == area_to x) ≡ false

-- what is seen is of these
pub record Within (olds indices : List ℕ) (seen : Seen) : Type 0 where
  pub masks : AllByRecursion (λ (p : platform.Platform). has p.mask olds ≡ true) seen.platforms
  pub areas : AllByRecursion (λ (e : AreaEntry). has e.area indices ≡ true) seen.areas

abbrev pub MaskIn : List ℕ → Header → Type 0
MaskIn olds (Platform mask highest_vtl kind version shared_gpa) = has mask olds ≡ true
MaskIn olds header = Unit {0}

within_more : (olds areas : List ℕ) (seen : Seen) (h : Header) → MaskIn olds h → DeclaredIn areas h → Within olds areas seen → Within olds areas (seen_after seen h)
within_more olds areas seen h mask area within = record {
  masks = all_append (λ (p : platform.Platform). has p.mask olds ≡ true) seen.platforms (platform_of (length seen.platforms) h) within.masks (here h mask);
  areas = all_append (λ (e : AreaEntry). has e.area areas ≡ true) seen.areas (option_to_list (area_entry h)) within.areas (there h area);
}
  where
    here : (h : Header) → MaskIn olds h → AllByRecursion (λ (p : platform.Platform). has p.mask olds ≡ true) (platform_of (length seen.platforms) h)
    here (Platform mask highest_vtl kind version shared_gpa) is = (is, tt)
    here h is = tt

    there : (h : Header) → DeclaredIn areas h → AllByRecursion (λ (e : AreaEntry). has e.area areas ≡ true) (option_to_list (area_entry h))
    there (Area bytes area offset) is = (is, tt)
    there h is = tt

-- none of these is the new number
none_any : {X : Type 0} (P : X → Type 0) (test : X → Bool) (xs : List X) → ((x : X) → P x → test x ≡ false) → AllByRecursion P xs → list_any test xs ≡ false
none_any P test [] f all = refl
none_any P test (x ∷ xs) f all = ap₂ (λ b c. b || c) (f x all.0) (none_any P test xs f all.1)

-- no other one of its own list
none_own : {X : Type 0} (P : X → Type 0) (test new : X → Bool) (xs : List X) → ((x : X) → P x → test x ≡ false → new x ≡ false) → AllByRecursion P xs → list_any test xs ≡ false → list_any new xs ≡ false
none_own P test new [] f all none = refl
none_own P test new (x ∷ xs) f all none =
    let both = or_false (test x) (list_any test xs) none in
    ap₂ (λ b c. b || c) (f x all.0 both.0) (none_own P test new xs f all.1 both.1)

-- ---- one header

mask_new : (olds areas : List ℕ) (mask_to area_to : ℕ → ℕ) (other_olds other_areas : List ℕ) (other_mask other_area : ℕ → ℕ) (own other all : Seen)
    → Renames olds areas mask_to area_to → Apart olds areas mask_to area_to other_olds other_areas other_mask other_area
    → Within olds areas own → Within other_olds other_areas other → Both mask_to area_to own (told other_mask other_area other) all
    → (h : Header) → MaskIn olds h → breaks_mask own h ≡ false → breaks_mask all (changed mask_to area_to h) ≡ false
mask_new olds areas mask_to area_to other_olds other_areas other_mask other_area own other all renames apart within also both (Platform mask highest_vtl kind version shared_gpa) is kept =
    let fresh = or_false (not (is_one_bit mask)) (has_mask mask own.platforms) kept in
    ap₂ (λ b c. b || c) (ap not (renames.one mask is))
    (both.masks (mask_to mask)
    ∙ ap₂ (λ b c. b || c)
    (none_own (λ (p : platform.Platform). has p.mask olds ≡ true) (λ (p : platform.Platform). p.mask == mask) (λ (p : platform.Platform). mask_to p.mask == mask_to mask) own.platforms
    (λ p there differs. renames.masks mask p.mask is there differs) within.masks fresh.1)
    (none_any (λ (p : platform.Platform). has p.mask other_olds ≡ true) (λ (p : platform.Platform). other_mask p.mask == mask_to mask) other.platforms
    (λ p there. apart.masks mask p.mask is there) also.masks))
mask_new olds areas mask_to area_to other_olds other_areas other_mask other_area own other all renames apart within also both h is kept = refl

area_new : (olds areas : List ℕ) (mask_to area_to : ℕ → ℕ) (other_olds other_areas : List ℕ) (other_mask other_area : ℕ → ℕ) (own other all : Seen)
    → Renames olds areas mask_to area_to → Apart olds areas mask_to area_to other_olds other_areas other_mask other_area
    → Within olds areas own → Within other_olds other_areas other → Both mask_to area_to own (told other_mask other_area other) all
    → (h : Header) → DeclaredIn areas h → breaks_area_repeated own h ≡ false → breaks_area_repeated all (changed mask_to area_to h) ≡ false
area_new olds areas mask_to area_to other_olds other_areas other_mask other_area own other all renames apart within also both (Area bytes area offset) is kept =
    both.areas (area_to area)
    ∙ ap₂ (λ b c. b || c)
    (none_own (λ (e : AreaEntry). has e.area areas ≡ true) (λ (e : AreaEntry). e.area == area) (λ (e : AreaEntry). area_to e.area == area_to area) own.areas
    (λ e there differs. renames.areas area e.area is there differs) within.areas (sym (size_some own.areas area) ∙ kept))
    (none_any (λ (e : AreaEntry). has e.area other_areas ≡ true) (λ (e : AreaEntry). other_area e.area == area_to area) other.areas
    (λ e there. apart.areas area e.area is there) also.areas)
area_new olds areas mask_to area_to other_olds other_areas other_mask other_area own other all renames apart within also both h is kept = refl

-- ---- a part

-- a header of a class, or of none
abbrev pub IsOf : ℕ → Header → Type 0
IsOf k h = (class_of h ≡ 0) ⊎ (class_of h ≡ k)

order_of : (k class latest : ℕ) → latest ≤ k → (class ≡ 0) ⊎ (class ≡ k) → (not (class == 0) && nat_lt class latest) ≡ false
order_of k class latest few (inl none) = grind arith
order_of k class latest few (inr is) = grind arith

latest_of : (k class latest : ℕ) → latest ≤ k → (class ≡ 0) ⊎ (class ≡ k) → max latest class ≤ k
latest_of k class latest few (inl none) = omega arith
latest_of k class latest few (inr is) = omega arith

-- what is seen grows
pub pages_grow : (seen : Seen) (cs : List Component) → seen.pages ≤ (seen_all seen cs).pages
pages_grow seen [] = omega arith
pages_grow seen (c ∷ cs) = (let more = pages_grow (seen_after seen c.header) cs in omega (arith, more))

pub areas_grow : (seen : Seen) (cs : List Component) → length seen.areas ≤ length (seen_all seen cs).areas
areas_grow seen [] = omega arith
areas_grow seen (c ∷ cs) =
    (let more = areas_grow (seen_after seen c.header) cs in
    let sum = length-append seen.areas (option_to_list (area_entry c.header)) in
    omega (arith, more, sum))

-- where two lists stand while they are joined
pub record Joining (olds areas : List ℕ) (mask_to area_to : ℕ → ℕ) (other_olds other_areas : List ℕ) (other_mask other_area : ℕ → ℕ) (k : ℕ) (own other all : Seen) : Type 0 where
  pub both : Both mask_to area_to own (told other_mask other_area other) all
  pub back : Both other_mask other_area other (told mask_to area_to own) all
  pub within : Within olds areas own
  pub also : Within other_olds other_areas other
  pub latest : all.latest ≤ k

pub record Room (last other : Seen) : Type 0 where
  pub areas : length last.areas + length other.areas ≤ 256
  pub pages : last.pages + other.pages ≤ 4194304

pub join_part : (olds areas : List ℕ) (mask_to area_to : ℕ → ℕ) (other_olds other_areas : List ℕ) (other_mask other_area : ℕ → ℕ) (k : ℕ)
    → Renames olds areas mask_to area_to → Apart olds areas mask_to area_to other_olds other_areas other_mask other_area
    → (xs rest : List Component) (own other all : Seen)
    → Joining olds areas mask_to area_to other_olds other_areas other_mask other_area k own other all
    → Room (seen_all own (xs ++ rest)) other → Follows own (xs ++ rest)
    → AllByRecursion (λ c. IsOf k c.header) xs → AllByRecursion (λ c. MaskIn olds c.header) xs → AllByRecursion (λ c. DeclaredIn areas c.header) xs
    → Follows all (map (changed_part mask_to area_to) xs)
    × Joining olds areas mask_to area_to other_olds other_areas other_mask other_area k (seen_all own xs) other (seen_all all (map (changed_part mask_to area_to) xs))
join_part olds areas mask_to area_to other_olds other_areas other_mask other_area k renames apart [] rest own other all j room follow class masks declared = (tt, j)
join_part olds areas mask_to area_to other_olds other_areas other_mask other_area k renames apart (c ∷ xs) rest own other all j room follow class masks declared =
    let h = c.header in
    let kept = (keeps_all own c follow.0).rules in
    let same = (same_header mask_to area_to h).class in
    let pages = pages_grow (seen_after own h) (xs ++ rest) in
    let count = areas_grow (seen_after own h) (xs ++ rest) in
    let enough_areas = room.areas in
    let enough_pages = room.pages in
    let new : IsNew mask_to area_to own (told other_mask other_area other) all h = record {
      order = ap (λ n. not (n == 0) && nat_lt n all.latest) same ∙ order_of k (class_of h) all.latest j.latest class.0;
      mask = mask_new olds areas mask_to area_to other_olds other_areas other_mask other_area own other all renames apart j.within j.also j.both h masks.0 kept.mask;
      repeated = area_new olds areas mask_to area_to other_olds other_areas other_mask other_area own other all renames apart j.within j.also j.both h declared.0 kept.repeated;
      areas = omega (arith, count, enough_areas);
      pages = omega (arith, pages, enough_pages);
    } in
    let next : Joining olds areas mask_to area_to other_olds other_areas other_mask other_area k (seen_after own h) other (seen_after all (changed mask_to area_to h)) = record {
      both = step_seen mask_to area_to own (told other_mask other_area other) all c j.both follow.0 new;
      back = step_other mask_to area_to other_mask other_area own other all c j.both j.back follow.0 new;
      within = within_more olds areas own h masks.0 declared.0 j.within;
      also = j.also;
      latest = subst (λ n. max all.latest n ≤ k) (sym same) (latest_of k (class_of h) all.latest j.latest class.0);
    } in
    let behind = join_part olds areas mask_to area_to other_olds other_areas other_mask other_area k renames apart xs rest (seen_after own h) other (seen_after all (changed mask_to area_to h)) next room follow.1 class.1 masks.1 declared.1 in
    ((step_follows mask_to area_to own (told other_mask other_area other) all c j.both follow.0 new, behind.0), behind.1)
