-- What a list keeps that breaks no rule: its platforms' masks are bits and distinct, and each area that a header names
-- is declared.
use Rattle.std.proofs.Common.{◌≡◌, ℕ, ◌+◌, List, [], ◌∷◌, ◌++◌, length, map, refl, sym, ◌∙◌, ap, ap₂, subst, append_assoc, append-nil, arith, Option, Some, None, Bool, true, false}
use Rattle.std.specs.Prelude.{◌==◌, ◌||◌, not, is_none, find}
use Rattle.std.specs.Option.{option_map, option_or}
use Rattle.std.specs.List.{list_any, flat_map, AllByRecursion}
use Rattle.std.proofs.lemmas.Bool.{eq-eqb, eqb-true}
use Rattle.std.proofs.lemmas.List.{map-append}
use Rattle.std.proofs.lemmas.List.Folds.{list_any-append, find-append}
use Rattle.std.proofs.lemmas.List.Elements.{filter_map-append}
use Rattle.std.proofs.lemmas.Grind.{flat_map-append}
use Rattle.igvm_headers.specs.declared.header.Header.{Header}
use Rattle.igvm_headers.specs.declared.header.Header.TheVariants.{Platform, Insert, Param}
use Rattle.igvm_headers.specs.declared.fault.ReadWhat.{ReadWhat}
use Rattle.platform_masks.specs.declared.platform.Platform as platform
use Rattle.platform_masks.specs.Platforms.{platform_of, platforms_from, platforms_of}
use Rattle.igvm_image.specs.declared.area_table.AreaEntry.{AreaEntry}
use Rattle.igvm_image.specs.Areas.{area_entry, areas_of, area_size}
use Rattle.igvm_image.specs.HeaderRules.{seen_of, rule_fault, is_one_bit}
use Rattle.igvm_image.specs.RulesLaws.{KeepsRules, keeps_rules}
use Rattle.component_list.specs.declared.component.Component.{Component}
use Rattle.component_list.specs.declared.list_fault.ListFault.{ListFault}
use Rattle.component_list.specs.Lists.{component_fault, fault_behind, unless_broken, end_fault}
use Rattle.component_list.specs.FirstFault.{headers_in}
use Rattle.list_changes.proofs.Bits.{IsBit, one_bit-is}

-- ---- a list, header by header behind those before it

abbrev pub Kept : List Header → List Component → Type 0
Kept before [] = Unit {0}
Kept before (c ∷ cs) = (component_fault (seen_of before) c ≡ None) × Kept (before ++ c.header ∷ []) cs

unbroken : (place : ℕ) (here : Option ReadWhat) (others : Option ListFault) → unless_broken place here others ≡ None
    → (here ≡ None) × (others ≡ None)
unbroken place None others none = (refl, none)
unbroken place (Some what) others none = cc

pub kept_behind : (before : List Header) (cs : List Component) → fault_behind before cs ≡ None
    → Kept before cs × (end_fault (before ++ headers_in cs) ≡ None)
unfolding fault_behind
kept_behind before [] none = (tt, ap end_fault (append-nil before) ∙ none)
kept_behind before (c ∷ cs) none =
    let both = unbroken (length before) (component_fault (seen_of before) c) _ none in
    let others = kept_behind (before ++ c.header ∷ []) cs both.1 in
    ((both.0, others.0), ap end_fault (sym (append_assoc before (c.header ∷ []) (headers_in cs))) ∙ others.1)

pub fault_none : (before : List Header) (cs : List Component) → Kept before cs → end_fault (before ++ headers_in cs) ≡ None
    → fault_behind before cs ≡ None
unfolding fault_behind
fault_none before [] kept end = ap end_fault (sym (append-nil before)) ∙ end
fault_none before (c ∷ cs) kept end =
    ap (λ fault. unless_broken (length before) fault (fault_behind (before ++ c.header ∷ []) cs)) kept.0
    ∙ fault_none (before ++ c.header ∷ []) cs kept.1 (ap end_fault (append_assoc before (c.header ∷ []) (headers_in cs)) ∙ end)

pub rules_of : (before : List Header) (c : Component) → component_fault (seen_of before) c ≡ None → KeepsRules 0 (seen_of before) c.header
unfolding component_fault
rules_of before c none = keeps_rules 0 (seen_of before) c.header (let last : rule_fault 0 (seen_of before) c.header ≡ None = grind arith in last)

-- ---- masks

abbrev pub own_mask : Header → List ℕ
own_mask (Platform mask highest_vtl kind version shared_gpa) = mask ∷ []
own_mask header = []

abbrev pub platform_masks : List Header → List ℕ
platform_masks headers = flat_map own_mask headers

declared_mask : (n : ℕ) (h : Header) → map (λ (p : platform.Platform). p.mask) (platform_of n h) ≡ own_mask h
declared_mask n (Platform mask highest_vtl kind version shared_gpa) = refl
declared_mask n h = refl

pub masks_from : (n : ℕ) (hs : List Header) → map (λ (p : platform.Platform). p.mask) (platforms_from n hs) ≡ platform_masks hs
unfolding platforms_from
masks_from n [] = refl
masks_from n (h ∷ hs) =
    map-append (λ (p : platform.Platform). p.mask) (platform_of n h) (platforms_from (n + length (platform_of n h)) hs)
    ∙ ap₂ (λ xs ys. xs ++ ys) (declared_mask n h) (masks_from (n + length (platform_of n h)) hs)

-- whether a number is among others
abbrev pub has : ℕ → List ℕ → Bool
has x xs = list_any (λ y. y == x) xs

abbrev pub AreDistinct : List ℕ → Type 0
AreDistinct [] = Unit {0}
AreDistinct (x ∷ xs) = (has x xs ≡ false) × AreDistinct xs

-- whether a platform of a mask is among others
abbrev pub has_mask : ℕ → List platform.Platform → Bool
has_mask x ps = list_any (λ p. p.mask == x) ps

pub has-map : (x : ℕ) (ps : List platform.Platform) → has_mask x ps ≡ has x (map (λ (p : platform.Platform). p.mask) ps)
has-map x [] = refl
has-map x (p ∷ ps) = ap (λ b. (p.mask == x) || b) (has-map x ps)

pub has-append : (x : ℕ) (xs ys : List ℕ) → has x (xs ++ ys) ≡ (has x xs || has x ys)
has-append x xs ys = list_any-append (λ y. y == x) xs ys

pub has-self : (x : ℕ) (xs : List ℕ) → has x (x ∷ xs) ≡ true
has-self x xs = ap (λ b. b || has x xs) (eq-eqb x x refl)

pub or_false : (b c : Bool) → (b || c) ≡ false → (b ≡ false) × (c ≡ false)
or_false true c h = cc
or_false false c h = (refl, h)

not_false : (b : Bool) → not b ≡ false → b ≡ true
not_false true h = refl
not_false false h = cc

pub record MasksFit (before : List Header) (cs : List Component) : Type 0 where
  pub bits : AllByRecursion IsBit (platform_masks (headers_in cs))
  pub ones : AllByRecursion (λ m. is_one_bit m ≡ true) (platform_masks (headers_in cs))
  pub distinct : AreDistinct (platform_masks (headers_in cs))
  pub fresh : (x : ℕ) → has x (platform_masks before) ≡ true → has x (platform_masks (headers_in cs)) ≡ false

mask_more : (before : List Header) (h : Header) (x : ℕ) → has x (platform_masks (before ++ h ∷ [])) ≡ (has x (platform_masks before) || has x (own_mask h))
mask_more before h x =
    ap (has x) (flat_map-append own_mask before (h ∷ []) ∙ ap (λ ys. platform_masks before ++ ys) (append-nil (own_mask h)))
    ∙ has-append x (platform_masks before) (own_mask h)

pub masks_fit : (before : List Header) (cs : List Component) → Kept before cs → MasksFit before cs
masks_fit before [] kept = record { bits = tt; ones = tt; distinct = tt; fresh = λ x here. refl }
masks_fit before (c ∷ cs) kept =
    cases c.header (masks_fit (before ++ c.header ∷ []) cs kept.1) (rules_of before c kept.0)
  where
    others : List ℕ
    others = platform_masks (headers_in cs)

    cases : (h : Header) → MasksFit (before ++ h ∷ []) cs → KeepsRules 0 (seen_of before) h
        → MasksFit before (record { header = h; tail = c.tail; content = c.content } ∷ cs)
    cases (Platform mask highest_vtl kind version shared_gpa) behind rules =
        let h = Platform mask highest_vtl kind version shared_gpa in
        let both = or_false (not (is_one_bit mask)) _ rules.mask in
        let new : has mask (platform_masks before) ≡ false = ap (has mask) (sym (masks_from 0 before)) ∙ sym (has-map mask (platforms_of before)) ∙ both.1 in
        let here : has mask (platform_masks (before ++ h ∷ [])) ≡ true = mask_more before h mask ∙ ap (λ b. has mask (platform_masks before) || b) (has-self mask []) ∙ or_true (has mask (platform_masks before)) in
        record {
          bits = (one_bit-is mask (not_false (is_one_bit mask) both.0), behind.bits);
          ones = (not_false (is_one_bit mask) both.0, behind.ones);
          distinct = (behind.fresh mask here, behind.distinct);
          fresh = λ x found. ap₂ (λ b d. b || d) (differs x mask found new)
              (behind.fresh x (mask_more before h x ∙ ap (λ b. b || has x (mask ∷ [])) found));
        }
      where
        or_true : (b : Bool) → (b || true) ≡ true
        or_true true = refl
        or_true false = refl

        differs : (x m : ℕ) → has x (platform_masks before) ≡ true → has m (platform_masks before) ≡ false → (m == x) ≡ false
        differs x m found new = test (m == x) refl
          where
            test : (b : Bool) → (m == x) ≡ b → b ≡ false
            test false is = refl
            test true is =
                let same : has x (platform_masks before) ≡ has m (platform_masks before) = ap (λ y. has y (platform_masks before)) (sym (eqb-true m x is)) in
                let both : true ≡ false = sym found ∙ same ∙ new in
                cc
    cases h behind rules = record {
      bits = behind.bits;
      ones = behind.ones;
      distinct = behind.distinct;
      fresh = λ x found. behind.fresh x (mask_more before h x ∙ ap (λ b. b || has x (own_mask h)) found);
    }

-- ---- areas

-- an area that a header names is declared
abbrev pub NamesOf : List AreaEntry → Header → Type 0
NamesOf areas (Insert gpa mask area) = is_none (area_size areas area) ≡ false
NamesOf areas (Param kind area byte_offset) = is_none (area_size areas area) ≡ false
NamesOf areas header = Unit {0}

size_left : (xs ys : List AreaEntry) (area : ℕ) → is_none (area_size xs area) ≡ false → is_none (area_size (xs ++ ys) area) ≡ false
size_left xs ys area some =
    ap (λ (found : Option AreaEntry). is_none (option_map (λ (e : AreaEntry). e.bytes) found)) (find-append (λ (e : AreaEntry). e.area == area) xs ys)
    ∙ cases (find (λ (e : AreaEntry). e.area == area) xs) some
  where
    cases : (found : Option AreaEntry) → is_none (option_map (λ (e : AreaEntry). e.bytes) found) ≡ false
        → is_none (option_map (λ (e : AreaEntry). e.bytes) (option_or found (find (λ (e : AreaEntry). e.area == area) ys))) ≡ false
    cases None some = cc
    cases (Some e) some = refl

names_left : (xs ys : List AreaEntry) (h : Header) → NamesOf xs h → NamesOf (xs ++ ys) h
names_left xs ys (Insert gpa mask area) named = size_left xs ys area named
names_left xs ys (Param kind area byte_offset) named = size_left xs ys area named
names_left xs ys h named = tt

names_here : (before : List Header) (h : Header) → KeepsRules 0 (seen_of before) h → NamesOf (areas_of before) h
names_here before (Insert gpa mask area) rules = rules.unknown
names_here before (Param kind area byte_offset) rules = rules.unknown
names_here before h rules = tt

pub named : (before : List Header) (cs : List Component) → Kept before cs
    → AllByRecursion (λ c. NamesOf (areas_of (before ++ headers_in cs)) c.header) cs
named before [] kept = tt
named before (c ∷ cs) kept = (
  subst (λ areas. NamesOf areas c.header) (sym (filter_map-append area_entry before (headers_in (c ∷ cs))))
      (names_left (areas_of before) (areas_of (headers_in (c ∷ cs))) c.header (names_here before c.header (rules_of before c kept.0))),
  subst (λ hs. AllByRecursion (λ (d : Component). NamesOf (areas_of hs) d.header) cs) (append_assoc before (c.header ∷ []) (headers_in cs))
      (named (before ++ c.header ∷ []) cs kept.1),
)
