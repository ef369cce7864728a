-- The tables of fixed size have room for what a header declares that breaks no rule.
use Rattle.std.proofs.Common.{◌≡◌, ℕ, ◌+◌, ◌<◌, ◌≤◌, List, [], ◌∷◌, ◌++◌, length, refl, sym, ◌∙◌, ap, ap₂, arith, Bool, true, false, ◌||◌, not, eqb, length-append, append-nil, subst}
use Rattle.std.specs.Prelude.{◌==◌, T, IfSome}
use Rattle.std.proofs.Math.Facts.{eqb_yes}
use Rattle.std.proofs.lemmas.Bool.{ltb-false, leb-false}
use Rattle.std.proofs.lemmas.List.{length-map, map-append}
use Rattle.std.specs.List.{list_any, AllByRecursion, IsDistinct}
use Rattle.std.specs.Cmp.{nat_eq_equiv}
use Rattle.std.proofs.lemmas.Map.Made.{length-le_from_is_member}
use Rattle.std.proofs.lemmas.Map.Keys.{IsDistinct-push}
use Rattle.platform_masks.specs.declared.platform.Platform as platform
use Rattle.platform_masks.specs.Platforms.{platform_of}
use Rattle.igvm_headers.specs.declared.platform_kind.PlatformKind.{PlatformKind}
use Rattle.igvm_headers.specs.declared.header.Header.{Header}
use Rattle.igvm_headers.specs.declared.header.Header.TheVariants.{Platform, Area}
use Rattle.igvm_image.specs.Areas.{area_entry, placed_pages}
use Rattle.igvm_image.specs.HeaderRules.{Seen, seen_after, MayFollow, is_one_bit, one_bit_masks, breaks_mask, breaks_area_limit, breaks_pages}
use Rattle.igvm_image.specs.RulesLaws.{keeps_rules}
use Rattle.igvm_image.specs.TablesHaveRoom.{HasRoom, masks_of}

eqb_eq : (a b : ℕ) → eqb a b ≡ true → a ≡ b
eqb_eq a b h = eqb_yes (subst T (sym h) tt)

eqb_flip : (a b : ℕ) → eqb a b ≡ eqb b a
eqb_flip a b = nat_eq_equiv.symm a b

any_flip : (mask : ℕ) (bits : List ℕ) → list_any (λ bit. bit == mask) bits ≡ list_any (eqb mask) bits
any_flip mask [] = refl
any_flip mask (b ∷ bs) = ap₂ ◌||◌ (eqb_flip b mask) (any_flip mask bs)

-- the tests of a mask are membership in lists
is_one_bit-member : (mask : ℕ) → is_one_bit mask ≡ list_any (eqb mask) one_bit_masks
unfolding is_one_bit
is_one_bit-member mask = any_flip mask one_bit_masks

any_mask : (mask : ℕ) (ps : List platform.Platform) → list_any (λ p. p.mask == mask) ps ≡ list_any (eqb mask) (masks_of ps)
any_mask mask [] = refl
any_mask mask (p ∷ ps) = ap₂ ◌||◌ (eqb_flip p.mask mask) (any_mask mask ps)

-- a member of a list of which each passes a test passes it
passes_or : (p : ℕ → Bool) (q x : ℕ) (more : Bool) (b : Bool) → eqb q x ≡ b → p x ≡ true → (more ≡ true → p q ≡ true) → b || more ≡ true → p q ≡ true
passes_or p q x more true same passes behind e = ap p (eqb_eq q x same) ∙ passes
passes_or p q x more false same passes behind e = behind e

member_passes : (p : ℕ → Bool) (q : ℕ) (xs : List ℕ) → AllByRecursion (λ x. p x ≡ true) xs → list_any (eqb q) xs ≡ true → p q ≡ true
member_passes p q [] each h = cc
member_passes p q (x ∷ xs) each h =
    passes_or p q x (list_any (eqb q) xs) (eqb q x) refl each.0 (member_passes p q xs each.1) h

-- distinct masks of one bit are at most 32
few : (masks : List ℕ) → IsDistinct eqb masks → AllByRecursion (λ mask. is_one_bit mask ≡ true) masks → length masks ≤ 32
few masks apart bits =
    length-le_from_is_member nat_eq_equiv masks one_bit_masks apart
    (λ q member. sym (is_one_bit-member q) ∙ member_passes is_one_bit q masks bits member)

-- What the rule on a platform's mask says where it is kept.
record FreshMask (seen : Seen) (mask : ℕ) : Type 0 where
  pub bit : is_one_bit mask ≡ true
  pub other : list_any (eqb mask) (masks_of seen.platforms) ≡ false

both_false : (a b : Bool) → not a || b ≡ false → (a ≡ true) × (b ≡ false)
both_false true b h = (refl, h)
both_false false b h = (sym h, cc)

fresh : (seen : Seen) (mask highest_vtl : ℕ) (kind : PlatformKind) (version shared_gpa : ℕ)
    → breaks_mask seen (Platform mask highest_vtl kind version shared_gpa) ≡ false → FreshMask seen mask
fresh seen mask highest_vtl kind version shared_gpa h =
    let both = both_false (is_one_bit mask) (list_any (λ p. p.mask == mask) seen.platforms) h in
    record { bit = both.0; other = sym (any_mask mask seen.platforms) ∙ both.1 }

bits_more : (masks : List ℕ) (mask : ℕ) → AllByRecursion (λ m. is_one_bit m ≡ true) masks → is_one_bit mask ≡ true
    → AllByRecursion (λ m. is_one_bit m ≡ true) (masks ++ mask ∷ [])
bits_more [] mask bits bit = (bit, tt)
bits_more (m ∷ masks) mask bits bit = (bits.0, bits_more masks mask bits.1 bit)

-- one platform more with a fresh mask
room_more : (seen : Seen) (p : platform.Platform) (pages : ℕ) → HasRoom seen.platforms seen.pages → FreshMask seen p.mask → pages ≤ 4194304
    → HasRoom (seen.platforms ++ p ∷ []) pages
room_more seen p pages room new few =
    let masks : masks_of seen.platforms ++ p.mask ∷ [] ≡ masks_of (seen.platforms ++ p ∷ []) =
    sym (map-append (λ (q : platform.Platform). q.mask) seen.platforms (p ∷ [])) in
    record {
      apart = subst (IsDistinct eqb) masks (IsDistinct-push nat_eq_equiv (masks_of seen.platforms) p.mask room.apart new.other);
      bits = subst (AllByRecursion (λ mask. is_one_bit mask ≡ true)) masks (bits_more (masks_of seen.platforms) p.mask room.bits new.bit);
      pages = few;
    }

at_most : (platforms : List platform.Platform) (pages : ℕ) → HasRoom platforms pages → length platforms ≤ 32
at_most platforms pages room =
    let most = few (masks_of platforms) room.apart room.bits in
    let same = length-map platforms (λ (p : platform.Platform). p.mask) in
    omega arith

few_pages : (seen : Seen) (h : Header) → breaks_pages seen h ≡ false → seen.pages + placed_pages seen.areas h ≤ 4194304
few_pages seen h kept = ltb-false 4194304 (seen.pages + placed_pages seen.areas h) kept

kept_room : (seen : Seen) (h : Header) → HasRoom seen.platforms seen.pages → breaks_mask seen h ≡ false → breaks_pages seen h ≡ false
    → HasRoom (seen_after seen h).platforms (seen_after seen h).pages
kept_room seen (Platform mask highest_vtl kind version shared_gpa) room kept small =
    room_more seen _ _ room (fresh seen mask highest_vtl kind version shared_gpa kept) (few_pages seen (Platform mask highest_vtl kind version shared_gpa) small)
kept_room seen h room kept small =
    subst (λ ps. HasRoom ps (seen.pages + placed_pages seen.areas h)) (sym (append-nil seen.platforms))
    (record { apart = room.apart; bits = room.bits; pages = few_pages seen h small })

-- before the first header
pub has_room-none : HasRoom [] 0
unfolding IsDistinct
has_room-none = record { apart = tt; bits = tt; pages = omega arith }

-- a header that breaks no rule leaves room
pub has_room-push : (seen : Seen) (h : Header) → HasRoom seen.platforms seen.pages → MayFollow seen h
    → HasRoom (seen_after seen h).platforms (seen_after seen h).pages
has_room-push seen h room follows =
    let kept = keeps_rules follows.0 seen h follows.1 in
    kept_room seen h room kept.mask kept.pages

-- the platform or the area that it declares has its place
pub has_room-platform : (seen : Seen) (h : Header) → HasRoom seen.platforms seen.pages → MayFollow seen h
    → length seen.platforms + length (platform_of (length seen.platforms) h) ≤ 32
has_room-platform seen h room follows =
    let most = at_most (seen_after seen h).platforms (seen_after seen h).pages (has_room-push seen h room follows) in
    let sum = length-append seen.platforms (platform_of (length seen.platforms) h) in
    omega arith

few_areas : (seen : Seen) (h : Header) → breaks_area_limit seen h ≡ false → IfSome (area_entry h) (λ _. length seen.areas < 256)
few_areas seen (Area bytes area offset) kept = leb-false 256 (length seen.areas) kept
few_areas seen h kept = tt

pub has_room-area : (seen : Seen) (h : Header) → MayFollow seen h → IfSome (area_entry h) (λ _. length seen.areas < 256)
has_room-area seen h follows = few_areas seen h (keeps_rules follows.0 seen h follows.1).limit
