-- The platforms of a list that is stripped to one of them: that one alone, numbered 0.
use Rattle.std.proofs.Common.{◌≡◌, ℕ, zero, suc, ◌+◌, List, [], ◌∷◌, ◌++◌, length, map, refl, sym, ◌∙◌, ap, ap₂, subst, add-zero, Some, None, Bool, true, false}
use Rattle.std.specs.Prelude.{if◌then◌else◌, ◌==◌, not, filter}
use Rattle.std.specs.List.{AllByRecursion, slice_get}
use Rattle.std.proofs.lemmas.Bool.{eq-eqb, eqb-true}
use Rattle.igvm_headers.specs.declared.header.Header.{Header}
use Rattle.igvm_headers.specs.declared.header.Header.TheVariants.{Platform}
use Rattle.platform_masks.specs.declared.platform.Platform as platform
use Rattle.platform_masks.specs.Platforms.{platform_of, platforms_from}
use Rattle.component_list.specs.declared.component.Component.{Component}
use Rattle.component_list.specs.FirstFault.{headers_in}
use Rattle.component_list.specs.Lists.{list_fault}
use Rattle.list_changes.specs.Changes.{with_mask}
use Rattle.list_changes.specs.ListPlatforms.{platforms_in, renumbered}
use Rattle.list_changes.proofs.Bits.{IsBit, apart, apart_self, apart_other}
use Rattle.list_changes.proofs.Kept.{AreDistinct, has, masks_from, or_false, own_mask, platform_masks}
use Rattle.list_changes.proofs.Numbered.{has_at, mask_at, platform_bit, sound}
use Rattle.image_ops.specs.Stripped.{masked, stays, stripped_parts}

-- the platforms of one mask
abbrev of_mask : ℕ → List platform.Platform → List platform.Platform
of_mask m ps = filter (λ p. p.mask == m) ps

-- platforms under a mask, numbered from a number on
abbrev numbered_from : ℕ → ℕ → List platform.Platform → List platform.Platform
numbered_from k m [] = []
numbered_from k m (p ∷ ps) = renumbered k m p ∷ numbered_from (k + 1) m ps

-- ---- what stays

-- what a platform's header gives
own_platforms : (m : ℕ) → IsBit m → (k : ℕ) (p : platform.Platform) (c : Component) (others : List Component) (ps : List platform.Platform)
    → IsBit p.mask → c.header ≡ Platform p.mask p.highest_vtl p.kind p.version p.shared_gpa
    → ((k : ℕ) → platforms_from k (headers_in (map (masked m) others)) ≡ numbered_from k m (of_mask m ps))
    → platforms_from k (headers_in (map (masked m) (if not (apart p.mask m) then c ∷ others else others))) ≡ numbered_from k m (of_mask m (p ∷ ps))
unfolding platforms_from
own_platforms m is k p c others ps also header behind = cases (p.mask == m) refl
  where
    stay : (b : Bool) → b ≡ false → platforms_from k (headers_in (map (masked m) (if not b then c ∷ others else others))) ≡ renumbered k m p ∷ numbered_from (k + 1) m (of_mask m ps)
    stay true apart' = cc
    stay false apart' =
        ap (λ h. platforms_from k (with_mask m h ∷ headers_in (map (masked m) others))) header
        ∙ ap (λ qs. renumbered k m p ∷ qs) (behind (k + 1))

    go : (b : Bool) → b ≡ true → platforms_from k (headers_in (map (masked m) (if not b then c ∷ others else others))) ≡ numbered_from k m (of_mask m ps)
    go true apart' = behind k
    go false apart' = cc

    cases : (b : Bool) → (p.mask == m) ≡ b
        → platforms_from k (headers_in (map (masked m) (if not (apart p.mask m) then c ∷ others else others)))
        ≡ numbered_from k m (if b then p ∷ of_mask m ps else of_mask m ps)
    cases true same = stay (apart p.mask m) (ap (λ x. apart x m) (eqb-true p.mask m same) ∙ apart_self m is)
    cases false other = go (apart p.mask m) (apart_other p.mask m also is other)

-- what another header gives
other_platforms : (m k : ℕ) (b : Bool) (c : Component) (others : List Component) (ps : List platform.Platform)
    → platform_of k (with_mask m c.header) ≡ []
    → ((k : ℕ) → platforms_from k (headers_in (map (masked m) others)) ≡ numbered_from k m (of_mask m ps))
    → platforms_from k (headers_in (map (masked m) (if b then c ∷ others else others))) ≡ numbered_from k m (of_mask m ps)
unfolding platforms_from
other_platforms m k true c others ps none behind =
    ap (λ own. own ++ platforms_from (k + length own) (headers_in (map (masked m) others))) none
    ∙ behind (k + 0)
    ∙ ap (λ n. numbered_from n m (of_mask m ps)) (add-zero k)
other_platforms m k false c others ps none behind = behind k

stripped_platforms : (m : ℕ) → IsBit m → (cs : List Component) → AllByRecursion IsBit (platform_masks (headers_in cs)) → (k n : ℕ)
    → platforms_from k (headers_in (stripped_parts m cs)) ≡ numbered_from k m (of_mask m (platforms_from n (headers_in cs)))
unfolding stripped_parts platforms_from
stripped_platforms m is [] bits k n = refl
stripped_platforms m is (c ∷ cs) bits k n = cases c.header bits (stripped_platforms m is cs)
  where
    others : List Component
    others = filter (λ (d : Component). stays m d.header) cs

    cases : (h : Header) → AllByRecursion IsBit (own_mask h ++ platform_masks (headers_in cs))
        → (AllByRecursion IsBit (platform_masks (headers_in cs)) → (k n : ℕ)
        → platforms_from k (headers_in (map (masked m) others)) ≡ numbered_from k m (of_mask m (platforms_from n (headers_in cs))))
        → platforms_from k (headers_in (map (masked m) (if stays m h then record { header = h; tail = c.tail; content = c.content } ∷ others else others)))
        ≡ numbered_from k m (of_mask m (platform_of n h ++ platforms_from (n + length (platform_of n h)) (headers_in cs)))
    cases (Platform mask highest_vtl kind version shared_gpa) bits behind =
        own_platforms m is k
        (record { number = n; mask = mask; kind = kind; highest_vtl = highest_vtl; version = version; shared_gpa = shared_gpa })
        (record { header = Platform mask highest_vtl kind version shared_gpa; tail = c.tail; content = c.content }) others
        (platforms_from (n + 1) (headers_in cs)) bits.0 refl (λ k. behind bits.1 k (n + 1))
    cases h bits behind =
        other_platforms m k (stays m h) (record { header = h; tail = c.tail; content = c.content }) others
        (platforms_from (n + 0) (headers_in cs)) refl (λ k. behind bits k (n + 0))

-- ---- the one of a mask

none_of : (m : ℕ) (ps : List platform.Platform) → has m (map (λ (p : platform.Platform). p.mask) ps) ≡ false → of_mask m ps ≡ []
none_of m [] none = refl
none_of m (p ∷ ps) none =
    let both = or_false (p.mask == m) (has m (map (λ (q : platform.Platform). q.mask) ps)) none in
    ap (λ b. if b then p ∷ of_mask m ps else of_mask m ps) both.0 ∙ none_of m ps both.1

differs : (x y : ℕ) (ms : List ℕ) → has x ms ≡ false → has y ms ≡ true → (x == y) ≡ false
differs x y ms none some = cases (x == y) refl
  where
    cases : (b : Bool) → (x == y) ≡ b → b ≡ false
    cases false is = refl
    cases true is =
        let both : false ≡ true = sym none ∙ ap (λ z. has z ms) (eqb-true x y is) ∙ some in
        cc

one_of : (ps : List platform.Platform) (n : ℕ) (p : platform.Platform) → AreDistinct (map (λ (q : platform.Platform). q.mask) ps) → slice_get ps n ≡ Some p
    → slice_get (map (λ (q : platform.Platform). q.mask) ps) n ≡ Some p.mask → of_mask p.mask ps ≡ p ∷ []
one_of [] n p distinct here mask = cc
one_of (q ∷ qs) zero p distinct here mask =
    let same : q ≡ p = cc in
    ap (λ b. if b then q ∷ of_mask p.mask qs else of_mask p.mask qs) (eq-eqb q.mask p.mask (ap (λ (x : platform.Platform). x.mask) same))
    ∙ ap₂ (λ x xs. x ∷ xs) same
    (none_of p.mask qs (ap (λ (x : platform.Platform). has x.mask (map (λ (y : platform.Platform). y.mask) qs)) (sym same) ∙ distinct.0))
one_of (q ∷ qs) (suc n) p distinct here mask =
    ap (λ b. if b then q ∷ of_mask p.mask qs else of_mask p.mask qs)
    (differs q.mask p.mask (map (λ (x : platform.Platform). x.mask) qs) distinct.0 (has_at (map (λ (x : platform.Platform). x.mask) qs) n p.mask mask))
    ∙ one_of qs n p distinct.1 here mask

-- ---- all

pub stripped_alone : (parts : List Component) (n : ℕ) (p : platform.Platform) → list_fault parts ≡ None → slice_get (platforms_in parts) n ≡ Some p
    → platforms_in (stripped_parts p.mask parts) ≡ renumbered 0 p.mask p ∷ []
stripped_alone parts n p none here =
    let fine = sound parts none in
    stripped_platforms p.mask (platform_bit parts n p none here) parts (subst (AllByRecursion IsBit) (masks_from 0 (headers_in parts)) fine.bits) 0 0
    ∙ ap (numbered_from 0 p.mask) (one_of (platforms_in parts) n p fine.distinct here (mask_at parts n p here))
