-- A sealed list breaks no rule, its numbers are those of its types, and it has the same platforms.
use Rattle.std.proofs.Common.{◌≡◌, ℕ, ◌+◌, ◌<◌, List, [], ◌∷◌, ◌++◌, length, map, refl, sym, ◌∙◌, ap, subst, arith, Bool, true, false, None}
use Rattle.std.specs.Prelude.{if◌then◌else◌}
use Rattle.std.specs.List.{AllByRecursion}
use Rattle.std.proofs.lemmas.List.{length-map}
use Rattle.igvm_headers.specs.HeaderFacts.{data_offset}
use Rattle.igvm_headers.specs.SpellingConditions.{AreBytes, ListsAreBytes, NumbersFit}
use Rattle.igvm_headers.specs.declared.header.Header.{Header}
use Rattle.igvm_headers.specs.declared.header.Header.TheVariants.{IdBlock}
use Rattle.platform_masks.specs.Masks.{applies}
use Rattle.platform_masks.specs.Platforms.{platform_of, platforms_from}
use Rattle.igvm_image.specs.HeaderRules.{Seen, rule_fault, seen_after, seen_of}
use Rattle.component_list.specs.declared.component.Component.{Component}
use Rattle.component_list.specs.FirstFault.{headers_in}
use Rattle.component_list.specs.Lists.{IsValid, component_fault, list_fault}
use Rattle.component_list.specs.Ranges.{IsComponent}
use Rattle.list_changes.specs.Changes.{with_digest, with_header}
use Rattle.list_changes.specs.ListPlatforms.{platforms_in}
use Rattle.list_changes.proofs.Walks.{Follows, seen_all, walks, walked}
use Rattle.image_ops.specs.Sealed.{sealed_part, sealed_parts}

-- ---- one header

-- a function of headers that doesn't look at the digest that is wanted
either_header : {X : Type 0} (f : Header → X) (b : Bool) (digest : List ℕ) (h : Header) → f (with_digest digest h) ≡ f h
    → f (if b then with_digest digest h else h) ≡ f h
either_header f true digest h same = same
either_header f false digest h same = refl

fault_same : (seen : Seen) (digest : List ℕ) (c : Component) (h : Header)
    → component_fault seen (with_header (with_digest digest h) c) ≡ component_fault seen (with_header h c)
unfolding component_fault rule_fault
fault_same seen digest c (IdBlock mask author_enabled ld family_id image_id version guest_svn id_algorithm author_algorithm) = refl
fault_same seen digest c h = refl

seen_same : (seen : Seen) (digest : List ℕ) (h : Header) → seen_after seen (with_digest digest h) ≡ seen_after seen h
seen_same seen digest (IdBlock mask author_enabled ld family_id image_id version guest_svn id_algorithm author_algorithm) = refl
seen_same seen digest h = refl

platform_same : (n : ℕ) (digest : List ℕ) (h : Header) → platform_of n (with_digest digest h) ≡ platform_of n h
platform_same n digest (IdBlock mask author_enabled ld family_id image_id version guest_svn id_algorithm author_algorithm) = refl
platform_same n digest h = refl

offset_same : (digest : List ℕ) (h : Header) → data_offset (with_digest digest h) ≡ data_offset h
offset_same digest (IdBlock mask author_enabled ld family_id image_id version guest_svn id_algorithm author_algorithm) = refl
offset_same digest h = refl

numbers_fit : (digest : List ℕ) → length digest ≡ 48 → (h : Header) → NumbersFit h → NumbersFit (with_digest digest h)
numbers_fit digest size (IdBlock mask author_enabled ld family_id image_id version guest_svn id_algorithm author_algorithm) fit =
    (fit.0, fit.1, size, fit.3, fit.4, fit.5, fit.6, fit.7, fit.8)
numbers_fit digest size h fit = fit

are_bytes : (digest : List ℕ) → AreBytes digest → (h : Header) → ListsAreBytes h → ListsAreBytes (with_digest digest h)
are_bytes digest bytes (IdBlock mask author_enabled ld family_id image_id version guest_svn id_algorithm author_algorithm) are =
    (bytes, are.1, are.2)
are_bytes digest bytes h are = are

-- ---- rules

sealed_follows : (mask : ℕ) (digest : List ℕ) (seen : Seen) (cs : List Component) → Follows seen cs → Follows seen (sealed_parts mask digest cs)
unfolding sealed_parts
sealed_follows mask digest seen [] follow = tt
sealed_follows mask digest seen (c ∷ cs) follow = (
  either_header (λ h. component_fault seen (with_header h c)) (applies c.header mask) digest c.header (fault_same seen digest c c.header) ∙ follow.0,
  subst (λ s. Follows s (map (sealed_part mask digest) cs)) (sym (either_header (seen_after seen) (applies c.header mask) digest c.header (seen_same seen digest c.header)))
      (sealed_follows mask digest (seen_after seen c.header) cs follow.1),
)

sealed_seen : (mask : ℕ) (digest : List ℕ) (seen : Seen) (cs : List Component) → seen_all seen (sealed_parts mask digest cs) ≡ seen_all seen cs
unfolding sealed_parts
sealed_seen mask digest seen [] = refl
sealed_seen mask digest seen (c ∷ cs) =
    ap (λ s. seen_all s (map (sealed_part mask digest) cs)) (either_header (seen_after seen) (applies c.header mask) digest c.header (seen_same seen digest c.header))
    ∙ sealed_seen mask digest (seen_after seen c.header) cs

sealed_kept : (mask : ℕ) (digest : List ℕ) (parts : List Component) → list_fault parts ≡ None → list_fault (sealed_parts mask digest parts) ≡ None
sealed_kept mask digest parts none =
    let w = walks parts none in
    walked (sealed_parts mask digest parts) (record {
      each = sealed_follows mask digest (seen_of []) parts w.each;
      some = subst (λ (s : Seen). 0 < length s.platforms) (sym (sealed_seen mask digest (seen_of []) parts)) w.some;
    })

-- ---- numbers

either_is : (P : Header → Type 0) (b : Bool) (digest : List ℕ) (h : Header) → P h → P (with_digest digest h) → P (if b then with_digest digest h else h)
either_is P true digest h old new = new
either_is P false digest h old new = old

sealed_is : (mask : ℕ) (digest : List ℕ) → length digest ≡ 48 → AreBytes digest → (c : Component) → IsComponent c → IsComponent (sealed_part mask digest c)
sealed_is mask digest size bytes c is = record {
  numbers = either_is NumbersFit (applies c.header mask) digest c.header is.numbers (numbers_fit digest size c.header is.numbers);
  lists = either_is ListsAreBytes (applies c.header mask) digest c.header is.lists (are_bytes digest bytes c.header is.lists);
  tail = is.tail;
  content = is.content;
  offset = either_header data_offset (applies c.header mask) digest c.header (offset_same digest c.header) ∙ is.offset;
}

each_sealed : (mask : ℕ) (digest : List ℕ) → length digest ≡ 48 → AreBytes digest → (cs : List Component) → AllByRecursion IsComponent cs
    → AllByRecursion IsComponent (sealed_parts mask digest cs)
unfolding sealed_parts
each_sealed mask digest size bytes [] all = tt
each_sealed mask digest size bytes (c ∷ cs) all = (sealed_is mask digest size bytes c all.0, each_sealed mask digest size bytes cs all.1)

sealed_length : (mask : ℕ) (digest : List ℕ) (parts : List Component) → length (sealed_parts mask digest parts) ≡ length parts
unfolding sealed_parts
sealed_length mask digest parts = length-map parts (sealed_part mask digest)

pub sealed_valid : (mask : ℕ) (digest : List ℕ) (parts : List Component) → length digest ≡ 48 → AreBytes digest → IsValid parts
    → IsValid (sealed_parts mask digest parts)
sealed_valid mask digest parts size bytes valid = record {
  kept = sealed_kept mask digest parts valid.kept;
  fits = record {
    few = (let same = sealed_length mask digest parts in let all = valid.fits.few in omega (arith, same, all));
    each = each_sealed mask digest size bytes parts valid.fits.each;
  };
}

-- ---- platforms

platforms_same : (mask : ℕ) (digest : List ℕ) (n : ℕ) (cs : List Component)
    → platforms_from n (headers_in (sealed_parts mask digest cs)) ≡ platforms_from n (headers_in cs)
unfolding sealed_parts platforms_from
platforms_same mask digest n [] = refl
platforms_same mask digest n (c ∷ cs) =
    ap (λ own. own ++ platforms_from (n + length own) (headers_in (map (sealed_part mask digest) cs)))
    (either_header (platform_of n) (applies c.header mask) digest c.header (platform_same n digest c.header))
    ∙ ap (λ others. platform_of n c.header ++ others) (platforms_same mask digest (n + length (platform_of n c.header)) cs)

pub sealed_platforms : (mask : ℕ) (digest : List ℕ) (parts : List Component) → platforms_in (sealed_parts mask digest parts) ≡ platforms_in parts
sealed_platforms mask digest parts = platforms_same mask digest 0 parts

-- the components of a list, each sealed
pub sealed_are : (mask : ℕ) (digest : List ℕ) (parts all end : List Component) → all ≡ parts → end ≡ map (sealed_part mask digest) all
    → end ≡ sealed_parts mask digest parts
unfolding sealed_parts
sealed_are mask digest parts all end whole given = given ∙ ap (map (sealed_part mask digest)) whole
