-- A joined list breaks no rule.
use Rattle.std.proofs.Common.{◌≡◌, ℕ, ◌+◌, ◌<◌, ◌≤◌, List, [], ◌∷◌, ◌++◌, length, map, refl, sym, ◌∙◌, ap, subst, append_assoc, append-nil, length-append, arith, None, Bool, true, false}
use Rattle.std.specs.Prelude.{◌==◌, ◌||◌}
use Rattle.std.specs.List.{AllByRecursion}
use Rattle.std.proofs.lemmas.Bool.{eq-eqb}
use Rattle.std.proofs.lemmas.List.{length-map}
use Rattle.igvm_headers.specs.declared.header.Header.{Header}
use Rattle.igvm_headers.specs.declared.header.Header.TheVariants.{Platform}
use Rattle.platform_masks.specs.Platforms.{platforms_of, platforms_from}
use Rattle.igvm_image.specs.HeaderRules.{Seen, seen_of}
use Rattle.component_list.specs.declared.component.Component.{Component}
use Rattle.component_list.specs.Lists.{list_fault}
use Rattle.component_list.specs.FirstFault.{headers_in}
use Rattle.list_changes.specs.Changes.{changed_part, same}
use Rattle.list_changes.specs.ListPlatforms.{masks_in}
use Rattle.list_changes.proofs.Kept.{has, own_mask, platform_masks, masks_from}
use Rattle.list_changes.proofs.Walks.{Follows, seen_all, seen_end, walks, walked}
use Rattle.list_changes.proofs.Numbered.{sound}
use Rattle.joined_list.specs.NewNumbers.{mask_by, area_by, areas_in, first_masks, second_masks, second_areas}
use Rattle.joined_list.specs.Parts.{first_part, second_part, third_part}
use Rattle.joined_list.specs.Joined.{joined_parts, FitTogether}
use Rattle.joined_list.proofs.ThreeParts.{parts_are_whole, in_parts}
use Rattle.joined_list.proofs.Classes.{has_classes, follows_right, follows_both, seen_both}
use Rattle.joined_list.proofs.Declared.{DeclaredIn, each_declared}
use Rattle.joined_list.proofs.NumbersApart.{first_renames, second_renames, first_apart, second_apart}
use Rattle.joined_list.proofs.JoinedPlatforms.{joined_platforms, with_new, numbered}
use Rattle.joined_list.proofs.JoinSteps.{Both, told}
use Rattle.joined_list.proofs.JoinWalk.{IsOf, Renames, Apart, Within, MaskIn, Joining, Room, join_part, pages_grow, areas_grow}

-- ---- each platform's mask is among the list's

or_right : (b c : Bool) → c ≡ true → (b || c) ≡ true
or_right true c h = refl
or_right false c h = h

masked_from : (olds : List ℕ) (cs : List Component) → ((x : ℕ) → has x (platform_masks (headers_in cs)) ≡ true → has x olds ≡ true)
    → AllByRecursion (λ c. MaskIn olds c.header) cs
masked_from olds [] within = tt
masked_from olds (c ∷ cs) within = (here c.header within, masked_from olds cs (λ x is. within x (behind c.header x is)))
  where
    here : (h : Header) → ((x : ℕ) → has x (own_mask h ++ platform_masks (headers_in cs)) ≡ true → has x olds ≡ true) → MaskIn olds h
    here (Platform mask highest_vtl kind version shared_gpa) within = within mask (ap (λ b. b || has mask (platform_masks (headers_in cs))) (eq-eqb mask mask refl))
    here h within = tt

    behind : (h : Header) (x : ℕ) → has x (platform_masks (headers_in cs)) ≡ true → has x (own_mask h ++ platform_masks (headers_in cs)) ≡ true
    behind (Platform mask highest_vtl kind version shared_gpa) x is = or_right (mask == x) (has x (platform_masks (headers_in cs))) is
    behind h x is = is

each_masked : (parts : List Component) → AllByRecursion (λ c. MaskIn (masks_in parts) c.header) parts
each_masked parts = masked_from (masks_in parts) parts (λ x is. ap (has x) (masks_from 0 (headers_in parts)) ∙ is)

-- ---- the whole

-- one list in its parts
record Three (olds indices : List ℕ) (p q r : List Component) (whole : Seen) : Type 0 where
  pub follow : Follows (seen_of []) (p ++ (q ++ r))
  pub class1 : AllByRecursion (λ c. IsOf 1 c.header) p
  pub class2 : AllByRecursion (λ c. IsOf 2 c.header) q
  pub class3 : AllByRecursion (λ c. IsOf 3 c.header) r
  pub masks1 : AllByRecursion (λ c. MaskIn olds c.header) p
  pub masks2 : AllByRecursion (λ c. MaskIn olds c.header) q
  pub masks3 : AllByRecursion (λ c. MaskIn olds c.header) r
  pub areas1 : AllByRecursion (λ c. DeclaredIn indices c.header) p
  pub areas2 : AllByRecursion (λ c. DeclaredIn indices c.header) q
  pub areas3 : AllByRecursion (λ c. DeclaredIn indices c.header) r
  pub last : seen_all (seen_of []) (p ++ (q ++ r)) ≡ whole

in_three : (parts : List Component) → list_fault parts ≡ None → Three (masks_in parts) (areas_in parts) (first_part parts) (second_part parts) (third_part parts) (seen_of (headers_in parts))
in_three parts none =
    let w = walks parts none in
    let whole : first_part parts ++ (second_part parts ++ third_part parts) ≡ parts =
    sym (append_assoc (first_part parts) (second_part parts) (third_part parts)) ∙ parts_are_whole parts in
    let class = has_classes (seen_of []) parts w.each in
    let masks = in_parts (λ c. MaskIn (masks_in parts) c.header) parts (each_masked parts) in
    let areas = in_parts (λ c. DeclaredIn (areas_in parts) c.header) parts (each_declared parts) in
    record {
      follow = subst (Follows (seen_of [])) (sym whole) w.each;
      class1 = class.first;
      class2 = class.second;
      class3 = class.third;
      masks1 = masks.first;
      masks2 = masks.second;
      masks3 = masks.third;
      areas1 = areas.first;
      areas2 = areas.second;
      areas3 = areas.third;
      last = ap (seen_all (seen_of [])) whole ∙ sym (seen_end [] parts);
    }

none_seen : (olds indices : List ℕ) → Within olds indices (seen_of [])
unfolding platforms_from
none_seen olds indices = record { masks = tt; areas = tt }

none_both : (mask_to area_to other_mask other_area : ℕ → ℕ) → Both mask_to area_to (seen_of []) (told other_mask other_area (seen_of [])) (seen_of [])
unfolding platforms_from
none_both mask_to area_to other_mask other_area = record {
  masks = λ x. refl;
  areas = λ x. refl;
  sizes = λ x bytes found. cc;
  count = refl;
  pages = refl;
}

-- the same, seen from the other list, and for the next class
turned : {olds indices : List ℕ} {mask_to area_to : ℕ → ℕ} {other_olds other_indices : List ℕ} {other_mask other_area : ℕ → ℕ} (k n : ℕ) {own other all : Seen} → k ≤ n
    → Joining olds indices mask_to area_to other_olds other_indices other_mask other_area k own other all
    → Joining other_olds other_indices other_mask other_area olds indices mask_to area_to n other own all
turned k n less j = record {
  both = j.back;
  back = j.both;
  within = j.also;
  also = j.within;
  latest = (let few = j.latest in omega arith);
}

room_of : (last other one two : Seen) → last ≡ one → length other.areas ≤ length two.areas → other.pages ≤ two.pages
    → length one.areas + length two.areas ≤ 256 → one.pages + two.pages ≤ 4194304 → Room last other
room_of last other one two is areas pages few_areas few_pages = record {
  areas = subst (λ (s : Seen). length s.areas + length other.areas ≤ 256) (sym is) (omega (arith, areas, few_areas));
  pages = subst (λ (s : Seen). s.pages + other.pages ≤ 4194304) (sym is) (omega (arith, pages, few_pages));
}

follows_next : (s now : Seen) (xs ys : List Component) → seen_all s xs ≡ now → Follows s xs → Follows now ys → Follows s (xs ++ ys)
follows_next s now xs ys is first second = follows_both s xs ys first (subst (λ t. Follows t ys) (sym is) second)

seen_next : (s now : Seen) (xs ys : List Component) → seen_all s xs ≡ now → seen_all s (xs ++ ys) ≡ seen_all now ys
seen_next s now xs ys is = seen_both s xs ys ∙ ap (λ t. seen_all t ys) is

turns_follow : (olds indices : List ℕ) (ma ga : ℕ → ℕ) (olds' indices' : List ℕ) (mb gb : ℕ → ℕ)
    → Renames olds indices ma ga → Apart olds indices ma ga olds' indices' mb gb
    → Renames olds' indices' mb gb → Apart olds' indices' mb gb olds indices ma ga
    → (a1 a2 a3 b1 b2 b3 : List Component) (one two : Seen) → Three olds indices a1 a2 a3 one → Three olds' indices' b1 b2 b3 two
    → length one.areas + length two.areas ≤ 256 → one.pages + two.pages ≤ 4194304
    → Follows (seen_of []) (map (changed_part ma ga) a1 ++ map (changed_part mb gb) b1 ++ map (changed_part ma ga) a2 ++ map (changed_part mb gb) b2 ++ map (changed_part ma ga) a3 ++ map (changed_part mb gb) b3)
turns_follow olds indices ma ga olds' indices' mb gb ra aa rb ab a1 a2 a3 b1 b2 b3 one two x y few_areas few_pages =
    let s0 = seen_of [] in
    let sa1 = seen_all s0 a1 in
    let sa2 = seen_all sa1 a2 in
    let sb1 = seen_all s0 b1 in
    let sb2 = seen_all sb1 b2 in
    let xa1 : seen_all sa1 (a2 ++ a3) ≡ one = sym (seen_both s0 a1 (a2 ++ a3)) ∙ x.last in
    let xa2 : seen_all sa2 (a3 ++ []) ≡ one = ap (seen_all sa2) (append-nil a3) ∙ sym (seen_both sa1 a2 a3) ∙ xa1 in
    let xb1 : seen_all sb1 (b2 ++ b3) ≡ two = sym (seen_both s0 b1 (b2 ++ b3)) ∙ y.last in
    let xb2 : seen_all sb2 (b3 ++ []) ≡ two = ap (seen_all sb2) (append-nil b3) ∙ sym (seen_both sb1 b2 b3) ∙ xb1 in
    let fa1 = follows_right s0 a1 (a2 ++ a3) x.follow in
    let fa2 : Follows sa2 (a3 ++ []) = subst (Follows sa2) (sym (append-nil a3)) (follows_right sa1 a2 a3 fa1) in
    let fb1 = follows_right s0 b1 (b2 ++ b3) y.follow in
    let fb2 : Follows sb2 (b3 ++ []) = subst (Follows sb2) (sym (append-nil b3)) (follows_right sb1 b2 b3 fb1) in
    let few_areas' : length two.areas + length one.areas ≤ 256 = omega (arith, few_areas) in
    let few_pages' : two.pages + one.pages ≤ 4194304 = omega (arith, few_pages) in
    let ga0 = subst (λ (s : Seen). length sa1.areas ≤ length s.areas) xa1 (areas_grow sa1 (a2 ++ a3)) in
    let pa0 = subst (λ (s : Seen). sa1.pages ≤ s.pages) xa1 (pages_grow sa1 (a2 ++ a3)) in
    let ga1 = subst (λ (s : Seen). length sa2.areas ≤ length s.areas) xa2 (areas_grow sa2 (a3 ++ [])) in
    let pa1 = subst (λ (s : Seen). sa2.pages ≤ s.pages) xa2 (pages_grow sa2 (a3 ++ [])) in
    let same3 : seen_all sa2 a3 ≡ one = ap (seen_all sa2) (sym (append-nil a3)) ∙ xa2 in
    let gb0 = subst (λ (s : Seen). length s0.areas ≤ length s.areas) y.last (areas_grow s0 (b1 ++ (b2 ++ b3))) in
    let pb0 = subst (λ (s : Seen). s0.pages ≤ s.pages) y.last (pages_grow s0 (b1 ++ (b2 ++ b3))) in
    let gb1 = subst (λ (s : Seen). length sb1.areas ≤ length s.areas) xb1 (areas_grow sb1 (b2 ++ b3)) in
    let pb1 = subst (λ (s : Seen). sb1.pages ≤ s.pages) xb1 (pages_grow sb1 (b2 ++ b3)) in
    let gb2 = subst (λ (s : Seen). length sb2.areas ≤ length s.areas) xb2 (areas_grow sb2 (b3 ++ [])) in
    let pb2 = subst (λ (s : Seen). sb2.pages ≤ s.pages) xb2 (pages_grow sb2 (b3 ++ [])) in
    let ga2 = subst (λ (s : Seen). length (seen_all sa2 a3).areas ≤ length s.areas) same3 (omega arith) in
    let pa2 = subst (λ (s : Seen). (seen_all sa2 a3).pages ≤ s.pages) same3 (omega arith) in
    let j0 : Joining olds indices ma ga olds' indices' mb gb 1 s0 s0 s0 = record {
      both = none_both ma ga mb gb;
      back = none_both mb gb ma ga;
      within = none_seen olds indices;
      also = none_seen olds' indices';
      latest = omega arith;
    } in
    let r1 = join_part olds indices ma ga olds' indices' mb gb 1 ra aa a1 (a2 ++ a3) s0 s0 s0 j0
    (room_of _ s0 one two x.last gb0 pb0 few_areas few_pages) x.follow x.class1 x.masks1 x.areas1 in
    let t1 = seen_all s0 (map (changed_part ma ga) a1) in
    let r2 = join_part olds' indices' mb gb olds indices ma ga 1 rb ab b1 (b2 ++ b3) s0 sa1 t1 (turned 1 1 (omega arith) r1.1)
    (room_of _ sa1 two one y.last ga0 pa0 few_areas' few_pages') y.follow y.class1 y.masks1 y.areas1 in
    let t2 = seen_all t1 (map (changed_part mb gb) b1) in
    let r3 = join_part olds indices ma ga olds' indices' mb gb 2 ra aa a2 a3 sa1 sb1 t2 (turned 1 2 (omega arith) r2.1)
    (room_of _ sb1 one two xa1 gb1 pb1 few_areas few_pages) fa1 x.class2 x.masks2 x.areas2 in
    let t3 = seen_all t2 (map (changed_part ma ga) a2) in
    let r4 = join_part olds' indices' mb gb olds indices ma ga 2 rb ab b2 b3 sb1 sa2 t3 (turned 2 2 (omega arith) r3.1)
    (room_of _ sa2 two one xb1 ga1 pa1 few_areas' few_pages') fb1 y.class2 y.masks2 y.areas2 in
    let t4 = seen_all t3 (map (changed_part mb gb) b2) in
    let r5 = join_part olds indices ma ga olds' indices' mb gb 3 ra aa a3 [] sa2 sb2 t4 (turned 2 3 (omega arith) r4.1)
    (room_of _ sb2 one two xa2 gb2 pb2 few_areas few_pages) fa2 x.class3 x.masks3 x.areas3 in
    let t5 = seen_all t4 (map (changed_part ma ga) a3) in
    let r6 = join_part olds' indices' mb gb olds indices ma ga 3 rb ab b3 [] sb2 (seen_all sa2 a3) t5 (turned 3 3 (omega arith) r5.1)
    (room_of _ (seen_all sa2 a3) two one xb2 ga2 pa2 few_areas' few_pages') fb2 y.class3 y.masks3 y.areas3 in
    let c1 = map (changed_part ma ga) a1 in let d1 = map (changed_part mb gb) b1 in
    let c2 = map (changed_part ma ga) a2 in let d2 = map (changed_part mb gb) b2 in
    let c3 = map (changed_part ma ga) a3 in let d3 = map (changed_part mb gb) b3 in
    let e2 = seen_both s0 c1 d1 in
    let e3 = seen_next s0 t2 (c1 ++ d1) c2 e2 in
    let e4 = seen_next s0 t3 (c1 ++ d1 ++ c2) d2 e3 in
    let e5 = seen_next s0 t4 (c1 ++ d1 ++ c2 ++ d2) c3 e4 in
    let f2 = follows_both s0 c1 d1 r1.0 r2.0 in
    let f3 = follows_next s0 t2 (c1 ++ d1) c2 e2 f2 r3.0 in
    let f4 = follows_next s0 t3 (c1 ++ d1 ++ c2) d2 e3 f3 r4.0 in
    let f5 = follows_next s0 t4 (c1 ++ d1 ++ c2 ++ d2) c3 e4 f4 r5.0 in
    follows_next s0 t5 (c1 ++ d1 ++ c2 ++ d2 ++ c3) d3 e5 f5 r6.0

joined_follows : (a b : List Component) → list_fault a ≡ None → list_fault b ≡ None → FitTogether a b → Follows (seen_of []) (joined_parts a b)
unfolding joined_parts
joined_follows a b none also fit =
    let one = sound a none in
    let other = sound b also in
    turns_follow (masks_in a) (areas_in a) (mask_by (first_masks a)) same (masks_in b) (areas_in b) (mask_by (second_masks a b)) (area_by (second_areas a b))
    (first_renames a one) (first_apart a b one other fit) (second_renames a b other fit) (second_apart a b one other fit)
    (first_part a) (second_part a) (third_part a) (first_part b) (second_part b) (third_part b) (seen_of (headers_in a)) (seen_of (headers_in b))
    (in_three a none) (in_three b also) fit.areas fit.pages

-- the joined list breaks no rule
pub joined_valid : (a b : List Component) → list_fault a ≡ None → list_fault b ≡ None → FitTogether a b → list_fault (joined_parts a b) ≡ None
joined_valid a b none also fit =
    walked (joined_parts a b) (record {
      each = joined_follows a b none also fit;
      some = subst (λ (s : Seen). 0 < length s.platforms) (seen_end [] (joined_parts a b)) some;
    })
  where
    some : 0 < length (platforms_of (headers_in (joined_parts a b)))
    some =
        let first = subst (λ (s : Seen). 0 < length s.platforms) (sym (seen_end [] a)) (walks a none).some in
        let count = ap length (joined_platforms a b) in
        let sum = length-append (map (with_new (mask_by (first_masks a))) (platforms_of (headers_in a)))
        (map (with_new (mask_by (second_masks a b))) (map (numbered (length (platforms_of (headers_in a)))) (platforms_of (headers_in b)))) in
        let size = length-map (platforms_of (headers_in a)) (with_new (mask_by (first_masks a))) in
        omega (arith, first, count, sum, size)
