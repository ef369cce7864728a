-- What is kept of headers answers as they do, and goes on to do so with each header more.
use Rattle.std.proofs.Common.{◌≡◌, ℕ, ◌+◌, ◌<◌, ◌≤◌, List, [], ◌∷◌, ◌++◌, refl, sym, ◌∙◌, ap, subst, arith, Bool, true, false, cond, ◌&&◌, ◌||◌, ◌==◌, nat_lt, nat_cmp, Option, Some, None}
use Rattle.std.specs.Prelude.{if◌then◌else◌, sum_by, count_by}
use Rattle.std.specs.Bool.{then_some}
use Rattle.std.specs.Option.{option_or, option_to_list}
use Rattle.std.specs.List.{list_any, filter_map, AllByRecursion, IsDistinct}
use Rattle.std.specs.BTreeSet.{BTreeSet, contains, btree_set_len, IsOrdered}
use Rattle.std.specs.BTreeMap.{is_at}
use Rattle.std.specs.Ordering.{eq_by_cmp}
use Rattle.std.proofs.lemmas.Map.Keys.{IsDistinct-from_sorted}
use Rattle.std.proofs.lemmas.Map.Steps.{length-le_from_distinct_below}
use Rattle.std.proofs.lemmas.Bool.Decides.{nat_tests}
use Rattle.std.proofs.lemmas.List.{map-append}
use Rattle.std.proofs.lemmas.List.Sums.{fold_push, sum_by_push}
use Rattle.std.proofs.lemmas.List.Folds.{list_any-append}
use Rattle.std.proofs.lemmas.List.Elements.{filter_map-append}
use Rattle.igvm_headers.specs.declared.header.Header.{Header}
use Rattle.igvm_headers.specs.declared.header.Header.TheVariants.{Area, Page, Insert, Param, Context, IdBlock}
use Rattle.igvm_image.specs.declared.area_table.AreaEntry.{AreaEntry}
use Rattle.igvm_image.specs.Headers.{PlacedHeader}
use Rattle.igvm_image.specs.PagesFit.{PagesFit}
use Rattle.igvm_image.specs.Areas.{placed_pages}
use Rattle.directive_rules.specs.declared.earlier_headers.EarlierHeaders.{EarlierHeaders}
use Rattle.directive_rules.specs.declared.misfit.Why.{Why}
use Rattle.directive_rules.specs.declared.misfit.Why.TheVariants.{Repeated, TooManyPages, AreasTooLarge, ContextRepeated, IdBlockRepeated}
use Rattle.host_set.specs.declared.range.PlanRange.{PlanRange}
use Rattle.directive_rules.specs.declared.misfit.IdWanted.{IdWanted}
use Rattle.directive_rules.specs.PageRanges.{meets, pages_range, range_passes}
use Rattle.directive_rules.specs.PageAddresses.{share_page}
use Rattle.directive_rules.specs.MisfitRows.{Setting, Before, before_of, row, gone_before, context_before, pages_why, why_of}
use Rattle.directive_rules.specs.DirectiveFacts.{is_policy, is_context, is_context_of, is_id_block, inserts}
use Rattle.igvm_image.specs.RulesInWords.{declared_bytes}
use Rattle.directive_rules.specs.FirstMisfit.{headers_in}
use Rattle.directive_rules.specs.LoadCounts.{wanted_of}
use Rattle.directive_rules.specs.EarlierHeaders.{Summarizes, TakesIn, HasRoom, before_in, gone_in, context_in, shares_in}
use Rattle.directive_rules.specs.CheckAnswers.{FitsAfter}
use Rattle.directive_rules.proofs.SharedPages.{any_share}

-- ---- one more at the end
or_false : (b : Bool) → (b || false) ≡ b
or_false true = refl
or_false false = refl

any_push : {X : Type 0} (p : X → Bool) (xs : List X) (x : X) → list_any p (xs ++ x ∷ []) ≡ (list_any p xs || p x)
any_push p xs x = list_any-append p xs (x ∷ []) ∙ ap (λ b. list_any p xs || b) (or_false (p x))

headers_push : (ps : List PlacedHeader) (p : PlacedHeader) → headers_in (ps ++ p ∷ []) ≡ headers_in ps ++ p.header ∷ []
headers_push ps p = map-append (λ (q : PlacedHeader). q.header) ps (p ∷ [])

any_header : (test : Header → Bool) (ps : List PlacedHeader) (p : PlacedHeader) → list_any test (headers_in (ps ++ p ∷ [])) ≡ (list_any test (headers_in ps) || test p.header)
any_header test ps p = ap (list_any test) (headers_push ps p) ∙ any_push test (headers_in ps) p.header

sum_header : (f : Header → ℕ) (ps : List PlacedHeader) (p : PlacedHeader) → sum_by f (headers_in (ps ++ p ∷ [])) ≡ sum_by f (headers_in ps) + f p.header
sum_header f ps p = ap (sum_by f) (headers_push ps p) ∙ sum_by_push f (headers_in ps) p.header

count_push : (test : Header → Bool) (hs : List Header) (h : Header) → count_by test (hs ++ h ∷ []) ≡ count_by test hs + (if test h then 1 else 0)
count_push test hs h = fold_push (λ (a : ℕ) (x : Header). a + cond (test x) 1 0) 0 hs h

all_push : (P : Header → Type 0) (hs : List Header) (h : Header) → AllByRecursion P hs → P h → AllByRecursion P (hs ++ h ∷ [])
all_push P [] h all here = (here, tt)
all_push P (x ∷ hs) h all here = (all.0, all_push P hs h all.1 here)

ids_push : (ps : List PlacedHeader) (p : PlacedHeader) → filter_map wanted_of (ps ++ p ∷ []) ≡ filter_map wanted_of ps ++ option_to_list (wanted_of p)
ids_push ps p = filter_map-append wanted_of ps (p ∷ []) ∙ ap (λ ids. filter_map wanted_of ps ++ ids) (one (wanted_of p))
  where
    one : (o : Option IdWanted) → filter_map (λ (x : Option IdWanted). x) (o ∷ []) ≡ option_to_list o
    one None = refl
    one (Some x) = refl

small_more : (s t : Bool) (vp : ℕ) → (s ≡ true → vp < 65536) → (t ≡ true → vp < 65536) → (s || t) ≡ true → vp < 65536
small_more true t vp old new h = old refl
small_more false t vp old new h = new h

pub summary_more : (s n : EarlierHeaders) (areas : List AreaEntry) (ps : List PlacedHeader) (p : PlacedHeader) → Summarizes s areas ps → TakesIn s n areas p → PagesFit areas p.header → Summarizes n areas (ps ++ p ∷ [])
summary_more s n areas ps p t g fit = record {
  policy = g.policy ∙ ap (λ b. b || is_policy p.header) t.policy ∙ sym (any_header is_policy ps p);
  area_bytes = g.area_bytes ∙ ap (λ k. k + declared_bytes p.header) t.area_bytes ∙ sym (sum_header declared_bytes ps p);
  gone = λ area. g.gone area ∙ ap (λ b. b || inserts area p.header) (t.gone area) ∙ sym (any_header (inserts area) ps p);
  ranges = λ test. g.ranges test ∙ ap (λ b. b || range_passes areas test p.header) (t.ranges test) ∙ sym (any_header (range_passes areas test) ps p);
  pages = g.pages ∙ ap (λ k. k + placed_pages areas p.header) t.pages ∙ sym (sum_header (placed_pages areas) ps p);
  vps = λ vp. g.vps vp ∙ ap (λ b. b || is_context_of vp p.header) (t.vps vp) ∙ sym (any_header (is_context_of vp) ps p);
  small = λ vp there. small_more (contains nat_cmp s.vps vp) (is_context_of vp p.header) vp (t.small vp) (g.small vp) (sym (g.vps vp) ∙ there);
  contexts = g.contexts ∙ ap (λ k. k + (if is_context p.header then 1 else 0)) t.contexts
      ∙ sym (ap (count_by is_context) (headers_push ps p) ∙ count_push is_context (headers_in ps) p.header);
  id_block = g.id_block ∙ ap (λ b. b || is_id_block p.header) t.id_block ∙ sym (any_header is_id_block ps p);
  ids = g.ids ∙ ap (λ ids. ids ++ option_to_list (wanted_of p)) t.ids ∙ sym (ids_push ps p);
  fit = subst (AllByRecursion (PagesFit areas)) (sym (headers_push ps p)) (all_push (PagesFit areas) (headers_in ps) p.header t.fit fit);
}

-- ---- the answers for a header
gone_is : (s : EarlierHeaders) (areas : List AreaEntry) (ps : List PlacedHeader) (h : Header) → Summarizes s areas ps → gone_in s.gone h ≡ gone_before (headers_in ps) h
gone_is s areas ps (Insert gpa mask area) t = t.gone area
gone_is s areas ps (Param kind area byte_offset) t = t.gone area
gone_is s areas ps _ t = refl

context_is : (s : EarlierHeaders) (areas : List AreaEntry) (ps : List PlacedHeader) (h : Header) → Summarizes s areas ps → context_in s.vps h ≡ context_before (headers_in ps) h
context_is s areas ps (Context gpa mask offset vp) t = t.vps vp
context_is s areas ps _ t = refl

shares_is : (s : EarlierHeaders) (areas : List AreaEntry) (ps : List PlacedHeader) (h : Header) → Summarizes s areas ps → PagesFit areas h
    → shares_in s.ranges (pages_range areas h).0 (placed_pages areas h) ≡ list_any (share_page areas h) (headers_in ps)
shares_is s areas ps h t fit =
    ap (λ b. nat_lt 0 (placed_pages areas h) && b) (t.ranges (meets (pages_range areas h).0 (pages_range areas h).1))
    ∙ sym (any_share areas h (headers_in ps) fit t.fit)

abbrev answers : Bool → ℕ → Bool → Bool → ℕ → Bool → Bool → Before
answers policy area_bytes gone shares pages context id_block = record {
  policy = policy;
  area_bytes = area_bytes;
  gone = gone;
  shares = shares;
  pages = pages;
  context = context;
  id_block = id_block;
}

same_answers : (a a' : Bool) (b b' : ℕ) (c c' d d' : Bool) (e e' : ℕ) (f f' g g' : Bool) → a ≡ a' → b ≡ b' → c ≡ c' → d ≡ d' → e ≡ e' → f ≡ f' → g ≡ g'
    → answers a b c d e f g ≡ answers a' b' c' d' e' f' g'
same_answers a a' b b' c c' d d' e e' f f' g g' p q r s t u v = cc

pub before_is : (s : EarlierHeaders) (areas : List AreaEntry) (ps : List PlacedHeader) (h : Header) → Summarizes s areas ps → PagesFit areas h
    → before_in areas s h ≡ before_of areas (headers_in ps) h
before_is s areas ps h t fit =
    same_answers _ _ _ _ _ _ _ _ _ _ _ _ _ _ t.policy t.area_bytes (gone_is s areas ps h t)
    (shares_is s areas ps h t fit) t.pages (context_is s areas ps h t) t.id_block

-- ---- a header that fits has room
when_none : (test : Bool) (why : Why) → then_some test why ≡ None → test ≡ false
when_none true why h = cc
when_none false why h = refl

pub both_none : (a b : Option Why) → option_or a b ≡ None → (a ≡ None) × (b ≡ None)
both_none (Some why) b h = cc
both_none None b h = (refl, h)

not_above : (n limit : ℕ) → nat_lt limit n ≡ false → n ≤ limit
not_above n limit h = grind (arith, nat_tests)

pub pages_room : (plan : List PlanRange) (shares : Bool) (pages gpa count : ℕ) → pages_why plan shares pages gpa count ≡ None → (shares ≡ false) × (pages + count ≤ 524288)
pages_room plan shares pages gpa count none =
    let inner = (both_none _ _ none).1 in
    let two = both_none _ _ inner in
    (when_none shares Repeated two.0, not_above (pages + count) 524288 (when_none (nat_lt 524288 (pages + count)) TooManyPages two.1))

-- the limits on what is there already
pub record IsWithin (e : EarlierHeaders) : Type 0 where
  pub bytes : e.area_bytes ≤ 67108864
  pub pages : e.pages ≤ 524288

pub room_for : (s : Setting) (e : EarlierHeaders) (h : Header) → IsWithin e → why_of s (before_in s.areas e h) h ≡ None → HasRoom e s.areas h
unfolding why_of
room_for s e (Area bytes area offset) w none = record {
  area_bytes = not_above (e.area_bytes + bytes) 67108864 (when_none (nat_lt 67108864 (e.area_bytes + bytes)) AreasTooLarge none);
  pages = omega (arith, w.pages);
  apart = refl;
  context = refl;
  id_block = refl;
}
room_for s e (Page gpa mask offset large unmeasured kind) w none =
    let room = pages_room _ _ _ _ _ (both_none _ _ none).1 in
    record { area_bytes = omega (arith, w.bytes); pages = room.1; apart = room.0; context = refl; id_block = refl }
room_for s e (Insert gpa mask area) w none =
    let room = pages_room _ _ _ _ _ (both_none _ _ none).1 in
    record { area_bytes = omega (arith, w.bytes); pages = room.1; apart = room.0; context = refl; id_block = refl }
room_for s e (Context gpa mask offset vp) w none = record {
  area_bytes = omega (arith, w.bytes);
  pages = omega (arith, w.pages);
  apart = refl;
  context = when_none _ ContextRepeated (both_none _ _ none).1;
  id_block = refl;
}
room_for s e (IdBlock mask author_enabled ld family_id image_id version guest_svn id_algorithm author_algorithm) w none = record {
  area_bytes = omega (arith, w.bytes);
  pages = omega (arith, w.pages);
  apart = refl;
  context = refl;
  id_block = when_none _ IdBlockRepeated (both_none _ _ none).1;
}
room_for s e _ w none = record { area_bytes = omega (arith, w.bytes); pages = omega (arith, w.pages); apart = refl; context = refl; id_block = refl }

-- why a header doesn't fit, by what is kept
pub row_is : (s : Setting) (e : EarlierHeaders) (ps : List PlacedHeader) (h : Header) (why : Option Why) → PagesFit s.areas h
    → why ≡ why_of s (before_in s.areas e h) h → Summarizes e s.areas ps → row s (headers_in ps) h ≡ why
row_is s e ps h why fit is t = sym (is ∙ ap (λ (b : Before). why_of s b h) (before_is e s.areas ps h t fit))

-- a header that fits is taken in
pub taken : (s : Setting) (e n : EarlierHeaders) (p : PlacedHeader) → PagesFit s.areas p.header → None ≡ why_of s (before_in s.areas e p.header) p.header
    → TakesIn e n s.areas p → FitsAfter s e n p
taken s e n p fit is grows = record {
  fits = λ before t. row_is s e before p.header None fit is t;
  summarizes = λ before t. summary_more e n s.areas before p t grows fit;
}

-- ---- how many contexts there can be
same_test : (q k : ℕ) → is_at (nat_cmp q) k ≡ (q == k)
same_test q k = grind (arith, nat_tests)

any_key : (q : ℕ) (ks : List ℕ) → list_any (is_at (nat_cmp q)) ks ≡ list_any (λ k. q == k) ks
any_key q [] = refl
any_key q (k ∷ ks) = ap (λ b. b || list_any (is_at (nat_cmp q)) ks) (same_test q k) ∙ ap (λ b. (q == k) || b) (any_key q ks)

differ_key : (k : ℕ) (ks : List ℕ) → AllByRecursion (λ x. eq_by_cmp nat_cmp k x ≡ false) ks → AllByRecursion (λ x. (k == x) ≡ false) ks
differ_key k [] all = tt
differ_key k (x ∷ ks) all = (sym (same_test k x) ∙ all.0, differ_key k ks all.1)

distinct_keys : (ks : List ℕ) → IsDistinct (eq_by_cmp nat_cmp) ks → IsDistinct (λ a b. a == b) ks
unfolding IsDistinct
distinct_keys [] all = tt
distinct_keys (k ∷ ks) all = (differ_key k ks all.0, distinct_keys ks all.1)

pub few_contexts : (vps : BTreeSet ℕ) → IsOrdered nat_cmp vps → ((vp : ℕ) → contains nat_cmp vps vp ≡ true → vp < 65536) → btree_set_len vps ≤ 65536
few_contexts vps ordered small =
    length-le_from_distinct_below vps.keys 65536
    (distinct_keys vps.keys (IsDistinct-from_sorted nat_cmp vps.keys ordered))
    (λ q there. small q (any_key q vps.keys ∙ there))
