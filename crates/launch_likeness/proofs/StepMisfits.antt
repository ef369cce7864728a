-- Headers set side by side by steps that name no area anew: they fit the same hosts.
use Rattle.std.proofs.Common.{◌≡◌, ◌↔◌, ℕ, ◌+◌, List, [], ◌∷◌, ◌++◌, map, refl, sym, ◌∙◌, ap, ap₂, subst, Option, Some, None, Bool, true, false, cond, fold, ◌||◌}
use Rattle.std.specs.List.{list_any, cons_option}
use Rattle.igvm_headers.specs.HeaderFacts.{gpa_of}
use Rattle.igvm_headers.specs.declared.header.Header.{Header}
use Rattle.igvm_headers.specs.declared.header.Header.TheVariants.{Policy, Area, Page, Insert, Param, Context, IdBlock}
use Rattle.igvm_headers.specs.declared.platform_kind.PlatformKind.{PlatformKind}
use Rattle.host_set.specs.declared.range.PlanRange.{PlanRange}
use Rattle.host_set.specs.Hosts.{HostValues}
use Rattle.platform_masks.specs.Masks.{applies}
use Rattle.igvm_image.specs.declared.area_table.AreaEntry.{AreaEntry}
use Rattle.igvm_image.specs.Areas.{area_entry, areas_of, placed_pages}
use Rattle.igvm_image.specs.Headers.{PlacedHeader}
use Rattle.igvm_image.specs.RulesInWords.{declared_bytes}
use Rattle.directive_rules.specs.DirectiveFacts.{is_policy, is_context_of, is_id_block, inserts}
use Rattle.directive_rules.specs.FirstMisfit.{headers_for, headers_in, misfit_or, misfit_after}
use Rattle.directive_rules.specs.MisfitRows.{Setting, setting, Before, gone_before, context_before, before_of, why_of, row}
use Rattle.directive_rules.specs.PageAddresses.{page_row, addresses, have_common, share_page}
use Rattle.directive_rules.specs.declared.misfit.Misfit.{Misfit}
use Rattle.directive_rules.specs.declared.misfit.Why.{Why}
use Rattle.launch_likeness.proofs.Steps.{Step, Both, Gone, Come, firsts, seconds, IsSame, AreSteps, same_areas, AreOld}
use Rattle.launch_likeness.proofs.StepAreas.{renewed}

-- ---- what rows don't look at

-- a header without its mask, the place of its data and the digest that it wants
abbrev plain : Header → Header
plain h = renewed 0 0 [] (λ area. area) h

plain_renewed : (offset mask : ℕ) (wanted : List ℕ) (h : Header) → plain (renewed offset mask wanted (λ area. area) h) ≡ plain h
plain_renewed offset mask wanted (Area bytes area at) = refl
plain_renewed offset mask wanted (Page gpa mask' at large unmeasured kind) = refl
plain_renewed offset mask wanted (Context gpa mask' at vp) = refl
plain_renewed offset mask wanted (IdBlock mask' author_enabled ld family_id image_id version guest_svn id_algorithm author_algorithm) = refl
plain_renewed offset mask wanted h = refl

plain_same : (old new : ℕ) (p q : PlacedHeader) → IsSame (same_areas old new) p q → plain q.header ≡ plain p.header
plain_same old new p q same = ap plain same.header ∙ plain_renewed same.offset same.mask same.wanted p.header

any_plain : (test : Header → Bool) → ((h : Header) → test (plain h) ≡ test h) → (hs : List Header) → list_any test (map plain hs) ≡ list_any test hs
any_plain test same [] = refl
any_plain test same (h ∷ hs) = ap₂ (λ b c. b || c) (same h) (any_plain test same hs)

sum_plain : (f : Header → ℕ) → ((h : Header) → f (plain h) ≡ f h) → (n : ℕ) (hs : List Header)
    → fold (λ (a : ℕ) (h : Header). a + f h) n (map plain hs) ≡ fold (λ (a : ℕ) (h : Header). a + f h) n hs
sum_plain f same n [] = refl
sum_plain f same n (h ∷ hs) =
    ap (λ (m : ℕ). fold (λ (a : ℕ) (g : Header). a + f g) (n + m) (map plain hs)) (same h)
    ∙ sum_plain f same (n + f h) hs

policy_plain : (h : Header) → is_policy (plain h) ≡ is_policy h
policy_plain (Policy policy mask) = refl
policy_plain h = refl

id_block_plain : (h : Header) → is_id_block (plain h) ≡ is_id_block h
id_block_plain (Policy policy mask) = refl
id_block_plain h = refl

context_plain : (vp : ℕ) (h : Header) → is_context_of vp (plain h) ≡ is_context_of vp h
context_plain vp (Policy policy mask) = refl
context_plain vp h = refl

inserts_plain : (area : ℕ) (h : Header) → inserts area (plain h) ≡ inserts area h
inserts_plain area (Policy policy mask) = refl
inserts_plain area h = refl

bytes_plain : (h : Header) → declared_bytes (plain h) ≡ declared_bytes h
bytes_plain (Policy policy mask) = refl
bytes_plain h = refl

pages_plain : (areas : List AreaEntry) (h : Header) → placed_pages areas (plain h) ≡ placed_pages areas h
pages_plain areas (Policy policy mask) = refl
pages_plain areas h = refl

gpa_plain : (h : Header) → gpa_of (plain h) ≡ gpa_of h
gpa_plain (Policy policy mask) = refl
gpa_plain h = refl

addresses_plain : (areas : List AreaEntry) (h : Header) → addresses areas (plain h) ≡ addresses areas h
addresses_plain areas h = ap₂ page_row (gpa_plain h) (pages_plain areas h)

gone_plain : (before : List Header) (h : Header) → gone_before (map plain before) (plain h) ≡ gone_before before h
gone_plain before (Insert gpa mask area) = any_plain (inserts area) (inserts_plain area) before
gone_plain before (Param kind area byte_offset) = any_plain (inserts area) (inserts_plain area) before
gone_plain before h = refl

contexts_plain : (before : List Header) (h : Header) → context_before (map plain before) (plain h) ≡ context_before before h
contexts_plain before (Context gpa mask offset vp) = any_plain (is_context_of vp) (context_plain vp) before
contexts_plain before h = refl

shares_plain : (areas : List AreaEntry) (before : List Header) (h : Header)
    → list_any (share_page areas (plain h)) (map plain before) ≡ list_any (share_page areas h) before
shares_plain areas before h =
    ap (λ (xs : List ℕ). list_any (λ (other : Header). have_common xs (addresses areas other)) (map plain before)) (addresses_plain areas h)
    ∙ any_plain (share_page areas h) (λ other. ap (have_common (addresses areas h)) (addresses_plain areas other)) before

before_plain : (areas : List AreaEntry) (before : List Header) (h : Header)
    → before_of areas (map plain before) (plain h) ≡ before_of areas before h
before_plain areas before h = λ i. record {
  policy = any_plain is_policy policy_plain before i;
  area_bytes = sum_plain declared_bytes bytes_plain 0 before i;
  gone = gone_plain before h i;
  shares = shares_plain areas before h i;
  pages = sum_plain (placed_pages areas) (pages_plain areas) 0 before i;
  context = contexts_plain before h i;
  id_block = any_plain is_id_block id_block_plain before i;
}

why_plain : (s : Setting) (before : Before) (h : Header) → why_of s before (plain h) ≡ why_of s before h
unfolding why_of
why_plain s before (Policy policy mask) = refl
why_plain s before h = refl

row_plain : (s : Setting) (before : List Header) (h : Header) → row s (map plain before) (plain h) ≡ row s before h
row_plain s before h =
    ap (λ (b : Before). why_of s b (plain h)) (before_plain s.areas before h)
    ∙ why_plain s (before_of s.areas before h) h

row_same : (s : Setting) (before before' : List Header) (h h' : Header) → map plain before' ≡ map plain before → plain h' ≡ plain h
    → row s before' h' ≡ row s before h
row_same s before before' h h' befores same =
    sym (row_plain s before' h')
    ∙ ap₂ (λ (hs : List Header) (g : Header). row s hs g) befores same
    ∙ row_plain s before h

-- ---- one header after others

plain_pushed : (ps qs : List PlacedHeader) (p q : PlacedHeader)
    → map plain (headers_in qs) ≡ map plain (headers_in ps) → plain q.header ≡ plain p.header
    → map plain (headers_in (qs ++ q ∷ [])) ≡ map plain (headers_in (ps ++ p ∷ []))
plain_pushed ps qs p q befores same =
    plain_append qs q ∙ ap₂ (λ (hs : List Header) (h : Header). hs ++ h ∷ []) befores same ∙ sym (plain_append ps p)
  where
    plain_append : (rs : List PlacedHeader) (r : PlacedHeader) → map plain (headers_in (rs ++ r ∷ [])) ≡ map plain (headers_in rs) ++ plain r.header ∷ []
    plain_append [] r = refl
    plain_append (first ∷ rs) r = ap (λ (hs : List Header). plain first.header ∷ hs) (plain_append rs r)

-- no misfit first, and none later
none_or : (i j : ℕ) (why why' : Option Why) (later later' : Option Misfit) → why' ≡ why
    → ((later' ≡ None) ↔ (later ≡ None)) → ((misfit_or i why' later' ≡ None) ↔ (misfit_or j why later ≡ None))
none_or i j None None later later' same both = both
none_or i j None (Some why') later later' same both = cc
none_or i j (Some why) None later later' same both = cc
none_or i j (Some why) (Some why') later later' same both = (λ is. cc, λ is. cc)

misfits_if : (s : Setting) (before before' : List PlacedHeader) (p q : PlacedHeader) (ps qs : List PlacedHeader) (b : Bool)
    → map plain (headers_in before') ≡ map plain (headers_in before) → plain q.header ≡ plain p.header
    → ((misfit_after s (before' ++ q ∷ []) qs ≡ None) ↔ (misfit_after s (before ++ p ∷ []) ps ≡ None))
    → ((misfit_after s before' qs ≡ None) ↔ (misfit_after s before ps ≡ None))
    → ((misfit_after s before' (cond b (q ∷ qs) qs) ≡ None) ↔ (misfit_after s before (cond b (p ∷ ps) ps) ≡ None))
unfolding misfit_after
misfits_if s before before' p q ps qs true befores same counts not_counts =
    none_or q.index p.index (row s (headers_in before) p.header) (row s (headers_in before') q.header)
    (misfit_after s (before ++ p ∷ []) ps) (misfit_after s (before' ++ q ∷ []) qs)
    (row_same s (headers_in before) (headers_in before') p.header q.header befores same) counts
misfits_if s before before' p q ps qs false befores same counts not_counts = not_counts

-- ---- all headers

misfits_behind : (old new : ℕ) (s : Setting) (steps : List Step) → AreSteps (same_areas old new) steps → AreOld steps
    → (before before' : List PlacedHeader) → map plain (headers_in before') ≡ map plain (headers_in before)
    → ((misfit_after s before' (headers_for new (seconds steps)) ≡ None) ↔ (misfit_after s before (headers_for old (firsts steps)) ≡ None))
unfolding misfit_after
misfits_behind old new s [] are olds before before' befores = (λ is. refl, λ is. refl)
misfits_behind old new s (Both p q ∷ steps) are olds before before' befores =
    let ps : List PlacedHeader = headers_for old (firsts steps) in
    let qs : List PlacedHeader = headers_for new (seconds steps) in
    let same : plain q.header ≡ plain p.header = plain_same old new p q are.0 in
    subst (λ (b : Bool). (misfit_after s before' (cond b (q ∷ qs) qs) ≡ None) ↔ (misfit_after s before (cond (applies p.header old) (p ∷ ps) ps) ≡ None))
    (sym are.0.counts)
    (misfits_if s before before' p q ps qs (applies p.header old) befores same
    (misfits_behind old new s steps are.1 olds.1 (before ++ p ∷ []) (before' ++ q ∷ []) (plain_pushed before before' p q befores same))
    (misfits_behind old new s steps are.1 olds.1 before before' befores))
misfits_behind old new s (Gone p ∷ steps) are olds before before' befores =
    let ps : List PlacedHeader = headers_for old (firsts steps) in
    let qs : List PlacedHeader = headers_for new (seconds steps) in
    subst (λ (b : Bool). (misfit_after s before' qs ≡ None) ↔ (misfit_after s before (cond b (p ∷ ps) ps) ≡ None))
    (sym are.0)
    (misfits_behind old new s steps are.1 olds.1 before before' befores)
misfits_behind old new s (Come q ∷ steps) are olds before before' befores = absurd olds.0

-- ---- areas

entry_renewed : (offset mask : ℕ) (wanted : List ℕ) (h : Header) → area_entry (renewed offset mask wanted (λ area. area) h) ≡ area_entry h
entry_renewed offset mask wanted (Area bytes area at) = refl
entry_renewed offset mask wanted h = refl

entry_gone : (old : ℕ) (h : Header) → applies h old ≡ false → area_entry h ≡ None
entry_gone old (Area bytes area at) not_here = cc
entry_gone old h not_here = refl

pub areas_same : (old new : ℕ) (steps : List Step) → AreSteps (same_areas old new) steps → AreOld steps
    → areas_of (headers_in (seconds steps)) ≡ areas_of (headers_in (firsts steps))
areas_same old new [] are olds = refl
areas_same old new (Both p q ∷ steps) are olds =
    ap₂ (λ (e : Option AreaEntry) (es : List AreaEntry). cons_option e es)
    (ap area_entry are.0.header ∙ entry_renewed are.0.offset are.0.mask are.0.wanted p.header)
    (areas_same old new steps are.1 olds.1)
areas_same old new (Gone p ∷ steps) are olds =
    areas_same old new steps are.1 olds.1
    ∙ sym (ap (λ (e : Option AreaEntry). cons_option e (areas_of (headers_in (firsts steps)))) (entry_gone old p.header are.0))
areas_same old new (Come q ∷ steps) are olds = absurd olds.0

pub misfits_same : (old new : ℕ) → (steps : List Step) → AreSteps (same_areas old new) steps → AreOld steps
    → (kind : PlatformKind) (plan : List PlanRange) (host : HostValues)
    → ((misfit_after (setting kind plan host (areas_of (headers_in (seconds steps)))) [] (headers_for new (seconds steps)) ≡ None)
    ↔ (misfit_after (setting kind plan host (areas_of (headers_in (firsts steps)))) [] (headers_for old (firsts steps)) ≡ None))
misfits_same old new steps are olds kind plan host =
    subst (λ (areas : List AreaEntry). (misfit_after (setting kind plan host areas) [] (headers_for new (seconds steps)) ≡ None)
    ↔ (misfit_after (setting kind plan host (areas_of (headers_in (firsts steps)))) [] (headers_for old (firsts steps)) ≡ None))
    (sym (areas_same old new steps are olds))
    (misfits_behind old new (setting kind plan host (areas_of (headers_in (firsts steps)))) steps are olds [] [] refl)
