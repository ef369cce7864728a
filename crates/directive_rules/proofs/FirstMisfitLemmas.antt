-- The first misfit in words.
use Rattle.std.proofs.Common.{◌≡◌, ℕ, zero, suc, ◌<◌, List, [], ◌∷◌, ◌++◌, length, take, get_or, refl, sym, ◌∙◌, ap, subst, append_assoc, append-nil, arith, true, Option, Some, None}
use Rattle.std.specs.List.{list_any, slice_get}
use Rattle.std.proofs.lemmas.List.Folds.{Any-from_list_any, list_any_at}
use Rattle.std.proofs.lemmas.Option.{slice_get_within}
use Rattle.igvm_headers.specs.declared.header.Header.{Header}
use Rattle.igvm_image.specs.declared.area_table.AreaEntry.{AreaEntry}
use Rattle.igvm_image.specs.Headers.{PlacedHeader}
use Rattle.igvm_headers.specs.HeaderFacts.{gpa_of}
use Rattle.igvm_image.specs.Areas.{placed_pages}
use Rattle.directive_rules.specs.declared.misfit.Why.{Why}
use Rattle.directive_rules.specs.declared.misfit.Misfit.{Misfit}
use Rattle.directive_rules.specs.PageAddresses.{share_page}
use Rattle.directive_rules.specs.MisfitRows.{Setting, row}
use Rattle.directive_rules.specs.FirstMisfit.{headers_in, misfit_or, misfit_after}
use Rattle.directive_rules.specs.MisfitsInWords.{row_at, IsFirst, NoneFails, IsRepeated}
use Rattle.directive_rules.proofs.SharedPages.{common_from, common_at}

-- the row of a header behind the first
row_behind : (s : Setting) (before : List PlacedHeader) (p : PlacedHeader) (ps : List PlacedHeader) (place : ℕ) (q : PlacedHeader)
    → row_at s (before ++ p ∷ []) ps place q ≡ row_at s before (p ∷ ps) (suc place) q
row_behind s before p ps place q = ap (λ hs. row s (headers_in hs) q.header) (append_assoc before (p ∷ []) (take place ps))

row_first : (s : Setting) (before : List PlacedHeader) (p : PlacedHeader) (ps : List PlacedHeader) → row_at s before (p ∷ ps) 0 p ≡ row s (headers_in before) p.header
row_first s before p ps = ap (λ hs. row s (headers_in hs) p.header) (append-nil before)

pub first_from : (s : Setting) (before placed : List PlacedHeader) (m : Misfit) → misfit_after s before placed ≡ Some m → IsFirst s before placed m
unfolding misfit_after
first_from s before [] m is = cc
first_from s before (p ∷ ps) m is = by (first_from s (before ++ p ∷ []) ps m) (row s (headers_in before) p.header) refl is
  where
    by : (misfit_after s (before ++ p ∷ []) ps ≡ Some m → IsFirst s (before ++ p ∷ []) ps m)
        → (r : Option Why) → row s (headers_in before) p.header ≡ r → misfit_or p.index r (misfit_after s (before ++ p ∷ []) ps) ≡ Some m → IsFirst s before (p ∷ ps) m
    by later (Some why) fails same =
        let m_is : m ≡ record { index = p.index; why = why } = cc in
        record {
          place = 0;
          header = p;
          stands = refl;
          number = ap (λ (m : Misfit). m.index) m_is;
          why = row_first s before p ps ∙ fails ∙ ap (λ (m : Misfit). Some m.why) (sym m_is);
          least = λ earlier q less there. absurd (omega arith);
        }
    by later None fits same =
        let rest = later same in
        record {
          place = suc rest.place;
          header = rest.header;
          stands = rest.stands;
          number = rest.number;
          why = sym (row_behind s before p ps rest.place rest.header) ∙ rest.why;
          least = least rest;
        }
      where
        least : (rest : IsFirst s (before ++ p ∷ []) ps m) → (earlier : ℕ) (q : PlacedHeader) → earlier < suc rest.place → slice_get (p ∷ ps) earlier ≡ Some q → row_at s before (p ∷ ps) earlier q ≡ None
        least rest zero q less there =
            let same : p ≡ q = cc in
            subst (λ (q : PlacedHeader). row_at s before (p ∷ ps) 0 q ≡ None) same (row_first s before p ps ∙ fits)
        least rest (suc earlier) q less there = sym (row_behind s before p ps earlier q) ∙ rest.least earlier q (omega arith) there

pub none_from : (s : Setting) (before placed : List PlacedHeader) → misfit_after s before placed ≡ None → NoneFails s before placed
unfolding misfit_after
none_from s before [] is = λ place p there. cc
none_from s before (p ∷ ps) is = by (none_from s (before ++ p ∷ []) ps) (row s (headers_in before) p.header) refl is
  where
    by : (misfit_after s (before ++ p ∷ []) ps ≡ None → NoneFails s (before ++ p ∷ []) ps)
        → (r : Option Why) → row s (headers_in before) p.header ≡ r → misfit_or p.index r (misfit_after s (before ++ p ∷ []) ps) ≡ None → NoneFails s before (p ∷ ps)
    by later (Some why) fails same = cc
    by later None fits same = at
      where
        at : NoneFails s before (p ∷ ps)
        at zero q there =
            let same : p ≡ q = cc in
            subst (λ (q : PlacedHeader). row_at s before (p ∷ ps) 0 q ≡ None) same (row_first s before p ps ∙ fits)
        at (suc place) q there = sym (row_behind s before p ps place q) ∙ later same place q there

-- back
fits_first : (s : Setting) (before : List PlacedHeader) (p : PlacedHeader) (ps : List PlacedHeader) → row_at s before (p ∷ ps) 0 p ≡ None
    → misfit_after s before (p ∷ ps) ≡ misfit_after s (before ++ p ∷ []) ps
unfolding misfit_after
fits_first s before p ps fits = ap (λ r. misfit_or p.index r (misfit_after s (before ++ p ∷ []) ps)) (sym (row_first s before p ps) ∙ fits)

pub none_back : (s : Setting) (before placed : List PlacedHeader) → NoneFails s before placed → misfit_after s before placed ≡ None
unfolding misfit_after
none_back s before [] none = refl
none_back s before (p ∷ ps) none =
    fits_first s before p ps (none 0 p refl)
    ∙ none_back s (before ++ p ∷ []) ps (λ place q there. row_behind s before p ps place q ∙ none (suc place) q there)

at_place : (s : Setting) (before placed : List PlacedHeader) (m : Misfit) (place : ℕ) (header : PlacedHeader)
    → slice_get placed place ≡ Some header → m.index ≡ header.index → row_at s before placed place header ≡ Some m.why
    → ((earlier : ℕ) (p : PlacedHeader) → earlier < place → slice_get placed earlier ≡ Some p → row_at s before placed earlier p ≡ None)
    → misfit_after s before placed ≡ Some m
unfolding misfit_after
at_place s before [] m place header stands number why least = cc
at_place s before (p ∷ ps) m zero header stands number why least =
    let same : p ≡ header = cc in
    let fails : row s (headers_in before) p.header ≡ Some m.why =
    sym (row_first s before p ps) ∙ ap (row_at s before (p ∷ ps) 0) same ∙ why in
    ap (λ r. misfit_or p.index r (misfit_after s (before ++ p ∷ []) ps)) fails
    ∙ ap (λ (index : ℕ). Some (record { index = index; why = m.why })) (ap (λ (p : PlacedHeader). p.index) same ∙ sym number)
at_place s before (p ∷ ps) m (suc place) header stands number why least =
    fits_first s before p ps (least 0 p (omega arith) refl)
    ∙ at_place s (before ++ p ∷ []) ps m place header stands number (row_behind s before p ps place header ∙ why)
    (λ earlier q less there. row_behind s before p ps earlier q ∙ least (suc earlier) q (omega arith) there)

pub first_back : (s : Setting) (before placed : List PlacedHeader) (m : Misfit) → IsFirst s before placed m → misfit_after s before placed ≡ Some m
first_back s before placed m f = at_place s before placed m f.place f.header f.stands f.number f.why f.least

-- ---- pages that are repeated
got : {X : Type 0} (xs : List X) (k : ℕ) (x : X) → k < length xs → get_or xs k x ≡ x → slice_get xs k ≡ Some x
got [] k x within is = absurd (omega arith)
got (y ∷ xs) zero x within is = ap Some is
got (y ∷ xs) (suc k) x within is = got xs k x (omega arith) is

read : {X : Type 0} (xs : List X) (k : ℕ) (x d : X) → slice_get xs k ≡ Some x → get_or xs k d ≡ x
read [] k x d is = cc
read (y ∷ xs) zero x d is = cc
read (y ∷ xs) (suc k) x d is = read xs k x d is

pub repeated_from : (areas : List AreaEntry) (before : List Header) (h : Header) → list_any (share_page areas h) before ≡ true → IsRepeated areas before h
repeated_from areas before h there =
    let any = Any-from_list_any (share_page areas h) before there in
    let page = common_from (gpa_of h) (placed_pages areas h) (gpa_of any.1) (placed_pages areas any.1) any.4 in
    record {
      place = any.0;
      earlier = any.1;
      stands = got before any.0 any.1 any.2 any.3;
      i = page.0;
      j = page.1;
      page = record { first = page.2.first; second = page.2.second; same = page.2.same };
    }

pub repeated_back : (areas : List AreaEntry) (before : List Header) (h : Header) → IsRepeated areas before h → list_any (share_page areas h) before ≡ true
repeated_back areas before h r =
    let page = common_at (gpa_of h) (placed_pages areas h) (gpa_of r.earlier) (placed_pages areas r.earlier) r.i r.j (record { first = r.page.first; second = r.page.second; same = r.page.same }) in
    list_any_at (share_page areas h) before r.place r.earlier (slice_get_within before r.place r.earlier r.stands)
    (ap (share_page areas h) (read before r.place r.earlier r.earlier r.stands) ∙ page)
