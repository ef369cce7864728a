-- A walk over headers.
use Rattle.std.proofs.Common.{◌≡◌, ◌⊎◌, ℕ, suc, ◌+◌, Result, Ok, Err, List, [], ◌∷◌, ◌++◌, map, refl, sym, ap, ◌∙◌, append-nil, inl, inr, subst, Bool, true, false, cond, Option, Some, None}
use Rattle.std.specs.Prelude.{filter}
use Rattle.std.specs.List.{flat_map}
use Rattle.igvm_headers.specs.declared.options.Options.{Options}
use Rattle.igvm_headers.specs.declared.platform_kind.PlatformKind.{PlatformKind}
use Rattle.igvm_headers.specs.declared.platform_kind.PlatformKind.TheVariants.{Native, VsmIsolation, SevSnp, Tdx, Sev, SevEs}
use Rattle.platform_masks.specs.Masks.{applies}
use Rattle.igvm_image.specs.Areas.{areas_of}
use Rattle.igvm_headers.specs.HeaderForm.{header_form}
use Rattle.igvm_headers.specs.declared.header.Header.{Header}
use Rattle.igvm_headers.specs.declared.fault.HeaderFault.{HeaderFault}
use Rattle.igvm_image.specs.Pieces.{Piece, size_of}
use Rattle.igvm_image.specs.Headers.{PlacedHeader, placed_from, placed_before, placed_header, placed_headers, headers_of}
use Rattle.std.proofs.lemmas.List.{map-append}
use Rattle.igvm_measure.specs.Measured.{Measured, counted, on_snp, on_tdx, snp_header_measured, tdx_header_measured, measured_by}
use Rattle.std.specs.List.{AllByRecursion}
use Rattle.igvm_image.specs.PagesFit.{PagesFit}
use Rattle.std.specs.Prelude.{IfSome}
use Rattle.igvm_measure.specs.declared.run.MeasuredPage.{MeasuredPage}
use Rattle.igvm_measure.specs.declared.run.Run.{Run}
use Rattle.igvm_measure.specs.declared.walk.Walk.{Walk}
use Rattle.igvm_measure.specs.Runs.{HasItsPages, IsRunIfAny, option_left, page_view, header_measured}
use Rattle.igvm_measure.specs.Walks.{IsWalk, walk_left}

map-flat_map : {A B C : Type 0} (f : B → C) (g : A → List B) (xs : List A) → map f (flat_map g xs) ≡ flat_map (λ x. map f (g x)) xs
map-flat_map f g [] = refl
map-flat_map f g (x ∷ xs) = map-append f (g x) (flat_map g xs) ∙ ap (λ ys. map f (g x) ++ ys) (map-flat_map f g xs)

-- the headers of a file have their pages
pub placed_from-pages : (body : List ℕ) (index at : ℕ) (ps : List Piece) → AllByRecursion HasItsPages (placed_from body index at ps)
unfolding placed_from
placed_from-pages body index at [] = tt
placed_from-pages body index at (p ∷ ps) =
    cases (header_form p.kind p.content) (placed_from-pages body (suc index) (at + size_of p) ps)
  where
    cases : (form : Result Header HeaderFault) → AllByRecursion HasItsPages (placed_from body (suc index) (at + size_of p) ps)
        → AllByRecursion HasItsPages (placed_before (placed_header body index at p) form (placed_from body (suc index) (at + size_of p) ps))
    cases (Ok header) h = (refl, h)
    cases (Err fault) h = tt

-- ---- a walk

pub counted_all : (kind : PlatformKind) (options : Options) (file : List ℕ) (mask : ℕ) → (kind ≡ SevSnp) ⊎ (kind ≡ Tdx)
    → counted (header_measured kind options (areas_of (headers_of file))) mask (placed_headers file) ≡ measured_by kind options file mask
counted_all SevSnp options file mask launch = sym (map-flat_map on_snp (snp_header_measured options (areas_of (headers_of file))) (filter (λ (p : PlacedHeader). applies p.header mask) (placed_headers file)))
counted_all Tdx options file mask launch = sym (map-flat_map on_tdx (tdx_header_measured (areas_of (headers_of file))) (filter (λ (p : PlacedHeader). applies p.header mask) (placed_headers file)))
counted_all Native options file mask (inl is) = cc
counted_all Native options file mask (inr is) = cc
counted_all VsmIsolation options file mask (inl is) = cc
counted_all VsmIsolation options file mask (inr is) = cc
counted_all Sev options file mask (inl is) = cc
counted_all Sev options file mask (inr is) = cc
counted_all SevEs options file mask (inl is) = cc
counted_all SevEs options file mask (inr is) = cc

-- what the first header gives, and the others
pub counted-first : (given : PlacedHeader → List Measured) (mask : ℕ) (p : PlacedHeader) (ps : List PlacedHeader) → counted given mask (p ∷ ps) ≡ counted given mask (p ∷ []) ++ counted given mask ps
counted-first given mask p ps = cases (applies p.header mask)
  where
    cases : (b : Bool) → flat_map given (cond b (p ∷ filter (λ q. applies q.header mask) ps) (filter (λ q. applies q.header mask) ps))
        ≡ flat_map given (cond b (p ∷ []) []) ++ counted given mask ps
    cases true = ap (λ (xs : List Measured). xs ++ counted given mask ps) (sym (append-nil (given p)))
    cases false = refl

pub counted_one : (given : PlacedHeader → List Measured) (mask : ℕ) (p : PlacedHeader) → applies p.header mask ≡ true → counted given mask (p ∷ []) ≡ given p
counted_one given mask p counts =
    ap (λ (b : Bool). flat_map given (cond b (p ∷ []) [])) counts ∙ append-nil (given p)

pub counted_none : (given : PlacedHeader → List Measured) (mask : ℕ) (p : PlacedHeader) → applies p.header mask ≡ false → counted given mask (p ∷ []) ≡ []
counted_none given mask p counts = ap (λ (b : Bool). flat_map given (cond b (p ∷ []) [])) counts

-- a walk at its first page
pub at_first : (w : Walk) (file : List ℕ) → w.view.now ≡ file → w.run ≡ None → w.headers ≡ placed_headers file → (w.kind ≡ SevSnp) ⊎ (w.kind ≡ Tdx)
    → walk_left w ≡ measured_by w.kind w.options file w.mask
unfolding walk_left
at_first w file sees none first launch =
    ap (λ (run : Option Run). option_left run ++ counted (header_measured w.kind w.options (areas_of (headers_of w.view.now))) w.mask w.headers) none
    ∙ ap (λ (f : List ℕ). counted (header_measured w.kind w.options (areas_of (headers_of f))) w.mask w.headers) sees
    ∙ ap (counted (header_measured w.kind w.options (areas_of (headers_of file))) w.mask) first
    ∙ counted_all w.kind w.options file w.mask launch

-- a walk at its next header
abbrev pub moved : Walk → List PlacedHeader → Option Run → Walk
moved w ps run = record { view = w.view; kind = w.kind; mask = w.mask; options = w.options; headers = ps; run = run }

pub moved_left : (w : Walk) (p : PlacedHeader) (ps : List PlacedHeader) (run : Option Run) → w.headers ≡ p ∷ ps → option_left w.run ≡ []
    → option_left run ≡ counted (header_measured w.kind w.options (areas_of (headers_of w.view.now))) w.mask (p ∷ [])
    → walk_left (moved w ps run) ≡ walk_left w
unfolding walk_left
moved_left w p ps run first over is =
    let given = header_measured w.kind w.options (areas_of (headers_of w.view.now)) in
    ap (λ (xs : List Measured). xs ++ counted given w.mask ps) is
    ∙ sym (counted-first given w.mask p ps)
    ∙ ap (counted given w.mask) (sym first)
    ∙ ap (λ (xs : List Measured). xs ++ counted given w.mask w.headers) (sym over)

pub moved_walk : (w : Walk) (p : PlacedHeader) (ps : List PlacedHeader) (run : Option Run) → w.headers ≡ p ∷ ps → IsWalk w → IsRunIfAny run → IsWalk (moved w ps run)
moved_walk w p ps run first walk is = record {
  run = is;
  fit = (subst (λ (hs : List PlacedHeader). AllByRecursion (λ q. PagesFit (areas_of (headers_of w.view.now)) q.header) hs) first walk.fit).1;
  pages = (subst (λ (hs : List PlacedHeader). AllByRecursion HasItsPages hs) first walk.pages).1;
}

-- a walk at its end
pub ended_left : (w : Walk) (ps : List PlacedHeader) → w.headers ≡ [] → ps ≡ [] → walk_left (moved w ps w.run) ≡ walk_left w
unfolding walk_left
ended_left w ps none left =
    ap (λ (hs : List PlacedHeader). option_left w.run ++ counted (header_measured w.kind w.options (areas_of (headers_of w.view.now))) w.mask hs) (left ∙ sym none)

pub ended_walk : (w : Walk) (ps : List PlacedHeader) → ps ≡ [] → IsWalk w → IsWalk (moved w ps w.run)
ended_walk w ps left walk = record {
  run = walk.run;
  fit = subst (λ (hs : List PlacedHeader). AllByRecursion (λ q. PagesFit (areas_of (headers_of w.view.now)) q.header) hs) (sym left) tt;
  pages = subst (λ (hs : List PlacedHeader). AllByRecursion HasItsPages hs) (sym left) tt;
}

pub no_page_left : (w : Walk) → w.headers ≡ [] → option_left w.run ≡ [] → walk_left w ≡ []
unfolding walk_left
no_page_left w none over =
    ap (λ (hs : List PlacedHeader). option_left w.run ++ counted (header_measured w.kind w.options (areas_of (headers_of w.view.now))) w.mask hs) none
    ∙ append-nil (option_left w.run) ∙ over

-- a page is taken
pub taken_left : (w : Walk) (run : Option Run) (page : Measured) → option_left w.run ≡ page ∷ option_left run → walk_left w ≡ page ∷ walk_left (moved w w.headers run)
unfolding walk_left
taken_left w run page is =
    ap (λ (xs : List Measured). xs ++ counted (header_measured w.kind w.options (areas_of (headers_of w.view.now))) w.mask w.headers) is

pub taken_walk : (w : Walk) (run : Option Run) → IsWalk w → IsRunIfAny run → IsWalk (moved w w.headers run)
taken_walk w run walk is = record { run = is; fit = walk.fit; pages = walk.pages }

pub taken_page : (w : Walk) (run : Option Run) (found : Option MeasuredPage) (whole : List Measured) → walk_left w ≡ whole
    → IfSome found (λ page. option_left w.run ≡ page_view page ∷ option_left run)
    → IfSome found (λ page. whole ≡ page_view page ∷ walk_left (moved w w.headers run))
taken_page w run None whole same is = tt
taken_page w run (Some page) whole same is = sym same ∙ taken_left w run (page_view page) is
