-- The rows and the region of a machine in memory, as contracts see them.
use Rattle.std.proofs.Common.{◌≡◌, ℕ, zero, suc, ◌+◌, ◌-◌, ◌<◌, ◌≤◌, List, [], ◌∷◌, ◌++◌, length, get_or, drop, set, refl, sym, ap, subst, ◌∙◌, arith, Some, None}
use Rattle.std.specs.Prelude.{slice_get}
use Rattle.std.proofs.lemmas.List.{length_push, length-set, drop-set-lt, drop-set-add, length-drop}
use Rattle.std.proofs.lemmas.Option.{slice_get_past}
use Rattle.launch_platform.specs.declared.guest_pages.EntryRow.{EntryRow}
use Rattle.launch_platform.specs.declared.guest_pages.ContextRow.{ContextRow}
use Rattle.launch_platform.specs.Machine.{Entry, Context}
use Rattle.launch_platform.specs.Commands.{change_at}
use Rattle.launch_platform.specs.GuestPages.{PagesView, with_pages, entry_with, context_with, view_in, AreRoomy}
use Rattle.launch_platform.proofs.RowsWithPages.{with_pages-push, with_pages-past, length-with_pages, with_pages-change, with_pages-at}

slice_get_drop : {X : Type 0} (n : ℕ) (xs : List X) (i : ℕ) → slice_get (drop n xs) i ≡ slice_get xs (n + i)
slice_get_drop zero xs i = let e : i ≡ 0 + i = omega arith in ap (slice_get xs) e
slice_get_drop (suc n) [] i = refl
slice_get_drop (suc n) (x ∷ xs) i = let e : suc (n + i) ≡ suc n + i = omega arith in slice_get_drop n xs i ∙ ap (slice_get (x ∷ xs)) e

same_kept : (es fs : List Entry) (cs ds : List Context) (m n p q : ℕ) → es ≡ fs → cs ≡ ds → m ≡ n → p ≡ q
    → (let a : PagesView = record { entries = es; contexts = cs; spares = record { pages = m; contexts = p } } in a)
    ≡ record { entries = fs; contexts = ds; spares = record { pages = n; contexts = q } }
same_kept es fs cs ds m n p q e f g h = cc

pub kept_entries : (pages contexts a b : ℕ) (es : List EntryRow) (cs : List ContextRow) (region : List (List ℕ)) (k : PagesView)
    → AreRoomy pages contexts a b es cs region → view_in pages contexts es cs region ≡ k → length k.entries ≡ length es
kept_entries pages contexts a b es cs region k are e =
    ap (λ (k : PagesView). length k.entries) (sym e) ∙ length-with_pages entry_with es region (omega arith)

pub kept_contexts : (pages contexts a b : ℕ) (es : List EntryRow) (cs : List ContextRow) (region : List (List ℕ)) (k : PagesView)
    → AreRoomy pages contexts a b es cs region → view_in pages contexts es cs region ≡ k → length k.contexts ≡ length cs
kept_contexts pages contexts a b es cs region k are e =
    ap (λ (k : PagesView). length k.contexts) (sym e) ∙ length-with_pages context_with cs (drop pages region) (omega (arith, length-drop pages region))

-- one more entry
pub kept_place : (pages contexts a b : ℕ) (es : List EntryRow) (m : EntryRow) (cs : List ContextRow) (region : List (List ℕ)) (page : List ℕ) (slot : ℕ) (k : PagesView)
    → AreRoomy pages contexts a b es cs region → view_in pages contexts es cs region ≡ k → 0 < k.spares.pages → slot ≡ length es
    → view_in pages contexts (es ++ m ∷ []) cs (set region slot page)
    ≡ record k { entries = k.entries ++ entry_with m page ∷ []; spares = record k.spares { pages = k.spares.pages - 1 } }
kept_place pages contexts a b es m cs region page slot k are e some at =
    let room : length es < pages = omega (arith, subst (λ (k : PagesView). 0 < k.spares.pages) (sym e) some) in
    let entries : with_pages entry_with (es ++ m ∷ []) (set region slot page) ≡ with_pages entry_with es region ++ entry_with m page ∷ [] =
    ap (λ i. with_pages entry_with (es ++ m ∷ []) (set region i page)) at ∙ with_pages-push entry_with es m region page (omega arith) in
    let rest : with_pages context_with cs (drop pages (set region slot page)) ≡ with_pages context_with cs (drop pages region) =
    ap (with_pages context_with cs) (drop-set-lt pages region slot page (omega arith)) in
    let spare : pages - length (es ++ m ∷ []) ≡ pages - length es - 1 = omega (arith, length_push es m) in
    same_kept _ _ _ _ _ _ _ _ entries rest spare refl
    ∙ ap (λ (k : PagesView). record k { entries = k.entries ++ entry_with m page ∷ []; spares = record k.spares { pages = k.spares.pages - 1 } }) e

-- an entry is changed
pub kept_change : (pages contexts a b : ℕ) (es : List EntryRow) (cs : List ContextRow) (region : List (List ℕ)) (i : ℕ) (r m : EntryRow) (change : Entry → Entry) (k : PagesView)
    → AreRoomy pages contexts a b es cs region → view_in pages contexts es cs region ≡ k → i < length k.entries
    → r ≡ get_or es i r → ((page : List ℕ) → entry_with m page ≡ change (entry_with r page))
    → view_in pages contexts (set es i m) cs region ≡ record k { entries = change_at i change k.entries }
kept_change pages contexts a b es cs region i r m change k are e h is f =
    let size = kept_entries pages contexts a b es cs region k are e in
    let entries : with_pages entry_with (set es i m) region ≡ change_at i change (with_pages entry_with es region) =
    with_pages-change entry_with es region i r m change (omega arith) (omega arith) (λ page. f page ∙ ap (λ (s : EntryRow). change (entry_with s page)) is) in
    let spare : pages - length (set es i m) ≡ pages - length es = ap (λ n. pages - n) (length-set es i m) in
    same_kept _ _ _ _ _ _ _ _ entries refl spare refl
    ∙ ap (λ (k : PagesView). record k { entries = change_at i change k.entries }) e

-- one more context
pub kept_begin : (pages contexts a b : ℕ) (es : List EntryRow) (cs : List ContextRow) (m : ContextRow) (region : List (List ℕ)) (page : List ℕ) (slot : ℕ) (k : PagesView)
    → AreRoomy pages contexts a b es cs region → view_in pages contexts es cs region ≡ k → 0 < k.spares.contexts → slot ≡ pages + length cs
    → view_in pages contexts es (cs ++ m ∷ []) (set region slot page)
    ≡ record k { contexts = k.contexts ++ context_with m page ∷ []; spares = record k.spares { contexts = k.spares.contexts - 1 } }
kept_begin pages contexts a b es cs m region page slot k are e some at =
    let room : length cs < contexts = omega (arith, subst (λ (k : PagesView). 0 < k.spares.contexts) (sym e) some) in
    let entries : with_pages entry_with es (set region slot page) ≡ with_pages entry_with es region = with_pages-past entry_with es region slot page (omega arith) in
    let rest : with_pages context_with (cs ++ m ∷ []) (drop pages (set region slot page)) ≡ with_pages context_with cs (drop pages region) ++ context_with m page ∷ [] =
    ap (λ i. with_pages context_with (cs ++ m ∷ []) (drop pages (set region i page))) at
    ∙ ap (with_pages context_with (cs ++ m ∷ [])) (drop-set-add pages region (length cs) page)
    ∙ with_pages-push context_with cs m (drop pages region) page (omega (arith, length-drop pages region)) in
    let spare : contexts - length (cs ++ m ∷ []) ≡ contexts - length cs - 1 = omega (arith, length_push cs m) in
    same_kept _ _ _ _ _ _ _ _ entries rest refl spare
    ∙ ap (λ (k : PagesView). record k { contexts = k.contexts ++ context_with m page ∷ []; spares = record k.spares { contexts = k.spares.contexts - 1 } }) e

pub kept_at : (pages contexts a b : ℕ) (es : List EntryRow) (cs : List ContextRow) (region : List (List ℕ)) (i : ℕ) (r : EntryRow) (page : List ℕ) (k : PagesView)
    → view_in pages contexts es cs region ≡ k → i < length es → r ≡ get_or es i r → slice_get region i ≡ Some page
    → Some (entry_with r page) ≡ slice_get k.entries i
kept_at pages contexts a b es cs region i r page k e h is there =
    ap (λ (s : EntryRow). Some (entry_with s page)) is ∙ sym (with_pages-at entry_with es region i r page h there) ∙ ap (λ (k : PagesView). slice_get k.entries i) e

pub kept_past : (pages contexts a b : ℕ) (es : List EntryRow) (cs : List ContextRow) (region : List (List ℕ)) (i : ℕ) (k : PagesView)
    → AreRoomy pages contexts a b es cs region → view_in pages contexts es cs region ≡ k → length es ≤ i → None ≡ slice_get k.entries i
kept_past pages contexts a b es cs region i k are e h =
    let size = kept_entries pages contexts a b es cs region k are e in sym (slice_get_past k.entries i (omega arith))

pub context_there : (pages contexts a b : ℕ) (es : List EntryRow) (cs : List ContextRow) (region : List (List ℕ)) (i : ℕ) (r : ContextRow) (page : List ℕ) (k : PagesView)
    → view_in pages contexts es cs region ≡ k → i < length cs → r ≡ get_or cs i r → slice_get region (pages + i) ≡ Some page
    → Some (context_with r page) ≡ slice_get k.contexts i
context_there pages contexts a b es cs region i r page k e h is there =
    ap (λ (s : ContextRow). Some (context_with s page)) is
    ∙ sym (with_pages-at context_with cs (drop pages region) i r page h (slice_get_drop pages region i ∙ there))
    ∙ ap (λ (k : PagesView). slice_get k.contexts i) e

pub context_past : (pages contexts a b : ℕ) (es : List EntryRow) (cs : List ContextRow) (region : List (List ℕ)) (i : ℕ) (k : PagesView)
    → AreRoomy pages contexts a b es cs region → view_in pages contexts es cs region ≡ k → length cs ≤ i → None ≡ slice_get k.contexts i
context_past pages contexts a b es cs region i k are e h =
    let size = kept_contexts pages contexts a b es cs region k are e in sym (slice_get_past k.contexts i (omega arith))

pub kept_placed : (pages contexts a b : ℕ) (es more : List EntryRow) (m : EntryRow) (cs : List ContextRow) (region after : List (List ℕ)) (page : List ℕ) (slot : ℕ) (k : PagesView)
    → AreRoomy pages contexts a b es cs region → view_in pages contexts es cs region ≡ k → 0 < k.spares.pages → slot ≡ length es
    → more ≡ es ++ m ∷ [] → after ≡ set region slot page
    → view_in pages contexts more cs after
    ≡ record k { entries = k.entries ++ entry_with m page ∷ []; spares = record k.spares { pages = k.spares.pages - 1 } }
kept_placed pages contexts a b es more m cs region after page slot k are e some at f g =
    ap (λ es. view_in pages contexts es cs after) f ∙ ap (λ r. view_in pages contexts (es ++ m ∷ []) cs r) g ∙ kept_place pages contexts a b es m cs region page slot k are e some at

pub kept_begun : (pages contexts a b : ℕ) (es : List EntryRow) (cs more : List ContextRow) (m : ContextRow) (region after : List (List ℕ)) (page : List ℕ) (slot : ℕ) (k : PagesView)
    → AreRoomy pages contexts a b es cs region → view_in pages contexts es cs region ≡ k → 0 < k.spares.contexts → slot ≡ pages + length cs
    → more ≡ cs ++ m ∷ [] → after ≡ set region slot page
    → view_in pages contexts es more after
    ≡ record k { contexts = k.contexts ++ context_with m page ∷ []; spares = record k.spares { contexts = k.spares.contexts - 1 } }
kept_begun pages contexts a b es cs more m region after page slot k are e some at f g =
    ap (λ cs. view_in pages contexts es cs after) f ∙ ap (λ r. view_in pages contexts es (cs ++ m ∷ []) r) g ∙ kept_begin pages contexts a b es cs m region page slot k are e some at
