-- Rows whose pages lie in a region.
use Rattle.std.proofs.Common.{◌≡◌, ℕ, zero, suc, ◌<◌, ◌≤◌, List, [], ◌∷◌, ◌++◌, length, get_or, set, refl, ap, arith, Some}
use Rattle.std.specs.Prelude.{slice_get}
use Rattle.std.specs.Option.{option_map}
use Rattle.launch_platform.specs.Commands.{change_at}
use Rattle.launch_platform.specs.GuestPages.{with_pages}

-- one more, whose page is written
pub with_pages-push : {M E : Type 0} (join : M → List ℕ → E) (ms : List M) (m : M) (pages : List (List ℕ)) (page : List ℕ) → length ms < length pages
    → with_pages join (ms ++ m ∷ []) (set pages (length ms) page) ≡ with_pages join ms pages ++ join m page ∷ []
with_pages-push join [] m [] page h = absurd (omega arith)
with_pages-push join [] m (p ∷ ps) page h = refl
with_pages-push join (x ∷ xs) m [] page h = absurd (omega arith)
with_pages-push join (x ∷ xs) m (p ∷ ps) page h = ap (λ es. join x p ∷ es) (with_pages-push join xs m ps page (omega arith))

-- a page behind them is written
pub with_pages-past : {M E : Type 0} (join : M → List ℕ → E) (ms : List M) (pages : List (List ℕ)) (i : ℕ) (page : List ℕ) → length ms ≤ i
    → with_pages join ms (set pages i page) ≡ with_pages join ms pages
with_pages-past join [] pages i page h = refl
with_pages-past join (x ∷ xs) [] i page h = refl
with_pages-past join (x ∷ xs) (p ∷ ps) zero page h = absurd (omega arith)
with_pages-past join (x ∷ xs) (p ∷ ps) (suc i) page h = ap (λ es. join x p ∷ es) (with_pages-past join xs ps i page (omega arith))

pub length-with_pages : {M E : Type 0} (join : M → List ℕ → E) (ms : List M) (pages : List (List ℕ)) → length ms ≤ length pages → length (with_pages join ms pages) ≡ length ms
length-with_pages join [] pages h = refl
length-with_pages join (x ∷ xs) [] h = absurd (omega arith)
length-with_pages join (x ∷ xs) (p ∷ ps) h = ap suc (length-with_pages join xs ps (omega arith))

-- one of them is changed
pub with_pages-change : {M E : Type 0} (join : M → List ℕ → E) (ms : List M) (pages : List (List ℕ)) (i : ℕ) (d m : M) (change : E → E) → length ms ≤ length pages → i < length ms
    → ((page : List ℕ) → join m page ≡ change (join (get_or ms i d) page))
    → with_pages join (set ms i m) pages ≡ change_at i change (with_pages join ms pages)
with_pages-change join [] pages i d m change long h f = absurd (omega arith)
with_pages-change join (x ∷ xs) [] i d m change long h f = absurd (omega arith)
with_pages-change join (x ∷ xs) (p ∷ ps) zero d m change long h f = ap (λ e. e ∷ with_pages join xs ps) (f p)
with_pages-change join (x ∷ xs) (p ∷ ps) (suc i) d m change long h f = ap (λ es. join x p ∷ es) (with_pages-change join xs ps i d m change (omega arith) (omega arith) f)

-- one of them
pub with_pages-at : {M E : Type 0} (join : M → List ℕ → E) (ms : List M) (pages : List (List ℕ)) (i : ℕ) (d : M) (page : List ℕ) → i < length ms → slice_get pages i ≡ Some page
    → slice_get (with_pages join ms pages) i ≡ Some (join (get_or ms i d) page)
with_pages-at join [] pages i d page h there = absurd (omega arith)
with_pages-at join (x ∷ xs) [] i d page h there = cc
with_pages-at join (x ∷ xs) (p ∷ ps) zero d page h there = ap (option_map (join x)) there
with_pages-at join (x ∷ xs) (p ∷ ps) (suc i) d page h there = with_pages-at join xs ps i d page (omega arith) there
