-- A walk over an image's headers that looks for one, and then for the one behind it.
use Rattle.std.proofs.Common.{◌≡◌, ◌≢◌, ◌∙◌, ℕ, List, [], ◌∷◌, refl, sym, ap, arith, true, false, Option, Some, None}
use Rattle.std.specs.Prelude.{◌==◌, ◌||◌, cond}
use Rattle.igvm_image.specs.Headers.{PlacedHeader, placed_headers}
use Rattle.igvm_c.specs.declared.headers.Found.{Found}
use Rattle.igvm_c.specs.Headers.{found_in, followed, last_header, with_next}

-- what is found in the end, where this one waits for the header behind it
abbrev pub pending_in : ℕ → Option Found → List PlacedHeader → Option Found
pending_in at None rest = found_in at rest
pending_in at (Some f) rest = Some (followed f rest)

-- What is found in all headers is what is found in those to come.
pub record IsPending (file : List ℕ) (at : ℕ) (rest : List PlacedHeader) (pending : Option Found) : Type 0 where
  pub same : found_in at (placed_headers file) ≡ pending_in at pending rest

pub pending_start : (file : List ℕ) (at : ℕ) (rest : List PlacedHeader) (pending : Option Found) → rest ≡ placed_headers file → pending ≡ None → IsPending file at rest pending
pending_start file at rest None all none = record { same = ap (found_in at) (sym all) }
pending_start file at rest (Some f) all none = cc

-- the header behind it
pub pending_next : (file : List ℕ) (at : ℕ) (rest : List PlacedHeader) (pending : Option Found) (f : Found) (p : PlacedHeader) (others : List PlacedHeader) → IsPending file at rest pending → pending ≡ Some f → rest ≡ p ∷ others
    → found_in at (placed_headers file) ≡ Some (with_next f p.at)
pending_next file at rest pending f p others h some first =
    h.same ∙ ap (λ q. pending_in at q rest) some ∙ ap (λ ps. Some (followed f ps)) first

step : (at : ℕ) (p : PlacedHeader) (others : List PlacedHeader) → found_in at (p ∷ others) ≡ cond ((at == 0) || (p.at == at)) (Some (followed (last_header p) others)) (found_in at others)
unfolding found_in
step at p others = refl

-- the header itself
pub pending_found : (file : List ℕ) (at : ℕ) (rest : List PlacedHeader) (pending : Option Found) (p : PlacedHeader) (others : List PlacedHeader) (f : Found) → IsPending file at rest pending → pending ≡ None → rest ≡ p ∷ others
    → f ≡ last_header p → ((at == 0) || (p.at == at)) ≡ true → IsPending file at others (Some f)
pending_found file at rest pending p others f h none first it here = record {
  same = h.same ∙ ap (λ q. pending_in at q rest) none ∙ ap (found_in at) first ∙ step at p others
      ∙ ap (λ b. cond b (Some (followed (last_header p) others)) (found_in at others)) here
      ∙ ap (λ g. Some (followed g others)) (sym it);
}

-- another header
pub pending_other : (file : List ℕ) (at : ℕ) (rest : List PlacedHeader) (pending : Option Found) (p : PlacedHeader) (others : List PlacedHeader) → IsPending file at rest pending → pending ≡ None → rest ≡ p ∷ others
    → ((at == 0) || (p.at == at)) ≡ false → IsPending file at others pending
pending_other file at rest pending p others h none first there = record {
  same = h.same ∙ ap (λ q. pending_in at q rest) none ∙ ap (found_in at) first ∙ step at p others
      ∙ ap (λ b. cond b (Some (followed (last_header p) others)) (found_in at others)) there
      ∙ ap (λ q. pending_in at q others) (sym none);
}

pub is_first : (at place : ℕ) → at ≡ 0 → ((at == 0) || (place == at)) ≡ true
is_first at place zero = grind (arith, zero)

pub is_there : (at place : ℕ) → place ≡ at → ((at == 0) || (place == at)) ≡ true
is_there at place here = grind (arith, here)

pub is_elsewhere : (at place : ℕ) → at ≢ 0 → place ≢ at → ((at == 0) || (place == at)) ≡ false
is_elsewhere at place one other = grind (arith, one, other)

-- no header is left
pub pending_end : (file : List ℕ) (at : ℕ) (rest : List PlacedHeader) (pending : Option Found) → IsPending file at rest pending → rest ≡ [] → found_in at (placed_headers file) ≡ pending
unfolding found_in
pending_end file at rest None h none = h.same ∙ ap (found_in at) none
pending_end file at rest (Some f) h none = h.same ∙ ap (λ ps. Some (followed f ps)) none
