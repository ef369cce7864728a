-- The digest of an image as far as its pages are added.
use Rattle.std.proofs.Common.{◌≡◌, List, [], ◌∷◌, ◌++◌, map, refl, sym, ◌∙◌, subst, append_assoc, append-nil}
use Rattle.std.specs.List.{flat_map}
use Rattle.igvm_measure.specs.Measured.{Measured}

-- what a chain holds, with what the pages give that are left, is what all give
pub record Adding {M R : Type 0} (on : M → Measured) (records : M → List R) (all : List M) (left : List Measured) (Holds : List R → Type 0) : Type 0 where
  pub behind : List M
  pub held : List R
  pub are : left ≡ map on behind
  pub holds : Holds held
  pub same : held ++ flat_map records behind ≡ flat_map records all

-- before the first page
pub adding_none : {M R : Type 0} (on : M → Measured) (records : M → List R) (all : List M) (left : List Measured) (Holds : List R → Type 0)
    → left ≡ map on all → Holds [] → Adding on records all left Holds
adding_none on records all left Holds are empty = record { behind = all; held = []; are = are; holds = empty; same = refl }

-- the first of the pages that are left
pub record First {M : Type 0} (on : M → Measured) (page : Measured) (left : List Measured) (behind : List M) : Type 0 where
  pub first : M
  pub others : List M
  pub is : page ≡ on first
  pub are : left ≡ map on others
  pub split : behind ≡ first ∷ others

first_of : {M : Type 0} (on : M → Measured) (page : Measured) (left : List Measured) (behind : List M) → page ∷ left ≡ map on behind → First on page left behind
first_of on page left [] are = cc
first_of on page left (m ∷ ms) are = record { first = m; others = ms; is = cc; are = cc; split = refl }

pub first_left : {M R : Type 0} (on : M → Measured) (records : M → List R) (all : List M) (before : List Measured) (page : Measured) (left : List Measured) (Holds : List R → Type 0)
    → (adding : Adding on records all before Holds) → before ≡ page ∷ left → First on page left adding.behind
first_left on records all before page left Holds adding next = first_of on page left adding.behind (sym next ∙ adding.are)

-- a page more
pub adding_more : {M R : Type 0} (on : M → Measured) (records : M → List R) (all : List M) (before : List Measured) (page : Measured) (left : List Measured) (Holds Now : List R → Type 0)
    → Adding on records all before Holds → before ≡ page ∷ left
    → ((held : List R) (m : M) → page ≡ on m → Holds held → Now (held ++ records m))
    → Adding on records all left Now
adding_more {M} {R} on records all before page left Holds Now adding next added =
    let first = first_left on records all before page left Holds adding next in
    let here : adding.held ++ flat_map records (first.first ∷ first.others) ≡ flat_map records all =
    subst (λ (ms : List M). adding.held ++ flat_map records ms ≡ flat_map records all) first.split adding.same in
    record {
      behind = first.others;
      held = adding.held ++ records first.first;
      are = first.are;
      holds = added adding.held first.first first.is adding.holds;
      same = append_assoc adding.held (records first.first) (flat_map records first.others) ∙ here;
    }

none_left : {M : Type 0} (on : M → Measured) (behind : List M) → [] ≡ map on behind → behind ≡ []
none_left on [] are = refl
none_left on (m ∷ ms) are = cc

-- behind the last page
pub adding_all : {M R : Type 0} (on : M → Measured) (records : M → List R) (all : List M) (left : List Measured) (Holds : List R → Type 0)
    → Adding on records all left Holds → left ≡ [] → Holds (flat_map records all)
adding_all {M} {R} on records all left Holds adding none =
    let over = none_left on adding.behind (sym none ∙ adding.are) in
    let here : adding.held ++ [] ≡ flat_map records all = subst (λ (ms : List M). adding.held ++ flat_map records ms ≡ flat_map records all) over adding.same in
    subst Holds (sym (append-nil adding.held) ∙ here) adding.holds
