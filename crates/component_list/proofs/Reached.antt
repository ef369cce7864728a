-- The directives before an entry, expanded.
use Rattle.std.proofs.Common.{◌⊎◌, inl, inr, ◌≡◌, ℕ, suc, ◌+◌, List, [], ◌∷◌, ◌++◌, length, take, refl, sym, ◌∙◌, ap, subst, add-zero, arith, Option, Some, None, Result, Ok, Err}
use Rattle.std.specs.Prelude.{IfSome, is_ok}
use Rattle.std.proofs.Math.Path.{fun_ext}
use Rattle.igvm_outside.specs.Files.{Files}
use Rattle.component_list.specs.declared.refusal.ExpandRefusal.{ExpandRefusal}
use Rattle.component_list.specs.declared.refusal.ExpandRefusal.TheVariants.{Read, TooLong, TooLarge, Rule, Memory}
use Rattle.component_list.specs.declared.source.Directive.{Directive}
use Rattle.component_list.specs.Source.{Source}
use Rattle.component_list.specs.Expansion.{◌>>=◌, Progress, added, begun, expanded_from, file_of, given_by, BeforeExpands, IsOfDirective, IsReached}

-- a step behind two is one behind the second
step_behind : (r : Result Progress ExpandRefusal) (f g : Progress → Result Progress ExpandRefusal) → (r >>= λ p. f p >>= g) ≡ ((r >>= f) >>= g)
step_behind (Ok p) f g = refl
step_behind (Err e) f g = refl

step_behind_file : (r : Result (Option (List ℕ)) ExpandRefusal) (s : Option (List ℕ) → Result Progress ExpandRefusal) (f g : Progress → Result Progress ExpandRefusal)
    → (r >>= λ file. s file >>= λ p. f p >>= g) ≡ ((r >>= λ file. s file >>= f) >>= g)
step_behind_file (Ok file) s f g = step_behind (s file) f g
step_behind_file (Err e) s f g = refl

-- some directives, and then those behind them
expanded_join : (files : Files) (at : ℕ) (front behind : List Directive) (p : Progress)
    → expanded_from files at (front ++ behind) p ≡ (expanded_from files at front p >>= expanded_from files (at + length front) behind)
expanded_join files at [] behind p = ap (λ n. expanded_from files n behind p) (sym (add-zero at))
expanded_join files at (d ∷ front) behind p =
    let next : suc at + length front ≡ at + suc (length front) = omega arith in
    let rest = λ (q : Progress). expanded_join files (suc at) front behind q ∙ ap (λ n. expanded_from files (suc at) front q >>= expanded_from files n behind) next in
    ap (λ f. given_by files at (file_of d) >>= λ file. added at d file p >>= f) (fun_ext rest)
    ∙ step_behind_file (given_by files at (file_of d)) (λ file. added at d file p) (expanded_from files (suc at) front) (expanded_from files (at + suc (length front)) behind)

-- one directive more expands
pub one_more : (files : Files) (ds : List Directive) (item : ℕ) (d : Directive) (file : Option (List ℕ)) (first p q : Progress)
    → length (take item ds) ≡ item → take (item + 1) ds ≡ take item ds ++ d ∷ []
    → expanded_from files 0 (take item ds) first ≡ Ok p → given_by files item (file_of d) ≡ Ok file → added item d file p ≡ Ok q
    → expanded_from files 0 (take (item + 1) ds) first ≡ Ok q
one_more files ds item d file first p q before taken so_far good fine =
    ap (λ xs. expanded_from files 0 xs first) taken
    ∙ expanded_join files 0 (take item ds) (d ∷ []) first
    ∙ ap (λ r. r >>= expanded_from files (0 + length (take item ds)) (d ∷ [])) so_far
    ∙ ap (λ n. expanded_from files n (d ∷ []) p) place
    ∙ ap (λ r. r >>= λ file. added item d file p >>= expanded_from files (suc item) []) good
    ∙ ap (λ r. r >>= expanded_from files (suc item) []) fine
  where
    place : 0 + length (take item ds) ≡ item
    place = omega arith

expands : (source : Source) (files : Files) (item : ℕ) (p : Progress) → expanded_from files 0 (take item source.directives) (begun source) ≡ Ok p → BeforeExpands source files item
expands source files item p is = ap is_ok is

-- a file that is not read is one before which all expand
pub read_reached : (told : Option Files) (source : Source) (item : ℕ) (p : Progress) (e : ExpandRefusal)
    → ((files : Files) → told ≡ Some files → expanded_from files 0 (take item source.directives) (begun source) ≡ Ok p)
    → (e ≡ Read item) ⊎ ((e ≡ TooLong item) ⊎ (e ≡ Memory)) → IfSome told (λ files. IsReached source files e)
read_reached None source item p e so_far which = tt
read_reached (Some files) source item p e so_far which =
    elim which [
      | inl read ↦ subst (IsReached source files) (sym read) (expands source files item p (so_far files refl))
      | inr other ↦ elim other [
        | inl long ↦ subst (IsReached source files) (sym long) tt
        | inr memory ↦ subst (IsReached source files) (sym memory) tt
      ]
    ]

-- and no other refusal is of a file that is not read
pub rules_reached : (told : Option Files) (source : Source) (item : ℕ) (e : ExpandRefusal) → IsOfDirective item e → IfSome told (λ files. IsReached source files e)
rules_reached None source item e of = tt
rules_reached (Some files) source item (Read number) of = absurd of
rules_reached (Some files) source item (TooLong number) of = tt
rules_reached (Some files) source item (TooLarge number) of = tt
rules_reached (Some files) source item (Rule part number what) of = tt
rules_reached (Some files) source item Memory of = tt
