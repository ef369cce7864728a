-- What commands behind others leave, and the entry that was placed last.
use Rattle.std.proofs.Common.{◌≡◌, List, [], ◌∷◌, ◌++◌, length, refl, sym, ap, ◌∙◌, append_assoc, Some}
use Rattle.std.specs.Prelude.{slice_get}
use Rattle.launch_platform.specs.Machine.{State}
use Rattle.launch_platform.specs.Commands.{Command, after_command, records_of, change_at}
use Rattle.image_loader.specs.LoadCommands.{state_after, records_by}

pub state_after-append : (cs ds : List Command) (s : State)
    → state_after (cs ++ ds) s ≡ state_after ds (state_after cs s)
state_after-append [] ds s = refl
state_after-append (c ∷ cs) ds s = state_after-append cs ds (after_command c s)

pub records_by-append : (cs ds : List Command) (s : State)
    → records_by (cs ++ ds) s ≡ records_by cs s ++ records_by ds (state_after cs s)
records_by-append [] ds s = refl
records_by-append (c ∷ cs) ds s =
    ap (λ rs. records_of c s ++ rs) (records_by-append cs ds (after_command c s))
    ∙ sym (append_assoc (records_of c s) (records_by cs (after_command c s)) (records_by ds (state_after (c ∷ cs) s)))

-- a change at the end of a list is one of its last element
pub change_at_end : {X : Type 0} (xs : List X) (x : X) (change : X → X)
    → change_at (length xs) change (xs ++ x ∷ []) ≡ xs ++ change x ∷ []
change_at_end [] x change = refl
change_at_end (y ∷ ys) x change = ap (λ zs. y ∷ zs) (change_at_end ys x change)

pub slice_get_end : {X : Type 0} (xs : List X) (x : X) → slice_get (xs ++ x ∷ []) (length xs) ≡ Some x
slice_get_end [] x = refl
slice_get_end (y ∷ ys) x = slice_get_end ys x
