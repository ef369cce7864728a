-- A page that was just placed.
use Rattle.std.proofs.Common.{◌≡◌, ℕ, List, [], ◌∷◌, ◌++◌, length, refl, sym, ap, subst, ◌∙◌, Some}
use Rattle.std.specs.Prelude.{slice_get}
use Rattle.std.specs.Option.{option_map}
use Rattle.igvm_headers.specs.declared.tag.Tag.{Tag}
use Rattle.igvm_headers.specs.declared.tag.Tag.TheVariants.{Normal}
use Rattle.launch_platform.specs.Machine.{State}
use Rattle.launch_platform.specs.Commands.{Place, Add, CanAdd, CanExtend, TagFits, after_command, new_entry, tagged}
use Rattle.launch_platform.proofs.ChangedEntries.{change_at-changed}

slice_get-last : {X : Type 0} (xs : List X) (x : X) → slice_get (xs ++ x ∷ []) (length xs) ≡ Some x
slice_get-last [] x = refl
slice_get-last (y ∷ xs) x = slice_get-last xs x

pub can_add : (s : State) (gpa : ℕ) (page : List ℕ) (tag : Tag) → TagFits s.kind tag page → CanAdd (length s.entries) tag (after_command (Place gpa page) s)
can_add s gpa page tag fits = record {
  entry = new_entry gpa page;
  there = slice_get-last s.entries (new_entry gpa page);
  untagged = refl;
  fits = fits;
}

pub can_extend : (s : State) (gpa : ℕ) (page : List ℕ)
    → CanExtend (length s.entries) (after_command (Add (length s.entries) Normal) (after_command (Place gpa page) s))
can_extend s gpa page = record {
  entry = tagged Normal (new_entry gpa page);
  there =
      change_at-changed (s.entries ++ new_entry gpa page ∷ []) (length s.entries) (tagged Normal)
      ∙ ap (option_map (tagged Normal)) (slice_get-last s.entries (new_entry gpa page));
  normal = refl;
  once = refl;
}

-- the same, by the states that a machine has after each command
pub can_extend_next : (s t u : State) (slot gpa : ℕ) (page : List ℕ) → t ≡ after_command (Place gpa page) s → slot ≡ length s.entries
    → u ≡ after_command (Add slot Normal) t → CanExtend slot u
can_extend_next s t u slot gpa page placed first added =
    let at : after_command (Add slot Normal) t ≡ after_command (Add (length s.entries) Normal) (after_command (Place gpa page) s) =
    ap (λ n. after_command (Add n Normal) t) first ∙ ap (after_command (Add (length s.entries) Normal)) placed in
    subst (λ n. CanExtend n u) (sym first) (subst (CanExtend (length s.entries)) (sym (added ∙ at)) (can_extend s gpa page))
