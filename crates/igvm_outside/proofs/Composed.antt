-- One call after another on a shelf.
use Rattle.std.proofs.Common.{◌≡◌, ℕ, List, [], ◌++◌, ◌∙◌, ap, arith, inl, inr}
use Rattle.std.specs.Prelude.{Option, Some, None}
use Rattle.igvm_outside.specs.Files.{Files, content, with_file, with_more, NeverFalls}
use Rattle.igvm_outside.specs.ShelfCalls.{OnlyReads, MayChange, OnlyWrites}
use Rattle.igvm_outside.specs.declared.shelf.Shelf as shelves
use Rattle.igvm_outside.proofs.Written.{with_file-with_file}

never_falls_more : (first second third : List ℕ → ℕ) → NeverFalls first second → NeverFalls second third → NeverFalls first third
never_falls_more first second third before after name = omega (arith, before name, after name)

pub only_reads_more : {S : Type 0} (s : shelves.Ghosts S) (first second third : S) → OnlyReads s first second → OnlyReads s second third → OnlyReads s first third
only_reads_more s first second third before after = record {
  kept = after.kept ∙ before.kept;
  reads = never_falls_more _ _ _ before.reads after.reads;
  writes = never_falls_more _ _ _ before.writes after.writes;
  unwritten = λ closed. after.unwritten (before.unwritten closed);
}

changes_more : (first second third : Option Files) (name : List ℕ) → MayChange first second name → MayChange second third name → MayChange first third name
changes_more first second third name (inl before) (inl after) = inl (after ∙ before)
changes_more first second third name (inr before) (inl after) = inr (before.0, after ∙ before.1)
changes_more first second third name (inl before) (inr after) = inr (after.0, after.1 ∙ ap (λ told. with_file told name after.0) before)
changes_more first second third name (inr before) (inr after) =
    inr (after.0, after.1 ∙ ap (λ told. with_file told name after.0) before.1 ∙ with_file-with_file first name before.0 after.0)

pub only_writes_more : {S : Type 0} (s : shelves.Ghosts S) (name : List ℕ) (first second third : S)
    → OnlyWrites s name first second → OnlyWrites s name second third → OnlyWrites s name first third
only_writes_more s name first second third before after = record {
  others = changes_more _ _ _ name before.others after.others;
  reads = never_falls_more _ _ _ before.reads after.reads;
  writes = never_falls_more _ _ _ before.writes after.writes;
  given = after.given ∙ before.given;
}

-- a file that has more bytes is the one that changes
pub more_changes : (told told' : Option Files) (name more : List ℕ) → told' ≡ with_more told name more → MayChange told told' name
more_changes None told' name more is = inl is
more_changes (Some files) told' name more is = inr (content files name ++ more, is)

-- a file that is begun is the one that changes
pub created : {S : Type 0} (s : shelves.Ghosts S) (name : List ℕ) (old new : S) → s.told new ≡ with_file (s.told old) name []
    → NeverFalls (s.read_faults old) (s.read_faults new) → NeverFalls (s.write_faults old) (s.write_faults new) → s.given new ≡ s.given old
    → OnlyWrites s name old new
created s name old new emptied reads writes given = record { others = inr ([], emptied); reads = reads; writes = writes; given = given }
