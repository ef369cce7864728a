-- What a shelf in memory reads: the file at the index that it keeps is the one of the name that is given.
use Rattle.std.proofs.Common.{◌≡◌, ℕ, List, [], get_or, sym, ◌∙◌, ap, subst}
use Rattle.std.specs.Prelude.{Some, IsSome, is_some}
use Rattle.std.specs.FinMap as map
use Rattle.igvm_outside.specs.Files.{Files, State, Nothing, Reading, Writing, content}
use Rattle.igvm_outside.specs.MemFiles.{files_of, name_at, state_of, IsOpenAt, IsFileAt}
use Rattle.igvm_outside.specs.declared.fakes.mem_files.KeptFile.{KeptFile}
use Rattle.igvm_outside.specs.declared.fakes.mem_files.Turn.{Turn}
use Rattle.igvm_outside.specs.declared.fakes.mem_files.Turn.TheVariants.{Read}
use Rattle.igvm_outside.proofs.Entries.{is_there, content_there, bytes_read}

pub found : (files : List KeptFile) (told : Files) (name : List ℕ) (file : ℕ) → files_of files ≡ told → IsFileAt files name file → IsSome (map.get told name)
found files told name file same here = subst (λ t. IsSome (map.get t name)) same (ap is_some (is_there files name file here))

-- where a reading stands, if that is told
name_of : State → List ℕ
name_of Nothing = []
name_of (Reading (Some at)) = at.0
name_of (Reading other) = []
name_of (Writing to) = []

place_of : State → ℕ
place_of Nothing = 0
place_of (Reading (Some at)) = at.1
place_of (Reading other) = 0
place_of (Writing to) = 0

pub record IsRead (files : List KeptFile) (told : Files) (name : List ℕ) (file place at : ℕ) (d : KeptFile) : Type 0 where
  pub held : content told name ≡ (get_or files file d).bytes.items
  pub same_place : place ≡ at

pub is_read : (files : List KeptFile) (told : Files) (state : State) (turn : Turn) (name : List ℕ) (file place at : ℕ) (d : KeptFile) → files_of files ≡ told
    → state_of files turn ≡ state → IsOpenAt files turn → turn ≡ Read file place → state ≡ Reading (Some (name, at)) → IsRead files told name file place at d
unfolding name_of place_of
is_read files told state turn name file place at d same open_is is_open turn_is state_is =
    let here = (subst (IsOpenAt files) turn_is is_open).0 in
    let states : Reading (Some (name_at files file, place)) ≡ Reading (Some (name, at)) = ap (state_of files) (sym turn_is) ∙ open_is ∙ state_is in
    let names : name_at files file ≡ name = ap name_of states in
    record {
      held =
          subst (λ t. content t name ≡ (get_or files file d).bytes.items) same
          (subst (λ n. content (files_of files) n ≡ (get_or files file d).bytes.items) names
          (content_there files (name_at files file) file here ∙ bytes_read files file d here.within));
      same_place = ap place_of states;
    }
