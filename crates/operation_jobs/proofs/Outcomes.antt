-- What jobs that copy an image's list give: its data are too many, its image is too large, or it is written.
use Rattle.std.proofs.Common.{◌≡◌, ◌∙◌, ℕ, ◌<◌, ◌≤◌, refl, ap, subst, inl, inr, ◌⊎◌, List, length, Bool, true, false, Option, arith}
use Rattle.std.proofs.lemmas.Bool.Decides.{nat_tests}
use Rattle.std.specs.Prelude.{nat_le, nat_lt, if◌then◌else◌}
use Rattle.igvm_outside.specs.Files.{Files}
use Rattle.igvm_outside.specs.declared.sink.Sink as sinks
use Rattle.component_list.specs.ImageList.{list_of}
use Rattle.component_list.specs.Lists.{ImageParts}
use Rattle.image_builder.specs.Layout.{layout}
use Rattle.igvm_jobs.specs.declared.status.Status.{Status}
use Rattle.igvm_jobs.specs.declared.status.Status.TheVariants as is
use Rattle.igvm_jobs.specs.Texts.{built_text, large_data_text, large_image_text}
use Rattle.igvm_jobs.specs.Outcome.{Outcome, refused, done_writing}
use Rattle.igvm_jobs.specs.BuildJob.{image_limit, parts_outcome}
use Rattle.igvm_jobs.specs.Clauses.{OutputIsKept, ErrorTextIsPut, FilesAreKept, Failures, Gains, IsPut}
use Rattle.igvm_jobs.proofs.JobAnswerLemmas.{line_put, text_put}
use Rattle.operation_jobs.specs.OperationAnswers.{IsWritten}
use Rattle.operation_jobs.specs.StoredData.{data_limit, data_outcome, stored_bytes}

-- ---- tests of limits

pub passes : (a b : ℕ) → a < b → nat_lt a b ≡ true
passes a b h = grind arith

pub stays : (a b : ℕ) → b ≤ a → nat_lt a b ≡ false
stays a b h = grind (arith, h)

pub passed : (a b : ℕ) → nat_lt a b ≡ true → a < b
passed a b h = grind (arith, nat_tests, h)

pub stayed : (a b : ℕ) → nat_lt a b ≡ false → b ≤ a
stayed a b h = grind (arith, nat_tests, h)

pub within : (a b : ℕ) → nat_le a b ≡ true → a ≤ b
within a b h = grind (arith, nat_tests, h)

pub past : (a b : ℕ) → nat_le a b ≡ false → b < a
past a b h = grind (arith, nat_tests, h)

-- ---- the data

-- the data are too many, or the list decides
abbrev pub DataAre : (ImageParts → Outcome) → List ℕ → Outcome → Type 0
DataAre next bytes x = (x ≡ refused is.Limit large_data_text) ⊎ ((stored_bytes bytes ≤ data_limit) × (x ≡ next (list_of bytes)))

pub data_are : (next : ImageParts → Outcome) (bytes : List ℕ) (x : Outcome) → x ≡ data_outcome next bytes → DataAre next bytes x
data_are next bytes x same = cases (nat_lt data_limit (stored_bytes bytes)) refl same
  where
    cases : (b : Bool) → nat_lt data_limit (stored_bytes bytes) ≡ b → x ≡ (if b then refused is.Limit large_data_text else next (list_of bytes)) → DataAre next bytes x
    cases true large same = inl same
    cases false few same = inr (stayed data_limit (stored_bytes bytes) few, same)

-- ---- the image of a list

-- it is too large, or is written
abbrev pub PartsAre : List ℕ → ImageParts → Outcome → Type 0
PartsAre target list x =
    (x ≡ refused is.Limit large_image_text) ⊎ ((length (layout list) ≤ image_limit) × (x ≡ done_writing target (layout list) (built_text (length (layout list)))))

pub parts_are : (target : List ℕ) (list : ImageParts) (x : Outcome) → x ≡ parts_outcome target list → PartsAre target list x
unfolding parts_outcome
parts_are target list x same = cases (nat_lt image_limit (length (layout list))) refl same
  where
    cases : (b : Bool) → nat_lt image_limit (length (layout list)) ≡ b
        → x ≡ (if b then refused is.Limit large_image_text else done_writing target (layout list) (built_text (length (layout list)))) → PartsAre target list x
    cases true large same = inl same
    cases false within same = inr (stayed image_limit (length (layout list)) within, same)

-- ---- what is put

pub status_is : {x y : Outcome} → x ≡ y → x.status ≡ y.status
status_is same = ap (λ (z : Outcome). z.status) same

-- the line of a refusal with a status that puts it
line_of : {E : Type 0} (e : sinks.Ghosts E) (x : Outcome) (st : Status) (text : List ℕ) (status : Status) (err err' : E) (failed : Failures) → (ErrorTextIsPut e x st failed err err' → IsPut e x.err err err')
    → ErrorTextIsPut e x status failed err err' → status ≡ x.status → x ≡ refused st text → (status ≡ st) × IsPut e text err err'
line_of e x st text status err err' failed put error same gives =
    let at = same ∙ status_is gives in
    (at, subst (λ (y : Outcome). IsPut e y.err err err') gives (line_put e x status err err' failed st at put error))

pub platform_line : {E : Type 0} (e : sinks.Ghosts E) (x : Outcome) (text : List ℕ) (status : Status) (err err' : E) (failed : Failures) → ErrorTextIsPut e x status failed err err' → status ≡ x.status
    → x ≡ refused is.Platform text → (status ≡ is.Platform) × IsPut e text err err'
platform_line e x text status err err' failed error same gives = line_of e x is.Platform text status err err' failed (λ p. p) error same gives

pub limit_line : {E : Type 0} (e : sinks.Ghosts E) (x : Outcome) (text : List ℕ) (status : Status) (err err' : E) (failed : Failures) → ErrorTextIsPut e x status failed err err' → status ≡ x.status
    → x ≡ refused is.Limit text → (status ≡ is.Limit) × IsPut e text err err'
limit_line e x text status err err' failed error same gives = line_of e x is.Limit text status err err' failed (λ p. p) error same gives

-- the image is written, and its size is put
pub written : {O : Type 0} (o : sinks.Ghosts O) (target : List ℕ) (list : ImageParts) (x : Outcome) (status : Status) (told told' : Option Files) (out out' : O) → OutputIsKept o x status out out'
    → FilesAreKept x status told told' → status ≡ x.status → length (layout list) ≤ image_limit → x ≡ done_writing target (layout list) (built_text (length (layout list)))
    → (status ≡ is.Done) × IsWritten target list told told' (λ text. Gains o text out out')
written o target list x status told told' out out' output files same within gives =
    let at = same ∙ status_is gives in (
      at,
      record {
        within = within;
        written = subst (λ (y : Outcome). FilesAreKept y is.Done told told') gives (subst (λ (q : Status). FilesAreKept x q told told') at files);
        put = subst (λ (y : Outcome). Gains o y.out out out') gives (text_put o x status out out' at output);
      },
    )
