-- What some bytes of an image file, as many as were given, come to: they are refused, or are an image that decides.
use Rattle.std.proofs.Common.{◌≡◌, ◌∙◌, ℕ, ◌≤◌, refl, sym, ap, subst, inl, inr, ◌⊎◌, List, length, Option, Some, None, Bool, true, false}
use Rattle.std.specs.Prelude.{nat_lt, if◌then◌else◌}
use Rattle.igvm_headers.specs.declared.fault.ReadFault.{ReadFault}
use Rattle.igvm_image.specs.FileFault.{fault_of}
use Rattle.igvm_outside.specs.declared.sink.Sink as sinks
use Rattle.component_list.specs.ImageList.{list_of}
use Rattle.component_list.specs.Lists.{IsList}
use Rattle.igvm_jobs.specs.declared.status.Status.{Status}
use Rattle.igvm_jobs.specs.declared.status.Status.TheVariants as is
use Rattle.igvm_jobs.specs.Texts.{long_file_text, memory_text}
use Rattle.igvm_jobs.specs.Outcome.{Outcome, refused}
use Rattle.igvm_jobs.specs.ImageFiles.{bytes_outcome, file_limit, image_outcome}
use Rattle.igvm_jobs.specs.Clauses.{ErrorTextIsPut, Failures, IsPut}
use Rattle.igvm_jobs.specs.JobAnswers.{IsFileRefused, IsHalted, IsImage}
use Rattle.igvm_jobs.proofs.JobAnswerLemmas.{FileAnswer, file_answer}
use Rattle.operation_jobs.specs.StoredData.{IsOfImage}
use Rattle.operation_jobs.proofs.Outcomes.{stayed, status_is}

-- ---- bytes

-- bytes that are accepted
abbrev pub AreImage : List ℕ → Type 0
AreImage bytes = (length bytes ≤ file_limit) × (fault_of bytes ≡ None) × ((next : List ℕ → Outcome) → bytes_outcome next bytes ≡ next bytes)

-- bytes that are refused, whatever would become of an image
abbrev pub AreRefused : List ℕ → Type 0
AreRefused bytes = (a b : List ℕ → Outcome) → bytes_outcome a bytes ≡ bytes_outcome b bytes

abbrev sized : (List ℕ → Outcome) → List ℕ → Bool → Outcome
sized next bytes long = if long then refused is.Limit long_file_text else image_outcome next bytes (fault_of bytes)

pub judged_bytes : (bytes : List ℕ) → AreImage bytes ⊎ AreRefused bytes
unfolding bytes_outcome
judged_bytes bytes = by_size (nat_lt file_limit (length bytes)) refl
  where
    by_fault : (fault : Option ReadFault) → nat_lt file_limit (length bytes) ≡ false → fault_of bytes ≡ fault → AreImage bytes ⊎ AreRefused bytes
    by_fault None short same =
        inl (stayed file_limit (length bytes) short, same, λ next. ap (sized next bytes) short ∙ ap (image_outcome next bytes) same)
    by_fault (Some fault) short same =
        inr (λ a b.
        ap (sized a bytes) short ∙ ap (image_outcome a bytes) same ∙ sym (ap (image_outcome b bytes) same) ∙ sym (ap (sized b bytes) short))

    by_size : (long : Bool) → nat_lt file_limit (length bytes) ≡ long → AreImage bytes ⊎ AreRefused bytes
    by_size true long = inr (λ a b. ap (sized a bytes) long ∙ sym (ap (sized b bytes) long))
    by_size false short = by_fault (fault_of bytes) short refl

-- ---- what a job on them answers

-- the outside or memory failed, or the file is refused
abbrev pub Refused : Status → ℕ → (List ℕ → Type 0) → Type 0
Refused status given put = IsHalted status ⊎ IsFileRefused status given put

-- what becomes of an image where memory runs out
abbrev wanting : List ℕ → Outcome
wanting bytes = refused is.Memory memory_text

of_file : {E : Type 0} (e : sinks.Ghosts E) (status : Status) (given : ℕ) (x : Outcome) (err err' : E) → status ≡ x.status → FileAnswer wanting status given x (λ text. IsPut e text err err')
    → Refused status given (λ text. IsPut e text err err')
of_file e status given x err err' same (inl h) = inl h
of_file e status given x err err' same (inr (inl h)) = inr h
of_file e status given x err err' same (inr (inr h)) = inl (inr (same ∙ status_is h.2))

-- bytes decide alone, whatever would become of an image
pub refused_answer : {E : Type 0} (e : sinks.Ghosts E) (status : Status) (given : ℕ) (x : Outcome) (err err' : E) (failed : Failures) (bytes : List ℕ) → ErrorTextIsPut e x status failed err err'
    → status ≡ x.status → length bytes ≡ given → ((next : List ℕ → Outcome) → x ≡ bytes_outcome next bytes) → Refused status given (λ text. IsPut e text err err')
refused_answer e status given x err err' failed bytes error same size decides =
    of_file e status given x err err' same (file_answer e wanting status given x err err' failed (inl (same, (bytes, size, decides wanting))) error)

pub bytes_answer : {E : Type 0} (e : sinks.Ghosts E) (next : List ℕ → Outcome) (status : Status) (given : ℕ) (x : Outcome) (err err' : E) (failed : Failures) (bytes : List ℕ)
    → ErrorTextIsPut e x status failed err err' → status ≡ x.status → length bytes ≡ given → x ≡ bytes_outcome next bytes
    → Refused status given (λ text. IsPut e text err err') ⊎ (IsImage bytes given × (x ≡ next bytes))
bytes_answer {E} e next status given x err err' failed bytes error same size is = cases (judged_bytes bytes)
  where
    cases : AreImage bytes ⊎ AreRefused bytes → Refused status given (λ text. IsPut e text err err') ⊎ (IsImage bytes given × (x ≡ next bytes))
    cases (inl h) = inr (record { size = size; within = subst (λ n. n ≤ file_limit) size h.0; accepted = h.1 }, is ∙ h.2 next)
    cases (inr h) = inl (refused_answer e status given x err err' failed bytes error same size (λ other. is ∙ h next other))

-- a job on one image file: the outside or memory failed, or the file is refused, or an image of as many bytes as were given decides
abbrev pub ImageAnswer : (List ℕ → Outcome) → Status → ℕ → Outcome → (List ℕ → Type 0) → Type 0
ImageAnswer next status given x put =
    Refused status given put
    ⊎ ((bytes : List ℕ) × IsImage bytes given × (x ≡ next bytes) × (status ≡ x.status) × (x.status ≡ is.Done → IsList (list_of bytes)))

pub image_answer : {E : Type 0} (e : sinks.Ghosts E) (next : List ℕ → Outcome) (status : Status) (given : ℕ) (x : Outcome) (err err' : E) (failed : Failures)
    → ((status ≡ x.status) × IsOfImage next given x) ⊎ (status ≡ is.Outside) ⊎ (status ≡ is.Memory) → ErrorTextIsPut e x status failed err err'
    → ImageAnswer next status given x (λ text. IsPut e text err err')
image_answer {E} e next status given x err err' failed (inl (same, h)) error =
    cases (bytes_answer e next status given x err err' failed h.0 error same h.1 h.2)
  where
    cases : Refused status given (λ text. IsPut e text err err') ⊎ (IsImage h.0 given × (x ≡ next h.0)) → ImageAnswer next status given x (λ text. IsPut e text err err')
    cases (inl r) = inl r
    cases (inr i) = inr (h.0, i.0, i.1, same, h.3)
image_answer e next status given x err err' failed (inr h) error = inl (inl h)
