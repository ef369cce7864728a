-- What follows from the promises of the top call for `build-elf`.
use Rattle.std.proofs.Common.{◌≡◌, ◌∙◌, ℕ, ◌+◌, ◌<◌, ◌≤◌, refl, ap, subst, inl, inr, ◌⊎◌, List, length, Option, Some, None, Bool, true, false, arith}
use Rattle.std.proofs.lemmas.Bool.Decides.{nat_tests}
use Rattle.std.specs.Prelude.{nat_lt, if◌then◌else◌}
use Rattle.igvm_headers.specs.SpellingConditions.{AreBytes}
use Rattle.igvm_outside.specs.Files.{Files}
use Rattle.igvm_outside.specs.declared.shelf.Shelf as shelves
use Rattle.igvm_outside.specs.declared.sink.Sink as sinks
use Rattle.launch_platform.specs.declared.launch.Launch as launches
use Rattle.component_list.specs.Lists.{ImageParts, IsList}
use Rattle.component_list.specs.declared.refusal.ListRefusal.{ListRefusal}
use Rattle.component_list.specs.declared.refusal.ListRefusal.TheVariants as reading
use Rattle.component_list.specs.declared.refusal.ExpandRefusal.{ExpandRefusal}
use Rattle.component_list.specs.declared.refusal.ExpandRefusal.TheVariants as expand
use Rattle.image_builder.specs.Layout.{layout}
use Rattle.elf_pages.specs.declared.fault.ElfFault.{ElfFault}
use Rattle.elf_pages.specs.Faults.{elf_fault}
use Rattle.elf_pages.specs.Pages.{pages_of}
use Rattle.elf_list.specs.ElfParts.{with_elf_pages, pages_named}
use Rattle.further_words.specs.FurtherWords.{ElfWords}
use Rattle.igvm_jobs.specs.declared.status.Status.{Status}
use Rattle.igvm_jobs.specs.declared.status.Status.TheVariants as is
use Rattle.igvm_jobs.specs.Texts.{large_image_text, built_text, long_elf_text, many_pages_text}
use Rattle.igvm_jobs.specs.Outcome.{Outcome, refused, done_writing}
use Rattle.igvm_jobs.specs.ListFiles.{list_refused, expand_refused, IsGivenTo, IsListRefused}
use Rattle.igvm_jobs.specs.BuildJob.{parts_outcome, image_limit}
use Rattle.igvm_jobs.specs.Clauses.{OutputIsKept, ErrorTextIsPut, FilesAreKept, Gains, IsPut, Failures, KeepsPromises}
use Rattle.igvm_jobs.specs.JobAnswers.{IsJsonText}
use Rattle.igvm_jobs.proofs.EndingLemmas.{late_kept}
use Rattle.igvm_tool.specs.ElfTexts.{elf_text}
use Rattle.igvm_tool.specs.BuildElfJob.{elf_limit, pages_limit, elf_outcome, judged_outcome, IsOfElf, build_elf_task}
use Rattle.igvm_tool.specs.FurtherAnswers.{IsElfLimitText, ElfAnswers}

passed : (a b : ℕ) → nat_lt a b ≡ true → a < b
passed a b h = grind (arith, nat_tests, h)

stayed : (a b : ℕ) → nat_lt a b ≡ false → b ≤ a
stayed a b h = grind (arith, nat_tests, h)

-- ---- what is put with a status

-- a refusal's line
line_put : {E : Type 0} (e : sinks.Ghosts E) (x : Outcome) (status : Status) (err err' : E) (failed : Failures) (st : Status) → status ≡ st → (ErrorTextIsPut e x st failed err err' → IsPut e x.err err err')
    → ErrorTextIsPut e x status failed err err' → IsPut e x.err err err'
line_put e x status err err' failed st same put error = put (subst (λ (q : Status). ErrorTextIsPut e x q failed err err') same error)

-- the text of a job that is done
text_put : {O : Type 0} (o : sinks.Ghosts O) (x : Outcome) (status : Status) (out out' : O) → status ≡ is.Done → OutputIsKept o x status out out' → Gains o x.out out out'
text_put o x status out out' same output = subst (λ (q : Status). OutputIsKept o x q out out') same output

-- ---- what the job can give

-- An image is written, of some list with the pages of some ELF file.
record IsJoined (words : ElfWords) (given : ℕ) (x : Outcome) : Type 0 where
  parts : ImageParts
  list : IsList parts
  file : List ℕ
  bytes : AreBytes file
  size : length file ≡ given
  accepted : elf_fault file ≡ None
  few : pages_named parts.parts + length (pages_of file) ≤ pages_limit
  within : length (layout (with_elf_pages parts file words.mask)) ≤ image_limit
  outcome : x ≡ done_writing words.target (layout (with_elf_pages parts file words.mask)) (built_text (length (layout (with_elf_pages parts file words.mask))))

-- a list or an ELF file is refused with a line of its form, or the image is written
abbrev Built : ElfWords → ℕ → Outcome → Type 0
Built words given x =
    ((text : List ℕ) × IsJsonText text × (x ≡ refused is.Json text))
    ⊎ ((file : List ℕ) × (fault : ElfFault) × (length file ≡ given) × (elf_fault file ≡ Some fault) × (x ≡ refused is.File (elf_text fault)))
    ⊎ ((text : List ℕ) × IsElfLimitText given text × (x ≡ refused is.Limit text)) ⊎ (x.status ≡ is.Outside) ⊎ (x.status ≡ is.Memory) ⊎ IsJoined words given x

status_is : {x y : Outcome} → x ≡ y → x.status ≡ y.status
status_is same = ap (λ (z : Outcome). z.status) same

by_list : (words : ElfWords) (given : ℕ) (x : Outcome) (e : ListRefusal) → x ≡ list_refused e → Built words given x
by_list words given x reading.NotJson same = inl (_, inl refl, same)
by_list words given x (reading.Field part item) same = inl (_, inr (inl (part, item, refl)), same)
by_list words given x reading.Memory same = inr (inr (inr (inr (inl (status_is same)))))

by_expansion : (words : ElfWords) (given : ℕ) (x : Outcome) (e : ExpandRefusal) → IsGivenTo e given → x ≡ expand_refused e → Built words given x
by_expansion words given x (expand.Read item) long same = inr (inr (inr (inl (status_is same))))
by_expansion words given x (expand.TooLong item) long same = inr (inr (inl (_, inl (inr (inl (refl, long))), same)))
by_expansion words given x (expand.TooLarge item) long same = inr (inr (inl (_, inl (inr (inr (inl refl))), same)))
by_expansion words given x (expand.Rule part item what) long same = inl (_, inr (inr (part, item, what, refl)), same)
by_expansion words given x expand.Memory long same = inr (inr (inr (inr (inl (status_is same)))))

-- The pages of this ELF file stand behind a list's components.
record IsWithPages (words : ElfWords) (given : ℕ) (parts : ImageParts) (file : List ℕ) : Type 0 where
  list : IsList parts
  bytes : AreBytes file
  size : length file ≡ given
  accepted : elf_fault file ≡ None
  few : pages_named parts.parts + length (pages_of file) ≤ pages_limit

by_image : (words : ElfWords) (given : ℕ) (x : Outcome) (parts : ImageParts) (file : List ℕ) (large : Bool) → IsWithPages words given parts file
    → nat_lt image_limit (length (layout (with_elf_pages parts file words.mask))) ≡ large
    → x ≡ (if large then refused is.Limit large_image_text
    else done_writing words.target (layout (with_elf_pages parts file words.mask)) (built_text (length (layout (with_elf_pages parts file words.mask))))) → Built words given x
by_image words given x parts file true h size same = inr (inr (inl (_, inl (inr (inr (inr refl))), same)))
by_image words given x parts file false h size same =
    inr (inr (inr (inr (inr (record {
      parts = parts;
      list = h.list;
      file = file;
      bytes = h.bytes;
      size = h.size;
      accepted = h.accepted;
      few = h.few;
      within = stayed image_limit (length (layout (with_elf_pages parts file words.mask))) size;
      outcome = same;
    })))))

by_parts : (words : ElfWords) (given : ℕ) (x : Outcome) (parts : ImageParts) (file : List ℕ) → IsWithPages words given parts file
    → x ≡ parts_outcome words.target (with_elf_pages parts file words.mask) → Built words given x
unfolding parts_outcome
by_parts words given x parts file h same = by_image words given x parts file _ h refl same

by_pages : (words : ElfWords) (given : ℕ) (x : Outcome) (parts : ImageParts) (file : List ℕ) (many : Bool) → IsList parts → AreBytes file → length file ≡ given → elf_fault file ≡ None
    → nat_lt pages_limit (pages_named parts.parts + length (pages_of file)) ≡ many
    → x ≡ (if many then refused is.Limit many_pages_text else parts_outcome words.target (with_elf_pages parts file words.mask)) → Built words given x
by_pages words given x parts file true list bytes size accepted count same = inr (inr (inl (_, inr (inr refl), same)))
by_pages words given x parts file false list bytes size accepted count same =
    by_parts words given x parts file
    (record { list = list; bytes = bytes; size = size; accepted = accepted; few = stayed pages_limit (pages_named parts.parts + length (pages_of file)) count }) same

by_fault : (words : ElfWords) (given : ℕ) (x : Outcome) (parts : ImageParts) (file : List ℕ) (fault : Option ElfFault) → IsList parts → AreBytes file → length file ≡ given → elf_fault file ≡ fault
    → x ≡ judged_outcome words parts file fault → Built words given x
by_fault words given x parts file None list bytes size found same = by_pages words given x parts file _ list bytes size found refl same
by_fault words given x parts file (Some fault) list bytes size found same = inr (inl (file, fault, size, found, same))

by_size : (words : ElfWords) (given : ℕ) (x : Outcome) (parts : ImageParts) (file : List ℕ) (long : Bool) → IsList parts → AreBytes file → length file ≡ given → nat_lt elf_limit (length file) ≡ long
    → x ≡ (if long then refused is.Limit long_elf_text else judged_outcome words parts file (elf_fault file)) → Built words given x
by_size words given x parts file true list bytes size found same =
    inr (inr (inl (_, inr (inl (refl, subst (λ n. elf_limit < n) size (passed elf_limit (length file) found))), same)))
by_size words given x parts file false list bytes size found same = by_fault words given x parts file _ list bytes size refl same

by_elf : (words : ElfWords) (given : ℕ) (x : Outcome) (parts : ImageParts) (file : List ℕ) → IsList parts → AreBytes file → length file ≡ given → x ≡ elf_outcome words parts file → Built words given x
unfolding elf_outcome
by_elf words given x parts file list bytes size same = by_size words given x parts file _ list bytes size refl same

built : (words : ElfWords) (given : ℕ) (x : Outcome) → IsListRefused given x ⊎ IsOfElf words given x → Built words given x
built words given x (inl (inl h)) = inr (inr (inl (_, inl (inl (refl, h.0)), h.1)))
built words given x (inl (inr (inl h))) = by_list words given x h.3.0 h.3.2
built words given x (inl (inr (inr h))) = by_expansion words given x h.0 h.1 h.2
built words given x (inr h) = by_elf words given x h.0 h.1 h.2 h.3 h.4 h.5

-- ---- what was given

elf_of : {O E : Type 0} (o : sinks.Ghosts O) (e : sinks.Ghosts E) (words : ElfWords) (status : Status) (given : ℕ) (told told' : Option Files) (x : Outcome) (out out' : O) (err err' : E) (failed : Failures)
    → OutputIsKept o x status out out' → ErrorTextIsPut e x status failed err err' → FilesAreKept x status told told' → status ≡ x.status → Built words given x
    → ElfAnswers words status given told told' (λ text. Gains o text out out') (λ text. IsPut e text err err')
elf_of o e words status given told told' x out out' err err' failed output error files same (inl h) =
    let st = same ∙ status_is h.2 in
    inr (inl (st, (h.0, h.1, subst (λ (y : Outcome). IsPut e y.err err err') h.2 (line_put e x status err err' failed is.Json st (λ p. p) error))))
elf_of o e words status given told told' x out out' err err' failed output error files same (inr (inl h)) =
    let st = same ∙ status_is h.4 in
    inr (inr (inl (st, (h.0, h.1, h.2, h.3, subst (λ (y : Outcome). IsPut e y.err err err') h.4 (line_put e x status err err' failed is.File st (λ p. p) error)))))
elf_of o e words status given told told' x out out' err err' failed output error files same (inr (inr (inl h))) =
    let st = same ∙ status_is h.2 in
    inr (inr (inr (inl (st, (h.0, h.1, subst (λ (y : Outcome). IsPut e y.err err err') h.2 (line_put e x status err err' failed is.Limit st (λ p. p) error))))))
elf_of o e words status given told told' x out out' err err' failed output error files same (inr (inr (inr (inl h)))) = inl (inl (same ∙ h))
elf_of o e words status given told told' x out out' err err' failed output error files same (inr (inr (inr (inr (inl h))))) = inl (inr (same ∙ h))
elf_of o e words status given told told' x out out' err err' failed output error files same (inr (inr (inr (inr (inr h))))) =
    let st = same ∙ status_is h.outcome in
    inr (inr (inr (inr (
      st,
      record {
        parts = h.parts;
        list = h.list;
        file = h.file;
        bytes = h.bytes;
        size = h.size;
        accepted = h.accepted;
        few = h.few;
        within = h.within;
        written = subst (λ (y : Outcome). FilesAreKept y is.Done told told') h.outcome (subst (λ (q : Status). FilesAreKept x q told told') st files);
        put = subst (λ (y : Outcome). Gains o y.out out out') h.outcome (text_put o x status out out' st output);
      },
    ))))

judged : {O E : Type 0} (o : sinks.Ghosts O) (e : sinks.Ghosts E) (words : ElfWords) (status : Status) (given : ℕ) (told told' : Option Files) (x : Outcome) (out out' : O) (err err' : E) (failed : Failures)
    → OutputIsKept o x status out out' → ErrorTextIsPut e x status failed err err' → FilesAreKept x status told told'
    → ((status ≡ x.status) × (IsListRefused given x ⊎ IsOfElf words given x)) ⊎ (status ≡ is.Outside) ⊎ (status ≡ is.Memory)
    → ElfAnswers words status given told told' (λ text. Gains o text out out') (λ text. IsPut e text err err')
judged o e words status given told told' x out out' err err' failed output error files (inl h) =
    elf_of o e words status given told told' x out out' err err' failed output error files h.0 (built words given x h.1)
judged o e words status given told told' x out out' err err' failed output error files (inr h) = inl h

pub elf_answers : {S O E L : Type 0} (s : shelves.Ghosts S) (o : sinks.Ghosts O) (e : sinks.Ghosts E) (l : launches.Ghosts L) (words : ElfWords) (status : Status) (shelf shelf' : S) (out out' : O)
    (err err' : E) (machine machine' : L) → KeepsPromises s o e l (build_elf_task words) status shelf shelf' out out' err err' machine machine'
    → ElfAnswers words status (s.given shelf') (s.told shelf) (s.told shelf') (λ text. Gains o text out out') (λ text. IsPut e text err err')
elf_answers s o e l words status shelf shelf' out out' err err' machine machine' k =
    judged o e words status (s.given shelf') (s.told shelf) (s.told shelf') k.keeps.outcome out out' err err' _ k.keeps.output k.keeps.error
    (late_kept k.keeps.outcome status (s.told shelf) (s.told shelf') k.keeps.files) k.keeps.judged
