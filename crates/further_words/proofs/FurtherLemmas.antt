-- Words mean a further job exactly where they are its words, and then no first job.
use Rattle.std.proofs.Common.{◌≡◌, ℕ, ◌↔◌, List, [], ◌∷◌, refl, sym, ◌∙◌, ap, subst, Bool, true, false, Option, Some, None}
use Rattle.std.specs.Prelude.{◌&&◌, codes, if◌then◌else◌}
use Rattle.std.specs.Option.{option_map}
use Rattle.std.specs.Fmt.{decimal}
use Rattle.std.proofs.lemmas.Option.{cond_some}
use Rattle.igvm_headers.specs.declared.options.Options.{Options}
use Rattle.igvm_words.specs.Words.{Job, job_of, PlatformChoice, choice_of, choice_text, is_text, is_file_name, measure_options, number_of}
use Rattle.igvm_words.specs.WordsOfJob.{options_words}
use Rattle.further_words.specs.FurtherWords.{FurtherJob, SevMeasure, SevLoad, VmsaBuild, VmsaPrint, BuildElf, Strip, Join, Seal, further_of, sev_choice_of, sev_measure_job, sev_load_job, vmsa_build_job, vmsa_print_job, build_elf_job, strip_job, join_job, seal_job, sealed_as}
use Rattle.further_words.specs.WordsOfFurther.{IsFurther, further_words, MeansFurther}
use Rattle.further_words.proofs.TestLemmas.{both_left, both_right, text_same, taken_if, mapped}
use Rattle.further_words.proofs.ChoiceWords.{WordsOfJobs, choice_word, choice_back, measured_words, measured_back}
use Rattle.further_words.proofs.NumberWords.{number_word, number_back}
use Rattle.further_words.proofs.SevChoiceWords.{sev_word, sev_back}

-- ---- from the words to the job

sev_measure_forth : WordsOfJobs → (words : List (List ℕ)) (job : FurtherJob) → sev_measure_job words ≡ Some job → MeansFurther (codes "sev-measure" ∷ words) job
sev_measure_forth words_mean [] job h = cc
sev_measure_forth words_mean (file ∷ []) job h = cc
sev_measure_forth words_mean (file ∷ option ∷ []) job h = cc
sev_measure_forth words_mean (file ∷ option ∷ platform ∷ []) job h =
    let t = taken_if _ _ job h in
    let m = mapped (λ wanted. SevMeasure file wanted) (sev_choice_of platform) job t.1 in
    let p = sev_word words_mean platform m.0 m.1 in
    let o = text_same option (codes "--platform") (both_right (is_file_name file) _ t.0) in
    subst (λ j. MeansFurther (codes "sev-measure" ∷ file ∷ option ∷ platform ∷ []) j) m.2
    (record {
      possible = (both_left (is_file_name file) _ t.0, p.1);
      same = ap (λ w. codes "sev-measure" ∷ file ∷ w ∷ platform ∷ []) o ∙ ap (λ w. codes "sev-measure" ∷ file ∷ codes "--platform" ∷ w ∷ []) p.0;
    })
sev_measure_forth words_mean (file ∷ option ∷ platform ∷ word ∷ words) job h = cc

sev_load_forth : WordsOfJobs → (words : List (List ℕ)) (job : FurtherJob) → sev_load_job words ≡ Some job → MeansFurther (codes "sev-load" ∷ words) job
sev_load_forth words_mean [] job h = cc
sev_load_forth words_mean (file ∷ []) job h = cc
sev_load_forth words_mean (file ∷ host ∷ []) job h = cc
sev_load_forth words_mean (file ∷ host ∷ option ∷ []) job h = cc
sev_load_forth words_mean (file ∷ host ∷ option ∷ platform ∷ []) job h =
    let t = taken_if _ _ job h in
    let files = both_left (is_file_name file && is_file_name host) _ t.0 in
    let m = mapped (λ wanted. SevLoad (record { file = file; host = host; wanted = wanted })) (sev_choice_of platform) job t.1 in
    let p = sev_word words_mean platform m.0 m.1 in
    let o = text_same option (codes "--platform") (both_right (is_file_name file && is_file_name host) _ t.0) in
    subst (λ j. MeansFurther (codes "sev-load" ∷ file ∷ host ∷ option ∷ platform ∷ []) j) m.2
    (record {
      possible = (both_left (is_file_name file) _ files, both_right (is_file_name file) _ files, p.1);
      same = ap (λ w. codes "sev-load" ∷ file ∷ host ∷ w ∷ platform ∷ []) o ∙ ap (λ w. codes "sev-load" ∷ file ∷ host ∷ codes "--platform" ∷ w ∷ []) p.0;
    })
sev_load_forth words_mean (file ∷ host ∷ option ∷ platform ∷ word ∷ words) job h = cc

vmsa_build_forth : (words : List (List ℕ)) (job : FurtherJob) → vmsa_build_job words ≡ Some job → MeansFurther (codes "vmsa-build" ∷ words) job
vmsa_build_forth [] job h = cc
vmsa_build_forth (json ∷ []) job h = cc
vmsa_build_forth (json ∷ target ∷ []) job h =
    let c = cond_some _ _ _ h in
    subst (λ j. MeansFurther (codes "vmsa-build" ∷ json ∷ target ∷ []) j) c.1
    (record { possible = (both_left (is_file_name json) _ c.0, both_right (is_file_name json) _ c.0); same = refl })
vmsa_build_forth (json ∷ target ∷ word ∷ words) job h = cc

vmsa_print_forth : (words : List (List ℕ)) (job : FurtherJob) → vmsa_print_job words ≡ Some job → MeansFurther (codes "vmsa-print" ∷ words) job
vmsa_print_forth [] job h = cc
vmsa_print_forth (file ∷ []) job h =
    let c = cond_some _ _ _ h in
    subst (λ j. MeansFurther (codes "vmsa-print" ∷ file ∷ []) j) c.1 (record { possible = c.0; same = refl })
vmsa_print_forth (file ∷ word ∷ words) job h = cc

build_elf_forth : WordsOfJobs → (words : List (List ℕ)) (job : FurtherJob) → build_elf_job words ≡ Some job → MeansFurther (codes "build-elf" ∷ words) job
build_elf_forth words_mean [] job h = cc
build_elf_forth words_mean (list ∷ []) job h = cc
build_elf_forth words_mean (list ∷ elf ∷ []) job h = cc
build_elf_forth words_mean (list ∷ elf ∷ number ∷ []) job h = cc
build_elf_forth words_mean (list ∷ elf ∷ number ∷ target ∷ []) job h =
    let t = taken_if _ _ job h in
    let files = both_left (is_file_name list && is_file_name elf) _ t.0 in
    let m = mapped (λ mask. BuildElf (record { list = list; elf = elf; mask = mask; target = target })) (number_of number) job t.1 in
    let n = number_word words_mean number m.0 m.1 in
    subst (λ j. MeansFurther (codes "build-elf" ∷ list ∷ elf ∷ number ∷ target ∷ []) j) m.2
    (record {
      possible = (both_left (is_file_name list) _ files, both_right (is_file_name list) _ files, n.1, both_right (is_file_name list && is_file_name elf) _ t.0);
      same = ap (λ w. codes "build-elf" ∷ list ∷ elf ∷ w ∷ target ∷ []) n.0;
    })
build_elf_forth words_mean (list ∷ elf ∷ number ∷ target ∷ word ∷ words) job h = cc

strip_forth : WordsOfJobs → (words : List (List ℕ)) (job : FurtherJob) → strip_job words ≡ Some job → MeansFurther (codes "strip" ∷ words) job
strip_forth words_mean [] job h = cc
strip_forth words_mean (file ∷ []) job h = cc
strip_forth words_mean (file ∷ target ∷ []) job h = cc
strip_forth words_mean (file ∷ target ∷ option ∷ []) job h = cc
strip_forth words_mean (file ∷ target ∷ option ∷ platform ∷ []) job h =
    let t = taken_if _ _ job h in
    let files = both_left (is_file_name file && is_file_name target) _ t.0 in
    let m = mapped (λ wanted. Strip (record { file = file; target = target; wanted = wanted })) (choice_of platform) job t.1 in
    let p = choice_word words_mean platform m.0 m.1 in
    let o = text_same option (codes "--platform") (both_right (is_file_name file && is_file_name target) _ t.0) in
    subst (λ j. MeansFurther (codes "strip" ∷ file ∷ target ∷ option ∷ platform ∷ []) j) m.2
    (record {
      possible = (both_left (is_file_name file) _ files, both_right (is_file_name file) _ files, p.1);
      same = ap (λ w. codes "strip" ∷ file ∷ target ∷ w ∷ platform ∷ []) o ∙ ap (λ w. codes "strip" ∷ file ∷ target ∷ codes "--platform" ∷ w ∷ []) p.0;
    })
strip_forth words_mean (file ∷ target ∷ option ∷ platform ∷ word ∷ words) job h = cc

join_forth : (words : List (List ℕ)) (job : FurtherJob) → join_job words ≡ Some job → MeansFurther (codes "join" ∷ words) job
join_forth [] job h = cc
join_forth (first ∷ []) job h = cc
join_forth (first ∷ second ∷ []) job h = cc
join_forth (first ∷ second ∷ target ∷ []) job h =
    let c = cond_some _ _ _ h in
    let sources = both_left (is_file_name first && is_file_name second) _ c.0 in
    subst (λ j. MeansFurther (codes "join" ∷ first ∷ second ∷ target ∷ []) j) c.1
    (record {
      possible = (both_left (is_file_name first) _ sources, both_right (is_file_name first) _ sources, both_right (is_file_name first && is_file_name second) _ c.0);
      same = refl;
    })
join_forth (first ∷ second ∷ target ∷ word ∷ words) job h = cc

-- a seal that is asked for has a platform and options
sealed_from : (file target : List ℕ) (wanted : Option PlatformChoice) (options : Option Options) (job : FurtherJob) → sealed_as file target wanted options ≡ Some job
    → (c : PlatformChoice) × (o : Options) × (wanted ≡ Some c) × (options ≡ Some o) × (Seal (record { file = file; target = target; wanted = c; options = o }) ≡ job)
sealed_from file target None options job h = cc
sealed_from file target (Some wanted) None job h = cc
sealed_from file target (Some wanted) (Some options) job h = (wanted, options, refl, refl, cc)

seal_forth : WordsOfJobs → (words : List (List ℕ)) (job : FurtherJob) → seal_job words ≡ Some job → MeansFurther (codes "seal" ∷ words) job
seal_forth words_mean [] job h = cc
seal_forth words_mean (file ∷ []) job h = cc
seal_forth words_mean (file ∷ target ∷ []) job h = cc
seal_forth words_mean (file ∷ target ∷ option ∷ []) job h = cc
seal_forth words_mean (file ∷ target ∷ option ∷ platform ∷ tail) job h =
    let t = taken_if _ _ job h in
    let files = both_left (is_file_name file && is_file_name target) _ t.0 in
    let s = sealed_from file target (choice_of platform) (measure_options tail) job t.1 in
    let m = measured_words words_mean platform tail s.0 s.1 s.2 s.3 in
    let o = text_same option (codes "--platform") (both_right (is_file_name file && is_file_name target) _ t.0) in
    subst (λ j. MeansFurther (codes "seal" ∷ file ∷ target ∷ option ∷ platform ∷ tail) j) s.4
    (record {
      possible = (both_left (is_file_name file) _ files, both_right (is_file_name file) _ files, m.2);
      same =
          ap (λ w. codes "seal" ∷ file ∷ target ∷ w ∷ platform ∷ tail) o ∙ ap (λ w. codes "seal" ∷ file ∷ target ∷ codes "--platform" ∷ w ∷ tail) m.0
          ∙ ap (λ ws. codes "seal" ∷ file ∷ target ∷ codes "--platform" ∷ choice_text s.0 ∷ ws) m.1;
    })

-- words behind the name of this command, or the words of another
by_name : (name command : List ℕ) (words : List (List ℕ)) (this others : Option FurtherJob) (job : FurtherJob)
    → (this ≡ Some job → MeansFurther (name ∷ words) job) → (others ≡ Some job → MeansFurther (command ∷ words) job)
    → (if is_text command name then this else others) ≡ Some job → MeansFurther (command ∷ words) job
by_name name command words this others job here there h = cases (is_text command name) refl h
  where
    cases : (b : Bool) → is_text command name ≡ b → (if b then this else others) ≡ Some job → MeansFurther (command ∷ words) job
    cases true same h = subst (λ c. MeansFurther (c ∷ words) job) (sym (text_same command name same)) (here h)
    cases false other h = there h

forth : WordsOfJobs → (words : List (List ℕ)) (job : FurtherJob) → further_of words ≡ Some job → MeansFurther words job
unfolding further_of
forth words_mean [] job h = cc
forth words_mean (command ∷ words) job h =
    by_name (codes "sev-measure") command words _ _ job (sev_measure_forth words_mean words job)
    (by_name (codes "sev-load") command words _ _ job (sev_load_forth words_mean words job)
    (by_name (codes "vmsa-build") command words _ _ job (vmsa_build_forth words job)
    (by_name (codes "vmsa-print") command words _ _ job (vmsa_print_forth words job)
    (by_name (codes "build-elf") command words _ _ job (build_elf_forth words_mean words job)
    (by_name (codes "strip") command words _ _ job (strip_forth words_mean words job)
    (by_name (codes "join") command words _ _ job (join_forth words job)
    (by_name (codes "seal") command words _ _ job (seal_forth words_mean words job) (λ h. cc)))))))) h

-- ---- from the job to its words

back : WordsOfJobs → (job : FurtherJob) → IsFurther job → further_of (further_words job) ≡ Some job
unfolding further_of
back words_mean (SevMeasure file wanted) h =
    let asked = λ (wanted : Option PlatformChoice). option_map (λ wanted. SevMeasure file wanted) wanted in
    ap (λ b. if b && true then asked (sev_choice_of (choice_text wanted)) else None) h.0 ∙ ap asked (sev_back words_mean wanted h.1)
back words_mean (SevLoad words) h =
    let asked = λ (wanted : Option PlatformChoice). option_map (λ wanted. SevLoad (record words { wanted = wanted })) wanted in
    let found = λ (b : Bool). if b then asked (sev_choice_of (choice_text words.wanted)) else None in
    ap (λ b. found (b && is_file_name words.host && true)) h.0 ∙ ap (λ b. found (b && true)) h.1 ∙ ap asked (sev_back words_mean words.wanted h.2)
back words_mean (VmsaBuild json target) h =
    ap (λ b. if b && is_file_name target then Some (VmsaBuild json target) else None) h.0
    ∙ ap (λ b. if b then Some (VmsaBuild json target) else None) h.1
back words_mean (VmsaPrint file) h = ap (λ b. if b then Some (VmsaPrint file) else None) h
back words_mean (BuildElf words) h =
    let asked = λ (number : Option ℕ). option_map (λ mask. BuildElf (record words { mask = mask })) number in
    let found = λ (b : Bool). if b then asked (number_of (decimal words.mask)) else None in
    ap (λ b. found (b && is_file_name words.elf && is_file_name words.target)) h.0
    ∙ ap (λ b. found (b && is_file_name words.target)) h.1 ∙ ap found h.3 ∙ ap asked (number_back words_mean words.mask h.2)
back words_mean (Strip words) h =
    let asked = λ (wanted : Option PlatformChoice). option_map (λ wanted. Strip (record words { wanted = wanted })) wanted in
    let found = λ (b : Bool). if b then asked (choice_of (choice_text words.wanted)) else None in
    ap (λ b. found (b && is_file_name words.target && true)) h.0 ∙ ap (λ b. found (b && true)) h.1 ∙ ap asked (choice_back words_mean words.wanted h.2)
back words_mean (Join words) h =
    let found = λ (b : Bool). if b then Some (Join words) else None in
    ap (λ b. found (b && is_file_name words.second && is_file_name words.target)) h.0 ∙ ap (λ b. found (b && is_file_name words.target)) h.1 ∙ ap found h.2
back words_mean (Seal words) h =
    let asked = λ (wanted : Option PlatformChoice) (options : Option Options). sealed_as words.file words.target wanted options in
    let tail = options_words words.options in
    let found = λ (b : Bool). if b then asked (choice_of (choice_text words.wanted)) (measure_options tail) else None in
    let m = measured_back words_mean words.wanted words.options h.2 in
    ap (λ b. found (b && is_file_name words.target && true)) h.0 ∙ ap (λ b. found (b && true)) h.1
    ∙ ap (λ w. asked w (measure_options tail)) m.0 ∙ ap (λ o. asked (Some words.wanted) o) m.1

pub words_mean_further : WordsOfJobs → (words : List (List ℕ)) (job : FurtherJob) → (further_of words ≡ Some job) ↔ MeansFurther words job
words_mean_further words_mean words job = (forth words_mean words job, λ m. ap further_of m.same ∙ back words_mean job m.possible)

-- ---- no first job

no_first : (job : FurtherJob) → job_of (further_words job) ≡ None
unfolding job_of
no_first (SevMeasure file wanted) = refl
no_first (SevLoad words) = refl
no_first (VmsaBuild json target) = refl
no_first (VmsaPrint file) = refl
no_first (BuildElf words) = refl
no_first (Strip words) = refl
no_first (Join words) = refl
no_first (Seal words) = refl

pub one_job : WordsOfJobs → (words : List (List ℕ)) (job : Job) (further : FurtherJob) → job_of words ≡ Some job → further_of words ≡ Some further → ⊥
one_job words_mean words job further first h =
    let none = ap job_of (forth words_mean words further h).same ∙ no_first further in cc
