-- A platform and options and their words, by what a measurement's words mean.
use Rattle.std.proofs.Common.{◌≡◌, ℕ, ◌^◌, ◌<◌, ◌↔◌, List, [], ◌∷◌, refl, sym, ◌∙◌, ap, subst, arith, Bool, true, false, Option, Some, None}
use Rattle.std.specs.Prelude.{codes, nat_lt, if◌then◌else◌}
use Rattle.std.specs.Option.{option_map}
use Rattle.std.specs.Str.Parse.{digits_value}
use Rattle.igvm_headers.specs.declared.options.Options.{Options}
use Rattle.igvm_headers.specs.declared.platform_kind.PlatformKind.TheVariants.{SevSnp, Tdx}
use Rattle.igvm_words.specs.declared.platform_choice.PlatformChoice as lent
use Rattle.igvm_words.specs.JobView.{choice_view}
use Rattle.igvm_words.specs.Words.{Job, Measure, MeasureWords, PlatformChoice, First, Numbered, choice_text, is_decimal, number_of, choice_of, measure_options, measured_as, job_of}
use Rattle.igvm_words.specs.WordsOfJob.{IsChoice, Means, options_words}
use Rattle.further_words.proofs.TestLemmas.{both_right, taken_if, mapped}

-- what `words_of_a_job` says
abbrev pub WordsOfJobs : Type 0
WordsOfJobs = (words : List (List ℕ)) (job : Job) → (job_of words ≡ Some job) ↔ Means words job

-- ---- a platform that a word asks for can be asked for

number_fits : (word : List ℕ) (n : ℕ) → number_of word ≡ Some n → n < 2 ^ 32
unfolding number_of
number_fits word n h =
    let t = taken_if _ (Some (digits_value 10 word)) n h in
    let fits : nat_lt (digits_value 10 word) (2 ^ 32) ≡ true = both_right (is_decimal word) _ t.0 in
    let same : digits_value 10 word ≡ n = cc in
    subst (λ m. m < 2 ^ 32) same (grind (arith, fits))

possible_by : (snp tdx : Bool) (word : List ℕ) (wanted : PlatformChoice)
    → (if snp then Some (First SevSnp) else (if tdx then Some (First Tdx) else option_map Numbered (number_of word))) ≡ Some wanted → IsChoice wanted
possible_by true tdx word wanted h = let e : First SevSnp ≡ wanted = cc in subst IsChoice e tt
possible_by false true word wanted h = let e : First Tdx ≡ wanted = cc in subst IsChoice e tt
possible_by false false word wanted h =
    let m = mapped Numbered (number_of word) wanted h in
    subst IsChoice m.2 (number_fits word m.0 m.1)

choice_possible : (word : List ℕ) (wanted : PlatformChoice) → choice_of word ≡ Some wanted → IsChoice wanted
unfolding choice_of
choice_possible word wanted h = possible_by _ _ word wanted h

-- the same, as the code lends it
pub lent_possible : (found : Option lent.PlatformChoice) (wanted : lent.PlatformChoice) (word : List ℕ)
    → option_map choice_view found ≡ choice_of word → found ≡ Some wanted → IsChoice (choice_view wanted)
lent_possible found wanted word meant same = choice_possible word (choice_view wanted) (sym meant ∙ ap (option_map choice_view) same)

-- ---- a measurement

abbrev asked : PlatformChoice → Options → MeasureWords
asked wanted options = record { file = codes "f"; wanted = wanted; options = options }

abbrev measure_words : List ℕ → List (List ℕ) → List (List ℕ)
measure_words word tail = codes "measure" ∷ codes "f" ∷ codes "--platform" ∷ word ∷ tail

job_of_measure : (word : List ℕ) (tail : List (List ℕ)) → job_of (measure_words word tail) ≡ measured_as (codes "f") (choice_of word) (measure_options tail)
unfolding job_of
job_of_measure word tail = refl

measured_from : (wanted : Option PlatformChoice) (options : Option Options) (choice : PlatformChoice) (chosen : Options)
    → measured_as (codes "f") wanted options ≡ Some (Measure (asked choice chosen)) → (wanted ≡ Some choice) × (options ≡ Some chosen)
measured_from None options choice chosen h = cc
measured_from (Some wanted) None choice chosen h = cc
measured_from (Some wanted) (Some options) choice chosen h =
    let same : asked wanted options ≡ asked choice chosen = cc in
    (ap (λ (words : MeasureWords). Some words.wanted) same, ap (λ (words : MeasureWords). Some words.options) same)

-- ---- from the words to the platform and the options, and back

pub measured_words : WordsOfJobs → (word : List ℕ) (tail : List (List ℕ)) (wanted : PlatformChoice) (options : Options)
    → choice_of word ≡ Some wanted → measure_options tail ≡ Some options → (word ≡ choice_text wanted) × (tail ≡ options_words options) × IsChoice wanted
measured_words words_mean word tail wanted options choice chosen =
    let job = job_of_measure word tail ∙ ap (λ c. measured_as (codes "f") c (measure_options tail)) choice ∙ ap (λ o. measured_as (codes "f") (Some wanted) o) chosen in
    let means = (words_mean (measure_words word tail) (Measure (asked wanted options))).0 job in
    let same = means.same in
    (cc, cc, means.possible.1)

pub measured_back : WordsOfJobs → (wanted : PlatformChoice) (options : Options) → IsChoice wanted
    → (choice_of (choice_text wanted) ≡ Some wanted) × (measure_options (options_words options) ≡ Some options)
measured_back words_mean wanted options possible =
    let word = choice_text wanted in
    let tail = options_words options in
    let job = (words_mean (measure_words word tail) (Measure (asked wanted options))).1 (record { possible = (refl, possible); same = refl }) in
    measured_from (choice_of word) (measure_options tail) wanted options (sym (job_of_measure word tail) ∙ job)

-- ---- a platform alone

abbrev plain : Options
plain = record { native_zero = false }

pub choice_word : WordsOfJobs → (word : List ℕ) (wanted : PlatformChoice) → choice_of word ≡ Some wanted → (word ≡ choice_text wanted) × IsChoice wanted
choice_word words_mean word wanted h = let m = measured_words words_mean word [] wanted plain h refl in (m.0, m.2)

pub choice_back : WordsOfJobs → (wanted : PlatformChoice) → IsChoice wanted → choice_of (choice_text wanted) ≡ Some wanted
choice_back words_mean wanted possible = (measured_back words_mean wanted plain possible).0
