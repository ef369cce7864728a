-- The job of words by the command that stands first.
use Rattle.std.proofs.Common.{◌≡◌, ◌∙◌, ℕ, ◌-◌, ◌<◌, ◌≤◌, List, [], ◌∷◌, length, take, drop, get_or, refl, sym, ap, arith, Bool, true, false, Option, None, String, Global}
use Rattle.std.specs.Prelude.{codes, if◌then◌else◌}
use Rattle.std.specs.String.{string_bytes}
use Rattle.std.proofs.Math.Seq.{take-length}
use Rattle.igvm_words.specs.JobView.{words_view}
use Rattle.igvm_words.specs.Words.{is_text}
use Rattle.further_words.specs.FurtherWords.{FurtherJob, further_of, sev_measure_job, sev_load_job, vmsa_build_job, vmsa_print_job, build_elf_job, strip_job, join_job, seal_job}

-- ---- the first word

first_lent : (lent : List (String Global)) (first : String Global) → 1 ≤ length lent → first ≡ get_or lent 0 first
    → words_view lent ≡ string_bytes first ∷ words_view (take (length lent - 1) (drop 1 lent))
first_lent [] first h same = absurd (omega arith)
first_lent (word ∷ lent) first h same =
    let size : length (word ∷ lent) - 1 ≡ length lent = omega arith in
    let rest = take-length lent in
    let whole = ap (λ n. take n lent) size ∙ rest in
    ap (λ w. string_bytes w ∷ words_view lent) (sym same) ∙ ap (λ ws. string_bytes first ∷ words_view ws) (sym whole)

-- the words, as they are lent
pub lent_words : (lent : List (String Global)) {words : List (List ℕ)} {first : String Global} {command : List ℕ} → words_view lent ≡ words → 1 ≤ length lent → first ≡ get_or lent 0 first
    → command ≡ string_bytes first → command ∷ words_view (take (length lent - 1) (drop 1 lent)) ≡ words
lent_words lent {words} {first} {command} view some same bytes =
    ap (λ w. w ∷ words_view (take (length lent - 1) (drop 1 lent))) bytes ∙ sym (first_lent lent first some same) ∙ view

-- no words
pub no_words : (lent : List (String Global)) {words : List (List ℕ)} → words_view lent ≡ words → length lent < 1 → [] ≡ words
no_words [] view none = view
no_words (word ∷ lent) view none = absurd (omega arith)

-- ---- its command

-- behind the tests of the eight names
abbrev by_tests : List (List ℕ) → Bool → Bool → Bool → Bool → Bool → Bool → Bool → Bool → Option FurtherJob
by_tests words measure load build print elf strip join seal =
    if measure then sev_measure_job words
    else (if load then sev_load_job words
    else (if build then vmsa_build_job words
    else (if print then vmsa_print_job words
    else (if elf then build_elf_job words
    else (if strip then strip_job words else (if join then join_job words else (if seal then seal_job words else None)))))))

tested : (command : List ℕ) (words : List (List ℕ)) (measure load build print elf strip join seal : Bool)
    → measure ≡ is_text command (codes "sev-measure") → load ≡ is_text command (codes "sev-load") → build ≡ is_text command (codes "vmsa-build") → print ≡ is_text command (codes "vmsa-print")
    → elf ≡ is_text command (codes "build-elf") → strip ≡ is_text command (codes "strip") → join ≡ is_text command (codes "join") → seal ≡ is_text command (codes "seal")
    → further_of (command ∷ words) ≡ by_tests words measure load build print elf strip join seal
unfolding further_of
tested command words measure load build print elf strip join seal d e f g h i j k =
    ap (λ b. by_tests words b (is_text command (codes "sev-load")) (is_text command (codes "vmsa-build")) (is_text command (codes "vmsa-print")) (is_text command (codes "build-elf")) (is_text command (codes "strip")) (is_text command (codes "join")) (is_text command (codes "seal"))) (sym d)
    ∙ ap (λ b. by_tests words measure b (is_text command (codes "vmsa-build")) (is_text command (codes "vmsa-print")) (is_text command (codes "build-elf")) (is_text command (codes "strip")) (is_text command (codes "join")) (is_text command (codes "seal"))) (sym e)
    ∙ ap (λ b. by_tests words measure load b (is_text command (codes "vmsa-print")) (is_text command (codes "build-elf")) (is_text command (codes "strip")) (is_text command (codes "join")) (is_text command (codes "seal"))) (sym f)
    ∙ ap (λ b. by_tests words measure load build b (is_text command (codes "build-elf")) (is_text command (codes "strip")) (is_text command (codes "join")) (is_text command (codes "seal"))) (sym g)
    ∙ ap (λ b. by_tests words measure load build print b (is_text command (codes "strip")) (is_text command (codes "join")) (is_text command (codes "seal"))) (sym h)
    ∙ ap (λ b. by_tests words measure load build print elf b (is_text command (codes "join")) (is_text command (codes "seal"))) (sym i)
    ∙ ap (λ b. by_tests words measure load build print elf strip b (is_text command (codes "seal"))) (sym j)
    ∙ ap (λ b. by_tests words measure load build print elf strip join b) (sym k)

pub of_none : further_of [] ≡ None
unfolding further_of
of_none = refl

pub of_sev_measure : (command : List ℕ) (words : List (List ℕ)) → true ≡ is_text command (codes "sev-measure") → further_of (command ∷ words) ≡ sev_measure_job words
of_sev_measure command words d = tested command words true _ _ _ _ _ _ _ d refl refl refl refl refl refl refl

pub of_sev_load : (command : List ℕ) (words : List (List ℕ)) → false ≡ is_text command (codes "sev-measure") → true ≡ is_text command (codes "sev-load") → further_of (command ∷ words) ≡ sev_load_job words
of_sev_load command words d e = tested command words false true _ _ _ _ _ _ d e refl refl refl refl refl refl

pub of_vmsa_build : (command : List ℕ) (words : List (List ℕ)) → false ≡ is_text command (codes "sev-measure") → false ≡ is_text command (codes "sev-load") → true ≡ is_text command (codes "vmsa-build")
    → further_of (command ∷ words) ≡ vmsa_build_job words
of_vmsa_build command words d e f = tested command words false false true _ _ _ _ _ d e f refl refl refl refl refl

pub of_vmsa_print : (command : List ℕ) (words : List (List ℕ)) → false ≡ is_text command (codes "sev-measure") → false ≡ is_text command (codes "sev-load") → false ≡ is_text command (codes "vmsa-build")
    → true ≡ is_text command (codes "vmsa-print") → further_of (command ∷ words) ≡ vmsa_print_job words
of_vmsa_print command words d e f g = tested command words false false false true _ _ _ _ d e f g refl refl refl refl

pub of_build_elf : (command : List ℕ) (words : List (List ℕ)) → false ≡ is_text command (codes "sev-measure") → false ≡ is_text command (codes "sev-load") → false ≡ is_text command (codes "vmsa-build")
    → false ≡ is_text command (codes "vmsa-print") → true ≡ is_text command (codes "build-elf") → further_of (command ∷ words) ≡ build_elf_job words
of_build_elf command words d e f g h = tested command words false false false false true _ _ _ d e f g h refl refl refl

pub of_strip : (command : List ℕ) (words : List (List ℕ)) → false ≡ is_text command (codes "sev-measure") → false ≡ is_text command (codes "sev-load") → false ≡ is_text command (codes "vmsa-build")
    → false ≡ is_text command (codes "vmsa-print") → false ≡ is_text command (codes "build-elf") → true ≡ is_text command (codes "strip")
    → further_of (command ∷ words) ≡ strip_job words
of_strip command words d e f g h i = tested command words false false false false false true _ _ d e f g h i refl refl

pub of_join : (command : List ℕ) (words : List (List ℕ)) → false ≡ is_text command (codes "sev-measure") → false ≡ is_text command (codes "sev-load") → false ≡ is_text command (codes "vmsa-build")
    → false ≡ is_text command (codes "vmsa-print") → false ≡ is_text command (codes "build-elf") → false ≡ is_text command (codes "strip")
    → true ≡ is_text command (codes "join") → further_of (command ∷ words) ≡ join_job words
of_join command words d e f g h i j = tested command words false false false false false false true _ d e f g h i j refl

pub of_seal : (command : List ℕ) (words : List (List ℕ)) → false ≡ is_text command (codes "sev-measure") → false ≡ is_text command (codes "sev-load") → false ≡ is_text command (codes "vmsa-build")
    → false ≡ is_text command (codes "vmsa-print") → false ≡ is_text command (codes "build-elf") → false ≡ is_text command (codes "strip")
    → false ≡ is_text command (codes "join") → true ≡ is_text command (codes "seal") → further_of (command ∷ words) ≡ seal_job words
of_seal command words d e f g h i j k = tested command words false false false false false false false true d e f g h i j k

pub of_another : (command : List ℕ) (words : List (List ℕ)) → false ≡ is_text command (codes "sev-measure") → false ≡ is_text command (codes "sev-load") → false ≡ is_text command (codes "vmsa-build")
    → false ≡ is_text command (codes "vmsa-print") → false ≡ is_text command (codes "build-elf") → false ≡ is_text command (codes "strip")
    → false ≡ is_text command (codes "join") → false ≡ is_text command (codes "seal") → further_of (command ∷ words) ≡ None
of_another command words d e f g h i j k = tested command words false false false false false false false false d e f g h i j k
