-- A SEV or SEV-ES platform and its word.
use Rattle.std.proofs.Common.{◌≡◌, ℕ, List, refl, ◌∙◌, ap, subst, Bool, true, false, Option, Some, None}
use Rattle.std.specs.Prelude.{codes, if◌then◌else◌}
use Rattle.std.specs.Option.{option_map}
use Rattle.std.specs.Fmt.{decimal}
use Rattle.igvm_headers.specs.declared.platform_kind.PlatformKind.TheVariants.{Sev, SevEs}
use Rattle.igvm_words.specs.Words.{PlatformChoice, First, Numbered, choice_text, is_text, number_of}
use Rattle.further_words.specs.FurtherWords.{sev_choice_of}
use Rattle.further_words.specs.WordsOfFurther.{IsSevChoice}
use Rattle.further_words.proofs.TestLemmas.{text_same, mapped}
use Rattle.further_words.proofs.ChoiceWords.{WordsOfJobs}
use Rattle.further_words.proofs.NumberWords.{other_text, number_word, number_back}

-- a word is that of a platform that is asked for
abbrev pub IsSevWord : List ℕ → PlatformChoice → Type 0
IsSevWord word wanted = (word ≡ choice_text wanted) × IsSevChoice wanted

abbrev chosen : Bool → Bool → Option ℕ → Option PlatformChoice
chosen sev sev_es number =
    if sev then Some (First Sev) else (if sev_es then Some (First SevEs) else option_map Numbered number)

-- ---- from the word to the platform

number_asked : WordsOfJobs → (word : List ℕ) (wanted : PlatformChoice) → option_map Numbered (number_of word) ≡ Some wanted → IsSevWord word wanted
number_asked words_mean word wanted h =
    let m = mapped Numbered (number_of word) wanted h in
    subst (λ (w : PlatformChoice). IsSevWord word w) m.2 (number_word words_mean word m.0 m.1)

choice_asked : WordsOfJobs → (word : List ℕ) (wanted : PlatformChoice) (sev sev_es : Bool) → is_text word (codes "sev") ≡ sev → is_text word (codes "sev_es") ≡ sev_es
    → chosen sev sev_es (number_of word) ≡ Some wanted → IsSevWord word wanted
choice_asked words_mean word wanted true sev_es same other h =
    let e : First Sev ≡ wanted = cc in
    subst (λ (w : PlatformChoice). IsSevWord word w) e (text_same word (codes "sev") same, tt)
choice_asked words_mean word wanted false true none same h =
    let e : First SevEs ≡ wanted = cc in
    subst (λ (w : PlatformChoice). IsSevWord word w) e (text_same word (codes "sev_es") same, tt)
choice_asked words_mean word wanted false false none other h = number_asked words_mean word wanted h

pub sev_word : WordsOfJobs → (word : List ℕ) (wanted : PlatformChoice) → sev_choice_of word ≡ Some wanted → IsSevWord word wanted
unfolding sev_choice_of
sev_word words_mean word wanted h = choice_asked words_mean word wanted _ _ refl refl h

-- ---- from the platform to the word

sev_no_number : number_of (codes "sev") ≡ None
unfolding number_of
sev_no_number = refl

sev_es_no_number : number_of (codes "sev_es") ≡ None
unfolding number_of
sev_es_no_number = refl

number_chosen : (word : List ℕ) (n : ℕ) → number_of word ≡ Some n → sev_choice_of word ≡ Some (Numbered n)
unfolding sev_choice_of
number_chosen word n h =
    ap (λ b. chosen b (is_text word (codes "sev_es")) (number_of word)) (other_text (codes "sev") word n sev_no_number h)
    ∙ ap (λ b. chosen false b (number_of word)) (other_text (codes "sev_es") word n sev_es_no_number h) ∙ ap (option_map Numbered) h

pub sev_back : WordsOfJobs → (wanted : PlatformChoice) → IsSevChoice wanted → sev_choice_of (choice_text wanted) ≡ Some wanted
unfolding sev_choice_of
sev_back words_mean (First Sev) h = refl
sev_back words_mean (First SevEs) h = refl
sev_back words_mean (First _) h = absurd h
sev_back words_mean (Numbered number) h = number_chosen (decimal number) number (number_back words_mean number h)
