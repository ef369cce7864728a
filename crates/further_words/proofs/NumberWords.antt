-- A number and its word, by what the word of a platform means: it can be such a number.
use Rattle.std.proofs.Common.{◌≡◌, ℕ, ◌^◌, ◌<◌, List, refl, ◌∙◌, ap, Bool, true, false, Option, Some, None}
use Rattle.std.specs.Prelude.{codes, if◌then◌else◌}
use Rattle.std.specs.Option.{option_map}
use Rattle.std.specs.Fmt.{decimal}
use Rattle.igvm_headers.specs.declared.platform_kind.PlatformKind.TheVariants.{SevSnp, Tdx}
use Rattle.igvm_words.specs.Words.{First, Numbered, is_text, number_of, choice_of}
use Rattle.further_words.proofs.TestLemmas.{text_same}
use Rattle.further_words.proofs.ChoiceWords.{WordsOfJobs, choice_word, choice_back}

-- a text that is no number is not the word of one
pub other_text : (text word : List ℕ) (n : ℕ) → number_of text ≡ None → number_of word ≡ Some n → is_text word text ≡ false
other_text text word n none some = cases (is_text word text) refl
  where
    cases : (b : Bool) → is_text word text ≡ b → b ≡ false
    cases true same = let e = ap number_of (text_same word text same) in cc
    cases false other = refl

snp_no_number : number_of (codes "snp") ≡ None
unfolding number_of
snp_no_number = refl

tdx_no_number : number_of (codes "tdx") ≡ None
unfolding number_of
tdx_no_number = refl

number_chosen : (word : List ℕ) (n : ℕ) → number_of word ≡ Some n → choice_of word ≡ Some (Numbered n)
unfolding choice_of
number_chosen word n h =
    let others = λ (b : Bool). if b then Some (First Tdx) else option_map Numbered (number_of word) in
    ap (λ b. if b then Some (First SevSnp) else others (is_text word (codes "tdx"))) (other_text (codes "snp") word n snp_no_number h)
    ∙ ap others (other_text (codes "tdx") word n tdx_no_number h) ∙ ap (option_map Numbered) h

chosen_by : (snp tdx : Bool) (number : Option ℕ) (n : ℕ)
    → (if snp then Some (First SevSnp) else (if tdx then Some (First Tdx) else option_map Numbered number)) ≡ Some (Numbered n) → number ≡ Some n
chosen_by true tdx number n h = cc
chosen_by false true number n h = cc
chosen_by false false None n h = cc
chosen_by false false (Some m) n h = cc

number_of_choice : (word : List ℕ) (n : ℕ) → choice_of word ≡ Some (Numbered n) → number_of word ≡ Some n
unfolding choice_of
number_of_choice word n h = chosen_by _ _ _ n h

pub number_word : WordsOfJobs → (word : List ℕ) (n : ℕ) → number_of word ≡ Some n → (word ≡ decimal n) × (n < 2 ^ 32)
number_word words_mean word n h = choice_word words_mean word (Numbered n) (number_chosen word n h)

pub number_back : WordsOfJobs → (n : ℕ) → n < 2 ^ 32 → number_of (decimal n) ≡ Some n
number_back words_mean n small = number_of_choice (decimal n) n (choice_back words_mean (Numbered n) small)
