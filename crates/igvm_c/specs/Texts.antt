-- The words for the rules as C gets them.
use Rattle.std.specs.Prelude.{ℕ, ◌+◌, List, [], ◌∷◌, ◌++◌, length, drop, Option, Some, None, cond, nat_lt}
use Rattle.igvm_headers.specs.declared.fault.ReadWhat.{ReadWhat}
use Rattle.rule_texts.specs.RuleTexts.{rule_words}
use Rattle.igvm_c.specs.Rules.{rule_of}

abbrev pub words_or_none : Option ReadWhat → List ℕ
words_or_none (Some what) = rule_words what
words_or_none None = []

-- the words for the rule of a number, and none where there is no such rule
abbrev pub rule_text : ℕ → List ℕ
rule_text rule = words_or_none (rule_of rule)

-- what a place holds then: words, a zero byte and what it held behind them; or all that it held, where these have no room
abbrev pub with_text : List ℕ → List ℕ → List ℕ
with_text words old =
    cond (nat_lt (length words) (length old)) (words ++ (0 ∷ drop (length words + 1) old)) old
