-- Where a list is cut: the place behind the last component whose header passes a test.
use Rattle.std.proofs.Common.{◌≡◌, ℕ, zero, suc, ◌<◌, ◌≤◌, List, [], ◌∷◌, length, get_or, take, drop, refl, sym, ◌∙◌, ap, arith, Bool, true, false}
use Rattle.std.specs.Prelude.{if◌then◌else◌, ◌||◌}
use Rattle.std.specs.List.{list_any}
use Rattle.igvm_headers.specs.declared.header.Header.{Header}
use Rattle.component_list.specs.declared.component.Component.{Component}
use Rattle.joined_list.specs.Parts.{past_last, up_to_last}

-- the component before the place passes, and none from it on
pub record IsEnd (test : Header → Bool) (parts : List Component) (end : ℕ) : Type 0 where
  pub before : (k : ℕ) (d : Component) → suc k ≡ end → test (get_or parts k d).header ≡ true
  pub behind : (k : ℕ) (d : Component) → end ≤ k → k < length parts → test (get_or parts k d).header ≡ false

passes_none : (test : Header → Bool) (parts : List Component) → ((k : ℕ) (d : Component) → k < length parts → test (get_or parts k d).header ≡ false)
    → list_any (λ d. test d.header) parts ≡ false
passes_none test [] fails = refl
passes_none test (c ∷ cs) fails =
    ap (λ b. b || list_any (λ d. test d.header) cs) (fails 0 c (omega arith))
    ∙ passes_none test cs (λ k d less. fails (suc k) d (omega arith))

either : (a b : Bool) → b ≡ true → (a || b) ≡ true
either true b is = refl
either false b is = is

passes_some : (test : Header → Bool) (parts : List Component) (k : ℕ) → k < length parts → ((d : Component) → test (get_or parts k d).header ≡ true)
    → list_any (λ d. test d.header) parts ≡ true
passes_some test [] k less passes = absurd (omega arith)
passes_some test (c ∷ cs) zero less passes = ap (λ b. b || list_any (λ d. test d.header) cs) (passes c)
passes_some test (c ∷ cs) (suc k) less passes =
    either (test c.header) (list_any (λ d. test d.header) cs) (passes_some test cs k (omega arith) passes)

-- what stands before the place and behind it
pub record Cuts (test : Header → Bool) (parts : List Component) (end : ℕ) : Type 0 where
  pub front : take end parts ≡ up_to_last test parts
  pub back : drop end parts ≡ past_last test parts

cut_front : (test : Header → Bool) (c : Component) (cs : List Component) → (test c.header || list_any (λ d. test d.header) cs) ≡ false → Cuts test (c ∷ cs) 0
unfolding up_to_last past_last
cut_front test c cs none = record {
  front = ap (λ b. if b then c ∷ up_to_last test cs else []) (sym none);
  back = ap (λ b. if b then past_last test cs else c ∷ cs) (sym none);
}

cut_later : (test : Header → Bool) (c : Component) (cs : List Component) (end : ℕ) → (test c.header || list_any (λ d. test d.header) cs) ≡ true
    → Cuts test cs end → Cuts test (c ∷ cs) (suc end)
unfolding up_to_last past_last
cut_later test c cs end some cuts = record {
  front = ap (λ ds. c ∷ ds) cuts.front ∙ ap (λ b. if b then c ∷ up_to_last test cs else []) (sym some);
  back = cuts.back ∙ ap (λ b. if b then past_last test cs else c ∷ cs) (sym some);
}

pub cuts_at : (test : Header → Bool) (parts : List Component) (end : ℕ) → end ≤ length parts → IsEnd test parts end → Cuts test parts end
unfolding up_to_last past_last
cuts_at test [] zero within is = record { front = refl; back = refl }
cuts_at test [] (suc end) within is = absurd (omega arith)
cuts_at test (c ∷ cs) zero within is = cut_front test c cs (passes_none test (c ∷ cs) (λ k d less. is.behind k d (omega arith) less))
cuts_at test (c ∷ cs) (suc end) within is =
    cut_later test c cs end (passes_some test (c ∷ cs) end (omega arith) (λ d. is.before end d refl))
    (cuts_at test cs end (omega arith) (record {
      before = λ k d same. is.before (suc k) d (ap suc same);
      behind = λ k d past less. is.behind (suc k) d (omega arith) (omega arith);
    }))
