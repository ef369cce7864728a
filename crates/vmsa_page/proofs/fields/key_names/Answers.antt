use Rattle.std.proofs.Common.{◌≡◌, ◌+◌, ◌-◌, ◌++◌, ◌∙◌, ℕ, suc, [], ap, ap₂, arith, codes, map, replicate, take}
use Rattle.vmsa_page.specs.Fields.{key_names}
use Rattle.vmsa_page.proofs.FilledLists.{fill_seen}
use Rattle.vmsa_page.proofs.fields.key_names.Goals as goal

pub steps-preserved : goal.steps-preserved
steps-preserved c =
    let k : ℕ = c.steps.number in
    let m : ℕ = 23 - k in
    let size : 24 - k ≡ suc m = omega (arith, c.steps-test.true) in
    let left : m ≡ 24 - (k + 1) = omega (arith, c.steps-test.true) in
    let next : suc k ≡ k + 1 = omega arith in
    let before : map (λ name. name.now) c.steps.names ≡ take k key_names ++ replicate (suc m) (codes "other") = c.steps.invariant ∙ ap (λ (n : ℕ). take k key_names ++ replicate n (codes "other")) size in
    fill_seen (λ name. name.now) key_names c.steps.names k m c.field_name.result (codes "other") [] (omega (arith, c.steps-test.true)) c.field_name.ensures before
    ∙ ap₂ (λ (a b : ℕ). take a key_names ++ replicate b (codes "other")) next left
