use Rattle.std.proofs.Common.{ℕ, Some, codes, OnOk, subst}
use Rattle.std.proofs.lemmas.Result.{on_ok_weaker}
use Rattle.vmsa_page.specs.Texts.{number_data}
use Rattle.vmsa_page.specs.Tokens.{Adds, part_tokens}
use Rattle.vmsa_page.proofs.WrittenTokens.{add_two}
use Rattle.vmsa_page.proofs.segment_text.write_last_keys.Goals as goal

pub returns : goal.returns
returns c =
    let one = subst (λ (n : ℕ). Adds c.args.out.now c.write_decimal.new.out (part_tokens (codes "limit") (Some (number_data n)))) c.from.ensures c.in_ok-write_decimal.ensures in
    let two = subst (λ (n : ℕ). OnOk c.write_decimal-2.result (Adds c.write_decimal.new.out c.write_decimal-2.new.out (part_tokens (codes "selector") (Some (number_data n))))) c.from-2.ensures c.write_decimal-2.ensures in
    on_ok_weaker c.write_decimal-2.result (λ e. add_two c.args.out.now c.write_decimal.new.out c.write_decimal-2.new.out _ _ one e) two
