use Rattle.std.proofs.Common.{ℕ, Some, codes, subst}
use Rattle.std.proofs.lemmas.Result.{on_ok_weaker}
use Rattle.vmsa_page.specs.Texts.{number_data}
use Rattle.vmsa_page.specs.Tokens.{Adds, part_tokens}
use Rattle.vmsa_page.proofs.WrittenTokens.{add_two}
use Rattle.vmsa_page.proofs.segment_text.write_first_keys.Goals as goal

pub returns : goal.returns
returns c =
    let one = subst (λ (n : ℕ). Adds c.args.out.now c.write_decimal.new.out (part_tokens (codes "attributes") (Some (number_data n)))) c.from.ensures c.in_ok-write_decimal.ensures in
    on_ok_weaker c.write_address.result (λ e. add_two c.args.out.now c.write_decimal.new.out c.write_address.new.out _ _ one e) c.write_address.ensures
