use Rattle.std.proofs.Common.{◌<◌, ◌+◌, ℕ, arith, get_or, drop}
use Rattle.std.proofs.lemmas.List.{get_or_default}
use Rattle.vmsa_page.specs.Fields.{key_name}
use Rattle.vmsa_page.specs.Vmsas.{VmsaParts}
use Rattle.vmsa_page.specs.Texts.{part_of, key_order}
use Rattle.vmsa_page.specs.Tokens.{part_tokens}
use Rattle.vmsa_page.proofs.WrittenTokens.{leads_on, part_step, keys_left}
use Rattle.vmsa_page.proofs.json_writer.write_members.Goals as goal

pub steps-preserved : goal.steps-preserved
steps-preserved c =
    let i : ℕ = c.steps.key-index in
    let v : VmsaParts = c.args.vmsa.now in
    let key : ℕ = get_or key_order i 0 in
    let below : i < 24 = omega (arith, c.steps-test.true) in
    leads_on c.args.out.now c.steps.out c.write_member.new.out (part_tokens (key_name key) (part_of v key)) (keys_left v (drop (i + 1) key_order)) (keys_left v key_order) (keys_left v (drop i key_order))
    (part_step v key_order i key below (get_or_default key_order i 0 key below)) c.steps.invariant c.in_ok-write_member.ensures
