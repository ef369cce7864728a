use Rattle.std.proofs.Common.{◌≡◌, ◌+◌, ◌-◌, ℕ, OnOk, arith, sym, ap, ap₂, ◌∙◌, subst, get_or}
use Rattle.vmsa_page.specs.Vmsas.{VmsaParts}
use Rattle.vmsa_page.specs.Texts.{number_part, part_of}
use Rattle.vmsa_page.specs.Tokens.{Adds, part_tokens}
use Rattle.vmsa_page.proofs.PrintedForms.{part_number}
use Rattle.vmsa_page.proofs.json_writer.write_member.Goals as goal

pub returns-then-key-lt23 : goal.returns-then-key-lt23
returns-then-key-lt23 c =
    let k : ℕ = c.args.key - 10 in
    let v : VmsaParts = record { segments = c.vmsa.inside.segments; numbers = c.vmsa.inside.numbers; other = c.vmsa.inside.other.items } in
    let back : 10 + k ≡ c.args.key = omega (arith, c.if-key-lt10.false) in
    let named = c.field_name-then-key-lt23.ensures in
    let part : number_part (get_or c.vmsa.inside.numbers k 0) ≡ part_of c.args.vmsa.now c.args.key = sym (part_number v k c.args.key (omega (arith, c.if-key-lt23.true, c.if-key-lt10.false)) (sym back)) ∙ ap (λ (p : VmsaParts). part_of p c.args.key) c.vmsa.view_is in
    subst (λ ts. OnOk c.write_number.result (Adds c.args.out.now c.write_number.new.out ts)) (ap₂ part_tokens named part) c.write_number.ensures
