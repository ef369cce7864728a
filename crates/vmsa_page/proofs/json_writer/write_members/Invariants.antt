use Rattle.std.proofs.Common.{drop}
use Rattle.vmsa_page.specs.Texts.{key_order}
use Rattle.vmsa_page.proofs.WrittenTokens.{Leads, keys_left}
use Rattle.vmsa_page.proofs.json_writer.write_members.Given as goal

abbrev pub invariant-steps : goal.invariant-steps
invariant-steps l = Leads l.fn.out l.out (keys_left l.vmsa (drop l.key-index key_order)) (keys_left l.vmsa key_order)
