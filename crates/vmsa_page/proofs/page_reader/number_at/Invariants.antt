use Rattle.std.proofs.Common.{◌≡◌, ◌≤◌, ◌<◌, ◌+◌, ◌-◌, ◌^◌}
use Rattle.byteorder.specs.Endian.{little_from}
use Rattle.vmsa_page.proofs.page_reader.number_at.Given as goal

abbrev pub decreases-steps : goal.decreases-steps
decreases-steps l = l.left

abbrev pub invariant-steps : goal.invariant-steps
invariant-steps l =
    record {
      within : l.left ≤ l.width;
      value : l.number ≡ little_from (l.at + l.left) (l.width - l.left) l.page;
      bound : l.number < 256 ^ (l.width - l.left);
    }
