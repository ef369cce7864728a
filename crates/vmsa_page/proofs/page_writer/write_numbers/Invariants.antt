use Rattle.std.proofs.Common.{◌≤◌, drop, map}
use Rattle.byteorder.specs.Endian.{little_bytes}
use Rattle.vmsa_page.specs.Fields.{numbers}
use Rattle.vmsa_page.specs.Pages.{byte_by}
use Rattle.vmsa_page.specs.Overlays.{IsOverlay}
use Rattle.vmsa_page.proofs.page_writer.write_numbers.Given as goal

abbrev pub decreases-steps : goal.decreases-steps
decreases-steps l = l.left

abbrev pub invariant-steps : goal.invariant-steps
invariant-steps l =
    record {
      within : l.left ≤ 13;
      overlay : IsOverlay (byte_by (drop l.left numbers) (drop l.left (map (little_bytes 8) l.values))) l.fn.out l.out;
    }
