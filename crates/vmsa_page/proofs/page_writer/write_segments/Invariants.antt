use Rattle.std.proofs.Common.{◌≤◌, drop, map}
use Rattle.vmsa_page.specs.Fields.{segments}
use Rattle.vmsa_page.specs.Pages.{byte_by, segment_bytes}
use Rattle.vmsa_page.specs.Overlays.{IsOverlay}
use Rattle.vmsa_page.proofs.page_writer.write_segments.Given as goal

abbrev pub decreases-steps : goal.decreases-steps
decreases-steps l = l.left

abbrev pub invariant-steps : goal.invariant-steps
invariant-steps l =
    record {
      within : l.left ≤ 10;
      overlay : IsOverlay (byte_by (drop l.left segments) (drop l.left (map segment_bytes l.values))) l.fn.out l.out;
    }
