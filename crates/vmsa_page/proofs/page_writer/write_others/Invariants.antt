use Rattle.std.proofs.Common.{◌≤◌, drop, length}
use Rattle.vmsa_page.specs.Overlays.{IsOverlay, other_or}
use Rattle.vmsa_page.proofs.page_writer.write_others.Given as goal

abbrev pub decreases-steps : goal.decreases-steps
decreases-steps l = l.left

abbrev pub invariant-steps : goal.invariant-steps
invariant-steps l =
    record {
      within : l.left ≤ length l.others;
      overlay : IsOverlay (other_or (drop l.left l.others)) l.fn.out l.out;
    }
