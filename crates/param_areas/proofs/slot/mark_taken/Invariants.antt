use Rattle.std.proofs.Common.{◌≡◌, ℕ, ◌<◌, get_or, false, ◌==◌}
use Rattle.param_areas.proofs.slot.mark_taken.Given as goal

abbrev pub invariant-slots : goal.invariant-slots
invariant-slots l =
    (l.slots ≡ l.fn.slots) × ((k : ℕ) → k < l.i → ((get_or l.slots k (record { area = 0; start = 0; size = 0; taken = false })).area == l.area) ≡ false)
