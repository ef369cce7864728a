use Rattle.std.proofs.Common.{◌≡◌, map, Bor, List, ℕ}
use Rattle.serde_json.specs.View.{members_view}
use Rattle.json_forms.specs.Forms.{are_among}
use Rattle.json_forms.proofs.keys.are_among.Given as goal

abbrev pub invariant-steps : goal.invariant-steps
invariant-steps l =
    (goal.iterator-steps).can_next l.key-iterator × (goal.iterator-steps).is_finite l.key-iterator
    × (are_among (map (λ (name : Bor (List ℕ)). name.now) l.names) (members_view l.key-iterator) ≡ are_among (map (λ (name : Bor (List ℕ)). name.now) l.names) (members_view l.members.entries))
