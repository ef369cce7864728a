-- the row grows by the content, and its index with it
use Rattle.std.proofs.Common.{◌≡◌, ℕ, ◌+◌, List, ◌++◌, ◌∷◌, [], ap, sym, subst, ◌∙◌, arith, false, None, length, Bor}
use Rattle.std.specs.Prelude.{sum_by}
use Rattle.std.proofs.lemmas.List.{map-append}
use Rattle.image_builder.specs.DistinctContents.{place_of}
use Rattle.igvm_outside.specs.JoinedBytes.{lent}
use Rattle.image_builder.specs.ContentIndex.{Row, IsIndex, is_kept, kept_with, place_in, saturated}
use Rattle.image_builder.proofs.Kept.{index_more, end_more, missed_in, kept_more, place_added}
use Rattle.image_builder.proofs.contents.Contents.add.Goals as goal

-- the bytes are new
fresh : (row now : Row) (bytes : List ℕ) → row ≡ now → place_in now.start now.kept bytes ≡ None → is_kept bytes row.kept ≡ false
fresh row now bytes same none = missed_in row.start bytes row.kept (ap (λ (r : Row). place_in r.start r.kept bytes) same ∙ none)

kept_now : (row now : Row) (bytes : List ℕ) (items : List (List ℕ)) → row ≡ now → place_in now.start now.kept bytes ≡ None → items ≡ row.kept ++ bytes ∷ []
    → items ≡ kept_with now.kept bytes
kept_now row now bytes items same none grown =
    grown ∙ kept_more bytes row.kept (fresh row now bytes same none) ∙ ap (λ (r : Row). kept_with r.kept bytes) same

place_now : (row now : Row) (end : ℕ) (bytes : List ℕ) (items : List (List ℕ)) → row ≡ now → place_in now.start now.kept bytes ≡ None
    → items ≡ row.kept ++ bytes ∷ [] → end ≡ saturated (row.start + sum_by length row.kept)
    → (more : List (List ℕ)) → end ≡ saturated (now.start + place_of bytes (items ++ more))
place_now row now end bytes items same none grown behind more =
    place_added row.start end bytes row.kept items (fresh row now bytes same none) behind grown more
    ∙ ap (λ (r : Row). saturated (r.start + place_of bytes (items ++ more))) same

-- one more of the contents that are lent
lent_more : (items : List (Bor (List ℕ))) (old : List (Bor (List ℕ))) (bytes : Bor (List ℕ)) → items ≡ old ++ bytes ∷ [] → lent items ≡ lent old ++ bytes.now ∷ []
lent_more items old bytes grown = ap lent grown ∙ map-append (λ b. b.now) old (bytes ∷ [])

pub invariant_of-self-2 : goal.invariant_of-self-2
invariant_of-self-2 c =
    let start = c.self.inside.start in
    let kept = lent c.self.inside.kept.items in
    let bytes = c.args.bytes.now in
    let grown : c.push.new.self.items ≡ c.self.inside.kept.items ++ c.args.bytes ∷ [] = grind arith in
    let row = lent_more _ _ _ grown in
    let new = fresh (record { start = start; kept = kept }) c.args.self.now bytes c.self.view_is c.requires in
    let index = index_more _ _ start c.self.inside.end bytes kept c.self.invariant.0 c.self.invariant.1 new c.in-Ok-insert.ensures.updates in
    let end = end_more start c.self.inside.end _ bytes kept c.self.invariant.1 c.saturating_add-self-inside.ensures in (
      subst (IsIndex c.insert.new.self start) (sym row) index,
      end ∙ ap (λ kept. saturated (start + sum_by length kept)) (sym row),
    )

pub returns-clause-kept : goal.returns-clause-kept
returns-clause-kept c =
    let grown : c.push.new.self.items ≡ c.self.inside.kept.items ++ c.args.bytes ∷ [] = grind arith in
    kept_now (record { start = c.self.inside.start; kept = lent c.self.inside.kept.items }) c.args.self.now c.args.bytes.now
    (lent c.push.new.self.items) c.self.view_is c.requires (lent_more _ _ _ grown)

pub returns-clause-place : goal.returns-clause-place
returns-clause-place c =
    let grown : c.push.new.self.items ≡ c.self.inside.kept.items ++ c.args.bytes ∷ [] = grind arith in
    place_now (record { start = c.self.inside.start; kept = lent c.self.inside.kept.items }) c.args.self.now c.self.inside.end c.args.bytes.now
    (lent c.push.new.self.items) c.self.view_is c.requires (lent_more _ _ _ grown) c.self.invariant.1
