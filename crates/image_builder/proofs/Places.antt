-- What is kept while the contents of components are placed in order.
use Rattle.std.proofs.Common.{◌≡◌, ℕ, ◌+◌, List, [], ◌∷◌, ◌++◌, refl, sym, ◌∙◌, ap, fold, append-nil, append_assoc, take, Bool, true, false}
use Rattle.std.specs.Prelude.{if◌then◌else◌}
use Rattle.std.proofs.lemmas.List.{map-append}
use Rattle.std.proofs.lemmas.List.Sums.{fold-append}
use Rattle.std.proofs.lemmas.Grind.{flat_map-append}
use Rattle.component_list.specs.declared.component.Component.{Component}
use Rattle.component_list.specs.declared.component.Content.{Content}
use Rattle.component_list.specs.declared.component.Content.TheVariants.{Nothing, Zero, Bytes}
use Rattle.image_builder.specs.DistinctContents.{stored, contents, distinct}
use Rattle.image_builder.specs.ContentIndex.{is_kept, kept_with, saturated}
use Rattle.image_builder.specs.Layout.{offset_among, kept_contents}
use Rattle.image_builder.specs.Plans.{offsets_in}
use Rattle.image_builder.proofs.Distinct.{distinct-more}

-- The components before a place are placed: the row has their contents, and whatever comes behind, their offsets stay.
pub record Placing (start : ℕ) (parts : List Component) (kept : List (List ℕ)) (offsets : List ℕ) (place : ℕ) : Type 0 where
  pub taken : kept ≡ fold kept_with [] (contents (take place parts))
  pub stay : (more : List (List ℕ)) → offsets ≡ offsets_in start (kept ++ more) (take place parts)

pub contents-push : (parts : List Component) (c : Component) → contents (parts ++ c ∷ []) ≡ contents parts ++ stored c.content
unfolding contents
contents-push parts c = flat_map-append (λ (c : Component). stored c.content) parts (c ∷ []) ∙ ap (λ ks. contents parts ++ ks) (append-nil (stored c.content))

-- a row only grows at its end
pub record Grows (old now : List (List ℕ)) : Type 0 where
  pub more : List (List ℕ)
  pub is : now ≡ old ++ more

grown : (kept : List (List ℕ)) (bytes : List ℕ) (b : Bool) → Grows kept (if b then kept else kept ++ bytes ∷ [])
grown kept bytes true = record { more = []; is = sym (append-nil kept) }
grown kept bytes false = record { more = bytes ∷ []; is = refl }

grown_by : (kept : List (List ℕ)) (content : Content) → Grows kept (fold kept_with kept (stored content))
grown_by kept Nothing = grown kept [] true
grown_by kept Zero = grown kept [] true
grown_by kept (Bytes bytes) = grown kept bytes (is_kept bytes kept)

pub placing_start : (start : ℕ) (parts : List Component) → Placing start parts [] [] 0
unfolding contents
placing_start start parts = record { taken = refl; stay = λ more. refl }

pub placing_step : (start : ℕ) (parts : List Component) (kept next : List (List ℕ)) (offsets : List ℕ) (place offset : ℕ) (c : Component)
    → Placing start parts kept offsets place
    → take (place + 1) parts ≡ take place parts ++ c ∷ []
    → next ≡ fold kept_with kept (stored c.content)
    → ((more : List (List ℕ)) → offset ≡ saturated (offset_among start (next ++ more) c.content))
    → Placing start parts next (offsets ++ offset ∷ []) (place + 1)
placing_step start parts kept next offsets place offset c p here one placed = record {
  taken = one
      ∙ ap (λ ks. fold kept_with ks (stored c.content)) p.taken
      ∙ sym (fold-append kept_with [] (contents (take place parts)) (stored c.content))
      ∙ ap (fold kept_with []) (sym (contents-push (take place parts) c) ∙ ap contents (sym here));
  stay = λ more.
      let g = grown_by kept c.content in
      let longer : next ++ more ≡ kept ++ (g.more ++ more) = ap (λ ks. ks ++ more) (one ∙ g.is) ∙ append_assoc kept g.more more in
      ap (λ os. os ++ offset ∷ []) (p.stay (g.more ++ more) ∙ ap (λ ks. offsets_in start ks (take place parts)) (sym longer))
      ∙ ap (λ o. offsets_in start (next ++ more) (take place parts) ++ o ∷ []) (placed more)
      ∙ sym (map-append (λ (c : Component). saturated (offset_among start (next ++ more) c.content)) (take place parts) (c ∷ []))
      ∙ ap (offsets_in start (next ++ more)) (sym here);
}

-- all components are placed
pub placing_kept : (start : ℕ) (parts : List Component) (kept : List (List ℕ)) (offsets : List ℕ) (place : ℕ) → Placing start parts kept offsets place
    → take place parts ≡ parts → kept ≡ kept_contents parts
unfolding distinct
placing_kept start parts kept offsets place p all =
    p.taken ∙ ap (λ ps. fold kept_with [] (contents ps)) all ∙ distinct-more [] (contents parts)

pub placing_offsets : (start : ℕ) (parts : List Component) (kept : List (List ℕ)) (offsets : List ℕ) (place : ℕ) → (p : Placing start parts kept offsets place)
    → take place parts ≡ parts → offsets ≡ offsets_in start (kept_contents parts) parts
placing_offsets start parts kept offsets place p all =
    p.stay []
    ∙ ap (λ ks. offsets_in start ks (take place parts)) (append-nil kept ∙ placing_kept start parts kept offsets place p all)
    ∙ ap (offsets_in start (kept_contents parts)) all
