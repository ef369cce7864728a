-- Bytes side by side in memory. Assumes `Logic`.
--     part_out, part_in     a part is taken out of a row, and bytes are put in its place
--     row_more              a zero behind a row of zeros makes the row longer
--     row_room              a row is room
--     part_seen             of a `&` to a row, a `&` to a part
use Rattle.std.proofs.Common.{◌≡◌, ℕ, zero, suc, ◌+◌, ◌≤◌, List, [], ◌∷◌, ◌++◌, length, replicate, refl, sym, ap, subst, ◌∙◌, arith, append_assoc, length-take, length-drop, take-append-drop, w8}
use Rattle.std.proofs.Common.{take as take_l, drop as drop_l}
use Rattle.std.proofs.lemmas.List.{drop-drop}
use seplogic.Ra.Ura.{Ura}
use base.Fraction.{full_share}
use base.Logic.{ent, sep, id⊢, via, snd∗, mono_r}
use base.Fml.{Lft, Fml, fsep, fat, froom, ftrue}
use mir.Syntax.{ty_int, ty_array}
use mir.Val.{vint}
use types.Logic.{Logic, sem}
use types.Kit.{‵, ◌⊛◌, ◌$◌, ◌∵◌, !, qed, by, move, keep, drop, use1, use2, split, fsplit, fjoin, rewrite, done}
use denote.Builtin.{u8}
use denote.Index.{row}
use denote.Memory.{part_at, shared_of}
use denote.Plain.{uint_out, uint_in}
use denote.Slice.{elements_shared}
use denote.Steps.{nothing}
use Rattle.guest_region.specs.ByteSlices.{part, with_part}

abbrev pub Row : List ℕ → ℕ → ℕ → Fml
Row bytes b o = row u8 full_share bytes b o

module _ {M : Type 1} {𝓤 : Ura M} (𝓛 : Logic 𝓤) (b : ℕ) where
  open 𝓛 use {H}

  cut : (xs ys : List ℕ) (o at : ℕ) → at ≡ length xs + o → ent 𝓤 (sem 𝓛 (Row (xs ++ ys) b o)) (sep 𝓤 (sem 𝓛 (Row xs b o)) (sem 𝓛 (Row ys b at)))
  cut [] ys o at e = qed 𝓛 (‵ (Row ys b o) ∷ []) ∵ rewrite ! 0 (λ (k : ℕ). ‵ (Row ys b k)) {x = at} (omega arith) refl $ nothing ! $ done !
  cut (x ∷ xs) ys o at e = qed 𝓛 (‵ (Row (x ∷ xs ++ ys) b o) ∷ []) ∵ fsplit ! $ move ! (1 ∷ []) $
      use1 𝓛 (‵ (Row xs b (o + 1)) ⊛ ‵ (Row ys b at)) (cut xs ys (o + 1) at (omega arith)) $ split ! $ move ! (2 ∷ 0 ∷ []) $ fjoin ! $ done !

  glue : (xs ys : List ℕ) (o at : ℕ) → at ≡ length xs + o → ent 𝓤 (sep 𝓤 (sem 𝓛 (Row xs b o)) (sem 𝓛 (Row ys b at))) (sem 𝓛 (Row (xs ++ ys) b o))
  glue [] ys o at e = qed 𝓛 (‵ ftrue ∷ ‵ (Row ys b at) ∷ []) ∵ drop ! $ rewrite ! 0 (λ (k : ℕ). ‵ (Row ys b k)) {x = o} (omega arith) refl $ done !
  glue (x ∷ xs) ys o at e = qed 𝓛 (‵ (Row (x ∷ xs) b o) ∷ ‵ (Row ys b at) ∷ []) ∵ fsplit ! $ move ! (1 ∷ 2 ∷ []) $
      use2 𝓛 (‵ (Row (xs ++ ys) b (o + 1))) (glue xs ys (o + 1) at (omega arith)) $ move ! (1 ∷ 0 ∷ []) $ fjoin ! $ done !

  module _ (o : ℕ) (bytes : List ℕ) (at len : ℕ) (within : at + len ≤ length bytes) where
    -- all but the part
    abbrev pub Around : Fml
    Around = fsep (Row (take_l at bytes) b o) (Row (drop_l (at + len) bytes) b (len + (at + o)))

    before : at + o ≡ length (take_l at bytes) + o
    before = omega (arith, length-take at bytes)

    pub part_out : ent 𝓤 (sem 𝓛 (Row bytes b o)) (sep 𝓤 (sem 𝓛 (Row (part bytes at len) b (at + o))) (sem 𝓛 Around))
    part_out =
        let mid = part bytes at len in
        let long : length mid ≡ len = omega (arith, length-take len (drop_l at bytes), length-drop at bytes) in
        qed 𝓛 (‵ (Row bytes b o) ∷ []) ∵
        rewrite ! 0 (λ (l : List ℕ). ‵ (Row l b o)) (sym (take-append-drop at bytes) ∙ ap (λ l. take_l at bytes ++ l) (sym (take-append-drop len (drop_l at bytes)) ∙ ap (λ l. mid ++ l) (drop-drop len at bytes))) refl $
        use1 𝓛 (‵ (Row (take_l at bytes) b o) ⊛ ‵ (Row (mid ++ drop_l (at + len) bytes) b (at + o))) (cut (take_l at bytes) (mid ++ drop_l (at + len) bytes) o (at + o) before) $ split ! $ move ! (1 ∷ []) $
        use1 𝓛 (‵ (Row mid b (at + o)) ⊛ ‵ (Row (drop_l (at + len) bytes) b (len + (at + o)))) (cut mid (drop_l (at + len) bytes) (at + o) (len + (at + o)) (omega arith)) $
        split ! $ move ! (2 ∷ 1 ∷ []) $ fjoin ! $ move ! (1 ∷ []) $ done !

    pub part_in : (new : List ℕ) → length new ≡ len → ent 𝓤 (sep 𝓤 (sem 𝓛 (Row new b (at + o))) (sem 𝓛 Around)) (sem 𝓛 (Row (with_part bytes at new) b o))
    part_in new long =
        let rest = drop_l (at + length new) bytes in
        qed 𝓛 (‵ (Row new b (at + o)) ∷ ‵ Around ∷ []) ∵ move ! (1 ∷ []) $ fsplit ! $ move ! (2 ∷ 1 ∷ []) $
        rewrite ! 1 (λ (k : ℕ). ‵ (Row (drop_l (at + k) bytes) b (len + (at + o)))) (sym long) refl $
        use2 𝓛 (‵ (Row (new ++ rest) b (at + o))) (glue new rest (at + o) (len + (at + o)) (omega arith)) $ move ! (1 ∷ 0 ∷ []) $
        use2 𝓛 (‵ (Row (take_l at bytes ++ (new ++ rest)) b o)) (glue (take_l at bytes) (new ++ rest) o (at + o) before) $
        rewrite ! 0 (λ (l : List ℕ). ‵ (Row l b o)) (sym (append_assoc (take_l at bytes) new rest)) refl $ done !

  pub row_more : (n o : ℕ) → ent 𝓤 (sep 𝓤 (sem 𝓛 (Row (replicate n 0) b o)) (H.at full_share (ty_int w8) b (n + o) (vint w8 0))) (sem 𝓛 (Row (replicate (suc n) 0) b o))
  row_more zero o = qed 𝓛 (‵ ftrue ∷ ‵ (fat full_share (ty_int w8) b (0 + o) (vint w8 0)) ∷ []) ∵ drop ! $
      rewrite ! 0 (λ (k : ℕ). ‵ (fat full_share (ty_int w8) b k (vint w8 0))) {x = o} (omega arith) refl $
      use1 𝓛 (‵ (part_at u8 full_share 0 b o)) (uint_in 𝓛 full_share w8 0 b o) $ nothing ! $ move ! (1 ∷ 0 ∷ []) $ fjoin ! $ done !
  row_more (suc n) o = qed 𝓛 (‵ (Row (replicate (suc n) 0) b o) ∷ ‵ (fat full_share (ty_int w8) b (suc n + o) (vint w8 0)) ∷ []) ∵ fsplit ! $ move ! (1 ∷ 2 ∷ []) $
      rewrite ! 1 (λ (k : ℕ). ‵ (fat full_share (ty_int w8) b k (vint w8 0))) {x = n + (o + 1)} (omega arith) refl $
      use2 𝓛 (‵ (Row (replicate (suc n) 0) b (o + 1))) (row_more n (o + 1)) $ move ! (1 ∷ 0 ∷ []) $ fjoin ! $ done !

  pub row_room : (bytes : List ℕ) (o : ℕ) → ent 𝓤 (sem 𝓛 (Row bytes b o)) (H.room (ty_array (ty_int w8) (length bytes)) b o)
  row_room [] o = 𝓛.laws.room_nil (ty_int w8) b o
  row_room (x ∷ xs) o = qed 𝓛 (‵ (Row (x ∷ xs) b o) ∷ []) ∵ fsplit ! $ use1 𝓛 (‵ (fat full_share (ty_int w8) b o (vint w8 x))) (uint_out 𝓛 full_share w8 x b o) $
      use1 𝓛 (‵ (froom (ty_int w8) b o)) (𝓛.laws.at_room (ty_int w8) b o (vint w8 x)) $ move ! (1 ∷ []) $
      use1 𝓛 (‵ (froom (ty_array (ty_int w8) (length xs)) b (o + 1))) (row_room xs (o + 1)) $ move ! (1 ∷ []) $ by ! (𝓛.laws.room_cons (ty_int w8) (length xs) b o)

  module _ (κ : Lft) where
    abbrev Seen : List ℕ → ℕ → Fml
    Seen bytes o = elements_shared u8 bytes b o κ

    from_on : (bytes : List ℕ) (i o at : ℕ) → i ≤ length bytes → at ≡ i + o → ent 𝓤 (sem 𝓛 (Seen bytes o)) (sem 𝓛 (Seen (drop_l i bytes) at))
    from_on bytes zero o at le e = let same : o ≡ at = omega arith in subst (λ k. ent 𝓤 (sem 𝓛 (Seen bytes o)) (sem 𝓛 (Seen bytes k))) same (id⊢ 𝓤 _)
    from_on [] (suc i) o at le e = absurd (omega arith)
    from_on (x ∷ xs) (suc i) o at le e =
        via 𝓤 (sem 𝓛 (Seen xs (o + 1))) (snd∗ 𝓤 (sem 𝓛 (shared_of u8 x b o κ)) (sem 𝓛 (Seen xs (o + 1)))) (from_on xs i (o + 1) at (omega arith) (omega arith))

    up_to : (bytes : List ℕ) (n o : ℕ) → ent 𝓤 (sem 𝓛 (Seen bytes o)) (sem 𝓛 (Seen (take_l n bytes) o))
    up_to bytes zero o = qed 𝓛 (‵ (Seen bytes o) ∷ []) ∵ keep ! [] $ done !
    up_to [] (suc n) o = id⊢ 𝓤 _
    up_to (x ∷ xs) (suc n) o = mono_r 𝓤 (sem 𝓛 (shared_of u8 x b o κ)) (up_to xs n (o + 1))

    pub part_seen : (bytes : List ℕ) (at len o : ℕ) → at ≤ length bytes → ent 𝓤 (sem 𝓛 (Seen bytes o)) (sem 𝓛 (Seen (part bytes at len) (at + o)))
    part_seen bytes at len o le = via 𝓤 (sem 𝓛 (Seen (drop_l at bytes) (at + o))) (from_on bytes at o (at + o) le refl) (up_to (drop_l at bytes) len (at + o))
