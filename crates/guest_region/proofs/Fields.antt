-- A block's fields, without its bytes. Assumes `Logic`.
use Rattle.std.proofs.Common.{ℕ, ◌+◌, [], ◌∷◌}
use seplogic.Ra.Ura.{Ura}
use base.Fml.{Lft}
use base.Logic.{ent, sep}
use types.Logic.{Logic, sem}
use types.Kit.{‵, ◌$◌, ◌∵◌, !, qed, keep, fsplit, done}
use denote.Memory.{hidden_shr}
use denote.Opens.{hide, unhide, shr_dup}
use denote.RattleType.{RattleType}
use denote.RawPtr.{RawPtr, ptr_row_laws, block_ptr}
use denote.Struct.Owning.{shape, lending}
use denote.Struct.Struct.{Struct, Struct-row_laws}
use Rattle.guest_region.specs.contracts.block.RawBlock as B

abbrev pub Fields : RattleType
Fields = Struct (shape (lending B.struct B.the_codes B.the_heap B.the_lent))

-- a `&` to the fields is one to the pointer
pub shows_ptr : {M : Type 1} {𝓤 : Ura M} (𝓛 : Logic 𝓤) (κ : Lft) (b o rb ro : ℕ)
    → ent 𝓤 (sem 𝓛 (hidden_shr Fields κ (block_ptr b o, tt) rb ro))
    (sep 𝓤 (sem 𝓛 (hidden_shr RawPtr κ (block_ptr b o) rb (ro + 0))) (sem 𝓛 (hidden_shr Fields κ (block_ptr b o, tt) rb ro)))
shows_ptr 𝓛 κ b o rb ro =
    qed 𝓛 (‵ (hidden_shr Fields κ (block_ptr b o, tt) rb ro) ∷ []) ∵
    shr_dup ! Fields (Struct-row_laws (shape (lending B.struct B.the_codes B.the_heap B.the_lent)) (ptr_row_laws, tt)) (block_ptr b o, tt) rb ro κ $
    unhide ! $ fsplit ! $ fsplit ! $ hide ! $ keep ! (0 ∷ 3 ∷ []) $ done !
