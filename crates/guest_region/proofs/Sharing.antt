-- A `&` to a block's bytes is made, and copied, where one to each byte is. Assumes `Logic`.
use Rattle.std.specs.Prelude.{ℕ, ◌^◌, List, length}
use seplogic.Ra.Ura.{Ura}
use base.Fraction.{full_share}
use base.Fml.{Lft, ffalse, flt}
use types.Logic.{Logic}
use denote.Builtin.{u8}
use denote.Index.{row}
use denote.Memory.{shared_of}
use denote.RawPtr.{Ptr, block_ptr, null_ptr}
use denote.Shares.{shares_each}
use denote.Sharing.{ShrLaws, said}
use denote.SharingLaws.{beside_shr_laws, said_shr_laws}
use denote.Slice.{elements_shared, elements_shr_laws}
use denote.Struct.Laws.{u8-copy}
use denote.Struct.Lending.{Lends, Lends-both, Lends-said, Lends-false}
use Rattle.guest_region.specs.Ownership.{bytes_own, bytes_lent}

pub bytes_lent_laws : (p : Ptr) (bytes : List ℕ) → ShrLaws (bytes_lent p bytes)
bytes_lent_laws (block_ptr b o) bytes =
    beside_shr_laws _ _ (said_shr_laws (flt (length bytes) (2 ^ 63)) tt) (elements_shr_laws u8 u8-copy.shr_laws bytes b o)
bytes_lent_laws null_ptr bytes = said_shr_laws ffalse tt

pub Lends-bytes : {M : Type 1} {𝓤 : Ura M} (𝓛 : Logic 𝓤) (l : Lft) (p : Ptr) (bytes : List ℕ) → Lends 𝓛 (bytes_own p bytes) (bytes_lent p bytes) l
Lends-bytes {𝓤 = 𝓤} 𝓛 l (block_ptr b o) bytes =
    let small = flt (length bytes) (2 ^ 63) in
    Lends-both 𝓛 small (row u8 full_share bytes b o) (said small) (elements_shared u8 bytes b o) l (Lends-said 𝓛 small tt l)
    (λ κ ts inc sp. shares_each 𝓛 u8 (shared_of u8) l ((u8-copy.copied _ 𝓤 𝓛).shares full_share l) bytes κ ts b o inc sp)
Lends-bytes 𝓛 l null_ptr bytes = Lends-false 𝓛 (said ffalse) l
