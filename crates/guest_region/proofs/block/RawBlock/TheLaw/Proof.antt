-- A `&` to a block reaches each of its bytes. Assumes `Logic`.
use denote.Param.Shared.{copy_shared}
use denote.Struct.Field.{RawPtr-field}
use denote.Struct.Laws.{RawPtr-copy}
use denote.Struct.Lending.{of_Lends}
use Rattle.guest_region.specs.contracts.block.RawBlock as C
use Rattle.guest_region.proofs.Sharing.{bytes_lent_laws, Lends-bytes}
use Rattle.guest_region.proofs.block.RawBlock.TheLaw.Statement.{statement}

pub shares : statement
shares =
    of_Lends C.struct C.the_codes C.the_heap C.the_lent (λ d p. bytes_lent_laws d.ptr d.bytes) (copy_shared RawPtr-field RawPtr-copy, tt)
    (λ M 𝓤 𝓛 d p. Lends-bytes 𝓛 C.the_row.lives d.ptr d.bytes)
