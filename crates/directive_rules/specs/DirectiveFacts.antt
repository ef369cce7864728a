-- What the rows ask of one header.
use Rattle.std.specs.Prelude.{ℕ, ◌==◌, Bool, true, false, Option, Some, None}
use Rattle.igvm_headers.specs.declared.header.Header.{Header}
use Rattle.igvm_headers.specs.declared.header.Header.TheVariants.{Policy, Insert, Context, IdBlock}
use Rattle.directive_rules.specs.declared.misfit.IdWanted.{IdWanted}

-- it is a policy
abbrev pub is_policy : Header → Bool
is_policy (Policy policy mask) = true
is_policy _ = false

-- it is the context of a virtual processor
abbrev pub is_context : Header → Bool
is_context (Context gpa mask offset vp) = true
is_context _ = false

-- it is the context of the virtual processor of this number
abbrev pub is_context_of : ℕ → Header → Bool
is_context_of number (Context gpa mask offset vp) = number == vp
is_context_of number _ = false

-- it is an ID block
abbrev pub is_id_block : Header → Bool
is_id_block (IdBlock mask author_enabled ld family_id image_id version guest_svn id_algorithm author_algorithm) = true
is_id_block _ = false

-- it puts the area of an index into the guest
abbrev pub inserts : ℕ → Header → Bool
inserts index (Insert gpa mask area) = index == area
inserts index _ = false

-- the digest that it wants, where it is an ID block, with its number
abbrev pub wanted_by : ℕ → Header → Option IdWanted
wanted_by index (IdBlock mask author_enabled ld family_id image_id version guest_svn id_algorithm author_algorithm) =
    Some (record { index = index; wanted = ld })
wanted_by index _ = None
