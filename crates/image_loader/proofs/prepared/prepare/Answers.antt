use Rattle.std.proofs.Common.{◌≡◌, refl, sym, subst, inl, inr}
use Rattle.igvm_headers.specs.declared.platform_kind.PlatformKind.{PlatformKind}
use Rattle.igvm_headers.specs.declared.platform_kind.PlatformKind.TheVariants.{SevSnp, Tdx}
use Rattle.launch_platform.specs.Machine.{HasDigest}
use Rattle.image_loader.specs.Loads.{Load}
use Rattle.image_loader.proofs.prepared.prepare.Goals as goal

-- a kind that is neither has no launch digest
no_digest : (kind : PlatformKind) → (kind ≡ SevSnp → ⊥) → (kind ≡ Tdx → ⊥) → HasDigest kind → ⊥
no_digest kind not_snp not_tdx (inl is) = not_snp is
no_digest kind not_snp not_tdx (inr is) = not_tdx is

pub returns-in_default : goal.returns-in_default
returns-in_default c = record {
  load = tt;
  digest = tt;
  fits = tt;
  refused = (refl, no_digest c.args.platform.kind c.in_default.not-SevSnp c.in_default.not-Tdx);
}

pub invariant_of-result : goal.invariant_of-result
invariant_of-result c = subst (λ (load : Load). HasDigest load.platform.kind) (sym c.in-Ok.ensures.load) c.in-SevSnp.is
