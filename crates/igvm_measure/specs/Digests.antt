-- The launch digest of a file for a platform: that of the records of the pages that are measured.
use Rattle.std.specs.Prelude.{ℕ, List, map, Option, Some, None}
use Rattle.std.specs.List.{flat_map}
use Rattle.igvm_headers.specs.declared.options.Options.{Options}
use Rattle.igvm_headers.specs.declared.platform_kind.PlatformKind.{PlatformKind}
use Rattle.igvm_headers.specs.declared.platform_kind.PlatformKind.TheVariants.{SevSnp, Tdx}
use Rattle.platform_masks.specs.declared.platform.Platform.{Platform}
use Rattle.snp_chain.specs.Chain.{snp}
use Rattle.tdx_chain.specs.Stream.{tdx}
use Rattle.igvm_measure.specs.Measured.{snp_measured, tdx_measured}
use Rattle.igvm_measure.specs.Records.{snp_record, tdx_records_of}

-- the SEV-SNP launch digest of a file for a platform's mask
unfoldable pub snp_digest : Options → List ℕ → ℕ → List ℕ
snp_digest options file mask = snp (map snp_record (snp_measured options file mask))

-- the TDX measurement of a file for a platform's mask
unfoldable pub tdx_digest : List ℕ → ℕ → List ℕ
tdx_digest file mask = tdx (flat_map tdx_records_of (tdx_measured file mask))

-- the launch digest of a file for a platform of this kind, under its mask, where the kind has one
abbrev pub digest_by : PlatformKind → Options → List ℕ → ℕ → Option (List ℕ)
digest_by SevSnp options file mask = Some (snp_digest options file mask)
digest_by Tdx options file mask = Some (tdx_digest file mask)
digest_by _ options file mask = None

-- the launch digest of a file for a platform
abbrev pub digest_of : List ℕ → Platform → Options → Option (List ℕ)
digest_of file platform options = digest_by platform.kind options file platform.mask
