-- Bytes behind a file.
use Rattle.std.proofs.Common.{◌≡◌, ℕ, List, refl, ap, map, Some}
use Rattle.std.specs.List.{flat_map}
use Rattle.igvm_headers.specs.declared.platform_kind.PlatformKind.{PlatformKind}
use Rattle.igvm_headers.specs.declared.platform_kind.PlatformKind.TheVariants.{Native, VsmIsolation, SevSnp, Tdx, Sev, SevEs}
use Rattle.igvm_headers.specs.declared.options.Options.{Options}
use Rattle.snp_chain.specs.Chain.{snp}
use Rattle.tdx_chain.specs.Stream.{tdx}
use Rattle.igvm_image.specs.Areas.{areas_of}
use Rattle.igvm_image.specs.Headers.{PlacedHeader, placed_headers}
use Rattle.igvm_measure.specs.Measured.{counted, snp_header_measured, tdx_header_measured}
use Rattle.igvm_measure.specs.Records.{snp_record, tdx_records_of}
use Rattle.igvm_measure.specs.Digests.{digest_by, snp_digest, tdx_digest}

-- files with the same headers and data have the same digests
pub same_digests : (kind : PlatformKind) (options : Options) (one other : List ℕ) (mask : ℕ) → placed_headers other ≡ placed_headers one → digest_by kind options other mask ≡ digest_by kind options one mask
unfolding snp_digest tdx_digest
same_digests SevSnp options one other mask same =
    ap (λ (placed : List PlacedHeader). Some (snp (map snp_record (counted (snp_header_measured options (areas_of (map (λ (p : PlacedHeader). p.header) placed))) mask placed)))) same
same_digests Tdx options one other mask same =
    ap (λ (placed : List PlacedHeader). Some (tdx (flat_map tdx_records_of (counted (tdx_header_measured (areas_of (map (λ (p : PlacedHeader). p.header) placed))) mask placed)))) same
same_digests Native options one other mask same = refl
same_digests VsmIsolation options one other mask same = refl
same_digests Sev options one other mask same = refl
same_digests SevEs options one other mask same = refl
