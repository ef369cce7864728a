-- Headers that say the same for two platforms: the same is measured and placed.
use Rattle.std.proofs.Common.{◌≡◌, ℕ, List, [], sym, ◌∙◌}
use Rattle.std.specs.List.{flat_map}
use Rattle.igvm_headers.specs.declared.options.Options.{Options}
use Rattle.igvm_headers.specs.declared.platform_kind.PlatformKind.{PlatformKind}
use Rattle.host_set.specs.Hosts.{HostValues}
use Rattle.igvm_image.specs.Areas.{areas_of}
use Rattle.igvm_image.specs.Headers.{PlacedHeader}
use Rattle.directive_rules.specs.FirstMisfit.{headers_for, headers_in}
use Rattle.igvm_measure.specs.Measured.{counted, snp_header_measured, tdx_header_measured}
use Rattle.sev_chain.specs.SevBytes.{header_bytes}
use Rattle.image_loader.specs.PlacedPages.{header_contexts}
use Rattle.launch_likeness.proofs.PagesBy.{pages_by}

pub record Alike (old : ℕ) (ps : List PlacedHeader) (new : ℕ) (qs : List PlacedHeader) : Type 0 where
  pub snp : (options : Options) → counted (snp_header_measured options (areas_of (headers_in qs))) new qs
      ≡ counted (snp_header_measured options (areas_of (headers_in ps))) old ps
  pub tdx : counted (tdx_header_measured (areas_of (headers_in qs))) new qs
      ≡ counted (tdx_header_measured (areas_of (headers_in ps))) old ps
  pub sev : (kind : PlatformKind) → counted (header_bytes kind) new qs ≡ counted (header_bytes kind) old ps
  pub contexts : flat_map header_contexts (headers_for new qs) ≡ flat_map header_contexts (headers_for old ps)
  pub placed : (kind : PlatformKind) (options : Options) (host : HostValues)
      → pages_by kind options host (areas_of (headers_in qs)) [] (headers_for new qs)
      ≡ pages_by kind options host (areas_of (headers_in ps)) [] (headers_for old ps)

pub alike_back : {old new : ℕ} {ps qs : List PlacedHeader} → Alike old ps new qs → Alike new qs old ps
alike_back a = record {
  snp = λ options. sym (a.snp options);
  tdx = sym a.tdx;
  sev = λ kind. sym (a.sev kind);
  contexts = sym a.contexts;
  placed = λ kind options host. sym (a.placed kind options host);
}

pub alike_on : {old new last : ℕ} {ps qs rs : List PlacedHeader} → Alike old ps new qs → Alike new qs last rs → Alike old ps last rs
alike_on a b = record {
  snp = λ options. b.snp options ∙ a.snp options;
  tdx = b.tdx ∙ a.tdx;
  sev = λ kind. b.sev kind ∙ a.sev kind;
  contexts = b.contexts ∙ a.contexts;
  placed = λ kind options host. b.placed kind options host ∙ a.placed kind options host;
}
