-- How a page that a launch tags enters the chain.
use Rattle.std.specs.Prelude.{ℕ, List, replicate}
use Rattle.sha2.specs.Sha512.{sha384}
use Rattle.igvm_headers.specs.declared.tag.Tag.{Tag}
use Rattle.igvm_headers.specs.declared.tag.Tag.TheVariants as tag
use Rattle.snp_chain.specs.declared.page.SnpPage.{SnpPage}
use Rattle.snp_chain.specs.declared.page.SnpPage.TheVariants as snp

-- the page type that a tag stands for
abbrev pub page_type_of : Tag → SnpPage
page_type_of tag.Normal = snp.Normal
page_type_of tag.Zero = snp.Zero
page_type_of tag.Unmeasured = snp.Unmeasured
page_type_of tag.Secrets = snp.Secrets
page_type_of tag.Cpuid = snp.Cpuid

-- SHA-384 of the page's bytes where they are measured, and 48 zeros for each other tag
abbrev pub contents_by : Tag → List ℕ → List ℕ
contents_by tag.Normal page = sha384 page
contents_by _ page = replicate 48 0
