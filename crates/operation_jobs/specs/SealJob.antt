-- `seal FILE OUT --platform P [--native-zero]`.
use Rattle.std.specs.Prelude.{ℕ, List, if◌then◌else◌}
use Rattle.platform_masks.specs.declared.platform.Platform.{Platform}
use Rattle.component_list.specs.Lists.{ImageParts}
use Rattle.directive_rules.specs.MisfitRows.{is_snp}
use Rattle.further_words.specs.FurtherWords.{SealWords}
use Rattle.image_ops.specs.Sealed.{has_id_block, sealed}
use Rattle.igvm_jobs.specs.declared.status.Status.TheVariants as is
use Rattle.igvm_jobs.specs.BuildJob.{parts_outcome}
use Rattle.igvm_jobs.specs.MeasureJob.{digest_outcome, platform_digest, platform_outcome, wanted_platform}
use Rattle.igvm_jobs.specs.Outcome.{Outcome, refused}
use Rattle.igvm_jobs.specs.Tasks.{Task}
use Rattle.operation_jobs.specs.OperationTexts.{no_id_block_text, no_seal_text}
use Rattle.operation_jobs.specs.StoredData.{data_outcome, image_task}

-- Of the list of an accepted image: where an ID block counts for the platform, the image is written whose ID blocks that
-- count want the digest of FILE.
abbrev pub sealed_list : SealWords → List ℕ → Platform → ImageParts → Outcome
sealed_list words bytes platform list =
    if has_id_block platform.mask list.parts
    then digest_outcome platform.kind (λ digest. parts_outcome words.target (sealed platform.mask digest list))
    (platform_digest bytes words.options platform)
    else refused is.Platform no_id_block_text

-- of a platform of an accepted image: SEV-SNP alone has ID blocks
abbrev pub sealed_for : SealWords → List ℕ → Platform → Outcome
sealed_for words bytes platform =
    if is_snp platform.kind then data_outcome (sealed_list words bytes platform) bytes
    else refused is.Platform (no_seal_text platform.kind)

-- of an accepted image
unfoldable pub sealed_outcome : SealWords → List ℕ → Outcome
sealed_outcome words bytes =
    platform_outcome words.wanted (sealed_for words bytes) (wanted_platform bytes words.wanted)

-- FILE is read, and OUT is written
abbrev pub seal_task : SealWords → Task
seal_task words = image_task words.file words.target (sealed_outcome words)
