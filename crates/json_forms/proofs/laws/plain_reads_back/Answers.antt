use Rattle.json_forms.proofs.PlainTexts.{json_of_text}
use Rattle.json_forms.proofs.laws.plain_reads_back.Goals as goal

pub returns : goal.returns
returns c = json_of_text
