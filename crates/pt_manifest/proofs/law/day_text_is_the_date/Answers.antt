use Rattle.pt_manifest.proofs.DaysLemmas.{day_text-is_date}
use Rattle.pt_manifest.proofs.law.day_text_is_the_date.Goals as goal

pub returns : goal.returns
returns c = day_text-is_date
