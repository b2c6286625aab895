use Rattle.std.proofs.Common.{◌∙◌, ◌++◌, ap}
use Rattle.pt_manifest.proofs.DaysLemmas.{day_text-named}
use Rattle.pt_manifest.specs.Days.{day_text}
use Rattle.pt_manifest.proofs.writing.write_day.Goals as goal

pub returns-in-Ok : goal.returns-in-Ok
returns-in-Ok c = record {
  text = let label = c.in_ok-extend_from_slice.ensures.items in
      let day = day_text c.args.day in
      c.in-Ok.ensures.only day (day_text-named c.args.day c.in-Ok.ensures.text.0 c.in-Ok.ensures.text.1)
      ∙ ap (λ out. out ++ day) label;
}
