use Rattle.std.proofs.Common.{◌∙◌, ◌++◌, ap}
use Rattle.std.proofs.lemmas.Result.{on_ok_weaker}
use Rattle.csv.specs.Writing.{default_writer, row_text}
use Rattle.pt_manifest.specs.Export.{trip_fields, written}
use Rattle.pt_manifest.proofs.CsvLemmas.{row_text-trip}
use Rattle.pt_manifest.proofs.export.write_trip.Goals as goal

pub returns-clause-text : goal.returns-clause-text
returns-clause-text c =
    let fields = c.in_ok-push_trip.ensures.fields ∙ ap (λ fields. fields ++ trip_fields c.args.trip.now) c.new-row.ensures.fields in
    let line = ap (row_text default_writer) fields ∙ row_text-trip c.args.trip.now in
    on_ok_weaker c.write_row.result (λ text. text ∙ ap (λ line. written c.args.writer.now ++ line) line) c.write_row.ensures.text
