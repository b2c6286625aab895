use Rattle.std.proofs.Common.{◌∙◌, ◌++◌, ap}
use Rattle.std.proofs.lemmas.Result.{on_ok_weaker}
use Rattle.csv.specs.Writing.{default_writer, row_text}
use Rattle.pt_manifest.specs.Export.{written}
use Rattle.pt_manifest.proofs.CsvLemmas.{row_text-header}
use Rattle.pt_manifest.proofs.export.write_header.Goals as goal

pub returns-clause-text : goal.returns-clause-text
returns-clause-text c =
    let line = ap (row_text default_writer) c.in_ok-row.ensures.fields ∙ row_text-header in
    on_ok_weaker c.write_row.result (λ text. text ∙ ap (λ line. written c.args.writer.now ++ line) line) c.write_row.ensures.text
