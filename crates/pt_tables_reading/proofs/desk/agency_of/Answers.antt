use Rattle.std.proofs.Common.{◌∙◌, arith}
use Rattle.pt_tables_reading.proofs.ReadingLemmas.{number-only, eleven-read}
use Rattle.pt_tables_reading.proofs.desk.agency_of.Goals as goal

pub returns : goal.returns
returns c =
    let id = number-only c.in_ok-number_in.field-0 1 c.in_ok-number_in.ensures.1 ∙ c.in_ok-number_in.ensures.0 in
    let version = number-only c.in_ok-number_in-2.field-0 2 c.in_ok-number_in-2.ensures.1
    ∙ c.in_ok-number_in-2.ensures.0 in (
      eleven-read c.args.row.now (omega arith) id version c.in_ok-number_in-3.ensures.0 c.in_ok-number_in-4.ensures.0
          c.in_ok-number_in-5.ensures.0 c.in_ok-number_in-6.ensures.0 c.in_ok-number_in-7.ensures.0
          c.in_ok-number_in-8.ensures.0 c.in_ok-number_in-9.ensures.0 c.in_ok-number_in-10.ensures.0
          c.in_ok-number_at.ensures.0,
      c.in_ok-number_at.ensures.1,
    )
