use Rattle.std.proofs.Common.{sym, subst, arith}
use Rattle.pt_base_records.specs.Records.{Each}
use Rattle.pt_desk_rules.specs.Ranges.{FitsDrive}
use Rattle.pt_tables_opening.proofs.GatheredLemmas.{each_push}
use Rattle.pt_tables_opening.proofs.PlanReading.{no-drives, drives-next}
use Rattle.pt_tables_opening.proofs.travel.drives_of.Goals as goal

pub returns-in-None : goal.returns-in-None
returns-in-None c = record {
  told = λ drives day each same.
      no-drives c.args.from_day c.args.rows.now c.loop-row.row-index c.row-item.result (omega arith) c.row-item.is c.in-None.ensures drives day each same;
}

pub loop-row-preserved : goal.loop-row-preserved
loop-row-preserved c =
    let day = c.args.from_day in
    let drives = c.loop-row.drives.items in
    let drive = c.in-Some.drive in
    let told = c.in-Some.ensures in
    let pushed = c.in_ok-push-in-Some.ensures.items in
    record {
      rows_are = drives-next day c.args.rows.now c.loop-row.row-index c.row-item.result (omega arith) c.row-item.is drives c.push.new.self.items drive told.0 pushed
          c.loop-row.invariant.rows_are;
      each = subst (Each FitsDrive) (sym pushed) (each_push FitsDrive drives drive c.loop-row.invariant.each told.1.drive);
    }
