use Rattle.std.proofs.Common.{◌<◌, length, sym, ap, subst, ◌∙◌, arith}
use Rattle.std.proofs.lemmas.Bool.Decides.{nat_tests}
use Rattle.pt_base_records.specs.Records.{Each, Edit}
use Rattle.pt_tables_reading.specs.Reading.{Reads}
use Rattle.pt_tables_opening.specs.Gathered.{FitsRows}
use Rattle.pt_tables_opening.proofs.GatheredLemmas.{Ends, done_next, each_push, none_first, remain_next}
use Rattle.pt_tables_opening.proofs.gathered.gathered_of.Goals as goal

pub returns-in-None : goal.returns-in-None
returns-in-None g c =
    let Fits = FitsRows g.T.TableOf.rows_of g.T.TableOf.Fits in
    let left = c.loop-left.left.now in
    let front = c.split_at.result.0.now in
    let some : 0 < length left = grind (arith, nat_tests, c.is_empty.ensures, c.loop-left-test.true) in
    let ends : Ends g.T.Gathered.Begins left c.group_end.result = record {
      within = c.group_end.ensures.within;
      some = c.group_end.ensures.some;
      later = c.group_end.ensures.later;
      next = c.group_end.ensures.next;
    } in
    let none = subst (Reads g.T.TableOf.rows_of Fits front) c.in-None.is c.in_ok-record.ensures.told in
    record {
      told = λ xs each same.
          none_first g.T.TableOf.rows_of Fits g.T.Gathered.Begins (λ x fits. c.of_rows.ensures.once x fits.0) left front c.group_end.result some ends c.split_at.ensures.front none
          (c.loop-left.invariant.back xs each same);
    }

pub loop-left-preserved : goal.loop-left-preserved
loop-left-preserved g c =
    let rows_of = g.T.TableOf.rows_of in
    let Fits = FitsRows g.T.TableOf.rows_of g.T.TableOf.Fits in
    let left = c.loop-left.left.now in
    let front = c.split_at.result.0.now in
    let back = c.split_at.result.1.now in
    let end = c.group_end.result in
    let some : 0 < length left = grind (arith, nat_tests, c.is_empty.ensures, c.loop-left-test.true) in
    let ends : Ends g.T.Gathered.Begins left end = record {
      within = c.group_end.ensures.within;
      some = c.group_end.ensures.some;
      later = c.group_end.ensures.later;
      next = c.group_end.ensures.next;
    } in
    let told = subst (Reads rows_of Fits front) c.in-Some.is c.in_ok-record.ensures.told in
    let put = c.in_ok-put-in-Some.ensures.value in
    let puts = ap (λ (e : Edit _). e.puts) put in
    record {
      away = ap (λ (e : Edit _). e.away) put ∙ c.loop-left.invariant.away;
      done = done_next rows_of c.loop-left.records.puts c.put.new.self.puts c.in-Some.record left c.args.rows.now front back end puts c.split_at.ensures.front
          c.split_at.ensures.back told.0 c.loop-left.invariant.done;
      each = subst (Each Fits) (sym puts) (each_push Fits c.loop-left.records.puts c.in-Some.record c.loop-left.invariant.each told.1);
      back = λ xs each same.
          remain_next rows_of Fits g.T.Gathered.Begins (λ x fits. c.of_rows.ensures.once x fits.0) left back end some ends c.split_at.ensures.back (c.loop-left.invariant.back xs each same);
    }
