use Rattle.std.proofs.Common.{arith, ◌≡◌, ◌+◌, ◌<◌, ◌≤◌, ◌∷◌, [], ℕ, length, slice_index, refl, sym, subst}
use Rattle.pt_feasible.specs.Route.{stops_of}
use Rattle.pt_feasible.specs.ServiceTimes.{TimesFit}
use Rattle.pt_insertion_search.specs.Possible.{IsPossible}
use Rattle.pt_insertion_search.proofs.InsertionLemmas.{length-with_trip}
use Rattle.pt_audit.specs.declared.line.Line.TheVariants as line
use Rattle.pt_audit.specs.Insertion.{case_of, inserted_stops}
use Rattle.pt_audit.specs.Bounds.{visit_of, raised}
use Rattle.pt_audit.specs.RightLog.{case_line}
use Rattle.pt_audit.specs.Text.{line_text, IsInForm}
use Rattle.std.specs.Io.KnownBytes.{Appends}
use Rattle.pt_audit.proofs.ReadingLemmas.{all_zero, visit-among}
use Rattle.pt_insertion_log.specs.Steps.{IsKeptAt}
use Rattle.pt_insertion_log.specs.Written.{WritesCases}
use Rattle.pt_insertion_log.proofs.FitLemmas.{fit, times_of, clear-loads, clear-room, raise-room}
use Rattle.pt_insertion_log.proofs.WrittenLemmas.{IsBegun, begun_first, begun_raise, begun_end, on_ok}
use Rattle.pt_insertion_log.proofs.cases.explain_case.Goals as goal

pub returns-in-Some-clause-written : goal.returns-in-Some-clause-written
returns-in-Some-clause-written g c =
    let minutes = g.T.Times.minutes c.args.times.now in
    let insertion = c.args.insertion.now in
    let case = case_of insertion in
    let contents = g.W.Write.contents in
    let same = c.number-vehicle.ensures.value in
    let form : IsInForm (case_line case) = subst (λ (v : ℕ). IsInForm (line.Case v insertion.i insertion.j)) same c.write_line.ensures.in_form in
    let written : Appends (contents c.args.out.now) (contents c.write_line.new.out) (line_text (case_line case)) =
    subst (λ (v : ℕ). Appends (contents c.args.out.now) (contents c.write_line.new.out)
    (line_text (line.Case v insertion.i insertion.j))) same c.in_ok-write_line.ensures.line in
    let begun = begun_first minutes case (contents c.args.out.now) (contents c.write_line.new.out) (contents c.write_line-in-Some.new.out) form written in
    on_ok c.write_line-in-Some.result (Appends (contents c.write_line.new.out) (contents c.write_line-in-Some.new.out)
    (line_text (line.End c.in-Some.end))) (WritesCases minutes (case ∷ []) (contents c.args.out.now)
    (contents c.write_line-in-Some.new.out))
    (λ last. begun_end minutes case (contents c.args.out.now) (contents c.write_line.new.out)
    (contents c.write_line-in-Some.new.out) (λ _. 0) c.in-Some.end begun c.in-Some.ensures.end
    c.write_line-in-Some.ensures.in_form last)
    c.write_line-in-Some.ensures.line

pub loop-raise-init : goal.loop-raise-init
loop-raise-init g c =
    let minutes = g.T.Times.minutes c.args.times.now in
    let insertion = c.args.insertion.now in
    let case = case_of insertion in
    let contents = g.W.Write.contents in
    let same = c.number-vehicle.ensures.value in
    let form : IsInForm (case_line case) = subst (λ (v : ℕ). IsInForm (line.Case v insertion.i insertion.j)) same c.write_line.ensures.in_form in
    let written : Appends (contents c.args.out.now) (contents c.write_line.new.out) (line_text (case_line case)) =
    subst (λ (v : ℕ). Appends (contents c.args.out.now) (contents c.write_line.new.out)
    (line_text (line.Case v insertion.i insertion.j))) same c.in_ok-write_line.ensures.line in
    record {
      begun = subst (IsBegun minutes case (contents c.args.out.now) (contents c.write_line.new.out)) (sym (all_zero 104))
          (begun_first minutes case (contents c.args.out.now) (contents c.write_line.new.out) (contents c.write_line.new.out) form written);
      long = refl;
      among = omega arith;
      before = omega arith;
      kept = λ k below other. absurd (omega arith);
    }

pub next_step-requires : goal.next_step-requires
next_step-requires g c = record {
  among = c.loop-raise.invariant.among;
  before = c.loop-raise.invariant.before;
  kept = c.loop-raise.invariant.kept;
}

pub raise_bound-requires : goal.raise_bound-requires
raise_bound-requires g c =
    let minutes = g.T.Times.minutes c.args.times.now in
    let insertion = c.args.insertion.now in
    let step = rw c.in-Some-Raise.field-0-is at c.in-Some-Raise.ensures.step in
    omega (
      arith,
      insertion.route.now.short,
      length-with_trip insertion.asked.now insertion.i insertion.j
          (stops_of insertion.route.now) insertion.drop_later insertion.among,
      visit-among minutes insertion.vehicle.now
          (inserted_stops insertion) (slice_index c.loop-raise.bounds) c.in-Some-Raise.raise step.0,
    )

pub loop-raise-smaller : goal.loop-raise-smaller
loop-raise-smaller g c =
    let step = rw c.in-Some-Raise.field-0-is at c.in-Some-Raise.ensures.step in
    raise-room c.loop-raise.bounds c.raise_bound.new.bounds c.in-Some-Raise.raise
    (omega (arith, c.loop-raise.invariant.long, c.raise_bound.array_long)) c.raise_bound.ensures step.1
    c.write_line-in-Some-Raise.ensures.in_form

pub loop-raise-preserved : goal.loop-raise-preserved
loop-raise-preserved g c =
    let minutes = g.T.Times.minutes c.args.times.now in
    let contents = g.W.Write.contents in
    let vehicle = c.args.insertion.now.vehicle.now in
    let stops = inserted_stops c.args.insertion.now in
    let step = rw c.in-Some-Raise.field-0-is at c.in-Some-Raise.ensures.step in
    let first = rw c.in-Some-Raise.field-0-is at c.in-Some-Raise.ensures.first in
    let bounds : raised (slice_index c.loop-raise.bounds) c.in-Some-Raise.raise ≡ slice_index c.raise_bound.new.bounds = λ i k. sym (c.raise_bound.ensures k) i in
    record {
      begun = begun_raise minutes (case_of c.args.insertion.now) (contents c.args.out.now) (contents c.loop-raise.out)
          (contents c.write_line-in-Some-Raise.new.out) (slice_index c.loop-raise.bounds)
          (slice_index c.raise_bound.new.bounds) c.in-Some-Raise.raise
          c.loop-raise.invariant.begun step.0 c.write_line-in-Some-Raise.ensures.in_form c.in_ok-write_line-in-Some-Raise.ensures.line c.raise_bound.ensures;
      long = c.raise_bound.array_long;
      among = omega (
        arith,
        c.raised_visit-rest.ensures,
        visit-among minutes vehicle stops (slice_index c.loop-raise.bounds) c.in-Some-Raise.raise step.0,
      );
      before = omega (arith, c.raised_visit-rest.ensures, c.first_touched-first.ensures.no_later);
      kept = λ k below other.
          let inside : k < visit_of c.in-Some-Raise.raise = omega (arith, below, c.raised_visit-rest.ensures) in
          subst (λ (bound : ℕ → ℕ). IsKeptAt minutes vehicle stops bound k) bounds
          (c.first_touched-first.ensures.kept minutes (slice_index c.loop-raise.bounds) k inside other
          (first k inside));
    }

pub returns-in-Some-End-clause-written : goal.returns-in-Some-End-clause-written
returns-in-Some-End-clause-written g c =
    let minutes = g.T.Times.minutes c.args.times.now in
    let case = case_of c.args.insertion.now in
    let contents = g.W.Write.contents in
    let step = rw c.in-Some-End.field-0-is at c.in-Some-End.ensures.step in
    on_ok c.write_line-in-Some-End.result (Appends (contents c.loop-raise.out)
    (contents c.write_line-in-Some-End.new.out) (line_text (line.End c.in-Some-End.end)))
    (WritesCases minutes (case ∷ []) (contents c.args.out.now) (contents c.write_line-in-Some-End.new.out))
    (λ last. begun_end minutes case (contents c.args.out.now) (contents c.loop-raise.out)
    (contents c.write_line-in-Some-End.new.out) (slice_index c.loop-raise.bounds) c.in-Some-End.end
    c.loop-raise.invariant.begun step c.write_line-in-Some-End.ensures.in_form last)
    c.write_line-in-Some-End.ensures.line

pub returns-in-None-clause-written : goal.returns-in-None-clause-written
returns-in-None-clause-written g c =
    let minutes = g.T.Times.minutes c.args.times.now in
    let insertion = c.args.insertion.now in
    let stops = inserted_stops insertion in
    let vehicle = insertion.vehicle.now in
    let clear = c.in_default.ensures.none refl in
    let kept = c.in-None.ensures.none refl in
    let count = length-with_trip insertion.asked.now insertion.i insertion.j (stops_of insertion.route.now) insertion.drop_later insertion.among in
    let room = clear-room minutes vehicle stops clear in
    let bounds = c.loop-raise.bounds in
    let long : length stops + 2 ≤ length bounds = omega (arith, room, c.loop-raise.invariant.long) in
    let fits : TimesFit minutes vehicle stops (times_of minutes vehicle stops bounds long kept clear) = fit minutes vehicle stops bounds long kept clear in
    let possible : IsPossible minutes vehicle (stops_of insertion.route.now) insertion.asked.now insertion.i insertion.j = record {
      direct = c.requires.direct;
      room = omega (arith, room, count);
      drop_later = insertion.drop_later;
      among = insertion.among;
      loads = clear-loads minutes vehicle stops clear;
      times = (times_of minutes vehicle stops bounds long kept clear, fits);
    } in
    absurd (c.requires.nowhere possible)
