use Rattle.std.proofs.Common.{arith, ◌≡◌, ◌+◌, ◌≤◌, ℕ, List, [], drop, slice_index, subst, sym, refl, length-drop, length, false}
use Rattle.std.proofs.lemmas.List.{nil_from_length}
use Rattle.pt_feasible.specs.Route.{stops_of}
use Rattle.pt_insertion_search.proofs.InsertionLemmas.{length-with_trip}
use Rattle.pt_audit.specs.declared.line.Line.{Line}
use Rattle.pt_audit.specs.Insertion.{case_of, inserted_stops}
use Rattle.pt_audit.specs.RightLog.{case_line}
use Rattle.pt_audit.proofs.ReadingLemmas.{from_here, all_zero, visit-among, IsReadTo, read_opening, read_raise, wrong_raise, right_end, wrong_end, wrong_line, no_end, not_no_direct, not_case}
use Rattle.pt_audit.proofs.case_end.case_end.Goals as goal

-- past the last line there is nothing
nothing_left : (lines : List Line) (at : ℕ) → length lines ≤ at → drop at lines ≡ []
nothing_left lines at past = nil_from_length (drop at lines) (omega (arith, length-drop at lines))

pub loop-at-init : goal.loop-at-init
loop-at-init g c =
    let minutes = g.T.Times.minutes c.args.times.now in
    let lines = c.args.lines.now in
    let start = c.args.start in
    let case = case_of c.args.insertion.now in
    let front = from_here lines start (case_line case) _ (omega arith) (c.is_opening.ensures.0 c.if-not-is_opening.false) in
    let opened = read_opening minutes case lines start (case_line case) front refl in
    subst (λ (bound : ℕ → ℕ). IsReadTo minutes case lines start bound (start + 1)) (sym (all_zero 104)) opened

pub loop-at-preserved : goal.loop-at-preserved
loop-at-preserved g c =
    let minutes = g.T.Times.minutes c.args.times.now in
    let front = from_here c.args.lines.now c.loop-at.at _ _ (omega arith) c.in-Raise.is in
    read_raise minutes (case_of c.args.insertion.now) c.args.lines.now c.args.start (slice_index c.loop-at.bounds) c.loop-at.at c.loop-at.invariant
    _ front c.in-Raise.raise (slice_index c.raise_bound.new.bounds) refl (c.is_right_raise.ensures.0 c.if-not-is_right_raise.false) c.raise_bound.ensures

pub returns-then-not-is_right_raise-clause-right : goal.returns-then-not-is_right_raise-clause-right
returns-then-not-is_right_raise-clause-right g c =
    let minutes = g.T.Times.minutes c.args.times.now in
    let front = from_here c.args.lines.now c.loop-at.at _ _ (omega arith) c.in-Raise.is in
    wrong_raise minutes (case_of c.args.insertion.now) c.args.lines.now c.args.start (slice_index c.loop-at.bounds) c.loop-at.at c.loop-at.invariant
    _ front c.in-Raise.raise refl (λ right. (let yes = c.is_right_raise.ensures.1 right in let not : c.is_right_raise.result ≡ false = c.if-not-is_right_raise.true in cc))

pub raise_bound-requires : goal.raise_bound-requires
raise_bound-requires g c =
    let minutes = g.T.Times.minutes c.args.times.now in
    let insertion = c.args.insertion.now in
    omega (
      arith,
      insertion.route.now.short,
      length-with_trip insertion.asked.now insertion.i insertion.j
          (stops_of insertion.route.now) insertion.drop_later insertion.among,
      visit-among minutes insertion.vehicle.now
          (inserted_stops insertion) (slice_index c.loop-at.bounds) c.in-Raise.raise
          (c.is_right_raise.ensures.0 c.if-not-is_right_raise.false),
    )

pub returns-then-is_right_end-clause-right : goal.returns-then-is_right_end-clause-right
returns-then-is_right_end-clause-right g c =
    let minutes = g.T.Times.minutes c.args.times.now in
    let front = from_here c.args.lines.now c.loop-at.at _ _ (omega arith) c.in-End.is in
    right_end minutes (case_of c.args.insertion.now) c.args.lines.now c.args.start (slice_index c.loop-at.bounds) c.loop-at.at c.loop-at.invariant
    _ front c.in-End.end refl (c.is_right_end.ensures.0 c.if-is_right_end.true)

pub returns-in-End-clause-right : goal.returns-in-End-clause-right
returns-in-End-clause-right g c =
    let minutes = g.T.Times.minutes c.args.times.now in
    let front = from_here c.args.lines.now c.loop-at.at _ _ (omega arith) c.in-End.is in
    wrong_end minutes (case_of c.args.insertion.now) c.args.lines.now c.args.start (slice_index c.loop-at.bounds) c.loop-at.at c.loop-at.invariant
    _ front c.in-End.end refl (λ right. (let yes = c.is_right_end.ensures.1 right in let not : c.is_right_end.result ≡ false = c.if-is_right_end.false in cc))

pub returns-in-NoDirect-clause-right : goal.returns-in-NoDirect-clause-right
returns-in-NoDirect-clause-right g c =
    let minutes = g.T.Times.minutes c.args.times.now in
    let insertion = c.args.insertion.now in
    let front = from_here c.args.lines.now c.loop-at.at _ _ (omega arith) c.in-NoDirect.is in
    wrong_line minutes (case_of c.args.insertion.now) c.args.lines.now c.args.start (slice_index c.loop-at.bounds) c.loop-at.at c.loop-at.invariant
    _ front (not_no_direct minutes insertion.vehicle.now (inserted_stops insertion) (slice_index c.loop-at.bounds) (drop (c.loop-at.at + 1) c.args.lines.now))

pub returns-in-Case-clause-right : goal.returns-in-Case-clause-right
returns-in-Case-clause-right g c =
    let minutes = g.T.Times.minutes c.args.times.now in
    let insertion = c.args.insertion.now in
    let front = from_here c.args.lines.now c.loop-at.at _ _ (omega arith) c.in-Case.is in
    wrong_line minutes (case_of c.args.insertion.now) c.args.lines.now c.args.start (slice_index c.loop-at.bounds) c.loop-at.at c.loop-at.invariant
    _ front (not_case minutes insertion.vehicle.now (inserted_stops insertion) (slice_index c.loop-at.bounds) _ _ _ (drop (c.loop-at.at + 1) c.args.lines.now))

pub returns-clause-right : goal.returns-clause-right
returns-clause-right g c =
    no_end (g.T.Times.minutes c.args.times.now) (case_of c.args.insertion.now) c.args.lines.now c.args.start (slice_index c.loop-at.bounds) c.loop-at.at c.loop-at.invariant
    (nothing_left c.args.lines.now c.loop-at.at (omega arith))
