-- Times that keep the limits of a timeline are the service times that fit.
use Rattle.std.proofs.Common.{◌≡◌, ℕ, ◌+◌, ◌<◌, ◌≤◌, List, length, Option, Some, None, IfSome, IfNone, slice_get, slice_index, slice_index_or, arith, refl, sym, subst}
use Rattle.std.proofs.lemmas.Option.{slice_get_within}
use Rattle.pt_base_values.specs.declared.vehicle.Vehicle.{Vehicle}
use Rattle.pt_feasible.specs.declared.timeline.Timeline.{Timeline}
use Rattle.pt_feasible.specs.declared.stop.Stop.{Stop}
use Rattle.pt_feasible.specs.Limits.{FitsAt, IsKept, KeepsAll}
use Rattle.pt_feasible.specs.Timeline.{IsTimelineOf}
use Rattle.pt_feasible.specs.ServiceTimes.{TimesFit, IsNeverLater, IsLeastSchedule}
use Rattle.pt_feasible.specs.Visit.{visits}
use Rattle.pt_feasible.proofs.LimitsLemmas.{no_limits}
use Rattle.pt_feasible.proofs.VisitLemmas.{length-visits}

-- times that fit keep their constraints at each visit
pub fits_at : (minutes : ℕ → ℕ → Option ℕ) (vehicle : Vehicle) (stops : List Stop) (b : List ℕ) (k : ℕ) → TimesFit minutes vehicle stops b →
    FitsAt minutes vehicle stops b k
fits_at minutes vehicle stops b k fits = record {
  in_window = λ visit here. (fits.time_windows k visit here).1;
  driven = fits.driving_times k;
  ended = record { ride = λ j next i pickup drop. fits.ride_limits i j pickup drop; route = λ last. fits.route_duration };
}

-- times that fit keep the limits of the timeline
pub keeps-from-fits : (minutes : ℕ → ℕ → Option ℕ) (vehicle : Vehicle) (stops : List Stop) (timeline : Timeline) (b : List ℕ) → IsTimelineOf minutes vehicle stops timeline →
    TimesFit minutes vehicle stops b → KeepsAll timeline.limits.items b
keeps-from-fits minutes vehicle stops timeline b laid fits k d within =
    subst (λ (count : ℕ). IsKept count b k (slice_index_or timeline.limits.items k d)) (sym laid.count_limits)
    (((laid.stand k d (omega (arith, laid.count_limits))).kept b).1 (fits_at minutes vehicle stops b k fits))

-- times from the timeline's bounds on that keep its limits fit
pub fits-from-keeps : (minutes : ℕ → ℕ → Option ℕ) (vehicle : Vehicle) (stops : List Stop) (timeline : Timeline) (b : List ℕ) → IsTimelineOf minutes vehicle stops timeline →
    length b ≡ length timeline.earliest.items → IsNeverLater timeline.earliest.items b → KeepsAll timeline.limits.items b → TimesFit minutes vehicle stops b
fits-from-keeps minutes vehicle stops timeline b laid count from keeps = record {
  one_each = omega (arith, laid.count);
  time_windows = λ k visit here.
      let low : visit.lo ≤ slice_index timeline.earliest.items k = laid.opened k visit here in
      (omega (arith, from k), (at k (inside k visit here)).in_window visit here);
  driving_times = λ k this next here. (at k (inside k this here)).driven this next here;
  ride_limits = λ i j pickup drop here there. (at (j + 1) (omega (arith, slice_get_within stops j drop there))).ended.ride j refl i pickup drop here there;
  route_duration = (at (length stops + 1) (omega arith)).ended.route refl;
}
  where
    inside : (k : ℕ) (visit : _) → slice_get (visits vehicle stops) k ≡ Some visit → k < length stops + 2
    inside k visit here = omega (arith, slice_get_within (visits vehicle stops) k visit here, length-visits vehicle stops)

    at : (k : ℕ) → k < length stops + 2 → FitsAt minutes vehicle stops b k
    at k within = ((laid.stand k no_limits within).kept b).0
        (subst (λ (count : ℕ). IsKept count b k (slice_index_or timeline.limits.items k no_limits)) laid.count_limits
        (keeps k no_limits (omega (arith, laid.count_limits))))

-- the least times that keep the limits of the timeline are the least schedule
pub least-from-keeps : {S : Type 0} (items : S → List ℕ) (r : Option S) (minutes : ℕ → ℕ → Option ℕ) (vehicle : Vehicle) (stops : List Stop) (timeline : Timeline) →
    IsTimelineOf minutes vehicle stops timeline → IfSome r (λ times. length (items times) ≡ length timeline.earliest.items) →
    IfSome r (λ times. IsNeverLater timeline.earliest.items (items times)) → IfSome r (λ times. KeepsAll timeline.limits.items (items times)) →
    IfSome r (λ times. (b : List ℕ) → IsNeverLater timeline.earliest.items b → KeepsAll timeline.limits.items b → IsNeverLater (items times) b) →
    IfSome r (λ times. IsLeastSchedule minutes vehicle stops (items times))
least-from-keeps items None minutes vehicle stops timeline laid count from kept least = tt
least-from-keeps items (Some times) minutes vehicle stops timeline laid count from kept least = record {
  fits = fits-from-keeps minutes vehicle stops timeline (items times) laid count from kept;
  least = λ other fit. least other (laid.floor other fit) (keeps-from-fits minutes vehicle stops timeline other laid fit);
}

-- where no times keep the limits of the timeline, none fit
pub none-from-keeps : {S : Type 0} (r : Option S) (minutes : ℕ → ℕ → Option ℕ) (vehicle : Vehicle) (stops : List Stop) (timeline : Timeline) →
    IsTimelineOf minutes vehicle stops timeline →
    IfNone r ((b : List ℕ) → length b ≡ length timeline.earliest.items → IsNeverLater timeline.earliest.items b → ¬ KeepsAll timeline.limits.items b) →
    IfNone r ((b : List ℕ) → ¬ TimesFit minutes vehicle stops b)
none-from-keeps None minutes vehicle stops timeline laid none = λ b fit.
    none b (omega (arith, fit.one_each, laid.count)) (laid.floor b fit) (keeps-from-fits minutes vehicle stops timeline b laid fit)
none-from-keeps (Some times) minutes vehicle stops timeline laid none = tt
