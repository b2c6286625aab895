use Rattle.std.proofs.Common.{◌≡◌, ℕ, ◌+◌, ◌∷◌, List, drop, sym, ap, subst, ◌∙◌, arith}
use Rattle.pt_base_records.specs.Records.{IsInOrder}
use Rattle.std.specs.Prelude.{◌==◌, ◌||◌}
use Rattle.std.specs.List.{list_any}
use Rattle.std.proofs.lemmas.List.{drop_more, drop_all}
use Rattle.pt_base_values.specs.declared.trip.Trip.{Trip}
use Rattle.pt_desk_scheduling.specs.Uses.{is_use_of}
use Rattle.pt_desk_scheduling.proofs.UseLemmas.{rises, used, unused, ended}
use Rattle.pt_desk_scheduling.proofs.uses.days_of_use.Goals as goal
use Rattle.pt_desk_scheduling.proofs.uses.days_of_use.Goals.{then-is_use+in_ok-put_day, else-is_use}

pub loop-trip-preserved : goal.loop-trip-preserved
loop-trip-preserved c =
    let trips = c.args.trips.now in
    let left_out = c.args.left_out.now in
    let i = c.loop-trip.trip-index in
    let trip = c.trip-item.result in
    let days = c.loop-trip.days.items in
    let later = drop (i + 1) trips in
    let these : drop i trips ≡ trip ∷ later = drop_more trips i trip (omega arith) ∙ ap (λ t. t ∷ later) (sym c.trip-item.is) in
    λ day.
    let turn : (list_any (λ use_day. use_day == day) days || list_any (is_use_of left_out day) (trip ∷ later)) ≡ list_any (is_use_of left_out day) trips =
    ap (λ (ts : List Trip). list_any (λ use_day. use_day == day) days || list_any (is_use_of left_out day) ts) (sym these) ∙ c.loop-trip.invariant day in
    let has : List ℕ → _ = λ (ds : List ℕ). list_any (λ use_day. use_day == day) ds || list_any (is_use_of left_out day) later in
    elim c.if-is_use.branch [
      | then-is_use+in_ok-put_day w ↦
          ap has (ap (λ t. t.items) w.days-is ∙ w.in_ok-put_day.ensures)
          ∙ used left_out trip days later (sym c.is_use.ensures ∙ w.if-is_use.true) day ∙ turn
      | else-is_use w ↦
          ap has (ap (λ t. t.items) w.days-is) ∙ unused left_out trip days later (sym c.is_use.ensures ∙ w.if-is_use.false) day ∙ turn
    ]

pub returns : goal.returns
returns c = record {
  uses = record {
    rising = rises c.loop-trip.days.items (subst (λ xs. IsInOrder (λ day. day) xs) c.as_slice.ensures.value c.as_slice.ensures.order);
    members = ended c.args.left_out.now c.args.trips.now c.loop-trip.days.items
        (drop c.loop-trip.trip-index c.args.trips.now) (drop_all c.loop-trip.trip-index c.args.trips.now
        (omega arith)) c.loop-trip.invariant;
  };
}
