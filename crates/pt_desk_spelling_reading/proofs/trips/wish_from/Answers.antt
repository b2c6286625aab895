use Rattle.std.proofs.Common.{◌∙◌, Some, ap, arith}
use Rattle.std.specs.Int.{IsInRange}
use Rattle.pt_base_values.specs.declared.trip.Wish.{Wish}
use Rattle.pt_desk_spelling.specs.Fields.{number_bytes}
use Rattle.pt_desk_spelling_reading.proofs.ReadingLemmas.{found-same, none-found, taken-whole, wish-parts}
use Rattle.pt_desk_spelling_reading.proofs.trips.wish_from.Goals as goal

pub returns-in_err-take_optional : goal.returns-in_err-take_optional
returns-in_err-take_optional c = λ wish fits e.
    let day = c.take_day.ensures wish.day _ fits.day (e ∙ wish-parts wish) in
    let pickup = c.take_minute.ensures wish.pickup _ fits.pickup day.1 in
    let from = c.take_id.ensures wish.from _ fits.from pickup.1 in
    let to = c.take_id-2.ensures wish.to _ fits.to from.1 in
    let by = c.take_optional.ensures wish.by _ fits.by to.1 in
    absurd (none-found _ wish.by c.in_err-take_optional.was by.0)

pub returns-in_err-take_truth : goal.returns-in_err-take_truth
returns-in_err-take_truth c = λ wish fits e.
    let day = c.take_day.ensures wish.day _ fits.day (e ∙ wish-parts wish) in
    let pickup = c.take_minute.ensures wish.pickup _ fits.pickup day.1 in
    let from = c.take_id.ensures wish.from _ fits.from pickup.1 in
    let to = c.take_id-2.ensures wish.to _ fits.to from.1 in
    let by = c.take_optional.ensures wish.by _ fits.by to.1 in
    let attendant = c.take_truth.ensures wish.attendant _ tt by.1 in
    absurd (none-found _ wish.attendant c.in_err-take_truth.was attendant.0)

pub returns-in_err-take_number_in : goal.returns-in_err-take_number_in
returns-in_err-take_number_in c = λ wish fits e.
    let day = c.take_day.ensures wish.day _ fits.day (e ∙ wish-parts wish) in
    let pickup = c.take_minute.ensures wish.pickup _ fits.pickup day.1 in
    let from = c.take_id.ensures wish.from _ fits.from pickup.1 in
    let to = c.take_id-2.ensures wish.to _ fits.to from.1 in
    let by = c.take_optional.ensures wish.by _ fits.by to.1 in
    let attendant = c.take_truth.ensures wish.attendant _ tt by.1 in
    let few = fits.companions in
    let companions = taken-whole number_bytes (IsInRange 0 255) _ _ c.take_number_in.result
    c.take_number_in.ensures.taken wish.companions (omega arith, omega arith) attendant.1 in
    absurd (none-found _ wish.companions c.in_err-take_number_in.was companions)

pub returns : goal.returns
returns c = λ wish fits e.
    let day = c.take_day.ensures wish.day _ fits.day (e ∙ wish-parts wish) in
    let pickup = c.take_minute.ensures wish.pickup _ fits.pickup day.1 in
    let from = c.take_id.ensures wish.from _ fits.from pickup.1 in
    let to = c.take_id-2.ensures wish.to _ fits.to from.1 in
    let by = c.take_optional.ensures wish.by _ fits.by to.1 in
    let attendant = c.take_truth.ensures wish.attendant _ tt by.1 in
    let few = fits.companions in
    let companions = taken-whole number_bytes (IsInRange 0 255) _ _ c.take_number_in.result
    c.take_number_in.ensures.taken wish.companions (omega arith, omega arith) attendant.1 in
    let same_day = found-same _ _ wish.day c.in_ok-take_day.was day.0 in
    let same_pickup = found-same _ _ wish.pickup c.in_ok-take_minute.was pickup.0 in
    let same_from = found-same _ _ wish.from c.in_ok-take_id.was from.0 in
    let same_to = found-same _ _ wish.to c.in_ok-take_id-2.was to.0 in
    let same_by = found-same _ _ wish.by c.in_ok-take_optional.was by.0 in
    let same_attendant = found-same _ _ wish.attendant c.in_ok-take_truth.was attendant.0 in
    let same_companions = found-same _ _ wish.companions c.in_ok-take_number_in.was companions in
    ap (λ (w : Wish). Some w) (λ i. record {
      day = same_day i;
      pickup = same_pickup i;
      from = same_from i;
      to = same_to i;
      by = same_by i;
      attendant = same_attendant i;
      companions = same_companions i;
    })
