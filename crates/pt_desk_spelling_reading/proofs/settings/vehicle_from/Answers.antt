use Rattle.std.proofs.Common.{◌≤◌, ◌∷◌, [], ◌∙◌, Some, sym, ap, arith}
use Rattle.pt_base_values.specs.Ranges.{last_minute}
use Rattle.pt_base_values.specs.declared.vehicle.Vehicle.{Vehicle}
use Rattle.pt_desk_spelling.proofs.SettingLemmas.{vehicle-from}
use Rattle.pt_desk_spelling_reading.proofs.ReadingLemmas.{found-same, none-found, not-after, vehicle-parts}
use Rattle.pt_desk_spelling_reading.proofs.settings.vehicle_from.Goals as goal

pub returns-in_err-days : goal.returns-in_err-days
returns-in_err-days c = λ version fits e.
    let id = c.take_id.ensures version.id _ fits.id (e ∙ vehicle-parts version) in
    let from_day = c.take_day.ensures version.from_day _ fits.from_day id.1 in
    let days = c.take_days.ensures version.days _ fits.days from_day.1 in
    absurd (none-found _ version.days c.in_err-days.was days.0)

pub returns-in_err-depot : goal.returns-in_err-depot
returns-in_err-depot c = λ version fits e.
    let id = c.take_id.ensures version.id _ fits.id (e ∙ vehicle-parts version) in
    let from_day = c.take_day.ensures version.from_day _ fits.from_day id.1 in
    let days = c.take_days.ensures version.days _ fits.days from_day.1 in
    let depot = c.take_id-2.ensures version.depot _ fits.depot days.1 in
    absurd (none-found _ version.depot c.in_err-depot.was depot.0)

pub returns-in_err-capacity : goal.returns-in_err-capacity
returns-in_err-capacity c = λ version fits e.
    let id = c.take_id.ensures version.id _ fits.id (e ∙ vehicle-parts version) in
    let from_day = c.take_day.ensures version.from_day _ fits.from_day id.1 in
    let days = c.take_days.ensures version.days _ fits.days from_day.1 in
    let depot = c.take_id-2.ensures version.depot _ fits.depot days.1 in
    let capacity = c.take_number_in.ensures.taken version.capacity _ version.capacity_in_range depot.1 in
    absurd (none-found _ version.capacity c.in_err-capacity.was capacity.0)

pub returns-in_err-opens : goal.returns-in_err-opens
returns-in_err-opens c = λ version fits e.
    let id = c.take_id.ensures version.id _ fits.id (e ∙ vehicle-parts version) in
    let from_day = c.take_day.ensures version.from_day _ fits.from_day id.1 in
    let days = c.take_days.ensures version.days _ fits.days from_day.1 in
    let depot = c.take_id-2.ensures version.depot _ fits.depot days.1 in
    let capacity = c.take_number_in.ensures.taken version.capacity _ version.capacity_in_range depot.1 in
    let ordered = version.hours_ordered in
    let latest = fits.closes in
    let opening : version.opens ≤ last_minute = omega arith in
    let opens = c.take_minute.ensures version.opens _ opening capacity.1 in
    absurd (none-found _ version.opens c.in_err-opens.was opens.0)

pub returns-in_err-closes : goal.returns-in_err-closes
returns-in_err-closes c = λ version fits e.
    let id = c.take_id.ensures version.id _ fits.id (e ∙ vehicle-parts version) in
    let from_day = c.take_day.ensures version.from_day _ fits.from_day id.1 in
    let days = c.take_days.ensures version.days _ fits.days from_day.1 in
    let depot = c.take_id-2.ensures version.depot _ fits.depot days.1 in
    let capacity = c.take_number_in.ensures.taken version.capacity _ version.capacity_in_range depot.1 in
    let ordered = version.hours_ordered in
    let latest = fits.closes in
    let opening : version.opens ≤ last_minute = omega arith in
    let opens = c.take_minute.ensures version.opens _ opening capacity.1 in
    let closes = c.take_minute-2.ensures version.closes _ fits.closes opens.1 in
    absurd (none-found _ version.closes c.in_err-closes.was closes.0)

pub returns-in_err-take_number_in : goal.returns-in_err-take_number_in
returns-in_err-take_number_in c = λ version fits e.
    let id = c.take_id.ensures version.id _ fits.id (e ∙ vehicle-parts version) in
    let from_day = c.take_day.ensures version.from_day _ fits.from_day id.1 in
    let days = c.take_days.ensures version.days _ fits.days from_day.1 in
    let depot = c.take_id-2.ensures version.depot _ fits.depot days.1 in
    let capacity = c.take_number_in.ensures.taken version.capacity _ version.capacity_in_range depot.1 in
    let ordered = version.hours_ordered in
    let latest = fits.closes in
    let opening : version.opens ≤ last_minute = omega arith in
    let opens = c.take_minute.ensures version.opens _ opening capacity.1 in
    let closes = c.take_minute-2.ensures version.closes _ fits.closes opens.1 in
    let duration = c.take_number_in-2.ensures.taken version.duration _ version.duration_in_range closes.1 in
    absurd (none-found _ version.duration c.in_err-take_number_in.was duration.0)

pub returns-then-gt : goal.returns-then-gt
returns-then-gt c = λ version fits e.
    let id = c.take_id.ensures version.id _ fits.id (e ∙ vehicle-parts version) in
    let from_day = c.take_day.ensures version.from_day _ fits.from_day id.1 in
    let days = c.take_days.ensures version.days _ fits.days from_day.1 in
    let depot = c.take_id-2.ensures version.depot _ fits.depot days.1 in
    let capacity = c.take_number_in.ensures.taken version.capacity _ version.capacity_in_range depot.1 in
    let ordered = version.hours_ordered in
    let latest = fits.closes in
    let opening : version.opens ≤ last_minute = omega arith in
    let opens = c.take_minute.ensures version.opens _ opening capacity.1 in
    let closes = c.take_minute-2.ensures version.closes _ fits.closes opens.1 in
    let same_opens = found-same _ _ version.opens c.in_ok-opens.was opens.0 in
    let same_closes = found-same _ _ version.closes c.in_ok-closes.was closes.0 in
    let order : c.in_ok-opens.opens ≤ c.in_ok-closes.closes = omega (arith, ordered, same_opens, same_closes) in
    absurd (not-after c.in_ok-opens.opens c.in_ok-closes.closes order (sym c.gt.ensures ∙ c.if-gt.true))

pub returns-in_err-chairs_from : goal.returns-in_err-chairs_from
returns-in_err-chairs_from c = λ version fits e.
    let id = c.take_id.ensures version.id _ fits.id (e ∙ vehicle-parts version) in
    let from_day = c.take_day.ensures version.from_day _ fits.from_day id.1 in
    let days = c.take_days.ensures version.days _ fits.days from_day.1 in
    let depot = c.take_id-2.ensures version.depot _ fits.depot days.1 in
    let capacity = c.take_number_in.ensures.taken version.capacity _ version.capacity_in_range depot.1 in
    let ordered = version.hours_ordered in
    let latest = fits.closes in
    let opening : version.opens ≤ last_minute = omega arith in
    let opens = c.take_minute.ensures version.opens _ opening capacity.1 in
    let closes = c.take_minute-2.ensures version.closes _ fits.closes opens.1 in
    let duration = c.take_number_in-2.ensures.taken version.duration _ version.duration_in_range closes.1 in
    let chairs = c.chairs_from.ensures.found version.chairs version.chairs_in_range duration.1 in
    absurd (none-found _ version.chairs c.in_err-chairs_from.was chairs)

pub returns : goal.returns
returns c = λ version fits e.
    let id = c.take_id.ensures version.id _ fits.id (e ∙ vehicle-parts version) in
    let from_day = c.take_day.ensures version.from_day _ fits.from_day id.1 in
    let days = c.take_days.ensures version.days _ fits.days from_day.1 in
    let depot = c.take_id-2.ensures version.depot _ fits.depot days.1 in
    let capacity = c.take_number_in.ensures.taken version.capacity _ version.capacity_in_range depot.1 in
    let ordered = version.hours_ordered in
    let latest = fits.closes in
    let opening : version.opens ≤ last_minute = omega arith in
    let opens = c.take_minute.ensures version.opens _ opening capacity.1 in
    let closes = c.take_minute-2.ensures version.closes _ fits.closes opens.1 in
    let duration = c.take_number_in-2.ensures.taken version.duration _ version.duration_in_range closes.1 in
    let chairs = c.chairs_from.ensures.found version.chairs version.chairs_in_range duration.1 in
    let same_id = found-same _ _ version.id c.in_ok-id.was id.0 in
    let same_from_day = found-same _ _ version.from_day c.in_ok-from_day.was from_day.0 in
    let same_days = found-same _ _ version.days c.in_ok-days.was days.0 in
    let same_depot = found-same _ _ version.depot c.in_ok-depot.was depot.0 in
    let same_capacity = found-same _ _ version.capacity c.in_ok-capacity.was capacity.0 in
    let same_opens = found-same _ _ version.opens c.in_ok-opens.was opens.0 in
    let same_closes = found-same _ _ version.closes c.in_ok-closes.was closes.0 in
    let same_duration = found-same _ _ version.duration c.in_ok-take_number_in.was duration.0 in
    let same_chairs = found-same _ _ version.chairs c.in_ok-chairs_from.was chairs in
    ap (λ (v : Vehicle). Some v) (vehicle-from _ version (λ i. same_id i ∷ same_from_day i ∷ []) same_days
    (λ i. same_depot i ∷ same_capacity i ∷ same_opens i ∷ same_closes i ∷ same_duration i ∷ []) same_chairs)
