use Rattle.std.proofs.Common.{◌∷◌, [], Some, ap, arith}
use Rattle.pt_base_values.specs.declared.policy.Policy.{Policy}
use Rattle.pt_desk_spelling.specs.Fields.{numbers_bytes}
use Rattle.pt_desk_spelling.proofs.SettingLemmas.{policy-same}
use Rattle.pt_desk_spelling_reading.proofs.ReadingLemmas.{found-same}
use Rattle.pt_desk_spelling_reading.proofs.settings.policy_from.Goals as goal

pub returns : goal.returns
returns c = λ policy any e.
    let base = c.take_number_in.ensures.taken policy.base _ (omega arith, policy.base_in_range) e in
    let transfer = c.take_number_in-2.ensures.taken policy.transfer _ (omega arith, policy.transfer_in_range) base.1 in
    let fare = c.take_number_in-3.ensures.taken policy.fare _ (omega arith, policy.fare_in_range) transfer.1 in
    let service = c.take_number_in-4.ensures.taken policy.service _ (omega arith, policy.service_in_range) fare.1 in
    let extra_ride = c.take_number_in-5.ensures.taken policy.extra_ride _ (omega arith, policy.extra_ride_in_range)
    service.1 in
    let min_missed = c.take_number_in-6.ensures.taken policy.min_missed _ policy.min_missed_in_range extra_ride.1 in
    let percent = c.take_number_in-7.ensures.taken policy.percent _ policy.percent_in_range min_missed.1 in
    let span_days = c.take_number_in-8.ensures.taken policy.span_days _ policy.span_days_in_range percent.1 in
    let same_base = found-same _ _ policy.base c.in_ok-take_number_in.was base.0 in
    let same_transfer = found-same _ _ policy.transfer c.in_ok-take_number_in-2.was transfer.0 in
    let same_fare = found-same _ _ policy.fare c.in_ok-take_number_in-3.was fare.0 in
    let same_service = found-same _ _ policy.service c.in_ok-take_number_in-4.was service.0 in
    let same_extra_ride = found-same _ _ policy.extra_ride c.in_ok-take_number_in-5.was extra_ride.0 in
    let same_min_missed = found-same _ _ policy.min_missed c.in_ok-take_number_in-6.was min_missed.0 in
    let same_percent = found-same _ _ policy.percent c.in_ok-take_number_in-7.was percent.0 in
    let same_span_days = found-same _ _ policy.span_days c.in_ok-take_number_in-8.was span_days.0 in
    ap (λ (p : Policy). Some p) (policy-same _ policy (λ i. numbers_bytes (same_base i ∷ same_transfer i ∷ same_fare i ∷ same_service i
    ∷ same_extra_ride i ∷ same_min_missed i ∷ same_percent i ∷ same_span_days i ∷ [])))
