use Rattle.std.proofs.Common.{◌∙◌, Some, ap}
use Rattle.pt_base_values.specs.declared.rider.Rider.{Rider}
use Rattle.pt_desk_spelling_reading.proofs.ReadingLemmas.{found-same, some-same, rider-parts}
use Rattle.pt_desk_spelling_reading.proofs.settings.rider_from.Goals as goal

pub returns : goal.returns
returns c = λ rider fits e.
    let id = c.take_id.ensures rider.id _ fits (e ∙ rider-parts rider) in
    let kind = c.take_kind.ensures rider.kind _ tt id.1 in
    let attendant = c.take_truth.ensures rider.attendant _ tt kind.1 in
    let wheelchair = some-same _ rider.wheelchair (c.has_wheelchair.ensures rider.wheelchair tt attendant.1) in
    let same_id = found-same _ _ rider.id c.in_ok-take_id.was id.0 in
    let same_kind = found-same _ _ rider.kind c.in_ok-take_kind.was kind.0 in
    let same_attendant = found-same _ _ rider.attendant c.in_ok-take_truth.was attendant.0 in
    ap (λ (r : Rider). Some r) (λ i. record {
      id = same_id i;
      kind = same_kind i;
      attendant = same_attendant i;
      wheelchair = wheelchair i;
    })
