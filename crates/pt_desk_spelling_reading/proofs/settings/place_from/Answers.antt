use Rattle.std.proofs.Common.{◌∙◌, Bool, Some, ap}
use Rattle.pt_base_values.specs.declared.place.Place.{Place}
use Rattle.pt_desk_spelling.specs.Fields.{truth_bytes}
use Rattle.pt_desk_spelling.proofs.SettingLemmas.{place-from}
use Rattle.pt_desk_spelling_reading.proofs.ReadingLemmas.{found-same, place-parts, taken-whole}
use Rattle.pt_desk_spelling_reading.proofs.settings.place_from.Goals as goal

pub returns : goal.returns
returns c = λ place fits e.
    let id = c.take_id.ensures place.id _ fits (e ∙ place-parts place) in
    let at = c.take_point.ensures.taken place.at _ place.on_plane id.1 in
    let core = taken-whole truth_bytes (λ (b : Bool). Unit {0}) _ _ c.take_truth.result c.take_truth.ensures
    place.core tt at.1 in
    ap (λ (p : Place). Some p) (place-from _ place (found-same _ _ place.id c.in_ok-take_id.was id.0)
    (found-same _ _ place.at c.in_ok-take_point.was at.0) (found-same _ _ place.core c.in_ok-take_truth.was core))
