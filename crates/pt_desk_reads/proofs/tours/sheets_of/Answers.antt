use Rattle.std.proofs.Common.{◌≡◌, ◌+◌, ◌++◌, [], ◌∷◌, List, take, sym, ap, ◌∙◌, subst, arith}
use Rattle.std.specs.List.{AllZip}
use Rattle.std.proofs.lemmas.List.{take_more}
use Rattle.pt_base_values.specs.declared.vehicle.Vehicle.{Vehicle}
use Rattle.pt_desk_requests.specs.declared.sheets.VehicleSheet.{VehicleSheet}
use Rattle.pt_desk_rules.specs.Tours.{IsSheetOf}
use Rattle.pt_desk_rules.proofs.TourLemmas.{zip_pushed}
use Rattle.pt_desk_reads.proofs.tours.sheets_of.Goals as goal

pub loop-vehicle-preserved : goal.loop-vehicle-preserved
loop-vehicle-preserved c =
    let n = c.loop-vehicle.vehicle-index in
    let vehicles = c.args.vehicles.now in
    let sheets = c.loop-vehicle.sheets.items in
    let Is = IsSheetOf c.args.day c.args.facts.now in
    let more : take (n + 1) vehicles ≡ take n vehicles ++ c.vehicle-item.result ∷ []
    = take_more vehicles n _ (omega arith)
    ∙ ap (λ (v : Vehicle). take n vehicles ++ v ∷ []) (sym c.vehicle-item.is) in
    subst (λ (all : List VehicleSheet). AllZip Is (take (n + 1) vehicles) all) (sym c.in_ok-push.ensures.items)
    (subst (λ (all : List Vehicle). AllZip Is all (sheets ++ c.in_ok-sheet_of.field-0 ∷ [])) (sym more)
    (zip_pushed Is (take n vehicles) sheets c.vehicle-item.result c.in_ok-sheet_of.field-0 c.loop-vehicle.invariant
    c.in_ok-sheet_of.ensures))
