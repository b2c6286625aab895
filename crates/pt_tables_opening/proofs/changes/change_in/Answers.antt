use Rattle.std.proofs.Common.{◌<◌, ◌∙◌, subst, arith}
use Rattle.pt_desk_rules.specs.Parts as part
use Rattle.pt_desk_rules.specs.TableNames.{number_of}
use Rattle.pt_desk_rules.specs.declared.table_name.TableName.{TableName}
use Rattle.pt_tables_opening.proofs.AddedTables.{adds_part, riders_marked, trips_marked, vehicles_marked}
use Rattle.pt_tables_opening.proofs.AskedRows.{callers_asked, kept_asked, places_asked, routes_asked, vehicles_asked, riders_asked, entries_asked, trips_asked, planned_asked, travel_asked}
use Rattle.pt_tables_opening.proofs.AskedRows.{rider_chairs_asked, vehicle_chairs_asked, trip_chairs_asked, riders_beside, vehicles_beside, trips_beside}
use Rattle.pt_tables_opening.proofs.changes.change_in.Goals as goal

pub returns-in-Desk : goal.returns-in-Desk
returns-in-Desk g c = let late = subst (λ (t : TableName). 1 < number_of t) c.in-Desk.is c.requires.later in absurd (omega arith)

pub change_of-requires : goal.change_of-requires
change_of-requires g c = record { asked = callers_asked }

pub returns-in-Callers : goal.returns-in-Callers
returns-in-Callers g c = c.change_of.ensures c.args.keeper.now.content (adds_part part.callers c.args.table c.args.keeper.now.content c.in-Callers.is c.requires.before)

pub change_of-requires-in-Kept : goal.change_of-requires-in-Kept
change_of-requires-in-Kept g c = record { asked = kept_asked }

pub returns-in-Kept : goal.returns-in-Kept
returns-in-Kept g c = c.change_of-in-Kept.ensures c.args.keeper.now.content (adds_part part.kept c.args.table c.args.keeper.now.content c.in-Kept.is c.requires.before)

pub change_of-requires-in-Places : goal.change_of-requires-in-Places
change_of-requires-in-Places g c = record { asked = places_asked }

pub returns-in-Places : goal.returns-in-Places
returns-in-Places g c = c.change_of-in-Places.ensures c.args.keeper.now.content (adds_part part.places c.args.table c.args.keeper.now.content c.in-Places.is c.requires.before)

pub change_of-requires-in-Fixed : goal.change_of-requires-in-Fixed
change_of-requires-in-Fixed g c = record { asked = routes_asked }

pub returns-in-Fixed : goal.returns-in-Fixed
returns-in-Fixed g c = c.change_of-in-Fixed.ensures c.args.keeper.now.content (adds_part part.routes c.args.table c.args.keeper.now.content c.in-Fixed.is c.requires.before)

pub change_of-requires-in-Vehicles : goal.change_of-requires-in-Vehicles
change_of-requires-in-Vehicles g c = record { asked = vehicles_asked }

pub returns-in-Vehicles : goal.returns-in-Vehicles
returns-in-Vehicles g c = c.change_of-in-Vehicles.ensures c.args.keeper.now.content (adds_part part.vehicles c.args.table c.args.keeper.now.content c.in-Vehicles.is c.requires.before)

pub change_of-requires-in-Riders : goal.change_of-requires-in-Riders
change_of-requires-in-Riders g c = record { asked = riders_asked }

pub returns-in-Riders : goal.returns-in-Riders
returns-in-Riders g c = c.change_of-in-Riders.ensures c.args.keeper.now.content (adds_part part.riders c.args.table c.args.keeper.now.content c.in-Riders.is c.requires.before)

pub change_of-requires-in-Entries : goal.change_of-requires-in-Entries
change_of-requires-in-Entries g c = record { asked = entries_asked }

pub returns-in-Entries : goal.returns-in-Entries
returns-in-Entries g c = c.change_of-in-Entries.ensures c.args.keeper.now.content (adds_part part.entries c.args.table c.args.keeper.now.content c.in-Entries.is c.requires.before)

pub change_of-requires-in-Trips : goal.change_of-requires-in-Trips
change_of-requires-in-Trips g c = record { asked = trips_asked }

pub returns-in-Trips : goal.returns-in-Trips
returns-in-Trips g c = c.change_of-in-Trips.ensures c.args.keeper.now.content (adds_part part.trips c.args.table c.args.keeper.now.content c.in-Trips.is c.requires.before)

pub change_of-requires-in-Stops : goal.change_of-requires-in-Stops
change_of-requires-in-Stops g c = record { asked = planned_asked }

pub returns-in-Stops : goal.returns-in-Stops
returns-in-Stops g c = c.change_of-in-Stops.ensures c.args.keeper.now.content (adds_part part.planned c.args.table c.args.keeper.now.content c.in-Stops.is c.requires.before)

pub change_of-requires-in-Travel : goal.change_of-requires-in-Travel
change_of-requires-in-Travel g c = record { asked = travel_asked }

pub returns-in-Travel : goal.returns-in-Travel
returns-in-Travel g c = c.change_of-in-Travel.ensures c.args.keeper.now.content (adds_part part.travel c.args.table c.args.keeper.now.content c.in-Travel.is c.requires.before)

pub marks_of-requires : goal.marks_of-requires
marks_of-requires g c =
    let marked = riders_marked c.args.table c.args.keeper.now.content c.in-RiderChairs.is c.requires.before _ (c.as_slice-riders.ensures.value ∙ c.riders_table.ensures.value) in
    record { asked = rider_chairs_asked; beside = riders_beside; fits = marked.1; order = marked.0 }

pub returns-in-RiderChairs : goal.returns-in-RiderChairs
returns-in-RiderChairs g c =
    let marked = riders_marked c.args.table c.args.keeper.now.content c.in-RiderChairs.is c.requires.before _ (c.as_slice-riders.ensures.value ∙ c.riders_table.ensures.value) in
    c.marks_of.ensures c.args.keeper.now.content marked.2

pub marks_of-requires-in-VehicleChairs : goal.marks_of-requires-in-VehicleChairs
marks_of-requires-in-VehicleChairs g c =
    let marked = vehicles_marked c.args.table c.args.keeper.now.content c.in-VehicleChairs.is c.requires.before _ (c.as_slice-vehicles.ensures.value ∙ c.vehicles_table.ensures.value) in
    record { asked = vehicle_chairs_asked; beside = vehicles_beside; fits = marked.1; order = marked.0 }

pub returns-in-VehicleChairs : goal.returns-in-VehicleChairs
returns-in-VehicleChairs g c =
    let marked = vehicles_marked c.args.table c.args.keeper.now.content c.in-VehicleChairs.is c.requires.before _ (c.as_slice-vehicles.ensures.value ∙ c.vehicles_table.ensures.value) in
    c.marks_of-in-VehicleChairs.ensures c.args.keeper.now.content marked.2

pub marks_of-requires-in-TripChairs : goal.marks_of-requires-in-TripChairs
marks_of-requires-in-TripChairs g c =
    let marked = trips_marked c.args.table c.args.keeper.now.content c.in-TripChairs.is c.requires.before _ (c.as_slice-trips.ensures.value ∙ c.trips_table.ensures.value) in
    record { asked = trip_chairs_asked; beside = trips_beside; fits = marked.1; order = marked.0 }

pub returns-in-TripChairs : goal.returns-in-TripChairs
returns-in-TripChairs g c =
    let marked = trips_marked c.args.table c.args.keeper.now.content c.in-TripChairs.is c.requires.before _ (c.as_slice-trips.ensures.value ∙ c.trips_table.ensures.value) in
    c.marks_of-in-TripChairs.ensures c.args.keeper.now.content marked.2
