-- The tables of the desk's database, in the order of their numbers.
use Rattle.std.specs.Prelude.{ℕ, List, Option, None, Some, [], ◌∷◌}
use Rattle.pt_desk_rules.specs.Parts.{Part}
use Rattle.pt_desk_rules.specs.Parts as part
use Rattle.pt_desk_rules.specs.declared.table_name.TableName.{TableName}
use Rattle.pt_desk_rules.specs.declared.table_name.TableName.TheVariants as table

abbrev pub table_count : ℕ
table_count = 14

abbrev pub number_of : TableName → ℕ
number_of table.Desk = 1
number_of table.Callers = 2
number_of table.Kept = 3
number_of table.Places = 4
number_of table.Fixed = 5
number_of table.Vehicles = 6
number_of table.Riders = 7
number_of table.Entries = 8
number_of table.Trips = 9
number_of table.Stops = 10
number_of table.Travel = 11
number_of table.RiderChairs = 12
number_of table.VehicleChairs = 13
number_of table.TripChairs = 14

-- all of them, in the order of their numbers
abbrev pub all_tables : List TableName
all_tables =
    table.Desk ∷ table.Callers ∷ table.Kept ∷ table.Places ∷ table.Fixed ∷ table.Vehicles ∷ table.Riders
    ∷ table.Entries ∷ table.Trips ∷ table.Stops ∷ table.Travel ∷ table.RiderChairs ∷ table.VehicleChairs
    ∷ table.TripChairs ∷ []

-- the part that holds a table's records, if the table has records of its own
abbrev pub part_of : TableName → Option Part
part_of table.Desk = None
part_of table.Callers = Some part.callers
part_of table.Kept = Some part.kept
part_of table.Places = Some part.places
part_of table.Fixed = Some part.routes
part_of table.Vehicles = Some part.vehicles
part_of table.Riders = Some part.riders
part_of table.Entries = Some part.entries
part_of table.Trips = Some part.trips
part_of table.Stops = Some part.planned
part_of table.Travel = Some part.travel
part_of table.RiderChairs = None
part_of table.VehicleChairs = None
part_of table.TripChairs = None
