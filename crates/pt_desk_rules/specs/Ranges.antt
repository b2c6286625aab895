-- The ranges of the fields of records, which definitions see only as numbers and lists. A record's number has 32 bits
-- and is at least 1; days and minutes are in range. Ranges that a record's own type states are not repeated here.
use Rattle.std.specs.Prelude.{ℕ, ◌≤◌, ◌<◌, ◌^◌, IfSome}
use Rattle.pt_base_values.specs.Day.{IsDay}
use Rattle.pt_base_values.specs.Ranges.{last_minute}
use Rattle.pt_base_values.specs.declared.place.Place.{Place}
use Rattle.pt_base_values.specs.declared.rider.Rider.{Rider}
use Rattle.pt_base_values.specs.declared.trip.Trip.{Trip}
use Rattle.pt_base_records.specs.Records.{Each}
use Rattle.pt_desk_scheduling.specs.Plan.{Plan}
use Rattle.pt_desk_scheduling.specs.declared.planned.PlannedStop.{PlannedStop}
use Rattle.pt_desk_spelling.specs.Ranges.{IsCaller, IsEntry, IsRoute, IsVehicle, IsWish, IsWord}
use Rattle.pt_desk_spelling.specs.Replies.{IsId, IsReply}
use Rattle.pt_travel.specs.Chain.{Row}
use Rattle.pt_travel.specs.Table.{IsTable}
use Rattle.pt_desk_rules.specs.Parts.{Part, edit_of, record_in, records_of}
use Rattle.pt_desk_rules.specs.Parts as part
use Rattle.pt_desk_rules.specs.State.{State}
use Rattle.pt_desk_rules.specs.Travel.{TravelTable}
use Rattle.pt_desk_rules.specs.declared.change.Change.{Change}
use Rattle.pt_desk_rules.specs.declared.change.FiledEntry.{FiledEntry}
use Rattle.pt_desk_rules.specs.declared.kept.Kept.{Kept}

abbrev pub IsMinute : ℕ → Type 0
IsMinute n = n ≤ last_minute

abbrev pub FitsPlace : Place → Type 0
FitsPlace place = IsId place.id

abbrev pub FitsRider : Rider → Type 0
FitsRider rider = IsId rider.id

-- the last accepted write of a caller
pub record FitsKept (kept : Kept) : Type 0 where
  pub caller : IsId kept.caller
  pub number : IsWord kept.number
  pub reply : IsReply kept.reply

pub record FitsFiled (filed : FiledEntry) : Type 0 where
  pub rider : IsId filed.rider
  pub position : IsWord filed.position
  pub entry : IsEntry filed.entered.entry
  pub day : IsDay filed.entered.day
  pub author : IsId filed.entered.author

pub record FitsTrip (trip : Trip) : Type 0 where
  pub id : IsId trip.id
  pub rider : IsId trip.rider
  pub wish : IsWish trip.wish
  pub vehicle : IsId trip.vehicle
  pub window_from : IsMinute trip.window_from
  pub window_to : IsMinute trip.window_to

abbrev pub FitsStop : PlannedStop → Type 0
FitsStop stop = IsId stop.trip

pub record FitsPlan (plan : Plan) : Type 0 where
  pub vehicle : IsId plan.vehicle
  pub day : IsDay plan.day
  pub stops : Each FitsStop plan.stops

-- one row of a travel table, which is a drive
abbrev pub FitsDrive : Row → Type 0
FitsDrive drive = IsId drive.0 × IsId drive.1 × (drive.2 < 2 ^ 16)

pub record FitsTravel (dated : TravelTable) : Type 0 where
  pub from_day : IsDay dated.from_day
  pub drives : Each FitsDrive dated.rows
  pub table : IsTable dated.rows

-- the ranges of a table's records
abbrev pub FitsIn : (p : Part) → record_in p → Type 0
FitsIn part.callers = IsCaller
FitsIn part.kept = FitsKept
FitsIn part.places = FitsPlace
FitsIn part.routes = IsRoute
FitsIn part.riders = FitsRider
FitsIn part.entries = FitsFiled
FitsIn part.vehicles = IsVehicle
FitsIn part.travel = FitsTravel
FitsIn part.trips = FitsTrip
FitsIn part.planned = FitsPlan

-- each record of the state is in its ranges, and so is the number of the last trip
pub record KeepsRanges (s : State) : Type 0 where
  pub parts : (p : Part) → Each (FitsIn p) (records_of p s)
  pub last_trip : IsWord s.last_trip

-- each record that a change puts is in its ranges, and so is its trip number
pub record PutsInRange (change : Change) : Type 0 where
  pub parts : (p : Part) → Each (FitsIn p) (edit_of p change).puts
  pub last_trip : IfSome change.last_trip IsWord
