-- The ranges of the fields of a request. The types keep them, but definitions see only numbers and lists.
use Rattle.std.specs.Prelude.{◌≡◌, ℕ, ◌^◌, ◌<◌, ◌≤◌, List, Bool, length, All, IfSome}
use Rattle.pt_base_values.specs.Day.{IsDay}
use Rattle.pt_base_values.specs.Ranges.{last_minute}
use Rattle.pt_base_values.specs.declared.trip.Wish.{Wish}
use Rattle.pt_base_values.specs.declared.vehicle.Vehicle.{Vehicle}
use Rattle.pt_corridor.specs.Route.{FixedRoute, IsFixedRoute}
use Rattle.pt_desk_requests.specs.declared.caller.Caller.{Caller}
use Rattle.pt_desk_requests.specs.declared.caller.Role.{Role}
use Rattle.pt_desk_requests.specs.declared.caller.Role.TheVariants as role
use Rattle.pt_desk_requests.specs.declared.request.Write.{Write}
use Rattle.pt_desk_requests.specs.declared.request.Write.TheVariants as write
use Rattle.pt_rights_files.specs.Conditions.{IsCondition, IsConditions}
use Rattle.pt_rights_files.specs.Limits.{most_entries}
use Rattle.pt_rights_files.specs.Reasons.{IsReasons}
use Rattle.pt_rights_files.specs.declared.entry.Entry.{Entry}
use Rattle.pt_rights_files.specs.declared.entry.Entry.TheVariants as entry
use Rattle.pt_rights_files.specs.declared.entry.Grant.{Grant}
use Rattle.pt_desk_spelling.specs.Replies.{IsId}
use Rattle.pt_travel.specs.Chain.{Row}
use Rattle.pt_travel.specs.Table.{IsTable}

-- a number of 32 bits
abbrev pub IsWord : ℕ → Type 0
IsWord n = n < 2 ^ 32

-- a set of weekdays is a list that says of each of the seven whether it is in the set
abbrev pub IsWeek : List Bool → Type 0
IsWeek days = length days ≡ 7

abbrev pub IsRole : Role → Type 0
IsRole (role.Rider rider) = IsId rider
IsRole (role.Driver vehicle) = IsId vehicle
IsRole _ = Unit {0}

-- a caller's key is known by a digest of 32 bytes
pub record IsCaller (caller : Caller) : Type 0 where
  pub id : IsId caller.id
  pub role : IsRole caller.role
  pub digest : length caller.digest ≡ 32

pub record IsRoute (route : FixedRoute) : Type 0 where
  pub id : IsId route.id
  pub fixed : IsFixedRoute route
  pub days : IsWeek route.days
  pub last : route.last ≤ last_minute

pub record IsVehicle (vehicle : Vehicle) : Type 0 where
  pub id : IsId vehicle.id
  pub from_day : IsDay vehicle.from_day
  pub days : IsWeek vehicle.days
  pub depot : IsId vehicle.depot
  pub closes : vehicle.closes ≤ last_minute

abbrev pub IsRow : Row → Type 0
IsRow row = IsId row.0 × IsId row.1

pub record IsGrant (grant : Grant) : Type 0 where
  pub until : IsDay grant.until
  pub number : IsConditions grant.conditions
  pub conditions : All IsCondition grant.conditions

abbrev pub IsEntry : Entry → Type 0
IsEntry (entry.Grant grant) = IsGrant grant
IsEntry (entry.Refuse reasons) = IsReasons reasons
IsEntry (entry.Appeal against) = against < most_entries
IsEntry (entry.AppealGranted grant) = IsGrant grant
IsEntry (entry.AppealDenied reasons) = IsReasons reasons
IsEntry (entry.Notice basis) = IsReasons basis
IsEntry (entry.Suspend starts ends reasons) = IsDay starts × IsDay ends × IsReasons reasons
IsEntry _ = Unit {0}

pub record IsWish (wish : Wish) : Type 0 where
  pub day : IsDay wish.day
  pub pickup : wish.pickup ≤ last_minute
  pub from : IsId wish.from
  pub to : IsId wish.to
  pub by : IfSome wish.by (λ minute. minute ≤ last_minute)
  pub companions : wish.companions < 2 ^ 8

-- The fields of the request are in their ranges. Ranges that the record states itself, such as those of a policy, are
-- not repeated here.
abbrev pub IsRequest : Write → Type 0
IsRequest (write.PutCaller caller) = IsCaller caller
IsRequest (write.PutPolicy policy) = Unit {0}
IsRequest (write.PutPlace place) = IsId place.id
IsRequest (write.PutRoute route) = IsRoute route
IsRequest (write.PutVehicle vehicle) = IsVehicle vehicle
IsRequest (write.PutRider rider) = IsId rider.id
IsRequest (write.Enter rider entered) = IsId rider × IsEntry entered
IsRequest (write.Book rider wish) = IsId rider × IsWish wish
IsRequest (write.Change trip wish) = IsId trip × IsWish wish
IsRequest (write.Cancel trip) = IsId trip
IsRequest (write.Outcome trip outcome) = IsId trip
IsRequest (write.Travel day rows) = IsDay day × IsTable rows × All IsRow rows
