-- The rules of each request by its sender, in the order in which they are tried.
use Rattle.std.specs.Prelude.{ℕ, Bool, true, not, ◌==◌, ◌&&◌, ◌||◌, nat_lt, List, [], ◌∷◌, length}
use Rattle.std.specs.Prelude.{Option, Some, None, is_some}
use Rattle.std.specs.List.{list_all}
use Rattle.pt_base_values.specs.declared.place.Place.{Place}
use Rattle.pt_base_values.specs.declared.rider.Residence.{Residence}
use Rattle.pt_base_values.specs.declared.rider.Residence.TheVariants.{Resident, Visitor}
use Rattle.pt_base_values.specs.declared.rider.Rider.{Rider}
use Rattle.pt_base_values.specs.declared.rule.Rule.{Rule}
use Rattle.pt_base_values.specs.declared.rule.Rule.TheVariants as rule
use Rattle.pt_base_values.specs.declared.trip.Wish.{Wish}
use Rattle.pt_base_values.specs.declared.vehicle.Vehicle.{Vehicle}
use Rattle.pt_base_values.specs.Moment.{Moment}
use Rattle.pt_base_records.specs.Records.{record_at}
use Rattle.pt_rights_files.specs.Admission.{admission_rules, is_resident}
use Rattle.pt_rights_files.specs.declared.entry.Entry.{Entry}
use Rattle.pt_travel.specs.Chain.{Row}
use Rattle.pt_desk_rules.specs.Facts.{FactsOf}
use Rattle.pt_desk_rules.specs.Fleet.{has_version, vehicle_count, versions_before, versions_of_others}
use Rattle.pt_desk_rules.specs.State.{most_callers, most_places, most_routes, most_riders, most_entries}
use Rattle.pt_desk_rules.specs.State.{most_vehicles, most_versions, most_tables, last_trip_number, place_key}
use Rattle.pt_desk_rules.specs.Letters.{letter_at}
use Rattle.pt_desk_rules.specs.Outcomes.{awaits_outcome, has_come}
use Rattle.pt_desk_rules.specs.Permission.{is_admin, is_clerk, is_dispatcher, may_alter, may_book, may_end, may_enter}
use Rattle.pt_desk_rules.specs.Permission.{may_run, may_see_standing}
use Rattle.pt_desk_rules.specs.Trips.{has_ends, is_cancellable, is_changeable}
use Rattle.pt_desk_requests.specs.declared.caller.Caller.{Caller}
use Rattle.pt_desk_rules.specs.declared.facts.EntryFacts.{EntryFacts}
use Rattle.pt_desk_rules.specs.declared.facts.ReadFacts.{ReadFacts}
use Rattle.pt_desk_rules.specs.declared.facts.WishFacts.{WishFacts}
use Rattle.pt_desk_requests.specs.declared.request.Read.{Read}
use Rattle.pt_desk_requests.specs.declared.request.Read.TheVariants as read
use Rattle.pt_desk_requests.specs.declared.request.Write.{Write}
use Rattle.pt_desk_requests.specs.declared.request.Write.TheVariants as write

-- both places of each row are in the list
abbrev pub are_there : List Row → List Place → Bool
are_there rows places =
    list_all (λ row. is_some (record_at place_key row.0 places) && is_some (record_at place_key row.1 places)) rows

-- the other vehicles, and the earlier versions of this one, leave room for a new version
abbrev pub has_room_for : Vehicle → List Vehicle → Bool
has_room_for new vehicles =
    nat_lt (length (versions_before new.id new.from_day vehicles)) most_versions
    && nat_lt (vehicle_count (versions_of_others new.id vehicles)) most_vehicles

-- there is no such caller, or it is the caller of this number
abbrev pub is_nobody_else : ℕ → Option Caller → Bool
is_nobody_else id None = true
is_nobody_else id (Some there) = there.id == id

-- a rider is of this kind
abbrev pub is_of_kind : Residence → Rider → Bool
is_of_kind Resident there = is_resident there.kind
is_of_kind Visitor there = not (is_resident there.kind)

-- there is no such rider, or the rider is of this kind
abbrev pub is_nobody_of_another_kind : Residence → Option Rider → Bool
is_nobody_of_another_kind kind None = true
is_nobody_of_another_kind kind (Some there) = is_of_kind kind there

-- the rules of an entry by this author on the day today, for the rider with this record
abbrev pub entry_rules : Option Rider → Entry → ℕ → ℕ → EntryFacts → List (Rule × Bool)
entry_rules None entry today author facts = []
entry_rules (Some there) entry today author facts =
    admission_rules facts.file there entry today author facts.tallies facts.policy

-- What a rider's wish needs before the rules of the trip itself: the rider and both places exist, and a trip number is
-- left.
abbrev pub wish_rules : Wish → WishFacts → List (Rule × Bool)
wish_rules wish facts =
    (rule.Unknown, is_some facts.rider && has_ends wish facts.places)
    ∷ (rule.Full, nat_lt facts.booking.last_trip last_trip_number)
    ∷ []

-- the rules of an explanation: only a dispatcher may ask, and the rest are those of a booking
abbrev pub explain_rules : Wish → Caller → WishFacts → List (Rule × Bool)
explain_rules wish me facts = (rule.Caller, is_dispatcher me.role) ∷ wish_rules wish facts

-- the rules of a write by this caller at this moment, each with whether it holds
abbrev pub rules_of : (asked : Write) → Caller → Moment → FactsOf asked → List (Rule × Bool)
rules_of (write.PutCaller new) me now facts =
    (rule.Caller, is_admin me.role)
    ∷ (rule.Unknown, facts.has_subject)
    ∷ (rule.Exists, is_nobody_else new.id facts.holder)
    ∷ (rule.Full, is_some facts.caller || nat_lt facts.caller_count most_callers)
    ∷ []
rules_of (write.PutPolicy new) me now facts = (rule.Caller, is_admin me.role) ∷ []
rules_of (write.PutPlace new) me now facts =
    (rule.Caller, is_admin me.role)
    ∷ (rule.Exists, not facts.has_place)
    ∷ (rule.Full, nat_lt facts.place_count most_places)
    ∷ []
rules_of (write.PutRoute new) me now facts =
    (rule.Caller, is_admin me.role)
    ∷ (rule.Full, facts.has_route || nat_lt facts.route_count most_routes)
    ∷ []
rules_of (write.PutRider new) me now facts =
    (rule.Caller, is_clerk me.role)
    ∷ (rule.Exists, is_nobody_of_another_kind new.kind facts.rider)
    ∷ (rule.Full, is_some facts.rider || nat_lt facts.rider_count most_riders)
    ∷ []
rules_of (write.Enter rider entry) me now facts =
    (rule.Caller, may_enter entry rider facts.rider me.role)
    ∷ (rule.Unknown, is_some facts.rider)
    ∷ (rule.Full, nat_lt (length facts.file) most_entries)
    ∷ entry_rules facts.rider entry now.0 me.id facts
rules_of (write.PutVehicle new) me now facts =
    (rule.Caller, is_dispatcher me.role)
    ∷ (rule.Unknown, facts.has_depot)
    ∷ (rule.Booked, not facts.is_booked)
    ∷ (rule.Full, has_room_for new facts.vehicles)
    ∷ []
rules_of (write.Travel day rows) me now facts =
    (rule.Caller, is_dispatcher me.role)
    ∷ (rule.Unknown, are_there rows facts.places)
    ∷ (rule.Booked, not facts.is_booked)
    ∷ (rule.Full, nat_lt facts.tables_before most_tables)
    ∷ []
-- the rules of the trip itself come after these
rules_of (write.Book rider wish) me now facts =
    (rule.Caller, may_book rider facts.rider me.role) ∷ wish_rules wish facts
rules_of (write.Change trip wish) me now facts =
    (rule.Caller, may_alter facts.booking.trip facts.rider me.role)
    ∷ (rule.Unknown, is_some facts.booking.trip && is_some facts.rider && has_ends wish facts.places)
    ∷ (rule.Over, is_changeable now.0 facts.booking.trip)
    ∷ []
rules_of (write.Cancel trip) me now facts =
    (rule.Caller, may_alter facts.trip facts.rider me.role)
    ∷ (rule.Unknown, is_some facts.trip)
    ∷ (rule.Over, is_cancellable now facts.trip)
    ∷ []
rules_of (write.Outcome trip outcome) me now found =
    (rule.Caller, may_end found me.role)
    ∷ (rule.Unknown, is_some found)
    ∷ (rule.Over, awaits_outcome found)
    ∷ (rule.Early, has_come now.0 found)
    ∷ []

-- the rules of a read by this caller
abbrev pub read_rules : Read → Caller → ReadFacts → List (Rule × Bool)
read_rules (read.Standing rider day) me facts =
    (rule.Caller, may_see_standing rider facts.rider me.role)
    ∷ (rule.Unknown, is_some facts.rider)
    ∷ []
read_rules (read.Trips rider) me facts =
    (rule.Caller, may_book rider facts.rider me.role)
    ∷ (rule.Unknown, is_some facts.rider)
    ∷ []
read_rules (read.Letter rider position) me facts =
    (rule.Caller, may_see_standing rider facts.rider me.role)
    ∷ (rule.Unknown, is_some (letter_at facts.rider facts.file position))
    ∷ []
read_rules (read.Manifest vehicle day) me facts =
    (rule.Caller, may_run vehicle me.role)
    ∷ (rule.Unknown, has_version vehicle facts.vehicles)
    ∷ []
read_rules (read.DaySheet day) me facts = (rule.Caller, is_dispatcher me.role) ∷ []
read_rules (read.Export day) me facts = (rule.Caller, is_dispatcher me.role) ∷ []
