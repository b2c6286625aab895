-- The decision on a request, from the facts alone.
use Rattle.std.specs.Prelude.{◌≡◌, ℕ, ◌+◌, ◌↔◌, Bool, IsTrue, List, length, Option, Some, None}
use Rattle.std.specs.Option.{unwrap_or}
use Rattle.pt_base_values.specs.declared.rider.Residence.{Residence}
use Rattle.pt_base_values.specs.declared.rider.Residence.TheVariants.{Resident, Visitor}
use Rattle.pt_base_values.specs.declared.rider.Rider.{Rider}
use Rattle.pt_base_values.specs.declared.rule.Rule.{Rule}
use Rattle.pt_base_values.specs.declared.trip.Trip.{Trip}
use Rattle.pt_base_values.specs.declared.trip.Wish.{Wish}
use Rattle.pt_base_values.specs.Moment.{Moment}
use Rattle.pt_desk_requests.specs.declared.sheets.DaySheet.{DaySheet}
use Rattle.pt_desk_requests.specs.declared.sheets.VehicleSheet.{VehicleSheet}
use Rattle.pt_base_records.specs.Records.{Edit}
use Rattle.pt_rights_files.specs.Rules.{first_failing}
use Rattle.pt_rights_files.specs.Standing.{standing_of}
use Rattle.pt_rights_files.specs.Suspension.{is_suspended}
use Rattle.pt_rights_files.specs.declared.entry.Entered.{Entered}
use Rattle.pt_desk_scheduling.specs.Plan.{Plan}
use Rattle.pt_desk_scheduling.specs.Uses.{AreUses}
use Rattle.pt_desk_booking.specs.Periods.{MayUse}
use Rattle.pt_desk_rules.specs.Booking.{IsBooking}
use Rattle.pt_desk_rules.specs.Facts.{FactsOf}
use Rattle.pt_desk_rules.specs.Ranges.{PutsInRange}
use Rattle.pt_desk_rules.specs.Fleet.{duty_of}
use Rattle.pt_rights_files.specs.declared.tally.Outcome.{Outcome}
use Rattle.pt_desk_rules.specs.Letters.{letter_at, IsToldLetter}
use Rattle.pt_desk_rules.specs.Outcomes.{ended}
use Rattle.pt_desk_rules.specs.State.{no_edit, puts_one, replaces, versions_from, tables_from}
use Rattle.pt_desk_rules.specs.Rules.{rules_of, read_rules}
use Rattle.pt_desk_rules.specs.Tours.{IsDaySheet, IsManifestOf}
use Rattle.pt_desk_rules.specs.Trips.{cancelled, gives_up, moves_to}
use Rattle.pt_desk_requests.specs.declared.caller.Caller.{Caller}
use Rattle.pt_desk_rules.specs.declared.kept.Kept.{Kept}
use Rattle.pt_desk_rules.specs.declared.kept.Sent.{Sent}
use Rattle.pt_desk_spelling.specs.Replies.{reply_of}
use Rattle.pt_desk_spelling.specs.declared.replies.KeptReply.{KeptReply}
use Rattle.pt_desk_spelling.specs.declared.replies.KeptReply.TheVariants as reply
use Rattle.pt_desk_rules.specs.declared.change.Change.{Change}
use Rattle.pt_desk_rules.specs.declared.deciding.Decision.{Decision}
use Rattle.pt_desk_rules.specs.declared.deciding.Decision.TheVariants.{Denied, Accepted}
use Rattle.pt_desk_rules.specs.declared.facts.CancelFacts.{CancelFacts}
use Rattle.pt_desk_rules.specs.declared.facts.ReadFacts.{ReadFacts}
use Rattle.pt_desk_rules.specs.declared.facts.WishFacts.{WishFacts}
use Rattle.pt_desk_requests.specs.declared.request.Answer.{Answer}
use Rattle.pt_desk_requests.specs.declared.request.Answer.TheVariants as answer
use Rattle.pt_desk_requests.specs.declared.request.Read.{Read}
use Rattle.pt_desk_requests.specs.declared.request.Read.TheVariants as read
use Rattle.pt_desk_requests.specs.declared.request.Write.{Write}
use Rattle.pt_desk_requests.specs.declared.request.Write.TheVariants as write

-- the kept request of this caller after a write with this reply
abbrev pub kept_by : ℕ → Sent → KeptReply → Kept
kept_by caller sent reply =
    record { caller = caller; number = sent.number; request = sent.request; reply = reply }

-- the edit that stores the kept request of a write with this answer
abbrev pub kept_of : ℕ → Sent → Answer → Edit Kept
kept_of caller sent told = puts_one (kept_by caller sent (unwrap_or (reply_of told) reply.Done))

-- the decision together with its kept request: an accepted write is stored with its answer
abbrev pub with_kept : ℕ → Sent → Decision → Decision
with_kept caller sent (Denied first) = Denied first
with_kept caller sent (Accepted told change) =
    Accepted told (record change { kept = kept_of caller sent told })

abbrev pub no_change : Change
no_change = record {
  callers = no_edit;
  kept = no_edit;
  policy = None;
  places = no_edit;
  routes = no_edit;
  riders = no_edit;
  entries = no_edit;
  vehicles = no_edit;
  travel = no_edit;
  trips = no_edit;
  planned = no_edit;
  last_trip = None;
}

-- the change for a trip that is booked: it gets the next number
abbrev pub booked : Trip → Plan → Change
booked trip plan = record no_change { trips = puts_one trip; planned = puts_one plan; last_trip = Some trip.id }

-- the change for a trip that is changed: its old stops are removed
abbrev pub changed : Trip → Option Plan → Trip → Plan → Change
changed old left new plan = record no_change { trips = puts_one new; planned = moves_to old left plan }

-- the change for a trip that is cancelled
abbrev pub given_up : Trip → Option Plan → Change
given_up trip left = record no_change { trips = puts_one (cancelled trip); planned = gives_up trip left }

-- the change of a trip that exists: it is asked for anew under its number, as if it were not booked
abbrev pub IsChangeDecided : Option Trip → Wish → ℕ → WishFacts → Decision → Type 0
IsChangeDecided None wish today facts decided = ⊥
IsChangeDecided (Some trip) wish today facts decided =
    IsBooking (changed trip facts.booking.plan) trip.id (Some trip.id) today wish facts decided

abbrev pub IsCancelDecided : Option Trip → CancelFacts → Decision → Type 0
IsCancelDecided None facts decided = ⊥
IsCancelDecided (Some trip) facts decided = decided ≡ Accepted answer.Done (given_up trip facts.plan)

-- the outcome of a trip that exists
abbrev pub IsEndDecided : Option Trip → Outcome → Decision → Type 0
IsEndDecided None outcome decided = ⊥
IsEndDecided (Some trip) outcome decided =
    decided ≡ Accepted answer.Done (record no_change { trips = puts_one (ended outcome trip) })

-- The decision on a write by this author on the day today, if none of the write's own rules fails: its answer, and its
-- change except the kept request. The rules of a trip that is asked for come after the write's own.
abbrev pub IsDecidedBy : (asked : Write) → ℕ → ℕ → FactsOf asked → Decision → Type 0
IsDecidedBy (write.PutCaller new) author today facts decided =
    decided ≡ Accepted answer.Done (record no_change { callers = puts_one new })
IsDecidedBy (write.PutPolicy new) author today facts decided =
    decided ≡ Accepted answer.Done (record no_change { policy = Some new })
IsDecidedBy (write.PutPlace new) author today facts decided =
    decided ≡ Accepted answer.Done (record no_change { places = puts_one new })
IsDecidedBy (write.PutRoute new) author today facts decided =
    decided ≡ Accepted answer.Done (record no_change { routes = puts_one new })
IsDecidedBy (write.PutRider new) author today facts decided =
    decided ≡ Accepted answer.Done (record no_change { riders = puts_one new })
IsDecidedBy (write.Enter rider entry) author today facts decided =
    decided ≡ Accepted (answer.Entered (length facts.file)) (record no_change {
      entries = puts_one (record {
        rider = rider;
        position = length facts.file;
        entered = record { entry = entry; day = today; author = author };
      });
    })
IsDecidedBy (write.PutVehicle new) author today facts decided =
    decided ≡ Accepted answer.Done
    (record no_change { vehicles = replaces (versions_from new.id new.from_day) new })
IsDecidedBy (write.Travel day rows) author today facts decided =
    decided ≡ Accepted answer.Done
    (record no_change { travel = replaces (tables_from day) (record { from_day = day; rows = rows }) })
IsDecidedBy (write.Book rider wish) author today facts decided =
    IsBooking booked (facts.booking.last_trip + 1) None today wish facts decided
IsDecidedBy (write.Change trip wish) author today facts decided =
    IsChangeDecided facts.booking.trip wish today facts decided
IsDecidedBy (write.Cancel trip) author today facts decided = IsCancelDecided facts.trip facts decided
IsDecidedBy (write.Outcome trip outcome) author today found decided = IsEndDecided found outcome decided

-- the decision except its kept request, if this is the first of the write's own rules to fail, or none fails
abbrev pub IsRulingAfter : Option Rule → (asked : Write) → ℕ → ℕ → FactsOf asked → Decision → Type 0
IsRulingAfter (Some first) asked author today facts decided = decided ≡ Denied first
IsRulingAfter None asked author today facts decided = IsDecidedBy asked author today facts decided

-- the decision on a write by this caller at this moment, except its kept request
abbrev pub IsRuling : (asked : Write) → Caller → Moment → FactsOf asked → Decision → Type 0
IsRuling asked me now facts decided =
    IsRulingAfter (first_failing (rules_of asked me now facts)) asked me.id now.0 facts decided

-- the decision, if this is the first of the write's own rules to fail, or none fails
abbrev pub IsDecisionAfter : Option Rule → (asked : Write) → Caller → Moment → Sent → FactsOf asked → Decision → Type 0
IsDecisionAfter (Some first) asked me now sent facts decided = decided ≡ Denied first
IsDecisionAfter None asked me now sent facts decided =
    (made : Decision) × IsDecidedBy asked me.id now.0 facts made × (decided ≡ with_kept me.id sent made)

-- the decision on a write by this caller with a new number, at this moment
abbrev pub IsDecision : (asked : Write) → Caller → Moment → Sent → FactsOf asked → Decision → Type 0
IsDecision asked me now sent facts decided =
    IsDecisionAfter (first_failing (rules_of asked me now facts)) asked me now sent facts decided

-- the records that an accepted write puts are in their ranges
abbrev pub PutsInRangeIf : Decision → Type 0
PutsInRangeIf (Denied first) = Unit {0}
PutsInRangeIf (Accepted told change) = PutsInRange change

-- The answer about a rider of this kind on a day. For a visitor: whether the day may be used in addition to the days of
-- the visitor's trips (37.127(e)). For a resident: what the case file gives.
abbrev pub IsToldOfKind : Residence → List Entered → List Trip → ℕ → ℕ → Answer → Type 0
IsToldOfKind Visitor file trips today day told =
    (uses : List ℕ) × AreUses None trips uses × (may_use : Bool) × (IsTrue may_use ↔ MayUse uses day)
    × (told ≡ answer.Visitor may_use)
IsToldOfKind Resident file trips today day told =
    told ≡ answer.Standing (standing_of file today day) (is_suspended file day)

-- the answer about the standing of a rider, who must exist
abbrev pub IsToldStanding : Option Rider → List Entered → List Trip → ℕ → ℕ → Answer → Type 0
IsToldStanding None file trips today day told = ⊥
IsToldStanding (Some there) file trips today day told = IsToldOfKind there.kind file trips today day told

-- the answer to a read on the day today, if no rule fails
abbrev pub IsToldRead : Read → ℕ → ReadFacts → Answer → Type 0
IsToldRead (read.Standing rider day) today facts told =
    IsToldStanding facts.rider facts.file facts.trips today day told
IsToldRead (read.Trips rider) today facts told = told ≡ answer.Trips facts.trips
IsToldRead (read.Letter rider position) today facts told = IsToldLetter (letter_at facts.rider facts.file position) told
IsToldRead (read.Manifest vehicle day) today facts told =
    (sheet : VehicleSheet) × IsManifestOf vehicle day facts.day (duty_of vehicle day facts.vehicles) sheet
    × (told ≡ answer.Manifest day sheet)
IsToldRead (read.DaySheet day) today facts told =
    (sheet : DaySheet) × IsDaySheet day facts.vehicles facts.day sheet × (told ≡ answer.DaySheet sheet)
IsToldRead (read.Export day) today facts told = told ≡ answer.Export facts.trips

-- the answer to a read, if this rule is the first to fail, or none fails
abbrev pub IsToldAfter : Option Rule → Read → ℕ → ReadFacts → Answer → Type 0
IsToldAfter (Some first) asked today facts told = told ≡ answer.Denied first
IsToldAfter None asked today facts told = IsToldRead asked today facts told

-- the answer to a read by this caller at this moment
abbrev pub IsTold : Read → Caller → Moment → ReadFacts → Answer → Type 0
IsTold asked me now facts told = IsToldAfter (first_failing (read_rules asked me facts)) asked now.0 facts told
