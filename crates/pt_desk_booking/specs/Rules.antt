-- The rules of a booking by riders, days and places, in the order in which they are tried.
use Rattle.std.specs.Prelude.{◌≡◌, ◌≢◌, false, List, [], ◌∷◌, ◌⊎◌, Option, Some, None}
use Rattle.pt_base_values.specs.Day.{IsBookable}
use Rattle.pt_base_values.specs.declared.rider.Residence.{Residence}
use Rattle.pt_base_values.specs.declared.rider.Residence.TheVariants.{Resident, Visitor}
use Rattle.pt_base_values.specs.declared.rule.Rule.{Rule}
use Rattle.pt_base_values.specs.declared.rule.Rule.TheVariants as rule
use Rattle.pt_rights_conditions.specs.Trips.{Qualifies}
use Rattle.pt_corridor.specs.Corridor.{IsServed, IsServedAt}
use Rattle.pt_party.specs.Party.{MayTravel}
use Rattle.pt_rights_files.specs.Standing.{standing_of}
use Rattle.pt_rights_files.specs.Suspension.{is_suspended}
use Rattle.pt_rights_files.specs.declared.case_file.Standing.{Standing}
use Rattle.pt_rights_files.specs.declared.case_file.Standing.TheVariants as standing
use Rattle.pt_rights_visitors.specs.Periods.{MayUse}
use Rattle.pt_desk_booking.specs.Request.{Request, party_of}

-- the first rule that does not hold, of an ordered list of rules, each with its condition; None if all hold
abbrev pub IsFirstFailing : List (Rule × Type 0) → Option Rule → Type 0
IsFirstFailing [] found = found ≡ None
IsFirstFailing (rule ∷ rules) found = (¬ rule.1 × (found ≡ Some rule.0)) ⊎ (rule.1 × IsFirstFailing rules found)

-- a resident's standing for the trip's day, as it is seen today
abbrev pub standing_for : Request → Standing
standing_for request = standing_of request.file request.today request.wish.day

-- a resident has standing (49 CFR 37.125(c), (e), (g)); a visitor has a day left in the period (37.127(e))
abbrev pub entitlement : Residence → Request → Rule × Type 0
entitlement Resident request = (rule.Standing, standing_for request ≢ standing.None)
entitlement Visitor request = (rule.VisitorDays, MayUse request.uses request.wish.day)

-- the trip meets a condition of the last grant (37.123(b)); presumed and overdue standing have no conditions
abbrev pub IsUnder : Standing → Request → Type 0
IsUnder (standing.Granted grant) request =
    Qualifies grant.conditions request.routes request.wish.day request.wish.pickup request.from request.to
IsUnder standing.Presumed request = Unit {0}
IsUnder standing.AppealOverdue request = Unit {0}
IsUnder standing.None request = Unit {0}

-- the rider's eligibility covers the trip; a visitor's has no conditions
abbrev pub IsCovered : Residence → Request → Type 0
IsCovered Resident request = IsUnder (standing_for request) request
IsCovered Visitor request = Unit {0}

-- the rules that need no vehicle
abbrev pub riders_rules : Request → List (Rule × Type 0)
riders_rules request =
    entitlement request.rider.kind request
    -- the rider is not suspended on the day (37.125(h))
    ∷ (rule.Suspension, is_suspended request.file request.wish.day ≡ false)
    ∷ (rule.Conditions, IsCovered request.rider.kind request)
    -- who may come along (37.123(f))
    ∷ (rule.Party, MayTravel request.rider (party_of request.wish))
    -- the day may be booked today (37.131(b))
    ∷ (rule.BookingDays, IsBookable request.today request.wish.day)
    -- service is owed at both ends (37.131(a))
    ∷ (rule.Area, IsServed request.routes request.from × IsServed request.routes request.to)
    -- and at the wished minute of the day (37.131(e))
    ∷ (
      rule.Hours,
      IsServedAt request.routes request.from request.wish.day request.wish.pickup
          × IsServedAt request.routes request.to request.wish.day request.wish.pickup,
    )
    ∷ []
