-- What an audit of a refusal shows, and the outcomes of its commands.
use Rattle.std.proofs.Common.{◌≡◌, ◌∙◌, ℕ, true, false, List, [], Option, Some, None, Result, Ok, Any, subst}
use Rattle.std.proofs.lemmas.List.Elements.{All-map}
use Rattle.std.specs.Io.KnownBytes.{Appends}
use Rattle.std.specs.Prelude.{is_some, IfNone, IfSome}
use Rattle.pt_audit.specs.RightLog.{IsNowherePossible}
use Rattle.pt_base_values.specs.declared.fault.Fault.{Fault}
use Rattle.pt_base_values.specs.declared.rule.Rule.TheVariants.{NoVehicle}
use Rattle.pt_base_values.specs.declared.trip.Wish.{Wish}
use Rattle.pt_base_values.specs.Moment.{Moment}
use Rattle.pt_desk_booking.proofs.DutyLemmas.{Any-map, no_any}
use Rattle.pt_desk_booking.specs.Planning.{OnDuty, SomeVehicleCan, on_duty}
use Rattle.pt_desk.proofs.RefusalLemmas.{refusals_are_told}
use Rattle.pt_desk.specs.Refusals.{IsFacts}
use Rattle.pt_desk.specs.Booking.{AreTimes}
use Rattle.pt_desk_reads.specs.Refusal.{Refusal}
use Rattle.pt_desk.specs.Sound.{IsSound}
use Rattle.pt_desk.specs.State.{State}
use Rattle.pt_desk.specs.Step.{IsOutcome}
use Rattle.pt_desk_reads.specs.declared.explaining.Inquiry.{Inquiry}
use Rattle.pt_desk_reads.specs.declared.explaining.Inquiry.TheVariants as inquiry
use Rattle.pt_desk_store.specs.Route.{stops_of}
use Rattle.pt_insertion_search.specs.Choice.{IsChosenIn}
use Rattle.pt_insertion_search.specs.Possible.{IsPossible}
use Rattle.pt_insertion_search.specs.declared.asked.Asked.{Asked}
use Rattle.pt_insertion_search.specs.declared.chosen.Chosen.{Chosen}
use Rattle.pt_insertion_search.specs.declared.duty.Duty.{Duty}
use Rattle.pt_insertion_log.specs.Written.{WritesRightLog}
use Rattle.pt_desk_requests.specs.declared.request.Answer.{Answer}
use Rattle.pt_desk_requests.specs.declared.request.Answer.TheVariants as answer
use Rattle.pt_desk_requests.specs.declared.request.Request.TheVariants.{Explain}
use Rattle.pt_app_commands.specs.Refusals.{IsAuditedFrom, IsExplainedFrom, NoneCan, SomeCan}
use Rattle.pt_app_commands.specs.declared.ending.Ending.{Ending}
use Rattle.pt_app_commands.specs.declared.ending.Ending.TheVariants.{Done}
use Rattle.pt_audit.specs.declared.line.Line.{Line}

abbrev lent : Duty → OnDuty
lent duty = record { vehicle = duty.vehicle.now; stops = stops_of duty.route.now }

-- the vehicle can take the trip
abbrev Can : (ℕ → ℕ → Option ℕ) → Asked → OnDuty → Type 0
Can minutes asked duty = (i : ℕ) × (j : ℕ) × IsPossible minutes duty.vehicle duty.stops asked i j

-- if no borrowed vehicle has a place, no vehicle of the refusal has
pub none_can : (found : Refusal) (minutes : ℕ → ℕ → Option ℕ) (duties : List Duty) (asked : Asked)
    → AreTimes found.rows minutes → on_duty duties ≡ found.vehicles → asked ≡ found.asked
    → IsNowherePossible minutes duties asked → NoneCan found
none_can found minutes duties asked times same is never =
    let none = no_any (Can minutes asked) (on_duty duties) (All-map (λ (d : OnDuty). ¬ Can minutes asked d) lent duties
    (λ k d within can. never k d within can.0 can.1 can.2)) in (
      minutes,
      times,
      subst (λ (a : Asked). ¬ SomeVehicleCan minutes found.vehicles a) is
          (subst (λ (v : List OnDuty). ¬ SomeVehicleCan minutes v asked) same none),
    )

-- if one has the best place, some vehicle of the refusal can take the trip
pub some_can : (found : Refusal) (minutes : ℕ → ℕ → Option ℕ) (duties : List Duty) (asked : Asked)
    (best : Option Chosen) → AreTimes found.rows minutes → on_duty duties ≡ found.vehicles → asked ≡ found.asked
    → is_some best ≡ true → IfSome best (λ chosen. Any (λ duty. IsChosenIn minutes duty.vehicle.now
    (stops_of duty.route.now) asked chosen) duties) → SomeCan found
some_can found minutes duties asked None times same is there possible = absurd (cc)
some_can found minutes duties asked (Some chosen) times same is there (k, duty, within, at, chooses) =
    let can = Any-map (Can minutes asked) lent duties (k, duty, within, at, (chosen.i, chosen.j, chooses.possible)) in (
      minutes,
      times,
      subst (λ (a : Asked). SomeVehicleCan minutes found.vehicles a) is
          (subst (λ (v : List OnDuty). SomeVehicleCan minutes v asked) same can),
    )

pub nowhere : (minutes : ℕ → ℕ → Option ℕ) (duties : List Duty) (asked : Asked) (best : Option Chosen)
    → is_some best ≡ false → IfNone best (IsNowherePossible minutes duties asked)
    → IsNowherePossible minutes duties asked
nowhere minutes duties asked None there none = none
nowhere minutes duties asked (Some chosen) there none = absurd (cc)

-- a correct log that was completed in memory is written unchanged
pub log_is_printed : (minutes : ℕ → ℕ → Option ℕ) (duties : List Duty) (asked of_refusal : Asked) (begun text shown : List ℕ)
    (old new : Option (List ℕ)) → asked ≡ of_refusal → begun ≡ []
    → WritesRightLog minutes duties asked (Some begun) (Some text) → shown ≡ text → Appends old new shown
    → WritesRightLog minutes duties of_refusal old new
log_is_printed minutes duties asked of_refusal begun text shown old new is none writes same printed =
    let written = subst (λ (a : Asked). WritesRightLog minutes duties a (Some []) (Some text)) is
    (subst (λ (held : List ℕ). WritesRightLog minutes duties asked (Some held) (Some text)) none writes) in
    record {
      lines = written.lines;
      text = written.text;
      right = written.right;
      is_text = written.is_text;
      appended = subst (λ (held : List ℕ). Appends old new held) (same ∙ written.appended) printed;
    }

-- if no vehicle can, the wish is denied `no vehicle`, and by no other rule
told_none : (key : List ℕ) (now : Moment) (rider : ℕ) (wish : Wish) (s : State) (found : Refusal) → NoneCan found
    → IsFacts key now rider wish s (inquiry.Facts found) None → IsSound s → (number : ℕ) (told : Answer)
    (left : Option State) → IsOutcome key now number (Explain rider wish) s told left → told ≡ answer.Denied NoVehicle
told_none key now rider wish s found (minutes, times, never) facts sound number told left outcome =
    refusals_are_told key now number rider wish s found None left minutes told sound facts times never outcome

pub explained_none : (key : List ℕ) (now : Moment) (rider : ℕ) (wish : Wish) (s : State) (given : Inquiry)
    (found : Refusal) (old new : Option (List ℕ)) (result : Result Ending Fault) → given ≡ inquiry.Facts found
    → IsExplainedFrom found old new result → result ≡ Ok Done → IsFacts key now rider wish s given None → IsSound s
    → (number : ℕ) (told : Answer) (left : Option State) → IsOutcome key now number (Explain rider wish) s told left
    → told ≡ answer.Denied NoVehicle
explained_none key now rider wish s given found old new result is ends done facts sound number told left outcome =
    told_none key now rider wish s found (subst (λ r. IsExplainedFrom found old new r) done ends).0
    (subst (λ f. IsFacts key now rider wish s f None) is facts) sound number told left outcome

pub audited_none : (key : List ℕ) (now : Moment) (rider : ℕ) (wish : Wish) (s : State) (lines : List Line)
    (given : Inquiry) (found : Refusal) (old new : Option (List ℕ)) (result : Result Ending Fault)
    → given ≡ inquiry.Facts found → IsAuditedFrom lines found old new result → result ≡ Ok Done
    → IsFacts key now rider wish s given None → IsSound s → (number : ℕ) (told : Answer) (left : Option State)
    → IsOutcome key now number (Explain rider wish) s told left → told ≡ answer.Denied NoVehicle
audited_none key now rider wish s lines given found old new result is ends done facts sound number told left outcome =
    told_none key now rider wish s found (subst (λ r. IsAuditedFrom lines found old new r) done ends).0
    (subst (λ f. IsFacts key now rider wish s f None) is facts) sound number told left outcome
