-- A change edits each table by itself, and two states with the same tables, policy and last number are the same.
use Rattle.std.proofs.Common.{◌≡◌, refl}
use Rattle.pt_base_records.specs.Records.{edited}
use Rattle.pt_desk_rules.specs.Parts.{Part, edit_of, key_in, records_of}
use Rattle.pt_desk_rules.specs.Parts as part
use Rattle.pt_desk_rules.specs.State.{State, applied}
use Rattle.pt_desk_rules.specs.declared.change.Change.{Change}

pub parts_applied : (p : Part) (change : Change) (s : State)
    → records_of p (applied change s) ≡ edited (key_in p) (edit_of p change) (records_of p s)
parts_applied part.callers change s = refl
parts_applied part.kept change s = refl
parts_applied part.places change s = refl
parts_applied part.routes change s = refl
parts_applied part.riders change s = refl
parts_applied part.entries change s = refl
parts_applied part.vehicles change s = refl
parts_applied part.travel change s = refl
parts_applied part.trips change s = refl
parts_applied part.planned change s = refl

pub states_by_parts : (one other : State) → ((p : Part) → records_of p one ≡ records_of p other)
    → one.policy ≡ other.policy → one.last_trip ≡ other.last_trip → one ≡ other
states_by_parts one other parts policy last = λ i. record {
  callers = parts part.callers i;
  kept = parts part.kept i;
  policy = policy i;
  places = parts part.places i;
  routes = parts part.routes i;
  riders = parts part.riders i;
  entries = parts part.entries i;
  vehicles = parts part.vehicles i;
  travel = parts part.travel i;
  trips = parts part.trips i;
  planned = parts part.planned i;
  last_trip = last i;
}
