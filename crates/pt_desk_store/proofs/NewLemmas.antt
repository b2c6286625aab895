-- A state that has only an admin is sound.
use Rattle.std.proofs.Common.{rules, ◌≡◌, ℕ, List, [], ◌∷◌, length, sym, subst}
use Rattle.pt_base_values.specs.declared.policy.Policy.{Policy}
use Rattle.pt_desk_rules.specs.Parts.{Part, records_of}
use Rattle.pt_desk_rules.specs.Parts as part
use Rattle.pt_desk_rules.specs.Ranges.{FitsIn}
use Rattle.pt_desk_rules.specs.Sound.{IsSound}
use Rattle.pt_desk_rules.specs.State.{State, new_state}
use Rattle.pt_base_records.specs.Records.{Each}
use Rattle.pt_desk_requests.specs.declared.caller.Caller.{Caller}
use Rattle.pt_desk_requests.specs.declared.caller.Role.TheVariants.{Admin}
use Rattle.pt_desk_spelling.specs.Ranges.{IsCaller}

-- the admin with a key of this digest
abbrev admin_of : List ℕ → Caller
admin_of digest = record { id = 1; role = Admin; digest = digest }

admin_fits : (digest : List ℕ) → length digest ≡ 32 → IsCaller (admin_of digest)
admin_fits digest size = search rules

parts_fit : (digest : List ℕ) (policy : Policy) → length digest ≡ 32 → (p : Part)
    → Each (FitsIn p) (records_of p (new_state (admin_of digest ∷ []) policy))
parts_fit digest policy size part.callers = (admin_fits digest size, tt)
parts_fit digest policy size part.kept = tt
parts_fit digest policy size part.places = tt
parts_fit digest policy size part.routes = tt
parts_fit digest policy size part.riders = tt
parts_fit digest policy size part.entries = tt
parts_fit digest policy size part.vehicles = tt
parts_fit digest policy size part.travel = tt
parts_fit digest policy size part.trips = tt
parts_fit digest policy size part.planned = tt

admin_alone : (digest : List ℕ) (policy : Policy) → length digest ≡ 32 → IsSound (new_state (admin_of digest ∷ []) policy)
admin_alone digest policy size = record {
  ranges = record { parts = parts_fit digest policy size; last_trip = search rules };
  callers = search rules;
  one_holder_each = search rules;
  subjects_there = search rules;
  kept_in_order = search rules;
  kept_of_callers = tt;
  kept_writes = tt;
  places = search rules;
  routes = search rules;
  riders = search rules;
  entries_in_order = search rules;
  entries_of_riders = tt;
  authors_there = tt;
  files = search rules;
  vehicles_in_order = search rules;
  depots_there = tt;
  fleet = search rules;
  travel = search rules;
  travel_of_places = tt;
  trips_in_order = search rules;
  trips_numbered = tt;
  trips_of_riders = tt;
  trip_places_there = tt;
  planned_in_order = search rules;
  planned_routes = tt;
  planned_trips_stand = tt;
  planned_have_stops = tt;
  planned_drive = tt;
  planned_load = tt;
  standing_planned = tt;
}

pub least_is_sound : (digest : List ℕ) (s : State) → length digest ≡ 32 → s ≡ new_state (record { id = 1; role = Admin; digest = digest } ∷ []) s.policy
    → IsSound s
least_is_sound digest s size is = subst IsSound (sym is) (admin_alone digest s.policy size)
