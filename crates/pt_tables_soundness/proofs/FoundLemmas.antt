-- A record that is found is the only one with its key.
use Rattle.std.proofs.Common.{◌≡◌, ℕ, Bool, IsTrue, List, Option, Some, subst}
use Rattle.pt_base_values.specs.TripStatus.{stands}
use Rattle.pt_base_values.specs.declared.trip.Trip.{Trip}
use Rattle.pt_base_records.specs.Keys.{pair_key}
use Rattle.pt_base_records.specs.Records.{record_at}
use Rattle.pt_desk_rules.specs.Sound.{StandsIn}
use Rattle.pt_desk_rules.specs.State.{trip_key}

some_one : {A : Type 0} (o : Option A) (x y : A) → o ≡ Some x → o ≡ Some y → y ≡ x
some_one o x y is also = cc

abbrev IsStandingIn : ℕ → Trip → Type 0
IsStandingIn key trip = IsTrue (stands trip.status) × (pair_key trip.vehicle trip.wish.day ≡ key)

pub trip_found : (trips : List Trip) (key number : ℕ) (trip : Trip) (b : Bool) → record_at trip_key number trips ≡ Some trip
    → (IsTrue b → IsStandingIn key trip) → (IsStandingIn key trip → IsTrue b)
    → (IsTrue b → StandsIn trips key number) × (StandsIn trips key number → IsTrue b)
trip_found trips key number trip b found gives back = (
  λ holds. let parts = gives holds in (trip, found, parts.0, parts.1),
  λ (other, also, standing, at). back (subst (IsStandingIn key) (some_one (record_at trip_key number trips) trip other found also) (standing, at)),
)
