-- A requested trip, with all that its rules use except vehicles and driving times.
use Rattle.std.specs.Prelude.{ℕ, List}
use Rattle.pt_base_values.specs.declared.place.Place.{Place}
use Rattle.pt_base_values.specs.declared.policy.Policy.{Policy}
use Rattle.pt_base_values.specs.declared.rider.Rider.{Rider}
use Rattle.pt_base_values.specs.declared.trip.Wish.{Wish}
use Rattle.pt_corridor.specs.Route.{FixedRoute}
use Rattle.pt_party.specs.declared.party.Party.{Party}
use Rattle.pt_rights_files.specs.declared.entry.Entered.{Entered}
use Rattle.pt_desk_booking.specs.declared.request.TripRequest.{TripRequest}

-- A request: the number that the trip is to have, the rider's record, case file and days of use, and the agency's
-- policy and fixed routes. It also has the places of the trip's two ends, the day today, and the wish.
pub record Request : Type 0 where
  pub trip : ℕ
  pub rider : Rider
  pub file : List Entered
  pub uses : List ℕ
  pub policy : Policy
  pub routes : List FixedRoute
  pub from : Place
  pub to : Place
  pub today : ℕ
  pub wish : Wish

-- the values that a request borrows
abbrev pub request_of : TripRequest → Request
request_of lent = record {
  trip = lent.trip;
  rider = lent.rider.now;
  file = lent.file.now;
  uses = lent.uses.now;
  policy = lent.policy.now;
  routes = lent.routes.now;
  from = lent.from.now;
  to = lent.to.now;
  today = lent.today;
  wish = lent.wish;
}

-- who comes along with the rider
abbrev pub party_of : Wish → Party
party_of wish = record { attendant = wish.attendant; companions = wish.companions }
