-- The answers about one rider depend on a few facts, and on nothing else.
use Rattle.std.specs.Prelude.{◌≡◌, ℕ, List, Option}
use Rattle.pt_desk_rules.specs.Moment.{Moment}
use Rattle.pt_desk_rules.specs.Facts.{trips_counted_for}
use Rattle.pt_desk_rules.specs.Planned.{trips_of}
use Rattle.pt_desk_rules.specs.State.{State, file_of, rider_of}
use Rattle.pt_desk_rules.specs.Step.{sender, IsOutcome}
use Rattle.pt_desk_rules.specs.Answer.{Answer}
use Rattle.pt_desk_rules.specs.Read.{Read}
use Rattle.pt_desk_rules.specs.Read.TheVariants as read
use Rattle.pt_desk_rules.specs.Request.TheVariants as request

-- the question, asked with the key, has the same answer in both states
abbrev pub AnswersAlike : List ℕ → Read → State → State → Type 0
AnswersAlike key asked s other = (now : Moment) (number : ℕ) (told also : Answer) (left and_left : Option State) →
    IsOutcome key now number (request.Read asked) s told left →
    IsOutcome key now number (request.Read asked) other also and_left → told ≡ also

-- two states agree on the caller who has the key, if any, and on the rider's record and trips
pub record AgreeOnTrips (key : List ℕ) (rider : ℕ) (s other : State) : Type 0 where
  pub caller : sender key s ≡ sender key other
  pub record_of_rider : rider_of rider s ≡ rider_of rider other
  pub trips : trips_of rider s.trips ≡ trips_of rider other.trips

-- a question about a rider's trips gets the same answer in any two states that agree on them
abbrev pub TripsArePrivate : Type 0
TripsArePrivate = (key : List ℕ) (rider : ℕ) (s other : State) → AgreeOnTrips key rider s other →
    AnswersAlike key (read.Trips rider) s other

-- two states agree on the caller who has the key, if any, and on the rider's record and case file
pub record AgreeOnFile (key : List ℕ) (rider : ℕ) (s other : State) : Type 0 where
  pub caller : sender key s ≡ sender key other
  pub record_of_rider : rider_of rider s ≡ rider_of rider other
  pub file : file_of rider s ≡ file_of rider other

-- a letter to a rider is the same in any two states that agree on the rider's case file
abbrev pub LettersArePrivate : Type 0
LettersArePrivate = (key : List ℕ) (rider position : ℕ) (s other : State) → AgreeOnFile key rider s other →
    AnswersAlike key (read.Letter rider position) s other

-- They also agree on the trips that count as days of use, which are a visitor's own (37.127(e)).
pub record AgreeOnStanding (key : List ℕ) (rider : ℕ) (s other : State) : Type 0 where
  pub file : AgreeOnFile key rider s other
  pub uses : trips_counted_for (rider_of rider s) s.trips ≡ trips_counted_for (rider_of rider other) other.trips

-- a rider's standing is the same in any two states that agree on what it follows from
abbrev pub StandingsArePrivate : Type 0
StandingsArePrivate = (key : List ℕ) (rider day : ℕ) (s other : State) → AgreeOnStanding key rider s other →
    AnswersAlike key (read.Standing rider day) s other
