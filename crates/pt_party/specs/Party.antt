-- The persons of a trip: the rider, an attendant or none, and companions.
use Rattle.std.specs.Prelude.{ℕ, ◌+◌, ◌-◌, ◌≤◌, Bool, true, false, IsTrue, if◌then◌else◌}
use Rattle.pt_base_values.specs.declared.load.Load.{Load}
use Rattle.pt_base_values.specs.declared.rider.Rider.{Rider}
use Rattle.pt_party.specs.declared.party.Party.{Party}

-- the rider may bring one companion, and an attendant if the rider's record names one (49 CFR 37.123(f), 37.125(i))
pub record MayTravel (rider : Rider) (party : Party) : Type 0 where
  pub companions : party.companions ≤ 1
  pub attendant : IsTrue party.attendant → IsTrue rider.attendant

-- those who pay: the rider and the companions (49 CFR 37.131(c)(2))
abbrev pub payers_of : Party → ℕ
payers_of party = 1 + party.companions

-- those who ride free: the attendant, if one comes (49 CFR 37.131(c)(3))
abbrev pub attendants_of : Party → ℕ
attendants_of party = if party.attendant then 1 else 0

-- all who board the vehicle
abbrev pub persons_of : Party → ℕ
persons_of party = payers_of party + attendants_of party

-- each person takes a seat, but a rider in a wheelchair takes a wheelchair place
abbrev pub load_of : Party → Bool → Load
load_of party false = record { seats = persons_of party; chairs = 0 }
load_of party true = record { seats = persons_of party - 1; chairs = 1 }
