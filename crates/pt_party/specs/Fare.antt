-- Fares in whole cents (49 CFR 37.131(c)).
use Rattle.std.specs.Prelude.{ℕ, ◌+◌, ◌*◌, Bool, min, if◌then◌else◌}
use Rattle.pt_base_values.specs.declared.policy.Policy.{Policy}
use Rattle.pt_party.specs.declared.party.Party.{Party}
use Rattle.pt_party.specs.Party.{payers_of}

-- the full fare of the same trip by fixed routes, with a transfer if no single route serves both ends (49 CFR
-- 37.131(c)(1))
abbrev pub fixed_fare_of : Policy → Bool → ℕ
fixed_fare_of policy one_route = policy.base + (if one_route then 0 else policy.transfer)

-- the smaller of the agency's own fare and twice the fixed fare (49 CFR 37.131(c))
abbrev pub fare_of : Policy → Bool → ℕ
fare_of policy one_route = min policy.fare (2 * fixed_fare_of policy one_route)

-- every payer of the party pays the same fare (49 CFR 37.131(c)(2))
abbrev pub due_of : ℕ → Party → ℕ
due_of fare party = fare * payers_of party
