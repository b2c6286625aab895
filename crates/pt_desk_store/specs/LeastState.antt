-- The desk's first state.
use Rattle.std.specs.Prelude.{◌≡◌, ℕ, List, [], ◌∷◌}
use Rattle.pt_desk_rules.specs.Sha256.{sha256}
use Rattle.pt_base_values.specs.declared.policy.Policy.{Policy}
use Rattle.pt_desk_rules.specs.State.{State, new_state}
use Rattle.pt_desk_requests.specs.declared.caller.Role.TheVariants.{Admin}

-- the policy of an agency that has decided nothing yet
pub record IsLeastPolicy (policy : Policy) : Type 0 where
  pub base : policy.base ≡ 0
  pub transfer : policy.transfer ≡ 0
  pub fare : policy.fare ≡ 0
  pub service : policy.service ≡ 0
  pub extra_ride : policy.extra_ride ≡ 0
  pub min_missed : policy.min_missed ≡ 1
  pub percent : policy.percent ≡ 100
  pub span_days : policy.span_days ≡ 1

-- caller 1 is the admin, who has this key, and nothing else exists
pub record IsLeastState (admin_key : List ℕ) (s : State) : Type 0 where
  pub policy : IsLeastPolicy s.policy
  pub content : s ≡ new_state (record { id = 1; role = Admin; digest = sha256 admin_key } ∷ []) s.policy
