-- The answer to a dispatcher who asks whether a wish could be booked.
use Rattle.std.specs.Prelude.{◌≡◌, ℕ, ◌+◌, Option, Some, None}
use Rattle.pt_base_values.specs.declared.rule.Rule.{Rule}
use Rattle.pt_base_values.specs.declared.trip.Wish.{Wish}
use Rattle.pt_base_values.specs.Moment.{Moment}
use Rattle.pt_rights_files.specs.Rules.{first_failing}
use Rattle.pt_desk_scheduling.specs.declared.scheduling.Scheduled.{Scheduled}
use Rattle.pt_desk_scheduling.specs.declared.scheduling.Scheduled.TheVariants as scheduled
use Rattle.pt_desk_rules.specs.Booking.{IsAnswered}
use Rattle.pt_desk_rules.specs.Rules.{explain_rules}
use Rattle.pt_desk_rules.specs.declared.facts.WishFacts.{WishFacts}
use Rattle.pt_desk_requests.specs.declared.caller.Caller.{Caller}
use Rattle.pt_desk_requests.specs.declared.request.Answer.{Answer}
use Rattle.pt_desk_requests.specs.declared.request.Answer.TheVariants as answer

-- the number that a trip would get now
abbrev pub next_trip : WishFacts → ℕ
next_trip facts = facts.booking.last_trip + 1

-- the answer, if a booking would end like this: a trip that could be booked is possible
abbrev pub IsToldPossible : Scheduled → Answer → Type 0
IsToldPossible (scheduled.Booked trip plan) told = told ≡ answer.Possible
IsToldPossible (scheduled.Denied rule) told = told ≡ answer.Denied rule

-- the answer on the day today, if this rule before the trip's own is the first to fail, or none fails
abbrev pub IsExplainedAfter : Option Rule → Wish → ℕ → WishFacts → Answer → Type 0
IsExplainedAfter (Some first) wish today facts told = told ≡ answer.Denied first
IsExplainedAfter None wish today facts told =
    (found : Scheduled) × IsAnswered (next_trip facts) None today wish facts found × IsToldPossible found told

-- the answer to this caller about a wish at this moment
abbrev pub IsExplained : Wish → Caller → Moment → WishFacts → Answer → Type 0
IsExplained wish me now facts told =
    IsExplainedAfter (first_failing (explain_rules wish me facts)) wish now.0 facts told
