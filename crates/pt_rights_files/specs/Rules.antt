-- Rules that are tried in order.
use Rattle.std.specs.Prelude.{Bool, List, [], ◌∷◌, Option, Some, None, if◌then◌else◌}

-- the first rule that fails, of an ordered list of rules, each with whether it holds; None if all hold
abbrev pub first_failing : {Name : Type 0} → List (Name × Bool) → Option Name
first_failing [] = None
first_failing (rule ∷ rules) = if rule.1 then first_failing rules else Some rule.0
