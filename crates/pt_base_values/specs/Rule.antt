-- The names of the rules.
use Rattle.std.specs.Prelude.{ℕ, List, codes}
use Rattle.pt_base_values.specs.declared.rule.Rule.{Rule}
use Rattle.pt_base_values.specs.declared.rule.Rule.TheVariants.{Key, Number, Caller, Unknown, Over, Early, Exists}
use Rattle.pt_base_values.specs.declared.rule.Rule.TheVariants.{Booked, Full, Residents, Application, LastDay, Appeal}
use Rattle.pt_base_values.specs.declared.rule.Rule.TheVariants.{Suspension, Standing, VisitorDays, Conditions, Party}
use Rattle.pt_base_values.specs.declared.rule.Rule.TheVariants.{BookingDays, Area, Hours, NoVehicle}

-- the rule's name in ASCII: the desk's own name, or the section of 49 CFR Part 37
abbrev pub name_of : Rule → List ℕ
name_of Key = codes "desk.key"
name_of Number = codes "desk.number"
name_of Caller = codes "desk.caller"
name_of Unknown = codes "desk.unknown"
name_of Over = codes "desk.over"
name_of Early = codes "desk.early"
name_of Exists = codes "desk.exists"
name_of Booked = codes "desk.booked"
name_of Full = codes "desk.full"
name_of Residents = codes "37.127"
name_of Application = codes "37.125(c)"
name_of LastDay = codes "37.125(e)"
name_of Appeal = codes "37.125(g)"
name_of Suspension = codes "37.125(h)"
name_of Standing = codes "37.125"
name_of VisitorDays = codes "37.127(e)"
name_of Conditions = codes "37.123(b)"
name_of Party = codes "37.123(f)"
name_of BookingDays = codes "37.131(b)"
name_of Area = codes "37.131(a)"
name_of Hours = codes "37.131(e)"
name_of NoVehicle = codes "no vehicle"
