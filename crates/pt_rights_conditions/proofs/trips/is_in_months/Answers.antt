use Rattle.std.proofs.Common.{pos, subst}
use Rattle.std.specs.List.{Contains}
use Rattle.pt_base_values.proofs.CalendarLemmas.{IsInMonth-month}
use Rattle.pt_rights_files.specs.Months.{numbers_of}
use Rattle.pt_rights_conditions.proofs.trips.is_in_months.Goals as goal

pub returns : goal.returns
returns c = (
  λ is. (c.month.result, c.contains.ensures.0 is, c.month.ensures.value),
  λ has.
      let same = IsInMonth-month (pos c.args.day) has.0 c.month.result has.2 c.month.ensures.value in
      c.contains.ensures.1 (subst (λ m. Contains (numbers_of c.args.months) m) same has.1),
)
