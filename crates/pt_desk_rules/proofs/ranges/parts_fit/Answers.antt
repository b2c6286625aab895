use Rattle.std.proofs.Common.{subst}
use Rattle.pt_base_records.specs.Records.{Each}
use Rattle.pt_desk_rules.specs.Parts as part
use Rattle.pt_desk_rules.specs.Ranges.{FitsIn}
use Rattle.pt_desk_rules.proofs.ranges.parts_fit.Goals as goal

pub returns : goal.returns
returns c part.callers = subst (Each (FitsIn part.callers)) c.puts.ensures.value c.all_fit.ensures.fit
returns c part.kept = subst (Each (FitsIn part.kept)) c.puts-2.ensures.value c.all_fit-2.ensures.fit
returns c part.places = subst (Each (FitsIn part.places)) c.puts-3.ensures.value c.all_fit-3.ensures.fit
returns c part.routes = subst (Each (FitsIn part.routes)) c.puts-4.ensures.value c.all_fit-4.ensures.fit
returns c part.riders = subst (Each (FitsIn part.riders)) c.puts-5.ensures.value c.all_fit-5.ensures.fit
returns c part.entries = subst (Each (FitsIn part.entries)) c.puts-6.ensures.value c.all_fit-6.ensures.fit
returns c part.vehicles = subst (Each (FitsIn part.vehicles)) c.puts-7.ensures.value c.all_fit-7.ensures.fit
returns c part.travel = subst (Each (FitsIn part.travel)) c.puts-8.ensures.value c.all_fit-8.ensures.fit
returns c part.trips = subst (Each (FitsIn part.trips)) c.puts-9.ensures.value c.all_fit-9.ensures.fit
returns c part.planned = subst (Each (FitsIn part.planned)) c.puts-10.ensures.value c.all_fit-10.ensures.fit
