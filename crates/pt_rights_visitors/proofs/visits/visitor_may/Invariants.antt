use Rattle.pt_rights_visitors.proofs.Walk.{IsWalked}
use Rattle.pt_rights_visitors.proofs.visits.visitor_may.Given as goal

abbrev pub invariant-loop-used : goal.invariant-loop-used
invariant-loop-used l = IsWalked l.uses l.day l.used-index l.opening l.others
