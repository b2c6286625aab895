use Rattle.pt_travel.specs.Places.{list_of}
use Rattle.pt_travel.proofs.MatrixLemmas.{StandsUpTo}
use Rattle.pt_travel.proofs.matrix.direct.Given as goal

abbrev pub invariant-loop-row : goal.invariant-loop-row
invariant-loop-row l = StandsUpTo l.rows (list_of l.places) l.row-index l.lines.items
