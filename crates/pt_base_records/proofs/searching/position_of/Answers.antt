use Rattle.std.proofs.Common.{◌<◌, arith, sym}
use Rattle.std.proofs.lemmas.Bool.Decides.{nat_tests}
use Rattle.pt_base_records.proofs.SplitLemmas.{none_left, above_here}
use Rattle.pt_base_records.proofs.searching.position_of.Goals as goal
use Rattle.pt_base_records.proofs.searching.position_of.Goals.{then-at-records-via-then-at-records, then-at-records-via-else-at-records+then-is_before}

pub returns-then-at-records-clause-here : goal.returns-then-at-records-clause-here
returns-then-at-records-clause-here g c = elim c.then-at-records.branch [
  | then-at-records-via-then-at-records w ↦ none_left (λ there. c.args.key.now < g.T.Keyed.key there) c.args.records.now c.count_before-at.result (omega arith)
  | then-at-records-via-else-at-records+then-is_before w ↦
      let key = g.T.Keyed.key in
      let x = w.index-records-at.result in
      let later : c.args.key.now < key x = grind (arith, nat_tests) in
      above_here key c.args.key.now c.args.records.now c.count_before-at.result x (omega arith) (sym w.index-records-at.is) c.requires later
]
