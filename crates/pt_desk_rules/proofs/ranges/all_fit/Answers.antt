use Rattle.std.proofs.Common.{◌≡◌, ◌+◌, ◌++◌, ◌∷◌, [], take, sym, ap, subst, ◌∙◌, arith}
use Rattle.std.proofs.lemmas.List.{take_all, take_more}
use Rattle.pt_base_records.specs.Records.{Each}
use Rattle.pt_desk_rules.proofs.RangeLemmas.{Each-more}
use Rattle.pt_desk_rules.proofs.ranges.all_fit.Goals as goal

pub loop-record-preserved : goal.loop-record-preserved
loop-record-preserved g c =
    let P = g.T.Fitting.Fits in
    let all = c.args.records.now in
    let done = take c.loop-record.record-index all in
    let item = c.record-item.result in
    let more : take (c.loop-record.record-index + 1) all ≡ done ++ item ∷ [] =
    take_more all c.loop-record.record-index item (omega arith) ∙ ap (λ x. done ++ x ∷ []) (sym c.record-item.is) in
    subst (Each P) (sym more) (Each-more P done item c.loop-record.invariant c.fits.ensures.fits)

pub returns : goal.returns
returns g c =
    let all = c.args.records.now in
    record { fit = subst (Each g.T.Fitting.Fits) (take_all c.loop-record.record-index all (omega arith)) c.loop-record.invariant }
