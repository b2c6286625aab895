use Rattle.std.proofs.Common.{rules, arith, ◌≡◌, ◌≢◌, slice_index_or}
use Rattle.std.proofs.lemmas.Bool.{false≢true}
use Rattle.std.proofs.lemmas.List.{get_or_default}
use Rattle.pt_feasible.specs.declared.sweep.Pass.TheVariants.{Broken}
use Rattle.pt_feasible.proofs.LimitsLemmas.{no_limits}
use Rattle.pt_feasible.proofs.SweepLemmas.{then-changed}
use Rattle.pt_feasible.proofs.sweep.raise_from.Goals as goal

pub returns-in_default : goal.returns-in_default
returns-in_default c =
    let limits = c.args.limits.now in
    let k = c.args.k in
    let limit = slice_index_or limits k no_limits in
    let first = c.raise-back.ensures.raises in
    let second = c.raise.ensures.raises in
    let unbroken' : c.raise-back.result ≢ Broken = (λ is. search (rules, false≢true)) in
    record {
      raises = then-changed limits c.args.bounds.now c.raise-back.new.bounds c.raise.new.bounds c.raise-back.result c.raise.result first second c.in_default.not-Stayed;
      ended = λ unbroken d.
          let same : slice_index_or limits k d ≡ limit = get_or_default limits k d no_limits (omega arith) in
          rw same (omega (arith, second.rises limit.since.visit, c.raise-back.ensures.reached unbroken'));
      driven = λ unbroken d more.
          let same : slice_index_or limits k d ≡ limit = get_or_default limits k d no_limits (omega arith) in
          rw same (omega (arith, first.rises k, c.raise.ensures.reached unbroken));
    }
