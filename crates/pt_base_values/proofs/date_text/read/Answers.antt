use Rattle.std.proofs.Common.{subst, IsNone, arith}
use Rattle.std.proofs.lemmas.Int.{ints}
use Rattle.pt_base_values.proofs.DateTextLemmas.{numbers_make_date, ok_is_some}
use Rattle.pt_base_values.proofs.date_text.read.Goals as goal

pub returns-clause-none : goal.returns-clause-none
returns-clause-none c none date four spelled =
    let below = c.in_ok-year.ensures.below in
    let is = numbers_make_date date c.args.text.now c.numbers.result c.in_ok-year.year c.in_ok-year.month
    c.in_ok-year.day _ _ _ four spelled c.numbers.ensures.value c.in_ok-year.was (omega (arith, ints, below))
    (omega (arith, ints, below)) (omega (arith, ints, below)) in
    ok_is_some c.new.result (c.new.ensures.succeeds.1 is) (subst IsNone c.ok.ensures.value none)
