use Rattle.std.proofs.Common.{◌≡◌, get_or, subst, arith, All}
use Rattle.std.proofs.lemmas.List.{get_or_read, take_all}
use Rattle.std.proofs.lemmas.List.Elements.{All-more}
use Rattle.pt_rights_files.specs.Conditions.{IsCondition}
use Rattle.pt_desk_rules.proofs.ranges.fit_conditions.Goals as goal

pub loop-condition-preserved : goal.loop-condition-preserved
loop-condition-preserved c =
    let list = c.args.conditions.now in
    let i = c.loop-condition.condition-index in
    let condition = c.condition-item.result in
    let at : condition ≡ get_or list i condition
    = get_or_read list i condition (omega arith) c.condition-item.is condition in
    All-more IsCondition list i condition (omega arith) c.loop-condition.invariant
    (subst IsCondition at c.fits_condition.ensures)

pub returns : goal.returns
returns c =
    let list = c.args.conditions.now in
    subst (All IsCondition) (take_all c.loop-condition.condition-index list (omega arith)) c.loop-condition.invariant
