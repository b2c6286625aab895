-- One walk from the end marks the positions against which an appeal is pending or has overturned.
use Rattle.std.proofs.Common.{◌≡◌, ◌-◌, ◌∷◌, arith, get_or, drop, false, ◌∙◌, refl}
use Rattle.std.proofs.Math.Seq.{drop-length}
use Rattle.std.proofs.lemmas.List.{get_or-replicate}
use Rattle.pt_rights_files.specs.Appeals.{appeals_against}
use Rattle.pt_rights_files.specs.Kinds.{is_overturn, decides_appeal}
use Rattle.pt_rights_files.specs.declared.entry.Entered.{Entered}
use Rattle.pt_rights_files.proofs.Lifted.{first-more, lifted-more, lifted-split, drop-before}
use Rattle.pt_rights_files.proofs.suspensions.lifted_positions.Goals as goal

pub loop-position-init : goal.loop-position-init
loop-position-init c =
    let all = drop-length c.args.entries.now in
    record {
      lifts = rw all refl;
      lifted = λ position within. rw all (get_or-replicate 200 position false false within);
    }

pub loop-position-preserved : goal.loop-position-preserved
loop-position-preserved c =
    let entered = get_or c.args.entries.now (c.loop-position.position - 1) c.index-entries-position.result in
    let before : drop (c.loop-position.position - 1) c.args.entries.now ≡ entered ∷ drop c.loop-position.position c.args.entries.now =
    drop-before c.args.entries.now c.loop-position.position c.index-entries-position.result (omega arith) (omega arith) in
    record {
      lifts =
          first-more (λ (e : Entered). decides_appeal e.entry) (λ e. is_overturn e.entry) entered _ _ before _ _
          c.loop-position.invariant.lifts c.lifts_before-lifts.ensures;
      lifted = λ position within.
          lifted-more (λ (e : Entered). decides_appeal e.entry) (λ e. is_overturn e.entry) entered _ _ before
          (λ (e : Entered). appeals_against position e.entry) _ _ _
          c.loop-position.invariant.lifts (c.loop-position.invariant.lifted position within) (c.lift.ensures position within);
    }

pub returns : goal.returns
returns c = λ position within.
    let start : c.loop-position.position ≡ 0 = omega arith in
    let marked = rw start at (c.loop-position.invariant.lifted position within) in
    marked ∙ lifted-split (λ (e : Entered). appeals_against position e.entry) (λ e. decides_appeal e.entry) (λ e. is_overturn e.entry) c.args.entries.now
