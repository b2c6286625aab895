use Rattle.std.proofs.Common.{◌∙◌, ap, inl, inr, subst, subst₂, sym}
use Rattle.sqlite.specs.Held.{Held, state}
use Rattle.sqlite.specs.State.{Survives}
use Rattle.pt_tables_writing.specs.Least.{IsLeastDesk}
use Rattle.pt_app_files.specs.Faults.{told_as}
use Rattle.pt_app_files.specs.Init.{IsMade}
use Rattle.pt_app_files.proofs.making.make_desk.Goals as goal

pub returns-in-Ok : goal.returns-in-Ok
returns-in-Ok g c =
    let old = state g.S.Store c.args.conn in
    let made : IsMade c.as_bytes.result.now old (state g.S.Store c.in-Ok.keeper.conn) = record {
      desk = c.in-Ok.ensures.leaves;
      durable = c.in-Ok.ensures.durable;
      survives = c.in-Ok.ensures.crash;
    } in
    record {
      last = c.release.result;
      made = subst₂ (λ key (conn : Held _). IsMade key old (state g.S.Store conn)) c.as_bytes.ensures.value (sym c.release.ensures.same) made;
      left = c.leave.ensures;
    }

pub returns-in-Err : goal.returns-in-Err
returns-in-Err g c =
    let old = state g.S.Store c.args.conn in
    let new = state g.S.Store c.in-Err.conn in
    record {
      last = c.in-Err.conn;
      made = record {
        told = elim c.in-Err.ensures.faults [ inl e ↦ inl (c.fault_of_refusal.ensures ∙ ap told_as e) | inr e ↦ inr (c.fault_of_refusal.ensures ∙ ap told_as e) ];
        unchanged = c.in-Err.ensures.unchanged;
        survives = subst (λ key. Survives old new (IsLeastDesk key)) c.as_bytes.ensures.value c.in-Err.ensures.crash;
      };
      left = c.leave-in-Err.ensures;
    }
