use Rattle.std.proofs.Common.{◌∙◌, ap, inl, inr, refl, sym}
use Rattle.pt_app_files.specs.Faults.{told_as}
use Rattle.pt_app_files.proofs.migrating.migrate_desk.Goals as goal

pub returns-in-Ok : goal.returns-in-Ok
returns-in-Ok g c = record {
  last = c.migrate.new.conn;
  migrated = inl (
    record { migrated = c.in-Ok.ensures.migrated; survives = c.in-Ok.ensures.crash },
    record {
      done = c.print_done-ended.ensures.done;
      printed = c.print_done-ended.ensures.printed;
      fault = c.print_done-ended.ensures.fault;
    },
  );
  left = c.leave.ensures;
}

pub returns-in-Err : goal.returns-in-Err
returns-in-Err g c =
    let told = c.fault_of_refusal.ensures in
    record {
      last = c.migrate.new.conn;
      migrated = inr (
        c.fault_of_refusal.result,
        record {
          told = elim c.in-Err.ensures.faults [
            | inl e ↦ inr (inl (told ∙ ap told_as e))
            | inr e ↦ elim e [ inl e ↦ inr (inr (told ∙ ap told_as e)) | inr e ↦ inl (told ∙ ap told_as e) ]
          ];
          other_tables = λ clean is. c.in-Err.ensures.other_tables clean (sym (ap (λ error. error.code) told) ∙ is);
          unchanged = c.in-Err.ensures.unchanged;
          survives = c.in-Err.ensures.crash;
        },
        refl,
        refl,
      );
      left = c.leave-in-Err.ensures;
    }
