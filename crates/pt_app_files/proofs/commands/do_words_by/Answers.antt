use Rattle.std.proofs.Common.{Err, ap, inl, inr, refl}
use Rattle.pt_app_files.proofs.commands.do_words_by.Goals as goal

pub returns-in-Err : goal.returns-in-Err
returns-in-Err g c = (
  (refl, refl, refl),
  elim c.in-Err.ensures.fault [
    | inl e ↦ inl e
    | inr e ↦ inr (e, c.in-Err.ensures.wrong (ap Err e))
  ],
)
