-- The marks after the push are those of the longer file.
use Rattle.std.specs.Prelude.{◌≡◌, ◌<◌, Bool, true, false, length, is_some}
use Rattle.std.proofs.Common.{sym, ap, ◌∙◌}
use Rattle.pt_rights_files.specs.Kinds.{grant_of}
use Rattle.pt_rights_files.specs.declared.entry.Entered.{Entered}
use Rattle.pt_rights_files.proofs.Pushed.{AreMarks-pushed, newer-some, newer-none}
use Rattle.pt_rights_files.proofs.case_file.CaseFile.push.Goals as goal
use Rattle.pt_rights_files.proofs.case_file.CaseFile.push.Goals.{then-is_some, else-is_some}
use Rattle.pt_rights_files.specs.Limits.{most_entries}

pub invariant_of-self : goal.invariant_of-self
invariant_of-self c =
    let last : Entered = record { entry = c.args.entry; day = c.args.today; author = c.args.author } in
    let room : length c.self.inside.entries.items < most_entries = rw c.self.view_is c.requires in
    let pushed =
    AreMarks-pushed c.self.inside.entries.items c.self.inside.waiting c.self.inside.granted c.self.inside.heard last c.self.invariant room
    c.if-is_some.self-inside.entries.items c.if-is_some.self-inside.waiting c.if-is_some.self-inside.granted c.heard_since-self-inside.result in
    let overdue = rw c.deref.ensures.value at c.heard_since-self-inside.ensures in
    let some_given = λ (given : Bool) (is : c.is_some.result ≡ given). ap is_some (sym c.grant-granted.ensures) ∙ sym c.is_some.ensures ∙ is in
    elim c.if-is_some.branch [
      | then-is_some w ↦
          pushed (rw w.self-inside-is c.in-Ok.ensures.items) (rw w.self-inside-is c.waiting_after-waiting.ensures)
          (rw w.self-inside-is (c.grant-granted.ensures ∙ sym (newer-some (grant_of c.args.entry) c.self.inside.granted (some_given true w.if-is_some.true)))) overdue
      | else-is_some w ↦
          pushed (rw w.self-inside-is c.in-Ok.ensures.items) (rw w.self-inside-is c.waiting_after-waiting.ensures)
          (rw w.self-inside-is (sym (newer-none (grant_of c.args.entry) c.self.inside.granted (some_given false w.if-is_some.false)))) overdue
    ]
