use Rattle.std.proofs.Common.{◌≡◌, ◌<◌, ◌≤◌, ◌++◌, ◌∷◌, [], map, length}
use denote.Shadow.{shadow}
use denote.Text.{Utf8}
use Rattle.pt_rights_conditions.specs.Texts.{condition_text}
use Rattle.pt_tables_reading.specs.Fitting.{parts_of}
use Rattle.pt_tables_reading.proofs.ConditionReading.{AreConditions}
use Rattle.pt_tables_reading.proofs.conditions.conditions_from.Given as goal

abbrev pub invariant-loop-taken : goal.invariant-loop-taken
invariant-loop-taken l = record {
  utf8 : shadow (Utf8 l.rest);
  parted : parts_of l.fn.text ≡ map condition_text l.members.items ++ parts_of l.rest;
  fit : AreConditions l.members.items;
  few : length l.members.items ≤ l._taken;
  whole : length l.members.items < l._taken → parts_of l.rest ≡ l.rest ∷ [];
}
