-- What a statement that writes rows makes of the tables.
use Rattle.std.proofs.Common.{◌≡◌, ℕ, List, Some, None, Ok, refl, ap, subst}
use Rattle.std.specs.Prelude.{slice_get}
use Rattle.sqlite.specs.Order.{Row}
use Rattle.sqlite.specs.Source.{Source}
use Rattle.sqlite.specs.Command.{Command}
use Rattle.sqlite.specs.Command.TheVariants.{Insert}
use Rattle.sqlite.specs.Table.{Table}
use Rattle.sqlite.specs.Listing.{understood}
use Rattle.sqlite.specs.Does.{Tally, Does, AtPlace, OnRows, WritesRows, Concludes}
use Rattle.sqlite.specs.Effect.{Database, IsDatabase}
use Rattle.sqlite.specs.Rows.{Task, Written, Then}
use Rattle.sqlite.specs.State.{State, Writes, mode_of, Executes}
use Rattle.sqlite.proofs.Callers.{IsPlain, command_of, statement_of, runs_as}
use Rattle.pt_tables_rows.specs.Keys.TheVariants.{Enforced}
use Rattle.pt_tables_rows.specs.Schema.{desk_schema, tables}
use Rattle.pt_tables_rows.specs.Tables.{Others}
use Rattle.pt_tables_rows.proofs.PartLemmas.{went, same_value}

-- the table's rows are these, and all else is as it was
pub record Leaves (table : Table) (left : List Row) (old new : Database) : Type 0 where
  pub schema : new.schema ≡ desk_schema
  pub rows : new.trees table.tree ≡ left
  pub others : Others table old.trees new.trees

-- what a text reads that works on a table of this database
abbrev pub task_on : State → Row → Table → Task
task_on s params table = record { limit = s.step_limit; keys = Enforced; schema = desk_schema; table = table; params = params }

-- the rows were written, and all is tested
pub record Wrote (old new : State) (params : Row) (table : Table) (command : Command) : Type 0 where
  pub done : Written
  pub writes : WritesRows (task_on old params table) old.now.trees command (Ok done)
  pub now : new.now ≡ record { schema = desk_schema; trees = done.trees }

tables_are : (desk_schema).tables ≡ tables
unfolding desk_schema
tables_are = refl

abbrev Placed : State → Row → Command → Tally → Database → List Table → ℕ → Type 0
Placed old params command tally now ts at =
    AtPlace (λ t. OnRows (task_on old params t) (mode_of old) None command old.now.trees) (slice_get ts at) (Ok (tally, now))

concluded : (old new : State) (params : Row) (table : Table) (command : Command) (tally : Tally)
    → Then (WritesRows (task_on old params table) old.now.trees command) (Concludes (task_on old params table) (mode_of old) None) (Ok (tally, new.now)) → Wrote old new params table command
concluded old new params table command tally h =
    let done = went h in
    record { done = done.0; writes = done.1; now = ap (λ (p : Tally × Database). p.1) (same_value (went (went done.2).2).2) }

pub placed : (old new : State) (params : Row) (table : Table) (at : ℕ) (command : Command) (tally : Tally)
    → slice_get tables at ≡ Some table → Placed old params command tally new.now (desk_schema).tables at
    → Wrote old new params table command
placed old new params table at command tally there h =
    let found = subst (λ ts. Placed old params command tally new.now ts at) tables_are h in
    concluded old new params table command tally
    (subst (λ o. AtPlace (λ t. OnRows (task_on old params t) (mode_of old) None command old.now.trees) o (Ok (tally, new.now))) there found)

module _ (text : List ℕ) (params : Row) (table : Table) (at : ℕ) (there : slice_get tables at ≡ Some table) (plain : IsPlain (understood desk_schema text)) (old new : State) (count : ℕ)
    (has : old.now.schema ≡ desk_schema) (h : Executes text params old new (Ok count)) where
  pub inserted : (from : Source) → command_of (understood desk_schema text) ≡ Insert at from → Wrote old new params table (Insert at from)
  inserted from is =
      let w : Writes old new None (Insert at from) (statement_of text (understood desk_schema text)) params count = runs_as text params old new desk_schema has (Insert at from) is plain count h in
      placed old new params table at (Insert at from) w.tally there
      (subst (λ s. Does old.step_limit (mode_of old) params (record old.now { schema = s })
      (statement_of text (understood desk_schema text)) None (Insert at from) (Ok (w.tally, new.now))) has
      w.changed)

  -- the database that is left is one
  pub inserted_sound : (from : Source) → command_of (understood desk_schema text) ≡ Insert at from → IsDatabase new.now
  inserted_sound from is =
      let w : Writes old new None (Insert at from) (statement_of text (understood desk_schema text)) params count = runs_as text params old new desk_schema has (Insert at from) is plain count h in
      w.sound
