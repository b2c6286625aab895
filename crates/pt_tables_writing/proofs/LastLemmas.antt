-- What the last statements of a change make: callers' last accepted writes, and the agency's row.
use Rattle.std.proofs.Common.{◌≡◌, ◌≢◌, ℕ, List, [], ◌∷◌, Option, None, refl, sym, subst, subst₂}
use Rattle.std.specs.List.{AllByRecursion}
use Rattle.std.specs.Option.{unwrap_or}
use Rattle.sqlite.specs.Effect.{Database, IsDatabase}
use Rattle.sqlite.specs.Order.{Row}
use Rattle.sqlite.specs.Table.{Table}
use Rattle.sqlite.specs.Tree.{Trees}
use Rattle.pt_base_records.specs.Records.{Edit}
use Rattle.pt_base_values.specs.declared.policy.Policy.{Policy}
use Rattle.pt_desk_rules.specs.Ranges.{FitsKept}
use Rattle.pt_desk_rules.specs.State.{State, kept_key, puts_one}
use Rattle.pt_desk_rules.specs.declared.change.Change.{Change}
use Rattle.pt_desk_rules.specs.declared.kept.Kept.{Kept}
use Rattle.pt_tables_rows.specs.Rows.{desk_row, kept_row}
use Rattle.pt_tables_rows.specs.Schema.{desk_schema, desk_table, kept_table, tables}
use Rattle.pt_tables_writing.specs.Groups.{AgreesFor, OfEach, WritesLast}
use Rattle.pt_tables_writing.specs.Stored.{EditsTable}
use Rattle.pt_tables_writing.specs.Writes.{Puts, Rewrites}

same_others : (table : Table) (trees : Trees) (ts : List Table) → AllByRecursion (λ t. t.tree ≢ table.tree → trees t.tree ≡ trees t.tree) ts
same_others table trees [] = tt
same_others table trees (t ∷ ts) = ((λ _. refl), same_others table trees ts)

-- nothing is written
unwritten : (table : Table) (rows : List Row) (db : Database) → db.schema ≡ desk_schema → Rewrites table rows rows db db
unwritten table rows db has = record { schema = has; rows = λ held. held; others = same_others table db.trees tables }

-- the one accepted write that is kept is all that is written
pub kept_last : (change : Change) (known : State) (kept : Kept) → change.kept ≡ puts_one kept → change.policy ≡ None → change.last_trip ≡ None → (a b : Database)
    → Puts kept_table kept_key FitsKept (λ x. kept_row x ∷ []) kept a b → IsDatabase b → OfEach (AgreesFor change known) (WritesLast change) a b
kept_last change known kept is policy last_trip a b puts sound there agrees = (
  b,
  subst (λ (e : Edit Kept). EditsTable kept_table kept_key FitsKept (λ x. kept_row x ∷ []) e there.kept a b) (sym is)
      (λ fit order fits. puts there.kept order fits),
  λ has. (
    subst₂ (λ (p : Option Policy) (n : Option ℕ). Rewrites desk_table (desk_row there.policy there.last_trip ∷ [])
        (desk_row (unwrap_or p there.policy) (unwrap_or n there.last_trip) ∷ []) b b) (sym policy) (sym last_trip)
        (unwritten desk_table (desk_row there.policy there.last_trip ∷ []) b has),
    sound,
  ),
)
