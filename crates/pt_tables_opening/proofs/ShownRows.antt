-- The answer to a query for all rows of a table in the order of its first columns.
use Rattle.std.proofs.Common.{◌≡◌, ℕ, List, [], ◌∷◌, map, filter, Bool, true, Result, Ok, Err, IfOk, Vec, refl, ap, subst}
use Rattle.std.specs.Prelude.{IsPermutation}
use Rattle.std.specs.declared.alloc.Global.{Global}
use Rattle.sqlite.specs.Effect.{Database, Reads}
use Rattle.sqlite.specs.Listing.{understood}
use Rattle.sqlite.specs.Order.{Row}
use Rattle.sqlite.specs.Schema.{Schema}
use Rattle.sqlite.specs.State.{State as Connected, Shown}
use Rattle.sqlite.specs.Table.{Table}
use Rattle.sqlite.specs.declared.error.Error.{Error}
use Rattle.sqlite.proofs.Callers.{reads_as}
use Rattle.pt_tables_asking.specs.Asking.{AreInOrder, command_in}
use Rattle.pt_tables_asking.proofs.AskedQueries.{AsksForIn, answers_passing, is_served}
use Rattle.pt_tables_asking.proofs.InsideLemmas.{same_command}
use Rattle.pt_tables_opening.specs.Opening.{AsksForAll, IsServedQuery}
use Rattle.pt_tables_rows.specs.Schema.{desk_schema}
use Rattle.pt_tables_rows.specs.Tables.{AreRows, columns_of}

-- each row passes
abbrev pub any_row : Row → Bool
any_row row = true

-- in tables of this schema, the query asks for all rows of the table, in the order of this many first columns
abbrev pub AsksAllIn : Schema → ℕ → Table → List ℕ → Type 0
AsksAllIn schema columns table text = AsksForIn schema columns table text [] any_row

-- the same in the desk's tables
abbrev pub AsksAll : ℕ → Table → List ℕ → Type 0
AsksAll columns table text = AsksAllIn desk_schema columns table text

all_there : (rows : List Row) → filter any_row rows ≡ rows
all_there [] = refl
all_there (row ∷ rows) = ap (λ l. row ∷ l) (all_there rows)

module _ (schema : Schema) (columns : ℕ) (table : Table) (text : List ℕ) (asks : AsksAllIn schema columns table text) where
  -- the rows of the answer are those of the table, in order
  answered : (db : Database) (rows : List Row) → Reads (command_in (understood schema text)) db [] rows → AreRows table db.trees rows × AreInOrder columns rows
  answered db rows read =
      let told = answers_passing schema columns table text [] any_row asks db rows read in
      (subst (λ l. IsPermutation l rows) (all_there (map (columns_of table) (db.trees table.tree))) told.0, told.1)

  -- and so are those shown
  pub shows_all : (old new : Connected) → old.now.schema ≡ schema → (r : Result (Vec Row Global) Error)
      → IfOk r (λ rows. Shown text [] old new rows.items) → IfOk r (λ rows. AreRows table old.now.trees rows.items)
  shows_all old new has (Ok rows) shown =
      (answered old.now rows.items (reads_as text [] old new schema has (command_in (understood schema text)) (same_command (understood schema text)) asks.plain asks.unlisted rows.items shown)).0
  shows_all old new has (Err e) shown = tt

-- it is refused only where its steps are limited
pub serves_all : (schema : Schema) (columns : ℕ) (table : Table) (text : List ℕ) → AsksAllIn schema columns table text → IsServedQuery schema text
serves_all schema columns table text asks = record {
  plain = asks.plain;
  unlisted = asks.unlisted;
  served = is_served schema columns table text [] any_row asks;
}

-- a query for all rows in the order of columns also gives them in each order that follows from it
pub asks_for_all : (columns : ℕ) (table : Table) (text : List ℕ) (Ordered : List Row → Type 0) → AsksAll columns table text → ((rows : List Row) → AreInOrder columns rows → Ordered rows)
    → AsksForAll text table Ordered
asks_for_all columns table text Ordered asks ordered = record {
  plain = asks.plain;
  unlisted = asks.unlisted;
  served = is_served desk_schema columns table text [] any_row asks;
  answer = λ db rows read. let told = answered desk_schema columns table text asks db rows read in (told.0, ordered rows told.1);
}

-- what is shown for such a query
pub shows_asked : {text : List ℕ} {table : Table} {Ordered : List Row → Type 0} → AsksForAll text table Ordered
    → (old new : Connected) → old.now.schema ≡ desk_schema → (rows : List Row) → Shown text [] old new rows
    → AreRows table old.now.trees rows × Ordered rows
shows_asked {text} asked old new has rows shown =
    asked.answer old.now rows (reads_as text [] old new desk_schema has (command_in (understood desk_schema text)) (same_command (understood desk_schema text)) asked.plain asked.unlisted rows shown)

-- the same
pub serves_asked : {text : List ℕ} {table : Table} {Ordered : List Row → Type 0} → AsksForAll text table Ordered → IsServedQuery desk_schema text
serves_asked asked = record { plain = asked.plain; unlisted = asked.unlisted; served = asked.served }
