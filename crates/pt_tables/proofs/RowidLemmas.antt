-- If a store is not broken, the rowids of the tables that it lists are integers in ascending order.
use Rattle.std.proofs.Common.{◌≡◌, false, IsTrue, List, [], ◌∷◌, refl, sym, ap, subst, ◌∙◌}
use Rattle.std.specs.List.{AllByRecursion}
use Rattle.sqlite.specs.State.{State as Connected, IsLive, Opens}
use Rattle.sqlite.specs.Table.{Table}
use Rattle.sqlite_catalog.proofs.LayoutLemmas.{objects_rise}
use Rattle.sqlite_catalog.proofs.ReadLemmas.{shaped_of}
use Rattle.sqlite_catalog.specs.Listing.{Lists}
use Rattle.sqlite_catalog.specs.Reading.{IsTableShaped}
use Rattle.sqlite_schema.specs.declared.schema.Schema.{Schema}
use Rattle.sqlite_trees.specs.Objects.{IsListed, catalog_tree}
use Rattle.sqlite_trees.specs.Tree.{Trees}
use Rattle.sqlite_trees.specs.View.{View, IsOrdered, IsShaped}
use Rattle.sqlite_trees.specs.declared.store.Shape.TheVariants as shape
use Rattle.sqlite_typed.proofs.ConnLemmas.{open_if_sound}
use Rattle.pt_tables_opening.specs.Opening.{IsReopened}
use Rattle.pt_tables_rows.specs.Schema.{desk_schema, tables}
use Rattle.pt_tables_rows.specs.Tables.{HaveRowids}

shaped : (v : View) → IsOrdered v.shape v.trees → (t : Table) → v.shape t.tree ≡ shape.Table → HaveRowids (v.trees t.tree)
shaped v ordered t is =
    let it = subst (λ s. IsShaped s (v.trees t.tree)) is (ordered t.tree) in
    record { rising = it.0; whole = it.1 }

each : (v : View) → IsOrdered v.shape v.trees → (ts : List Table) → AllByRecursion (IsTableShaped v) ts → AllByRecursion (λ t. HaveRowids (v.trees t.tree)) ts
each v ordered [] h = tt
each v ordered (t ∷ ts) h = (shaped v ordered t h.0.0, each v ordered ts h.1)

tables_of : desk_schema.tables ≡ tables
unfolding desk_schema
tables_of = refl

pub have_rowids : (v : View) (schema : Schema) → IsOrdered v.shape v.trees → IsListed (v.trees catalog_tree) v.shape v.reals → Lists (v.trees catalog_tree) schema
    → schema ≡ desk_schema → AllByRecursion (λ t. HaveRowids (v.trees t.tree)) tables
have_rowids v schema ordered listed lists is =
    let all = (shaped_of v schema listed (objects_rise v listed ordered) lists).tables in
    each v ordered tables (subst (AllByRecursion (IsTableShaped v)) (ap (λ (s : Schema). s.tables) is ∙ tables_of) all)

-- a store that is not broken is open
pub open_store : (v : View) → (v.is_open ≡ false → IsTrue v.is_broken) → v.is_broken ≡ false → IsTrue v.is_open
open_store v law sound = open_if_sound v law sound

-- a new connection over a store that is not broken
pub reopens : (v : View) (old new : Connected) → v.is_broken ≡ false → (v.is_open ≡ false → IsTrue v.is_broken) → IsOrdered v.shape v.trees
    → IsListed (v.trees catalog_tree) v.shape v.reals → (IsTrue v.is_open → v.trees ≡ old.committed.trees) → new.now.trees ≡ v.trees → Opens new → IsLive new → IsReopened old new
reopens v old new sound law ordered listed undone same opens live = record {
  is_open = opens.is_open;
  committed = sym opens.clean;
  rows = same ∙ undone (open_store v law sound);
  lists = (live opens.is_open).0.lists;
  rowids = λ has.
      let lists = subst (λ (trees : Trees). Lists (trees catalog_tree) new.now.schema) same (live opens.is_open).0.lists in
      subst (λ (trees : Trees). AllByRecursion (λ t. HaveRowids (trees t.tree)) tables) (sym same) (have_rowids v new.now.schema ordered listed lists has);
}
