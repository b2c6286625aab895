-- Changes of one table, one after the other.
use Rattle.std.proofs.Common.{◌≡◌, ◌≢◌, List, [], ◌∷◌, refl, ◌∙◌}
use Rattle.std.specs.List.{AllByRecursion}
use Rattle.sqlite.specs.Effect.{Database}
use Rattle.sqlite.specs.Order.{Row}
use Rattle.sqlite.specs.Table.{Table}
use Rattle.sqlite.specs.Tree.{Trees}
use Rattle.sqlite_trees.proofs.ListLemmas.{all_both}
use Rattle.pt_tables_rows.specs.Schema.{desk_schema, tables}
use Rattle.pt_tables_rows.specs.Tables.{Others}
use Rattle.pt_tables_writing.specs.Writes.{Rewrites}

others_then : (t : Table) (a b c : Trees) → Others t a b → Others t b c → Others t a c
others_then t a b c p q =
    all_both (λ u. u.tree ≢ t.tree → b u.tree ≡ a u.tree) (λ u. u.tree ≢ t.tree → c u.tree ≡ b u.tree)
    (λ u. u.tree ≢ t.tree → c u.tree ≡ a u.tree) (λ u one two apart. two apart ∙ one apart) tables p q

others_self : (t : Table) (a : Trees) (us : List Table) → AllByRecursion (λ u. u.tree ≢ t.tree → a u.tree ≡ a u.tree) us
others_self t a [] = tt
others_self t a (u ∷ us) = (λ _. refl, others_self t a us)

pub rewrites_then : (t : Table) (xs ys zs : List Row) (a b c : Database) → Rewrites t xs ys a b → Rewrites t ys zs b c
    → Rewrites t xs zs a c
rewrites_then t xs ys zs a b c p q = record {
  schema = q.schema;
  rows = λ held. q.rows (p.rows held);
  others = others_then t a.trees b.trees c.trees p.others q.others;
}

-- nothing was done
pub rewrites_self : (t : Table) (xs : List Row) (a : Database) → a.schema ≡ desk_schema → Rewrites t xs xs a a
rewrites_self t xs a has = record { schema = has; rows = λ held. held; others = others_self t a.trees tables }
