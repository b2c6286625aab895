use Rattle.std.proofs.Common.{ℕ, ◌≤◌, ◌<◌, ◌≢◌}
use Rattle.pt_tables_rows.specs.Schema.{schema_of}
use Rattle.pt_tables_opening.proofs.earlier_version.earlier_with_schema.Given as goal

abbrev pub invariant-loop-version : goal.invariant-loop-version
invariant-loop-version l = (earlier : ℕ) → 1 ≤ earlier → earlier < l.version → l.schema ≢ schema_of earlier
