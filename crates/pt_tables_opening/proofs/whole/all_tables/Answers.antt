use Rattle.std.proofs.Common.{◌≡◌, ◌+◌, ◌-◌, ◌<◌, ◌≤◌, ◌↔◌, ℕ, IsSome, None, Result, Ok, sym, subst, arith}
use Rattle.sqlite.specs.Held.{state}
use Rattle.sqlite.specs.State.{State as Connected}
use Rattle.pt_desk_store.specs.Listed.{Listed}
use Rattle.pt_desk_rules.specs.TableNames.{number_of, table_count}
use Rattle.pt_desk_rules.specs.declared.table_name.TableName.{TableName}
use Rattle.pt_tables_opening.specs.Steps.{IsReadTo, OpensTable, OpensTo}
use Rattle.pt_tables_opening.specs.declared.open_fault.OpenFault.{OpenFault}
use Rattle.pt_tables_opening.proofs.StepLemmas.{ends_so, opens_then}
use Rattle.pt_tables_opening.proofs.TableCases.{last_table}
use Rattle.pt_tables_opening.proofs.whole.all_tables.Goals as goal

opens_next : (t : TableName) (n : ℕ) (old mid new : Connected) (keeper : Listed) → number_of t ≡ n → 1 < n → OpensTo (n - 1) old mid (Ok keeper)
    → (r : Result Listed OpenFault) → OpensTable t mid new keeper.content r → OpensTo n old new r
opens_next t n old mid new keeper is late h r k =
    subst (λ (m : ℕ). OpensTo m old new r) is
    (opens_then t old mid new keeper (subst (λ (m : ℕ). 1 < m) (sym is) late) (subst (λ (m : ℕ). OpensTo (m - 1) old mid (Ok keeper)) (sym is) h) r k)

-- the first number with no table is that after the last
past_last : (n : ℕ) → (IsSome {T = TableName} None ↔ ((1 ≤ n) × (n ≤ table_count))) → 1 < n → n ≤ table_count + 1 → n - 1 ≡ table_count
past_last n range late within =
    let past : n ≤ table_count → ⊥ = λ low. let some : IsSome {T = TableName} None = range.1 (omega arith, low) in cc in
    omega arith

pub loop-table-init : goal.loop-table-init
loop-table-init g c = record {
  late = omega arith;
  within = omega arith;
  opens = subst (OpensTo 1 (state g.S.Store c.args.conn.now) (state g.S.Store c.first_table.new.conn)) c.in_ok-keeper.was c.first_table.ensures;
}

pub with_table-requires-clause-before : goal.with_table-requires-clause-before
with_table-requires-clause-before g c = subst (λ (m : ℕ). IsReadTo (m - 1) c.loop-table.keeper.content) (sym c.in-Some.ensures.value) c.loop-table.invariant.opens.read

pub returns-in_err-keeper-2 : goal.returns-in_err-keeper-2
returns-in_err-keeper-2 g c =
    let old = state g.S.Store c.args.conn.now in
    let mid = state g.S.Store c.loop-table.conn in
    let new = state g.S.Store c.with_table.new.conn in
    let n = c.loop-table.number in
    let opened = opens_next c.in-Some.table n old mid new c.loop-table.keeper c.in-Some.ensures.value
    c.loop-table.invariant.late c.loop-table.invariant.opens c.with_table.result c.with_table.ensures in
    ends_so n table_count old new c.in_err-keeper-2.field-0.0 c.from_residual-in_err-keeper-2.result c.from_residual-in_err-keeper-2.ensures.0 c.from_residual-in_err-keeper-2.ensures.1
    (subst (OpensTo n old new) c.in_err-keeper-2.was opened)

pub loop-table-preserved : goal.loop-table-preserved
loop-table-preserved g c =
    let old = state g.S.Store c.args.conn.now in
    let mid = state g.S.Store c.loop-table.conn in
    let new = state g.S.Store c.with_table.new.conn in
    let n = c.loop-table.number in
    let low = last_table c.in-Some.table in
    let is : number_of c.in-Some.table ≡ n = c.in-Some.ensures.value in
    let late : 1 < n = c.loop-table.invariant.late in
    let opened = opens_next c.in-Some.table n old mid new c.loop-table.keeper is late c.loop-table.invariant.opens c.with_table.result c.with_table.ensures in
    let same : n ≡ n + 1 - 1 = omega arith in
    record {
      late = omega arith;
      within = omega arith;
      opens = subst (λ (m : ℕ). OpensTo m old new (Ok c.in_ok-keeper-2.keeper)) same (subst (OpensTo n old new) c.in_ok-keeper-2.was opened);
    }

pub loop-table-smaller : goal.loop-table-smaller
loop-table-smaller g c = omega (arith, c.in-Some.ensures.value, last_table c.in-Some.table)

pub returns : goal.returns
returns g c =
    let end = past_last c.loop-table.number c.in_default.ensures.in_range c.loop-table.invariant.late c.loop-table.invariant.within in
    subst (λ (m : ℕ). OpensTo m (state g.S.Store c.args.conn.now) (state g.S.Store c.loop-table.conn) (Ok c.loop-table.keeper)) end c.loop-table.invariant.opens
