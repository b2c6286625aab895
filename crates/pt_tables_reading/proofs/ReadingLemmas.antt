-- A row is the values of its columns.
use Rattle.std.proofs.Common.{◌≡◌, ℕ, zero, suc, ◌+◌, [], ◌∷◌, length, drop, drop-cons, sym, ap, ◌∙◌, arith}
use Rattle.std.proofs.lemmas.List.{drop_all}
use Rattle.std.specs.Int.{IsInRange}
use Rattle.sqlite.specs.Order.{Row, column}
use Rattle.sqlite.specs.declared.types.Value.{Value}
use Rattle.sqlite.specs.declared.types.Value.TheVariants.{Null}
use Rattle.pt_tables_rows.specs.Rows.{number_value}

-- this many columns of a row from one place on
abbrev pub columns_from : ℕ → ℕ → Row → Row
columns_from place zero row = []
columns_from place (suc count) row = column row place ∷ columns_from (suc place) count row

columns-after : (count place : ℕ) (row : Row) → length row ≡ place + count → columns_from place count row ≡ drop place row
columns-after zero place row size = sym (drop_all place row (omega arith))
columns-after (suc count) place row size =
    ap (λ (later : Row). column row place ∷ later) (columns-after count (suc place) row (omega arith))
    ∙ sym (drop-cons row place Null (omega arith))

pub row-whole : (count : ℕ) (row : Row) → length row ≡ count → columns_from 0 count row ≡ row
row-whole count row size = columns-after count 0 row (omega arith)

-- a number that lies between one number and itself
pub number-only : (n only : ℕ) → IsInRange only only n → number_value only ≡ number_value n
number-only n only range =
    let same : only ≡ n = let least = range.0 in let most = range.1 in omega arith in ap (λ (k : ℕ). number_value k) same

-- a row with this many columns is the list of their values
pub eleven-read : (row : Row) {v0 v1 v2 v3 v4 v5 v6 v7 v8 v9 v10 : Value} → length row ≡ 11
    → v0 ≡ column row 0 → v1 ≡ column row 1 → v2 ≡ column row 2 → v3 ≡ column row 3 → v4 ≡ column row 4
    → v5 ≡ column row 5 → v6 ≡ column row 6 → v7 ≡ column row 7 → v8 ≡ column row 8 → v9 ≡ column row 9
    → v10 ≡ column row 10
    → v0 ∷ v1 ∷ v2 ∷ v3 ∷ v4 ∷ v5 ∷ v6 ∷ v7 ∷ v8 ∷ v9 ∷ v10 ∷ [] ≡ row
eleven-read row size e0 e1 e2 e3 e4 e5 e6 e7 e8 e9 e10 =
    let columns : _ ≡ columns_from 0 11 row =
    λ i. e0 i ∷ e1 i ∷ e2 i ∷ e3 i ∷ e4 i ∷ e5 i ∷ e6 i ∷ e7 i ∷ e8 i ∷ e9 i ∷ e10 i ∷ [] in
    columns ∙ row-whole 11 row size

pub sixteen-read : (row : Row) {v0 v1 v2 v3 v4 v5 v6 v7 v8 v9 v10 v11 v12 v13 v14 v15 : Value} → length row ≡ 16
    → v0 ≡ column row 0 → v1 ≡ column row 1 → v2 ≡ column row 2 → v3 ≡ column row 3 → v4 ≡ column row 4
    → v5 ≡ column row 5 → v6 ≡ column row 6 → v7 ≡ column row 7 → v8 ≡ column row 8 → v9 ≡ column row 9
    → v10 ≡ column row 10 → v11 ≡ column row 11 → v12 ≡ column row 12 → v13 ≡ column row 13 → v14 ≡ column row 14
    → v15 ≡ column row 15
    → v0 ∷ v1 ∷ v2 ∷ v3 ∷ v4 ∷ v5 ∷ v6 ∷ v7 ∷ v8 ∷ v9 ∷ v10 ∷ v11 ∷ v12 ∷ v13 ∷ v14 ∷ v15 ∷ [] ≡ row
sixteen-read row size e0 e1 e2 e3 e4 e5 e6 e7 e8 e9 e10 e11 e12 e13 e14 e15 =
    let columns : _ ≡ columns_from 0 16 row =
    λ i. e0 i ∷ e1 i ∷ e2 i ∷ e3 i ∷ e4 i ∷ e5 i ∷ e6 i ∷ e7 i ∷ e8 i ∷ e9 i ∷ e10 i ∷ e11 i ∷ e12 i ∷ e13 i ∷ e14 i ∷ e15 i ∷ [] in
    columns ∙ row-whole 16 row size
