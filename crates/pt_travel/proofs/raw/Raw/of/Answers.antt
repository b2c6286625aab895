use Rattle.std.proofs.Common.{◌≤◌, List, sym, refl, subst, arith, All}
use Rattle.std.proofs.lemmas.List.{length-take}
use Rattle.pt_travel.specs.Chain.{Row}
use Rattle.pt_travel.specs.Places.{list_of}
use Rattle.pt_travel.specs.Table.{IsTable, NamesOnly, Rises}
use Rattle.pt_travel.proofs.raw.Raw.of.Goals as goal
use Rattle.pt_travel.proofs.raw.Raw.of.Goals.{In_ok-places}

pub returns-in_err-places-clause-table : goal.returns-in_err-places-clause-table
returns-in_err-places-clause-table c =
    rw c.from_residual.ensures (
      (λ some. cc some),
      (λ table.
          let few = table.few_places in
          let names = subst (NamesOnly few.0) (sym c.deref-2.ensures.value) few.2 in
          absurd (omega (arith, c.in_err-places.ensures.too_many refl few.0 names))),
    )

table_of : (c : In_ok-places) → IsTable c.args.rows.items
table_of c =
    let places = c.in_ok-places.places in
    record {
      in_order = subst Rises c.deref.ensures.value (c.if-not-rises.ensures.0 refl);
      within_a_day = subst (λ (rows : List Row). All (λ row. row.2 ≤ 1439) rows) c.deref-else-not-rises.ensures.value
          (c.if-not-within_a_day.ensures.0 refl);
      few_places = (
        list_of places,
        omega (arith, places.within, length-take places.len places.numbers),
        subst (NamesOnly (list_of places)) c.deref-2.ensures.value c.in_ok-places.ensures.named,
      );
    }

pub invariant_of-result : goal.invariant_of-result
invariant_of-result c =
    (table_of c, subst (NamesOnly (list_of c.in_ok-places.places)) c.deref-2.ensures.value c.in_ok-places.ensures.named)

pub returns-clause-table : goal.returns-clause-table
returns-clause-table c = ((λ some. table_of c), (λ table. refl))
