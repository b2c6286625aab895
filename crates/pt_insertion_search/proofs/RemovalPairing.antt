-- A route in pairs stays in pairs when a trip is taken out.
use Rattle.std.proofs.Common.{◌≡◌, ℕ, true, not, ◌==◌, List, ap, sym, ◌∙◌}
use Rattle.std.proofs.lemmas.Bool.{and_parts, eqb-true}
use Rattle.pt_feasible.specs.declared.stop.Stop.{Stop}
use Rattle.pt_feasible.specs.Pairing.{is_partner, IsPaired}
use Rattle.pt_insertion_search.specs.Removal.{is_of_another, without_trip}
use Rattle.pt_insertion_search.proofs.ListLemmas.{list_any_from, list_any_to}
use Rattle.pt_insertion_search.proofs.RemovalLemmas.{old_place, slice_get-filter, filter_keeps, old_place-rises}

-- the partner of a stop belongs to the same trip
pub partner_trip : (stop other : Stop) → is_partner stop other ≡ true → stop.trip ≡ other.trip
partner_trip stop other h = eqb-true stop.trip other.trip (and_parts (stop.trip == other.trip) _ h).0

pub IsPaired-without_trip : (trip : ℕ) (stops : List Stop) → IsPaired stops → IsPaired (without_trip trip stops)
IsPaired-without_trip trip stops paired = record {
  in_order = λ i j first second lt ei ej same.
      paired.in_order (old_place (is_of_another trip) stops i) (old_place (is_of_another trip) stops j) first second
      (old_place-rises (is_of_another trip) stops i j lt)
      (slice_get-filter (is_of_another trip) stops i first ei).0
      (slice_get-filter (is_of_another trip) stops j second ej).0 same;
  complete = λ i stop e.
      let (at, stays) = slice_get-filter (is_of_another trip) stops i stop e in
      let (k, partner, there, passes) = list_any_to (is_partner stop) stops (paired.complete _ stop at) in
      let also : is_of_another trip partner ≡ true =
      ap (λ (t : ℕ). not (t == trip)) (sym (partner_trip stop partner passes)) ∙ stays in
      let (l, kept) = filter_keeps (is_of_another trip) stops k partner there also in
      list_any_from (is_partner stop) (without_trip trip stops) l partner kept passes;
}
