-- How many riders there are after a change that puts at most one.
use Rattle.std.proofs.Common.{◌≡◌, ℕ, ◌+◌, ◌<◌, ◌≤◌, ◌^◌, min, List, [], ◌∷◌, length, Some, None, sym, ap, ◌∙◌, arith}
use Rattle.std.specs.List.{slice_get}
use Rattle.pt_base_values.specs.declared.rider.Rider.{Rider}
use Rattle.pt_desk_rules.specs.Parts as part
use Rattle.pt_desk_rules.specs.State.{State, applied, rider_key, rider_of}
use Rattle.pt_desk_rules.specs.declared.change.Change.{Change}
use Rattle.pt_base_records.proofs.OrderLemmas.{Each-weaker, length-below, length-put_new, length-put_there}
use Rattle.pt_base_records.proofs.TableLemmas.{found_is_some}
use Rattle.pt_base_records.specs.Records.{Each, Edit, edited, put, record_at}
use Rattle.pt_tables_rows.specs.Tables.{IsWellFormed}
use Rattle.pt_desk_rules.specs.Ranges.{FitsRider}

each_any : {A : Type 0} (key : A → ℕ) (xs : List A) → Each (λ x. 0 ≤ key x) xs
each_any key [] = tt
each_any key (x ∷ xs) = (omega arith, each_any key xs)

pub few_riders : (content : State) → IsWellFormed content → length content.riders ≤ 2 ^ 32
few_riders content readable =
    length-below rider_key 0 (2 ^ 32) content.riders (readable.order part.riders) (each_any rider_key content.riders)
    (Each-weaker FitsRider (λ r. rider_key r < 2 ^ 32) (λ r fits. fits.1) content.riders (readable.ranges.parts part.riders))

-- ---- a change

pub only_one : {A : Type 0} (xs : List A) (x : A) → length xs ≤ 1 → Some x ≡ slice_get xs 0 → xs ≡ x ∷ []
only_one [] x few first = absurd (cc)
only_one (y ∷ []) x few first = cc
only_one (y ∷ z ∷ zs) x few first = absurd (omega arith)

edited_is : {A : Type 0} (key : A → ℕ) (edit : Edit A) (puts xs : List A) → edit.away ≡ [] → edit.puts ≡ puts → edited key edit xs ≡ edited key (record { away = []; puts = puts }) xs
edited_is key edit puts xs away are = cc

module _ (change : Change) (s : State) (new : Rider) (readable : IsWellFormed s) (away : change.riders.away ≡ []) (puts : change.riders.puts ≡ new ∷ []) where
  one_put : length (applied change s).riders ≡ length (put rider_key new s.riders)
  one_put = ap length (edited_is rider_key change.riders (new ∷ []) s.riders away puts)

  -- it puts one that is there
  pub riders_still : (there : Rider) → Some there ≡ rider_of new.id s → length s.riders ≡ length (applied change s).riders
  riders_still there found =
      sym (one_put ∙ length-put_there rider_key new s.riders (readable.order part.riders) (found_is_some (record_at rider_key new.id s.riders) there (sym found)))

  -- it puts one that is not there
  pub riders_one_more : None ≡ rider_of new.id s → min (length s.riders + 1) 18446744073709551615 ≡ length (applied change s).riders
  riders_one_more found =
      let more = length-put_new rider_key new s.riders (sym found) in
      let few = few_riders s readable in
      let put_is = one_put in
      omega arith
