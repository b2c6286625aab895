-- A timeline by one visit more.
use Rattle.std.proofs.Common.{◌≡◌, ℕ, zero, suc, ◌+◌, ◌<◌, ◌≤◌, ◌↔◌, List, [], ◌∷◌, ◌++◌, length, Option, Some, get_or, slice_get, slice_index, slice_index_or, arith, sym, subst, ◌∙◌, inl, inr}
use Rattle.std.proofs.lemmas.Bool.{cases_lt}
use Rattle.std.proofs.lemmas.List.{get_or_append_left, get_or_push}
use Rattle.std.proofs.lemmas.Option.{same_Some}
use Rattle.pt_base_values.specs.declared.vehicle.Vehicle.{Vehicle}
use Rattle.pt_feasible.specs.declared.limits.Limits.{Limits}
use Rattle.pt_feasible.specs.declared.limits.Since.{Since}
use Rattle.pt_feasible.specs.declared.stop.Stop.{Stop}
use Rattle.pt_feasible.specs.declared.visit.Visit.{Visit}
use Rattle.pt_feasible.specs.Limits.{HasTimeToDrive, EndsInTime, StandFor}
use Rattle.pt_feasible.specs.ServiceTimes.{IsNeverLater}
use Rattle.pt_feasible.specs.Visit.{visits}

-- a list that is nowhere later than another, with one time more
pub never_later-push : (xs b : List ℕ) (x : ℕ) → IsNeverLater xs b → x ≤ slice_index b (length xs) → IsNeverLater (xs ++ x ∷ []) b
never_later-push [] b x below last zero = last
never_later-push [] b x below last (suc k) = omega arith
never_later-push (y ∷ xs) [] x below last zero = below 0
never_later-push (y ∷ xs) [] x below last (suc k) = never_later-push xs [] x (λ i. below (suc i)) last k
never_later-push (y ∷ xs) (time ∷ b) x below last zero = below 0
never_later-push (y ∷ xs) (time ∷ b) x below last (suc k) = never_later-push xs b x (λ i. below (suc i)) last k

-- what holds at each place of a list and of one element more
pub each-push : {A : Type 0} (P : ℕ → A → Type 0) (xs : List A) (x d : A) (k : ℕ) → length xs ≡ k → ((i : ℕ) → i < k → P i (get_or xs i d)) → P k x →
    (i : ℕ) → i < k + 1 → P i (get_or (xs ++ x ∷ []) i d)
each-push P xs x d k count each last i below = elim (cases_lt i k) [
  | inl before ↦ subst (P i) (sym (get_or_append_left xs (x ∷ []) d i (omega arith))) (each i before)
  | inr from ↦
      let here : k ≡ i = omega arith in
      subst (P i) (sym (get_or_push xs x d i (omega arith))) (subst (λ (n : ℕ). P n x) here last)
]

-- bounds within the windows of as many limits, and one more of both
pub in_windows-push : (earliest : List ℕ) (limits : List Limits) (bound : ℕ) (last : Limits) (k : ℕ) → length earliest ≡ k → length limits ≡ k →
    ((i : ℕ) (d : Limits) → i < k → slice_index earliest i ≤ (slice_index_or limits i d).latest) → bound ≤ last.latest →
    (i : ℕ) (d : Limits) → i < k + 1 → slice_index (earliest ++ bound ∷ []) i ≤ (slice_index_or (limits ++ last ∷ []) i d).latest
in_windows-push earliest limits bound last k count count' each early i d below =
    each-push (λ (n : ℕ) (time : ℕ). time ≤ (slice_index_or (limits ++ last ∷ []) n d).latest) earliest bound 0 k count
    (λ n before. subst (λ (l : Limits). slice_index earliest n ≤ l.latest) (sym (get_or_append_left limits (last ∷ []) d n (omega arith))) (each n d before))
    (subst (λ (l : Limits). bound ≤ l.latest) (sym (get_or_push limits last d k count')) early) i below

-- the parts of a visit's limits are equivalent to what fitting times keep there
pub stand_for : (minutes : ℕ → ℕ → Option ℕ) (vehicle : Vehicle) (stops : List Stop) (k : ℕ) (visit : Visit) (step : ℕ) (since : Since) →
    slice_get (visits vehicle stops) k ≡ Some visit → since.visit ≤ k →
    ((b : List ℕ) → HasTimeToDrive minutes (visits vehicle stops) b k ↔ (k + 1 < length stops + 2 → slice_index b k + step ≤ slice_index b (k + 1))) →
    ((b : List ℕ) → (slice_index b k ≤ slice_index b since.visit + since.most) ↔ EndsInTime vehicle stops b k) →
    StandFor minutes vehicle stops k (record { latest = visit.hi; step = step; since = since })
stand_for minutes vehicle stops k visit step since here before drives ends = record {
  before = before;
  kept = λ b. (
    λ kept. record {
      in_window = λ other there. subst (λ (v : Visit). slice_index b k ≤ v.hi) (same_Some visit other (sym here ∙ there)) kept.in_window;
      driven = (drives b).1 kept.driven;
      ended = (ends b).0 kept.ended;
    },
    λ fits. record {
      in_window = fits.in_window visit here;
      driven = (drives b).0 fits.driven;
      ended = (ends b).1 fits.ended;
    },
  );
}
