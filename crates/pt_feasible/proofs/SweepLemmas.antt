-- Raising bounds by the limits of a timeline.
use Rattle.std.proofs.Common.{◌≡◌, ◌≢◌, ℕ, ◌+◌, ◌<◌, ◌≤◌, List, length, slice_index, slice_index_or, slice_set, length-set, arith, refl, sym, subst, ◌∙◌, inl, inr}
use Rattle.std.proofs.lemmas.Bool.{cases_lt}
use Rattle.std.proofs.lemmas.Grind.{elements}
use Rattle.pt_feasible.specs.declared.limits.Limits.{Limits}
use Rattle.pt_feasible.specs.declared.sweep.Pass.{Pass}
use Rattle.pt_feasible.specs.declared.sweep.Pass.TheVariants.{Stayed, Raised, Broken}
use Rattle.pt_feasible.specs.Limits.{KeepsAll, AreInWindows}
use Rattle.pt_feasible.specs.Sweep.{Raises, IsWalkedTo}
use Rattle.pt_feasible.specs.ServiceTimes.{IsNeverLater}
use Rattle.pt_feasible.proofs.BoundLemmas.{below-raised, above-raised, sum-raised, sum-never_later}

-- no bound is raised
pub stays : (limits : List Limits) (bounds : List ℕ) → Raises limits bounds bounds Stayed
stays limits bounds = record {
  count = refl;
  rises = λ k. omega arith;
  below = λ b from keeps. from;
  in_windows = λ inside. inside;
  stayed = λ _. refl;
  raised = λ is. cc;
  broken = λ is. cc;
}

-- a bound that is raised within its window stays there
in_window-raised : (limits : List Limits) (bounds : List ℕ) (place needed : ℕ) → place < length bounds →
    ((d : Limits) → needed ≤ (slice_index_or limits place d).latest) → AreInWindows limits bounds → AreInWindows limits (slice_set bounds place needed)
in_window-raised limits bounds place needed inside early windows k d within =
    let before : slice_index bounds k ≤ (slice_index_or limits k d).latest = windows k d within in
    elim (cases_lt k place) [
      | inl other ↦ grind (arith, elements)
      | inr from ↦ elim (cases_lt place k) [
        | inl other ↦ grind (arith, elements)
        | inr to ↦
            let here : place ≡ k = omega arith in
            let at : needed ≤ (slice_index_or limits k d).latest = subst (λ (n : ℕ). needed ≤ (slice_index_or limits n d).latest) here (early d) in
            grind (arith, elements)
      ]
    ]

-- one bound is raised to what all times that keep the limits have there at least
pub raised_to : (limits : List Limits) (bounds : List ℕ) (place needed : ℕ) → place < length bounds → slice_index bounds place < needed →
    ((d : Limits) → needed ≤ (slice_index_or limits place d).latest) →
    ((b : List ℕ) → IsNeverLater bounds b → KeepsAll limits b → needed ≤ slice_index b place) → Raises limits bounds (slice_set bounds place needed) Raised
raised_to limits bounds place needed inside less early asked = record {
  count = length-set bounds place needed;
  rises = λ k. above-raised bounds place needed k inside (omega arith);
  below = λ b from keeps k. below-raised bounds b place needed k inside (from k) (asked b from keeps);
  in_windows = in_window-raised limits bounds place needed inside early;
  stayed = λ is. cc;
  raised = λ _. sum-raised bounds place needed inside less;
  broken = λ is. cc;
}

-- one raising after another
pub then-stayed : (limits : List Limits) (old mid new : List ℕ) (done : Pass) → Raises limits old mid done → Raises limits mid new Stayed → Raises limits old new done
then-stayed limits old mid new done first second = subst (λ (xs : List ℕ). Raises limits old xs done) (sym (second.stayed refl)) first

pub then-raised : (limits : List Limits) (old mid new : List ℕ) (done : Pass) → Raises limits old mid done → Raises limits mid new Raised → Raises limits old new Raised
then-raised limits old mid new done first second = record {
  count = second.count ∙ first.count;
  rises = λ k. omega (arith, first.rises k, second.rises k);
  below = λ b from keeps. second.below b (first.below b from keeps) keeps;
  in_windows = λ inside. second.in_windows (first.in_windows inside);
  stayed = λ is. cc;
  raised = λ _. omega (arith, sum-never_later old mid (sym first.count) first.rises, second.raised refl);
  broken = λ is. cc;
}

pub then-broken : (limits : List Limits) (old mid new : List ℕ) (done : Pass) → Raises limits old mid done → Raises limits mid new Broken → Raises limits old new Broken
then-broken limits old mid new done first second = record {
  count = second.count ∙ first.count;
  rises = λ k. omega (arith, first.rises k, second.rises k);
  below = λ b from keeps. second.below b (first.below b from keeps) keeps;
  in_windows = λ inside. second.in_windows (first.in_windows inside);
  stayed = λ is. cc;
  raised = λ is. cc;
  broken = λ _ b from keeps. second.broken refl b (first.below b from keeps) keeps;
}

pub then-changed : (limits : List Limits) (old mid new : List ℕ) (done next : Pass) → Raises limits old mid done → Raises limits mid new next → next ≢ Stayed → Raises limits old new next
then-changed limits old mid new done Stayed first second changed = absurd (changed refl)
then-changed limits old mid new done Raised first second changed = then-raised limits old mid new done first second
then-changed limits old mid new done Broken first second changed = then-broken limits old mid new done first second

-- a walk by one visit more
pub walked-more : (limits : List Limits) (old mid new : List ℕ) (k : ℕ) → IsNeverLater old mid → IsNeverLater mid new → IsWalkedTo limits old mid k →
    ((d : Limits) → slice_index mid k ≤ slice_index new (slice_index_or limits k d).since.visit + (slice_index_or limits k d).since.most) →
    ((d : Limits) → k + 1 < length limits → slice_index mid k + (slice_index_or limits k d).step ≤ slice_index new (k + 1)) →
    IsWalkedTo limits old new (k + 1)
walked-more limits old mid new k rises rises' before ended driven i d below inside = elim (cases_lt i k) [
  | inl earlier ↦
      let (one, two) = before i d earlier inside in
      (omega (arith, rises' (slice_index_or limits i d).since.visit, one), λ next. omega (arith, rises' (i + 1), two next))
  | inr from ↦
      let here : k ≡ i = omega arith in
      subst (λ (n : ℕ). (slice_index old n ≤ slice_index new (slice_index_or limits n d).since.visit + (slice_index_or limits n d).since.most)
      × (n + 1 < length limits → slice_index old n + (slice_index_or limits n d).step ≤ slice_index new (n + 1))) here
      (omega (arith, rises k, ended d), λ next. omega (arith, rises k, driven d next))
]
