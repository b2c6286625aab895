-- How many passes raise a bound where some times keep the limits: each one makes the bound of one visit more final.
use Rattle.std.proofs.Common.{◌≡◌, ℕ, zero, suc, ◌+◌, ◌-◌, ◌<◌, ◌≤◌, max, List, [], ◌∷◌, length, sum, slice_index, slice_index_or, arith, refl, inl, inr}
use Rattle.std.proofs.lemmas.Bool.{cases_lt}
use Rattle.std.proofs.lemmas.List.Sums.{sum_by-cons}
use Rattle.pt_feasible.specs.declared.limits.Limits.{Limits}
use Rattle.pt_feasible.specs.Limits.{IsKept, KeepsAll}
use Rattle.pt_feasible.specs.Sweep.{IsWalkedTo}
use Rattle.pt_feasible.specs.ServiceTimes.{IsNeverLater}
use Rattle.pt_feasible.proofs.BoundLemmas.{sum-never_later}

-- how many of the bounds are as late as these times
abbrev pub count_final : List ℕ → List ℕ → ℕ
count_final [] b = 0
count_final (bound ∷ bounds) [] = 0
count_final (bound ∷ bounds) (time ∷ b) = (1 - (time - bound)) + count_final bounds b

-- the times one minute earlier, where that is not before the bounds
abbrev pub lowered : List ℕ → List ℕ → List ℕ
lowered [] b = []
lowered (bound ∷ bounds) [] = []
lowered (bound ∷ bounds) (time ∷ b) = max bound (time - 1) ∷ lowered bounds b

pub length-lowered : (bounds b : List ℕ) → length bounds ≡ length b → length (lowered bounds b) ≡ length b
length-lowered [] [] same = refl
length-lowered [] (time ∷ b) same = absurd (omega arith)
length-lowered (bound ∷ bounds) [] same = absurd (omega arith)
length-lowered (bound ∷ bounds) (time ∷ b) same = omega (arith, length-lowered bounds b (omega arith))

pub index-lowered : (bounds b : List ℕ) (k : ℕ) → length bounds ≡ length b → slice_index (lowered bounds b) k ≡ max (slice_index bounds k) (slice_index b k - 1)
index-lowered [] [] k same = omega arith
index-lowered [] (time ∷ b) k same = absurd (omega arith)
index-lowered (bound ∷ bounds) [] k same = absurd (omega arith)
index-lowered (bound ∷ bounds) (time ∷ b) zero same = refl
index-lowered (bound ∷ bounds) (time ∷ b) (suc k) same = index-lowered bounds b k (omega arith)

sum-lowered-le : (bounds b : List ℕ) → length bounds ≡ length b → IsNeverLater bounds b → sum (lowered bounds b) ≤ sum b
sum-lowered-le [] [] same below = omega arith
sum-lowered-le [] (time ∷ b) same below = absurd (omega arith)
sum-lowered-le (bound ∷ bounds) [] same below = absurd (omega arith)
sum-lowered-le (bound ∷ bounds) (time ∷ b) same below =
    omega (
      arith,
      below 0,
      sum_by-cons (λ n. n) (max bound (time - 1)) (lowered bounds b),
      sum_by-cons (λ n. n) time b,
      sum-lowered-le bounds b (omega arith) (λ k. below (suc k)),
    )

-- where some bound is not as late, lowering takes minutes away
pub sum-lowered : (bounds b : List ℕ) → length bounds ≡ length b → IsNeverLater bounds b → sum bounds < sum b → sum (lowered bounds b) < sum b
sum-lowered [] [] same below less = absurd (omega arith)
sum-lowered [] (time ∷ b) same below less = absurd (omega arith)
sum-lowered (bound ∷ bounds) [] same below less = absurd (omega arith)
sum-lowered (bound ∷ bounds) (time ∷ b) same below less =
    let heads = sum_by-cons (λ n. n) bound bounds in
    let times = sum_by-cons (λ n. n) time b in
    let lower = sum_by-cons (λ n. n) (max bound (time - 1)) (lowered bounds b) in
    let rest = sum-lowered-le bounds b (omega arith) (λ k. below (suc k)) in
    elim (cases_lt bound time) [
      | inl early ↦ omega (arith, times, lower, rest)
      | inr final ↦
          let more : sum bounds < sum b = omega (arith, below 0, heads, times, less) in
          omega (arith, below 0, times, lower, sum-lowered bounds b (omega arith) (λ k. below (suc k)) more)
    ]

pub count_final-le : (bounds b : List ℕ) → count_final bounds b ≤ length bounds
count_final-le [] b = omega arith
count_final-le (bound ∷ bounds) [] = omega arith
count_final-le (bound ∷ bounds) (time ∷ b) = omega (arith, count_final-le bounds b)

-- bounds that rise stay final
count_final-rises : (old new b : List ℕ) → length old ≡ length new → IsNeverLater old new → count_final old b ≤ count_final new b
count_final-rises [] [] b same rises = omega arith
count_final-rises [] (y ∷ new) b same rises = omega arith
count_final-rises (x ∷ old) [] b same rises = absurd (omega arith)
count_final-rises (x ∷ old) (y ∷ new) [] same rises = omega arith
count_final-rises (x ∷ old) (y ∷ new) (time ∷ b) same rises =
    omega (arith, rises 0, count_final-rises old new b (omega arith) (λ k. rises (suc k)))

-- if the number of final bounds has not grown, none has become final
pub none_more_final : (old new b : List ℕ) → length old ≡ length new → length new ≡ length b → IsNeverLater old new → count_final new b ≤ count_final old b →
    (k : ℕ) → slice_index old k < slice_index b k → slice_index new k < slice_index b k
none_more_final [] [] [] same same' rises few k early = absurd (omega arith)
none_more_final [] [] (time ∷ b) same same' rises few k early = absurd (omega arith)
none_more_final [] (y ∷ new) b same same' rises few k early = absurd (omega arith)
none_more_final (x ∷ old) [] b same same' rises few k early = absurd (omega arith)
none_more_final (x ∷ old) (y ∷ new) [] same same' rises few k early = absurd (omega arith)
none_more_final (x ∷ old) (y ∷ new) (time ∷ b) same same' rises few zero early =
    omega (arith, rises 0, early, few, count_final-rises old new b (omega arith) (λ k. rises (suc k)))
none_more_final (x ∷ old) (y ∷ new) (time ∷ b) same same' rises few (suc k) early =
    none_more_final old new b (omega arith) (omega arith) (λ k. rises (suc k)) (omega (arith, rises 0, few)) k early

-- no other times that keep the limits from the bounds on take fewer minutes together
abbrev pub IsLowest : List Limits → List ℕ → List ℕ → Type 0
IsLowest limits start b = (other : List ℕ) → length other ≡ length b → IsNeverLater start other → KeepsAll limits other → sum other < sum b → ⊥

-- what the lowest times do not keep, no times keep
none-from-lowest-below : (limits : List Limits) (start : List ℕ) →
    ((b : List ℕ) → length b ≡ length start → IsNeverLater start b → KeepsAll limits b → IsLowest limits start b → ⊥) →
    (most : ℕ) (b : List ℕ) → sum b < most → length b ≡ length start → IsNeverLater start b → KeepsAll limits b → ⊥
none-from-lowest-below limits start none zero b less same from keeps = omega arith
none-from-lowest-below limits start none (suc most) b less same from keeps =
    none b same from keeps (λ other same' from' keeps' fewer.
    none-from-lowest-below limits start none most other (omega arith) (omega arith) from' keeps')

pub none-from-lowest : (limits : List Limits) (start : List ℕ) →
    ((b : List ℕ) → length b ≡ length start → IsNeverLater start b → KeepsAll limits b → IsLowest limits start b → ⊥) →
    (b : List ℕ) → length b ≡ length start → IsNeverLater start b → ¬ KeepsAll limits b
none-from-lowest limits start none b same from keeps = none-from-lowest-below limits start none (suc (sum b)) b (omega arith) same from keeps

-- where a walk makes no bound final, the times can be lowered
lowered-keeps : (limits : List Limits) (old new b : List ℕ) → length old ≡ length b → length limits ≡ length b → IsNeverLater old b → KeepsAll limits b →
    IsWalkedTo limits old new (length limits) → ((k : ℕ) → slice_index old k < slice_index b k → slice_index new k < slice_index b k) →
    KeepsAll limits (lowered old b)
lowered-keeps limits old new b same count from keeps walked none k d within =
    let since = (slice_index_or limits k d).since.visit in
    let here = index-lowered old b k same in
    let next = index-lowered old b (k + 1) same in
    let back = index-lowered old b since same in
    let kept : IsKept (length limits) b k (slice_index_or limits k d) = keeps k d within in
    let (ended, driven) = walked k d within within in
    record {
      in_window = omega (arith, here, from k, kept.in_window);
      driven = λ more. elim (cases_lt (slice_index old (k + 1)) (slice_index b (k + 1))) [
        | inl early ↦ omega (arith, here, next, kept.driven more, driven more, none (k + 1) early, from k)
        | inr final ↦ omega (arith, here, next, kept.driven more, from k)
      ];
      ended = elim (cases_lt (slice_index old since) (slice_index b since)) [
        | inl early ↦ omega (arith, here, back, kept.ended, ended, none since early, from k)
        | inr final ↦ omega (arith, here, back, kept.ended, from k)
      ];
    }

-- a pass that raises a bound makes one visit more final
pub one_more_final : (limits : List Limits) (start old new b : List ℕ) → length old ≡ length b → length new ≡ length b → length limits ≡ length b →
    IsNeverLater start old → IsNeverLater old new → IsNeverLater new b → KeepsAll limits b → IsLowest limits start b →
    IsWalkedTo limits old new (length limits) → sum old < sum new → count_final old b + 1 ≤ count_final new b
one_more_final limits start old new b same same' count from rises below keeps lowest walked more =
    elim (cases_lt (count_final old b) (count_final new b)) [
      | inl grows ↦ omega arith
      | inr stuck ↦
          let below_old : IsNeverLater old b = (λ k. omega (arith, rises k, below k)) in
          let none = none_more_final old new b (omega arith) same' rises stuck in
          absurd (lowest (lowered old b) (length-lowered old b same)
          (λ k. omega (arith, from k, index-lowered old b k same))
          (lowered-keeps limits old new b same count below_old keeps walked none)
          (sum-lowered old b same below_old (omega (arith, sum-never_later new b same' below))))
    ]
