-- Records in order of key, before a key and from it on.
use Rattle.std.proofs.Common.{◌≡◌, inl, inr, ℕ, ◌<◌, ◌≤◌, Bool, true, false, not, List, [], ◌∷◌, ◌++◌, length, take}
use Rattle.std.proofs.Common.{drop, zero, suc, Some, None, Result, Ok, Err, MatchResult, arith, refl, sym, ap, ◌∙◌}
use Rattle.std.proofs.Common.{subst, slice_index_or}
use Rattle.std.specs.Prelude.{cond, nat_lt, filter, insert, slice_set}
use Rattle.std.specs.List.{AllWithin}
use Rattle.std.specs.List.Sorted.{IsPartitionedBy}
use Rattle.std.proofs.lemmas.Bool.Decides.{nat_tests}
use Rattle.std.proofs.lemmas.List.{take-append-drop, append-nil}
use Rattle.std.proofs.lemmas.List.Elements.{filter-append}
use Rattle.pt_base_records.specs.Records.{put, record_at, within, is_within, Each, IsInOrder}
use Rattle.pt_base_records.specs.declared.span.Span.{Span}
use Rattle.pt_base_records.proofs.OrderLemmas.{compared, Each-weaker, Each-both, record_at-past, record_at-here, record_at-above}
use Rattle.pt_base_records.proofs.RecordLemmas.{put_past, put_before, put_at}

-- what holds of each holds of any one
pub Each-at : {A : Type 0} (P : A → Type 0) (xs : List A) → Each P xs → (k : ℕ) (d : A) → k < length xs → P (slice_index_or xs k d)
Each-at P [] each k d lt = absurd (omega arith)
Each-at P (x ∷ xs) each zero d lt = each.0
Each-at P (x ∷ xs) each (suc k) d lt = Each-at P xs each.1 k d (omega arith)

-- a record's key comes before the key of each later record
pub later_key : {A : Type 0} (key : A → ℕ) (xs : List A) → IsInOrder key xs → (i j : ℕ) (d : A) → i < j → j < length xs → key (slice_index_or xs i d) < key (slice_index_or xs j d)
later_key key [] order i j d lt bound = absurd (omega arith)
later_key key (x ∷ xs) order i zero d lt bound = absurd (omega arith)
later_key key (x ∷ xs) order zero (suc j) d lt bound = Each-at (λ y. key x < key y) xs order.0 j d (omega arith)
later_key key (x ∷ xs) order (suc i) (suc j) d lt bound = later_key key xs order.1 i j d (omega arith) (omega arith)

-- the tests by which a key parts the records
pub is_below : (a k : ℕ) → nat_lt a k ≡ true → a < k
is_below a k is = grind (arith, nat_tests)

pub is_from : (a k : ℕ) → nat_lt a k ≡ false → k ≤ a
is_from a k is = grind (arith, nat_tests)

pub is_up_to : (a k : ℕ) → not (nat_lt k a) ≡ true → a ≤ k
is_up_to a k is = grind (arith, nat_tests)

pub is_above : (a k : ℕ) → not (nat_lt k a) ≡ false → k < a
is_above a k is = grind (arith, nat_tests)

below_test : (a b k : ℕ) → a ≤ b → nat_lt b k ≡ true → nat_lt a k ≡ true
below_test a b k le is = grind (arith, nat_tests)

up_to_test : (a b k : ℕ) → a ≤ b → not (nat_lt k b) ≡ true → not (nat_lt k a) ≡ true
up_to_test a b k le is = grind (arith, nat_tests)

no_later_key : {A : Type 0} (key : A → ℕ) (xs : List A) → IsInOrder key xs → (i j : ℕ) (d : A) → i ≤ j → j < length xs → key (slice_index_or xs i d) ≤ key (slice_index_or xs j d)
no_later_key key xs order i j d le bound = elim (compared i j) [
  | inl lt ↦ let later = later_key key xs order i j d lt bound in omega arith
  | inr (inl same) ↦ subst (λ n. key (slice_index_or xs i d) ≤ key (slice_index_or xs n d)) same (omega arith)
  | inr (inr gt) ↦ absurd (omega arith)
]

pub parted_before : {A : Type 0} (key : A → ℕ) (k : ℕ) (xs : List A) → IsInOrder key xs → IsPartitionedBy (λ x. nat_lt (key x) k) xs
parted_before key k xs order i j d le bound is = below_test _ _ k (no_later_key key xs order i j d le bound) is

pub parted_up_to : {A : Type 0} (key : A → ℕ) (k : ℕ) (xs : List A) → IsInOrder key xs → IsPartitionedBy (λ x. not (nat_lt k (key x))) xs
parted_up_to key k xs order i j d le bound is = up_to_test _ _ k (no_later_key key xs order i j d le bound) is

-- what holds within a range holds of each of its part of the list
pub Each-take : {A : Type 0} (P : A → Type 0) (xs : List A) (n : ℕ) → AllWithin P xs 0 n → n ≤ length xs → Each P (take n xs)
Each-take P xs zero all bound = tt
Each-take P [] (suc n) all bound = tt
Each-take P (x ∷ xs) (suc n) all bound = (all 0 x (omega arith) (omega arith), Each-take P xs n (λ k d low lt. all (suc k) d (omega arith) (omega arith)) (omega arith))

pub Each-drop : {A : Type 0} (P : A → Type 0) (xs : List A) (n : ℕ) → AllWithin P xs n (length xs) → Each P (drop n xs)
Each-drop P [] zero all = tt
Each-drop P [] (suc n) all = tt
Each-drop P (x ∷ xs) zero all = (all 0 x (omega arith) (omega arith), Each-drop P xs 0 (λ k d low lt. all (suc k) d (omega arith) (omega arith)))
Each-drop P (x ∷ xs) (suc n) all = Each-drop P xs n (λ k d low lt. all (suc k) d (omega arith) (omega arith))

Each-taken : {A : Type 0} (P : A → Type 0) (xs : List A) (n : ℕ) → Each P xs → Each P (take n xs)
Each-taken P xs zero each = tt
Each-taken P [] (suc n) each = tt
Each-taken P (x ∷ xs) (suc n) each = (each.0, Each-taken P xs n each.1)

-- nothing is left past the end
pub none_left : {A : Type 0} (P : A → Type 0) (xs : List A) (n : ℕ) → length xs ≤ n → Each P (drop n xs)
none_left P [] zero past = tt
none_left P [] (suc n) past = tt
none_left P (x ∷ xs) zero past = absurd (omega arith)
none_left P (x ∷ xs) (suc n) past = none_left P xs n (omega arith)

-- the order of the later part
pub IsInOrder-drop : {A : Type 0} (key : A → ℕ) (xs : List A) (n : ℕ) → IsInOrder key xs → IsInOrder key (drop n xs)
IsInOrder-drop key xs zero order = order
IsInOrder-drop key [] (suc n) order = tt
IsInOrder-drop key (x ∷ xs) (suc n) order = IsInOrder-drop key xs n order.1

-- a record that is put after records that come before it
put_after : {A : Type 0} (key : A → ℕ) (new : A) (xs ys : List A) → Each (λ x. key x < key new) xs → put key new (xs ++ ys) ≡ xs ++ put key new ys
put_after key new [] ys before = refl
put_after key new (x ∷ xs) ys before = put_past key new x (xs ++ ys) before.0 ∙ ap (λ zs. x ∷ zs) (put_after key new xs ys before.1)

pub put-split : {A : Type 0} (key : A → ℕ) (new : A) (xs : List A) (n : ℕ) → Each (λ x. key x < key new) (take n xs) → take n xs ++ put key new (drop n xs) ≡ put key new xs
put-split key new xs n before = sym (put_after key new (take n xs) (drop n xs) before) ∙ ap (put key new) (take-append-drop n xs)

-- a record that is put before records that all come after it
pub put_first : {A : Type 0} (key : A → ℕ) (new : A) (ys : List A) → Each (λ y. key new < key y) ys → put key new ys ≡ new ∷ ys
put_first key new [] after = refl
put_first key new (y ∷ ys) after = put_before key new y ys after.0

pub insert-split : {A : Type 0} (key : A → ℕ) (new : A) (xs : List A) (n : ℕ) → Each (λ x. key x < key new) (take n xs) → Each (λ y. key new < key y) (drop n xs)
    → insert xs n new ≡ put key new xs
insert-split key new xs n before after = ap (λ ys. take n xs ++ ys) (sym (put_first key new (drop n xs) after)) ∙ put-split key new xs n before

record_at-after : {A : Type 0} (key : A → ℕ) (k : ℕ) (xs ys : List A) → Each (λ x. key x < k) xs → record_at key k (xs ++ ys) ≡ record_at key k ys
record_at-after key k [] ys before = refl
record_at-after key k (x ∷ xs) ys before = record_at-past key k x (xs ++ ys) (λ same. absurd (let lt = before.0 in omega arith)) ∙ record_at-after key k xs ys before.1

-- a search for a key may leave out records before it
pub record_at-split : {A : Type 0} (key : A → ℕ) (k : ℕ) (xs : List A) (n : ℕ) → Each (λ x. key x < k) (take n xs) → record_at key k xs ≡ record_at key k (drop n xs)
record_at-split key k xs n before = ap (record_at key k) (sym (take-append-drop n xs)) ∙ record_at-after key k (take n xs) (drop n xs) before

filter_none : {A : Type 0} (p : A → Bool) (xs : List A) → Each (λ x. p x ≡ false) xs → filter p xs ≡ []
filter_none p [] none = refl
filter_none p (x ∷ xs) none = ap (λ b. cond b (x ∷ filter p xs) (filter p xs)) none.0 ∙ filter_none p xs none.1

filter_each : {A : Type 0} (p : A → Bool) (xs : List A) → Each (λ x. p x ≡ true) xs → filter p xs ≡ xs
filter_each p [] each = refl
filter_each p (x ∷ xs) each = ap (λ b. cond b (x ∷ filter p xs) (filter p xs)) each.0 ∙ ap (λ ys. x ∷ ys) (filter_each p xs each.1)

within-append : {A : Type 0} (key : A → ℕ) (span : Span) (xs ys : List A) → within key span (xs ++ ys) ≡ within key span xs ++ within key span ys
within-append key span xs ys = filter-append (λ x. is_within (key x) span) xs ys

before_span : (k from to : ℕ) → k < from → is_within k (record { from = from; to = to }) ≡ false
before_span k from to lt = grind (arith, nat_tests)

after_span : (k from to : ℕ) → to < k → is_within k (record { from = from; to = to }) ≡ false
after_span k from to lt = grind (arith, nat_tests)

in_span : (k from to : ℕ) → from ≤ k → k ≤ to → is_within k (record { from = from; to = to }) ≡ true
in_span k from to low high = grind (arith, nat_tests)

-- the records of a span are next to each other
pub within-split : {A : Type 0} (key : A → ℕ) (span : Span) (xs : List A) (n m : ℕ) → Each (λ x. key x < span.from) (take n xs) → Each (λ x. span.from ≤ key x) (drop n xs)
    → Each (λ x. key x ≤ span.to) (take m (drop n xs)) → Each (λ x. span.to < key x) (drop m (drop n xs)) → take m (drop n xs) ≡ within key span xs
within-split key span xs n m before from up_to after =
    let rest = drop n xs in
    let start : within key span (take n xs) ≡ [] =
    filter_none (λ x. is_within (key x) span) (take n xs)
    (Each-weaker (λ x. key x < span.from) (λ x. is_within (key x) span ≡ false)
    (λ x lt. before_span (key x) span.from span.to lt) (take n xs) before) in
    let end : within key span (drop m rest) ≡ [] =
    filter_none (λ x. is_within (key x) span) (drop m rest)
    (Each-weaker (λ x. span.to < key x) (λ x. is_within (key x) span ≡ false)
    (λ x lt. after_span (key x) span.from span.to lt) (drop m rest) after) in
    let middle : within key span (take m rest) ≡ take m rest =
    filter_each (λ x. is_within (key x) span) (take m rest)
    (Each-both (λ x. span.from ≤ key x) (λ x. key x ≤ span.to) (λ x. is_within (key x) span ≡ true)
    (λ x low high. in_span (key x) span.from span.to low high) (take m rest)
    (Each-taken (λ x. span.from ≤ key x) rest m from) up_to) in
    sym (ap (within key span) (sym (take-append-drop n xs)) ∙ within-append key span (take n xs) rest ∙ ap (λ ys. ys ++ within key span rest) start
    ∙ ap (within key span) (sym (take-append-drop m rest)) ∙ within-append key span (take m rest) (drop m rest) ∙ ap (λ ys. within key span (take m rest) ++ ys) end
    ∙ append-nil (within key span (take m rest)) ∙ middle)

-- the record at this position is the first from there on
rest_at : {A : Type 0} (xs : List A) (n : ℕ) (d : A) → n < length xs → drop n xs ≡ slice_index_or xs n d ∷ drop (suc n) xs
rest_at [] n d lt = absurd (omega arith)
rest_at (x ∷ xs) zero d lt = refl
rest_at (x ∷ xs) (suc n) d lt = rest_at xs n d (omega arith)

-- all records from one with a later key on have later keys
pub above_here : {A : Type 0} (key : A → ℕ) (k : ℕ) (xs : List A) (n : ℕ) (x : A) → n < length xs → slice_index_or xs n x ≡ x → IsInOrder key xs → k < key x → Each (λ y. k < key y) (drop n xs)
above_here key k xs n x lt is order later =
    let here : drop n xs ≡ x ∷ drop (suc n) xs = rest_at xs n x lt ∙ ap (λ y. y ∷ drop (suc n) xs) is in
    let rest = subst (IsInOrder key) here (IsInOrder-drop key xs n order) in
    subst (Each (λ y. k < key y)) (sym here) (later, Each-weaker (λ y. key x < key y) (λ y. k < key y) (λ y above. omega arith) (drop (suc n) xs) rest.0)

pub found_here : {A : Type 0} (key : A → ℕ) (k : ℕ) (xs : List A) (n : ℕ) (x : A) → n < length xs → slice_index_or xs n x ≡ x → Each (λ y. key y < k) (take n xs) → key (slice_index_or xs n x) ≡ k
    → record_at key k xs ≡ Some x
found_here key k xs n x lt is before same =
    record_at-split key k xs n before ∙ ap (record_at key k) (rest_at xs n x lt ∙ ap (λ y. y ∷ drop (suc n) xs) is)
    ∙ record_at-here key k x (drop (suc n) xs) (ap key (sym is) ∙ same)

pub found_nowhere : {A : Type 0} (key : A → ℕ) (k : ℕ) (xs : List A) (n : ℕ) → Each (λ y. key y < k) (take n xs) → Each (λ y. k < key y) (drop n xs) → record_at key k xs ≡ None
found_nowhere key k xs n before after = record_at-split key k xs n before ∙ record_at-above key k (drop n xs) after

set_here : {A : Type 0} (key : A → ℕ) (new : A) (xs : List A) (n : ℕ) → n < length xs → Each (λ y. key y < key new) (take n xs) → ((d : A) → key (slice_index_or xs n d) ≡ key new)
    → slice_set xs n new ≡ put key new xs
set_here key new xs n lt before same =
    let x = slice_index_or xs n new in
    put_at key new x xs n lt (get_or_same xs n new) (same new) ∙ put-split key new xs n before
  where
    get_or_same : {A : Type 0} (xs : List A) (n : ℕ) (d : A) → slice_index_or xs n (slice_index_or xs n d) ≡ slice_index_or xs n d
    get_or_same [] n d = refl
    get_or_same (x ∷ xs) zero d = refl
    get_or_same (x ∷ xs) (suc n) d = get_or_same xs n d

-- where a new record is put
placed : {A : Type 0} (key : A → ℕ) (new : A) (xs : List A) (found : Result ℕ ℕ) → MatchResult found (λ at. at < length xs) (λ at. at ≤ length xs)
    → MatchResult found (λ at. Each (λ y. key y < key new) (take at xs)) (λ at. Each (λ y. key y < key new) (take at xs))
    → MatchResult found (λ at. (d : A) → key (slice_index_or xs at d) ≡ key new) (λ at. Each (λ y. key new < key y) (drop at xs))
    → MatchResult found (λ at. (at < length xs) × (slice_set xs at new ≡ put key new xs)) (λ at. (at ≤ length xs) × (insert xs at new ≡ put key new xs))
placed key new xs (Ok at) bound before here = (bound, set_here key new xs at bound before here)
placed key new xs (Err at) bound before here = (bound, insert-split key new xs at before here)

pub placed_by : {A : Type 0} (key : A → ℕ) (new : A) (xs : List A) (k : ℕ) → k ≡ key new → (found : Result ℕ ℕ) → MatchResult found (λ at. at < length xs) (λ at. at ≤ length xs)
    → MatchResult found (λ at. Each (λ y. key y < k) (take at xs)) (λ at. Each (λ y. key y < k) (take at xs))
    → MatchResult found (λ at. (d : A) → key (slice_index_or xs at d) ≡ k) (λ at. Each (λ y. k < key y) (drop at xs))
    → MatchResult found (λ at. (at < length xs) × (slice_set xs at new ≡ put key new xs)) (λ at. (at ≤ length xs) × (insert xs at new ≡ put key new xs))
placed_by {A} key new xs k same found bound before here =
    placed key new xs found bound
    (subst (λ n. MatchResult found (λ at. Each (λ y. key y < n) (take at xs)) (λ at. Each (λ y. key y < n) (take at xs))) same before)
    (subst (λ n. MatchResult found (λ at. (d : A) → key (slice_index_or xs at d) ≡ n) (λ at. Each (λ y. n < key y) (drop at xs))) same here)
