-- The holder of a key after a request.
use Rattle.std.proofs.Common.{◌≡◌, ◌≢◌, ◌⊎◌, inl, inr, ◌∙◌, ℕ, ◌<◌, Bool, true, false, List, [], ◌∷◌, cond}
use Rattle.std.proofs.Common.{Some, None, arith, refl, sym, ap, subst}
use Rattle.std.specs.Prelude.{bytes_eq, find}
use Rattle.std.specs.Option.{option_map}
use Rattle.std.proofs.lemmas.Bool.Decides.{eqb_tells}
use Rattle.std.proofs.lemmas.Option.{same_Some}
use Rattle.std.proofs.lemmas.Slice.Eq.{bytes_eq-Decides}
use Rattle.pt_desk_rules.specs.Moment.{Moment}
use Rattle.pt_desk_rules.specs.Sha256.{sha256}
use Rattle.pt_base_records.specs.Records.{put, Each, IsInOrder}
use Rattle.pt_base_records.proofs.OrderLemmas.{compared, record_at-put_same, Each-weaker}
use Rattle.pt_base_records.proofs.RecordLemmas.{put_past, put_over, put_before}
use Rattle.pt_desk_scheduling.proofs.RouteLemmas.{Each-found}
use Rattle.pt_desk_laws.specs.Again.{holder_of, GivesAnotherKey}
use Rattle.pt_desk_rules.specs.Sound.{HasOneHolder, IsSound}
use Rattle.pt_desk_rules.specs.State.{caller_key, State}
use Rattle.pt_desk_rules.specs.Step.{arrival_in, sender, IsOutcomeBy}
use Rattle.pt_desk_laws.proofs.NumberLemmas.{write_leaves_callers}
use Rattle.pt_desk_rules.specs.Caller.{Caller}
use Rattle.pt_desk_rules.specs.Answer.{Answer}
use Rattle.pt_desk_rules.specs.Request.TheVariants as request
use Rattle.pt_desk_rules.specs.Write.{Write}
use Rattle.pt_desk_rules.specs.Write.TheVariants as write

-- a test of two outcomes
which : (b : Bool) → (b ≡ true) ⊎ (b ≡ false)
which true = inl refl
which false = inr refl

-- the first of a list that passes, and the first of the rest where its head does not
find_here : {A : Type 0} (p : A → Bool) (x : A) (xs : List A) → p x ≡ true → find p (x ∷ xs) ≡ Some x
find_here p x xs passes = ap (λ b. cond b (Some x) (find p xs)) passes

find_past : {A : Type 0} (p : A → Bool) (x : A) (xs : List A) → p x ≡ false → find p (x ∷ xs) ≡ find p xs
find_past p x xs fails = ap (λ b. cond b (Some x) (find p xs)) fails

-- a property of each that passes holds for the first that passes
found_holds : {A : Type 0} (P : A → Type 0) (p : A → Bool) (a : A) (xs : List A)
    → Each (λ x. p x ≡ true → P x) xs → find p xs ≡ Some a → P a
found_holds P p a [] each found = absurd (cc)
found_holds P p a (x ∷ xs) each found = elim (which (p x)) [
  | inl passes ↦ subst P (same_Some x a (sym (find_here p x xs passes) ∙ found)) (each.0 passes)
  | inr fails ↦ found_holds P p a xs each.1 (sym (find_past p x xs fails) ∙ found)
]

each_passes : {A : Type 0} (p : A → Bool) (xs : List A) → Each (λ x. p x ≡ true → p x ≡ true) xs
each_passes p [] = tt
each_passes p (x ∷ xs) = ((λ is. is), each_passes p xs)

none_found : {A : Type 0} (p : A → Bool) (xs : List A) → Each (λ x. p x ≡ false) xs → find p xs ≡ None
none_found p [] each = refl
none_found p (x ∷ xs) each = find_past p x xs each.0 ∙ none_found p xs each.1

-- a property of all after a put held for all before it, if it holds for the replaced one
Each-before : {A : Type 0} (P : A → Type 0) (key : A → ℕ) (new : A) (xs : List A)
    → ((x : A) → key x ≡ key new → P x) → Each P (put key new xs) → Each P xs
Each-before P key new [] own each = tt
Each-before P key new (x ∷ xs) own each = elim (compared (key x) (key new)) [
  | inl lt ↦
      let now = subst (Each P) (put_past key new x xs lt) each in (now.0, Each-before P key new xs own now.1)
  | inr (inl same) ↦ let now = subst (Each P) (put_over key new x xs same) each in (own x same, now.1)
  | inr (inr gt) ↦ let now = subst (Each P) (put_before key new x xs gt) each in now.1
]

-- the first that passes is still the first after a put over another record, if the new one does not pass
found_still : {A : Type 0} (p : A → Bool) (key : A → ℕ) (new a : A) (xs : List A) → p new ≡ false
    → key a ≢ key new → find p xs ≡ Some a → find p (put key new xs) ≡ Some a
found_still p key new a [] fails other found = absurd (cc)
found_still p key new a (x ∷ xs) fails other found = elim (compared (key x) (key new)) [
  | inl lt ↦ ap (find p) (put_past key new x xs lt) ∙ elim (which (p x)) [
    | inl passes ↦ find_here p x (put key new xs) passes ∙ sym (find_here p x xs passes) ∙ found
    | inr no_pass ↦
        find_past p x (put key new xs) no_pass
        ∙ found_still p key new a xs fails other (sym (find_past p x xs no_pass) ∙ found)
  ]
  | inr (inl same) ↦ ap (find p) (put_over key new x xs same) ∙ find_past p new xs fails ∙ elim (which (p x)) [
    | inl passes ↦
        absurd (other (sym (ap key (same_Some x a (sym (find_here p x xs passes) ∙ found))) ∙ same))
    | inr no_pass ↦ sym (find_past p x xs no_pass) ∙ found
  ]
  | inr (inr gt) ↦ ap (find p) (put_before key new x xs gt) ∙ find_past p new (x ∷ xs) fails ∙ found
]

-- if all that pass have the new record's key, and it passes, it is the first
found_new : {A : Type 0} (p : A → Bool) (key : A → ℕ) (new : A) (xs : List A) → p new ≡ true
    → Each (λ x. p x ≡ true → key x ≡ key new) xs → find p (put key new xs) ≡ Some new
found_new p key new [] passes each = find_here p new [] passes
found_new p key new (x ∷ xs) passes each = elim (compared (key x) (key new)) [
  | inl lt ↦ ap (find p) (put_past key new x xs lt) ∙ elim (which (p x)) [
    | inl is ↦ absurd (let same = each.0 is in omega (arith, lt, same))
    | inr no_pass ↦ find_past p x (put key new xs) no_pass ∙ found_new p key new xs passes each.1
  ]
  | inr (inl same) ↦ ap (find p) (put_over key new x xs same) ∙ find_here p new xs passes
  | inr (inr gt) ↦ ap (find p) (put_before key new x xs gt) ∙ find_here p new (x ∷ xs) passes
]

-- if all that pass have its key, and it does not pass, none passes any longer
fails_above : {A : Type 0} (p : A → Bool) (key : A → ℕ) (new : A) (xs : List A) → Each (λ x. key new < key x) xs
    → Each (λ x. p x ≡ true → key x ≡ key new) xs → find p xs ≡ None
fails_above p key new [] above each = refl
fails_above p key new (x ∷ xs) above each = elim (which (p x)) [
  | inl is ↦ absurd (let same = each.0 is in let lt = above.0 in omega (arith, lt, same))
  | inr no_pass ↦ find_past p x xs no_pass ∙ fails_above p key new xs above.1 each.1
]

none_passes : {A : Type 0} (p : A → Bool) (key : A → ℕ) (new : A) (xs : List A) → p new ≡ false → IsInOrder key xs
    → Each (λ x. p x ≡ true → key x ≡ key new) xs → find p (put key new xs) ≡ None
none_passes p key new [] fails order each = find_past p new [] fails
none_passes p key new (x ∷ xs) fails order each = elim (compared (key x) (key new)) [
  | inl lt ↦ ap (find p) (put_past key new x xs lt) ∙ elim (which (p x)) [
    | inl is ↦ absurd (let same = each.0 is in omega (arith, lt, same))
    | inr no_pass ↦ find_past p x (put key new xs) no_pass ∙ none_passes p key new xs fails order.1 each.1
  ]
  | inr (inl same) ↦
      ap (find p) (put_over key new x xs same) ∙ find_past p new xs fails
      ∙ fails_above p key new xs (Each-weaker (λ y. key x < key y) (λ y. key new < key y)
      (λ y above. omega (arith, same, above)) xs order.0) each.1
  | inr (inr gt) ↦
      ap (find p) (put_before key new x xs gt) ∙ find_past p new (x ∷ xs) fails
      ∙ fails_above p key new (x ∷ xs) (
        gt,
        Each-weaker (λ y. key x < key y) (λ y. key new < key y)
            (λ y above. omega (arith, gt, above)) xs order.0,
      ) each
]

-- the caller has this digest
abbrev has_digest : List ℕ → Caller → Bool
has_digest digest caller = bytes_eq caller.digest digest

-- if no two callers have the same digest, all with a caller's digest have the caller's number
of_holder : (digest : List ℕ) (me : Caller) (callers : List Caller) → me.digest ≡ digest
    → Each (λ b. me.digest ≡ b.digest → me.id ≡ b.id) callers
    → Each (λ b. has_digest digest b ≡ true → b.id ≡ me.id) callers
of_holder digest me callers has each =
    Each-weaker (λ b. me.digest ≡ b.digest → me.id ≡ b.id) (λ b. has_digest digest b ≡ true → b.id ≡ me.id)
    (λ b one is. sym (one (has ∙ sym ((bytes_eq-Decides b.digest digest).0 is)))) callers each

-- the one that is found has the property of all
found_one : {A : Type 0} (P : A → Type 0) (p : A → Bool) (a : A) (xs : List A) → Each P xs → find p xs ≡ Some a → P a
found_one P p a xs each found =
    found_holds P p a xs (Each-weaker P (λ x. p x ≡ true → P x) (λ x holds passes. holds) xs each) found

digest_of : (digest : List ℕ) (me : Caller) (callers : List Caller) → find (has_digest digest) callers ≡ Some me
    → me.digest ≡ digest
digest_of digest me callers found =
    (bytes_eq-Decides me.digest digest).0 (found_holds (λ c. has_digest digest c ≡ true) (has_digest digest) me callers
    (each_passes (has_digest digest) callers) found)

-- if no two callers have the same digest after a put, all with the new one's digest had its number
before_put : (digest : List ℕ) (new : Caller) (callers : List Caller)
    → Each (HasOneHolder (put caller_key new callers)) (put caller_key new callers) → has_digest digest new ≡ true
    → Each (λ b. has_digest digest b ≡ true → b.id ≡ new.id) callers
before_put digest new callers one passes =
    let put_in = put caller_key new callers in
    let own = Each-found (HasOneHolder put_in) caller_key new.id new put_in one
    (record_at-put_same caller_key new callers) in
    Each-before (λ b. has_digest digest b ≡ true → b.id ≡ new.id) caller_key new callers (λ x same is. same)
    (of_holder digest new put_in ((bytes_eq-Decides new.digest digest).0 passes) own)

put_holds : (new : Caller) (callers : List Caller)
    → Each (HasOneHolder (put caller_key new callers)) (put caller_key new callers)
    → find (has_digest new.digest) (put caller_key new callers) ≡ Some new
put_holds new callers one =
    let itself = (bytes_eq-Decides new.digest new.digest).1 refl in
    found_new (has_digest new.digest) caller_key new callers itself (before_put new.digest new callers one itself)

-- the put callers leave the key with its caller, or give the caller another key
abbrev StaysOrIsLost : List ℕ → Caller → Caller → List Caller → Type 0
StaysOrIsLost digest me new callers =
    (option_map (λ (c : Caller). c.id) (find (has_digest digest) (put caller_key new callers)) ≡ Some me.id)
    ⊎ ((me.id ≡ new.id) × (new.digest ≢ digest) × (find (has_digest digest) (put caller_key new callers) ≡ None))

another_digest : (digest : List ℕ) (new : Caller) → has_digest digest new ≡ false → new.digest ≢ digest
another_digest digest new fails same =
    absurd (let yes = (bytes_eq-Decides new.digest digest).1 same in cc)

put_stays : (digest : List ℕ) (me new : Caller) (callers : List Caller) → IsInOrder caller_key callers
    → Each (HasOneHolder callers) callers
    → Each (HasOneHolder (put caller_key new callers)) (put caller_key new callers)
    → find (has_digest digest) callers ≡ Some me → StaysOrIsLost digest me new callers
put_stays digest me new callers order one one_after found = elim (which (has_digest digest new)) [
  | inl passes ↦
      let before = before_put digest new callers one_after passes in
      let mine = found_holds (λ c. c.id ≡ new.id) (has_digest digest) me callers before found in
      inl (ap (option_map (λ (c : Caller). c.id)) (found_new (has_digest digest) caller_key new callers passes before)
      ∙ ap Some (sym mine))
  | inr fails ↦ elim (eqb_tells me.id new.id) [
    | inl (tells, same) ↦
        let has = digest_of digest me callers found in
        let own = found_one (HasOneHolder callers) (has_digest digest) me callers one found in
        let each = of_holder digest me callers has own in
        let to_new = Each-weaker (λ b. has_digest digest b ≡ true → b.id ≡ me.id)
        (λ b. has_digest digest b ≡ true → b.id ≡ new.id) (λ b is passes. is passes ∙ same) callers each in
        inr (
          same,
          another_digest digest new fails,
          none_passes (has_digest digest) caller_key new callers fails order to_new,
        )
    | inr (tells, other) ↦
        inl (ap (option_map (λ (c : Caller). c.id))
        (found_still (has_digest digest) caller_key new me callers fails other found))
  ]
]

-- the key's caller after a write that is accepted
pub key_stays : (key : List ℕ) (me : Caller) (now : Moment) (number : ℕ) (asked : Write) (s new : State)
    (told : Answer) → IsSound s → IsSound new → sender key s ≡ Some me
    → IsOutcomeBy (Some me) now number (request.Write asked) s told (Some new)
    → (holder_of key new ≡ holder_of key s) ⊎ GivesAnotherKey key (request.Write asked) s new
key_stays key me now number (write.PutCaller put_in) s new told sound sound_after by outcome =
    let callers = write_leaves_callers (arrival_in s (write.PutCaller put_in) me number) (write.PutCaller put_in) me now
    number s new told outcome in
    let holds = ap (option_map (λ (c : Caller). c.id)) by in
    let found_in = ap (λ cs. find (has_digest (sha256 key)) cs) callers in
    let one_after = subst (λ cs. Each (HasOneHolder cs) cs) callers sound_after.one_holder_each in
    elim (put_stays (sha256 key) me put_in s.callers sound.callers.in_order sound.one_holder_each one_after by) [
      | inl stays ↦ inl (ap (option_map (λ (c : Caller). c.id)) found_in ∙ stays ∙ sym holds)
      | inr (same, another, lost) ↦ inr (record {
        holder = put_in;
        is_put = refl;
        own = holds ∙ ap Some same;
        another = another;
        lost = ap (option_map (λ (c : Caller). c.id)) (found_in ∙ lost);
        given = ap (λ cs. find (has_digest put_in.digest) cs) callers ∙ put_holds put_in s.callers one_after;
      })
    ]
key_stays key me now number asked s new told sound sound_after by outcome =
    inl (ap (λ cs. option_map (λ (c : Caller). c.id) (find (has_digest (sha256 key)) cs))
    (write_leaves_callers (arrival_in s asked me number) asked me now number s new told outcome))
