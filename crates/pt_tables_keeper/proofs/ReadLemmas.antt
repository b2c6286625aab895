-- The reads of a keeper over tables.
use Rattle.std.proofs.Common.{◌≡◌, ◌≤◌, ◌<◌, ◌⊎◌, zero, suc, ◌||◌, ℕ, Bool, true, false, cond, List, [], ◌∷◌, filter}
use Rattle.std.proofs.Common.{length, Option, None, Some, Result, Ok, Err, IfOk, IfErr, inl, inr, refl, sym, ap, subst, ◌∙◌}
use Rattle.std.proofs.Common.{◌&&◌, arith}
use Rattle.std.specs.List.{list_any}
use Rattle.std.specs.Prelude.{nat_le}
use Rattle.sqlite.specs.Held.{Held, state}
use Rattle.sqlite.specs.State.{State as Connected, HasCleanDisk}
use Rattle.sqlite.specs.Store.{Ghosts}
use Rattle.pt_desk_store.specs.Store.{Goes, IsDurable, Store}
use Rattle.pt_desk_store.specs.declared.keeper.StoreFault.{StoreFault}
use Rattle.pt_desk_store.specs.declared.keeper.StoreFault.TheVariants.{Memory, Store as failed}
use Rattle.pt_base_values.specs.TripStatus.{stands}
use Rattle.pt_base_values.specs.declared.trip.Trip.{Trip}
use Rattle.pt_desk_rules.specs.Planned.{is_booked_from, is_of, is_standing_from}
use Rattle.pt_desk_rules.specs.State.{State}
use Rattle.pt_tables_asking.specs.Asking.{HasCause, Rests}
use Rattle.pt_tables_asking.specs.Content.{Excuses, IsExcused, Tells}
use Rattle.pt_desk_store.proofs.StoreLemmas.{found_still}
use Rattle.pt_tables_rows.specs.Tables.{IsKept, IsWellFormed}
use Rattle.pt_tables_asking.specs.declared.asking.Unread.{Unread}
use Rattle.pt_tables_asking.specs.declared.asking.Unread.TheVariants as unread
use Rattle.pt_tables_keeper.proofs.StepLemmas.{Settles, reads_tables, step_still}
use Rattle.pt_tables_keeper.specs.Keeper.{AreInStep, KeptTables, Counts, kept_store, store_of}

-- ---- what is counted

pub counts_most : {X : Type 0} (g : ℕ) (found : Result X Unread) (r : Result X StoreFault) → Counts g found r → g ≤ 1
counts_most g (Ok x) r h = let zero = h.1 in omega arith
counts_most g (Err unread.Memory) r h = let zero = h.1 in omega arith
counts_most g (Err unread.Store) r h = let one = h.1 in omega arith
counts_most g (Err unread.Row) r h = let one = h.1 in omega arith

counts_failed : {X : Type 0} (g : ℕ) (found : Result X Unread) (r : Result X StoreFault) → Counts g found r → r ≡ Err failed → g ≡ 1
counts_failed g (Ok x) r h is = absurd (let same = sym h.0 ∙ is in cc)
counts_failed g (Err unread.Memory) r h is = absurd (let same = sym h.0 ∙ is in cc)
counts_failed g (Err unread.Store) r h is = h.1
counts_failed g (Err unread.Row) r h is = h.1

counts_none : {X : Type 0} (g : ℕ) (found : Result X Unread) (r : Result X StoreFault) → Counts g found r → (r ≡ Err failed → ⊥) → g ≡ 0
counts_none g (Ok x) r h other = h.1
counts_none g (Err unread.Memory) r h other = h.1
counts_none g (Err unread.Store) r h other = absurd (other h.0)
counts_none g (Err unread.Row) r h other = absurd (other h.0)

counts_told : {X : Type 0} (g : ℕ) (found : Result X Unread) (r : Result X StoreFault) (value x : X) → Counts g found r
    → IfOk found (λ x. x ≡ value) → r ≡ Ok x → x ≡ value
counts_told g (Ok y) r value x h told is =
    let same : ◌≡◌ {A = Result _ StoreFault} (Ok y) (Ok x) = sym h.0 ∙ is in
    let it : y ≡ x = cc in
    sym it ∙ told
counts_told g (Err unread.Memory) r value x h told is = absurd (let same = sym h.0 ∙ is in cc)
counts_told g (Err unread.Store) r value x h told is = absurd (let same = sym h.0 ∙ is in cc)
counts_told g (Err unread.Row) r value x h told is = absurd (let same = sym h.0 ∙ is in cc)

-- a failure that is told has the cause that excuses the read
counts_cause : {X : Type 0} (old new : Connected) (g : ℕ) (found : Result X Unread) (r : Result X StoreFault) → Counts g found r → IfErr found (IsExcused old new) → r ≡ Err failed
    → HasCause old new
counts_cause old new g (Ok x) r h excused is = absurd (let same = sym h.0 ∙ is in cc)
counts_cause old new g (Err unread.Memory) r h excused is = absurd (let same = sym h.0 ∙ is in cc)
counts_cause old new g (Err unread.Store) r h excused is = excused
counts_cause old new g (Err unread.Row) r h excused is = absurd excused

-- ---- what is made of an answer

-- if the answer is of the current content, so is what is made of it
pub goes_to : {X Y : Type 0} (before after : Store) (told : State → X) (x : X) (other : State → Y) (y : Y) → Goes before after (told before.content) None (Ok x)
    → (after.doubt ≡ 0 → x ≡ told after.content → y ≡ other after.content) → Goes before after (other before.content) None (Ok y)
goes_to before after told x other y h made = record {
  clean = h.clean;
  serves = h.serves;
  grows = h.grows;
  told = λ is. absurd (cc);
  stays = λ low up. absurd (let same = h.stays low up in cc);
  settled = h.settled;
  holds = λ clean.
      let it = h.holds clean in
      let stands = it.tells.1 in
      record { tells = (made clean (it.tells.0 ∙ ap told (sym stands)) ∙ ap other stands, stands); crash = it.crash; durable = tt; memory = λ is. absurd (cc); fits = it.fits };
}

pub goes_on : {X Y : Type 0} (before after : Store) (value x : X) (f : X → Y) → Goes before after value None (Ok x) → Goes before after (f value) None (Ok (f x))
goes_on before after value x f h = goes_to before after (λ _. value) x (λ _. f value) (f x) h (λ _ same. ap f same)

none_or_more : (n : ℕ) → (n ≡ 0) ⊎ (0 < n)
none_or_more zero = inl refl
none_or_more (suc n) = inr (omega arith)

-- a store that returned a value has not failed
pub serves_still : {X : Type 0} (before after : Store) (value x : X) → Goes before after value None (Ok x) → before.failures ≡ 0 → after.failures ≡ 0
serves_still before after value x h none = elim (none_or_more after.failures) [
  | inl none_yet ↦ none_yet
  | inr more ↦ absurd (let low : before.failures < 1 = omega arith in let same = h.stays low more in cc)
]

-- a fault commits nothing that could last
pub not_lasting : (X : Type 0) (after : Store) (left : Option State) (e : StoreFault) → IsDurable {X = X} after left (Err e)
not_lasting X after None e = tt
not_lasting X after (Some new) e = tt

-- a fault says nothing of the value, nor of what was to be committed
pub goes_not : {X Y : Type 0} (before after : Store) (value : X) (other : Y) (left : Option State) (e : StoreFault)
    → Goes {X = X} before after value None (Err e) → Goes {X = Y} before after other left (Err e)
goes_not {X} {Y} before after value other left Memory h = record {
  clean = h.clean;
  serves = h.serves;
  grows = h.grows;
  told = λ is. absurd (cc);
  stays = λ low up. absurd (let same = h.stays low up in cc);
  settled = h.settled;
  holds = λ clean.
      let it = h.holds clean in
      record {
        tells = it.tells;
        crash = λ o found. elim (it.crash o found) [ inl was ↦ inl was | inr nothing ↦ absurd nothing ];
        durable = not_lasting Y after left Memory;
        memory = λ _. it.memory refl;
        fits = λ _. it.fits refl;
      };
}
goes_not {X} {Y} before after value other left failed h = record {
  clean = h.clean;
  serves = h.serves;
  grows = h.grows;
  told = λ _. h.told refl;
  stays = λ _ _. refl;
  settled = h.settled;
  holds = λ clean.
      let it = h.holds clean in
      record {
        tells = tt;
        crash = λ o found. elim (it.crash o found) [ inl was ↦ inl was | inr nothing ↦ absurd nothing ];
        durable = not_lasting Y after left failed;
        memory = λ is. absurd (cc);
        fits = λ _. it.fits refl;
      };
}

-- out of memory for what is made of it
pub goes_wanting : {X Y : Type 0} (before after : Store) (value x : X) (other : Y) → Goes before after value None (Ok x) → Goes {X = Y} before after other None (Err Memory)
goes_wanting before after value x other h = record {
  clean = h.clean;
  serves = h.serves;
  grows = h.grows;
  told = λ is. absurd (cc);
  stays = λ low up. absurd (let same = h.stays low up in cc);
  settled = h.settled;
  holds = λ clean. let it = h.holds clean in record { tells = it.tells.1; crash = it.crash; durable = tt; memory = λ _. found_still before after it.tells.1 it.crash; fits = it.fits };
}

-- ---- what a read returns

module _ {S X : Type 0} {riders : ℕ} (g : Ghosts S) (conn new : Held S) (failures after : ℕ) (content : State) (found : Result X Unread) (r : Result X StoreFault)
    (none : failures ≡ 0) (was : AreInStep content riders failures (state g conn)) (rests : Rests (state g conn) (state g new)) (law : Settles (state g new))
    (counts : Counts after found r) where
  pub step_by : AreInStep content riders after (state g new)
  step_by = step_still (state g conn) (state g new) content failures none was rests law after (counts_most after found r counts)

  -- what is stated for one content alone
  goes_so : (u : ℕ) (told : State → X) → (HasCleanDisk (state g new) → IsKept content (state g conn) → IfOk found (λ x. x ≡ told content))
      → Goes (kept_store (state g conn) content failures u) (kept_store (state g new) content after u) (told content) None r
  goes_so u told tells =
      let early : HasCleanDisk (state g new) → HasCleanDisk (state g conn) = λ clean. let up = rests.survives.clean in omega arith in
      reads_tables (state g conn) (state g new) content failures none was rests law (told content) r after u
      (λ clean x is. counts_told after found r (told content) x counts (tells clean (was.kept none (early clean))) is)
      (counts_failed after found r counts) (counts_none after found r counts)

  goes_by : (u : ℕ) (told : State → X) → Tells (state g conn) (state g new) told found
      → Goes (kept_store (state g conn) content failures u) (kept_store (state g new) content after u) (told content) None r
  goes_by u told tells = goes_so u told (λ clean held. tells clean content was.readable held)

  -- the same of the keeper
  pub reads_so : {u : ℕ} (now : KeptTables S) (told : State → X) → ◌≡◌ {A = KeptTables S} (record { conn = conn; failures = failures; unfit = u; content = content }) now
      → (HasCleanDisk (state g new) → IsKept content (state g conn) → IfOk found (λ x. x ≡ told content))
      → Goes (store_of g now) (kept_store (state g new) content after u) (told now.content) None r
  reads_so {u} now told is tells =
      subst (λ (k : KeptTables S). Goes (store_of g k) (kept_store (state g new) content after u) (told k.content) None r) is (goes_so u told tells)

  pub reads_by : {u : ℕ} (now : KeptTables S) (told : State → X) → ◌≡◌ {A = KeptTables S} (record { conn = conn; failures = failures; unfit = u; content = content }) now
      → Tells (state g conn) (state g new) told found → Goes (store_of g now) (kept_store (state g new) content after u) (told now.content) None r
  reads_by {u} now told is tells =
      subst (λ (k : KeptTables S). Goes (store_of g k) (kept_store (state g new) content after u) (told k.content) None r) is (goes_by u told tells)

  -- what a failure of it has as its cause
  pub caused_so : {u : ℕ} (now : KeptTables S) → ◌≡◌ {A = KeptTables S} (record { conn = conn; failures = failures; unfit = u; content = content }) now
      → (HasCleanDisk (state g new) → IsKept content (state g conn) → IfErr found (IsExcused (state g conn) (state g new)))
      → now.failures ≡ 0 → HasCleanDisk (state g new) → r ≡ Err failed → HasCause (state g now.conn) (state g new)
  caused_so {u} now is excuses _ clean told =
      let early : HasCleanDisk (state g conn) = let up = rests.survives.clean in omega arith in
      subst (λ (k : KeptTables S). HasCause (state g k.conn) (state g new)) is
      (counts_cause (state g conn) (state g new) after found r counts (excuses clean (was.kept none early)) told)

  pub caused_by : {u : ℕ} (now : KeptTables S) → ◌≡◌ {A = KeptTables S} (record { conn = conn; failures = failures; unfit = u; content = content }) now
      → Excuses (state g conn) (state g new) found
      → now.failures ≡ 0 → HasCleanDisk (state g new) → r ≡ Err failed → HasCause (state g now.conn) (state g new)
  caused_by {u} now is excuses = caused_so now is (λ clean held. excuses clean content was.readable held)

  pub caused_not : {Y : Type 0} {u : ℕ} (now : KeptTables S) → ◌≡◌ {A = KeptTables S} (record { conn = conn; failures = failures; unfit = u; content = content }) now
      → Excuses (state g conn) (state g new) found → (e : StoreFault) → r ≡ Err e → (passed : Result Y StoreFault) → passed ≡ Err e
      → now.failures ≡ 0 → HasCleanDisk (state g new) → passed ≡ Err failed → HasCause (state g now.conn) (state g new)
  caused_not {Y} {u} now is excuses e was_err passed same unfailed clean told =
      let both : ◌≡◌ {A = Result Y StoreFault} (Err e) (Err failed) = sym same ∙ told in
      let kind : e ≡ failed = cc in
      caused_by now is excuses unfailed clean (subst (λ (f : StoreFault). r ≡ Err f) kind was_err)

  -- what is made of its answer is returned
  pub reads_on : {Y : Type 0} {u : ℕ} (now : KeptTables S) (told : State → X) → ◌≡◌ {A = KeptTables S} (record { conn = conn; failures = failures; unfit = u; content = content }) now
      → Tells (state g conn) (state g new) told found → (x : X) → r ≡ Ok x → (made : X → Y)
      → Goes (store_of g now) (kept_store (state g new) content after u) (made (told now.content)) None (Ok (made x))
  reads_on {Y} {u} now told is tells x was made =
      let read = reads_by now told is tells in
      goes_on (store_of g now) (kept_store (state g new) content after u) (told now.content) x made
      (subst (λ r. Goes (store_of g now) (kept_store (state g new) content after u) (told now.content) None r) was read)

  -- its fault is passed on
  pub reads_not : {Y : Type 0} {u : ℕ} (now : KeptTables S) (told : State → X) → ◌≡◌ {A = KeptTables S} (record { conn = conn; failures = failures; unfit = u; content = content }) now
      → Tells (state g conn) (state g new) told found → (e : StoreFault) → r ≡ Err e → (other : Y) (passed : Result Y StoreFault) → passed ≡ Err e
      → Goes (store_of g now) (kept_store (state g new) content after u) other None passed
  reads_not {Y} {u} now told is tells e was other passed same =
      let read = reads_by now told is tells in
      subst (λ (p : Result Y StoreFault). Goes (store_of g now) (kept_store (state g new) content after u) other None p) (sym same)
      (goes_not (store_of g now) (kept_store (state g new) content after u) (told now.content) other None e
      (subst (λ r. Goes (store_of g now) (kept_store (state g new) content after u) (told now.content) None r) was read))

  -- out of memory for what is made of its answer
  pub reads_wanting : {Y : Type 0} {u : ℕ} (now : KeptTables S) (told : State → X) → ◌≡◌ {A = KeptTables S} (record { conn = conn; failures = failures; unfit = u; content = content }) now
      → Tells (state g conn) (state g new) told found → (x : X) → r ≡ Ok x → (other : Y) (wanting : Result Y StoreFault) → wanting ≡ Err Memory
      → Goes (store_of g now) (kept_store (state g new) content after u) other None wanting
  reads_wanting {Y} {u} now told is tells x was other wanting same =
      let read = reads_by now told is tells in
      subst (λ (p : Result Y StoreFault). Goes (store_of g now) (kept_store (state g new) content after u) other None p) (sym same)
      (goes_wanting (store_of g now) (kept_store (state g new) content after u) (told now.content) x other
      (subst (λ r. Goes (store_of g now) (kept_store (state g new) content after u) (told now.content) None r) was read))

-- ---- what is held in memory

module _ {S : Type 0} {riders u : ℕ} (g : Ghosts S) (conn : Held S) (failures : ℕ) (content : State) (now : KeptTables S)
    (is : ◌≡◌ {A = KeptTables S} (record { conn = conn; failures = failures; unfit = u; content = content }) now) (step : AreInStep content riders failures (state g conn)) where
  -- its content can be read back from its rows, and its riders are counted until it fails
  pub readable_now : IsWellFormed now.content
  readable_now = subst (λ (k : KeptTables S). IsWellFormed k.content) is step.readable

  pub counted_now : now.failures ≡ 0 → HasCleanDisk (state g now.conn) → riders ≡ length now.content.riders
  counted_now = subst (λ (k : KeptTables S). k.failures ≡ 0 → HasCleanDisk (state g k.conn) → riders ≡ length k.content.riders) is step.counted

-- a read of it returns its value
pub reads_held : {S X : Type 0} (g : Ghosts S) (conn : Held S) (failures u : ℕ) (content : State) (now : KeptTables S) (told : State → X) (x : X)
    → ◌≡◌ {A = KeptTables S} (record { conn = conn; failures = failures; unfit = u; content = content }) now → (HasCleanDisk (state g conn) → x ≡ told content)
    → Goes (store_of g now) (store_of g now) (told now.content) None (Ok x)
reads_held {S} {X} g conn failures u content now told x is same =
    subst (λ (k : KeptTables S). Goes (store_of g k) (store_of g k) (told k.content) None (Ok x)) is (record {
      clean = omega arith;
      serves = omega arith;
      grows = omega arith;
      told = λ failed. absurd (cc);
      stays = λ low up. absurd (omega arith);
      settled = λ before. before;
      holds = λ clean. record { tells = (same clean, refl); crash = λ o found. inl found; durable = tt; memory = λ _ finds. finds; fits = λ _. refl };
    })

-- out of memory for a read of it
pub wants_held : {S X : Type 0} (g : Ghosts S) (conn : Held S) (failures u : ℕ) (content : State) (now : KeptTables S) (value : X) (r : Result X StoreFault)
    → ◌≡◌ {A = KeptTables S} (record { conn = conn; failures = failures; unfit = u; content = content }) now → r ≡ Err Memory
    → Goes (store_of g now) (store_of g now) value None r
wants_held {S} {X} g conn failures u content now value r is wanting =
    subst (λ (k : KeptTables S). Goes (store_of g k) (store_of g k) value None r) is
    (subst (λ r. Goes {X = X} (kept_store (state g conn) content failures u) (kept_store (state g conn) content failures u) value None r) (sym wanting) (record {
      clean = omega arith;
      serves = omega arith;
      grows = omega arith;
      told = λ failed. absurd (cc);
      stays = λ low up. absurd (omega arith);
      settled = λ before. before;
      holds = λ clean. record { tells = refl; crash = λ o found. inl found; durable = tt; memory = λ _ finds. finds; fits = λ _. refl };
    }))

-- ---- trips

any_one : {A : Type 0} (found passes : A → Bool) (x : A) (xs : List A) → (passes x ≡ false → found x ≡ false) → list_any found (filter passes xs) ≡ list_any found xs
    → (b : Bool) → passes x ≡ b → list_any found (cond b (x ∷ filter passes xs) (filter passes xs)) ≡ (found x || list_any found xs)
any_one found passes x xs only rest true same = ap (λ b. found x || b) rest
any_one found passes x xs only rest false same = rest ∙ ap (λ b. b || list_any found xs) (sym (only same))

-- if only records that pass can be found, one is found among those that pass when one is found among all
any_passing : {A : Type 0} (found passes : A → Bool) → ((x : A) → passes x ≡ false → found x ≡ false) → (xs : List A) → list_any found (filter passes xs) ≡ list_any found xs
any_passing found passes only [] = refl
any_passing found passes only (x ∷ xs) = any_one found passes x xs (only x) (any_passing found passes only xs) (passes x) refl

not_standing : (stands later is_its : Bool) → later ≡ false → (stands && later && is_its) ≡ false
not_standing true true b h = cc
not_standing true false b h = refl
not_standing false later b h = refl

pub booked_later : (vehicle : Option ℕ) (day : ℕ) (trips : List Trip) → is_booked_from vehicle day (filter (λ trip. nat_le day trip.wish.day) trips) ≡ is_booked_from vehicle day trips
booked_later vehicle day trips =
    any_passing (is_standing_from vehicle day) (λ trip. nat_le day trip.wish.day)
    (λ trip early. not_standing (stands trip.status) (nat_le day trip.wish.day) (is_of vehicle trip) early) trips
