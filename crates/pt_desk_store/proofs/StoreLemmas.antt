-- Calls of a store, one after another.
use Rattle.std.proofs.Common.{◌≡◌, ◌<◌, ◌≤◌, ◌⊎◌, inl, inr, ℕ, Option, Some, None, Result, Ok, Err, ap, arith, refl, subst, sym, ◌∙◌}
use Rattle.pt_desk_rules.specs.State.{State}
use Rattle.pt_desk_store.specs.Store.{Store, FindsContent, Goes, Holds, IsLeft, Tells}
use Rattle.pt_desk_store.specs.declared.keeper.StoreFault.{StoreFault}
use Rattle.pt_desk_store.specs.declared.keeper.StoreFault.TheVariants.{Store as failed}

tells_on : {Y : Type 0} (a b c : State) (w : Y) (left : Option State) (r : Result Y StoreFault) → b ≡ a → Tells b c w left r → Tells a c w left r
tells_on a b c w left r same tells = subst (λ s. Tells s c w left r) same tells

crash_on : (a b : Option State → Type 0) (left : Option State) (o : Option State) → (b o → a o ⊎ IsLeft None o) → b o ⊎ IsLeft left o → a o ⊎ IsLeft left o
crash_on a b left o stood (inr new) = inr new
crash_on a b left o stood (inl old) = elim (stood old) [ inl was ↦ inl was | inr none ↦ absurd none ]

-- a read returns its value and leaves the content
pub read_tells : {X : Type 0} (a b : State) (v x : X) → Tells a b v None (Ok x) → (x ≡ v) × (b ≡ a)
read_tells a b v x tells = tells

found_on : (a b : Store) (o : Option State) → b.content ≡ a.content → FindsContent a → b.found o → a.found o ⊎ IsLeft None o → o ≡ Some b.content
found_on a b o same finds found (inl was) = finds o was ∙ ap Some (sym same)
found_on a b o same finds found (inr none) = absurd none

-- what commits nothing leaves an opening that finds the content
pub found_still : (a b : Store) → b.content ≡ a.content → ((o : Option State) → b.found o → a.found o ⊎ IsLeft None o) → FindsContent a → FindsContent b
found_still a b same crash finds o found = found_on a b o same finds found (crash o found)

served : (n : ℕ) → (n < 1) ⊎ (0 < n)
served n = grind arith

-- a read before other calls, if its result gives their answer and commit
pub reads_then : {X Y : Type 0} (a b c : Store) (x v : X) (w w' : Y) (left left' : Option State) (r : Result Y StoreFault)
    → Goes a b v None (Ok x) → Goes b c w left r → (c.doubt ≡ 0 → x ≡ v → b.content ≡ a.content → (w ≡ w') × (left ≡ left')) → Goes a c w' left' r
reads_then {X} {Y} a b c x v w w' left left' r first next same =
    let up : b.doubt ≤ c.doubt = next.clean in
    let clean : a.doubt ≤ b.doubt = first.clean in
    let fine : (◌≡◌ {A = Result X StoreFault} (Ok x) (Err failed) → ⊥) = λ is. absurd (cc) in
    let grown : a.failures ≤ b.failures = first.grows in
    let grows : b.failures ≤ c.failures = next.grows in
    let shuts : a.shut ≤ b.shut = first.serves in
    let serves : b.shut ≤ c.shut = next.serves in
    record {
      clean = omega arith;
      serves = omega arith;
      grows = omega arith;
      told = next.told;
      stays = λ none some. next.stays (elim (served b.failures) [ inl zero ↦ zero | inr more ↦ absurd (fine (first.stays none more)) ]) some;
      settled = λ before. next.settled (first.settled before);
      holds = λ none.
          let was : b.doubt ≡ 0 = omega arith in
          let read = first.holds was in
          let then = next.holds none in
          let stood = read_tells a.content b.content v x read.tells in
          let turned = same none stood.0 stood.1 in
          subst (λ value. Holds a c value left' r) turned.0 (subst (λ l. Holds a c w l r) turned.1 (record {
            tells = tells_on a.content b.content c.content w left r stood.1 then.tells;
            crash = λ o found. crash_on a.found b.found left o (read.crash o) (then.crash o found);
            durable = then.durable;
            memory = λ is finds. then.memory is (found_still a b stood.1 read.crash finds);
            fits = λ nothing. then.fits nothing ∙ read.fits refl;
          }));
    }

none_left : (left : Option State) (a : Option State → Type 0) (o : Option State) → left ≡ None → a o ⊎ IsLeft left o → a o
none_left None a o none (inl was) = was
none_left None a o none (inr new) = absurd new
none_left (Some new) a o none found = absurd (cc)

-- calls that commit nothing leave at a crash only what was there
pub leaves_nothing : {X : Type 0} (before after : Store) (value : X) (left : Option State) (result : Result X StoreFault) (o : Option State)
    → Goes before after value left result → left ≡ None → after.doubt ≡ 0 → after.found o → before.found o
leaves_nothing before after value left result o goes none clean found = none_left left before.found o none ((goes.holds clean).crash o found)
