-- Numbers that rise from each vehicle to the next rise from each to all later ones.
use Rattle.std.proofs.Common.{◌≡◌, ℕ, ◌+◌, ◌-◌, ◌<◌, ◌≤◌, List, length, get_or, inl, inr, refl, sym, ap, ◌∙◌, arith}
use Rattle.std.proofs.lemmas.List.{get_or_read}
use Rattle.std.proofs.lemmas.Bool.{cases_lt}
use Rattle.pt_insertion_search.specs.declared.duty.Duty.{Duty}
use Rattle.pt_insertion_search.proofs.duty.are_rising.Goals as goal

rising_more : (duties : List Duty) (k : ℕ) (last next : Duty) → 1 ≤ k → k < length duties →
    last ≡ get_or duties (k - 1) last → next ≡ get_or duties k next → last.vehicle.now.id < next.vehicle.now.id →
    ((i j : ℕ) (d : Duty) → i < j → j < k → (get_or duties i d).vehicle.now.id < (get_or duties j d).vehicle.now.id) →
    (i j : ℕ) (d : Duty) → i < j → j < k + 1 → (get_or duties i d).vehicle.now.id < (get_or duties j d).vehicle.now.id
rising_more duties k last next from within at_last at_next rises before i j d h below =
    elim (cases_lt j k) [
      | inl early ↦ before i j d h early
      | inr late ↦
          let here : j ≡ k = omega arith in
          let second : (get_or duties j d).vehicle.now.id ≡ next.vehicle.now.id =
          ap (λ (m : ℕ). (get_or duties m d).vehicle.now.id) here
          ∙ sym (ap (λ (x : Duty). x.vehicle.now.id) (get_or_read duties k next within at_next d)) in
          let middle : last.vehicle.now.id ≡ (get_or duties (k - 1) d).vehicle.now.id =
          ap (λ (x : Duty). x.vehicle.now.id) (get_or_read duties (k - 1) last (omega arith) at_last d) in
          elim (cases_lt i (k - 1)) [
            | inl far ↦
                let first : (get_or duties i d).vehicle.now.id < (get_or duties (k - 1) d).vehicle.now.id =
                before i (k - 1) d far (omega arith) in
                omega arith
            | inr near ↦
                let there : i ≡ k - 1 = omega arith in
                let first : (get_or duties i d).vehicle.now.id ≡ (get_or duties (k - 1) d).vehicle.now.id =
                ap (λ (m : ℕ). (get_or duties m d).vehicle.now.id) there in
                omega arith
          ]
    ]

pub loop-k-init : goal.loop-k-init
loop-k-init c = λ i j d h below. absurd (omega arith)

pub loop-k-preserved : goal.loop-k-preserved
loop-k-preserved c =
    rising_more c.args.duties.now c.loop-k.k c.index-duties-k.result c.index-duties-k-in-loop-k.result
    (omega arith) (omega arith) c.index-duties-k.is c.index-duties-k-in-loop-k.is
    (let first = ap (λ (x : Duty). x.vehicle.now.id) c.index-duties-k.is in
    let second = ap (λ (x : Duty). x.vehicle.now.id) c.index-duties-k-in-loop-k.is in
    omega (arith, first, second, c.number.ensures.value, c.number-in-loop-k.ensures.value, c.if-number.false))
    c.loop-k.invariant

pub returns : goal.returns
returns c = (λ _ i j d h below. c.loop-k.invariant i j d h (omega arith), λ _. refl)
