use Rattle.std.proofs.Common.{◌≡◌, ◌∷◌, [], get_or, inl, inr, sym, ap, ◌∙◌}
use Rattle.pt_base_values.specs.declared.vehicle.Vehicle.{Vehicle}
use Rattle.pt_desk_rules.specs.State.{versions_from}
use Rattle.pt_base_records.specs.Records.{Edit}
use Rattle.pt_tables_keeper.proofs.writable.is_fleet_edit.Goals as goal

-- the one element of equal lists
one_head : {A : Type 0} (x y : A) → x ∷ [] ≡ y ∷ [] → x ≡ y
one_head x y same = ap (λ l. get_or l 0 x) same

pub returns-in-Some-Some : goal.returns-in-Some-Some
returns-in-Some-Some c =
    let span = c.in-Some-Some.span.now in
    let version = c.in-Some-Some.version.now in
    let away : c.args.edits.now.away ≡ span ∷ [] = sym c.spans-spans.ensures.value ∙ c.in-Some-Some.ensures.value in
    let puts : c.args.edits.now.puts ≡ version ∷ [] = sym c.puts-puts.ensures.value ∙ c.in-Some-Some.ensures'.value in
    record {
      value = (
        λ yes. inr (version, λ i. record { away = (away ∙ ap (λ it. it ∷ []) (c.is_followed_by.ensures.value.0 yes)) i; puts = puts i }),
        λ is. elim is [
          | inl none ↦ absurd (let empty = sym (ap (λ (e : Edit Vehicle). e.away) none) ∙ away in cc)
          | inr one ↦
              let own : version ≡ one.0 = one_head version one.0 (sym puts ∙ ap (λ (e : Edit Vehicle). e.puts) one.1) in
              c.is_followed_by.ensures.value.1
              (one_head span (versions_from one.0.id one.0.from_day) (sym away ∙ ap (λ (e : Edit Vehicle). e.away) one.1) ∙ ap (λ (v : Vehicle). versions_from v.id v.from_day) (sym own))
        ],
      );
    }
