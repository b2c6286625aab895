-- What one more entry at the end does to the definitions, and to the marks of a case file.
use Rattle.std.specs.Prelude.{◌≡◌, ℕ, ◌+◌, ◌<◌, Bool, true, false, ◌&&◌, ◌||◌, not, List, [], ◌∷◌, ◌++◌, Option, Some, None, is_some, nat_le, min, length, refl}
use Rattle.std.specs.List.{list_any, filter_map, last_or, cons_option}
use Rattle.std.proofs.Common.{arith, ap, ◌∙◌, length-append}
use Rattle.std.proofs.lemmas.Bool.Decides.{nat_tests}
use Rattle.std.proofs.lemmas.List.Folds.{list_any-append}
use Rattle.pt_rights_files.specs.declared.entry.Grant.{Grant}
use Rattle.pt_rights_files.specs.declared.entry.Entry.{Entry}
use Rattle.pt_rights_files.specs.declared.entry.Entry.TheVariants as kind
use Rattle.pt_rights_files.specs.declared.entry.Entered.{Entered}
use Rattle.pt_rights_files.specs.Appeals.{is_overdue}
use Rattle.pt_rights_files.specs.Kinds.{is_complete, is_decision, grant_of}
use Rattle.pt_rights_files.specs.Standing.{is_waiting, is_presumed, last_grant}
use Rattle.pt_rights_files.specs.Marks.{AreMarks, has_come, earlier, waiting_with}
use Rattle.pt_rights_files.specs.Limits.{days_to_decide, days_to_presumption, most_entries}

-- the test of a position, of the later positions and of the new one, before and after the new entry
waiting_step : (completes decided decides rest new : Bool)
    → ((completes && not (decided || (decides || false))) || ((rest && not decides) || new))
    ≡ ((((completes && not decided) || rest) && not decides) || new)
waiting_step false decided decides rest new = refl
waiting_step true true decides rest new = refl
waiting_step true false true true new = refl
waiting_step true false true false new = refl
waiting_step true false false rest new = refl

-- an application waits after one more entry: one before that is not decided now, or the entry itself
pub waiting-push : (file : List Entered) (last : Entered)
    → is_waiting (file ++ last ∷ [])
    ≡ ((is_waiting file && not (is_decision last.entry)) || is_complete last.entry)
waiting-push [] last = waiting_new (is_complete last.entry) where
  waiting_new : (new : Bool) → ((new && not false) || false) ≡ (false || new)
  waiting_new true = refl
  waiting_new false = refl
waiting-push (first ∷ file) last =
    let step = waiting_step (is_complete first.entry) (list_any (λ e. is_decision e.entry) file) (is_decision last.entry) (is_waiting file) (is_complete last.entry) in
    rw (list_any-append (λ (e : Entered). is_decision e.entry) file (last ∷ []), waiting-push file last) step

-- the same, where the positions are also to pass a test of their own
presumed_step : (old completes decided decides rest new : Bool)
    → (((completes && not (decided || (decides || false))) && old) || ((rest && not decides) || new))
    ≡ (((((completes && not decided) && old) || rest) && not decides) || new)
presumed_step old false decided decides rest new = refl
presumed_step old true true decides rest new = refl
presumed_step true true false true true new = refl
presumed_step true true false true false new = refl
presumed_step false true false true true new = refl
presumed_step false true false true false new = refl
presumed_step true true false false rest new = refl
presumed_step false true false false rest new = refl

-- an application is presumed granted after one more entry
pub presumed-push : (file : List Entered) (last : Entered) (today : ℕ)
    → is_presumed (file ++ last ∷ []) today
    ≡ ((is_presumed file today && not (is_decision last.entry)) || (is_complete last.entry && nat_le (last.day + days_to_presumption) today))
presumed-push [] last today = presumed_new (is_complete last.entry) (nat_le (last.day + days_to_presumption) today) where
  presumed_new : (new old : Bool) → (((new && not false) && old) || false) ≡ (false || (new && old))
  presumed_new true true = refl
  presumed_new true false = refl
  presumed_new false old = refl
presumed-push (first ∷ file) last today =
    let step = presumed_step (nat_le (first.day + days_to_presumption) today) (is_complete first.entry)
    (list_any (λ e. is_decision e.entry) file) (is_decision last.entry) (is_presumed file today)
    (is_complete last.entry && nat_le (last.day + days_to_presumption) today) in
    rw (list_any-append (λ (e : Entered). is_decision e.entry) file (last ∷ []), presumed-push file last today) step

-- the newer grant, where there is one
abbrev pub newer : Option Grant → Option Grant → Option Grant
newer None old = old
newer (Some grant) old = Some grant

-- the last grant after one more entry, whichever was the last before the file
last_grant_from : (before : Option Grant) (file : List Entered) (last : Entered)
    → last_or before (filter_map (λ (e : Entered). grant_of e.entry) (file ++ last ∷ []))
    ≡ newer (grant_of last.entry) (last_or before (filter_map (λ (e : Entered). grant_of e.entry) file))
last_grant_from before [] last =
    elim (grant_of last.entry) as (λ new. last_or before (cons_option new []) ≡ newer new before) [
      | None ↦ refl
      | Some grant ↦ refl
    ]
last_grant_from before (first ∷ file) last =
    elim (grant_of first.entry) as
    (λ given. last_or before (cons_option given (filter_map (λ (e : Entered). grant_of e.entry) (file ++ last ∷ [])))
    ≡ newer (grant_of last.entry) (last_or before (cons_option given (filter_map (λ (e : Entered). grant_of e.entry) file)))) [
      | None ↦ last_grant_from before file last
      | Some grant ↦ last_grant_from (Some grant) file last
    ]

pub last_grant-push : (file : List Entered) (last : Entered)
    → last_grant (file ++ last ∷ []) ≡ newer (grant_of last.entry) (last_grant file)
last_grant-push file last = last_grant_from None file last

decided : (old : Bool) → ((old && false) || false) ≡ false
decided true = refl
decided false = refl

kept : (old : Bool) → ((old && true) || false) ≡ old
kept true = refl
kept false = refl

-- the mark of a waiting application says whether one waits
waits_with : (waiting : Option ℕ) (entry : Entry) (day : ℕ)
    → ((is_some waiting && not (is_decision entry)) || is_complete entry) ≡ is_some (waiting_with waiting entry day)
waits_with None kind.Complete day = refl
waits_with (Some since) kind.Complete day = refl
waits_with waiting (kind.Grant grant) day = decided (is_some waiting)
waits_with waiting (kind.Refuse reasons) day = decided (is_some waiting)
waits_with waiting _ day = kept (is_some waiting)

-- the earlier of two days has come when one of them has
pub earlier_come : (days : ℕ) (before : Option ℕ) (day today : ℕ)
    → (has_come days before today || nat_le (day + days) today) ≡ has_come days (earlier before day) today
earlier_come days None day today = refl
earlier_come days (Some before) day today = earlier_of_two days before day today where
  earlier_of_two : (days before day today : ℕ)
      → (nat_le (before + days) today || nat_le (day + days) today) ≡ nat_le (min before day + days) today
  earlier_of_two days before day today = grind (arith, nat_tests)

and_true : (old new : Bool) → ((old && true) || new) ≡ (old || new)
and_true true new = refl
and_true false new = refl

-- the mark says whether an application is presumed granted
presumes_with : (waiting : Option ℕ) (entry : Entry) (day today : ℕ)
    → ((has_come days_to_presumption waiting today && not (is_decision entry)) || (is_complete entry && nat_le (day + days_to_presumption) today))
    ≡ has_come days_to_presumption (waiting_with waiting entry day) today
presumes_with waiting kind.Complete day today =
    and_true (has_come days_to_presumption waiting today) (nat_le (day + days_to_presumption) today) ∙ earlier_come 21 waiting day today
presumes_with waiting (kind.Grant grant) day today = decided (has_come days_to_presumption waiting today)
presumes_with waiting (kind.Refuse reasons) day today = decided (has_come days_to_presumption waiting today)
presumes_with waiting _ day today = kept (has_come days_to_presumption waiting today)

-- the marks after one more entry are marks of the longer file
pub AreMarks-push : (file : List Entered) (waiting : Option ℕ) (granted : Option Grant) (heard heard_now : Option ℕ) (last : Entered)
    → AreMarks file waiting granted heard → length file < most_entries
    → ((today : ℕ) → is_overdue (file ++ last ∷ []) today ≡ has_come days_to_decide heard_now today)
    → AreMarks (file ++ last ∷ []) (waiting_with waiting last.entry last.day) (newer (grant_of last.entry) granted) heard_now
AreMarks-push file waiting granted heard heard_now last marks room overdue = record {
  within = simp length-append (omega arith);
  waits = waiting-push file last ∙ rw marks.waits (waits_with waiting last.entry last.day);
  presumes = λ today. presumed-push file last today ∙ rw (marks.presumes today) (presumes_with waiting last.entry last.day today);
  grants = last_grant-push file last ∙ ap (newer (grant_of last.entry)) marks.grants;
  overdue = overdue;
}

-- marks that are updated for one more entry are marks of the longer file
pub AreMarks-pushed : (file : List Entered) (waiting : Option ℕ) (granted : Option Grant) (heard : Option ℕ) (last : Entered)
    → AreMarks file waiting granted heard → length file < most_entries
    → (items : List Entered) (waiting_now : Option ℕ) (granted_now : Option Grant) (heard_now : Option ℕ)
    → items ≡ file ++ last ∷ [] → waiting_now ≡ waiting_with waiting last.entry last.day
    → granted_now ≡ newer (grant_of last.entry) granted
    → ((today : ℕ) → is_overdue items today ≡ has_come days_to_decide heard_now today)
    → AreMarks items waiting_now granted_now heard_now
AreMarks-pushed file waiting granted heard last marks room items waiting_now granted_now heard_now items_is waiting_is granted_is overdue =
    let overdue_file = λ (today : ℕ). rw items_is at (overdue today) in
    rw (items_is, waiting_is, granted_is) (AreMarks-push file waiting granted heard heard_now last marks room overdue_file)

-- the newer grant is the new one where there is one, and else the old one
pub newer-some : (new old : Option Grant) → is_some new ≡ true → newer new old ≡ new
newer-some None old new_is = cc
newer-some (Some grant) old new_is = refl

pub newer-none : (new old : Option Grant) → is_some new ≡ false → newer new old ≡ old
newer-none None old new_is = refl
newer-none (Some grant) old new_is = cc
