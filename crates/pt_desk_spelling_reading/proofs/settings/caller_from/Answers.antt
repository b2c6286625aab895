use Rattle.std.proofs.Common.{◌∙◌, List, ℕ, Some, ap, sym, length, ◌≡◌}
use Rattle.pt_desk_requests.specs.declared.caller.Caller.{Caller}
use Rattle.pt_desk_spelling.proofs.SettingLemmas.{subject-word}
use Rattle.pt_desk_spelling.specs.Requests.{role_number, subject_of}
use Rattle.pt_desk_spelling_reading.proofs.ReadingLemmas.{found-same, none-found, taken-whole, caller-parts}
use Rattle.pt_desk_spelling_reading.proofs.settings.caller_from.Goals as goal

pub returns-in_err-take_digest : goal.returns-in_err-take_digest
returns-in_err-take_digest c = λ caller fits e.
    let id = c.take_id.ensures caller.id _ fits.id (e ∙ caller-parts caller) in
    let kind = c.take_byte.ensures (role_number caller.role) _ tt id.1 in
    let subject = c.take_number.ensures (subject_of caller.role) _ (subject-word caller.role fits.role) kind.1 in
    let digest = taken-whole (λ (d : List ℕ). d) (λ (d : List ℕ). length d ≡ 32) _ _ c.take_digest.result
    c.take_digest.ensures caller.digest fits.digest subject.1 in
    absurd (none-found _ caller.digest c.in_err-take_digest.was digest)

pub returns : goal.returns
returns c = λ caller fits e.
    let id = c.take_id.ensures caller.id _ fits.id (e ∙ caller-parts caller) in
    let kind = c.take_byte.ensures (role_number caller.role) _ tt id.1 in
    let subject = c.take_number.ensures (subject_of caller.role) _ (subject-word caller.role fits.role) kind.1 in
    let digest = taken-whole (λ (d : List ℕ). d) (λ (d : List ℕ). length d ≡ 32) _ _ c.take_digest.result
    c.take_digest.ensures caller.digest fits.digest subject.1 in
    let same_id = found-same _ _ caller.id c.in_ok-id.was id.0 in
    let same_kind = found-same _ _ (role_number caller.role) c.in_ok-kind.was kind.0 in
    let same_subject = found-same _ _ (subject_of caller.role) c.in_ok-subject.was subject.0 in
    let role = c.role_of.ensures caller.role fits.role (sym same_kind) (sym same_subject) in
    let same_role = found-same _ _ caller.role c.in_ok-role_of.was role in
    let same_digest = found-same _ _ caller.digest c.in_ok-take_digest.was digest in
    ap (λ (r : Caller). Some r) (λ i. record { id = same_id i; role = same_role i; digest = same_digest i })
