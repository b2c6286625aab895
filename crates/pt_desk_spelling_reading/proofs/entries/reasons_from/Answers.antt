use Rattle.std.proofs.Common.{◌≡◌, ◌∙◌, ℕ, List, length, None, Some, ap, sym, subst, arith}
use Rattle.pt_rights_conditions.proofs.ResultLemmas.{some-from_only}
use Rattle.pt_rights_files.specs.Reasons.{IsReasons}
use Rattle.pt_desk_spelling.specs.Fields.{text_bytes}
use Rattle.pt_desk_spelling.specs.Ranges.{IsWord}
use Rattle.pt_desk_spelling_reading.proofs.ReadingLemmas.{some-same, taken-whole}
use Rattle.pt_desk_spelling_reading.proofs.entries.reasons_from.Goals as goal

pub returns-in_ok-from_slice-in-Some : goal.returns-in_ok-from_slice-in-Some
returns-in_ok-from_slice-in-Some c = λ reasons fits e.
    let most = fits.1 in
    let items = c.in_ok-from_slice-in-Some.field-0.items in
    let text = taken-whole text_bytes (λ (t : List ℕ). IsWord (length t)) _ _ (Some c.in-Some.text.now)
    c.in-Some.ensures reasons (omega arith) e in
    let made : items ≡ reasons = c.in_ok-from_slice-in-Some.ensures.items ∙ some-same _ reasons text in
    some-from_only c.of.result items (c.of.ensures.in_range.1 (subst IsReasons (sym made) fits)) c.of.ensures.value
    ∙ ap (λ (r : List ℕ). Some r) made

pub returns-in-None : goal.returns-in-None
returns-in-None c = λ reasons fits e.
    let most = fits.1 in
    taken-whole text_bytes (λ (t : List ℕ). IsWord (length t)) _ _ None c.in-None.ensures reasons (omega arith) e
