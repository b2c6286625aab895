use Rattle.std.proofs.Common.{◌≡◌, ℕ, Option, None, Some, codes, refl}
use Rattle.clap.specs.Words.{found_of, rows_of}
use Rattle.pt_app_command_line.specs.Line.{HasWordThat, IsByWord}
use Rattle.pt_app_command_line.proofs.asked.by_at.Goals as goal

pub returns-in_err-minute_at-in_default-clause-none : goal.returns-in_err-minute_at-in_default-clause-none
returns-in_err-minute_at-in_default-clause-none c = λ none by.
    let rows = rows_of (found_of c.args.words.now) in
    elim by as (λ (o : Option ℕ). HasWordThat rows (codes "BY") (λ word. IsByWord word o) → ⊥) [
      | Some minute ↦ λ has. c.in_err-minute_at-in_default.ensures.none refl minute has
      | None ↦ λ has.
          let word : c.in_ok-word_at.field-0.now ≡ codes "none" = cc (has.1, has.2, c.in_ok-word_at.ensures) in
          c.in_default.not-none word
    ]
