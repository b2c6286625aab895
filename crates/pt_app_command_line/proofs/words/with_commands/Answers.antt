use Rattle.std.proofs.Common.{◌≡◌, ◌∙◌, ◌+◌, ◌<◌, ℕ, List, add-one, ap, drop, drop-cons, get_or, length, map, refl}
use Rattle.clap.specs.Words.{App, app_of, with_subcommand}
use Rattle.pt_app_command_line.specs.CommandLine.{command, with_commands}
use Rattle.pt_app_command_line.proofs.words.with_commands.Goals as goal

abbrev more : App → App → App
more program command = with_subcommand program command.top

-- the commands from here on are this one and the rest
one_more : {X : Type 0} (words : X → App) (app : App) (commands : List X) (at : ℕ) (d : X) → at < length commands
    → with_commands (more app (words (get_or commands at d))) (map words (drop (at + 1) commands))
    ≡ with_commands app (map words (drop at commands))
one_more words app commands at d before = rw (add-one, drop-cons commands at d before) refl

pub loop-name-preserved : goal.loop-name-preserved
loop-name-preserved c =
    let rest = drop (c.loop-name.name-index + 1) c.args.commands.now in
    ap (λ app. with_commands app (map (λ w. command w.0.now (map (λ place. place.0.now) w.2.now)) rest))
    (c.in_ok-program.ensures ∙ ap (more (app_of c.loop-name.program)) c.in_ok-command_of.ensures.app)
    ∙ one_more (λ w. command w.0.now (map (λ place. place.0.now) w.2.now)) _ _ _ _ c.loop-name-test.true
    ∙ c.loop-name.invariant
