use Rattle.std.proofs.Common.{◌≡◌, drop, map}
use Rattle.clap.specs.Words.{app_of}
use Rattle.pt_app_command_line.specs.CommandLine.{command, with_commands}
use Rattle.pt_app_command_line.proofs.words.with_commands.Given as goal

abbrev pub invariant-loop-name : goal.invariant-loop-name
invariant-loop-name l =
    with_commands (app_of l.program) (map (λ w. command w.0.now (map (λ place. place.0.now) w.2.now)) (drop l.name-index l.commands))
    ≡ with_commands (app_of l.fn.program) (map (λ w. command w.0.now (map (λ place. place.0.now) w.2.now)) l.commands)
