use Rattle.std.proofs.Common.{◌≡◌, drop, false, map}
use Rattle.clap.specs.Words.{app_of}
use Rattle.clap.specs.declared.builder.command.Command.TheViews.{out-Command as fields_of}
use Rattle.pt_app_command_line.specs.CommandLine.{with_places}
use Rattle.pt_app_command_line.proofs.words.with_places.Given as goal

abbrev pub invariant-loop-name : goal.invariant-loop-name
invariant-loop-name l = record {
  app : with_places (app_of l.command) (map (λ place. place.0.now) (drop l.name-index l.places))
      ≡ with_places (app_of l.fn.command) (map (λ place. place.0.now) l.places);
  local : (fields_of l.fn.command).has_globals ≡ false → (fields_of l.command).has_globals ≡ false;
}
