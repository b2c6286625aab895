-- The words of the program.
use Rattle.std.specs.Prelude.{List, [], ◌∷◌, codes, fold, true}
use Rattle.clap.specs.Words.{App, Rule, Text, new_app, new_rule, with_rule, with_subcommand}
use Rattle.clap.specs.Simple.{on_top}

-- a place for a word, which is required
abbrev pub place : Text → Rule
place name = record (new_rule name) { required = true }

-- a command with more places, in order
abbrev pub with_places : App → List Text → App
with_places app places = fold (λ app name. with_rule app (place name)) app places

-- a command, and the places of its words in order
abbrev pub command : Text → List Text → App
command name places = with_places (new_app name) places

-- rehearse KEY
abbrev pub rehearse_words : App
rehearse_words = command (codes "rehearse") (codes "KEY" ∷ [])

-- init FILE KEY
abbrev pub init_words : App
init_words = command (codes "init") (codes "FILE" ∷ codes "KEY" ∷ [])

-- migrate FILE
abbrev pub migrate_words : App
migrate_words = command (codes "migrate") (codes "FILE" ∷ [])

-- serve FILE ZONE PORT COUNT
abbrev pub serve_words : App
serve_words = command (codes "serve") (codes "FILE" ∷ codes "ZONE" ∷ codes "PORT" ∷ codes "COUNT" ∷ [])

-- travel FILE ZONE KEY NUMBER DAY CSV
abbrev pub travel_words : App
travel_words = command (codes "travel")
    (codes "FILE" ∷ codes "ZONE" ∷ codes "KEY" ∷ codes "NUMBER" ∷ codes "DAY" ∷ codes "CSV" ∷ [])

-- manifest FILE ZONE KEY VEHICLE DAY
abbrev pub manifest_words : App
manifest_words = command (codes "manifest")
    (codes "FILE" ∷ codes "ZONE" ∷ codes "KEY" ∷ codes "VEHICLE" ∷ codes "DAY" ∷ [])

-- trips FILE ZONE KEY DAY
abbrev pub trips_words : App
trips_words = command (codes "trips") (codes "FILE" ∷ codes "ZONE" ∷ codes "KEY" ∷ codes "DAY" ∷ [])

-- the places of a question about a rider's wish: the desk and the caller, and then the wish
abbrev pub question_places : List Text
question_places = codes "FILE" ∷ codes "ZONE" ∷ codes "KEY" ∷ codes "RIDER" ∷ codes "DAY" ∷ codes "WISH"
    ∷ codes "FROM" ∷ codes "TO" ∷ codes "BY" ∷ codes "ATTENDANT" ∷ codes "COMPANIONS" ∷ []

-- explain FILE ZONE KEY RIDER DAY WISH FROM TO BY ATTENDANT COMPANIONS
abbrev pub explain_words : App
explain_words = command (codes "explain") question_places

-- audit LOG FILE ZONE KEY RIDER DAY WISH FROM TO BY ATTENDANT COMPANIONS
abbrev pub audit_words : App
audit_words = command (codes "audit") (codes "LOG" ∷ question_places)

-- the program itself: it needs a command, and `--version` prints its version
abbrev pub program_words : App
program_words = on_top (λ top. record top {
  has_version = true;
  subcommand_required = true;
  disable_help_subcommand = true;
})
    (new_app (codes "desk"))

-- a program with more commands, in order
abbrev pub with_commands : App → List App → App
with_commands program commands = fold (λ desk command. with_subcommand desk command.top) program commands

-- desk and its commands
abbrev pub desk_words : App
desk_words = with_commands program_words
    (rehearse_words ∷ init_words ∷ migrate_words ∷ serve_words ∷ travel_words ∷ manifest_words ∷ trips_words
    ∷ explain_words ∷ audit_words ∷ [])
