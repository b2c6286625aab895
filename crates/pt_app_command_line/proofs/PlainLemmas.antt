-- How clap reads commands whose words are plain.
use Rattle.std.proofs.Common.{◌≡◌, ◌∙◌, List, [], ◌∷◌, Some, ap, codes, map, refl, subst}
use Rattle.std.proofs.lemmas.List.Elements.{recursion_from_All}
use Rattle.std.specs.List.{AllByRecursion}
use Rattle.clap.proofs.OnLiterals.{clap_on_literals}
use Rattle.clap.specs.Simple.{App, built, built_leaf}
use Rattle.clap.specs.Walk.{Row, Text, Walk, finished}
use Rattle.clap.specs.Words.{fault_of, subcommand_of}
use Rattle.pt_app_command_line.proofs.PlaceLemmas.{ArePlaces, HasCommand, IsEnd, all_stand, command_found, command_taken}
use Rattle.pt_app_command_line.proofs.PlaceLemmas.{level_taken, row, stand_after, words_of}
use Rattle.pt_app_command_line.specs.CommandLine.{audit_words, desk_words, explain_words, init_words, manifest_words}
use Rattle.pt_app_command_line.specs.CommandLine.{migrate_words, rehearse_words, serve_words, travel_words, trips_words}
use Rattle.pt_app_command_line.specs.Line.{Asks, IsLine, IsPlainWord, SpellsLine}
use Rattle.pt_app_command_line.specs.declared.asked.Line.{Line}
use Rattle.pt_app_command_line.specs.declared.asked.Line.TheVariants as line

-- the rows that clap finds at places with these words
abbrev rows_for : List (Text × Text) → List Row
rows_for pairs = map (λ p. row p.0 p.1) pairs

-- the program has this command, and clap reads these words at its places without a fault
record IsRead (name : Text) (command : App) (first : Text × Text) (rest : List (Text × Text)) : Type 0 where
  known : HasCommand (built desk_words) name (built_leaf command.top)
  places : ArePlaces (built_leaf command.top).rules [] 1 (first ∷ rest)
  end : IsEnd (built_leaf command.top) (stand_after [] 2 first rest)
  rows : finished (built_leaf command.top).rules (stand_after [] 2 first rest).held ≡ rows_for (first ∷ rest)
  named : (built_leaf command.top).name ≡ name

read_found : (program name : Text) (command : App) (first : Text × Text) (rest : List (Text × Text))
    → IsRead name command first rest → AllByRecursion IsPlainWord (words_of (first ∷ rest))
    → subcommand_of desk_words (program ∷ name ∷ words_of (first ∷ rest)) ≡ Some (name, rows_for (first ∷ rest))
read_found program name command first rest is plain =
    let shape = built_leaf command.top in
    command_found (built desk_words) name shape (words_of (first ∷ rest)) is.known
    ∙ ap (λ (w : Walk). Some (shape.name, finished shape.rules w.held)) (all_stand shape.rules first rest is.places plain)
    ∙ ap (λ (rows : List Row). Some (shape.name, rows)) is.rows
    ∙ ap (λ (text : Text). Some (text, rows_for (first ∷ rest))) is.named

read_taken : (program name : Text) (command : App) (first : Text × Text) (rest : List (Text × Text))
    → IsRead name command first rest → AllByRecursion IsPlainWord (words_of (first ∷ rest))
    → fault_of desk_words (program ∷ name ∷ words_of (first ∷ rest)) ≡ []
read_taken program name command first rest is plain =
    let shape = built_leaf command.top in
    command_taken (built desk_words) name shape (words_of (first ∷ rest)) is.known
    (level_taken shape first rest is.places plain is.end)

-- plain words of a command are a line, if they name its task
read_line : {name : Text} {command : App} {first : Text × Text} {rest : List (Text × Text)}
    → IsRead name command first rest → (program : Text) (asked : Line)
    → AllByRecursion IsPlainWord (words_of (first ∷ rest)) → Asks name (rows_for (first ∷ rest)) asked
    → IsLine (program ∷ name ∷ words_of (first ∷ rest)) asked
read_line {name} {command} {first} {rest} is program asked plain asks = (
  read_taken program name command first rest is plain,
  (name, rows_for (first ∷ rest), read_found program name command first rest is plain, asks),
)

rehearse_read : (key : Text) → IsRead (codes "rehearse") rehearse_words (codes "KEY", key)
    []
unfolding clap_on_literals
rehearse_read key = record {
  known = record { step = refl; turn = refl; found = refl; given = refl; wanted = refl };
  places = (refl, refl, refl, tt);
  end = record { settles = refl; given = refl; wanted = refl };
  rows = refl;
  named = refl;
}

init_read : (file key : Text) → IsRead (codes "init") init_words (codes "FILE", file)
    ((codes "KEY", key) ∷ [])
unfolding clap_on_literals
init_read file key = record {
  known = record { step = refl; turn = refl; found = refl; given = refl; wanted = refl };
  places = (refl, refl, refl, (refl, refl, refl, tt));
  end = record { settles = refl; given = refl; wanted = refl };
  rows = refl;
  named = refl;
}

migrate_read : (file : Text) → IsRead (codes "migrate") migrate_words (codes "FILE", file)
    []
unfolding clap_on_literals
migrate_read file = record {
  known = record { step = refl; turn = refl; found = refl; given = refl; wanted = refl };
  places = (refl, refl, refl, tt);
  end = record { settles = refl; given = refl; wanted = refl };
  rows = refl;
  named = refl;
}

serve_read : (file zone port count : Text) → IsRead (codes "serve") serve_words (codes "FILE", file)
    ((codes "ZONE", zone) ∷ (codes "PORT", port) ∷ (codes "COUNT", count) ∷ [])
unfolding clap_on_literals
serve_read file zone port count = record {
  known = record { step = refl; turn = refl; found = refl; given = refl; wanted = refl };
  places = (refl, refl, refl, (refl, refl, refl, (refl, refl, refl, (refl, refl, refl, tt))));
  end = record { settles = refl; given = refl; wanted = refl };
  rows = refl;
  named = refl;
}

travel_read : (file zone key number day csv : Text) → IsRead (codes "travel") travel_words (codes "FILE", file)
    ((codes "ZONE", zone) ∷ (codes "KEY", key) ∷ (codes "NUMBER", number) ∷ (codes "DAY", day) ∷ (codes "CSV", csv) ∷ [])
unfolding clap_on_literals
travel_read file zone key number day csv = record {
  known = record { step = refl; turn = refl; found = refl; given = refl; wanted = refl };
  places = (refl, refl, refl, (refl, refl, refl, (refl, refl, refl, (refl, refl, refl, (refl, refl, refl, (refl, refl, refl, tt))))));
  end = record { settles = refl; given = refl; wanted = refl };
  rows = refl;
  named = refl;
}

manifest_read : (file zone key vehicle day : Text) → IsRead (codes "manifest") manifest_words (codes "FILE", file)
    ((codes "ZONE", zone) ∷ (codes "KEY", key) ∷ (codes "VEHICLE", vehicle) ∷ (codes "DAY", day) ∷ [])
unfolding clap_on_literals
manifest_read file zone key vehicle day = record {
  known = record { step = refl; turn = refl; found = refl; given = refl; wanted = refl };
  places = (refl, refl, refl, (refl, refl, refl, (refl, refl, refl, (refl, refl, refl, (refl, refl, refl, tt)))));
  end = record { settles = refl; given = refl; wanted = refl };
  rows = refl;
  named = refl;
}

trips_read : (file zone key day : Text) → IsRead (codes "trips") trips_words (codes "FILE", file)
    ((codes "ZONE", zone) ∷ (codes "KEY", key) ∷ (codes "DAY", day) ∷ [])
unfolding clap_on_literals
trips_read file zone key day = record {
  known = record { step = refl; turn = refl; found = refl; given = refl; wanted = refl };
  places = (refl, refl, refl, (refl, refl, refl, (refl, refl, refl, (refl, refl, refl, tt))));
  end = record { settles = refl; given = refl; wanted = refl };
  rows = refl;
  named = refl;
}

-- the places of a wish with their words
abbrev wished : (rider day wish from to by attendant companions : Text) → List (Text × Text)
wished rider day wish from to by attendant companions =
    (codes "RIDER", rider) ∷ (codes "DAY", day) ∷ (codes "WISH", wish) ∷ (codes "FROM", from) ∷ (codes "TO", to)
    ∷ (codes "BY", by) ∷ (codes "ATTENDANT", attendant) ∷ (codes "COMPANIONS", companions) ∷ []

explain_read : (file zone key rider day wish from to by attendant companions : Text)
    → IsRead (codes "explain") explain_words (codes "FILE", file)
    ((codes "ZONE", zone) ∷ (codes "KEY", key) ∷ wished rider day wish from to by attendant companions)
unfolding clap_on_literals
explain_read file zone key rider day wish from to by attendant companions = record {
  known = record { step = refl; turn = refl; found = refl; given = refl; wanted = refl };
  places = (
    refl,
    refl,
    refl,
    (
      refl,
      refl,
      refl,
      (
        refl,
        refl,
        refl,
        (
          refl,
          refl,
          refl,
          (
            refl,
            refl,
            refl,
            (
              refl,
              refl,
              refl,
              (refl, refl, refl, (refl, refl, refl, (refl, refl, refl, (refl, refl, refl, (refl, refl, refl, tt))))),
            ),
          ),
        ),
      ),
    ),
  );
  end = record { settles = refl; given = refl; wanted = refl };
  rows = refl;
  named = refl;
}

audit_read : (log file zone key rider day wish from to by attendant companions : Text)
    → IsRead (codes "audit") audit_words (codes "LOG", log)
    ((codes "FILE", file) ∷ (codes "ZONE", zone) ∷ (codes "KEY", key) ∷ wished rider day wish from to by attendant companions)
unfolding clap_on_literals
audit_read log file zone key rider day wish from to by attendant companions = record {
  known = record { step = refl; turn = refl; found = refl; given = refl; wanted = refl };
  places = (
    refl,
    refl,
    refl,
    (
      refl,
      refl,
      refl,
      (
        refl,
        refl,
        refl,
        (
          refl,
          refl,
          refl,
          (
            refl,
            refl,
            refl,
            (
              refl,
              refl,
              refl,
              (
                refl,
                refl,
                refl,
                (
                  refl,
                  refl,
                  refl,
                  (
                    refl,
                    refl,
                    refl,
                    (refl, refl, refl, (refl, refl, refl, (refl, refl, refl, tt))),
                  ),
                ),
              ),
            ),
          ),
        ),
      ),
    ),
  );
  end = record { settles = refl; given = refl; wanted = refl };
  rows = refl;
  named = refl;
}

-- words that spell a line are that line
pub spelled_is_line : (words : List Text) (asked : Line) → SpellsLine words asked → IsLine words asked
spelled_is_line words (line.Rehearse key) s =
    rw s.1 (read_line (rehearse_read key.now) s.0 (line.Rehearse key) (s.2, tt) (refl, refl))
spelled_is_line words (line.Init file key) s =
    rw s.1 (read_line (init_read file.now key.now) s.0 (line.Init file key) (s.2, (s.3, tt)) (refl, refl, refl))
spelled_is_line words (line.Migrate file) s =
    rw s.1 (read_line (migrate_read file.now) s.0 (line.Migrate file) (s.2, tt) (refl, refl))
spelled_is_line words (line.Serve file zone port count) s =
    rw s.3 (read_line (serve_read file.now zone.now s.1 s.2) s.0 (line.Serve file zone port count)
    (s.4, (s.5, (s.6, (s.7, tt)))) (refl, refl, refl, (s.1, refl, s.8), (s.2, refl, s.9)))
spelled_is_line words (line.Travel file zone key number day csv) s =
    rw s.3 (read_line (travel_read file.now zone.now key.now s.1 s.2 csv.now) s.0
    (line.Travel file zone key number day csv) (s.4, (s.5, (s.6, (s.7, (s.8, (s.9, tt))))))
    (refl, refl, refl, refl, (s.1, refl, s.10), (s.2, refl, s.11), refl))
spelled_is_line words (line.Manifest file zone key vehicle day) s =
    rw s.3 (read_line (manifest_read file.now zone.now key.now s.1 s.2) s.0
    (line.Manifest file zone key vehicle day) (s.4, (s.5, (s.6, (s.7, (s.8, tt)))))
    (refl, refl, refl, refl, (s.1, refl, s.9), (s.2, refl, s.10)))
spelled_is_line words (line.Trips file zone key day) s =
    rw s.2 (read_line (trips_read file.now zone.now key.now s.1) s.0 (line.Trips file zone key day)
    (s.3, (s.4, (s.5, (s.6, tt)))) (refl, refl, refl, refl, (s.1, refl, s.7)))
spelled_is_line words (line.Explain file zone key rider day pickup from to by attendant companions) s =
    let w = s.4 in
    let asked = file.now ∷ zone.now ∷ key.now ∷ s.1 in
    let plain = subst (λ (asked : List Text). AllByRecursion IsPlainWord (file.now ∷ zone.now ∷ key.now ∷ asked)) w.8
    (recursion_from_All IsPlainWord asked s.3) in
    rw s.2 (rw w.8 (read_line (explain_read file.now zone.now key.now w.0 w.1 w.2 w.3 w.4 w.5 w.6 w.7) s.0
    (line.Explain file zone key rider day pickup from to by attendant companions) plain (
      refl,
      refl,
      refl,
      refl,
      (w.0, refl, w.9),
      (
        (w.1, refl, w.10),
        (w.2, refl, w.11),
        (w.3, refl, w.12),
        (w.4, refl, w.13),
        (w.5, refl, w.14),
        (w.6, refl, w.15),
        (w.7, refl, w.16),
      ),
    )))
spelled_is_line words (line.Audit log file zone key rider day pickup from to by attendant companions) s =
    let w = s.4 in
    let asked = log.now ∷ file.now ∷ zone.now ∷ key.now ∷ s.1 in
    let plain = subst (λ (asked : List Text). AllByRecursion IsPlainWord
    (log.now ∷ file.now ∷ zone.now ∷ key.now ∷ asked)) w.8 (recursion_from_All IsPlainWord asked s.3) in
    rw s.2 (rw w.8 (read_line (audit_read log.now file.now zone.now key.now w.0 w.1 w.2 w.3 w.4 w.5 w.6 w.7) s.0
    (line.Audit log file zone key rider day pickup from to by attendant companions) plain (
      refl,
      refl,
      refl,
      refl,
      refl,
      (w.0, refl, w.9),
      (
        (w.1, refl, w.10),
        (w.2, refl, w.11),
        (w.3, refl, w.12),
        (w.4, refl, w.13),
        (w.5, refl, w.14),
        (w.6, refl, w.15),
        (w.7, refl, w.16),
      ),
    )))
