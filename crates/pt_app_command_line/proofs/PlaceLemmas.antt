-- How clap reads plain words at the places of a command.
use Rattle.std.proofs.Common.{◌≡◌, ◌∙◌, ◌+◌, ◌==◌, ◌++◌, ℕ, List, [], ◌∷◌, Option, None, Some, ap, append_assoc, append-nil, false, inl, inr, map, refl, sym, true, true≢false}
use Rattle.std.proofs.lemmas.Bool.Decides.{eqb_tells}
use Rattle.std.specs.Prelude.{◌&&◌, ◌||◌, Bool, find, fold, is_some, min, option_map}
use Rattle.std.specs.List.{AllByRecursion}
use Rattle.std.specs.Option.{option_map_or}
use Rattle.std.specs.Str.{bytes_eq}
use Rattle.clap.specs.Faults.{built_fault, check_fault, defaults_fault, entered_fault, level_fault, settle_fault, turn_fault, walk_fault}
use Rattle.clap.specs.Kinds.{Kinds, or_else}
use Rattle.clap.specs.Lexer.{strip_byte, usize_max}
use Rattle.clap.specs.Simple.{App, Shape, entered, filled, label_of, names_of, rows_at, with_index}
use Rattle.clap.specs.Walk.{Names, Row, Rule, Text, Walk, answers_to, arg_by_id, arg_by_index, finished, has_row, idle}
use Rattle.clap.specs.Walk.{nothing_held, settled, stop_after, walk, walk_from, walked, with_values, without}
use Rattle.clap.specs.Words.{reading_of}
use Rattle.clap.specs.declared.builder.value_parser.ValueParser.TheVariants as parser
use Rattle.clap.specs.declared.parser.matches.ValueSource.TheVariants.{CommandLine}
use Rattle.pt_app_command_line.specs.CommandLine.{place}
use Rattle.pt_app_command_line.specs.Line.{IsPlainWord}

-- what clap finds at a place
abbrev pub row : Text → Text → Row
row place word = record {
  id = place;
  values = word ∷ [];
  count = None;
  source = Some CommandLine;
  reading = reading_of parser.String;
}

-- clap looks for no option in the word
pub record IsNoOption (word : Text) : Type 0 where
  pub none : strip_byte 45 word ≡ None
  pub dashes : bytes_eq word (45 ∷ 45 ∷ []) ≡ false

no_hyphen : (byte : ℕ) (rest : Text) → IsPlainWord (byte ∷ rest) → (byte == 45) ≡ false
no_hyphen byte rest plain = elim (eqb_tells byte 45) [
  | inl same ↦ absurd (plain (ap Some same.1))
  | inr other ↦ other.0
]

-- a plain word is not an option
pub plain : (word : Text) → IsPlainWord word → IsNoOption word
plain [] is = record { none = refl; dashes = refl }
plain (byte ∷ rest) is = record { none = rw (no_hyphen byte rest is) refl; dashes = rw (no_hyphen byte rest is) refl }

-- a level has no fault if its parts have none
pub no_fault : (words below end given wanted : Kinds) → words ≡ [] → below ≡ [] → end ≡ [] → given ≡ [] → wanted ≡ []
    → or_else words (or_else below (or_else end (or_else given wanted))) ≡ []
no_fault words below end given wanted one two three four five = rw (one, two, three, four, five) refl

neither : (first second : Kinds) → first ≡ [] → second ≡ [] → or_else first second ≡ []
neither first second one two = rw (one, two) refl

never : (b : Bool) → (b && false) ≡ false
never true = refl
never false = refl

-- the rule of a place, once its command is built
abbrev pub placed : ℕ → Text → Rule
placed index name = with_index index (filled (place name))

-- the names of places with their words, each at its own place from this one on, and none twice
abbrev pub ArePlaces : List Rule → List Row → ℕ → List (Text × Text) → Type 0
ArePlaces rules rows index [] = Unit
ArePlaces rules rows index (pair ∷ rest) =
    (arg_by_index rules index ≡ Some (placed index pair.0)) × (arg_by_id rules pair.0 ≡ Some (placed index pair.0))
    × (has_row pair.0 rows ≡ false)
    × ArePlaces rules (rows ++ row pair.0 pair.1 ∷ []) (min (index + 1) usize_max) rest

abbrev pub words_of : List (Text × Text) → List Text
words_of pairs = map (λ p. p.1) pairs

-- clap's state after it read a word for a place, before the next place
abbrev pub stand : List Row → ℕ → Text × Text → Walk
stand rows index last = record {
  held = record { rows = rows; pending = Some (last.0, last.1 ∷ []); skip = 0 };
  waiting = idle;
  position = index;
  is_trailing = false;
  stopped = None;
}

-- clap's state after it read the rest
abbrev pub stand_after : List Row → ℕ → Text × Text → List (Text × Text) → Walk
stand_after rows index last [] = stand rows index last
stand_after rows index last (next ∷ rest) =
    stand_after (rows ++ row last.0 last.1 ∷ []) (min (index + 1) usize_max) next rest

neither_true : (a b : Bool) → (a || b) ≡ false → (a ≡ false) × (b ≡ false)
neither_true true b e = absurd (true≢false e)
neither_true false b e = (refl, e)

-- a word at a place that has none yet is a row of its own
row_added : (rows : List Row) (name word : Text) → has_row name rows ≡ false
    → with_values name (reading_of parser.String) CommandLine (word ∷ []) (without name rows) ≡ rows ++ row name word ∷ []
row_added [] name word new = refl
row_added (first ∷ rows) name word new =
    let parts = neither_true (bytes_eq first.id name) (has_row name rows) new in
    rw (parts.0, parts.0) (ap (λ (more : List Row). first ∷ more) (row_added rows name word parts.1))

step : (rules : List Rule) (rows : List Row) (before index : ℕ) (last next : Text × Text)
    → arg_by_id rules last.0 ≡ Some (placed before last.0) → has_row last.0 rows ≡ false
    → arg_by_index rules index ≡ Some (placed index next.0) → IsNoOption next.1
    → walked rules [] (stand rows index last) next.1
    ≡ stand (rows ++ row last.0 last.1 ∷ []) (min (index + 1) usize_max) next
unfolding walked
step rules rows before index last next by_id new at is =
    rw (is.dashes, is.none, is.none, at, never _, by_id, row_added rows last.0 last.1 new) refl

turn : (s : Shape) (rows : List Row) (before index : ℕ) (last next : Text × Text)
    → arg_by_id s.rules last.0 ≡ Some (placed before last.0) → has_row last.0 rows ≡ false
    → arg_by_index s.rules index ≡ Some (placed index next.0) → IsNoOption next.1
    → turn_fault s [] (stand rows index last) next.1 ≡ []
turn s rows before index last next by_id new at is = rw (is.dashes, is.none, is.none, at, never _, by_id, new) refl

first_step : (rules : List Rule) (first : Text × Text) → arg_by_index rules 1 ≡ Some (placed 1 first.0)
    → IsNoOption first.1 → walked rules [] (walk_from nothing_held) first.1 ≡ stand [] 2 first
unfolding walked
first_step rules first at is = rw (is.dashes, is.none, is.none, at) refl

first_turn : (s : Shape) (first : Text × Text) → arg_by_index s.rules 1 ≡ Some (placed 1 first.0)
    → IsNoOption first.1 → turn_fault s [] (walk_from nothing_held) first.1 ≡ []
first_turn s first at is = rw (is.dashes, is.none, is.none, at) refl

-- clap reads each of the rest at its place
stands : (rules : List Rule) (rows : List Row) (before index : ℕ) (last : Text × Text) (rest : List (Text × Text))
    → arg_by_id rules last.0 ≡ Some (placed before last.0) → has_row last.0 rows ≡ false
    → ArePlaces rules (rows ++ row last.0 last.1 ∷ []) index rest → AllByRecursion IsPlainWord (words_of rest)
    → fold (walked rules []) (stand rows index last) (words_of rest) ≡ stand_after rows index last rest
stands rules rows before index last [] by_id new places are = refl
stands rules rows before index last (next ∷ rest) by_id new places are =
    let is = plain next.1 are.0 in
    ap (λ (w : Walk). fold (walked rules []) w (words_of rest))
    (step rules rows before index last next by_id new places.0 is)
    ∙ stands rules (rows ++ row last.0 last.1 ∷ []) index (min (index + 1) usize_max) next rest places.1 places.2
    places.3 are.1

-- clap finds no fault
faultless : (s : Shape) (rows : List Row) (before index : ℕ) (last : Text × Text) (rest : List (Text × Text))
    → arg_by_id s.rules last.0 ≡ Some (placed before last.0) → has_row last.0 rows ≡ false
    → ArePlaces s.rules (rows ++ row last.0 last.1 ∷ []) index rest → AllByRecursion IsPlainWord (words_of rest)
    → walk_fault s [] (stand rows index last) (words_of rest) ≡ []
unfolding walk_fault
faultless s rows before index last [] by_id new places are = refl
faultless s rows before index last (next ∷ rest) by_id new places are =
    let is = plain next.1 are.0 in
    let then = faultless s (rows ++ row last.0 last.1 ∷ []) index (min (index + 1) usize_max) next rest places.1
    places.2 places.3 are.1 in
    neither (turn_fault s [] (stand rows index last) next.1)
    (walk_fault s [] (walked s.rules [] (stand rows index last) next.1) (words_of rest))
    (turn s rows before index last next by_id new places.0 is)
    (ap (λ (w : Walk). walk_fault s [] w (words_of rest)) (step s.rules rows before index last next by_id new places.0 is)
    ∙ then)

-- clap's state after it read plain words for all places
pub all_stand : (rules : List Rule) (first : Text × Text) (rest : List (Text × Text))
    → ArePlaces rules [] 1 (first ∷ rest) → AllByRecursion IsPlainWord (words_of (first ∷ rest))
    → walk rules [] nothing_held (words_of (first ∷ rest)) ≡ stand_after [] 2 first rest
all_stand rules first rest places are =
    let is = plain first.1 are.0 in
    ap (λ (w : Walk). fold (walked rules []) w (words_of rest)) (first_step rules first places.0 is)
    ∙ stands rules [] 1 2 first rest places.1 refl places.3 are.1

-- these words have no fault
all_faultless : (s : Shape) (first : Text × Text) (rest : List (Text × Text))
    → ArePlaces s.rules [] 1 (first ∷ rest) → AllByRecursion IsPlainWord (words_of (first ∷ rest))
    → walk_fault s [] (walk_from nothing_held) (words_of (first ∷ rest)) ≡ []
unfolding walk_fault
all_faultless s first rest places are =
    let is = plain first.1 are.0 in
    neither (turn_fault s [] (walk_from nothing_held) first.1)
    (walk_fault s [] (walked s.rules [] (walk_from nothing_held) first.1) (words_of rest))
    (first_turn s first places.0 is)
    (ap (λ (w : Walk). walk_fault s [] w (words_of rest)) (first_step s.rules first places.0 is)
    ∙ faultless s [] 1 2 first rest places.1 refl places.3 are.1)

-- the rest after all words has no fault
pub record IsEnd (s : Shape) (end : Walk) : Type 0 where
  pub settles : settle_fault s.rules s.args_override_self end.held ≡ []
  pub given : defaults_fault (settled s.rules end.held).rows s.rules ≡ []
  pub wanted : check_fault s (finished s.rules end.held) false ≡ []

pub level_taken : (s : Shape) (first : Text × Text) (rest : List (Text × Text))
    → ArePlaces s.rules [] 1 (first ∷ rest) → AllByRecursion IsPlainWord (words_of (first ∷ rest))
    → IsEnd s (stand_after [] 2 first rest)
    → level_fault s [] nothing_held (words_of (first ∷ rest)) false [] ≡ []
level_taken s first rest places are end =
    let stands = all_stand s.rules first rest places are in
    no_fault _ [] _ _ _ (all_faultless s first rest places are) refl
    (ap (λ (w : Walk). settle_fault s.rules s.args_override_self w.held) stands ∙ end.settles)
    (ap (λ (w : Walk). defaults_fault (settled s.rules w.held).rows s.rules) stands ∙ end.given)
    (ap (λ (w : Walk). check_fault s (finished s.rules w.held) false) stands ∙ end.wanted)

-- clap's state after the name of a command, with the words after it
abbrev pub stop : Text → List Text → Walk
stop name words = record (walk_from nothing_held) { stopped = Some (name, words) }

-- each word after the name is the command's
stops : (rules : List Rule) (names : Names) (name : Text) (before words : List Text)
    → fold (walked rules names) (stop name before) words ≡ stop name (before ++ words)
unfolding walked
stops rules names name before [] = ap (stop name) (sym (append-nil before))
stops rules names name before (word ∷ words) =
    stops rules names name (before ++ word ∷ []) words ∙ ap (stop name) (append_assoc before (word ∷ []) words)

stop_faultless : (s : Shape) (names : Names) (name : Text) (before words : List Text)
    → walk_fault s names (stop name before) words ≡ []
unfolding walk_fault walked
stop_faultless s names name before [] = refl
stop_faultless s names name before (word ∷ words) = stop_faultless s names name (before ++ word ∷ []) words

-- the program has a command of this name, which reads words by this shape, and has no fault before it
pub record HasCommand (a : App) (name : Text) (s : Shape) : Type 0 where
  pub step : walked a.top.rules (names_of a) (walk_from nothing_held) name ≡ stop name []
  pub turn : turn_fault a.top (names_of a) (walk_from nothing_held) name ≡ []
  pub found : find (λ s. answers_to name (label_of s)) a.subs ≡ Some s
  pub given : defaults_fault (settled a.top.rules nothing_held).rows a.top.rules ≡ []
  pub wanted : check_fault a.top (finished a.top.rules nothing_held) true ≡ []

met : (a : App) (name : Text) (s : Shape) (words : List Text) → HasCommand a name s
    → walk a.top.rules (names_of a) nothing_held (name ∷ words) ≡ stop name words
met a name s words has =
    ap (λ (w : Walk). fold (walked a.top.rules (names_of a)) w words) has.step
    ∙ stops a.top.rules (names_of a) name [] words

-- what clap finds in the words of a command
pub command_found : (a : App) (name : Text) (s : Shape) (words : List Text) → HasCommand a name s
    → entered a (stop_after a.top.rules (names_of a) (name ∷ words)) ≡ Some (rows_at s words)
command_found a name s words has =
    ap (λ (w : Walk). entered a w.stopped) (met a name s words has)
    ∙ ap (λ (o : Option Shape). option_map (λ (s : Shape). rows_at s words) o) has.found

met_faultless : (a : App) (name : Text) (s : Shape) (words : List Text) → HasCommand a name s
    → walk_fault a.top (names_of a) (walk_from nothing_held) (name ∷ words) ≡ []
unfolding walk_fault
met_faultless a name s words has =
    neither (turn_fault a.top (names_of a) (walk_from nothing_held) name)
    (walk_fault a.top (names_of a) (walked a.top.rules (names_of a) (walk_from nothing_held) name) words) has.turn
    (ap (λ (w : Walk). walk_fault a.top (names_of a) w words) has.step
    ∙ stop_faultless a.top (names_of a) name [] words)

-- the words of a command have no fault if they have none at its own level
pub command_taken : (a : App) (name : Text) (s : Shape) (words : List Text) → HasCommand a name s
    → level_fault s [] nothing_held words false [] ≡ [] → built_fault a nothing_held (name ∷ words) ≡ []
command_taken a name s words has level =
    let met = met a name s words has in
    let rules = a.top.rules in
    no_fault _ _ _ _ _ (met_faultless a name s words has)
    (ap (λ (w : Walk). entered_fault a w.stopped) met
    ∙ ap (λ (o : Option Shape). option_map_or (λ (s : Shape). level_fault s [] nothing_held words false []) o []) has.found
    ∙ level)
    (ap (λ (w : Walk). settle_fault rules a.top.args_override_self w.held) met)
    (ap (λ (w : Walk). defaults_fault (settled rules w.held).rows rules) met ∙ has.given)
    (ap (λ (w : Walk). check_fault a.top (finished rules w.held) (is_some (entered a w.stopped))) met
    ∙ ap (λ (o : Option Shape). check_fault a.top (finished rules nothing_held) (is_some
    (option_map (λ (s : Shape). rows_at s words) o))) has.found
    ∙ has.wanted)
