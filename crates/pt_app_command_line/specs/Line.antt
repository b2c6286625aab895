-- The task that the words at the places of a command name.
use Rattle.std.specs.Prelude.{◌≡◌, ◌≢◌, ◌≤◌, ℕ, All, Bool, List, [], ◌∷◌, codes, Option, None, Some, slice_get}
use Rattle.std.specs.Int.{from_bool}
use Rattle.clap.specs.Words.{Row, Text, fault_of, first_of, subcommand_of}
use Rattle.pt_base_values.specs.Ranges.{last_minute}
use Rattle.pt_base_values.specs.SpelledDay.{SpellsDay}
use Rattle.pt_base_values.specs.SpelledNumber.{SpellsNumber}
use Rattle.pt_base_values.specs.declared.trip.Wish.{Wish}
use Rattle.pt_app_command_line.specs.CommandLine.{desk_words}
use Rattle.pt_app_command_line.specs.declared.asked.Line.{Line}
use Rattle.pt_app_command_line.specs.declared.asked.Line.TheVariants as line
use Rattle.pt_app_command_line.specs.declared.asked.Task.{Task}
use Rattle.pt_app_command_line.specs.declared.asked.Task.TheVariants as task

-- this word is at this place of a command
abbrev pub HasWord : List Row → Text → Text → Type 0
HasWord rows place word = first_of place rows ≡ Some word

-- the word at this place has this property
abbrev pub HasWordThat : List Row → Text → (Text → Type 0) → Type 0
HasWordThat rows place Fits = (word : Text) × HasWord rows place word × Fits word

-- one to ten digits spell this number, which is in this range
abbrev pub IsNumberWord : ℕ → ℕ → Text → ℕ → Type 0
IsNumberWord least most word number = SpellsNumber 10 most word number × (least ≤ number)

-- this number is at this place
abbrev pub HasNumber : List Row → Text → ℕ → ℕ → ℕ → Type 0
HasNumber rows place least most number = HasWordThat rows place (λ word. IsNumberWord least most word number)

-- this day is at this place
abbrev pub HasDay : List Row → Text → ℕ → Type 0
HasDay rows place day = HasWordThat rows place (λ word. SpellsDay word day)

-- the greatest number of a record or of a request
abbrev pub last_number : ℕ
last_number = 4_294_967_295

-- the number of a rider, a place or a vehicle
abbrev pub IsRecordWord : Text → ℕ → Type 0
IsRecordWord word number = IsNumberWord 1 last_number word number

-- a minute of the day
abbrev pub IsMinuteWord : Text → ℕ → Type 0
IsMinuteWord word minute = IsNumberWord 0 last_minute word minute

-- the minute by which the rider must be there, or `none`
abbrev pub IsByWord : Text → Option ℕ → Type 0
IsByWord word (Some minute) = IsMinuteWord word minute
IsByWord word None = word ≡ codes "none"

-- 1 if an attendant comes along, 0 if not
abbrev pub IsAttendantWord : Text → Bool → Type 0
IsAttendantWord word attendant = IsNumberWord 0 1 word (from_bool attendant)

-- the number of companions
abbrev pub IsCompanionsWord : Text → ℕ → Type 0
IsCompanionsWord word companions = IsNumberWord 0 255 word companions

-- this wish is at its places
abbrev pub HasWish : List Row → Wish → Type 0
HasWish rows wish =
    HasDay rows (codes "DAY") wish.day
    × HasWordThat rows (codes "WISH") (λ word. IsMinuteWord word wish.pickup)
    × HasWordThat rows (codes "FROM") (λ word. IsRecordWord word wish.from)
    × HasWordThat rows (codes "TO") (λ word. IsRecordWord word wish.to)
    × HasWordThat rows (codes "BY") (λ word. IsByWord word wish.by)
    × HasWordThat rows (codes "ATTENDANT") (λ word. IsAttendantWord word wish.attendant)
    × HasWordThat rows (codes "COMPANIONS") (λ word. IsCompanionsWord word wish.companions)

-- the wish of these words
abbrev pub wish_of : ℕ → ℕ → ℕ → ℕ → Option ℕ → Bool → ℕ → Wish
wish_of day pickup from to by attendant companions = record {
  day = day;
  pickup = pickup;
  from = from;
  to = to;
  by = by;
  attendant = attendant;
  companions = companions;
}

-- the task for the desk in a file that a command names, if it asks one
abbrev pub task_of : Line → Option Task
task_of (line.Travel file zone key number day csv) = Some (task.Travel number day csv)
task_of (line.Manifest file zone key vehicle day) = Some (task.Manifest vehicle day)
task_of (line.Trips file zone key day) = Some (task.Trips day)
task_of (line.Explain file zone key rider day pickup from to by attendant companions) =
    Some (task.Explain rider (wish_of day pickup from to by attendant companions))
task_of (line.Audit log file zone key rider day pickup from to by attendant companions) =
    Some (task.Audit log rider (wish_of day pickup from to by attendant companions))
task_of (line.Rehearse key) = None
task_of (line.Init file key) = None
task_of (line.Migrate file) = None
task_of (line.Serve file zone port count) = None

-- the command of this name, with these words at its places, names this task
abbrev pub Asks : Text → List Row → Line → Type 0
Asks name rows (line.Rehearse key) = (name ≡ codes "rehearse") × HasWord rows (codes "KEY") key.now
Asks name rows (line.Init file key) =
    (name ≡ codes "init") × HasWord rows (codes "FILE") file.now × HasWord rows (codes "KEY") key.now
Asks name rows (line.Migrate file) = (name ≡ codes "migrate") × HasWord rows (codes "FILE") file.now
Asks name rows (line.Serve file zone port count) =
    (name ≡ codes "serve") × HasWord rows (codes "FILE") file.now × HasWord rows (codes "ZONE") zone.now
    × HasNumber rows (codes "PORT") 1 65_535 port × HasNumber rows (codes "COUNT") 1 1_000_000 count
Asks name rows (line.Travel file zone key number day csv) =
    (name ≡ codes "travel") × HasWord rows (codes "FILE") file.now × HasWord rows (codes "ZONE") zone.now
    × HasWord rows (codes "KEY") key.now × HasNumber rows (codes "NUMBER") 0 last_number number
    × HasDay rows (codes "DAY") day × HasWord rows (codes "CSV") csv.now
Asks name rows (line.Manifest file zone key vehicle day) =
    (name ≡ codes "manifest") × HasWord rows (codes "FILE") file.now × HasWord rows (codes "ZONE") zone.now
    × HasWord rows (codes "KEY") key.now × HasNumber rows (codes "VEHICLE") 1 last_number vehicle
    × HasDay rows (codes "DAY") day
Asks name rows (line.Trips file zone key day) =
    (name ≡ codes "trips") × HasWord rows (codes "FILE") file.now × HasWord rows (codes "ZONE") zone.now
    × HasWord rows (codes "KEY") key.now × HasDay rows (codes "DAY") day
Asks name rows (line.Explain file zone key rider day pickup from to by attendant companions) =
    (name ≡ codes "explain") × HasWord rows (codes "FILE") file.now × HasWord rows (codes "ZONE") zone.now
    × HasWord rows (codes "KEY") key.now
    × HasWordThat rows (codes "RIDER") (λ word. IsRecordWord word rider) × HasWish rows (wish_of day pickup from to by attendant companions)
Asks name rows (line.Audit log file zone key rider day pickup from to by attendant companions) =
    (name ≡ codes "audit") × HasWord rows (codes "LOG") log.now × HasWord rows (codes "FILE") file.now
    × HasWord rows (codes "ZONE") zone.now × HasWord rows (codes "KEY") key.now
    × HasWordThat rows (codes "RIDER") (λ word. IsRecordWord word rider) × HasWish rows (wish_of day pickup from to by attendant companions)

-- the command that was found names this task
abbrev pub AsksOf : Option (Text × List Row) → Line → Type 0
AsksOf found asked = (name : Text) × (rows : List Row) × (found ≡ Some (name, rows)) × Asks name rows asked

-- the words are a command with each word in the range of its place, and name this task
abbrev pub IsLine : List Text → Line → Type 0
IsLine words asked = (fault_of desk_words words ≡ []) × AsksOf (subcommand_of desk_words words) asked

-- a word that does not begin with a hyphen
abbrev pub IsPlainWord : Text → Type 0
IsPlainWord word = slice_get word 0 ≢ Some 45

-- the words are a rider's number and wish: the day, the minute, the two places, the latest minute, and who comes along
abbrev pub SpellsWish : List Text → ℕ → Wish → Type 0
SpellsWish words rider wish =
    (who day pickup from to by attendant companions : Text)
    × (words ≡ who ∷ day ∷ pickup ∷ from ∷ to ∷ by ∷ attendant ∷ companions ∷ [])
    × IsRecordWord who rider × SpellsDay day wish.day × IsMinuteWord pickup wish.pickup
    × IsRecordWord from wish.from × IsRecordWord to wish.to × IsByWord by wish.by
    × IsAttendantWord attendant wish.attendant × IsCompanionsWord companions wish.companions

-- The words are the program's name, a command and the words at its places, and name this task. No word at a place
-- begins with a hyphen.
abbrev pub SpellsLine : List Text → Line → Type 0
SpellsLine words (line.Rehearse key) =
    (program : Text) × (words ≡ program ∷ codes "rehearse" ∷ key.now ∷ []) × IsPlainWord key.now
SpellsLine words (line.Init file key) =
    (program : Text) × (words ≡ program ∷ codes "init" ∷ file.now ∷ key.now ∷ [])
    × IsPlainWord file.now × IsPlainWord key.now
SpellsLine words (line.Migrate file) =
    (program : Text) × (words ≡ program ∷ codes "migrate" ∷ file.now ∷ []) × IsPlainWord file.now
SpellsLine words (line.Serve file zone port count) =
    (program first second : Text)
    × (words ≡ program ∷ codes "serve" ∷ file.now ∷ zone.now ∷ first ∷ second ∷ [])
    × IsPlainWord file.now × IsPlainWord zone.now × IsPlainWord first × IsPlainWord second
    × IsNumberWord 1 65_535 first port × IsNumberWord 1 1_000_000 second count
SpellsLine words (line.Travel file zone key number day csv) =
    (program first second : Text)
    × (words ≡ program ∷ codes "travel" ∷ file.now ∷ zone.now ∷ key.now ∷ first ∷ second ∷ csv.now ∷ [])
    × IsPlainWord file.now × IsPlainWord zone.now × IsPlainWord key.now × IsPlainWord first × IsPlainWord second
    × IsPlainWord csv.now × IsNumberWord 0 last_number first number × SpellsDay second day
SpellsLine words (line.Manifest file zone key vehicle day) =
    (program first second : Text)
    × (words ≡ program ∷ codes "manifest" ∷ file.now ∷ zone.now ∷ key.now ∷ first ∷ second ∷ [])
    × IsPlainWord file.now × IsPlainWord zone.now × IsPlainWord key.now × IsPlainWord first × IsPlainWord second
    × IsRecordWord first vehicle × SpellsDay second day
SpellsLine words (line.Trips file zone key day) =
    (program first : Text)
    × (words ≡ program ∷ codes "trips" ∷ file.now ∷ zone.now ∷ key.now ∷ first ∷ [])
    × IsPlainWord file.now × IsPlainWord zone.now × IsPlainWord key.now × IsPlainWord first × SpellsDay first day
SpellsLine words (line.Explain file zone key rider day pickup from to by attendant companions) =
    (program : Text) × (asked : List Text)
    × (words ≡ program ∷ codes "explain" ∷ file.now ∷ zone.now ∷ key.now ∷ asked)
    × All IsPlainWord (file.now ∷ zone.now ∷ key.now ∷ asked) × SpellsWish asked rider (wish_of day pickup from to by attendant companions)
SpellsLine words (line.Audit log file zone key rider day pickup from to by attendant companions) =
    (program : Text) × (asked : List Text)
    × (words ≡ program ∷ codes "audit" ∷ log.now ∷ file.now ∷ zone.now ∷ key.now ∷ asked)
    × All IsPlainWord (log.now ∷ file.now ∷ zone.now ∷ key.now ∷ asked) × SpellsWish asked rider (wish_of day pickup from to by attendant companions)

-- both name the same task
abbrev pub IsSameLine : Line → Line → Type 0
IsSameLine (line.Rehearse key) (line.Rehearse read_key) = read_key.now ≡ key.now
IsSameLine (line.Init file key) (line.Init read_file read_key) = (read_file.now ≡ file.now) × (read_key.now ≡ key.now)
IsSameLine (line.Migrate file) (line.Migrate read_file) = read_file.now ≡ file.now
IsSameLine (line.Serve file zone port count) (line.Serve read_file read_zone read_port read_count) =
    (read_file.now ≡ file.now) × (read_zone.now ≡ zone.now) × (read_port ≡ port) × (read_count ≡ count)
IsSameLine (line.Travel file zone key number day csv) (line.Travel file_read zone_read key_read count on table) =
    (file_read.now ≡ file.now) × (zone_read.now ≡ zone.now) × (key_read.now ≡ key.now) × (count ≡ number)
    × (on ≡ day) × (table.now ≡ csv.now)
IsSameLine (line.Manifest file zone key vehicle day) (line.Manifest file_read zone_read key_read van on) =
    (file_read.now ≡ file.now) × (zone_read.now ≡ zone.now) × (key_read.now ≡ key.now) × (van ≡ vehicle)
    × (on ≡ day)
IsSameLine (line.Trips file zone key day) (line.Trips read_file read_zone read_key read_day) =
    (read_file.now ≡ file.now) × (read_zone.now ≡ zone.now) × (read_key.now ≡ key.now) × (read_day ≡ day)
IsSameLine (line.Explain file zone key rider day pickup from to by attendant companions) (line.Explain read_file read_zone read_key who on when start end latest escort others) =
    (read_file.now ≡ file.now) × (read_zone.now ≡ zone.now) × (read_key.now ≡ key.now) × (who ≡ rider)
    × (wish_of on when start end latest escort others ≡ wish_of day pickup from to by attendant companions)
IsSameLine (line.Audit log file zone key rider day pickup from to by attendant companions) (line.Audit read_log read_file read_zone read_key who on when start end latest escort others) =
    (read_log.now ≡ log.now) × (read_file.now ≡ file.now) × (read_zone.now ≡ zone.now) × (read_key.now ≡ key.now)
    × (who ≡ rider) × (wish_of on when start end latest escort others ≡ wish_of day pickup from to by attendant companions)
IsSameLine _ _ = ⊥
