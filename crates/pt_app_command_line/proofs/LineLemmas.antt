-- The task that words at the places of a command name.
use Rattle.std.proofs.Common.{◌≡◌, ◌∙◌, ◌==◌, ◌+◌, ℕ, List, ap, codes, eq-eqb, false, refl, sym, true≢false}
use Rattle.std.specs.Prelude.{slice_index}
use Rattle.clap.specs.Words.{Row, Text}
use Rattle.pt_base_values.specs.declared.trip.Wish.{Wish}
use Rattle.pt_app_command_line.specs.Line.{Asks, HasDay, HasNumber, HasWish, HasWordThat, IsRecordWord, last_number, wish_of}
use Rattle.pt_app_command_line.specs.declared.asked.Line.{Line}
use Rattle.pt_app_command_line.specs.declared.asked.Line.TheVariants as line

-- the name of the command of this line
abbrev pub name_of : Line → Text
name_of (line.Rehearse key) = codes "rehearse"
name_of (line.Init file key) = codes "init"
name_of (line.Migrate file) = codes "migrate"
name_of (line.Serve file zone port count) = codes "serve"
name_of (line.Travel file zone key number day csv) = codes "travel"
name_of (line.Manifest file zone key vehicle day) = codes "manifest"
name_of (line.Trips file zone key day) = codes "trips"
name_of (line.Explain file zone key rider day pickup from to by attendant companions) = codes "explain"
name_of (line.Audit log file zone key rider day pickup from to by attendant companions) = codes "audit"

pub named : (name : Text) (rows : List Row) (asked : Line) → Asks name rows asked → name ≡ name_of asked
named name rows (line.Rehearse key) asks = asks.0
named name rows (line.Init file key) asks = asks.0
named name rows (line.Migrate file) asks = asks.0
named name rows (line.Serve file zone port count) asks = asks.0
named name rows (line.Travel file zone key number day csv) asks = asks.0
named name rows (line.Manifest file zone key vehicle day) asks = asks.0
named name rows (line.Trips file zone key day) asks = asks.0
named name rows (line.Explain file zone key rider day pickup from to by attendant companions) asks = asks.0
named name rows (line.Audit log file zone key rider day pickup from to by attendant companions) asks = asks.0

-- a number that distinguishes the names of the commands
abbrev mark : Text → ℕ
mark name = slice_index name 0 + slice_index name 3

pub other : (name also : Text) → (mark name == mark also) ≡ false → name ≡ also → ⊥
other name also differ same = true≢false (sym (eq-eqb (mark name) (mark also) (ap mark same)) ∙ differ)

pub serve_port : (rows : List Row) (asked : Line) → Asks (codes "serve") rows asked
    → (port : ℕ) × HasNumber rows (codes "PORT") 1 65_535 port
serve_port rows (line.Serve file zone port count) asks = (port, asks.3)
serve_port rows asked asks = absurd (other _ (name_of asked) refl (named _ rows asked asks))

pub serve_count : (rows : List Row) (asked : Line) → Asks (codes "serve") rows asked
    → (count : ℕ) × HasNumber rows (codes "COUNT") 1 1_000_000 count
serve_count rows (line.Serve file zone port count) asks = (count, asks.4)
serve_count rows asked asks = absurd (other _ (name_of asked) refl (named _ rows asked asks))

pub travel_number : (rows : List Row) (asked : Line) → Asks (codes "travel") rows asked
    → (number : ℕ) × HasNumber rows (codes "NUMBER") 0 last_number number
travel_number rows (line.Travel file zone key number day csv) asks = (number, asks.4)
travel_number rows asked asks = absurd (other _ (name_of asked) refl (named _ rows asked asks))

pub travel_day : (rows : List Row) (asked : Line) → Asks (codes "travel") rows asked
    → (day : ℕ) × HasDay rows (codes "DAY") day
travel_day rows (line.Travel file zone key number day csv) asks = (day, asks.5)
travel_day rows asked asks = absurd (other _ (name_of asked) refl (named _ rows asked asks))

pub manifest_vehicle : (rows : List Row) (asked : Line) → Asks (codes "manifest") rows asked
    → (vehicle : ℕ) × HasNumber rows (codes "VEHICLE") 1 last_number vehicle
manifest_vehicle rows (line.Manifest file zone key vehicle day) asks = (vehicle, asks.4)
manifest_vehicle rows asked asks = absurd (other _ (name_of asked) refl (named _ rows asked asks))

pub manifest_day : (rows : List Row) (asked : Line) → Asks (codes "manifest") rows asked
    → (day : ℕ) × HasDay rows (codes "DAY") day
manifest_day rows (line.Manifest file zone key vehicle day) asks = (day, asks.5)
manifest_day rows asked asks = absurd (other _ (name_of asked) refl (named _ rows asked asks))

pub trips_day : (rows : List Row) (asked : Line) → Asks (codes "trips") rows asked
    → (day : ℕ) × HasDay rows (codes "DAY") day
trips_day rows (line.Trips file zone key day) asks = (day, asks.4)
trips_day rows asked asks = absurd (other _ (name_of asked) refl (named _ rows asked asks))

pub explain_rider : (rows : List Row) (asked : Line) → Asks (codes "explain") rows asked
    → (rider : ℕ) × HasWordThat rows (codes "RIDER") (λ word. IsRecordWord word rider)
explain_rider rows (line.Explain file zone key rider day pickup from to by attendant companions) asks = (rider, asks.4)
explain_rider rows asked asks = absurd (other _ (name_of asked) refl (named _ rows asked asks))

pub explain_wish : (rows : List Row) (asked : Line) → Asks (codes "explain") rows asked
    → (wish : Wish) × HasWish rows wish
explain_wish rows (line.Explain file zone key rider day pickup from to by attendant companions) asks = (wish_of day pickup from to by attendant companions, asks.5)
explain_wish rows asked asks = absurd (other _ (name_of asked) refl (named _ rows asked asks))

pub audit_rider : (rows : List Row) (asked : Line) → Asks (codes "audit") rows asked
    → (rider : ℕ) × HasWordThat rows (codes "RIDER") (λ word. IsRecordWord word rider)
audit_rider rows (line.Audit log file zone key rider day pickup from to by attendant companions) asks = (rider, asks.5)
audit_rider rows asked asks = absurd (other _ (name_of asked) refl (named _ rows asked asks))

pub audit_wish : (rows : List Row) (asked : Line) → Asks (codes "audit") rows asked
    → (wish : Wish) × HasWish rows wish
audit_wish rows (line.Audit log file zone key rider day pickup from to by attendant companions) asks = (wish_of day pickup from to by attendant companions, asks.6)
audit_wish rows asked asks = absurd (other _ (name_of asked) refl (named _ rows asked asks))
