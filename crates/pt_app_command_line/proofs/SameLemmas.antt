-- Words name at most one task.
use Rattle.std.proofs.Common.{◌≡◌, ◌∙◌, List, [], None, Some, ap, arith, codes, false, refl, subst, sym, true}
use Rattle.std.specs.Int.{from_bool}
use Rattle.std.specs.Prelude.{Bool, ℕ, Option, unwrap_or}
use Rattle.clap.specs.Words.{Row, Text}
use Rattle.pt_base_values.proofs.DayLemmas.{day_from-known}
use Rattle.pt_base_values.specs.SpelledDay.{SpellsDay, day_from}
use Rattle.pt_base_values.specs.declared.trip.Wish.{Wish}
use Rattle.pt_app_command_line.proofs.LineLemmas.{name_of, named, other}
use Rattle.pt_app_command_line.specs.Line.{Asks, AsksOf, HasDay, HasNumber, HasWish, HasWord, HasWordThat, IsByWord}
use Rattle.pt_app_command_line.specs.Line.{IsLine, IsMinuteWord, IsSameLine, wish_of}
use Rattle.pt_app_command_line.specs.declared.asked.Line.{Line}
use Rattle.pt_app_command_line.specs.declared.asked.Line.TheVariants as line

same_word : (rows : List Row) (place word read : Text) → HasWord rows place word → HasWord rows place read → read ≡ word
same_word rows place word read has also = cc (has, also)

same_number : (rows : List Row) (place : Text) (least most number read : ℕ) → HasNumber rows place least most number
    → HasNumber rows place least most read → read ≡ number
same_number rows place least most number read has also =
    let word : also.0 ≡ has.0 = same_word rows place has.0 also.0 has.1 also.1 in
    cc (word, has.2.0.2, also.2.0.2)

same_day : (rows : List Row) (place : Text) (day read : ℕ) → HasDay rows place day → HasDay rows place read → read ≡ day
same_day rows place day read has also =
    let word : also.0 ≡ has.0 = same_word rows place has.0 also.0 has.1 also.1 in
    let one : day_from has.0 ≡ Some day = day_from-known has.0 day has.2 in
    let two : day_from has.0 ≡ Some read = day_from-known has.0 read (subst (λ text. SpellsDay text read) word also.2) in
    cc (one, two)

-- `none` is not a number
never_none : (minute : ℕ) → IsMinuteWord (codes "none") minute → ⊥
never_none minute is = let digit = is.0.0.1.0 in omega (arith, digit)

same_minute : (word : Text) (by read : Option ℕ) → IsByWord word by → IsByWord word read → read ≡ by
same_minute word (Some minute) (Some other) has also = ap Some (cc (has.0.2, also.0.2))
same_minute word None None has also = refl
same_minute word (Some minute) None has also = absurd (never_none minute (subst (λ text. IsMinuteWord text minute) also has))
same_minute word None (Some other) has also = absurd (never_none other (subst (λ text. IsMinuteWord text other) has also))

same_by : (rows : List Row) (place : Text) (by read : Option ℕ) → HasWordThat rows place (λ word. IsByWord word by)
    → HasWordThat rows place (λ word. IsByWord word read) → read ≡ by
same_by rows place by read has also =
    let word : also.0 ≡ has.0 = same_word rows place has.0 also.0 has.1 also.1 in
    same_minute has.0 by read has.2 (subst (λ text. IsByWord text read) word also.2)

same_truth : (truth read : Bool) → from_bool read ≡ from_bool truth → read ≡ truth
same_truth true true e = refl
same_truth false false e = refl
same_truth true false e = absurd (omega (arith, e))
same_truth false true e = absurd (omega (arith, e))

same_fields : (wish read : Wish) → read.day ≡ wish.day → read.pickup ≡ wish.pickup → read.from ≡ wish.from
    → read.to ≡ wish.to → read.by ≡ wish.by → read.attendant ≡ wish.attendant → read.companions ≡ wish.companions
    → read ≡ wish
same_fields wish read day pickup from to by attendant companions =
    let same : wish_of read.day read.pickup read.from read.to read.by read.attendant read.companions
    ≡ wish_of wish.day wish.pickup wish.from wish.to wish.by wish.attendant wish.companions = cc in
    same

same_wish : (rows : List Row) (wish read : Wish) → HasWish rows wish → HasWish rows read → read ≡ wish
same_wish rows wish read has also =
    same_fields wish read (same_day rows _ _ _ has.0 also.0) (same_number rows _ _ _ _ _ has.1 also.1)
    (same_number rows _ _ _ _ _ has.2 also.2) (same_number rows _ _ _ _ _ has.3 also.3)
    (same_by rows _ _ _ has.4 also.4)
    (same_truth _ _ (same_number rows _ _ _ _ _ has.5 also.5)) (same_number rows _ _ _ _ _ has.6 also.6)

same_asked : (name : Text) (rows : List Row) (asked read : Line) → Asks name rows asked → Asks name rows read
    → IsSameLine asked read
same_asked name rows (line.Rehearse key) (line.Rehearse read_key) asks reads = same_word rows _ _ _ asks.1 reads.1
same_asked name rows (line.Init file key) (line.Init read_file read_key) asks reads =
    (same_word rows _ _ _ asks.1 reads.1, same_word rows _ _ _ asks.2 reads.2)
same_asked name rows (line.Migrate file) (line.Migrate read_file) asks reads = same_word rows _ _ _ asks.1 reads.1
same_asked name rows (line.Serve file zone port count) (line.Serve file_read zone_read port_read count_read) asks reads = (
  same_word rows _ _ _ asks.1 reads.1,
  same_word rows _ _ _ asks.2 reads.2,
  same_number rows _ _ _ _ _ asks.3 reads.3,
  same_number rows _ _ _ _ _ asks.4 reads.4,
)
same_asked name rows (line.Travel file zone key number day csv) (line.Travel file_read zone_read key_read count on table) asks reads = (
  same_word rows _ _ _ asks.1 reads.1,
  same_word rows _ _ _ asks.2 reads.2,
  same_word rows _ _ _ asks.3 reads.3,
  same_number rows _ _ _ _ _ asks.4 reads.4,
  same_day rows _ _ _ asks.5 reads.5,
  same_word rows _ _ _ asks.6 reads.6,
)
same_asked name rows (line.Manifest file zone key vehicle day) (line.Manifest file_read zone_read key_read van on) asks reads = (
  same_word rows _ _ _ asks.1 reads.1,
  same_word rows _ _ _ asks.2 reads.2,
  same_word rows _ _ _ asks.3 reads.3,
  same_number rows _ _ _ _ _ asks.4 reads.4,
  same_day rows _ _ _ asks.5 reads.5,
)
same_asked name rows (line.Trips file zone key day) (line.Trips file_read zone_read key_read on) asks reads = (
  same_word rows _ _ _ asks.1 reads.1,
  same_word rows _ _ _ asks.2 reads.2,
  same_word rows _ _ _ asks.3 reads.3,
  same_day rows _ _ _ asks.4 reads.4,
)
same_asked name rows (line.Explain file zone key rider day pickup from to by attendant companions) (line.Explain file_read zone_read key_read who on when start end latest escort others) asks reads = (
  same_word rows _ _ _ asks.1 reads.1,
  same_word rows _ _ _ asks.2 reads.2,
  same_word rows _ _ _ asks.3 reads.3,
  same_number rows _ _ _ _ _ asks.4 reads.4,
  same_wish rows _ _ asks.5 reads.5,
)
same_asked name rows (line.Audit log file zone key rider day pickup from to by attendant companions) (line.Audit log_read file_read zone_read key_read who on when start end latest escort others) asks reads = (
  same_word rows _ _ _ asks.1 reads.1,
  same_word rows _ _ _ asks.2 reads.2,
  same_word rows _ _ _ asks.3 reads.3,
  same_word rows _ _ _ asks.4 reads.4,
  same_number rows _ _ _ _ _ asks.5 reads.5,
  same_wish rows _ _ asks.6 reads.6,
)
same_asked name rows asked read asks reads =
    absurd (other (name_of asked) (name_of read) refl (sym (named name rows asked asks) ∙ named name rows read reads))

same_of : (found : Option (Text × List Row)) (asked read : Line) → AsksOf found asked → AsksOf found read
    → IsSameLine asked read
same_of found asked read asks reads =
    let both = sym reads.2 ∙ asks.2 in
    let name : reads.0 ≡ asks.0 = ap (λ (o : Option (Text × List Row)). (unwrap_or o ([], [])).0) both in
    let rows : reads.1 ≡ asks.1 = ap (λ (o : Option (Text × List Row)). (unwrap_or o ([], [])).1) both in
    same_asked asks.0 asks.1 asked read asks.3
    (subst (λ (text : Text). Asks text asks.1 read) name (subst (λ (held : List Row). Asks reads.0 held read) rows reads.3))

-- the task that was read is the one that the words name
pub same_line : (words : List Text) (asked read : Line) → IsLine words asked → IsLine words read → IsSameLine asked read
same_line words asked read asks reads = same_of _ asked read asks.1 reads.1
