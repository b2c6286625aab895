-- The text of a rule settles the offsets of its zone.
use Rattle.std.proofs.Common.{◌≡◌, ℕ, ℤ, Bool, true, false, List, Option, Some, None, option_map, unwrap_or}
use Rattle.std.proofs.Common.{IsTrue, if◌then◌else◌, refl, sym, ap, ◌∙◌}
use Rattle.std.proofs.Props.{props}
use mathlib.Core.HLevel.{is_prop→PathP}
use Rattle.jiff_core.specs.Calendar.{IsWithin}
use Rattle.jiff_core.specs.Timestamp.{IsOffsetSeconds}
use Rattle.jiff_core.specs.declared.Offset.{Offset}
use Rattle.jiff_tz.specs.PosixDay.{is_rule_day}
use Rattle.jiff_tz.specs.PosixRule.{dst_at_by, in_window, match_some, utc_window}
use Rattle.jiff_tz.specs.PosixText.{day_time_view, dst_view, tz_view}
use Rattle.jiff_tz.specs.Year.{year_of_nanos}
use Rattle.jiff_tz.specs.Zone.{offset_at}
use Rattle.jiff_tz.specs.declared.posix.DayTime.{DayTime}
use Rattle.jiff_tz.specs.declared.posix.Dst.{Dst}
use Rattle.jiff_tz.specs.declared.posix.TimeZone.{TimeZone as Rule}
use Rattle.jiff_tz.specs.declared.timezone.TimeZone.{TimeZone}
use Rattle.jiff_tz.specs.declared.timezone.TimeZone.TheVariants.{UTC, Unknown, Fixed, Posix, Tzif}
use Rattle.jiff.specs.Placed.{IsPosixZone}

same_offset : (a b : Offset) → a.seconds ≡ b.seconds → a ≡ b
same_offset a b e = λ i. record {
  seconds = e i;
  in_range = is_prop→PathP (λ j. IsOffsetSeconds (e j)) (λ j. hlevel props) a.in_range b.in_range i;
}

same_day_time : (a b : DayTime) → day_time_view a ≡ day_time_view b → a ≡ b
same_day_time a b e = λ i. record {
  date = (e i).0;
  time = (e i).1;
  date_in = is_prop→PathP (λ j. IsTrue (is_rule_day (e j).0)) (λ j. hlevel props) a.date_in b.date_in i;
  time_in = is_prop→PathP (λ j. IsWithin 604_799 (e j).1) (λ j. hlevel props) a.time_in b.time_in i;
}

same_window : (a b : Dst) (s t : Offset) (year : ℤ) → dst_view a ≡ dst_view b → s ≡ t
    → utc_window a year s ≡ utc_window b year t
unfolding utc_window
same_window a b s t year views same =
    let offset = same_offset a.offset b.offset (ap (λ v. v.seconds) views) in
    let start = same_day_time a.rule.start b.rule.start (ap (λ v. v.start) views) in
    let end = same_day_time a.rule.end b.rule.end (ap (λ v. v.finish) views) in
    rw (offset, start, end, same) refl

same_choice : (a b : Dst) (s t : Offset) (c d : Bool) → a.offset ≡ b.offset → s ≡ t → c ≡ d
    → match_some (if c then Some a else None) s (λ x. x.offset)
    ≡ match_some (if d then Some b else None) t (λ x. x.offset)
same_choice a b s t true true offset same e = offset
same_choice a b s t false false offset same e = same
same_choice a b s t true false offset same e = absurd (cc)
same_choice a b s t false true offset same e = absurd (cc)

same_by : (s t : Offset) (a b : Option Dst) (n : ℤ) → s ≡ t → option_map dst_view a ≡ option_map dst_view b
    → match_some (dst_at_by s a n) s (λ x. x.offset) ≡ match_some (dst_at_by t b n) t (λ x. x.offset)
same_by s t None None n same views = same
same_by s t None (Some b) n same views = absurd (cc)
same_by s t (Some a) None n same views = absurd (cc)
same_by s t (Some a) (Some b) n same views =
    let view = ap (λ o. unwrap_or o (dst_view a)) views in
    let window = same_window a b s t (year_of_nanos n) view same in
    let offset = same_offset a.offset b.offset (ap (λ v. v.seconds) view) in
    same_choice a b s t _ _ offset same (ap (λ w. in_window w n) window)

-- two zones whose rules read alike
same_rule : (a b : Rule) (n : ℤ) → tz_view a ≡ tz_view b → offset_at (Posix a) n ≡ offset_at (Posix b) n
unfolding offset_at
same_rule a b n views =
    let standard = same_offset a.std_offset b.std_offset (ap (λ v. v.std_seconds) views) in
    ap (λ o. o.seconds) (same_by a.std_offset b.std_offset a.dst b.dst n standard (ap (λ v. v.dst) views))

-- the zones of one rule have one offset at an instant
pub offset_at-rule : (text : List ℕ) (y z : TimeZone) (n : ℤ) → IsPosixZone text y → IsPosixZone text z
    → offset_at y n ≡ offset_at z n
offset_at-rule text (Posix a) (Posix b) n reads reads_too =
    let same = sym reads ∙ reads_too in
    same_rule a b n (ap (λ o. unwrap_or o (tz_view a)) same)
offset_at-rule text (Posix a) UTC n reads other = absurd other
offset_at-rule text (Posix a) Unknown n reads other = absurd other
offset_at-rule text (Posix a) (Fixed o) n reads other = absurd other
offset_at-rule text (Posix a) (Tzif z) n reads other = absurd other
offset_at-rule text UTC z n none reads = absurd none
offset_at-rule text Unknown z n none reads = absurd none
offset_at-rule text (Fixed o) z n none reads = absurd none
offset_at-rule text (Tzif t) z n none reads = absurd none
