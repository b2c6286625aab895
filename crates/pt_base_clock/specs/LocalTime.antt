-- Days and minutes on the clocks of a zone.
use Rattle.std.specs.Prelude.{◌≡◌, ℕ, ◌+◌, ◌*◌, List, IsSome, ℤ, ◌+ℤ◌}
use Rattle.jiff.specs.Placed.{IsPosixZone}
use Rattle.jiff.specs.Types.{DateTime, TimeZone}
use Rattle.jiff.specs.Words.{read_whole, civil_nanos, epoch_day, nanos_of_seconds, offset_at}

-- the text is a time zone rule in the form of the POSIX variable TZ (IEEE Std 1003.1, section 8.3)
abbrev pub IsZoneRule : List ℕ → Type 0
IsZoneRule text = IsSome (read_whole text)

-- At this instant, clocks of the zone with this rule show this minute of this day. They are ahead of UTC by the zone's
-- offset at the instant. Instants count nanoseconds from the beginning of 1970 in UTC; 1 January 1970 is day 0.
pub record IsLocalTime (rule : List ℕ) (instant : ℤ) (day : ℤ) (minute : ℕ) : Type 0 where
  pub zone : TimeZone
  pub has_rule : IsPosixZone rule zone
  pub clock : DateTime
  pub shows : civil_nanos clock ≡ instant +ℤ nanos_of_seconds (offset_at zone instant)
  pub of_day : epoch_day clock.date ≡ day
  pub of_minute : clock.time.hour * 60 + clock.time.minute ≡ minute
