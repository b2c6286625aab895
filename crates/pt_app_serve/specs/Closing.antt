-- How a client whose whole reply was written is left.
use Rattle.std.specs.Prelude.{◌⊎◌, Bool, true, false}

-- The client of a stream was seen off: it can see that no more is sent, and what it still sent was dropped. Or the stream
-- could not be asked to send no more, as one that is broken.
abbrev pub IsSeenOff : {S : Type 0} → (S → Bool → Type 0) → (S → Type 0) → S → Type 0
IsSeenOff Ends Drops stream = (Ends stream true × Drops stream) ⊎ Ends stream false
