-- Reasons in free text.
use Rattle.std.specs.Prelude.{ℕ, ◌≤◌, List, length, All}

-- a byte of printable ASCII, from the space to the tilde
abbrev pub IsPrintable : ℕ → Type 0
IsPrintable byte = (0x20 ≤ byte) × (byte ≤ 0x7E)

-- the most bytes of a text of reasons
abbrev pub longest_reasons : ℕ
longest_reasons = 500

-- 1 to that many bytes of printable ASCII
abbrev pub IsReasons : List ℕ → Type 0
IsReasons bytes = (1 ≤ length bytes) × (length bytes ≤ longest_reasons) × All IsPrintable bytes
