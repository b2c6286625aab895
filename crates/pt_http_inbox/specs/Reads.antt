-- The limits of reads for a request, and of its body.
use Rattle.std.specs.Prelude.{ℕ}

-- the most reads for a request, including those of the moment line before it
abbrev pub most_reads : ℕ
most_reads = 65_536

-- the most bytes that one read asks for
abbrev pub longest_piece : ℕ
longest_piece = 4_096

-- the most bytes of a request's body
abbrev pub longest_body : ℕ
longest_body = 16_384
