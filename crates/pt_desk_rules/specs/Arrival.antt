-- How a write's number relates to its caller's last accepted write.
use Rattle.std.specs.Prelude.{ℕ, ◌==◌, ◌&&◌, nat_lt, if◌then◌else◌, bytes_eq, List, Option, Some, None}
use Rattle.pt_desk_rules.specs.declared.kept.Arrival.{Arrival}
use Rattle.pt_desk_rules.specs.declared.kept.Arrival.TheVariants.{New, Repeated, Stale}
use Rattle.pt_desk_rules.specs.declared.kept.Kept.{Kept}

-- A caller's numbers rise. A write is new if its number is above that of the last accepted one. It is repeated if it
-- has that one's number and spelling. If none was accepted, each number but 0 is new.
abbrev pub arrival_of : ℕ → List ℕ → Option Kept → Arrival
arrival_of number request None = if nat_lt 0 number then New else Stale
arrival_of number request (Some kept) =
    if nat_lt kept.number number then New
    else (if kept.number == number && bytes_eq kept.request request then Repeated kept.reply else Stale)
