use Rattle.std.proofs.Common.{rules, append_assoc}
use Rattle.pt_manifest.proofs.letters.write_grant.Goals as goal

pub returns : goal.returns
returns c = record {
  text = rw (
    c.in_ok-extend_from_slice-4.ensures.items,
    c.in_ok-extend_from_slice-3.ensures.items,
    c.yes_or_no.ensures,
    c.in_ok-extend_from_slice-2.ensures.items,
    c.in_ok-write_conditions.ensures.text,
    c.in_ok-extend_from_slice.ensures.items,
    c.in_ok-write_day.ensures.text,
  )
      (search (rules, append_assoc));
}
