use Rattle.std.proofs.Common.{refl}
use Rattle.pt_http_reply.proofs.trips.trip_object.Goals as goal

pub returns : goal.returns
returns c =
    rw (
      c.object.ensures.text,
      c.minute_or_null.ensures.text,
      c.from.ensures,
      c.as_bytes.ensures.value,
      c.status_name.ensures.text,
      c.due-due.ensures.value,
      c.party_of.ensures,
      c.number.ensures.value,
      c.number-2.ensures.value,
      c.number-3.ensures.value,
      c.number-4.ensures.value,
      c.number-5.ensures.value,
      c.number-6.ensures.value,
      c.number-7.ensures.value,
    ) refl
