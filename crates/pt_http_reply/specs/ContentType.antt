-- Media types of replies (RFC 6838; RFC 8259, 2046 and 4180).
use Rattle.std.specs.Prelude.{ℕ, List, codes}
use Rattle.pt_http_reply.specs.declared.content_type.ContentType.{ContentType}
use Rattle.pt_http_reply.specs.declared.content_type.ContentType.TheVariants.{Json, Text, Csv}

-- the media type
abbrev pub type_text : ContentType → List ℕ
type_text Json = codes "application/json"
type_text Text = codes "text/plain"
type_text Csv = codes "text/csv"
