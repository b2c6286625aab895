-- Heads at the front of some bytes, and at the front of more.
use Rattle.std.proofs.Common.{◌≡◌, ℕ, ◌≤◌, ◌<◌, ◌+◌, ◌-◌, List, [], ◌∷◌, ◌++◌, length, take, drop, map, All, refl, sym}
use Rattle.std.proofs.Common.{ap, ◌∙◌}
use Rattle.std.proofs.Common.{subst, arith, Option, Some, None, unwrap_or, append_assoc, length-append, length-take}
use Rattle.std.proofs.lemmas.List.{take-append-le, take-append-drop, take-take, drop-take, length-map, append-nil}
use Rattle.std.proofs.lemmas.List.Elements.{All-head, All-tail}
use Rattle.std.proofs.Math.Seq.{drop-append_seam, take-append_seam}
use Rattle.std.specs.Io.KnownBytes.{IsAtEnd}
use Rattle.httparse.specs.Grammar.{RequestHead, HasNoRequest, print_request}
use Rattle.httparse.specs.Spans.{IsRequestAt, IsRequestOf, IsRequestWithin, RequestOverflows, IsWithin, IsHeaderWithin}
use Rattle.httparse.specs.Spans.{span_bytes, header_bytes, name_and_value}
use Rattle.httparse.specs.declared.spans.HeaderSpan.{HeaderSpan}
use Rattle.httparse.specs.declared.spans.RequestSpans.{RequestSpans}
use Rattle.httparse.specs.declared.spans.Span.{Span}
use Rattle.pt_http_inbox.specs.Head.{HasParts, IsHead, IsHeadWithin, HasNoHead, NeverHasHead}
use Rattle.pt_http_inbox.specs.declared.head.Head.{Head}

no_end : (more : List ℕ) → ◌≡◌ {A = Option (List ℕ)} None (Some more) → ⊥
no_end more is = cc

-- what comes after a front
drop-front : (bytes front rest : List ℕ) (count : ℕ) → bytes ≡ front ++ rest → count ≡ length front
    → drop count bytes ≡ rest
drop-front bytes front rest count is size = rw (is, size) (drop-append_seam front rest)

-- the front of a list is the front of what the list begins with, if that is long enough
front_within : (front more text rest : List ℕ) → front ++ more ≡ text ++ rest → length text ≤ length front
    → front ≡ text ++ drop (length text) front
front_within front more text rest same fits =
    let cut : take (length text) front ≡ text = sym (take-append-le (length text) front more fits)
    ∙ ap (take (length text)) same ∙ take-append_seam text rest in
    sym (take-append-drop (length text) front) ∙ ap (λ t. t ++ drop (length text) front) cut

-- a span within the first n bytes covers the same bytes there
span_in_front : (n : ℕ) (bytes : List ℕ) (s : Span) → IsWithin n s → span_bytes (take n bytes) s ≡ span_bytes bytes s
span_in_front n bytes s within =
    let far : s.start + (n - s.start) ≡ n = omega (arith, within) in
    let short : s.end - s.start ≤ n - s.start = omega (arith, within) in
    let rest : drop s.start (take n bytes) ≡ take (n - s.start) (drop s.start bytes)
    = ap (λ m. drop s.start (take m bytes)) (sym far) ∙ drop-take s.start (n - s.start) bytes in
    ap (take (s.end - s.start)) rest ∙ take-take (s.end - s.start) (n - s.start) (drop s.start bytes) short

lines_in_front : (n : ℕ) (bytes : List ℕ) (lines : List HeaderSpan) → All (IsHeaderWithin n) lines
    → map (header_bytes (take n bytes)) lines ≡ map (header_bytes bytes) lines
lines_in_front n bytes [] within = refl
lines_in_front n bytes (line ∷ lines) within =
    let here : IsHeaderWithin n line = All-head (IsHeaderWithin n) line lines within in
    let name = span_in_front n bytes line.name here.0 in
    let value = span_in_front n bytes line.value here.1 in
    let others = lines_in_front n bytes lines (All-tail (IsHeaderWithin n) line lines within) in
    rw (name, value, others) refl

-- where the parser says that the parts of a head are
pub record IsFoundAt (found : Head) (headers : List HeaderSpan) (r : RequestSpans) : Type 0 where
  pub method : found.method ≡ r.method
  pub target : found.target ≡ r.path
  pub lines : found.lines.items ≡ take r.headers headers
  pub length : found.length ≡ r.len

-- the parts of a head that the parser found in some bytes are in the head's own bytes
has_parts : (bytes : List ℕ) (found : Head) (headers : List HeaderSpan) (r : RequestSpans) (h : RequestHead)
    → IsFoundAt found headers r → IsHeadWithin found.length found → IsRequestAt bytes headers r h
    → HasParts (take found.length bytes) found h
has_parts bytes found headers r h is inside at = record {
  method = span_in_front found.length bytes found.method inside.method ∙ ap (span_bytes bytes) is.method ∙ at.method;
  target = span_in_front found.length bytes found.target inside.target ∙ ap (span_bytes bytes) is.target ∙ at.path;
  lines = lines_in_front found.length bytes found.lines.items inside.lines
      ∙ ap (map (header_bytes bytes)) is.lines ∙ at.fields;
}

-- a head that the parser found in the front is a head of the whole
pub found_is_head : (bytes front more : List ℕ) (headers : List HeaderSpan) (r : RequestSpans) (found : Head)
    → IsFoundAt found headers r → bytes ≡ front ++ more → length front ≤ 8_192 → length headers ≡ 64
    → IsRequestWithin front headers r → IsRequestOf front headers r → IsHead bytes found
found_is_head bytes front more headers r found is split short room within (h, at) =
    let whole : bytes ≡ print_request h ++ (drop r.len front ++ more)
    = split ∙ ap (λ t. t ++ more) at.reads.1 ∙ append_assoc (print_request h) (drop r.len front) more in
    let after : drop r.len bytes ≡ drop r.len front ++ more
    = drop-front bytes (print_request h) _ r.len whole at.len in
    let size : length bytes ≡ length front + length more = ap length split ∙ length-append front more in
    let fits : r.len ≤ length front = within.section.len_fits in
    let named : length (map (header_bytes front) (take r.headers headers)) ≡ length (map name_and_value h.fields)
    = ap length at.fields in
    let counted : length (take r.headers headers) ≡ length h.fields
    = sym (length-map (take r.headers headers) (header_bytes front)) ∙ named ∙ length-map h.fields name_and_value in
    let inside : IsHeadWithin found.length found = rw (is.length, is.method, is.target, is.lines) (record {
      method = within.method;
      target = within.path;
      lines = within.section.headers_fit;
    }) in
    let same : take found.length front ≡ take found.length bytes
    = sym (take-append-le found.length front more (omega (arith, fits, is.length)))
    ∙ ap (take found.length) (sym split) in
    record {
      head = h;
      begins = record {
        reads = (
          at.reads.0,
          whole ∙ ap (λ t. print_request h ++ t)
              (sym after ∙ ap (λ n. drop n bytes) (sym is.length)),
        );
        short = omega (arith, at.len, fits, short);
        few = omega (arith, counted, room, length-take r.headers headers);
      };
      parts = subst (λ b. HasParts b found h) same (has_parts front found headers r h is inside at);
      inside = inside;
      within = omega (arith, fits, size, is.length);
    }

-- no head begins bytes that have none yet
pub none_yet : (bytes : List ℕ) → HasNoRequest bytes → HasNoHead bytes
none_yet bytes none head rest begins = none head rest begins.reads

-- no short head begins bytes of which a front as long has none
pub none_in_front : (bytes front more : List ℕ) → bytes ≡ front ++ more → 8_192 ≤ length front → HasNoRequest front
    → NeverHasHead bytes
none_in_front bytes front more split long none later head rest begins =
    let same : front ++ (more ++ later) ≡ print_request head ++ rest
    = sym (append_assoc front more later) ∙ ap (λ t. t ++ later) (sym split) ∙ begins.reads.1 in
    let here : front ≡ print_request head ++ drop (length (print_request head)) front
    = front_within front (more ++ later) (print_request head) rest same (omega (arith, long, begins.short)) in
    none head _ (begins.reads.0, here)

-- no short head begins bytes of which a front is refused
pub none_after_refusal : (bytes front more : List ℕ) → bytes ≡ front ++ more → RequestOverflows 64 front
    → NeverHasHead bytes
none_after_refusal bytes front more split over later head rest begins =
    let same : front ++ (more ++ later) ≡ print_request head ++ rest
    = sym (append_assoc front more later) ∙ ap (λ t. t ++ later) (sym split) ∙ begins.reads.1 in
    let many : 64 < length head.fields = over (more ++ later) head rest (begins.reads.0, same) in
    omega (arith, many, begins.few)

-- no head begins the held bytes at the end of the input
pub none_at_end : (known : Option (List ℕ)) (more old new : List ℕ) → IsAtEnd known → known ≡ Some more → new ≡ old
    → HasNoHead old → HasNoHead (new ++ more)
none_at_end None more old new end is same none = absurd (no_end more is)
none_at_end (Some left) more old new end is same none =
    let empty : more ≡ [] = sym (ap (λ o. unwrap_or o []) is) ∙ end in
    rw (same, empty, append-nil old) none
