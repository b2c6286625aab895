-- Whether bytes begin with a request head: piece by piece, they do or they do not.
use Rattle.std.proofs.Common.{◌≡◌, ℕ, ◌+◌, ◌<◌, ◌≤◌, Bool, true, false, List, [], ◌∷◌, ◌++◌, length, All, refl, sym}
use Rattle.std.proofs.Common.{zero, suc, append-nil, ap, ◌∙◌, subst, arith, inl, inr, append_assoc, length-append}
use Rattle.std.specs.Prelude.{◌⊎◌, IsUtf8}
use Rattle.std.specs.Prelude.{⊤}
use Rattle.std.specs.List.{flat_map}
use Rattle.std.specs.Str.{is_utf8}
use Rattle.std.proofs.lemmas.Bool.{cases_lt, cases_eq, cases_Bool, false≢true}
use Rattle.std.proofs.lemmas.List.Elements.{All-cons, All-head, All-nil, All-tail}
use Rattle.std.proofs.lemmas.Str.{IsUtf8-from_is_utf8, is_utf8-from_IsUtf8}
use Rattle.httparse.specs.Grammar.{is_token_byte, is_uri_byte, is_value_byte, AllPass, LineEnd, crlf, lf, print_end}
use Rattle.httparse.specs.Grammar.{print_blank, print_version, Field, print_field, IsField}
use Rattle.httparse.specs.Grammar.{print_section, print_request, RequestHead, ReadsRequest, HasNoRequest}
use Rattle.httparse.specs.Pieces.{Piece, Begins, Then, Stops, is_newline, Bytes, Newline, Blank, Word, Method, Target}
use Rattle.httparse.specs.Pieces.{Version, Text, FieldLine, Section, RequestStart, BeginsLine}
use Rattle.httparse.proofs.GrammarLemmas.{cons-append, request_unique, request_head, request_tree, request_pieces}
use Rattle.httparse.proofs.GrammarLemmas.{request_from_pieces}
use Rattle.httparse.proofs.PieceLemmas.{IsDeterministic, newline_not_stopped, print_end_unique, print_field-append}
use Rattle.httparse.proofs.PieceLemmas.{FieldLine_parts, Section_line, Section_skip, space_ends_token, colon_ends_token}
use Rattle.httparse.proofs.PieceLemmas.{Blank_deterministic, Method_deterministic, Target_deterministic}
use Rattle.httparse.proofs.PieceLemmas.{Version_deterministic, Name_deterministic, RequestStart_deterministic}
use Rattle.httparse.proofs.PieceLemmas.{Word_deterministic}
use Rattle.pt_http_inbox.specs.Head.{BeginsWithHead, HasNoHead}

-- the text begins with the piece, or it does not
abbrev Decided : {A : Type 0} → Piece A → List ℕ → Type 0
Decided G text = Begins G text ⊎ ¬ (Begins G text)

-- ---- pieces in a row

second_or : {A B : Type 0} (G : Piece A) (H : Piece B) → IsDeterministic G → (a : A) (text middle : List ℕ)
    → G a text middle → Decided H middle → Decided (Then G H) text
second_or G H det a text middle first (inl second) = inl ((a, second.0), second.1, (middle, first, second.2))
second_or G H det a text middle first (inr none) = inr (λ both.
    let same = det.unique both.0.0 a text both.2.0 middle both.2.1 first in
    none (both.0.1, both.1, subst (λ (rest : List ℕ). H both.0.1 rest both.1) same.1 both.2.2))

then_or : {A B : Type 0} (G : Piece A) (H : Piece B) → IsDeterministic G → ((text : List ℕ) → Decided H text)
    → (text : List ℕ) → Decided G text → Decided (Then G H) text
then_or G H det second text (inl first) = second_or G H det first.0 text first.1 first.2 (second first.1)
then_or G H det second text (inr none) = inr (λ both. none (both.0.0, both.2.0, both.2.1))

-- ---- bytes that pass a test, and then a piece

abbrev RunThen : {B : Type 0} → (ℕ → Bool) → Piece B → Piece (List ℕ × B)
RunThen test H run text rest = AllPass test run.0 × ((middle : List ℕ) × (text ≡ run.0 ++ middle) × H run.1 middle rest)

-- no byte comes before the piece, or the first byte passes and the others lead to it
run_first : {B : Type 0} (test : ℕ → Bool) (H : Piece B) (byte : ℕ) (text : List ℕ) (run : List ℕ) (end : B)
    (rest middle : List ℕ) → AllPass test run → byte ∷ text ≡ run ++ middle → H end middle rest
    → Begins H (byte ∷ text) ⊎ ((test byte ≡ true) × Begins (RunThen test H) text)
run_first test H byte text [] end rest middle all is here = inl (end, rest, subst (λ t. H end t rest) (sym is) here)
run_first test H byte text (first ∷ run) end rest middle all is here =
    let same : first ≡ byte = cc in
    let passes : test first ≡ true = All-head (λ b. test b ≡ true) first run all in
    let others = All-tail (λ b. test b ≡ true) first run all in
    inr (ap test (sym same) ∙ passes, ((run, end), rest, (others, (middle, cc, here))))

run_none : {B : Type 0} (test : ℕ → Bool) (H : Piece B) (byte : ℕ) (text : List ℕ) → ¬ (Begins H (byte ∷ text))
    → ¬ ((test byte ≡ true) × Begins (RunThen test H) text) → ¬ (Begins (RunThen test H) (byte ∷ text))
run_none test H byte text no_end no_more found = by_cases (run_first test H byte text found.0.0 found.0.1 found.1
    found.2.1.0 found.2.0 found.2.1.1 found.2.1.2)
  where
    by_cases : Begins H (byte ∷ text) ⊎ ((test byte ≡ true) × Begins (RunThen test H) text) → ⊥
    by_cases (inl end) = no_end end
    by_cases (inr more) = no_more more

run_from : {B : Type 0} (test : ℕ → Bool) (H : Piece B) (byte : ℕ) (text : List ℕ) → Decided H (byte ∷ text)
    → (test byte ≡ true) ⊎ (test byte ≡ false) → Decided (RunThen test H) text → Decided (RunThen test H) (byte ∷ text)
run_from test H byte text (inl end) tested later = inl (
  ([], end.0),
  end.1,
  (
    All-nil (λ b. test b ≡ true),
    (byte ∷ text, refl, end.2),
  ),
)
run_from test H byte text (inr none) (inr fails) later =
    inr (run_none test H byte text none (λ more. false≢true (sym fails ∙ more.0)))
run_from test H byte text (inr none) (inl passes) (inl more) = inl (
  (byte ∷ more.0.0, more.0.1),
  more.1,
  (
    All-cons (λ b. test b ≡ true) byte more.0.0 passes more.2.0,
    (more.2.1.0, ap (λ (t : List ℕ). byte ∷ t) more.2.1.1, more.2.1.2),
  ),
)
run_from test H byte text (inr none) (inl passes) (inr no_more) =
    inr (run_none test H byte text none (λ more. no_more more.1))

no_bytes : (run middle : List ℕ) → [] ≡ run ++ middle → middle ≡ []
no_bytes [] middle is = sym is
no_bytes (byte ∷ run) middle is = absurd (cc)

run_or : {B : Type 0} (test : ℕ → Bool) (H : Piece B) → ((text : List ℕ) → Decided H text) → (text : List ℕ)
    → Decided (RunThen test H) text
run_or test H ends [] = at_end (ends [])
  where
    at_end : Decided H [] → Decided (RunThen test H) []
    at_end (inl end) = inl (([], end.0), end.1, (All-nil (λ b. test b ≡ true), ([], refl, end.2)))
    at_end (inr none) = inr (λ found. none (
      found.0.1,
      found.1,
      subst (λ (t : List ℕ). H found.0.1 t found.1)
          (no_bytes found.0.0 found.2.1.0 found.2.1.1) found.2.1.2,
    ))
run_or test H ends (byte ∷ text) =
    run_from test H byte text (ends (byte ∷ text)) (cases_Bool (test byte)) (run_or test H ends text)

-- ---- one byte, and words

-- the text begins with this byte
abbrev OneByte : ℕ → Piece ⊤
OneByte byte _ text rest = text ≡ byte ∷ rest

byte_or : (byte : ℕ) (text : List ℕ) → Decided (OneByte byte) text
byte_or byte [] = inr (λ found. let wrong : ◌≡◌ {A = List ℕ} [] (byte ∷ found.1) = found.2 in cc)
byte_or byte (first ∷ text) = by_first (cases_eq first byte)
  where
    by_first : (first ≡ byte) ⊎ (first ≡ byte → ⊥) → Decided (OneByte byte) (first ∷ text)
    by_first (inl same) = inl (tt, text, ap (λ (b : ℕ). b ∷ text) same)
    by_first (inr other) = inr (λ found. other (let is : first ∷ text ≡ byte ∷ found.1 = found.2 in cc))

-- a word, where the first byte passes
word_from : (test : ℕ → Bool) (stop first : ℕ) (text : List ℕ) → test stop ≡ false
    → (test first ≡ true) ⊎ (test first ≡ false) → Decided (RunThen test (OneByte stop)) (first ∷ text)
    → Decided (Word test stop) (first ∷ text)
word_from test stop first text stops (inr fails) later = inr (λ found. not_first found.0 found.1 found.2.0 found.2.1
    found.2.2)
  where
    not_first : (word rest : List ℕ) → 0 < length word → AllPass test word → first ∷ text ≡ word ++ stop ∷ rest → ⊥
    not_first [] rest some all is = omega (arith, some)
    not_first (byte ∷ word) rest some all is =
        let same : byte ≡ first = cc in
        let passes : test byte ≡ true = All-head (λ b. test b ≡ true) byte word all in
        false≢true (sym fails ∙ ap test (sym same) ∙ passes)
word_from test stop first text stops (inl passes) (inr none) = inr (λ found.
    none ((found.0, tt), found.1, (found.2.1, (stop ∷ found.1, found.2.2, refl))))
word_from test stop first text stops (inl passes) (inl found) = inl (
  found.0.0,
  found.1,
  (
    not_empty found.0.0 found.2.1.0 found.2.1.1 found.2.1.2,
    found.2.0,
    found.2.1.1 ∙ ap (λ (t : List ℕ). found.0.0 ++ t) found.2.1.2,
  ),
)
  where
    not_empty : (word middle : List ℕ) → first ∷ text ≡ word ++ middle → middle ≡ stop ∷ found.1 → 0 < length word
    not_empty [] middle is ends =
        let same : first ≡ stop = cc in
        absurd (false≢true (sym stops ∙ ap test (sym same) ∙ passes))
    not_empty (byte ∷ word) middle is ends = omega arith

word_or : (test : ℕ → Bool) (stop : ℕ) → test stop ≡ false → (text : List ℕ) → Decided (Word test stop) text
word_or test stop stops [] = inr (λ found. no_word found.0 found.1 found.2.2)
  where
    no_word : (word rest : List ℕ) → [] ≡ word ++ stop ∷ rest → ⊥
    no_word [] rest is = cc
    no_word (byte ∷ word) rest is = cc
word_or test stop stops (first ∷ text) = word_from test stop first text stops (cases_Bool (test first))
    (run_or test (OneByte stop) (byte_or stop) (first ∷ text))

-- ---- the pieces of a request line

target_or : (text : List ℕ) → Decided (Word is_uri_byte 32) text → Decided Target text
target_or text (inr none) = inr (λ found. none (found.0, found.1, found.2.0))
target_or text (inl word) = spelled (cases_Bool (is_utf8 word.0))
  where
    spelled : (is_utf8 word.0 ≡ true) ⊎ (is_utf8 word.0 ≡ false) → Decided Target text
    spelled (inl held) = inl (word.0, word.1, (word.2, IsUtf8-from_is_utf8 word.0 held))
    spelled (inr fails) = inr (λ found.
        let same = (Word_deterministic is_uri_byte 32 refl).unique found.0 word.0 text found.1 word.1 found.2.0
        word.2 in
        false≢true (sym fails ∙ ap is_utf8 (sym same.0) ∙ is_utf8-from_IsUtf8 found.0 found.2.1))

bytes_or : (bytes text : List ℕ) → Decided (Bytes bytes) text
bytes_or [] text = inl (tt, text, refl)
bytes_or (byte ∷ bytes) [] = inr (λ found. let wrong : ◌≡◌ {A = List ℕ} [] (byte ∷ (bytes ++ found.1)) = found.2 in cc)
bytes_or (byte ∷ bytes) (first ∷ text) = by_first (cases_eq first byte) (bytes_or bytes text)
  where
    by_first : (first ≡ byte) ⊎ (first ≡ byte → ⊥) → Decided (Bytes bytes) text
        → Decided (Bytes (byte ∷ bytes)) (first ∷ text)
    by_first (inr other) later = inr (λ found.
        other (let is : first ∷ text ≡ byte ∷ (bytes ++ found.1) = found.2 in cc))
    by_first (inl same) (inl later) = inl (tt, later.1, cc (same, later.2))
    by_first (inl same) (inr none) = inr (λ found. none (
      tt,
      found.1,
      (let is : first ∷ text ≡ byte ∷ (bytes ++ found.1) = found.2 in cc),
    ))

version_or : (text : List ℕ) → Decided Version text
version_or text = either (bytes_or (print_version 0) text) (bytes_or (print_version 1) text)
  where
    none_of : (minor : ℕ) (rest : List ℕ) → minor ≤ 1 → text ≡ print_version minor ++ rest
        → ¬ (Begins (Bytes (print_version 0)) text) → ¬ (Begins (Bytes (print_version 1)) text) → ⊥
    none_of zero rest low is no_zero no_one = no_zero (tt, rest, is)
    none_of (suc zero) rest low is no_zero no_one = no_one (tt, rest, is)
    none_of (suc (suc minor)) rest low is no_zero no_one = omega (arith, low)

    either : Decided (Bytes (print_version 0)) text → Decided (Bytes (print_version 1)) text → Decided Version text
    either (inl held) one = inl (0, held.1, (omega arith, held.2))
    either (inr no_zero) (inl held) = inl (1, held.1, (omega arith, held.2))
    either (inr no_zero) (inr no_one) = inr (λ found. none_of found.0 found.1 found.2.0 found.2.1 no_zero no_one)

-- ---- line ends

newline_or : (text : List ℕ) → Decided Newline text
newline_or text = either (bytes_or (13 ∷ 10 ∷ []) text) (bytes_or (10 ∷ []) text)
  where
    none_of : (end : LineEnd) (rest : List ℕ) → text ≡ print_end end ++ rest
        → ¬ (Begins (Bytes (13 ∷ 10 ∷ [])) text) → ¬ (Begins (Bytes (10 ∷ [])) text) → ⊥
    none_of crlf rest is two one = two (tt, rest, is)
    none_of lf rest is two one = one (tt, rest, is)

    either : Decided (Bytes (13 ∷ 10 ∷ [])) text → Decided (Bytes (10 ∷ [])) text → Decided Newline text
    either (inl two) one = inl (crlf, two.1, two.2)
    either (inr no_two) (inl one) = inl (lf, one.1, one.2)
    either (inr no_two) (inr no_one) = inr (λ found. none_of found.0 found.1 found.2 no_two no_one)

-- a text that a line end begins is longer than what comes after it
shorter : (end : LineEnd) (text rest : List ℕ) → text ≡ print_end end ++ rest → length rest < length text
shorter crlf text rest is = let size : length text ≡ length (13 ∷ 10 ∷ rest) = ap length is in omega (arith, size)
shorter lf text rest is = let size : length text ≡ length (10 ∷ rest) = ap length is in omega (arith, size)

-- what all the empty lines of a text leave, once one of them is taken
blank_left : (end : LineEnd) (text rest : List ℕ) → text ≡ print_end end ++ rest → (ends : List LineEnd) (last : List ℕ)
    → text ≡ print_blank ends ++ last → Stops is_newline last → Begins Blank rest
blank_left end text rest is [] last blank stops = absurd (newline_not_stopped end rest last (sym is ∙ blank) stops)
blank_left end text rest is (first ∷ ends) last blank stops =
    let same = print_end_unique end first rest (print_blank ends ++ last)
    (sym is ∙ blank ∙ append_assoc (print_end first) (print_blank ends) last) in
    (ends, last, (same.1, stops))

blank_more : (end : LineEnd) (text rest : List ℕ) → text ≡ print_end end ++ rest → Decided Blank rest
    → Decided Blank text
blank_more end text rest is (inl later) = inl (
  end ∷ later.0,
  later.1,
  (
    is ∙ ap (λ (t : List ℕ). print_end end ++ t) later.2.0
        ∙ sym (append_assoc (print_end end) (print_blank later.0) later.1),
    later.2.1,
  ),
)
blank_more end text rest is (inr none) =
    inr (λ found. none (blank_left end text rest is found.0 found.1 found.2.0 found.2.1))

-- a text that no line end begins has no empty line before it
no_blank : (text : List ℕ) → ¬ (Begins Newline text) → (ends : List LineEnd) (last : List ℕ)
    → text ≡ print_blank ends ++ last → text ≡ last
no_blank text none [] last blank = blank
no_blank text none (first ∷ ends) last blank =
    absurd (none (first, print_blank ends ++ last, blank ∙ append_assoc (print_end first) (print_blank ends) last))

blank_none : (text : List ℕ) → ¬ (Begins Newline text) → Decided Blank text
blank_none [] none = inr (λ found.
    let same : [] ≡ found.1 = no_blank [] none found.0 found.1 found.2.0 in
    subst (Stops is_newline) (sym same) found.2.1)
blank_none (byte ∷ text) none = by_first (cases_Bool (is_newline byte))
  where
    by_first : (is_newline byte ≡ true) ⊎ (is_newline byte ≡ false) → Decided Blank (byte ∷ text)
    by_first (inr stops) = inl ([], byte ∷ text, (refl, stops))
    by_first (inl newline) = inr (λ found.
        let same : byte ∷ text ≡ found.1 = no_blank (byte ∷ text) none found.0 found.1 found.2.0 in
        let stops : is_newline byte ≡ false = subst (Stops is_newline) (sym same) found.2.1 in
        false≢true (sym stops ∙ newline))

blank_from : (text : List ℕ) → ((rest : List ℕ) → length rest < length text → Decided Blank rest)
    → Decided Newline text → Decided Blank text
blank_from text later (inr none) = blank_none text none
blank_from text later (inl found) = blank_more found.0 text found.1 found.2
    (later found.1 (shorter found.0 text found.1 found.2))

blank_within : (most : ℕ) (text : List ℕ) → length text ≤ most → Decided Blank text
blank_within zero text few = blank_from text (λ rest less. absurd (omega (arith, few, less))) (newline_or text)
blank_within (suc most) text few =
    blank_from text (λ rest less. blank_within most rest (omega (arith, few, less))) (newline_or text)

-- ---- field lines

-- the value's bytes and the line end
text_or : (text : List ℕ) → Decided (RunThen is_value_byte Newline) text → Decided Text text
text_or text (inl found) = inl (
  found.0,
  found.1,
  (
    found.2.0,
    found.2.1.1 ∙ ap (λ (t : List ℕ). found.0.0 ++ t) found.2.1.2,
  ),
)
text_or text (inr none) = inr (λ found.
    none (found.0, found.1, (found.2.0, (print_end found.0.1 ++ found.1, found.2.1, refl))))

abbrev Line : Piece (List ℕ × (List ℕ × LineEnd))
Line = Then (Word is_token_byte 58) Text

abbrev field_of : List ℕ × (List ℕ × LineEnd) → Field
field_of parts = record { name = parts.0; raw = parts.1.0; end = parts.1.1 }

field_or : (text : List ℕ) → Decided Line text → Decided FieldLine text
field_or text (inr none) = inr (λ found. none (
  (found.0.name, (found.0.raw, found.0.end)),
  found.1,
  FieldLine_parts found.0 text found.1 found.2,
))
field_or text (inl found) = inl (
  field_of found.0,
  found.1,
  (
    record { name = (found.2.1.0, found.2.1.1); raw = found.2.2.0 },
    found.2.1.2 ∙ ap (λ (t : List ℕ). found.0.0 ++ 58 ∷ t) found.2.2.1
        ∙ sym (print_field-append (field_of found.0) found.1),
  ),
)

line_or : (text : List ℕ) → Decided FieldLine text
line_or text = field_or text (then_or (Word is_token_byte 58) Text Name_deterministic
    (λ later. text_or later (run_or is_value_byte Newline newline_or later)) text
    (word_or is_token_byte 58 colon_ends_token text))

-- a text that a field line begins is longer than what comes after it
line_shorter : (f : Field) (text rest : List ℕ) → FieldLine f text rest → length rest < length text
line_shorter f text rest line =
    let size : length text ≡ length (f.name ++ 58 ∷ (f.raw ++ (print_end f.end ++ rest)))
    = ap length (line.1 ∙ print_field-append f rest) in
    omega (
      arith,
      size,
      length-append f.name (58 ∷ (f.raw ++ (print_end f.end ++ rest))),
      length-append f.raw (print_end f.end ++ rest),
      length-append (print_end f.end) rest,
    )

-- ---- sections

section_more : (f : Field) (text rest : List ℕ) → FieldLine f text rest → Decided Section rest → Decided Section text
section_more f text rest line (inl later) = inl (
  (f ∷ later.0.0, later.0.1),
  later.1,
  (
    All-cons IsField f later.0.0 line.0 later.2.0,
    line.1 ∙ ap (λ (t : List ℕ). print_field f ++ t) later.2.1 ∙ joined,
  ),
)
  where
    joined : print_field f ++ (print_section later.0.0 later.0.1 ++ later.1)
        ≡ print_section (f ∷ later.0.0) later.0.1 ++ later.1
    joined = simp (append_assoc, cons-append)
section_more f text rest line (inr none) = inr (λ found.
    let skipped = Section_skip (f ∷ []) found.0.0 found.0.1 text rest found.1 (one_line, whole) found.2 in
    none ((skipped.0, found.0.1), found.1, skipped.2))
  where
    one_line : All IsField (f ∷ [])
    one_line = All-cons IsField f [] line.0 (All-nil IsField)

    whole : text ≡ flat_map print_field (f ∷ []) ++ rest
    whole = line.1 ∙ ap (λ (t : List ℕ). t ++ rest) (sym (append-nil (print_field f)))

section_from : (text : List ℕ) → ((rest : List ℕ) → length rest < length text → Decided Section rest)
    → Decided Newline text → Decided FieldLine text → Decided Section text
section_from text later (inl end) line = inl (([], end.0), end.1, (All-nil IsField, end.2))
section_from text later (inr no_end) (inl line) = section_more line.0 text line.1 line.2
    (later line.1 (line_shorter line.0 text line.1 line.2))
section_from text later (inr no_end) (inr none) = inr (λ found. no_line (Section_line found.0 text found.1 found.2))
  where
    no_line : BeginsLine text → ⊥
    no_line (inl end) = no_end end
    no_line (inr line) = none line

section_within : (most : ℕ) (text : List ℕ) → length text ≤ most → Decided Section text
section_within zero text few =
    section_from text (λ rest less. absurd (omega (arith, few, less))) (newline_or text) (line_or text)
section_within (suc most) text few =
    section_from text (λ rest less. section_within most rest (omega (arith, few, less))) (newline_or text)
    (line_or text)

section_or : (text : List ℕ) → Decided Section text
section_or text = section_within (length text) text (omega arith)

-- ---- heads

abbrev AfterTarget : Piece (ℕ × LineEnd)
AfterTarget = Then Version Newline

abbrev AfterMethod : Piece (List ℕ × (ℕ × LineEnd))
AfterMethod = Then Target AfterTarget

abbrev AfterBlank : Piece (List ℕ × (List ℕ × (ℕ × LineEnd)))
AfterBlank = Then Method AfterMethod

after_target : (text : List ℕ) → Decided AfterTarget text
after_target text = then_or Version Newline Version_deterministic newline_or text (version_or text)

after_method : (text : List ℕ) → Decided AfterMethod text
after_method text = then_or Target AfterTarget Target_deterministic after_target text
    (target_or text (word_or is_uri_byte 32 refl text))

after_blank : (text : List ℕ) → Decided AfterBlank text
after_blank text = then_or Method AfterMethod Method_deterministic after_method text
    (word_or is_token_byte 32 space_ends_token text)

start_or : (text : List ℕ) → Decided RequestStart text
start_or text = then_or Blank AfterBlank Blank_deterministic after_blank text
    (blank_within (length text) text (omega arith))

-- the bytes begin with a head, or with none
request_or_none : (bytes : List ℕ) → ((head : RequestHead) × (rest : List ℕ) × ReadsRequest bytes head rest)
    ⊎ HasNoRequest bytes
request_or_none bytes =
    read_from (then_or RequestStart Section RequestStart_deterministic section_or bytes (start_or bytes))
  where
    read_from : Decided (Then RequestStart Section) bytes
        → ((head : RequestHead) × (rest : List ℕ) × ReadsRequest bytes head rest) ⊎ HasNoRequest bytes
    read_from (inl found) = inl (request_head found.0, found.1, request_from_pieces bytes found.0 found.1 found.2)
    read_from (inr none) = inr (λ head rest reads. none (request_tree head, rest, request_pieces bytes head rest reads))

-- the bytes begin with a head that is short and has few fields
abbrev pub HasHead : List ℕ → Type 0
HasHead bytes = (head : RequestHead) × (rest : List ℕ) × BeginsWithHead bytes head rest

of_size : (bytes : List ℕ) (head : RequestHead) (rest : List ℕ) → ReadsRequest bytes head rest
    → (8_192 < length (print_request head)) ⊎ (length (print_request head) ≤ 8_192)
    → (64 < length head.fields) ⊎ (length head.fields ≤ 64) → HasHead bytes ⊎ HasNoHead bytes
of_size bytes head rest reads (inr short) (inr few) =
    inl (head, rest, record { reads = reads; short = short; few = few })
of_size bytes head rest reads (inl long) size = inr (λ other more begins.
    let same = request_unique bytes other head more rest begins.reads reads in
    let size : length (print_request other) ≡ length (print_request head)
    = ap (λ (h : RequestHead). length (print_request h)) same.0 in
    omega (arith, long, begins.short, size))
of_size bytes head rest reads (inr short) (inl many) = inr (λ other more begins.
    let same = request_unique bytes other head more rest begins.reads reads in
    let size : length other.fields ≡ length head.fields = ap (λ (h : RequestHead). length h.fields) same.0 in
    omega (arith, many, begins.few, size))

-- they begin with such a head, or with none
pub head_or_none : (bytes : List ℕ) → HasHead bytes ⊎ HasNoHead bytes
head_or_none bytes = by_read (request_or_none bytes)
  where
    by_read : ((head : RequestHead) × (rest : List ℕ) × ReadsRequest bytes head rest) ⊎ HasNoRequest bytes
        → HasHead bytes ⊎ HasNoHead bytes
    by_read (inr none) = inr (λ head rest begins. none head rest begins.reads)
    by_read (inl found) = of_size bytes found.0 found.1 found.2 (cases_lt 8_192 (length (print_request found.0)))
        (cases_lt 64 (length found.0.fields))
