-- Lines at the front of bytes, and words at the front of texts.
use Rattle.std.proofs.Common.{◌≡◌, ◌≢◌, ℕ, suc, ◌+◌, ◌-◌, ◌<◌, ◌≤◌, List, [], ◌∷◌, ◌++◌, length, drop, take, get_or}
use Rattle.std.proofs.Common.{All, true, false, Some, None, refl, sym, ap, ◌∙◌, subst, arith, cond, ltb, eqb, not}
use Rattle.std.specs.List.{position, position_or_len}
use Rattle.std.specs.Str.Lines.{strip_carriage_return}
use Rattle.std.proofs.lemmas.Bool.Decides.{nat_tests}
use Rattle.std.proofs.lemmas.List.{length-take, drop_more, take-append-drop, get_or-take}
use Rattle.std.proofs.lemmas.List.Elements.{All-head, All-tail, All-from_get_or}
use Rattle.std.proofs.lemmas.List.Quantifiers.{position-Some}
use Rattle.pt_http_rehearsal.specs.Moment.{BeginsWithLine}

-- a list is cut at its first such element in one way
pub cut_unique : (cut : ℕ) (front other rest more : List ℕ) → front ++ cut ∷ rest ≡ other ++ cut ∷ more
    → All (λ byte. byte ≢ cut) front → All (λ byte. byte ≢ cut) other → (front ≡ other) × (rest ≡ more)
cut_unique cut [] [] rest more same one two = (refl, cc)
cut_unique cut [] (y ∷ other) rest more same one two = let head : y ≡ cut
    = cc in absurd (All-head (λ byte. byte ≢ cut) y other two head)
cut_unique cut (x ∷ front) [] rest more same one two = let head : x ≡ cut
    = cc in absurd (All-head (λ byte. byte ≢ cut) x front one head)
cut_unique cut (x ∷ front) (y ∷ other) rest more same one two =
    let head : x ≡ y = cc in
    let tails : front ++ cut ∷ rest ≡ other ++ cut ∷ more = cc in
    let tail = cut_unique cut front other rest more tails (All-tail (λ byte. byte ≢ cut) x front one)
    (All-tail (λ byte. byte ≢ cut) y other two) in
    let fronts : front ≡ other = tail.0 in
    (cc, tail.1)

-- bytes begin with one line
pub line_unique : (bytes line other rest more : List ℕ) → BeginsWithLine bytes line rest
    → BeginsWithLine bytes other more → line ≡ other
line_unique bytes line other rest more one two =
    (cut_unique 10 line other rest more (sym one.begins ∙ two.begins) one.one_line two.one_line).0

-- bytes with a newline have a first one
newline_within : (line rest : List ℕ) → position_or_len (λ byte. eqb byte 10) (line ++ 10 ∷ rest) < length
    (line ++ 10 ∷ rest)
newline_within [] rest = omega arith
newline_within (x ∷ line) rest = elim (eqb x 10) as (λ is. cond (not is)
    (1 + position_or_len (λ byte. eqb byte 10) (line ++ 10 ∷ rest)) 0 < suc (length (line ++ 10 ∷ rest))) [
      | true ↦ omega arith
      | false ↦ omega (arith, newline_within line rest)
    ]

found_is_some : (n m : ℕ) → n < m → cond (ltb n m) (Some n) None ≡ None → ⊥
found_is_some n m below none = grind (arith, nat_tests)

pub newline_found : (bytes line rest : List ℕ) → position (λ byte. eqb byte 10) bytes ≡ None
    → ¬ (BeginsWithLine bytes line rest)
newline_found bytes line rest none is =
    let within = subst (λ (all : List ℕ). position_or_len (λ byte. eqb byte 10) all < length all) (sym is.begins)
    (newline_within line rest) in
    found_is_some _ _ within none

is_newline : (byte : ℕ) → eqb byte 10 ≡ true → byte ≡ 10
is_newline byte test = grind (arith, nat_tests)

no_newline : (byte other : ℕ) → eqb byte 10 ≡ false → other ≡ byte → other ≢ 10
no_newline byte other test same = grind (arith, nat_tests)

-- the first newline ends the first line
pub line_before : (bytes : List ℕ) (end : ℕ) → position (λ byte. eqb byte 10) bytes ≡ Some end
    → BeginsWithLine bytes (take end bytes) (drop (length (take end bytes) + 1) bytes)
line_before bytes end found =
    let at = position-Some (λ byte. eqb byte 10) bytes end 0 found in
    let long : length (take end bytes) ≡ end = omega (arith, length-take end bytes, at.0) in
    let newline : get_or bytes end 0 ≡ 10 = is_newline (get_or bytes end 0) at.1 in
    let back : drop end bytes ≡ 10 ∷ drop (end + 1) bytes = drop_more bytes end 0 at.0
    ∙ ap (λ byte. byte ∷ drop (end + 1) bytes) newline in
    let begins : bytes ≡ take end bytes ++ 10 ∷ drop (end + 1) bytes = sym (take-append-drop end bytes)
    ∙ ap (λ rest. take end bytes ++ rest) back in record {
      begins = begins ∙ ap (λ n. take end bytes ++ 10 ∷ drop (n + 1) bytes) (sym long);
      one_line = All-from_get_or (λ byte. byte ≢ 10) (take end bytes) 0 (λ i below.
          let before : i < end = omega arith in
          no_newline (get_or bytes i 0) (get_or (take end bytes) i 0) (at.2 i before)
          (get_or-take end bytes i 0 before));
    }

-- a line that ends within the front of a list begins that front
pub line_of_front : (held more line rest : List ℕ) → held ++ more ≡ line ++ 10 ∷ rest → length line < length held
    → held ≡ line ++ 10 ∷ drop (suc (length line)) held
line_of_front [] more line rest same within = absurd (omega arith)
line_of_front (byte ∷ held) more [] rest same within = let head : byte ≡ 10 = cc in ap (λ first. first ∷ held) head
line_of_front (byte ∷ held) more (x ∷ line) rest same within =
    let head : byte ≡ x = cc in
    let tails : held ++ more ≡ line ++ 10 ∷ rest = cc in
    let tail : held ≡ line ++ 10 ∷ drop (suc (length line)) held
    = line_of_front held more line rest tails (omega arith) in
    ap (λ first. first ∷ held) head ∙ ap (λ back. x ∷ back) tail

-- a carriage return is one byte
pub length-strip_carriage_return : (line : List ℕ) → length line ≤ length (strip_carriage_return line) + 1
length-strip_carriage_return line = elim (eqb (get_or line (length line - 1) 0) 13) as
    (λ is. length line ≤ length (cond is (take (length line - 1) line) line) + 1) [
      | true ↦ omega (arith, length-take (length line - 1) line)
      | false ↦ omega arith
    ]
