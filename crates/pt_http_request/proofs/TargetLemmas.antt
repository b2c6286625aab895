-- The parts of a path, and the target that its route gives them.
use Rattle.std.proofs.Common.{◌≡◌, ℕ, suc, List, [], ◌∷◌, Option, Some, true, false, cond, take, drop, map, refl, ap}
use Rattle.std.proofs.Common.{sym, subst, ◌∙◌}
use Rattle.std.proofs.lemmas.Bool.{and_from, lt-ltb}
use Rattle.std.proofs.lemmas.Str.{IsUtf8-from_ascii, IsAscii-take, IsAscii-drop}
use Rattle.std.proofs.lemmas.Str.Ascii.{IsAscii-nil}
use Rattle.std.specs.Char.{is_ascii}
use Rattle.std.specs.List.{list_all}
use Rattle.std.specs.Prelude.{IsAscii, IsUtf8, leb, ◌&&◌, length, ◌-◌, slice_get, Result, Ok, Err}
use Rattle.matchit.specs.Params.{walk, part_of}
use Rattle.matchit.specs.Route.{Scan}
use Rattle.matchit.specs.Router.{RouteOf, InsertsRead}
use Rattle.matchit.specs.Rows.{RowsOf}
use Rattle.matchit.specs.Seek.{first}
use Rattle.matchit.specs.declared.error.InsertError.{InsertError}
use Rattle.pt_http_request.specs.Targets.{AreTexts, with_route, parts_of, target_from, target_in}
use Rattle.pt_http_request.specs.declared.targets.Path.{Path}

-- a successful insertion leaves the rows with one more route
pub inserted : (scanned : Result Scan InsertError) (value : Path) (old new rows : RowsOf (RouteOf Path))
    (result : Result (Unit {0}) InsertError) (done : Unit {0}) → InsertsRead scanned value old new result
    → result ≡ Ok done → old ≡ rows → new ≡ with_route scanned value rows
inserted (Ok s) value old new rows (Ok u) done is well same = is.1 ∙ ap (with_route (Ok s) value) same
inserted (Ok s) value old new rows (Err e) done is well same = cc well
inserted (Err e) value old new rows result done is well same = is.0 ∙ same

-- a part of a text of ASCII is text
part-utf8 : (text : List ℕ) (start end : ℕ) → IsAscii text → IsUtf8 (part_of text start end)
part-utf8 text start end ascii =
    elim (leb start end && leb end (length text)) as (λ fits. IsUtf8 (cond fits (take (end - start)
    (drop start text)) [])) [
      | true ↦ IsUtf8-from_ascii _ (IsAscii-take _ _ (IsAscii-drop _ _ ascii))
      | false ↦ IsUtf8-from_ascii [] IsAscii-nil
    ]

-- the parts that parameters took are text
pub walk-texts : (pattern text asked : List ℕ) (names : List (ℕ × ℕ)) (token at : ℕ) → IsAscii asked
    → AreTexts (walk pattern text asked names token at)
walk-texts pattern text asked [] token at ascii = tt
walk-texts pattern text asked (name ∷ names) token at ascii =
    (part-utf8 asked _ _ ascii, walk-texts pattern text asked names _ _ ascii)

-- the first two parts of what parameters took, read as texts
pub two_parts : (pattern text asked taken : List ℕ) (names : List (ℕ × ℕ)) (parts : List (List ℕ × List ℕ))
    (one two : Option (List ℕ)) → IsAscii asked → taken ≡ asked → parts ≡ walk pattern text taken names 0 0
    → (AreTexts parts → one ≡ slice_get (map (λ part. part.1) parts) 0) → (AreTexts parts
    → two ≡ slice_get (map (λ part. part.1) parts) 1) → (one ≡ slice_get (map (λ part. part.1)
    (walk pattern text asked names 0 0)) 0) × (two ≡ slice_get (map (λ part. part.1)
    (walk pattern text asked names 0 0)) 1)
two_parts pattern text asked taken names parts one two ascii is_taken is_parts is_one is_two =
    let is_walk : parts ≡ walk pattern text asked names 0 0 = is_parts
    ∙ ap (λ t. walk pattern text t names 0 0) is_taken in
    let texts : AreTexts parts = subst AreTexts (sym is_walk) (walk-texts pattern text asked names 0 0 ascii) in (
      is_one texts ∙ ap (λ (ps : List (List ℕ × List ℕ)). slice_get (map (λ part. part.1) ps) 0) is_walk,
      is_two texts ∙ ap (λ (ps : List (List ℕ × List ℕ)). slice_get (map (λ part. part.1) ps) 1) is_walk,
    )

ascii-test : (text : List ℕ) → IsAscii text → list_all is_ascii text ≡ true
ascii-test [] ascii = refl
ascii-test (c ∷ text) ascii = and_from _ _ (lt-ltb c 128 (ascii 0)) (ascii-test text (λ i. ascii (suc i)))

-- the target by the route that a path takes is the path's target
pub target-found : (routes : RowsOf (RouteOf Path)) (text : List ℕ) (route : RouteOf Path) (one two : Option
    (List ℕ)) → IsAscii text → first routes text ≡ Some route → one ≡ slice_get (parts_of route text) 0
    → two ≡ slice_get (parts_of route text) 1 → target_from route.value one two ≡ target_in routes text
target-found routes text route one two ascii found is_one is_two =
    let test = ascii-test text ascii in
    rw (test, found, is_one, is_two) refl
