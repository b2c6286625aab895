-- The points of a line take eight bytes each, and the bytes determine them.
use Rattle.std.proofs.Common.{◌≡◌, ℕ, ◌*◌, List, [], ◌∷◌, length, length-append, length-drop, take-append-drop, take, drop}
use Rattle.std.proofs.Common.{refl, sym, ap, ap₂, ◌∙◌, ◌++◌, arith, zero, suc, subst}
use Rattle.std.proofs.lemmas.Int.{ints, to_z-of_z}
use Rattle.std.proofs.lemmas.List.Elements.{recursion_from_All}
use Rattle.std.specs.List.{flat_map, All, AllByRecursion}
use Rattle.std.specs.Int.{w32, cast_unsigned, cast_signed}
use Rattle.std.specs.Prelude.{ℤ, pos, negsuc, FitsSigned, Bool}
use Rattle.std.specs.Simd.{first_chunks}
use Rattle.sqlite.specs.declared.types.Value.{Value}
use Rattle.sqlite.specs.declared.types.Value.TheVariants.{Int, Blob}
use Rattle.sqlite.specs.Order.{Row, bytes, column}
use Rattle.pt_base_values.specs.Place.{IsCoordinate, IsOnPlane}
use Rattle.pt_base_values.specs.declared.place.Point.{Point}
use Rattle.pt_corridor.specs.Route.{FixedRoute, route_of, IsFixedRoute}
use Rattle.pt_desk_spelling.specs.Fields.{number_bytes, signed_bytes}
use Rattle.pt_desk_spelling.specs.Ranges.{IsWord}
use Rattle.pt_desk_spelling.specs.Requests.{point_bytes}
use Rattle.pt_desk_spelling.proofs.FieldLemmas.{length-number, number-same, parts-then}
use Rattle.pt_tables_reading.specs.Fitting.{FitsPoint}
use Rattle.pt_tables_rows.specs.Rows.{route_row, number_value}

-- the number of a value, or 0 if it has none
abbrev number_of_value : Value → ℕ
number_of_value (Int (pos n)) = n
number_of_value _ = 0

length-point : (p : Point) → length (point_bytes p) ≡ 8
length-point p =
    let east = cast_unsigned w32 p.x in
    let north = cast_unsigned w32 p.y in
    omega (arith, length-append (number_bytes east) (number_bytes north), length-number east, length-number north)

pub length-line : (points : List Point) → length (flat_map point_bytes points) ≡ 8 * length points
length-line [] = refl
length-line (p ∷ points) =
    omega (arith, length-append (point_bytes p) (flat_map point_bytes points), length-point p, length-line points)

-- bytes cut into parts of eight, none left over, are those parts one after the other
pub parts-whole : (count : ℕ) (bytes : List ℕ) → length bytes ≡ count * 8
    → flat_map (λ (part : List ℕ). part) (first_chunks 8 count bytes) ≡ bytes
parts-whole zero [] size = refl
parts-whole zero (b ∷ bytes) size = absurd (omega arith)
parts-whole (suc count) bytes size =
    let rest = parts-whole count (drop 8 bytes) (omega (arith, length-drop 8 bytes)) in
    ap (λ (later : List ℕ). take 8 bytes ++ later) rest ∙ take-append-drop 8 bytes

-- ---- bytes determine the points

abbrev AreFit : List Point → Type 0
AreFit points = AllByRecursion FitsPoint points

signed-word : (z : ℤ) → FitsSigned w32 z → IsWord (cast_unsigned w32 z)
signed-word (pos n) fits = let size = fits.sfits in omega (arith, ints, size)
signed-word (negsuc n) fits = let size = fits.sfits in omega (arith, ints, size)

signed-told : (a b : ℤ) → FitsSigned w32 a → FitsSigned w32 b → signed_bytes a ≡ signed_bytes b → a ≡ b
signed-told a b one other same =
    let bits = number-same (cast_unsigned w32 a) (cast_unsigned w32 b) (signed-word a one) (signed-word b other) same in
    sym (to_z-of_z w32 a one) ∙ ap (cast_signed w32) bits ∙ to_z-of_z w32 b other

point-told : (p q : Point) → FitsPoint p → FitsPoint q → point_bytes p ≡ point_bytes q → p ≡ q
point-told p q one other same =
    let parts = parts-then 4 (signed_bytes p.x) (signed_bytes q.x) (signed_bytes p.y) (signed_bytes q.y)
    (length-number (cast_unsigned w32 p.x)) (length-number (cast_unsigned w32 q.x)) same in
    let east = signed-told p.x q.x one.0 other.0 parts.0 in
    let north = signed-told p.y q.y one.1 other.1 parts.1 in
    λ i. record { x = east i; y = north i }

line-told : (one other : List Point) → AreFit one → AreFit other
    → flat_map point_bytes one ≡ flat_map point_bytes other → one ≡ other
line-told [] [] ones others same = refl
line-told [] (q ∷ other) ones others same =
    absurd (let size = ap length same in omega (arith, size, length-line (q ∷ other)))
line-told (p ∷ one) [] ones others same =
    absurd (let size = ap length same in omega (arith, size, length-line (p ∷ one)))
line-told (p ∷ one) (q ∷ other) ones others same =
    let first = parts-then 8 (point_bytes p) (point_bytes q) (flat_map point_bytes one) (flat_map point_bytes other)
    (length-point p) (length-point q) same in
    ap₂ ◌∷◌ (point-told p q ones.0 others.0 first.0) (line-told one other ones.1 others.1 first.1)

coordinate-fits : (z : ℤ) → IsCoordinate z → FitsSigned w32 z
coordinate-fits (pos n) on_plane = record { sfits = omega (arith, ints) }
coordinate-fits (negsuc n) on_plane = record { sfits = omega (arith, ints) }

plane-fits : (points : List Point) → AllByRecursion (λ p. IsOnPlane p.x p.y) points → AreFit points
plane-fits [] on = tt
plane-fits (p ∷ points) on =
    ((coordinate-fits p.x on.0.0, coordinate-fits p.y on.0.1), plane-fits points on.1)

-- a route on the plane has the points that have its bytes
pub route-line : (route : FixedRoute) (points : List Point) → IsFixedRoute route → All FitsPoint points
    → flat_map point_bytes route.points ≡ flat_map point_bytes points → route.points ≡ points
route-line route points fixed fit same =
    line-told route.points points
    (plane-fits route.points (recursion_from_All (λ p. IsOnPlane p.x p.y) route.points fixed.on_plane))
    (recursion_from_All FitsPoint points fit) same

-- and so the parts that were read make a route
pub route-made : (route : FixedRoute) (row : Row) (id width : ℕ) (points : List Point) (accessible : Bool) (days : List Bool)
    (first last : ℕ) → IsFixedRoute route → All FitsPoint points → route_row route ≡ row
    → number_value width ≡ column row 1 → column row 2 ≡ Blob (flat_map point_bytes points)
    → number_value first ≡ column row 5 → number_value last ≡ column row 6
    → IsFixedRoute (route_of id width points accessible days first last)
route-made route row id width points accessible days first last fixed fit same at1 at2 at5 at6 =
    let line = route-line route points fixed fit
    (ap (λ (v : Value). bytes v) (ap (λ (r : Row). column r 2) same ∙ at2)) in
    let wide : route.width ≡ width = ap number_of_value (ap (λ (r : Row). column r 1) same ∙ sym at1) in
    let start : route.first ≡ first = ap number_of_value (ap (λ (r : Row). column r 5) same ∙ sym at5) in
    let end : route.last ≡ last = ap number_of_value (ap (λ (r : Row). column r 6) same ∙ sym at6) in
    subst (λ (r : FixedRoute). IsFixedRoute r)
    (λ i. route_of id (wide i) (line i) accessible days (start i) (end i))
    (record { points = fixed.points; width = fixed.width; on_plane = fixed.on_plane; hours = fixed.hours })
