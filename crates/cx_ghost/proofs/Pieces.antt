-- The numbers of a box, for several variables one after another.
use Rattle.std.proofs.Common.{◌≡◌, ℕ, zero, suc, ◌+◌, ◌*◌, ◌<◌, List, [], ◌∷◌, length, arith, ◌∙◌, ℤ, pos, length-append}
use Rattle.std.specs.Prelude.{slice_index_or}
use Rattle.std.specs.List.{flat_map}
use Rattle.std.proofs.Math.ListN.{get_or-append}
use Rattle.std.proofs.lemmas.List.{get_or-append-add}
use Rattle.std.proofs.lemmas.List.FromFn.{length-map-range_with_len, get_or-map-range_with_len}
use Rattle.cx_grid.specs.declared.boxes.Point.{Point}
use Rattle.cx_grid.specs.declared.boxes.Box3.{Box3}
use Rattle.cx_grid.specs.Boxes.{point_count, point_in, numbers_in}
use Rattle.cx_plan.specs.declared.variable.VarId.{VarId}
use Rattle.cx_field.specs.Faces.{variable_at}

-- a number of a variable stands behind those of the variables before it
pub piece_number : (f : VarId → List ℤ) (n : ℕ) → ((v : VarId) → length (f v) ≡ n)
    → (vars : List VarId) (i j : ℕ) → i < length vars → j < n
    → slice_index_or (flat_map f vars) (i * n + j) (pos 0)
    ≡ slice_index_or (f (variable_at vars i)) j (pos 0)
piece_number f n each [] i j h l = absurd (omega arith)
piece_number f n each (v ∷ vars) zero j h l =
    let at_j : 0 * n + j ≡ j = omega arith in
    let short : j < length (f v) = omega (arith, each v) in
    rw at_j (get_or-append (f v) (flat_map f vars) (pos 0) j short)
piece_number f n each (v ∷ vars) (suc i) j h l =
    let behind : suc i * n + j ≡ length (f v) + (i * n + j) = omega (arith, each v) in
    rw behind (get_or-append-add (f v) (flat_map f vars) (i * n + j) (pos 0)
    ∙ piece_number f n each vars i j (omega arith) l)

-- as many numbers as there are variables, times the points of the box
pub pieces_length : (f : VarId → List ℤ) (n : ℕ) → ((v : VarId) → length (f v) ≡ n)
    → (vars : List VarId) → length (flat_map f vars) ≡ length vars * n
pieces_length f n each [] = omega arith
pieces_length f n each (v ∷ vars) =
    let rest = pieces_length f n each vars in
    let one = each v in
    length-append (f v) (flat_map f vars) ∙ omega (arith, rest, one)

pub numbers_length : (b : Box3) (f : Point → ℤ) → length (numbers_in b f) ≡ point_count b
numbers_length b f = length-map-range_with_len (λ i. f (point_in b i)) 0 (point_count b)

pub number_in : (b : Box3) (f : Point → ℤ) (i : ℕ) → i < point_count b
    → slice_index_or (numbers_in b f) i (pos 0) ≡ f (point_in b i)
number_in b f i l = get_or-map-range_with_len (λ m. f (point_in b m)) 0 (point_count b) i i (pos 0)
    l (omega arith)
