use Rattle.std.proofs.Common.{◌≡◌, ℕ, zero, suc, ◌<◌, ◌≤◌, refl, sym, ap, ◌∙◌, List, [], ◌∷◌, ◌++◌, map, length, get_or, take, drop, set, add-one, arith}
use Rattle.cx_region.specs.declared.witness.Witness.{Witness}
use Rattle.cx_region.specs.Witnesses.{with_letter}
use Rattle.cx_region.proofs.witnesses.with_letter.Goals as goal

-- the next element of a list is mapped
set_mapped : (f : Witness → Witness) (first : List Witness) (k : ℕ) (x : Witness) → k < length first
    → x ≡ get_or (map f (take k first) ++ drop k first) k x
    → set (map f (take k first) ++ drop k first) k (f x)
    ≡ map f (take (suc k) first) ++ drop (suc k) first
set_mapped f [] k x below at = absurd (omega arith)
set_mapped f (y ∷ ys) zero x below at = ap (λ (z : Witness). f z ∷ ys) at
set_mapped f (y ∷ ys) (suc k) x below at =
    ap (λ (t : List Witness). f y ∷ t) (set_mapped f ys k x (omega arith) at)

all_mapped : (f : Witness → Witness) (first : List Witness) (k : ℕ) → length first ≤ k
    → map f (take k first) ++ drop k first ≡ map f first
all_mapped f [] zero past = refl
all_mapped f [] (suc k) past = refl
all_mapped f (y ∷ ys) zero past = absurd (omega arith)
all_mapped f (y ∷ ys) (suc k) past =
    ap (λ (t : List Witness). f y ∷ t) (all_mapped f ys k (omega arith))

pub loop-number-preserved : goal.loop-number-preserved
loop-number-preserved c =
    let f = with_letter c.args.letter in
    let first = c.args.ways.items in
    let n = c.loop-number.number in
    let x = c.index_mut.result.now in
    let below : n < length first = omega (arith, c.args.ways.ok.0) in
    let at : x ≡ get_or (map f (take n first) ++ drop n first) n x =
    c.index_mut.ensures.value
    ∙ ap (λ (ws : List Witness). get_or ws n x) c.loop-number.invariant in
    ap (λ (ws : List Witness). set ws n c.add_letter.new.self) c.loop-number.invariant
    ∙ ap (λ (y : Witness). set (map f (take n first) ++ drop n first) n y)
    c.in_ok-add_letter.ensures
    ∙ set_mapped f first n x below at
    ∙ ap (λ k. map f (take k first) ++ drop k first) (sym (add-one n))

pub returns : goal.returns
returns c =
    let past : length c.args.ways.items ≤ c.loop-number.number = omega (arith, c.args.ways.ok.0) in
    c.loop-number.invariant
    ∙ all_mapped (with_letter c.args.letter) c.args.ways.items c.loop-number.number past
