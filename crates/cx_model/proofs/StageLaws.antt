-- The checkpoint places among a run's stages.
use Rattle.std.proofs.Common.{◌≡◌, ℕ, zero, suc, ◌+◌, ◌-◌, ◌<◌, ◌≤◌, refl, sym, ap, subst, ◌∙◌, Bool, true, false, cond, List, [], ◌∷◌, ◌++◌, flat_map, append_assoc, arith}
use Rattle.std.specs.List.{range_with_len}
use Rattle.cx_plan.specs.Setups.{Setup}
use Rattle.cx_plan.specs.Dues.{is_due, is_written}
use Rattle.cx_plan.specs.Lookups.{CHECKPOINT, ANALYSIS, start_bins, step_bins, end_bins}
use Rattle.cx_model.specs.Stages.{Stage, Bin, Rotate, Save, Write, bins, before_analysis, from_analysis, iteration, rest_behind, stages, stages_after}
use Rattle.cx_model.proofs.SaveLaws.{EachSave}

-- behind the checkpoint place of c stands what a continued run does
pub record Rises (setup : Setup) (b c : ℕ) (behind : List Stage) : Type 0 where
  pub due : is_due setup c ≡ true
  pub later : b < c
  pub rest : behind ≡ stages_after setup c

each-both : (P : ℕ → List Stage → Type 0) (xs ys : List Stage)
    → EachSave (λ c rest. P c (rest ++ ys)) xs → EachSave P ys → EachSave P (xs ++ ys)
each-both P [] ys one two = two
each-both P (Save n ∷ xs) ys one two = (one.0, each-both P xs ys one.1 two)
each-both P (Bin b n ∷ xs) ys one two = each-both P xs ys one two
each-both P (Rotate ∷ xs) ys one two = each-both P xs ys one two
each-both P (Write n ∷ xs) ys one two = each-both P xs ys one two

each-bins : (P : ℕ → List Stage → Type 0) (bs : List ℕ) (n : ℕ) → EachSave P (bins bs n)
each-bins P [] n = tt
each-bins P (b ∷ bs) n = each-bins P bs n

each-analysis : (setup : Setup) (P : ℕ → List Stage → Type 0) (n : ℕ)
    → EachSave P (from_analysis setup n)
each-analysis setup P n = by (is_written setup n)
  where
    by : (b : Bool) → EachSave P (Bin ANALYSIS n ∷ cond b (Write n ∷ []) [])
    by true = tt
    by false = tt

each-evolution : (setup : Setup) (P : ℕ → List Stage → Type 0) (n : ℕ)
    → (is_due setup (suc n) ≡ true → P (suc n) []) → EachSave P (before_analysis setup (suc n))
each-evolution setup P n holds = by (is_due setup (suc n)) holds
  where
    by : (b : Bool) → (b ≡ true → P (suc n) [])
        → EachSave P (Rotate ∷ bins step_bins (suc n)
        ++ cond b (Bin CHECKPOINT (suc n) ∷ Save (suc n) ∷ []) [])
    by true there = (there refl, tt)
    by false there = tt

each-rest : (setup : Setup) (b c count : ℕ) → b ≤ c → count ≡ setup.itlast - c
    → EachSave (Rises setup b) (rest_behind setup c count)
each-rest setup b c zero below is = each-bins (Rises setup b) end_bins setup.itlast
each-rest setup b c (suc count) below is =
    subst (EachSave (Rises setup b)) (sym order)
    (each-both (Rises setup b) (before_analysis setup (c + 1))
    (from_analysis setup (c + 1) ++ rest_behind setup (c + 1) count)
    (subst
    (λ n. EachSave (λ k rest.
    Rises setup b k (rest ++ (from_analysis setup n ++ rest_behind setup n count)))
    (before_analysis setup n)) next
    (each-evolution setup (λ k rest.
    Rises setup b k (rest ++ (from_analysis setup (suc c) ++ rest_behind setup (suc c) count)))
    c
    (λ due. record {
      due = due;
      later = omega (arith, below);
      rest = ap (λ k. from_analysis setup (suc c) ++ rest_behind setup (suc c) k) left;
    })))
    (each-both (Rises setup b) (from_analysis setup (c + 1)) (rest_behind setup (c + 1) count)
    (each-analysis setup (λ k rest. Rises setup b k (rest ++ rest_behind setup (c + 1) count))
    (c + 1))
    (each-rest setup b (c + 1) count (omega (arith, below)) (omega (arith, is)))))
  where
    next : suc c ≡ c + 1
    next = omega arith

    left : count ≡ setup.itlast - suc c
    left = omega (arith, is)

    order : rest_behind setup c (suc count)
        ≡ before_analysis setup (c + 1)
        ++ (from_analysis setup (c + 1) ++ rest_behind setup (c + 1) count)
    order =
        let others = flat_map (iteration setup) (range_with_len (c + 1 + 1) count) in
        let ending = bins end_bins setup.itlast in
        append_assoc (before_analysis setup (c + 1) ++ from_analysis setup (c + 1)) others ending
        ∙ append_assoc (before_analysis setup (c + 1)) (from_analysis setup (c + 1))
        (others ++ ending)

pub each-after : (setup : Setup) (c : ℕ) → EachSave (Rises setup c) (stages_after setup c)
each-after setup c =
    each-both (Rises setup c) (from_analysis setup c) (rest_behind setup c (setup.itlast - c))
    (each-analysis setup (λ k rest.
    Rises setup c k (rest ++ rest_behind setup c (setup.itlast - c))) c)
    (each-rest setup c c (setup.itlast - c) (omega arith) refl)

pub each-stage : (setup : Setup) → EachSave (Rises setup 0) (stages setup)
each-stage setup =
    each-both (Rises setup 0) (iteration setup 0) (rest_behind setup 0 setup.itlast)
    (each-both (λ k rest. Rises setup 0 k (rest ++ rest_behind setup 0 setup.itlast))
    (before_analysis setup 0) (from_analysis setup 0)
    (each-bins (λ k rest. Rises setup 0 k
    (rest ++ from_analysis setup 0 ++ rest_behind setup 0 setup.itlast)) start_bins 0)
    (each-analysis setup (λ k rest. Rises setup 0 k (rest ++ rest_behind setup 0 setup.itlast)) 0))
    (each-rest setup 0 0 setup.itlast (omega arith) (omega arith))
