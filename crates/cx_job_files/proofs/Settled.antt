-- Stages that give one value, or one fault as far as it is looked at.
use Rattle.std.proofs.Common.{◌≡◌, ◌∙◌, sym, ap, subst, Result, Ok, Err, inl, inr}
use Rattle.cx_text.specs.Telling.{Stage, Then}
use Rattle.cx_job_files.specs.Stages.{Is, Raised}

-- where a stage gives a value, it has no other answer, and its faults are one, as far as they are
-- looked at
pub record Settled {F G A : Type 0} (seen : F → G) (p : Stage A F) : Type 0 where
  pub one : (x : A) (r : Result A F) → p (Ok x) → p r → r ≡ Ok x
  pub alike : (e f : F) → p (Err e) → p (Err f) → seen e ≡ seen f

abbrev result_err : {F : Type 0} (A : Type 0) → F → Result A F
result_err A e = Err e

pub same_fault : {F : Type 0} (A : Type 0) (e f : F) → result_err A e ≡ result_err A f → e ≡ f
same_fault A e f h = cc

module _ {F G : Type 0} (seen : F → G) where
  pub settled_is : {A : Type 0} (told : Result A F) → Settled seen (Is told)
  settled_is {A} told = record {
    one = λ x r s t. t ∙ sym s;
    alike = λ e f s t. ap seen (same_fault A e f (s ∙ sym t));
  }

  module _ {A B : Type 0} (p : Stage A F) (q : A → Stage B F) (first : Settled seen p)
      (each : (x : A) → Settled seen (q x)) where
    then_one : (y : B) (r : Result B F) → Then p q (Ok y) → Then p q r → r ≡ Ok y
    then_one y r (inl (e, s, z)) other = absurd cc
    then_one y r (inr (x, s, t)) (inl (e, u, z)) = absurd (let no = first.one x (Err e) s u in cc)
    then_one y r (inr (x, s, t)) (inr (v, u, w)) =
        let told = first.one x (Ok v) s u in
        let same : v ≡ x = cc in
        (each x).one y r t (subst (λ (z : A). q z r) same w)

    then_alike : (e f : F) → Then p q (Err e) → Then p q (Err f) → seen e ≡ seen f
    then_alike e f (inl (g, s, y)) (inl (h, t, z)) =
        ap seen (same_fault B e g y) ∙ first.alike g h s t ∙ sym (ap seen (same_fault B f h z))
    then_alike e f (inl (g, s, y)) (inr (x, t, u)) = absurd (let no = first.one x (Err g) t s in cc)
    then_alike e f (inr (x, s, t)) (inl (h, u, z)) = absurd (let no = first.one x (Err h) s u in cc)
    then_alike e f (inr (x, s, t)) (inr (v, u, w)) =
        let told = first.one x (Ok v) s u in
        let same : v ≡ x = cc in
        (each x).alike e f t (subst (λ (z : A). q z (Err f)) same w)

    pub then_settled : Settled seen (Then p q)
    then_settled = record { one = then_one; alike = then_alike }

-- a lower layer's stage, whose faults are one, with its faults as those of this layer
module _ {F G H A : Type 0} (seen : G → H) (raised : F → G) (p : Stage A F)
    (settled : Settled (λ (e : F). e) p) where
  raised_one : (x : A) (r : Result A G) → Raised raised p (Ok x) → Raised raised p r → r ≡ Ok x
  raised_one x (Ok y) s t = (let same = settled.one x (Ok y) s t in cc)
  raised_one x (Err e) s (fault, is, t) = absurd (let no = settled.one x (Err fault) s t in cc)

  raised_alike : (e f : G) → Raised raised p (Err e) → Raised raised p (Err f) → seen e ≡ seen f
  raised_alike e f (a, is, s) (b, is2, t) =
      ap seen is ∙ ap (λ (x : F). seen (raised x)) (settled.alike a b s t) ∙ sym (ap seen is2)

  pub raised_settled : Settled seen (Raised raised p)
  raised_settled = record { one = raised_one; alike = raised_alike }
