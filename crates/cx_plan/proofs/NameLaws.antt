-- Past levels, and the bracket of a copy.
use Rattle.std.proofs.Common.{◌≡◌, ℕ, zero, suc, ◌+◌, ◌++◌, refl, ap, ◌∙◌, add-one}
use Rattle.std.specs.Prelude.{codes}
use Rattle.cx_plan.specs.Names.{past, level_text}

past_suc : (k : ℕ) → past (suc k) ≡ past k ++ codes "_p"
past_suc zero = refl
past_suc (suc k) = ap (λ rest. codes "_p" ++ rest) (past_suc k)

pub past_more : (k : ℕ) → past (k + 1) ≡ past k ++ codes "_p"
past_more k = ap past (add-one k) ∙ past_suc k

-- one level back: before the bracket of a copy, and no other
copy_back : level_text (codes "v[0]") 1 ≡ codes "v_p[0]"
copy_back = refl

plain_back : level_text (codes "O[d::a") 1 ≡ codes "O[d::a_p"
plain_back = refl

both_back : level_text (codes "O[d::a[2]") 1 ≡ codes "O[d::a_p[2]"
both_back = refl

two_back : level_text (codes "wave::phi") 2 ≡ codes "wave::phi_p_p"
two_back = refl

not_back : level_text (codes "wave::phi[12]") 0 ≡ codes "wave::phi[12]"
not_back = refl
