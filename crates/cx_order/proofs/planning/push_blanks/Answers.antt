use Rattle.std.proofs.Common.{◌≡◌, ◌∙◌, sym, ap, refl, ℕ, ◌++◌, zero, suc, add-one, append_assoc}
use Rattle.std.specs.Prelude.{codes}
use Rattle.cx_order.specs.Texts.{blanks}
use Rattle.cx_order.proofs.planning.push_blanks.Goals as goal

one_more : (n : ℕ) → blanks n ++ codes "  " ≡ blanks (suc n)
one_more zero = refl
one_more (suc n) = ap (λ t. codes "  " ++ t) (one_more n)

pub blanks-preserved : goal.blanks-preserved
blanks-preserved c =
    let k = c.blanks.counter in
    let old = c.args.text.now in
    let done : c.push_slice.new.self ≡ c.blanks.text ++ codes "  " =
    c.in_ok-push_slice.ensures.ok in
    done ∙ (ap (λ t. t ++ codes "  ") c.blanks.invariant
    ∙ (append_assoc old (blanks k) (codes "  ")
    ∙ ap (λ t. old ++ t) (one_more k ∙ ap blanks (sym (add-one k)))))
