-- A list of objects, as one more of them is put before it.
use Rattle.std.proofs.Common.{◌≡◌, ◌∙◌, List, [], ◌∷◌, map, sym, ap, subst, refl}
use Rattle.cx_rule.specs.Routine.{Rule}
use Rattle.cx_rule.specs.declared.spec.Spec.{Spec}

-- their rules, and what they say of themselves
pub record Handed {X : Type 0} (xs : List X) (f : X → Rule) (g : X → Spec) (rules : List Rule)
    (specs : List Spec) : Type 0 where
  pub rules_are : map f xs ≡ rules
  pub specs_are : map g xs ≡ specs

pub none_yet : {X : Type 0} (f : X → Rule) (g : X → Spec) → Handed [] f g [] []
none_yet f g = record { rules_are = refl; specs_are = refl }

pub one_more : {X : Type 0} (xs : List X) (x : X) (f : X → Rule) (g : X → Spec)
    (rules : List Rule) (specs : List Spec) (rule : Rule) (spec : Spec)
    → Handed xs f g rules specs → f x ≡ rule → g x ≡ spec
    → Handed (x ∷ xs) f g (rule ∷ rules) (spec ∷ specs)
one_more xs x f g rules specs rule spec h r s = record {
  rules_are = ap (λ (q : Rule). q ∷ map f xs) r ∙ ap (λ (qs : List Rule). rule ∷ qs) h.rules_are;
  specs_are = ap (λ (q : Spec). q ∷ map g xs) s ∙ ap (λ (qs : List Spec). spec ∷ qs) h.specs_are;
}

-- what is seen of an object by its table of methods alone
pub by_table : {I A : Type 0} {H : I → Type 0} (look : (x : I) → H x → A) (x y : I) (a : A) → x ≡ y
    → ((h : H y) → look y h ≡ a) → (h : H x) → look x h ≡ a
by_table {I} {A} {H} look x y a e all = subst (λ (z : I). (h : H z) → look z h ≡ a) (sym e) all

-- one more object, by its table of methods
module _ {I X : Type 0} {H : I → Type 0} (some : X) (rule_by : (t : I) → H t → Rule)
    (spec_by : (t : I) → H t → Spec) (table : X → I) (value : (x : X) → H (table x)) where
  pub put : (xs : List X) (x : X) (own : I) (rules : List Rule) (specs : List Spec)
      (rule : Rule) (spec : Spec)
      → table x ≡ own → ((h : H own) → rule_by own h ≡ rule) → ((h : H own) → spec_by own h ≡ spec)
      → Handed xs (λ z. rule_by (table z) (value z)) (λ z. spec_by (table z) (value z)) rules specs
      → Handed (x ∷ xs) (λ z. rule_by (table z) (value z)) (λ z. spec_by (table z) (value z))
      (rule ∷ rules) (spec ∷ specs)
  put xs x own rules specs rule spec is r s h =
      one_more xs x (λ z. rule_by (table z) (value z)) (λ z. spec_by (table z) (value z))
      rules specs rule spec h
      (by_table rule_by (table x) own rule is r (value x))
      (by_table spec_by (table x) own spec is s (value x))
