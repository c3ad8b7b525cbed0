-- Sets of numbers.
use Rattle.std.proofs.Common.{◌≡◌, ℕ, ◌<◌, Bool, true, false, ◌||◌, eqb, eqb-true, eq-eqb, ltb, List, [], ◌∷◌, Option, Some, None, refl, sym, ◌∙◌, ap, subst}
use Rattle.std.specs.Prelude.{IfSome}
use Rattle.std.specs.List.{All}
use Rattle.std.specs.Ordering.{nat_cmp}
use Rattle.std.specs.Cmp.{ranked}
use Rattle.std.specs.BTreeSet.{insert_key}
use Rattle.std.proofs.lemmas.List.Elements.{All-head, All-tail}
use Rattle.std.specs.declared.cmp.Ordering.TheVariants.{Less}
use Rattle.cx_order_least.specs.Links.{has}

or_turn : (a b : Bool) → (a || b) ≡ (b || a)
or_turn true true = refl
or_turn true false = refl
or_turn false true = refl
or_turn false false = refl

or_again : (a b : Bool) → (a || b) ≡ ((a || b) || a)
or_again true b = refl
or_again false true = refl
or_again false false = refl

or_group : (a b c : Bool) → (a || (b || c)) ≡ ((a || b) || c)
or_group true b c = refl
or_group false b c = refl

pub has-insert_key : (ks : List ℕ) (k q : ℕ)
    → has (insert_key nat_cmp ks k) q ≡ (has ks q || eqb k q)
has-insert_key [] k q = or_turn (eqb k q) false
has-insert_key (x ∷ xs) k q = by_test (has-insert_key xs k q) (ltb k x) refl
  where
    by_same : (t : Bool) → eqb k x ≡ t → ltb k x ≡ false
        → has (insert_key nat_cmp xs k) q ≡ (has xs q || eqb k q)
        → has (insert_key nat_cmp (x ∷ xs) k) q ≡ (has (x ∷ xs) q || eqb k q)
    by_same true e above rest =
        rw above
        (rw e (let P : ℕ → Type 0 =
        λ n. (eqb x q || has xs q) ≡ ((eqb x q || has xs q) || eqb n q) in
        subst P (sym (eqb-true k x e)) (or_again (eqb x q) (has xs q))))
    by_same false e above rest =
        rw above (rw e (ap (λ t. eqb x q || t) rest ∙ or_group (eqb x q) (has xs q) (eqb k q)))

    by_test : has (insert_key nat_cmp xs k) q ≡ (has xs q || eqb k q) → (t : Bool) → ltb k x ≡ t
        → has (insert_key nat_cmp (x ∷ xs) k) q ≡ (has (x ∷ xs) q || eqb k q)
    by_test rest true e = rw e (or_turn (eqb k q) (has (x ∷ xs) q))
    by_test rest false e = by_same (eqb k x) refl e rest

pub has-All : (P : ℕ → Type 0) (xs : List ℕ) (q : ℕ) → All P xs → has xs q ≡ true → P q
has-All P [] q all there = absurd (cc there)
has-All P (x ∷ xs) q all there =
    by_test (λ t. has-All P xs q (All-tail P x xs all) t) (eqb x q) refl
  where
    by_test : (has xs q ≡ true → P q) → (t : Bool) → eqb x q ≡ t → P q
    by_test rest true e = subst P (eqb-true x q e) (All-head P x xs all)
    by_test rest false e = rest (sym (ap (λ t. t || has xs q) e) ∙ there)

pub has-first : (x : ℕ) (xs : List ℕ) → has (x ∷ xs) x ≡ true
has-first x xs = ap (λ t. t || has xs x) (eq-eqb x x refl)

pub above : (r : Option ℕ) (keys : List ℕ) → IfSome r (λ x. All (λ q. nat_cmp x q ≡ Less) keys)
    → IfSome r (λ x. (k : ℕ) → has keys k ≡ true → x < k)
above None keys h = h
above (Some x) keys h = λ k there.
    ranked x k Less (sym (has-All (λ q. nat_cmp x q ≡ Less) keys k h there))
