-- What holds of each value that some unmarked tokens spell, and of how many they are, LineEnds
-- aside.
use Rattle.std.proofs.Common.{◌≡◌, ℕ, suc, ◌+◌, ◌-◌, ◌≤◌, Bool, true, false, cond, ◌&&◌, List, [], ◌∷◌, ◌++◌, Option, Some, None, refl, sym, ap, subst, ◌∙◌, arith}
use Rattle.std.specs.Prelude.{MatchBool, not, nat_eq}
use Rattle.cx_text.specs.declared.stop.Mark.{Mark}
use Rattle.cx_text.specs.declared.token.Token.{Token}
use Rattle.cx_text.specs.Tokens.{is_line_end}
use Rattle.cx_text.specs.Grammar.{Item, Grammar, next_of, passes}
use Rattle.cx_text.specs.Grammar as grammar
use Rattle.cx_text.specs.Rules.{Rule, token, nothing, ◌>>=◌, choice, last, loop, line_ends, lexeme, if_is}
use Rattle.cx_text.specs.Lexemes.{beyond, too_deep}
use Rattle.cx_text.proofs.Holds.{Unmarked}
use Rattle.cx_expr.specs.AtMost.{left_behind, is_over, limit_mark, limited}

-- how many tokens aren't LineEnds
abbrev pub count : List Item → ℕ
count [] = 0
count (i ∷ is) = cond (is_line_end i.0) (count is) (suc (count is))

count_append : (a b : List Item) → count (a ++ b) ≡ count a + count b
count_append [] b = omega arith
count_append (i ∷ a) b =
    let h = count_append a b in
    let P : Bool → Type 0 =
    λ c. cond c (count (a ++ b)) (suc (count (a ++ b)))
    ≡ cond c (count a) (suc (count a)) + count b in
    let at : (c : Bool) → P c = λ c. elim c as P [ true ↦ h | false ↦ omega (arith, h) ] in
    at (is_line_end i.0)

unmarked_front : (T : Token → Type 0) (a b : List Item) → Unmarked T (a ++ b) → Unmarked T a
unmarked_front T [] b h = tt
unmarked_front T (i ∷ a) b h = (h.0, h.1, unmarked_front T a b h.2)

unmarked_back : (T : Token → Type 0) (a b : List Item) → Unmarked T (a ++ b) → Unmarked T b
unmarked_back T [] b h = h
unmarked_back T (i ∷ a) b h = unmarked_back T a b h.2

-- P holds of each value of a rule, and of the number of its tokens; T holds of each of these
pub record Costs {A : Type 0} (T : Token → Type 0) (r : Rule A) (P : ℕ → A → Type 0) : Type 0 where
  pub law : (x : A) (ms : List Item) (next : Option Token) → r.derives x ms next → Unmarked T ms
      → P (count ms) x

pub costs_nothing : {A : Type 0} {T : Token → Type 0} {x : A} {P : ℕ → A → Type 0} → P 0 x
    → Costs T (nothing x) P
costs_nothing {A} {T} {x} {P} h =
    record {
      law = λ y ms next d u.
          subst (λ (is : List Item). P (count is) y) (sym d.1)
          (subst (λ (z : A). P 0 z) (sym d.0) h);
    }

costs_token : {A : Type 0} {T : Token → Type 0} {value : Token → Option A}
    {mark : Token → Option Mark} {P : ℕ → A → Type 0}
    → ((t : Token) (x : A) → T t → value t ≡ Some x → mark t ≡ None
    → P (cond (is_line_end t) 0 1) x) → Costs T (token value mark) P
costs_token {A} {T} {value} {mark} {P} h = record {
  law = λ x ms next d u.
      let us = subst (λ (is : List Item). Unmarked T is) d.2 u in
      subst (λ (is : List Item). P (count is) x) (sym d.2) (h d.0 x us.1 d.1 us.0);
}

pub costs_also : {A B : Type 0} {T : Token → Type 0} {r : Rule A} {f : A → Rule B}
    {Q : ℕ → A → Type 0} {P : ℕ → B → Type 0} → Costs T r Q
    → ((n : ℕ) (x : A) → Q n x → Costs T (f x) (λ m y. P (n + m) y)) → Costs T (r >>= f) P
costs_also {A} {B} {T} {r} {f} {Q} {P} first second = record {
  law = λ y ms next d u.
      let parts : ms ≡ d.1 ++ d.2 = d.3 in
      let us = subst (λ (is : List Item). Unmarked T is) parts u in
      let q = first.law d.0 d.1 (next_of d.2 next) d.4 (unmarked_front T d.1 d.2 us) in
      let p = (second (count d.1) d.0 q).law y d.2 next d.5 (unmarked_back T d.1 d.2 us) in
      subst (λ (n : ℕ). P n y) (sym (ap count parts ∙ count_append d.1 d.2)) p;
}

way : {A : Type 0} (b : Bool) (S R : Grammar A) (P : Type 0) (x : A) (ms : List Item)
    (next : Option Token) → (S x ms next → P) → (R x ms next → P)
    → MatchBool b (S x ms next) (R x ms next) → P
way true S R P x ms next p q d = p d
way false S R P x ms next p q d = q d

pub costs_choice : {A : Type 0} {T : Token → Type 0} {test : Token → Bool} {r s : Rule A}
    {P : ℕ → A → Type 0} → Costs T r P → Costs T s P → Costs T (choice test r s) P
costs_choice {A} {T} {test} {r} {s} {P} first second = record {
  law = λ x ms next d u. way (passes test (next_of ms next)) r.derives s.derives (P (count ms) x)
      x ms next (λ h. first.law x ms next h u) (λ h. second.law x ms next h u) d;
}

many_costs : {C : Type 0} (T : Token → Type 0) (test : Token → Bool) (r : C → Rule C)
    (P : ℕ → C → Type 0) → ((n : ℕ) (c : C) → P n c → Costs T (r c) (λ m d. P (n + m) d))
    → (n : ℕ) (c : C) (cs : List C) (ms : List Item) (next : Option Token) → P n c
    → grammar.many test (λ d. (r d).derives) (λ d x. x) c cs ms next → Unmarked T ms
    → P (n + count ms) (last c cs)
many_costs T test r P step n c [] ms next p d u =
    let none : count ms ≡ 0 = ap count d.1 in
    subst (λ (m : ℕ). P m c) (omega (arith, none)) p
many_costs T test r P step n c (x ∷ cs) ms next p d u =
    let parts : ms ≡ d.1 ++ d.2 = d.3 in
    let us = subst (λ (is : List Item). Unmarked T is) parts u in
    let q = (step n c p).law x d.1 (next_of d.2 next) d.4 (unmarked_front T d.1 d.2 us) in
    let all = ap count parts ∙ count_append d.1 d.2 in
    let both : (n + count d.1) + count d.2 ≡ n + count ms = omega (arith, all) in
    subst (λ (m : ℕ). P m (last x cs)) both
    (many_costs T test r P step (n + count d.1) x cs d.2 next q d.5
    (unmarked_back T d.1 d.2 us))

-- what each turn keeps
pub costs_loop : {C : Type 0} {T : Token → Type 0} {test : Token → Bool} {r : C → Rule C} {c : C}
    (P : ℕ → C → Type 0) → ((n : ℕ) (d : C) → P n d → Costs T (r d) (λ m e. P (n + m) e)) → (n : ℕ)
    → P n c → Costs T (loop test r c) (λ m d. P (n + m) d)
costs_loop {C} {T} {test} {r} {c} P step n p = record {
  law = λ x ms next d u.
      let parts : ms ≡ d.1 ++ d.2 = d.3 in
      let us = subst (λ (is : List Item). Unmarked T is) parts u in
      let none : count d.2 ≡ 0 = ap count d.5.1 in
      let all = ap count parts ∙ count_append d.1 d.2 in
      let same : n + count d.1 ≡ n + count ms = omega (arith, all, none) in
      subst (λ (m : ℕ). P m x) same
      (subst (λ (y : C). P (n + count d.1) y) (sym d.5.0)
      (many_costs T test r P step n c d.0 d.1 (next_of d.2 next) p d.4
      (unmarked_front T d.1 d.2 us)));
}

costs_any : {A : Type 0} {T : Token → Type 0} (r : Rule A) → Costs T r (λ n x. Unit {0})
costs_any r = record { law = λ x ms next d u. tt }

-- a token that is no LineEnd
pub costs_lexeme : {A : Type 0} {T : Token → Type 0} {value : Token → Option A}
    {mark : Token → Option Mark} (R : A → Type 0)
    → ((t : Token) (x : A) → T t → value t ≡ Some x → mark t ≡ None → (is_line_end t ≡ false) × R x)
    → Costs T (lexeme value mark) (λ n x. (1 ≤ n) × R x)
costs_lexeme {A} {T} {value} {mark} R h =
    costs_also {Q = λ n x. (1 ≤ n) × R x}
    (costs_token (λ t x k v m. let q = h t x k v m in (rw q.0 (omega arith), q.1))) (λ n x q.
    costs_also (costs_any line_ends)
    (λ m u w. costs_nothing (let some = q.0 in omega (arith, some), q.1)))

-- what is always marked
pub costs_beyond : {A : Type 0} {T : Token → Type 0} (test : Token → Bool) (x : A)
    {P : ℕ → A → Type 0} → Costs T (beyond test x) P
costs_beyond {A} test x =
    costs_also {r = lexeme (if_is test) too_deep} {f = λ u. nothing x} {Q = λ n u. ⊥}
    (costs_also {r = token (if_is test) too_deep} {f = λ v. line_ends >>= λ u. nothing v}
    {Q = λ n u. ⊥} (costs_token (λ t u k v m. absurd cc)) (λ n u q. absurd q))
    (λ n u q. absurd q)

-- ---- where so many may stand

limit_free : (over : Bool) (m : Option Mark) → limit_mark over m ≡ None
    → (over ≡ false) × (m ≡ None)
limit_free true None e = absurd cc
limit_free true (Some m) e = absurd cc
limit_free false m e = (refl, e)

within_limit : (end : Bool) (n k : ℕ) → nat_eq n 0 && not end ≡ false → k ≤ cond end n (n - 1)
    → cond end k (suc k) ≤ n
within_limit true n k e h = h
within_limit false n k e h = grind (arith, e, h)

-- no more stand than may, where none is marked
pub under_limit : (T : Token → Type 0) (n : ℕ) (ms : List Item) → Unmarked T (limited n ms)
    → Unmarked T ms × (count ms ≤ n)
under_limit T n [] u = (tt, omega arith)
under_limit T n ((t, m) ∷ ms) u =
    let free = limit_free (is_over n t) m u.0 in
    let more = under_limit T (left_behind n t) ms u.2 in
    ((free.1, u.1, more.0), within_limit (is_line_end t) n (count ms) free.0 more.1)
