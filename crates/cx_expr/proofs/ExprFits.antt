-- What an expression is like that some unmarked tokens spell, and how many tokens it is printed as.
use Rattle.std.proofs.Common.{◌≡◌, ℕ, zero, suc, ◌+◌, ◌-◌, ◌^◌, ◌<◌, ◌≤◌, Bool, true, false, cond, ◌&&◌, List, [], ◌∷◌, length, Some, None, refl, sym, ap, subst, ◌∙◌, inl, inr, arith}
use Rattle.std.specs.Prelude.{nat_lt, ◌⊎◌}
use Rattle.std.specs.List.{AllByRecursion}
use Rattle.std.proofs.lemmas.Bool.{ltb-false}
use Rattle.std.proofs.lemmas.List.{length-append}
use Rattle.cx_text.specs.declared.token.Kind.{Kind}
use Rattle.cx_text.specs.declared.token.Kind.TheVariants as kinds
use Rattle.cx_text.specs.declared.token.Token.{Token}
use Rattle.cx_text.specs.Tokens.{is_line_end, is_line_end_kind, is_word_kind}
use Rattle.cx_text.specs.Rules.{Rule, is_sign, is_sign_kind, sign, name}
use Rattle.cx_text.specs.Lexemes.{is_number_kind, number_in, decimal_from, is_quoted_kind, quoted}
use Rattle.cx_text.specs.Written as written
use Rattle.cx_text.proofs.Holds.{Unmarked, NamesAre, Holds}
use Rattle.cx_expr.specs.declared.tree.Sign.{Sign}
use Rattle.cx_expr.specs.declared.tree.Sign.TheVariants.{Minus}
use Rattle.cx_expr.specs.declared.tree.Expr.{Expr, Not, Negative, Pair}
use Rattle.cx_expr.specs.Exprs.{is_written, sign_among, operator, joined, chain, once_joined, products, sums, tests, ands, ors, number, index, equals, named, parens, zero_, atom, is_unary, negation, negative, unary, product, sum_, comparison, conjunction, disjunction, operand, expression}
use Rattle.cx_expr.specs.Printed.{level_of, level, left_level, right_level, operator_token, in_parens, expr_tokens}
use Rattle.cx_expr.proofs.Costs.{Costs, costs_nothing, costs_also, costs_choice, costs_loop, costs_lexeme, costs_beyond, under_limit}
use Rattle.cx_expr.proofs.NumberLaws.{unmarked_high}
use Rattle.cx_expr.proofs.Trees.{side, Fits, number_fits, named_fits, equals_fits, not_fits, negative_fits, pair_fits, wider, enclosed, not_tokens, negative_tokens, pair_tokens, not_level, negative_level, pair_level, level_most, side_bare, side_inside}

-- ---- tokens that are no LineEnd

number_kind : (k : Kind) → is_number_kind k ≡ true → is_line_end_kind k ≡ false
number_kind kinds.Number e = refl
number_kind kinds.Word e = absurd cc
number_kind kinds.Quoted e = absurd cc
number_kind kinds.Sign e = absurd cc
number_kind kinds.LineEnd e = absurd cc

word_kind : (k : Kind) → is_word_kind k ≡ true → is_line_end_kind k ≡ false
word_kind kinds.Number e = absurd cc
word_kind kinds.Word e = refl
word_kind kinds.Quoted e = absurd cc
word_kind kinds.Sign e = absurd cc
word_kind kinds.LineEnd e = absurd cc

quoted_kind : (k : Kind) → is_quoted_kind k ≡ true → is_line_end_kind k ≡ false
quoted_kind kinds.Number e = absurd cc
quoted_kind kinds.Word e = absurd cc
quoted_kind kinds.Quoted e = refl
quoted_kind kinds.Sign e = absurd cc
quoted_kind kinds.LineEnd e = absurd cc

sign_kind : (k : Kind) → is_sign_kind k ≡ true → is_line_end_kind k ≡ false
sign_kind kinds.Number e = absurd cc
sign_kind kinds.Word e = absurd cc
sign_kind kinds.Quoted e = absurd cc
sign_kind kinds.Sign e = refl
sign_kind kinds.LineEnd e = absurd cc

some_true : {A : Type 0} (b : Bool) (x y : A) → cond b (Some x) None ≡ Some y → (b ≡ true) × (x ≡ y)
some_true true x y e = (refl, cc)
some_true false x y e = absurd cc

and_first : (a b : Bool) → a && b ≡ true → a ≡ true
and_first true b e = refl
and_first false b e = e

number_costs : {T : Token → Type 0} (high : ℕ)
    → Costs T (number_in 0 high) (λ n k. (1 ≤ n) × (k ≤ high))
number_costs high = costs_lexeme (λ k. k ≤ high) (λ t x h v m.
    let is = some_true (is_number_kind t.kind) (decimal_from 0 t.text) x v in
    let low = unmarked_high (nat_lt (decimal_from 0 t.text) 0) (nat_lt high (decimal_from 0 t.text))
    m in (
      number_kind t.kind is.0,
      subst (λ (k : ℕ). k ≤ high) is.1 (ltb-false high (decimal_from 0 t.text) low),
    ))

sign_costs : {T : Token → Type 0} (b : ℕ) → Costs T (sign b) (λ n u. (1 ≤ n) × Unit {0})
sign_costs b = costs_lexeme (λ u. Unit {0})
    (λ t x h v m. (
      sign_kind t.kind
          (and_first (is_sign_kind t.kind) _ (some_true (is_sign b t) tt x v).0),
      tt,
    ))

quoted_costs : {T : Token → Type 0} → Costs T quoted (λ n x. (1 ≤ n) × Unit {0})
quoted_costs = costs_lexeme (λ x. Unit {0})
    (λ t x h v m. (quoted_kind t.kind (some_true (is_quoted_kind t.kind) t.text x v).0, tt))

name_costs : {T : Token → Type 0} (W : List ℕ → Type 0) → NamesAre T W
    → Costs T name (λ n x. (1 ≤ n) × W x)
name_costs W are = costs_lexeme W
    (λ t x h v m. (word_kind t.kind (some_true (is_word_kind t.kind) t.text x v).0, are t x h v m))

sign_from : (Q : Sign → Type 0) (ss : List Sign) (t : Token) (s : Sign) → AllByRecursion Q ss
    → sign_among ss t ≡ Some s → (is_line_end t ≡ false) × Q s
sign_from Q [] t s all e = absurd cc
sign_from Q (o ∷ ss) t s all e =
    let P : Bool → Type 0 = λ b. is_written o t ≡ b → cond b (Some o) (sign_among ss t) ≡ Some s
    → (is_line_end t ≡ false) × Q s in
    let at : (b : Bool) → P b = λ b. elim b as P [
      | true ↦ λ w k. (
        sign_kind t.kind (and_first (is_sign_kind t.kind) _ w),
        subst Q (some_true true o s k).1 all.0,
      )
      | false ↦ λ w k. sign_from Q ss t s all.1 k
    ] in
    at (is_written o t) refl e

operator_costs : {T : Token → Type 0} (Q : Sign → Type 0) (ss : List Sign) → AllByRecursion Q ss
    → Costs T (operator ss) (λ n s. (1 ≤ n) × Q s)
operator_costs Q ss all = costs_lexeme Q (λ t x h v m. sign_from Q ss t x all v)

-- ---- how many tokens are printed

parens_size : (b : Bool) (ts : List Token)
    → (length ts ≤ length (in_parens b ts)) × (length (in_parens b ts) ≤ suc (suc (length ts)))
parens_size true ts = let l = length-append ts (written.sign 41 ∷ []) in
    (omega (arith, l), omega (arith, l))
parens_size false ts = (omega arith, omega arith)

lt_cases : (a b : ℕ) → (a < b) ⊎ (b ≤ a)
lt_cases a b = search (arith)

wider_size : (p : ℕ) (e : Expr) → length (side (suc p) e) ≤ length (side p e)
wider_size p e =
    elim (lt_cases (suc p) (level e)) [
      | inl h ↦ let same = side_inside (suc p) e h ∙ sym (side_inside p e (omega (arith, h))) in
          let l = ap length same in omega (arith, l)
      | inr h ↦ let same = ap length (side_bare (suc p) e h) in
          let l = (parens_size (nat_lt p (level e)) (expr_tokens e)).0 in omega (arith, same, l)
    ]

enclosed_size : (e : Expr) → length (side 0 e) ≤ suc (suc (length (side 5 e)))
enclosed_size e =
    let same = ap length (side_bare 5 e (level_most e)) in
    let l = (parens_size (nat_lt 0 (level e)) (expr_tokens e)).1 in
    omega (arith, same, l)

not_size : (one : Expr) → length (side 0 (Not one)) ≡ suc (length (side 0 one))
not_size one = let none = not_level one in
    ap length (side_bare 0 (Not one) (omega (arith, none)) ∙ not_tokens one)

negative_size : (one : Expr) → length (side 0 (Negative Minus one)) ≡ suc (length (side 0 one))
negative_size one = let none = negative_level Minus one in
    ap length (side_bare 0 (Negative Minus one) (omega (arith, none)) ∙ negative_tokens Minus one)

pair_size : (p : ℕ) (s : Sign) (left right : Expr) → level_of s ≤ p
    → length (side p (Pair s left right))
    ≡ length (side (left_level s) left) + suc (length (side (right_level s) right))
pair_size p s left right h =
    let at = pair_level s left right in
    ap length (side_bare p (Pair s left right) (omega (arith, at, h)) ∙ pair_tokens s left right)
    ∙ length-append (side (left_level s) left) (operator_token s ∷ side (right_level s) right)

-- ---- expressions

-- it fits, and no more tokens are printed than these
abbrev pub Kept : (List ℕ → Type 0) → ℕ → ℕ → ℕ → ℕ → Expr → Type 0
Kept W most depth signs n e = Fits W depth signs most e × (length (side most e) ≤ n)

module _ (T : Token → Type 0) (W : List ℕ → Type 0) (are : NamesAre T W) where
  atom_number : (depth signs : ℕ) → Costs T number (Kept W 0 depth signs)
  atom_number depth signs =
      costs_also (number_costs (2 ^ 63 - 1))
      (λ n k q. costs_nothing (number_fits k refl q.1, (let some = q.0 in omega (arith, some))))

  atom_index : (depth signs m : ℕ) (x : List ℕ) → (1 ≤ m) × W x
      → Costs T (index x) (λ n e. Kept W 0 depth signs (m + n) e)
  atom_index depth signs m x w =
      costs_also (sign_costs 91) (λ a u p.
      costs_also (number_costs (2 ^ 32 - 1)) (λ b k q.
      costs_also (sign_costs 93) (λ c v r.
      costs_nothing (named_fits x (Some k) refl w.1 q.1, (omega (arith, w.0, p.0, q.0, r.0))))))

  atom_equals : (depth signs m : ℕ) → 1 ≤ m → Costs T equals (λ n e. Kept W 0 depth signs (m + n) e)
  atom_equals depth signs m h =
      costs_also (sign_costs 40) (λ a u p.
      costs_also (name_costs W are) (λ b x w.
      costs_also (sign_costs 44) (λ c v q.
      costs_also quoted_costs (λ d text r.
      costs_also (sign_costs 41) (λ f y s.
      costs_nothing (equals_fits x text refl w.1, (omega (arith, h, p.0, w.0, q.0, r.0, s.0))))))))

  atom_named : (depth signs : ℕ) → Costs T named (Kept W 0 depth signs)
  atom_named depth signs =
      costs_also (name_costs W are) (λ m x w.
      costs_choice (atom_equals depth signs m w.0)
      (costs_choice (atom_index depth signs m x w)
      (costs_nothing (named_fits x None refl w.1 tt, (let some = w.0 in omega (arith, some))))))

  atom_costs : (depth signs : ℕ) (inner : Rule Expr) → Costs T inner (Kept W 0 depth signs)
      → Costs T (atom inner) (Kept W 0 depth signs)
  atom_costs depth signs inner h =
      costs_choice h (costs_choice (atom_number depth signs) (atom_named depth signs))

  negation_costs : (depth signs : ℕ) (inner : Rule Expr) → Costs T inner (Kept W 0 depth signs)
      → Costs T (negation inner) (Kept W 0 depth (suc signs))
  negation_costs depth signs inner h =
      costs_also (sign_costs 33) (λ a u p.
      costs_also h (λ b e q.
      costs_nothing (
        not_fits e refl q.0,
        (let size = not_size e in omega (arith, size, p.0, q.1)),
      )))

  negative_costs : (depth signs : ℕ) (inner : Rule Expr) → Costs T inner (Kept W 0 depth signs)
      → Costs T (negative inner) (Kept W 0 depth (suc signs))
  negative_costs depth signs inner h =
      costs_also (sign_costs 45) (λ a u p.
      costs_also h (λ b e q.
      costs_nothing (
        negative_fits e refl q.0,
        (let size = negative_size e in omega (arith, size, p.0, q.1)),
      )))

  unary_costs : (inner : ℕ → Rule Expr) (depth : ℕ)
      → ((k : ℕ) → Costs T (inner k) (Kept W 0 depth k)) → (signs : ℕ)
      → Costs T (unary inner signs) (Kept W 0 depth signs)
  unfolding unary
  unary_costs inner depth h zero =
      costs_choice (costs_beyond is_unary zero_) (atom_costs depth zero (inner zero) (h zero))
  unary_costs inner depth h (suc signs) =
      costs_choice (negation_costs depth signs (unary inner signs)
      (unary_costs inner depth h signs))
      (costs_choice (negative_costs depth signs (unary inner signs)
      (unary_costs inner depth h signs))
      (atom_costs depth (suc signs) (inner (suc signs)) (h (suc signs))))

  parens_costs : (depth signs : ℕ) (inner : Rule Expr) → Costs T inner (Kept W 5 depth signs)
      → Costs T (parens inner) (Kept W 0 (suc depth) signs)
  parens_costs depth signs inner h =
      costs_also (sign_costs 40) (λ a u p.
      costs_also h (λ b e q.
      costs_also (sign_costs 41) (λ c v r.
      costs_nothing (
        enclosed q.0,
        (let size = enclosed_size e in omega (arith, size, p.0, q.1, r.0)),
      ))))

  widened : (most depth signs n : ℕ) (e : Expr) → Kept W most depth signs n e
      → Kept W (suc most) depth signs n e
  widened most depth signs n e q =
      (wider q.0, (let size = wider_size most e in let s = q.1 in omega (arith, size, s)))

  joined_costs : (ss : List Sign) (left most depth signs n : ℕ)
      → AllByRecursion (λ s. (level_of s ≡ suc most) × (left_level s ≡ left)) ss
      → (part : Rule Expr) → Costs T part (Kept W most depth signs) → (e : Expr)
      → Kept W left depth signs n e
      → Costs T (joined ss part e) (λ m x. Kept W (suc most) depth signs (n + m) x)
  joined_costs ss left most depth signs n all part h e k =
      costs_also (operator_costs (λ s. (level_of s ≡ suc most) × (left_level s ≡ left)) ss all)
      (λ a s p.
      costs_also h (λ b x q.
      let high = p.1.0 in
      let low : right_level s ≡ most = omega (arith, high) in
      let f : Fits W depth signs (left_level s) e =
      subst (λ (l : ℕ). Fits W depth signs l e) (sym p.1.1) k.0 in
      let g : Fits W depth signs (right_level s) x =
      subst (λ (l : ℕ). Fits W depth signs l x) (sym low) q.0 in
      let within : level_of s ≤ suc most = omega (arith, high) in
      let size : length (side (suc most) (Pair s e x))
      ≡ length (side left e) + suc (length (side most x)) =
      pair_size (suc most) s e x within ∙ rw (p.1.1, low) refl in
      costs_nothing (pair_fits s e x refl within f g, (omega (arith, size, p.0, q.1, k.1)))))

  chain_costs : (ss : List Sign) (most depth signs : ℕ)
      → AllByRecursion (λ s. (level_of s ≡ suc most) × (left_level s ≡ suc most)) ss
      → (part : Rule Expr) → Costs T part (Kept W most depth signs)
      → Costs T (chain ss part) (Kept W (suc most) depth signs)
  unfolding chain
  chain_costs ss most depth signs all part h =
      costs_also h (λ n e q. costs_loop (Kept W (suc most) depth signs)
      (λ m x k. joined_costs ss (suc most) most depth signs m all part h x k) n
      (widened most depth signs n e q))

  once_costs : (ss : List Sign) (most depth signs : ℕ)
      → AllByRecursion (λ s. (level_of s ≡ suc most) × (left_level s ≡ most)) ss
      → (part : Rule Expr) → Costs T part (Kept W most depth signs)
      → Costs T (once_joined ss part) (Kept W (suc most) depth signs)
  unfolding once_joined
  once_costs ss most depth signs all part h =
      costs_also h (λ n e q.
      costs_choice (joined_costs ss most most depth signs n all part h e q)
      (costs_nothing (subst (λ (m : ℕ). Kept W (suc most) depth signs m e) (omega arith)
      (widened most depth signs n e q))))

  disjunction_costs : (depth signs : ℕ) (un : Rule Expr) → Costs T un (Kept W 0 depth signs)
      → Costs T (disjunction un) (Kept W 5 depth signs)
  disjunction_costs depth signs un h =
      let one = chain_costs products 0 depth signs
      ((refl, refl), ((refl, refl), ((refl, refl), tt))) un h in
      let two = chain_costs sums 1 depth signs ((refl, refl), ((refl, refl), tt)) (product un)
      one in
      let three = once_costs tests 2 depth signs (
        (refl, refl),
        (
          (refl, refl),
          ((refl, refl), ((refl, refl), ((refl, refl), ((refl, refl), tt)))),
        ),
      ) (sum_ un) two in
      let four = chain_costs ands 3 depth signs ((refl, refl), tt) (comparison un) three in
      chain_costs ors 4 depth signs ((refl, refl), tt) (conjunction un) four

  operand_costs : (depth signs : ℕ) → Costs T (operand depth signs) (Kept W 0 depth signs)
  unfolding operand
  operand_costs zero signs = unary_costs _ 0 (λ k. costs_beyond (is_sign 40) zero_) signs
  operand_costs (suc depth) signs =
      unary_costs _ (suc depth)
      (λ k. parens_costs depth k (disjunction (operand depth k))
      (disjunction_costs depth k (operand depth k) (operand_costs depth k))) signs

  -- each expression that is derived
  pub expression_holds : Holds T expression (λ n e. Kept W 5 32 32 1024 e)
  expression_holds = record {
    law = λ e ms next d u.
        let k = under_limit T 1024 d.0 (subst (λ is. Unmarked T is) d.1 u) in
        let q = (disjunction_costs 32 32 (operand 32 32) (operand_costs 32 32)).law e d.0 next d.2
        k.0 in
        (q.0, omega (arith, q.1, k.1));
  }
