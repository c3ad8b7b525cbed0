-- Expressions are read as their grammar derives them.
use Rattle.std.proofs.Common.{◌≡◌, ◌≢◌, ◌≤◌, ℕ, zero, suc, ◌-◌, Bool, true, false, ◌||◌, List, [], ◌∷◌, Option, Some, None, Ok, Err, refl, arith, ◌∙◌, ap}
use Rattle.cx_text.specs.declared.token.Token.{Token}
use Rattle.cx_text.specs.declared.stop.Mark.TheVariants.{Limit}
use Rattle.cx_text.specs.declared.stop.Why.{Why}
use Rattle.cx_text.specs.declared.stop.Why.TheVariants.{Marked}
use Rattle.cx_text.specs.Grammar.{passes, head}
use Rattle.cx_text.specs.Tokens.{is_line_end}
use Rattle.cx_text.specs.Rules.{Rule, loop, if_is, is_sign, sign}
use Rattle.cx_text.specs.Lexemes.{beyond, is_number}
use Rattle.cx_expr.specs.declared.tree.Sign.{Sign}
use Rattle.cx_expr.specs.declared.tree.Sign.TheVariants.{Or, And, Below, Plus, Times}
use Rattle.cx_expr.specs.declared.tree.Expr.{Expr}
use Rattle.cx_expr.specs.declared.read.Level.{Level}
use Rattle.cx_expr.specs.declared.read.Level.TheVariants as level
use Rattle.cx_expr.specs.Exprs.{sign_among, is_among, operator, joined, chain, once_joined, products, sums, tests, ands, ors, number, index, equals, opens_equals, behind, named, parens, zero_, atom, is_unary, negation, negative, unary, product, sum_, comparison, conjunction, disjunction, operand, expr, expression, signs_of, under}
use Rattle.cx_text.proofs.Laws.{Means}
use Rattle.cx_text.proofs.Loops.{Short}
use Rattle.cx_text.proofs.RuleLaws.{Part, Tail, Any, Not, weaker_part, before_part, part_then, part_then_tail, part_choice, part_end, part_loop, short_part, tail_choice, tail_option, tail_end, lexeme_good, lexeme_full, lexeme_then, lexeme_last, lexeme_alone}
use Rattle.cx_text.proofs.Never.{Never, never_nothing, never_also, never_choice, never_loop, never_lexeme, never_name, never_number, never_beyond}
use Rattle.cx_expr.proofs.AtMostLaws.{at_most_part}
use Rattle.cx_text.proofs.LexemeLaws.{Ended, a_sign, a_sign_pair, a_name, a_number, a_quoted, sign_is, and_right, beyond_part}

abbrev pub times_is : Means (sign_among products)
times_is = record { tok = a_sign 42; x = Times; is = refl }

abbrev pub plus_is : Means (sign_among sums)
plus_is = record { tok = a_sign 43; x = Plus; is = refl }

abbrev pub below_is : Means (sign_among tests)
below_is = record { tok = a_sign 60; x = Below; is = refl }

abbrev pub and_is : Means (sign_among ands)
and_is = record { tok = a_sign_pair 38 38; x = And; is = refl }

abbrev pub or_is : Means (sign_among ors)
or_is = record { tok = a_sign_pair 124 124; x = Or; is = refl }

abbrev pub unary_is : Means (if_is is_unary)
unary_is = record { tok = a_sign 45; x = tt; is = refl }

-- ---- what follows

abbrev pub AfterOperand : Option Token → Type 0
AfterOperand n = Not (is_sign 40) n × Not (is_sign 91) n × Not is_line_end n

abbrev pub AfterProduct : Option Token → Type 0
AfterProduct n = Not (is_among products) n × AfterOperand n

abbrev pub AfterSum : Option Token → Type 0
AfterSum n = Not (is_among sums) n × AfterProduct n

abbrev pub AfterComparison : Option Token → Type 0
AfterComparison n = Not (is_among tests) n × AfterSum n

abbrev pub AfterAnd : Option Token → Type 0
AfterAnd n = Not (is_among ands) n × AfterComparison n

abbrev pub AfterExpr : Option Token → Type 0
AfterExpr n = Not (is_among ors) n × AfterAnd n

-- ---- atoms

pub number_part : {F : Option Token → Type 0} → F (Some a_number.tok) → Part number F Ended
number_part f = lexeme_last a_number f

pub index_part : (n : List ℕ) → Part (index n) Any Ended
index_part n = lexeme_then (sign_is 91 refl) tt
    (λ u. lexeme_then a_number refl (λ k. lexeme_last (sign_is 93 refl) refl))

pub equals_part : Part equals Any Ended
equals_part = lexeme_then (sign_is 40 refl) tt
    (λ u. lexeme_then a_name refl
    (λ n. lexeme_then (sign_is 44 refl) refl
    (λ v. lexeme_then a_quoted refl (λ t. lexeme_last (sign_is 41 refl) refl))))

pub no_equals : (n : List ℕ) (next : Option Token) → Not (is_sign 40) next
    → Not (opens_equals n) next
no_equals n None h = refl
no_equals n (Some t) h = and_right _ _ h

pub behind_tail : (n : List ℕ) → Tail (behind n) AfterOperand
behind_tail n =
    tail_choice {F = Any} (before_part equals_part (λ k h. h.2))
    (tail_choice {F = Any} (before_part (index_part n) (λ k h. h.2))
    (tail_end None (refl, refl, refl)) (λ k h. h.1)) (λ k h. no_equals n k h.0)

pub named_part : {F : Option Token → Type 0} → F (Some a_name.tok) → Part named F AfterOperand
named_part f = part_then_tail (lexeme_alone a_name f) (λ k h. h.2) None (refl, refl, refl)
    behind_tail

-- the first token of an atom need be no sign
abbrev pub NoSign : Option Token → Type 0
NoSign n = Not (is_sign 33) n × Not (is_sign 45) n × Ended n

abbrev pub NoOpen : Option Token → Type 0
NoOpen n = Not (is_sign 40) n × NoSign n

abbrev pub NoNumber : Option Token → Type 0
NoNumber n = Not is_number n × NoOpen n

pub atom_part : (inner : Rule Expr) → Part inner Any AfterOperand
    → Part (atom inner) NoSign AfterOperand
atom_part inner part =
    weaker_part {F = NoOpen}
    (part_choice part (weaker_part {F = NoNumber}
    (part_choice {E = Any} (before_part (number_part tt) (λ n h. h.2))
    (named_part (refl, (refl, (refl, refl, refl)))) (λ n h. h.0)) (λ n h. h.1)) (λ n h. h.0))
    (λ n h. h.1)

-- ---- signs before an expression

pub not_either : (p q : Token → Bool) (n : Option Token) → Not p n → Not q n
    → Not (λ t. p t || q t) n
not_either p q None a b = refl
not_either p q (Some t) a b = rw (a, b) refl

pub unary_part : (inner : ℕ → Rule Expr) (signs : ℕ) → ((s : ℕ) → Part (inner s) Any AfterOperand)
    → Part (unary inner signs) Ended AfterOperand
unfolding unary
unary_part inner zero parts =
    weaker_part {F = NoSign}
    (part_choice {E = Any} (before_part (beyond_part is_unary unary_is tt) (λ n h. h.2))
    (atom_part (inner zero) (parts zero)) (λ n h. not_either (is_sign 33) (is_sign 45) n h.0 h.1))
    (λ n h. h.2)
unary_part inner (suc signs) parts =
    let one = unary_part inner signs parts in
    weaker_part {F = NoSign}
    (part_choice {E = Any} (lexeme_then (sign_is 33 refl) tt
    (λ u. part_end None (refl, refl, refl) one))
    (part_choice {E = Any} (lexeme_then (sign_is 45 refl) tt
    (λ u. part_end None (refl, refl, refl) one))
    (atom_part (inner (suc signs)) (parts (suc signs))) (λ n h. h.1)) (λ n h. h.0)) (λ n h. h.2)

-- ---- levels

pub joined_part : (signs : List Sign) (one : Means (sign_among signs)) (part : Rule Expr)
    {G : Option Token → Type 0} → G None → Part part Ended G → (left : Expr)
    → Part (joined signs part left) Any G
joined_part signs one part g p left = lexeme_then one tt (λ s. part_end None g p)

pub chain_part : (signs : List Sign) (one : Means (sign_among signs)) (part : Rule Expr)
    {G : Option Token → Type 0} → G None → Part part Ended G
    → Part (chain signs part) Ended (λ n. Not (is_among signs) n × G n)
unfolding chain
chain_part signs one part g p =
    part_loop p (λ e. (joined_part signs one part g p e).good)
    (λ e. (joined_part signs one part g p e).full) (λ n h. h.0) (λ n h. h.1) None (refl, g)

pub once_joined_part : (signs : List Sign) (one : Means (sign_among signs)) (part : Rule Expr)
    {G : Option Token → Type 0} → G None → Part part Ended G
    → Part (once_joined signs part) Ended (λ n. Not (is_among signs) n × G n)
unfolding once_joined
once_joined_part signs one part g p =
    part_then_tail p (λ n h. h.1) None (refl, g)
    (λ e. tail_option None (refl, g) (joined_part signs one part g p e) (λ n h. h.1) (λ n h. h.0))

pub product_part : (un : Rule Expr) → Part un Ended AfterOperand
    → Part (product un) Ended AfterProduct
product_part un p = chain_part products times_is un (refl, refl, refl) p

pub sum_part : (un : Rule Expr) → Part un Ended AfterOperand → Part (sum_ un) Ended AfterSum
sum_part un p = chain_part sums plus_is (product un) (refl, (refl, refl, refl)) (product_part un p)

pub comparison_part : (un : Rule Expr) → Part un Ended AfterOperand
    → Part (comparison un) Ended AfterComparison
comparison_part un p = once_joined_part tests below_is (sum_ un) (refl, (refl, (refl, refl, refl)))
    (sum_part un p)

pub conjunction_part : (un : Rule Expr) → Part un Ended AfterOperand
    → Part (conjunction un) Ended AfterAnd
conjunction_part un p = chain_part ands and_is (comparison un)
    (refl, (refl, (refl, (refl, refl, refl)))) (comparison_part un p)

pub disjunction_part : (un : Rule Expr) → Part un Ended AfterOperand
    → Part (disjunction un) Ended AfterExpr
disjunction_part un p = chain_part ors or_is (conjunction un)
    (refl, (refl, (refl, (refl, (refl, refl, refl))))) (conjunction_part un p)

pub parens_part : (inner : Rule Expr) → Part inner Ended AfterExpr → Part (parens inner) Any Ended
parens_part inner p = lexeme_then (sign_is 40 refl) tt
    (λ u. part_then (Some (a_sign 41)) (refl, (refl, (refl, (refl, (refl, (refl, refl, refl)))))) p
    (λ e. lexeme_last (sign_is 41 refl) (refl, (refl, (refl, (refl, (refl, (refl, refl, refl))))))))

pub operand_part : (depth signs : ℕ) → Part (operand depth signs) Ended AfterOperand
unfolding operand
operand_part zero signs =
    unary_part _ signs (λ s.
    before_part (beyond_part (is_sign 40) (sign_is 40 refl) tt) (λ n h. h.2))
operand_part (suc depth) signs =
    unary_part _ signs (λ s.
    before_part (parens_part (disjunction (operand depth s))
    (disjunction_part (operand depth s) (operand_part depth s))) (λ n h. h.2))

pub expr_part : (depth signs : ℕ) → Part (expr depth signs) Ended AfterExpr
expr_part depth signs = disjunction_part (operand depth signs) (operand_part depth signs)

-- ---- no word is repeated

index_never : (n : List ℕ) → Never (index n)
index_never n = never_also (never_lexeme (λ t e. absurd cc))
    (λ u. never_also (never_number _ _)
    (λ k. never_also (never_lexeme (λ t e. absurd cc)) (λ v. never_nothing)))

equals_never : Never equals
equals_never = never_also (never_lexeme (λ t e. absurd cc))
    (λ u. never_also never_name
    (λ n. never_also (never_lexeme (λ t e. absurd cc))
    (λ v. never_also (never_lexeme (λ t e. absurd cc))
    (λ text. never_also (never_lexeme (λ t e. absurd cc)) (λ w. never_nothing)))))

atom_never : (inner : Rule Expr) → Never inner → Never (atom inner)
atom_never inner never =
    never_choice never (never_choice (never_also (never_number _ _) (λ n. never_nothing))
    (never_also never_name (λ n.
    never_choice equals_never (never_choice (index_never n) never_nothing))))

unary_never : (inner : ℕ → Rule Expr) (signs : ℕ) → ((s : ℕ) → Never (inner s))
    → Never (unary inner signs)
unfolding unary
unary_never inner zero each = never_choice (never_beyond _ _) (atom_never (inner zero) (each zero))
unary_never inner (suc signs) each =
    never_choice (never_also (never_lexeme (λ t e. absurd cc))
    (λ u. never_also (unary_never inner signs each) (λ x. never_nothing)))
    (never_choice (never_also (never_lexeme (λ t e. absurd cc))
    (λ u. never_also (unary_never inner signs each) (λ x. never_nothing)))
    (atom_never (inner (suc signs)) (each (suc signs))))

joined_never : (signs : List Sign) (part : Rule Expr) → Never part → (left : Expr)
    → Never (joined signs part left)
joined_never signs part never left =
    never_also (never_lexeme (λ t e. absurd cc)) (λ s. never_also never (λ right. never_nothing))

chain_never : (signs : List Sign) (part : Rule Expr) → Never part → Never (chain signs part)
unfolding chain
chain_never signs part never = never_also never (λ e. never_loop (joined_never signs part never))

once_joined_never : (signs : List Sign) (part : Rule Expr) → Never part
    → Never (once_joined signs part)
unfolding once_joined
once_joined_never signs part never =
    never_also never (λ e. never_choice (joined_never signs part never e) never_nothing)

disjunction_never : (un : Rule Expr) → Never un → Never (disjunction un)
disjunction_never un never =
    chain_never ors _ (chain_never ands _
    (once_joined_never tests _ (chain_never sums _ (chain_never products un never))))

operand_never : (depth signs : ℕ) → Never (operand depth signs)
unfolding operand
operand_never zero signs = unary_never _ signs (λ s. never_beyond _ _)
operand_never (suc depth) signs =
    unary_never _ signs (λ s.
    never_also (never_lexeme (λ t e. absurd cc))
    (λ u. never_also (disjunction_never (operand depth s) (operand_never depth s))
    (λ e. never_also (never_lexeme (λ t e. absurd cc)) (λ v. never_nothing))))

pub expr_never : (depth signs : ℕ) → Never (expr depth signs)
expr_never depth signs = disjunction_never (operand depth signs) (operand_never depth signs)

pub expression_part : Part expression Ended AfterExpr
expression_part = at_most_part 1024 (expr_part 32 32) (expr_never 32 32)

-- ---- what reading takes

-- the levels, the one that binds most first
abbrev pub rank : Level → ℕ
rank level.Product = 0
rank level.Sum = 2
rank level.Test = 4
rank level.And = 6
rank level.Or = 8

-- what follows a level's part
abbrev pub AfterUnder : Level → Option Token → Type 0
AfterUnder level.Product = AfterOperand
AfterUnder level.Sum = AfterProduct
AfterUnder level.Test = AfterSum
AfterUnder level.And = AfterComparison
AfterUnder level.Or = AfterAnd

under_part : (l : Level) (un : Rule Expr) → Part un Ended AfterOperand
    → Part (under l un) Ended (AfterUnder l)
under_part level.Product un p = p
under_part level.Sum un p = product_part un p
under_part level.Test un p = sum_part un p
under_part level.And un p = comparison_part un p
under_part level.Or un p = conjunction_part un p

after_none : (l : Level) → AfterUnder l None
after_none level.Product = (refl, refl, refl)
after_none level.Sum = (refl, (refl, refl, refl))
after_none level.Test = (refl, (refl, (refl, refl, refl)))
after_none level.And = (refl, (refl, (refl, (refl, refl, refl))))
after_none level.Or = (refl, (refl, (refl, (refl, (refl, refl, refl)))))

abbrev operator_is : (l : Level) → Means (sign_among (signs_of l))
operator_is level.Product = times_is
operator_is level.Sum = plus_is
operator_is level.Test = below_is
operator_is level.And = and_is
operator_is level.Or = or_is

pub under_short : (l : Level) (depth signs : ℕ) → Short (under l (operand depth signs))
under_short l depth signs = let p = under_part l (operand depth signs) (operand_part depth signs) in
    short_part p.good p.full

pub joined_short : (l : Level) (depth signs : ℕ) (left : Expr)
    → Short (joined (signs_of l) (under l (operand depth signs)) left)
joined_short l depth signs left = let p =
    joined_part (signs_of l) (operator_is l) (under l (operand depth signs)) (after_none l)
    (under_part l (operand depth signs) (operand_part depth signs)) left in short_part p.good p.full

pub operator_short : (l : Level) → Short (operator (signs_of l))
operator_short l = short_part (lexeme_good (operator_is l)) lexeme_full

pub sign_short : (b : ℕ) → if_is (is_sign b) (a_sign b) ≡ Some tt → Short (sign b)
sign_short b is = short_part (lexeme_good (sign_is b is)) lexeme_full

-- ---- what levels answer

pub chain_goes : (signs : List Sign) (part : Rule Expr) (ts us : List Token) (e : Expr)
    → part.reads ts ≡ Ok (e, us)
    → (chain signs part).reads ts ≡ (loop (is_among signs) (joined signs part) e).reads us
unfolding chain
chain_goes signs part ts us e h = rw h refl

pub chain_fails : (signs : List Sign) (part : Rule Expr) (ts us : List Token) (w : Why)
    → part.reads ts ≡ Err (w, us) → (chain signs part).reads ts ≡ Err (w, us)
unfolding chain
chain_fails signs part ts us w h = rw h refl

pub once_goes : (signs : List Sign) (part : Rule Expr) (ts us : List Token) (e : Expr)
    → part.reads ts ≡ Ok (e, us) → passes (is_among signs) (head us) ≡ true
    → (once_joined signs part).reads ts ≡ (joined signs part e).reads us
unfolding once_joined
once_goes signs part ts us e h go = rw (h, go) refl

pub once_ends : (signs : List Sign) (part : Rule Expr) (ts us : List Token) (e : Expr)
    → part.reads ts ≡ Ok (e, us) → passes (is_among signs) (head us) ≡ false
    → (once_joined signs part).reads ts ≡ Ok (e, us)
unfolding once_joined
once_ends signs part ts us e h go = rw (h, go) refl

pub once_fails : (signs : List Sign) (part : Rule Expr) (ts us : List Token) (w : Why)
    → part.reads ts ≡ Err (w, us) → (once_joined signs part).reads ts ≡ Err (w, us)
unfolding once_joined
once_fails signs part ts us w h = rw h refl

-- ---- what an operand answers, case by case

-- what stands at a parenthesis
abbrev opened : ℕ → ℕ → Rule Expr
opened zero signs = beyond (is_sign 40) zero_
opened (suc depth) signs = parens (expr depth signs)

pub not_limit : (depth signs : ℕ) (ts : List Token) → signs ≡ 0
    → passes (is_sign 33) (head ts) ≡ true → (operand depth signs).reads ts ≡ Err (Marked Limit, ts)
unfolding operand unary
not_limit depth (suc signs) ts e go = absurd (omega arith)
not_limit depth zero [] e go = absurd cc
not_limit zero zero (t ∷ ts) e go = rw go refl
not_limit (suc depth) zero (t ∷ ts) e go = rw go refl

pub minus_limit : (depth signs : ℕ) (ts : List Token) → signs ≡ 0
    → passes (is_sign 33) (head ts) ≡ false → passes (is_sign 45) (head ts) ≡ true
    → (operand depth signs).reads ts ≡ Err (Marked Limit, ts)
unfolding operand unary
minus_limit depth (suc signs) ts e bare go = absurd (omega arith)
minus_limit depth zero [] e bare go = absurd cc
minus_limit zero zero (t ∷ ts) e bare go = rw (bare, go) refl
minus_limit (suc depth) zero (t ∷ ts) e bare go = rw (bare, go) refl

pub not_behind : (depth k : ℕ) (ts : List Token) → passes (is_sign 33) (head ts) ≡ true
    → (operand depth (suc k)).reads ts ≡ (negation (operand depth k)).reads ts
unfolding operand unary
not_behind zero k ts go = rw go refl
not_behind (suc depth) k ts go = rw go refl

pub minus_behind : (depth k : ℕ) (ts : List Token) → passes (is_sign 33) (head ts) ≡ false
    → passes (is_sign 45) (head ts) ≡ true
    → (operand depth (suc k)).reads ts ≡ (negative (operand depth k)).reads ts
unfolding operand unary
minus_behind zero k ts bare go = rw (bare, go) refl
minus_behind (suc depth) k ts bare go = rw (bare, go) refl

open_behind : (depth signs : ℕ) (ts : List Token) → passes (is_sign 40) (head ts) ≡ true
    → (atom (opened (suc depth) signs)).reads ts ≡ (parens (expr depth signs)).reads ts
open_behind depth signs ts go = rw go refl

less : (k : ℕ) → k ≡ suc k - 1
less k = omega arith

pub not_goes : (depth signs : ℕ) (ts : List Token) → signs ≢ 0
    → passes (is_sign 33) (head ts) ≡ true
    → (operand depth signs).reads ts ≡ (negation (operand depth (signs - 1))).reads ts
not_goes depth zero ts ne go = absurd (ne refl)
not_goes depth (suc k) ts ne go =
    not_behind depth k ts go ∙ ap (λ (s : ℕ). (negation (operand depth s)).reads ts) (less k)

pub minus_goes : (depth signs : ℕ) (ts : List Token) → signs ≢ 0
    → passes (is_sign 33) (head ts) ≡ false → passes (is_sign 45) (head ts) ≡ true
    → (operand depth signs).reads ts ≡ (negative (operand depth (signs - 1))).reads ts
minus_goes depth zero ts ne bare go = absurd (ne refl)
minus_goes depth (suc k) ts ne bare go =
    minus_behind depth k ts bare go ∙ ap (λ (s : ℕ). (negative (operand depth s)).reads ts) (less k)

-- no sign stands here
pub atom_goes : (depth signs : ℕ) (ts : List Token) → passes (is_sign 33) (head ts) ≡ false
    → passes (is_sign 45) (head ts) ≡ false
    → (operand depth signs).reads ts ≡ (atom (opened depth signs)).reads ts
unfolding operand unary
atom_goes zero zero [] bare low = refl
atom_goes zero (suc signs) [] bare low = refl
atom_goes (suc depth) zero [] bare low = refl
atom_goes (suc depth) (suc signs) [] bare low = refl
atom_goes zero zero (t ∷ ts) bare low = rw (bare, low) refl
atom_goes zero (suc signs) (t ∷ ts) bare low = rw (bare, low) refl
atom_goes (suc depth) zero (t ∷ ts) bare low = rw (bare, low) refl
atom_goes (suc depth) (suc signs) (t ∷ ts) bare low = rw (bare, low) refl

pub open_limit : (depth signs : ℕ) (ts : List Token) → depth ≡ 0
    → passes (is_sign 33) (head ts) ≡ false → passes (is_sign 45) (head ts) ≡ false
    → passes (is_sign 40) (head ts) ≡ true → (operand depth signs).reads ts ≡ Err (Marked Limit, ts)
open_limit (suc depth) signs ts e bare low go = absurd (omega arith)
open_limit zero signs [] e bare low go = absurd cc
open_limit zero signs (t ∷ ts) e bare low go = atom_goes zero signs (t ∷ ts) bare low ∙ rw (go) refl

pub open_goes : (depth signs : ℕ) (ts : List Token) → depth ≢ 0
    → passes (is_sign 33) (head ts) ≡ false → passes (is_sign 45) (head ts) ≡ false
    → passes (is_sign 40) (head ts) ≡ true
    → (operand depth signs).reads ts ≡ (parens (expr (depth - 1) signs)).reads ts
open_goes zero signs ts ne bare low go = absurd (ne refl)
open_goes (suc depth) signs ts ne bare low go =
    atom_goes (suc depth) signs ts bare low ∙ open_behind depth signs ts go
    ∙ ap (λ (d : ℕ). (parens (expr d signs)).reads ts) (less depth)

pub number_goes : (depth signs : ℕ) (ts : List Token) → passes (is_sign 33) (head ts) ≡ false
    → passes (is_sign 45) (head ts) ≡ false → passes (is_sign 40) (head ts) ≡ false
    → passes is_number (head ts) ≡ true → (operand depth signs).reads ts ≡ number.reads ts
number_goes depth signs ts bare low paren go =
    atom_goes depth signs ts bare low ∙ rw (paren, go) refl

pub named_goes : (depth signs : ℕ) (ts : List Token) → passes (is_sign 33) (head ts) ≡ false
    → passes (is_sign 45) (head ts) ≡ false → passes (is_sign 40) (head ts) ≡ false
    → passes is_number (head ts) ≡ false → (operand depth signs).reads ts ≡ named.reads ts
named_goes depth signs ts bare low paren other =
    atom_goes depth signs ts bare low ∙ rw (paren, other) refl

pub rank_most : (l : Level) → rank l ≤ 8
rank_most level.Product = omega arith
rank_most level.Sum = omega arith
rank_most level.Test = omega arith
rank_most level.And = omega arith
rank_most level.Or = omega arith

pub after_expr : AfterExpr None
after_expr = (refl, (refl, (refl, (refl, (refl, (refl, refl, refl))))))
