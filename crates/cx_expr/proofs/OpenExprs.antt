-- Behind an expression each token may follow, or the expression goes on with it.
use Rattle.std.proofs.Common.{◌≡◌, ℕ, zero, suc, Bool, true, false, ◌&&◌, List, [], Option, Some, None, refl}
use Rattle.std.specs.Prelude.{is_some}
use Rattle.cx_text.specs.declared.token.Token.{Token}
use Rattle.cx_text.specs.Rules.{Rule, is_sign}
use Rattle.cx_text.specs.Lexemes.{same_name, beyond, is_number, number_of, decimal_from}
use Rattle.std.specs.Prelude.{codes}
use Rattle.cx_text.proofs.Laws.{Means}
use Rattle.cx_text.proofs.RuleLaws.{Part, Any, Not, before_part, part_end, part_then, lexeme_then, lexeme_last, lexeme_alone, empty_ends}
use Rattle.cx_text.proofs.LexemeLaws.{Ended, a_sign, a_name, a_number, a_quoted, sign_is, beyond_part}
use Rattle.cx_expr.specs.declared.tree.Sign.{Sign}
use Rattle.cx_expr.specs.declared.tree.Expr.{Expr}
use Rattle.cx_expr.specs.Exprs.{sign_among, is_among, joined, chain, once_joined, products, sums, tests, ands, ors, number, index, equals, opens_equals, behind, named, parens, zero_, atom, is_unary, negation, negative, unary, product, sum_, comparison, conjunction, disjunction, operand, expr}
use Rattle.cx_expr.proofs.OpenLaws.{Open, Starts, nothing_open, also_open, choice_open, loop_open, lexeme_open, lexeme_then_open, lexeme_last_open, lexeme_then_starts, lexeme_last_starts, if_means}
use Rattle.cx_expr.proofs.ExprLaws.{times_is, plus_is, below_is, and_is, or_is, unary_is, AfterOperand, AfterExpr, behind_tail, unary_part, joined_part, product_part, sum_part, comparison_part, conjunction_part, disjunction_part, parens_part, operand_part}

-- ---- atoms

number_open : Open number
number_open = lexeme_last_open a_number

number_means : (t : Token) → is_number t ≡ true → (x : ℕ) × (number_of t ≡ Some x)
number_means t e = (decimal_from 0 t.text, rw e refl)

number_starts : Starts is_number number
number_starts = lexeme_last_starts number_means

index_open : (n : List ℕ) → Open (index n)
index_open n = lexeme_then_open (sign_is 91 refl)
    (λ u. lexeme_then a_number refl (λ k. lexeme_last (sign_is 93 refl) refl)) refl
    (λ u. lexeme_then_open a_number (λ k. lexeme_last (sign_is 93 refl) refl) refl
    (λ k. lexeme_last_open (sign_is 93 refl)))

index_starts : (n : List ℕ) → Starts (is_sign 91) (index n)
index_starts n = lexeme_then_starts (if_means (is_sign 91))
    (λ u. lexeme_then a_number refl (λ k. lexeme_last (sign_is 93 refl) refl)) refl

equals_open : Open equals
equals_open = lexeme_then_open (sign_is 40 refl)
    (λ u. lexeme_then a_name refl
    (λ n. lexeme_then (sign_is 44 refl) refl
    (λ v. lexeme_then a_quoted refl (λ t. lexeme_last (sign_is 41 refl) refl)))) refl
    (λ u. lexeme_then_open a_name
    (λ n. lexeme_then (sign_is 44 refl) refl
    (λ v. lexeme_then a_quoted refl (λ t. lexeme_last (sign_is 41 refl) refl))) refl
    (λ n. lexeme_then_open (sign_is 44 refl)
    (λ v. lexeme_then a_quoted refl (λ t. lexeme_last (sign_is 41 refl) refl)) refl
    (λ v. lexeme_then_open a_quoted (λ t. lexeme_last (sign_is 41 refl) refl) refl
    (λ t. lexeme_last_open (sign_is 41 refl)))))

and_second : (a b : Bool) → (a && b) ≡ true → b ≡ true
and_second true b e = e
and_second false b e = absurd cc

equals_starts : (n : List ℕ) → Starts (opens_equals n) equals
equals_starts n = lexeme_then_starts
    (λ t e. if_means (is_sign 40) t
    (and_second (same_name n (codes "CCTK_Equals")) (is_sign 40 t) e))
    (λ u. lexeme_then a_name refl
    (λ m. lexeme_then (sign_is 44 refl) refl
    (λ v. lexeme_then a_quoted refl (λ t. lexeme_last (sign_is 41 refl) refl)))) refl

behind_open : (n : List ℕ) → Open (behind n)
behind_open n = choice_open equals_open (choice_open (index_open n) nothing_open (index_starts n))
    (equals_starts n)

named_open : Open named
named_open = also_open (lexeme_open a_name) behind_open (lexeme_alone {F = Any} a_name tt).good
    (λ n. empty_ends (behind_tail n).empty (refl, refl, refl) refl)

atom_open : (inner : Rule Expr) → Open inner → Starts (is_sign 40) inner → Open (atom inner)
atom_open inner o s = choice_open o (choice_open number_open named_open number_starts) s

-- ---- signs before an expression

negation_open : (inner : Rule Expr) → Part inner Ended AfterOperand → Open inner
    → Open (negation inner)
negation_open inner p o =
    lexeme_then_open (sign_is 33 refl) (λ u. part_end None (refl, refl, refl) p) (refl, refl, refl)
    (λ u. also_open o (λ e. nothing_open) p.good
    (λ e. record { law = (_, [], (refl, refl), (refl, refl, refl)) }))

negative_open : (inner : Rule Expr) → Part inner Ended AfterOperand → Open inner
    → Open (negative inner)
negative_open inner p o =
    lexeme_then_open (sign_is 45 refl) (λ u. part_end None (refl, refl, refl) p) (refl, refl, refl)
    (λ u. also_open o (λ e. nothing_open) p.good
    (λ e. record { law = (_, [], (refl, refl), (refl, refl, refl)) }))

beyond_starts : (test : Token → Bool) (x : Expr) → Starts test (beyond test x)
beyond_starts test x = lexeme_last_starts (if_means test)

unary_open : (inner : ℕ → Rule Expr) (signs : ℕ) → ((s : ℕ) → Part (inner s) Any AfterOperand)
    → ((s : ℕ) → Open (inner s)) → ((s : ℕ) → Starts (is_sign 40) (inner s))
    → Open (unary inner signs)
unfolding unary
unary_open inner zero parts opens starts =
    choice_open (lexeme_last_open unary_is) (atom_open (inner zero) (opens zero) (starts zero))
    (beyond_starts is_unary zero_)
unary_open inner (suc signs) parts opens starts =
    let p = unary_part inner signs parts in
    let o = unary_open inner signs parts opens starts in
    choice_open (negation_open (unary inner signs) p o)
    (choice_open (negative_open (unary inner signs) p o)
    (atom_open (inner (suc signs)) (opens (suc signs)) (starts (suc signs)))
    (lexeme_then_starts (if_means (is_sign 45)) (λ u. part_end None (refl, refl, refl) p)
    (refl, refl, refl)))
    (lexeme_then_starts (if_means (is_sign 33)) (λ u. part_end None (refl, refl, refl) p)
    (refl, refl, refl))

-- ---- levels

some_means : (o : Option Sign) → is_some o ≡ true → (x : Sign) × (o ≡ Some x)
some_means None e = absurd cc
some_means (Some x) e = (x, refl)

joined_open : (signs : List Sign) (one : Means (sign_among signs)) (part : Rule Expr)
    {G : Option Token → Type 0} → G None → Part part Ended G → Open part → (left : Expr)
    → Open (joined signs part left)
joined_open signs one part g p o left =
    lexeme_then_open one (λ s. part_end None g p) g
    (λ s. also_open o (λ e. nothing_open) p.good (λ e. record { law = (_, [], (refl, refl), g) }))

joined_starts : (signs : List Sign) (part : Rule Expr) {G : Option Token → Type 0} → G None
    → Part part Ended G → (left : Expr) → Starts (is_among signs) (joined signs part left)
joined_starts signs part g p left =
    lexeme_then_starts (λ t e. some_means (sign_among signs t) e) (λ s. part_end None g p) g

chain_open : (signs : List Sign) (one : Means (sign_among signs)) (part : Rule Expr)
    {G : Option Token → Type 0} → G None → Part part Ended G → Open part → Open (chain signs part)
unfolding chain
chain_open signs one part {G} g p o =
    also_open o (λ e. loop_open {G = G} {H = λ n. Not (is_among signs) n × G n}
    (λ d. (joined_part signs one part g p d).good)
    (λ d. (joined_part signs one part g p d).full) (λ n h. h.0) (λ n h. h.1) (refl, g)
    (joined_open signs one part g p o) (joined_starts signs part g p))
    p.good (λ e. record { law = (e, [], ([], [], [], refl, (refl, refl), (refl, refl)), g) })

once_joined_open : (signs : List Sign) (one : Means (sign_among signs)) (part : Rule Expr)
    {G : Option Token → Type 0} → G None → Part part Ended G → Open part
    → Open (once_joined signs part)
unfolding once_joined
once_joined_open signs one part g p o =
    also_open o (λ e. choice_open (joined_open signs one part g p o e) nothing_open
    (joined_starts signs part g p e)) p.good (λ e. record { law = (e, [], (refl, refl), g) })

disjunction_open : (un : Rule Expr) → Part un Ended AfterOperand → Open un → Open (disjunction un)
disjunction_open un p o =
    let sums_open = chain_open sums plus_is (product un) (refl, (refl, refl, refl))
    (product_part un p) (chain_open products times_is un (refl, refl, refl) p o) in
    let comparison_open = once_joined_open tests below_is (sum_ un)
    (refl, (refl, (refl, refl, refl))) (sum_part un p) sums_open in
    chain_open ors or_is (conjunction un) (refl, (refl, (refl, (refl, (refl, refl, refl)))))
    (conjunction_part un p)
    (chain_open ands and_is (comparison un) (refl, (refl, (refl, (refl, refl, refl))))
    (comparison_part un p) comparison_open)

parens_open : (inner : Rule Expr) → Part inner Ended AfterExpr → Open inner → Open (parens inner)
parens_open inner p o =
    lexeme_then_open (sign_is 40 refl)
    (λ u. part_then (Some (a_sign 41))
    (refl, (refl, (refl, (refl, (refl, (refl, refl, refl)))))) p
    (λ e. lexeme_last (sign_is 41 refl)
    (refl, (refl, (refl, (refl, (refl, (refl, refl, refl)))))))) refl
    (λ u. also_open o (λ e. lexeme_last_open (sign_is 41 refl)) p.good
    (λ e. (lexeme_last {F = AfterExpr} (sign_is 41 refl)
    (refl, (refl, (refl, (refl, (refl, (refl, refl, refl))))))).ends None refl))

parens_starts : (inner : Rule Expr) → Part inner Ended AfterExpr
    → Starts (is_sign 40) (parens inner)
parens_starts inner p = lexeme_then_starts (if_means (is_sign 40))
    (λ u. part_then (Some (a_sign 41)) (refl, (refl, (refl, (refl, (refl, (refl, refl, refl)))))) p
    (λ e. lexeme_last (sign_is 41 refl) (refl, (refl, (refl, (refl, (refl, (refl, refl, refl))))))))
    refl

operand_open : (depth signs : ℕ) → Open (operand depth signs)
unfolding operand
operand_open zero signs =
    unary_open _ signs (λ s.
    before_part (beyond_part (is_sign 40) (sign_is 40 refl) tt) (λ n h. h.2))
    (λ s. lexeme_last_open (sign_is 40 refl)) (λ s. beyond_starts (is_sign 40) zero_)
operand_open (suc depth) signs =
    let p = λ (s : ℕ). disjunction_part (operand depth s) (operand_part depth s) in
    unary_open _ signs (λ s.
    before_part (parens_part (disjunction (operand depth s)) (p s)) (λ n h. h.2))
    (λ s. parens_open (disjunction (operand depth s)) (p s)
    (disjunction_open (operand depth s) (operand_part depth s) (operand_open depth s)))
    (λ s. parens_starts (disjunction (operand depth s)) (p s))

pub expr_open : (depth signs : ℕ) → Open (expr depth signs)
expr_open depth signs = disjunction_open (operand depth signs) (operand_part depth signs)
    (operand_open depth signs)
