-- An expression is read again from the tokens that are printed.
use Rattle.std.proofs.Common.{◌≡◌, ℕ, zero, suc, ◌-◌, ◌^◌, ◌<◌, ◌≤◌, Bool, true, false, cond, List, [], ◌∷◌, ◌++◌, length, Option, Some, None, Ok, refl, sym, ap, subst, ◌∙◌, inl, inr, append_assoc, arith}
use Rattle.std.specs.Prelude.{pos, codes, ◌⊎◌}
use Rattle.std.specs.Fmt.{decimal}
use Rattle.cx_text.specs.declared.stop.Mark.{Mark}
use Rattle.cx_text.specs.declared.token.Token.{Token}
use Rattle.cx_text.specs.Tokens.{is_line_end}
use Rattle.cx_text.specs.Grammar.{head}
use Rattle.cx_text.specs.Reading.{go_on}
use Rattle.cx_text.specs.Rules.{Rule, nothing, ◌>>=◌, loop, if_is, is_sign, unmarked, one_line_end, line_ends, lexeme, name_of, name_mark, sign, name}
use Rattle.cx_text.specs.Lexemes.{number_of, number_mark, number_in, quoted_of, quoted}
use Rattle.cx_text.specs.Written as written
use Rattle.cx_text.proofs.Printing.{loop_step, loop_stop}
use Rattle.cx_text.proofs.RuleLaws.{Not, line_end_short}
use Rattle.cx_expr.specs.declared.tree.Sign.{Sign}
use Rattle.cx_expr.specs.declared.tree.Sign.TheVariants.{Or, And, Equal, Differs, Below, AtMost, Above, AtLeast, Plus, Minus, Times, Over, Rest}
use Rattle.cx_expr.specs.declared.tree.Expr.{Expr, Number, Named, Equals, Not as NotOf, Negative, Pair}
use Rattle.cx_expr.specs.declared.read.Level.{Level}
use Rattle.cx_expr.specs.declared.read.Level.TheVariants as level
use Rattle.cx_expr.specs.Exprs.{sign_among, is_among, operator, joined, chain, tests, index, behind, product, sum_, comparison, conjunction, disjunction, operand, expr, signs_of, under}
use Rattle.cx_expr.specs.Printed.{level_of, left_level, right_level, operator_token, index_tokens, equals_tokens, expr_tokens}
use Rattle.cx_expr.specs.Printed as printed
use Rattle.cx_text.proofs.DecimalLaws.{decimal_again}
use Rattle.cx_expr.proofs.ExprLaws.{AfterOperand, AfterProduct, AfterSum, AfterComparison, AfterAnd, AfterExpr, AfterUnder, no_equals, joined_short, chain_goes, once_goes, once_ends, not_behind, minus_behind, atom_goes, number_goes, named_goes}
use Rattle.cx_expr.proofs.Trees.{side, Fits, number_fits, named_fits, equals_fits, not_fits, negative_fits, pair_fits, inside_fits, IsPlace, not_tokens, negative_tokens, pair_tokens, not_level, negative_level, pair_level, level_most, lt_false, side_bare, side_inside}

-- ---- one token

-- what is left behind LineEnds
abbrev pub skip : List Token → List Token
skip [] = []
skip (t ∷ ts) = cond (is_line_end t) (skip ts) (t ∷ ts)

pub line_ends_skip : (ts : List Token) → line_ends.reads ts ≡ Ok (tt, skip ts)
line_ends_skip [] = loop_stop is_line_end one_line_end line_end_short tt [] refl
line_ends_skip (t ∷ ts) =
    let P : Bool → Type 0 = λ b. is_line_end t ≡ b
    → line_ends.reads (t ∷ ts) ≡ Ok (tt, cond b (skip ts) (t ∷ ts)) in
    let at : (b : Bool) → P b = λ b. elim b as P [
      | true ↦ λ e. loop_step is_line_end one_line_end line_end_short tt tt (t ∷ ts) ts e
          (rw e refl) ∙ line_ends_skip ts
      | false ↦ λ e. loop_stop is_line_end one_line_end line_end_short tt (t ∷ ts) e
    ] in
    at (is_line_end t) refl

pub lexeme_again : {A : Type 0} (value : Token → Option A) (mark : Token → Option Mark) (t : Token)
    (x : A) (ts : List Token) → value t ≡ Some x → mark t ≡ None
    → (lexeme value mark).reads (t ∷ ts) ≡ Ok (x, skip ts)
lexeme_again {A} value mark t x ts v m =
    rw (v, m) (ap (λ a. go_on a (λ u us. Ok (x, us))) (line_ends_skip ts))

pub then_again : {A B : Type 0} (r : Rule A) (f : A → Rule B) (x : A) (ts us : List Token)
    → r.reads ts ≡ Ok (x, us) → (r >>= f).reads ts ≡ (f x).reads us
then_again r f x ts us h = ap (λ a. go_on a (λ y. (f y).reads)) h

sign_again : (b : ℕ) (ts : List Token) → if_is (is_sign b) (written.sign b) ≡ Some tt
    → (sign b).reads (written.sign b ∷ ts) ≡ Ok (tt, skip ts)
sign_again b ts is = lexeme_again (if_is (is_sign b)) unmarked (written.sign b) tt ts is refl

number_again : (high n : ℕ) (ts : List Token) → n ≤ high → n < 2 ^ 64
    → (number_in 0 high).reads (written.number (decimal n) ∷ ts) ≡ Ok (n, skip ts)
number_again high n ts h small =
    let same = decimal_again n small in
    let low = lt_false n 0 (omega arith) in
    let most = lt_false high n h in
    lexeme_again number_of (number_mark 0 high) (written.number (decimal n)) n ts
    (ap (λ (k : ℕ). Some k) same) (rw (same, low, most) refl)

name_again : (n : List ℕ) (ts : List Token) → length n ≤ 64
    → name.reads (written.word n ∷ ts) ≡ Ok (n, skip ts)
name_again n ts h =
    let short = lt_false 64 (length n) h in
    lexeme_again name_of name_mark (written.word n) n ts refl (rw short refl)

-- ---- atoms

atom_number : (depth signs n : ℕ) (rest : List Token) → n ≤ 2 ^ 63 - 1
    → (operand depth signs).reads (written.number (decimal n) ∷ rest)
    ≡ Ok (Number (pos n), skip rest)
atom_number depth signs n rest h =
    number_goes depth signs (written.number (decimal n) ∷ rest) refl refl refl refl
    ∙ then_again (number_in 0 (2 ^ 63 - 1)) (λ m. nothing (Number (pos m))) n
    (written.number (decimal n) ∷ rest) (skip rest)
    (number_again (2 ^ 63 - 1) n rest h (omega (arith, h)))

behind_nothing : (n : List ℕ) (rest : List Token) → AfterOperand (head rest)
    → (behind n).reads rest ≡ Ok (Named n None, rest)
behind_nothing n rest a =
    let first = no_equals n (head rest) a.0 in
    let second = a.1 in
    rw (first, second) refl

behind_place : (n : List ℕ) (k : ℕ) (rest : List Token) → k ≤ 2 ^ 32 - 1
    → (behind n).reads (index_tokens (Some k) ++ rest) ≡ Ok (Named n (Some k), skip rest)
behind_place n k rest h =
    let first = no_equals n (Some (written.sign 91)) refl in
    let digits = written.number (decimal k) in
    let inner : (index n).reads (index_tokens (Some k) ++ rest) ≡ Ok (Named n (Some k), skip rest) =
    then_again (sign 91) (λ u. number_in 0 (2 ^ 32 - 1) >>= λ m. sign 93
    >>= λ v. nothing (Named n (Some m))) tt (written.sign 91 ∷ digits ∷ written.sign 93 ∷ rest)
    (digits ∷ written.sign 93 ∷ rest) (sign_again 91 (digits ∷ written.sign 93 ∷ rest) refl)
    ∙ then_again (number_in 0 (2 ^ 32 - 1)) (λ m. sign 93 >>= λ v. nothing (Named n (Some m))) k
    (digits ∷ written.sign 93 ∷ rest) (written.sign 93 ∷ rest)
    (number_again (2 ^ 32 - 1) k (written.sign 93 ∷ rest) h (omega (arith, h)))
    ∙ then_again (sign 93) (λ v. nothing (Named n (Some k))) tt (written.sign 93 ∷ rest) (skip rest)
    (sign_again 93 rest refl)
    in
    rw first inner

atom_named : (depth signs : ℕ) (n : List ℕ) (place : Option ℕ) (rest : List Token) → length n ≤ 64
    → IsPlace place → AfterOperand (head (skip rest))
    → (operand depth signs).reads ((written.word n ∷ index_tokens place) ++ rest)
    ≡ Ok (Named n place, skip rest)
atom_named depth signs n None rest h k a =
    named_goes depth signs (written.word n ∷ rest) refl refl refl refl
    ∙ then_again name behind n (written.word n ∷ rest) (skip rest) (name_again n rest h)
    ∙ behind_nothing n (skip rest) a
atom_named depth signs n (Some k) rest h fits a =
    let more = index_tokens (Some k) ++ rest in
    named_goes depth signs (written.word n ∷ more) refl refl refl refl
    ∙ then_again name behind n (written.word n ∷ more) more (name_again n more h)
    ∙ behind_place n k rest fits

atom_equals : (depth signs : ℕ) (n text : List ℕ) (rest : List Token) → length n ≤ 64
    → (operand depth signs).reads (equals_tokens n text ++ rest) ≡ Ok (Equals n text, skip rest)
atom_equals depth signs n text rest h =
    let w = codes "CCTK_Equals" in
    let a = written.sign 41 ∷ rest in
    let b = written.quoted text ∷ a in
    let c = written.sign 44 ∷ b in
    let d = written.word n ∷ c in
    let e = written.sign 40 ∷ d in
    named_goes depth signs (written.word w ∷ e) refl refl refl refl
    ∙ then_again name behind w (written.word w ∷ e) e (name_again w e (omega arith))
    ∙ then_again (sign 40) (λ u. name >>= λ m. sign 44 >>= λ v. quoted >>= λ t. sign 41
    >>= λ x. nothing (Equals m t)) tt e d (sign_again 40 d refl)
    ∙ then_again name (λ m. sign 44 >>= λ v. quoted >>= λ t. sign 41 >>= λ x. nothing (Equals m t))
    n d c (name_again n c h)
    ∙ then_again (sign 44) (λ v. quoted >>= λ t. sign 41 >>= λ x. nothing (Equals n t)) tt c b
    (sign_again 44 b refl)
    ∙ then_again quoted (λ t. sign 41 >>= λ x. nothing (Equals n t)) text b a
    (lexeme_again quoted_of unmarked (written.quoted text) text a refl refl)
    ∙ then_again (sign 41) (λ x. nothing (Equals n text)) tt a (skip rest) (sign_again 41 rest refl)

-- ---- levels

-- what operators up to a level join
abbrev pub at_level : ℕ → Rule Expr → Rule Expr
at_level zero un = un
at_level (suc zero) un = product un
at_level (suc (suc zero)) un = sum_ un
at_level (suc (suc (suc zero))) un = comparison un
at_level (suc (suc (suc (suc zero)))) un = conjunction un
at_level (suc (suc (suc (suc (suc p))))) un = disjunction un

-- what doesn't go on with it
abbrev pub After : ℕ → Option Token → Type 0
After zero n = AfterOperand n
After (suc zero) n = AfterProduct n
After (suc (suc zero)) n = AfterSum n
After (suc (suc (suc zero))) n = AfterComparison n
After (suc (suc (suc (suc zero)))) n = AfterAnd n
After (suc (suc (suc (suc (suc p))))) n = AfterExpr n

-- a chain goes on behind these tokens with what they mean as its left side
pub record Goes (v : Level) (depth signs : ℕ) (ts : List Token) (e : Expr) : Type 0 where
  pub law : (rest : List Token) → AfterUnder v (head (skip rest))
      → (chain (signs_of v) (under v (operand depth signs))).reads (ts ++ rest)
      ≡ (loop (is_among (signs_of v)) (joined (signs_of v) (under v (operand depth signs))) e).reads
      (skip rest)

abbrev pub GoesAt : ℕ → ℕ → ℕ → List Token → Expr → Type 0
GoesAt zero depth signs ts e = Unit {0}
GoesAt (suc zero) depth signs ts e = Goes level.Product depth signs ts e
GoesAt (suc (suc zero)) depth signs ts e = Goes level.Sum depth signs ts e
GoesAt (suc (suc (suc zero))) depth signs ts e = Unit {0}
GoesAt (suc (suc (suc (suc zero)))) depth signs ts e = Goes level.And depth signs ts e
GoesAt (suc (suc (suc (suc (suc p))))) depth signs ts e = Goes level.Or depth signs ts e

-- these tokens are read at a level as an expression
pub record Again (most depth signs : ℕ) (ts : List Token) (e : Expr) : Type 0 where
  pub gets : (rest : List Token) → After most (head (skip rest))
      → (at_level most (operand depth signs)).reads (ts ++ rest) ≡ Ok (e, skip rest)
  pub goes : GoesAt most depth signs ts e
  pub starts : (more : List Token) → skip (ts ++ more) ≡ ts ++ more

goes_chain : (v : Level) (depth signs : ℕ) (ts : List Token) (e : Expr)
    → ((rest : List Token) → AfterUnder v (head (skip rest))
    → (under v (operand depth signs)).reads (ts ++ rest) ≡ Ok (e, skip rest))
    → Goes v depth signs ts e
goes_chain v depth signs ts e h =
    record {
      law = λ rest a.
          chain_goes (signs_of v) (under v (operand depth signs)) (ts ++ rest) (skip rest) e
          (h rest a);
    }

gets_chain : (v : Level) (depth signs : ℕ) (ts : List Token) (e : Expr) → Goes v depth signs ts e
    → (rest : List Token) → Not (is_among (signs_of v)) (head (skip rest))
    → AfterUnder v (head (skip rest))
    → (chain (signs_of v) (under v (operand depth signs))).reads (ts ++ rest) ≡ Ok (e, skip rest)
gets_chain v depth signs ts e g rest n a =
    g.law rest a ∙ loop_stop (is_among (signs_of v))
    (joined (signs_of v) (under v (operand depth signs))) (joined_short v depth signs) e (skip rest)
    n

-- one level more
step : (p depth signs : ℕ) (ts : List Token) (e : Expr) → Again p depth signs ts e
    → Again (suc p) depth signs ts e
step zero depth signs ts e b =
    let g = goes_chain level.Product depth signs ts e b.gets in
    record {
      gets = λ rest a. gets_chain level.Product depth signs ts e g rest a.0 a.1;
      goes = g;
      starts = b.starts;
    }
step (suc zero) depth signs ts e b =
    let g = goes_chain level.Sum depth signs ts e b.gets in
    record {
      gets = λ rest a. gets_chain level.Sum depth signs ts e g rest a.0 a.1;
      goes = g;
      starts = b.starts;
    }
step (suc (suc zero)) depth signs ts e b =
    record {
      gets = λ rest a.
          once_ends tests (sum_ (operand depth signs)) (ts ++ rest) (skip rest) e (b.gets rest a.1)
          a.0;
      goes = tt;
      starts = b.starts;
    }
step (suc (suc (suc zero))) depth signs ts e b =
    let g = goes_chain level.And depth signs ts e b.gets in
    record {
      gets = λ rest a. gets_chain level.And depth signs ts e g rest a.0 a.1;
      goes = g;
      starts = b.starts;
    }
step (suc (suc (suc (suc zero)))) depth signs ts e b =
    let g = goes_chain level.Or depth signs ts e b.gets in
    record {
      gets = λ rest a. gets_chain level.Or depth signs ts e g rest a.0 a.1;
      goes = g;
      starts = b.starts;
    }
step (suc (suc (suc (suc (suc p))))) depth signs ts e b =
    record { gets = b.gets; goes = b.goes; starts = b.starts }

le_cases : (b q : ℕ) → b ≤ suc q → (b ≤ q) ⊎ (b ≡ suc q)
le_cases b q h = grind (arith, h)

lift : (b p depth signs : ℕ) (ts : List Token) (e : Expr) → b ≤ p → Again b depth signs ts e
    → Again p depth signs ts e
lift b zero depth signs ts e h a = subst (λ (k : ℕ). Again k depth signs ts e) (omega (arith, h)) a
lift b (suc q) depth signs ts e h a =
    elim (le_cases b q h) [
      | inl k ↦ step q depth signs ts e (lift b q depth signs ts e k a)
      | inr k ↦ subst (λ (k : ℕ). Again k depth signs ts e) k a
    ]

-- ---- an operator between two expressions

joined_again : (v : Level) (s : Sign) (depth signs : ℕ) (rs rest : List Token) (left right : Expr)
    → sign_among (signs_of v) (operator_token s) ≡ Some s
    → (under v (operand depth signs)).reads (rs ++ rest) ≡ Ok (right, skip rest)
    → skip (rs ++ rest) ≡ rs ++ rest
    → (joined (signs_of v) (under v (operand depth signs)) left).reads
    (operator_token s ∷ (rs ++ rest)) ≡ Ok (Pair s left right, skip rest)
joined_again v s depth signs rs rest left right is h starts =
    let part = under v (operand depth signs) in
    then_again (operator (signs_of v)) (λ o. part >>= λ r. nothing (Pair o left r)) s
    (operator_token s ∷ (rs ++ rest)) (rs ++ rest)
    (lexeme_again (sign_among (signs_of v)) unmarked (operator_token s) s (rs ++ rest) is refl
    ∙ ap (λ us. Ok (s, us)) starts)
    ∙ then_again part (λ r. nothing (Pair s left r)) right (rs ++ rest) (skip rest) h

is_operator : (v : Level) (s : Sign) → sign_among (signs_of v) (operator_token s) ≡ Some s
    → is_among (signs_of v) (operator_token s) ≡ true
is_operator v s is = rw is refl

pair_starts : (s : Sign) (ls rs more : List Token)
    → ((us : List Token) → skip (ls ++ us) ≡ ls ++ us)
    → skip ((ls ++ (operator_token s ∷ rs)) ++ more) ≡ (ls ++ (operator_token s ∷ rs)) ++ more
pair_starts s ls rs more starts =
    let parts = append_assoc ls (operator_token s ∷ rs) more in
    ap skip parts ∙ starts (operator_token s ∷ (rs ++ more)) ∙ sym parts

chain_pair : (v : Level) (s : Sign) (depth signs : ℕ) (ls rs : List Token) (left right : Expr)
    → sign_among (signs_of v) (operator_token s) ≡ Some s → AfterUnder v (Some (operator_token s))
    → Goes v depth signs ls left
    → ((rest : List Token) → AfterUnder v (head (skip rest))
    → (under v (operand depth signs)).reads (rs ++ rest) ≡ Ok (right, skip rest))
    → ((more : List Token) → skip (rs ++ more) ≡ rs ++ more)
    → Goes v depth signs (ls ++ (operator_token s ∷ rs)) (Pair s left right)
chain_pair v s depth signs ls rs left right is after g h starts = record {
  law = λ rest a.
      let un = operand depth signs in
      let us = operator_token s ∷ (rs ++ rest) in
      ap (chain (signs_of v) (under v un)).reads (append_assoc ls (operator_token s ∷ rs) rest)
      ∙ g.law us after
      ∙ loop_step (is_among (signs_of v)) (joined (signs_of v) (under v un))
      (joined_short v depth signs) left (Pair s left right) us (skip rest) (is_operator v s is)
      (joined_again v s depth signs rs rest left right is (h rest a) (starts rest));
}

module _ (depth signs : ℕ) (ls rs : List Token) (left right : Expr) where
  or_pair : (s : Sign) → sign_among (signs_of level.Or) (operator_token s) ≡ Some s
      → AfterAnd (Some (operator_token s)) → Again 5 depth signs ls left
      → Again 4 depth signs rs right
      → Again 5 depth signs (ls ++ (operator_token s ∷ rs)) (Pair s left right)
  or_pair s is after a b =
      let g = chain_pair level.Or s depth signs ls rs left right is after a.goes b.gets b.starts in
      record {
        gets = λ rest n. gets_chain level.Or depth signs _ _ g rest n.0 n.1;
        goes = g;
        starts = λ more. pair_starts s ls rs more a.starts;
      }

  and_pair : (s : Sign) → sign_among (signs_of level.And) (operator_token s) ≡ Some s
      → AfterComparison (Some (operator_token s)) → Again 4 depth signs ls left
      → Again 3 depth signs rs right
      → Again 4 depth signs (ls ++ (operator_token s ∷ rs)) (Pair s left right)
  and_pair s is after a b =
      let g = chain_pair level.And s depth signs ls rs left right is after a.goes b.gets b.starts in
      record {
        gets = λ rest n. gets_chain level.And depth signs _ _ g rest n.0 n.1;
        goes = g;
        starts = λ more. pair_starts s ls rs more a.starts;
      }

  sum_pair : (s : Sign) → sign_among (signs_of level.Sum) (operator_token s) ≡ Some s
      → AfterProduct (Some (operator_token s)) → Again 2 depth signs ls left
      → Again 1 depth signs rs right
      → Again 2 depth signs (ls ++ (operator_token s ∷ rs)) (Pair s left right)
  sum_pair s is after a b =
      let g = chain_pair level.Sum s depth signs ls rs left right is after a.goes b.gets b.starts in
      record {
        gets = λ rest n. gets_chain level.Sum depth signs _ _ g rest n.0 n.1;
        goes = g;
        starts = λ more. pair_starts s ls rs more a.starts;
      }

  product_pair : (s : Sign) → sign_among (signs_of level.Product) (operator_token s) ≡ Some s
      → AfterOperand (Some (operator_token s)) → Again 1 depth signs ls left
      → Again 0 depth signs rs right
      → Again 1 depth signs (ls ++ (operator_token s ∷ rs)) (Pair s left right)
  product_pair s is after a b =
      let g = chain_pair level.Product s depth signs ls rs left right is after a.goes b.gets
      b.starts in
      record {
        gets = λ rest n. gets_chain level.Product depth signs _ _ g rest n.0 n.1;
        goes = g;
        starts = λ more. pair_starts s ls rs more a.starts;
      }

  test_pair : (s : Sign) → sign_among (signs_of level.Test) (operator_token s) ≡ Some s
      → AfterSum (Some (operator_token s)) → Again 2 depth signs ls left
      → Again 2 depth signs rs right
      → Again 3 depth signs (ls ++ (operator_token s ∷ rs)) (Pair s left right)
  test_pair s is after a b = record {
    gets = λ rest n.
        let us = operator_token s ∷ (rs ++ rest) in
        ap (comparison (operand depth signs)).reads (append_assoc ls (operator_token s ∷ rs) rest)
        ∙ once_goes tests (sum_ (operand depth signs)) (ls ++ us) us left (a.gets us after)
        (is_operator level.Test s is)
        ∙ joined_again level.Test s depth signs rs rest left right is (b.gets rest n.1)
        (b.starts rest);
    goes = tt;
    starts = λ more. pair_starts s ls rs more a.starts;
  }

  pair_again : (s : Sign) → Again (left_level s) depth signs ls left
      → Again (right_level s) depth signs rs right
      → Again (level_of s) depth signs (ls ++ (operator_token s ∷ rs)) (Pair s left right)
  pair_again Or a b = or_pair Or refl (refl, (refl, (refl, (refl, (refl, refl, refl))))) a b
  pair_again And a b = and_pair And refl (refl, (refl, (refl, (refl, refl, refl)))) a b
  pair_again Equal a b = test_pair Equal refl (refl, (refl, (refl, refl, refl))) a b
  pair_again Differs a b = test_pair Differs refl (refl, (refl, (refl, refl, refl))) a b
  pair_again Below a b = test_pair Below refl (refl, (refl, (refl, refl, refl))) a b
  pair_again AtMost a b = test_pair AtMost refl (refl, (refl, (refl, refl, refl))) a b
  pair_again Above a b = test_pair Above refl (refl, (refl, (refl, refl, refl))) a b
  pair_again AtLeast a b = test_pair AtLeast refl (refl, (refl, (refl, refl, refl))) a b
  pair_again Plus a b = sum_pair Plus refl (refl, (refl, refl, refl)) a b
  pair_again Minus a b = sum_pair Minus refl (refl, (refl, refl, refl)) a b
  pair_again Times a b = product_pair Times refl (refl, refl, refl) a b
  pair_again Over a b = product_pair Over refl (refl, refl, refl) a b
  pair_again Rest a b = product_pair Rest refl (refl, refl, refl) a b

-- ---- signs and parentheses

not_again : (depth signs : ℕ) (ts : List Token) (one : Expr) → Again 0 depth signs ts one
    → Again 0 depth (suc signs) (written.sign 33 ∷ ts) (NotOf one)
not_again depth signs ts one a = record {
  gets = λ rest n.
      not_behind depth signs (written.sign 33 ∷ (ts ++ rest)) refl
      ∙ then_again (sign 33) (λ u. operand depth signs >>= λ e. nothing (NotOf e)) tt
      (written.sign 33 ∷ (ts ++ rest)) (ts ++ rest)
      (sign_again 33 (ts ++ rest) refl ∙ ap (λ us. Ok (tt, us)) (a.starts rest))
      ∙ then_again (operand depth signs) (λ e. nothing (NotOf e)) one (ts ++ rest) (skip rest)
      (a.gets rest n);
  goes = tt;
  starts = λ more. refl;
}

negative_again : (depth signs : ℕ) (ts : List Token) (one : Expr) → Again 0 depth signs ts one
    → Again 0 depth (suc signs) (written.sign 45 ∷ ts) (Negative Minus one)
negative_again depth signs ts one a = record {
  gets = λ rest n.
      minus_behind depth signs (written.sign 45 ∷ (ts ++ rest)) refl refl
      ∙ then_again (sign 45) (λ u. operand depth signs >>= λ e. nothing (Negative Minus e)) tt
      (written.sign 45 ∷ (ts ++ rest)) (ts ++ rest)
      (sign_again 45 (ts ++ rest) refl ∙ ap (λ us. Ok (tt, us)) (a.starts rest))
      ∙ then_again (operand depth signs) (λ e. nothing (Negative Minus e)) one (ts ++ rest)
      (skip rest) (a.gets rest n);
  goes = tt;
  starts = λ more. refl;
}

inside_again : (depth signs : ℕ) (ts : List Token) (e : Expr) → Again 5 depth signs ts e
    → Again 0 (suc depth) signs (written.sign 40 ∷ (ts ++ written.sign 41 ∷ [])) e
inside_again depth signs ts e a = record {
  gets = λ rest n.
      let close = written.sign 41 ∷ rest in
      let us = ts ++ close in
      ap (λ (vs : List Token). (operand (suc depth) signs).reads (written.sign 40 ∷ vs))
      (append_assoc ts (written.sign 41 ∷ []) rest)
      ∙ atom_goes (suc depth) signs (written.sign 40 ∷ us) refl refl
      ∙ then_again (sign 40) (λ u. expr depth signs >>= λ x. sign 41 >>= λ v. nothing x) tt
      (written.sign 40 ∷ us) us
      (sign_again 40 us refl ∙ ap (λ vs. Ok (tt, vs)) (a.starts close))
      ∙ then_again (expr depth signs) (λ x. sign 41 >>= λ v. nothing x) e us close
      (a.gets close (refl, (refl, (refl, (refl, (refl, (refl, refl, refl)))))))
      ∙ then_again (sign 41) (λ v. nothing e) tt close (skip rest) (sign_again 41 rest refl);
  goes = tt;
  starts = λ more. refl;
}

-- ---- every expression

settled : {most depth signs : ℕ} {e : Expr} (b : ℕ) (x : Expr) (ts : List Token) → e ≡ x
    → printed.level x ≡ b → expr_tokens x ≡ ts → b ≤ most → Again b depth signs ts x
    → Again most depth signs (side most e) e
settled {most} {depth} {signs} {e} b x ts is at tokens h a =
    let low : printed.level x ≤ most = rw at h in
    let same : side most x ≡ ts = side_bare most x low ∙ tokens in
    subst (λ (y : Expr). Again most depth signs (side most y) y) (sym is)
    (subst (λ (us : List Token). Again most depth signs us x) (sym same)
    (lift b most depth signs ts x h a))

pub again : {W : List ℕ → Type 0} (short : (n : List ℕ) → W n → length n ≤ 64)
    {depth signs most : ℕ} {e : Expr} → Fits W depth signs most e
    → Again most depth signs (side most e) e
again short {depth = depth} {signs = signs} {most = most} (number_fits n is h) =
    settled 0 (Number (pos n)) (written.number (decimal n) ∷ []) is refl refl (omega arith)
    (record {
      gets = λ rest a. atom_number depth signs n rest h;
      goes = tt;
      starts = λ more. refl;
    })
again short {depth = depth} {signs = signs} (named_fits n place is w k) =
    settled 0 (Named n place) (written.word n ∷ index_tokens place) is refl refl (omega arith)
    (record {
      gets = λ rest a. atom_named depth signs n place rest (short n w) k a;
      goes = tt;
      starts = λ more. refl;
    })
again short {depth = depth} {signs = signs} (equals_fits n text is w) =
    settled 0 (Equals n text) (equals_tokens n text) is refl refl (omega arith)
    (record {
      gets = λ rest a. atom_equals depth signs n text rest (short n w);
      goes = tt;
      starts = λ more. refl;
    })
again short {depth = depth} (not_fits {signs = signs} one is f) =
    settled 0 (NotOf one) (written.sign 33 ∷ side 0 one) is (not_level one) (not_tokens one)
    (omega arith) (not_again depth signs (side 0 one) one (again short f))
again short {depth = depth} (negative_fits {signs = signs} one is f) =
    settled 0 (Negative Minus one) (written.sign 45 ∷ side 0 one) is (negative_level Minus one)
    (negative_tokens Minus one) (omega arith)
    (negative_again depth signs (side 0 one) one (again short f))
again short {depth = depth} {signs = signs} (pair_fits s left right is h f g) =
    settled (level_of s) (Pair s left right)
    (side (left_level s) left ++ (operator_token s ∷ side (right_level s) right)) is
    (pair_level s left right) (pair_tokens s left right) h
    (pair_again depth signs (side (left_level s) left) (side (right_level s) right) left right s
    (again short f) (again short g))
again short {signs = signs} {most = most} {e = e} (inside_fits {depth = depth} h f) =
    let whole : side 5 e ≡ expr_tokens e = side_bare 5 e (level_most e) in
    let inner : Again 5 depth signs (expr_tokens e) e =
    subst (λ (ts : List Token). Again 5 depth signs ts e) whole (again short f) in
    subst (λ (ts : List Token). Again most (suc depth) signs ts e) (sym (side_inside most e h))
    (lift 0 most (suc depth) signs _ e (omega arith)
    (inside_again depth signs (expr_tokens e) e inner))
