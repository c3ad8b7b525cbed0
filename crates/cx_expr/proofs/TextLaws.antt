-- An expression that some text spells is spelled by the text that is printed.
use Rattle.std.proofs.Common.{◌≡◌, ℕ, zero, suc, ◌-◌, ◌^◌, ◌≤◌, ◌<◌, Bool, true, false, cond, ◌&&◌, List, [], ◌∷◌, ◌++◌, length, Option, Some, None, Ok, Err, codes, refl, sym, ap, subst, ◌∙◌, arith}
use Rattle.std.specs.Prelude.{nat_eq, nat_lt, is_some}
use Rattle.std.specs.Fmt.{decimal}
use Rattle.std.specs.List.{AllByRecursion}
use Rattle.std.proofs.lemmas.Bool.{ne_eqb}
use Rattle.cx_text.specs.declared.token.Kind.TheVariants as kinds
use Rattle.cx_text.specs.declared.token.Style.TheVariants.{Ccl}
use Rattle.cx_text.specs.declared.token.Token.{Token}
use Rattle.cx_text.specs.declared.byte.Role.TheVariants as roles
use Rattle.cx_text.specs.Bytes.{role_of, is_pair}
use Rattle.cx_text.specs.Pieces.{Pair}
use Rattle.cx_text.specs.Tokens.{is_line_end}
use Rattle.cx_text.specs.Grammar.{head, Spells}
use Rattle.cx_text.specs.Reading.{Answer}
use Rattle.cx_text.specs.Rules.{Rule}
use Rattle.cx_text.specs.Lexemes.{kept}
use Rattle.cx_text.specs.Printing.{printed, TextSpells, HasSpelling}
use Rattle.cx_text.specs.Written as written
use Rattle.cx_text.proofs.PrintLaws.{Printable, AllPrintable, WellEnded, printable_end, printable_word, printable_sign, printable_quoted, all_printable, again_from}
use Rattle.cx_text.proofs.WrittenLaws.{unmarked_printable, printable_name, unlined_same}
use Rattle.cx_text.proofs.Blind.{Blind, unlined, seen, same_nothing, same_lexeme, same_also, same_choice, same_loop, spelled_blind}
use Rattle.cx_text.proofs.Holds.{NamesAre, each-append, name_is_short, spelled_holds}
use Rattle.cx_expr.specs.declared.tree.Sign.{Sign}
use Rattle.cx_expr.specs.declared.tree.Sign.TheVariants.{Or, And, Equal, Differs, Below, AtMost, Above, AtLeast, Plus, Minus, Times, Over, Rest}
use Rattle.cx_expr.specs.declared.tree.Expr.{Expr}
use Rattle.cx_expr.specs.AtMost.{left_behind, is_over, past, until, at_most}
use Rattle.cx_expr.specs.Exprs.{is_written, sign_among, is_among, joined, chain, once_joined, products, sums, tests, ands, ors, number, index, equals, named, parens, atom, unary, product, sum_, comparison, conjunction, disjunction, operand, expr, expression}
use Rattle.cx_expr.specs.Printed.{level, left_level, right_level, operator_token, index_tokens, equals_tokens, in_parens, expr_tokens, expr_line}
use Rattle.cx_expr.proofs.Again.{skip, again}
use Rattle.cx_expr.proofs.AtMostLaws.{until_kept, past_short, past_next}
use Rattle.cx_text.proofs.DecimalLaws.{decimal_printable}
use Rattle.cx_expr.proofs.ExprFits.{Kept, expression_holds}
use Rattle.cx_expr.proofs.ExprLaws.{AfterExpr, expression_part, after_expr}
use Rattle.cx_expr.proofs.Trees.{side, Fits, IsPlace, number_fits, named_fits, equals_fits, not_fits, negative_fits, pair_fits, inside_fits, not_tokens, negative_tokens, pair_tokens, level_most, side_bare}

-- ---- within the limit

none_over : (b : Bool) → b && false ≡ false
none_over true = refl
none_over false = refl

left_fits : (end : Bool) (n k : ℕ) → suc k ≤ n → k ≤ cond end n (n - 1)
left_fits true n k h = omega (arith, h)
left_fits false n k h = omega (arith, h)

past_left : (n : ℕ) (ts rest : List Token) → length ts ≤ n
    → length (past n (ts ++ rest)) ≤ length (skip rest)
past_left n [] [] h = omega arith
past_left n [] (t ∷ us) h =
    let P : Bool → Type 0 = λ b. is_line_end t ≡ b
    → length (past n (t ∷ us)) ≤ length (cond b (skip us) (t ∷ us)) in
    let at : (b : Bool) → P b = λ b. elim b as P [
      | true ↦ λ e.
          let over : is_over n t ≡ false = rw e (none_over (nat_eq n 0)) in
          let left : left_behind n t ≡ n = rw e refl in
          let same : past n (t ∷ us) ≡ past n us =
          past_next n (t ∷ us) us t refl over ∙ ap (λ (k : ℕ). past k us) left in
          let more = past_left n [] us h in
          let size = ap length same in
          omega (arith, more, size)
      | false ↦ λ e. past_short n (t ∷ us)
    ] in
    at (is_line_end t) refl
past_left n (t ∷ ts) rest h =
    let some : nat_eq n 0 ≡ false = ne_eqb n 0 (λ e. absurd (omega (arith, h, e))) in
    let over : is_over n t ≡ false = rw some refl in
    let fits : length ts ≤ left_behind n t = left_fits (is_line_end t) n (length ts) h in
    let more = past_left (left_behind n t) ts rest fits in
    let size = ap length (past_next n (t ∷ (ts ++ rest)) (ts ++ rest) t refl over) in
    omega (arith, more, size)

-- An expression that is derived is read again from the tokens that are printed, before whatever
-- doesn't go on with it.
pub expression_again : {W : List ℕ → Type 0} → ((n : List ℕ) → W n → length n ≤ 64) → (e : Expr)
    → Kept W 5 32 32 1024 e → (rest : List Token) → AfterExpr (head (skip rest))
    → expression.reads (expr_tokens e ++ rest) ≡ Ok (e, skip rest)
expression_again short e k rest after =
    let bare : side 5 e ≡ expr_tokens e = side_bare 5 e (level_most e) in
    let read : (expr 32 32).reads (expr_tokens e ++ rest) ≡ Ok (e, skip rest) =
    ap (λ (ts : List Token). (expr 32 32).reads (ts ++ rest)) (sym bare)
    ∙ (again short k.0).gets rest after in
    let size = ap length bare in
    let fits : length (expr_tokens e) ≤ 1024 = omega (arith, size, k.1) in
    ap (until (past 1024 (expr_tokens e ++ rest))) read
    ∙ until_kept (past 1024 (expr_tokens e ++ rest)) (Ok (e, skip rest))
    (past_left 1024 (expr_tokens e) rest fits)

-- ---- the grammar doesn't look at lines

among_same : (ss : List Sign) (t : Token) → sign_among ss (kept t) ≡ sign_among ss t
among_same [] t = refl
among_same (s ∷ ss) t = ap (λ o. cond (is_written s t) (Some s) o) (among_same ss t)

is_among_same : (ss : List Sign) (t : Token) → is_among ss (kept t) ≡ is_among ss t
is_among_same ss t = ap is_some (among_same ss t)

joined_same : (ss : List Sign) (part : Rule Expr) → Blind (λ x. x) part part → (left : Expr)
    → Blind (λ x. x) (joined ss part left) (joined ss part left)
joined_same ss part h left =
    same_also (same_lexeme (among_same ss) (λ t. refl)) (λ s. same_also h (λ right. same_nothing))

chain_same : (ss : List Sign) (part : Rule Expr) → Blind (λ x. x) part part
    → Blind (λ x. x) (chain ss part) (chain ss part)
unfolding chain
chain_same ss part h = same_also h (λ e. same_loop e (is_among_same ss) (joined_same ss part h))

once_same : (ss : List Sign) (part : Rule Expr) → Blind (λ x. x) part part
    → Blind (λ x. x) (once_joined ss part) (once_joined ss part)
unfolding once_joined
once_same ss part h = same_also h
    (λ e. same_choice (is_among_same ss) (joined_same ss part h e) same_nothing)

disjunction_same : (un : Rule Expr) → Blind (λ x. x) un un
    → Blind (λ x. x) (disjunction un) (disjunction un)
disjunction_same un h = chain_same ors (conjunction un)
    (chain_same ands (comparison un)
    (once_same tests (sum_ un) (chain_same sums (product un) (chain_same products un h))))

number_same : Blind (λ x. x) number number
number_same = same_also (same_lexeme (λ t. refl) (λ t. refl)) (λ n. same_nothing)

index_same : (n : List ℕ) → Blind (λ x. x) (index n) (index n)
index_same n = same_also (same_lexeme (λ t. refl) (λ t. refl))
    (λ u. same_also (same_lexeme (λ t. refl) (λ t. refl))
    (λ k. same_also (same_lexeme (λ t. refl) (λ t. refl)) (λ v. same_nothing)))

equals_same : Blind (λ x. x) equals equals
equals_same =
    same_also (same_lexeme (λ t. refl) (λ t. refl)) (λ u.
    same_also (same_lexeme (λ t. refl) (λ t. refl)) (λ n.
    same_also (same_lexeme (λ t. refl) (λ t. refl)) (λ v.
    same_also (same_lexeme (λ t. refl) (λ t. refl)) (λ text.
    same_also (same_lexeme (λ t. refl) (λ t. refl)) (λ w. same_nothing)))))

named_same : Blind (λ x. x) named named
named_same = same_also (same_lexeme (λ t. refl) (λ t. refl))
    (λ n. same_choice (λ t. refl) equals_same (same_choice (λ t. refl) (index_same n) same_nothing))

atom_same : (inner : Rule Expr) → Blind (λ x. x) inner inner
    → Blind (λ x. x) (atom inner) (atom inner)
atom_same inner h = same_choice (λ t. refl) h (same_choice (λ t. refl) number_same named_same)

unary_same : (inner : ℕ → Rule Expr) → ((k : ℕ) → Blind (λ x. x) (inner k) (inner k)) → (signs : ℕ)
    → Blind (λ x. x) (unary inner signs) (unary inner signs)
unfolding unary
unary_same inner h zero =
    same_choice (λ t. refl) (same_also (same_lexeme (λ t. refl) (λ t. refl)) (λ u. same_nothing))
    (atom_same (inner zero) (h zero))
unary_same inner h (suc signs) =
    let one = unary_same inner h signs in
    same_choice (λ t. refl)
    (same_also (same_lexeme (λ t. refl) (λ t. refl)) (λ u. same_also one (λ e. same_nothing)))
    (same_choice (λ t. refl)
    (same_also (same_lexeme (λ t. refl) (λ t. refl)) (λ u. same_also one (λ e. same_nothing)))
    (atom_same (inner (suc signs)) (h (suc signs))))

parens_same : (inner : Rule Expr) → Blind (λ x. x) inner inner
    → Blind (λ x. x) (parens inner) (parens inner)
parens_same inner h = same_also (same_lexeme (λ t. refl) (λ t. refl))
    (λ u. same_also h (λ e. same_also (same_lexeme (λ t. refl) (λ t. refl)) (λ v. same_nothing)))

operand_same : (depth signs : ℕ) → Blind (λ x. x) (operand depth signs) (operand depth signs)
unfolding operand
operand_same zero signs =
    unary_same _ (λ k. same_also (same_lexeme (λ t. refl) (λ t. refl)) (λ u. same_nothing)) signs
operand_same (suc depth) signs =
    unary_same _ (λ k. parens_same (disjunction (operand depth k))
    (disjunction_same (operand depth k) (operand_same depth k))) signs

length_seen : (ts : List Token) → length (unlined ts) ≡ length ts
length_seen [] = refl
length_seen (t ∷ ts) = ap suc (length_seen ts)

past_seen : (n : ℕ) (ts : List Token) → past n (unlined ts) ≡ unlined (past n ts)
past_seen n [] = refl
past_seen n (t ∷ ts) =
    let h = past_seen (left_behind n t) ts in
    let P : Bool → Type 0 =
    λ b. cond b (kept t ∷ unlined ts) (past (left_behind n t) (unlined ts))
    ≡ unlined (cond b (t ∷ ts) (past (left_behind n t) ts)) in
    let at : (b : Bool) → P b = λ b. elim b as P [ true ↦ refl | false ↦ h ] in
    at (is_over n t)

cut_seen : {A : Type 0} (b : Bool) (x y : Answer A)
    → cond b (seen (λ z. z) x) (seen (λ z. z) y) ≡ seen (λ z. z) (cond b x y)
cut_seen true x y = refl
cut_seen false x y = refl

until_seen : {A : Type 0} (place : List Token) (a : Answer A)
    → until (unlined place) (seen (λ x. x) a) ≡ seen (λ x. x) (until place a)
until_seen place (Ok x) =
    rw (length_seen x.1, length_seen place)
    (cut_seen (nat_lt (length x.1) (length place)) (Err _) (Ok x))
until_seen place (Err e) =
    rw (length_seen e.1, length_seen place)
    (cut_seen (nat_lt (length e.1) (length place)) (Err _) (Err e))

at_most_same : {A : Type 0} (n : ℕ) (r : Rule A) → Blind (λ x. x) r r
    → Blind (λ x. x) (at_most n r) (at_most n r)
at_most_same n r h = record {
  law =
      λ ts. ap (λ (place : List Token). until place (r.reads (unlined ts))) (past_seen n ts)
      ∙ ap (until (unlined (past n ts))) (h.law ts) ∙ until_seen (past n ts) (r.reads ts);
}

pub expression_same : Blind (λ x. x) expression expression
expression_same = at_most_same 1024 (expr 32 32)
    (disjunction_same (operand 32 32) (operand_same 32 32))

-- ---- the printed tokens

-- it can be printed, is no LineEnd, and is on no line
abbrev pub IsWritten : Token → Type 0
IsWritten t = Printable Ccl t × (is_line_end t ≡ false) × (kept t ≡ t)

sign_written : (b : ℕ) → ((fresh : Bool) → role_of Ccl fresh b ≡ roles.Sign)
    → IsWritten (written.sign b)
sign_written b role = (printable_sign Ccl b 0 role, refl, refl)

pair_written : (b c : ℕ) → ((fresh : Bool) → role_of Ccl fresh b ≡ roles.Sign) → is_pair b c ≡ true
    → IsWritten (record { kind = kinds.Sign; text = b ∷ c ∷ []; line = 0 })
pair_written b c role two = (
  record {
    piece = Pair b c;
    bytes = refl;
    token = λ l. refl;
    stands = λ f more apart. (role f, two);
  },
  refl,
  refl,
)

operator_written : (s : Sign) → IsWritten (operator_token s)
operator_written Or = pair_written 124 124 (λ f. refl) refl
operator_written And = pair_written 38 38 (λ f. refl) refl
operator_written Equal = pair_written 61 61 (λ f. refl) refl
operator_written Differs = pair_written 33 61 (λ f. refl) refl
operator_written Below = sign_written 60 (λ f. refl)
operator_written AtMost = pair_written 60 61 (λ f. refl) refl
operator_written Above = sign_written 62 (λ f. refl)
operator_written AtLeast = pair_written 62 61 (λ f. refl) refl
operator_written Plus = sign_written 43 (λ f. refl)
operator_written Minus = sign_written 45 (λ f. refl)
operator_written Times = sign_written 42 (λ f. refl)
operator_written Over = sign_written 47 (λ f. refl)
operator_written Rest = sign_written 37 (λ f. refl)

number_written : (n : ℕ) → n < 2 ^ 64 → IsWritten (written.number (decimal n))
number_written n small = (decimal_printable n small, refl, refl)

place_written : (place : Option ℕ) → IsPlace place → AllByRecursion IsWritten (index_tokens place)
place_written None h = tt
place_written (Some k) h = (
  sign_written 91 (λ f. refl),
  (number_written k (omega (arith, h)), (sign_written 93 (λ f. refl), tt)),
)

parens_written : (b : Bool) (ts : List Token) → AllByRecursion IsWritten ts
    → AllByRecursion IsWritten (in_parens b ts)
parens_written true ts h = (
  sign_written 40 (λ f. refl),
  each-append IsWritten ts (written.sign 41 ∷ []) h (sign_written 41 (λ f. refl), tt),
)
parens_written false ts h = h

equals_written : (n text : List ℕ) → Printable Ccl (written.word n)
    → AllByRecursion IsWritten (equals_tokens n text)
equals_written n text name = (
  (printable_word Ccl 67 (codes "CTK_Equals") 0 (λ f. refl) refl, refl, refl),
  (
    sign_written 40 (λ f. refl),
    (
      (name, refl, refl),
      (
        sign_written 44 (λ f. refl),
        ((printable_quoted Ccl (λ f. refl) text 0, refl, refl), (sign_written 41 (λ f. refl), tt)),
      ),
    ),
  ),
)

pub tokens_written : {W : List ℕ → Type 0}
    (good : (n : List ℕ) → W n → Printable Ccl (written.word n)) {depth signs most : ℕ} {e : Expr}
    → Fits W depth signs most e → AllByRecursion IsWritten (expr_tokens e)
tokens_written good (number_fits n is h) =
    subst (λ (x : Expr). AllByRecursion IsWritten (expr_tokens x)) (sym is)
    (number_written n (omega (arith, h)), tt)
tokens_written good (named_fits n place is w k) =
    subst (λ (x : Expr). AllByRecursion IsWritten (expr_tokens x)) (sym is)
    ((good n w, refl, refl), place_written place k)
tokens_written good (equals_fits n text is w) =
    subst (λ (x : Expr). AllByRecursion IsWritten (expr_tokens x)) (sym is)
    (equals_written n text (good n w))
tokens_written good (not_fits one is f) =
    subst (AllByRecursion IsWritten) (sym (ap expr_tokens is ∙ not_tokens one)) (
      sign_written 33 (λ b. refl),
      parens_written (nat_lt 0 (level one)) (expr_tokens one) (tokens_written good f),
    )
tokens_written good (negative_fits one is f) =
    subst (AllByRecursion IsWritten) (sym (ap expr_tokens is ∙ negative_tokens Minus one)) (
      sign_written 45 (λ b. refl),
      parens_written (nat_lt 0 (level one)) (expr_tokens one) (tokens_written good f),
    )
tokens_written good (pair_fits s left right is h f g) =
    subst (AllByRecursion IsWritten) (sym (ap expr_tokens is ∙ pair_tokens s left right))
    (each-append IsWritten (side (left_level s) left)
    (operator_token s ∷ side (right_level s) right)
    (parens_written (nat_lt (left_level s) (level left)) (expr_tokens left)
    (tokens_written good f)) (
      operator_written s,
      parens_written (nat_lt (right_level s) (level right)) (expr_tokens right)
          (tokens_written good g),
    ))
tokens_written good (inside_fits h f) = tokens_written good f

-- ---- a line of them

line_printable : (ts : List Token) → AllByRecursion IsWritten ts
    → AllPrintable Ccl (ts ++ written.line_end ∷ [])
line_printable [] h = (printable_end Ccl 0, tt)
line_printable (t ∷ ts) h = (h.0.0, line_printable ts h.1)

line_ended : (ts : List Token) → AllByRecursion IsWritten ts
    → WellEnded false (ts ++ written.line_end ∷ [])
line_ended [] h = (refl, refl)
line_ended (t ∷ ts) h = (
  rw h.0.1 refl,
  subst (λ (b : Bool). WellEnded b (ts ++ written.line_end ∷ [])) (sym h.0.1) (line_ended ts h.1),
)

whole_ended : (ts : List Token) → skip (ts ++ written.line_end ∷ []) ≡ ts ++ written.line_end ∷ []
    → AllByRecursion IsWritten ts → WellEnded true (ts ++ written.line_end ∷ [])
whole_ended [] e h = absurd cc
whole_ended (t ∷ ts) e h = (
  rw h.0.1 refl,
  subst (λ (b : Bool). WellEnded b (ts ++ written.line_end ∷ [])) (sym h.0.1)
      (line_ended ts h.1),
)

line_unlined : (ts : List Token) → AllByRecursion IsWritten ts
    → unlined (ts ++ written.line_end ∷ []) ≡ ts ++ written.line_end ∷ []
line_unlined [] h = refl
line_unlined (t ∷ ts) h = rw (h.0.2) (ap (λ (us : List Token). t ∷ us) (line_unlined ts h.1))

-- ---- the text

-- a name within its limit that can be printed
abbrev IsName : List ℕ → Type 0
IsName n = (length n ≤ 64) × Printable Ccl (written.word n)

pub printed_text : (e : Expr) → HasSpelling Ccl expression.derives e
    → TextSpells Ccl expression.derives (printed (expr_line e)) e
printed_text e (bytes, (ts, spelling, s)) =
    let names : NamesAre (Printable Ccl) IsName =
    λ t n p v m. (name_is_short t n v m, printable_name Ccl t n p v) in
    let k = spelled_holds (expression_holds (Printable Ccl) IsName names) ts e s
    (unmarked_printable Ccl ts (all_printable bytes ts spelling)) in
    let each : AllByRecursion IsWritten (expr_tokens e) =
    tokens_written {W = IsName} (λ n w. w.1) k.0 in
    let bare : side 5 e ≡ expr_tokens e = side_bare 5 e (level_most e) in
    let starts : skip (expr_line e) ≡ expr_line e =
    subst (λ (us : List Token). skip (us ++ written.line_end ∷ [])
    ≡ us ++ written.line_end ∷ []) bare
    ((again {W = IsName} (λ n w. w.0) k.0).starts (written.line_end ∷ [])) in
    let text = again_from Ccl (expr_line e) (line_printable (expr_tokens e) each)
    (whole_ended (expr_tokens e) starts each) in
    let same : unlined text.0 ≡ expr_line e =
    unlined_same text.0 (expr_line e) text.2 ∙ line_unlined (expr_tokens e) each in
    let line : expression.reads (expr_line e) ≡ Ok (e, []) =
    expression_again {W = IsName} (λ n w. w.0) e k (written.line_end ∷ []) after_expr in
    let read = spelled_blind expression_part.good expression_same text.0 e
    (ap expression.reads same ∙ line) in
    (text.0, text.1, subst (λ (x : Expr). Spells expression.derives text.0 x) read.2 read.1)
