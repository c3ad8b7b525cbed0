-- The iterations of a steer file's lines are at most 1,000,000.
use Rattle.std.proofs.Common.{◌≡◌, refl, sym, ap, subst, ◌∙◌, ℕ, ◌<◌, ◌≤◌, ◌⊎◌, inl, inr, Bool, true, false, cond, List, [], ◌∷◌, Some, None}
use Rattle.std.specs.Prelude.{nat_lt, nat_eq, ◌||◌, drop}
use Rattle.std.specs.List.{AllByRecursion}
use Rattle.std.proofs.lemmas.Bool.{cases_lt, lt-ltb}
use Rattle.cx_text.specs.declared.token.Token.{Token}
use Rattle.cx_text.specs.declared.stop.Mark.TheVariants.{Limit, BadNumber}
use Rattle.cx_text.specs.Grammar.{Spells}
use Rattle.cx_text.specs.Lexemes.{first_mark, decimal_from}
use Rattle.cx_text.specs.Rules.{one_line_end, sign_here, token, unmarked}
use Rattle.cx_text.proofs.Holds.{Holds, holds_any, holds_also, holds_nothing, holds_token, holds_loop, spelled_holds, unmarked_clean, each-append}
use Rattle.cx_parfile.specs.ParFile.{index, name_of, name_mark}
use Rattle.cx_parfile.specs.SteerFile.{is_iteration, is_outside, iteration_of, iteration_mark, plain_value, steered, steer_line, steer_file}
use Rattle.cx_parfile.specs.declared.reader.Name.{Name}
use Rattle.cx_parfile.specs.declared.steer.SteerLine.{SteerLine}

abbrev pub IsEarly : SteerLine → Type 0
IsEarly l = l.at ≤ 1000000

abbrev AnyToken : Token → Type 0
AnyToken t = Unit {0}

-- a number that isn't outside
within : (n : ℕ) → is_outside n ≡ false → n ≤ 1000000
within n inside = by (nat_lt 1000000 n) refl
  where
    or_true : (a : Bool) → (a || true) ≡ true
    or_true true = refl
    or_true false = refl

    by : (b : Bool) → nat_lt 1000000 n ≡ b → n ≤ 1000000
    by true e = absurd (let bad : true ≡ false =
        sym (ap (λ b. nat_eq n 0 || b) e ∙ or_true (nat_eq n 0)) ∙ inside in cc)
    by false e = at_most (cases_lt 1000000 n)
      where
        at_most : (1000000 < n) ⊎ (n ≤ 1000000) → n ≤ 1000000
        at_most (inl l) = absurd (let bad : true ≡ false = sym (lt-ltb 1000000 n l) ∙ e in cc)
        at_most (inr l) = l

unmarked_is : (a b : Bool) → first_mark a Limit (first_mark b BadNumber None) ≡ None → b ≡ false
unmarked_is true b e = absurd cc
unmarked_is false true e = absurd cc
unmarked_is false false e = refl

iteration_early : (left : ℕ) (t : Token) (n : ℕ) → iteration_of t ≡ Some n
    → iteration_mark left t ≡ None → n ≤ 1000000
iteration_early left t n is unmarked_ = by (is_iteration t) is
  where
    by : (b : Bool) → cond b (Some (decimal_from 0 (drop 1 t.text))) None ≡ Some n → n ≤ 1000000
    by false e = absurd cc
    by true e =
        let same : decimal_from 0 (drop 1 t.text) ≡ n = cc in
        subst (λ k. k ≤ 1000000) same
        (within (decimal_from 0 (drop 1 t.text))
        (unmarked_is (nat_eq left 0) (is_outside (decimal_from 0 (drop 1 t.text))) unmarked_))

steered_early : (at : ℕ) (n : Name) → at ≤ 1000000
    → Holds AnyToken (steered at n) (λ m l. IsEarly l)
steered_early at n early =
    holds_also (holds_any index) (λ a i x.
    holds_also (holds_any (sign_here 61)) (λ b u y.
    holds_also (holds_any (token plain_value unmarked)) (λ d v z.
    holds_nothing (λ k. early))))

file_early : Holds AnyToken steer_file (λ n ls. AllByRecursion IsEarly ls)
file_early =
    holds_also (holds_loop {r = steer_line} (λ s. AllByRecursion IsEarly s.lines)
    (λ s h.
    holds_also (holds_token {P = λ n at. at ≤ 1000000}
    (λ t at any is m. iteration_early s.left t at is m))
    (λ n at early.
    holds_also (holds_any (token name_of (name_mark 1))) (λ m name x.
    holds_also (steered_early at name early) (λ k l p.
    holds_also (holds_any (one_line_end tt)) (λ j u q.
    holds_nothing (λ i. each-append IsEarly s.lines (l ∷ []) h (p, tt)))))))
    tt) (λ n s h. holds_nothing (λ k. h))

-- the lines that some tokens spell
pub early_lines : (ts : List Token) (ls : List SteerLine) → Spells steer_file.derives ts ls
    → AllByRecursion IsEarly ls
early_lines ts ls spelled =
    spelled_holds file_early ts ls spelled (unmarked_clean AnyToken ts (λ t. tt))
