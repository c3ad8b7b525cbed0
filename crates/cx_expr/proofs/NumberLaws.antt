-- A number that is read is in its range.
use Rattle.std.proofs.Common.{◌≡◌, ℕ, ◌≤◌, Bool, true, false, cond, ◌||◌, List, [], ◌∷◌, Option, Some, None, Ok, refl, sym, ap, subst, ◌∙◌, arith}
use Rattle.std.specs.Prelude.{nat_lt, Result, Err, IfOk}
use Rattle.cx_text.specs.declared.stop.Stop.{Stop}
use Rattle.cx_text.specs.declared.token.Token.{Token}
use Rattle.cx_text.specs.declared.stop.Mark.{Mark}
use Rattle.cx_text.specs.declared.stop.Mark.TheVariants.{BadNumber}
use Rattle.cx_text.specs.Grammar.{Item, clean}
use Rattle.cx_text.specs.Reading.{read_token, read_nothing, Gives}
use Rattle.cx_text.specs.Rules.{◌>>=◌, nothing, line_ends}
use Rattle.cx_text.specs.Lexemes.{first_mark, decimal_from, is_number, number_of, number_mark, number_in}
use Rattle.cx_text.proofs.Laws.{ok_goes, ok_is, reads_token}
use Rattle.cx_text.proofs.LexemeLaws.{a_number}
use Rattle.cx_text.proofs.RuleLaws.{Any}

pub unmarked_high : (a b : Bool) → first_mark (a || b) BadNumber None ≡ None → b ≡ false
unmarked_high true b e = absurd cc
unmarked_high false true e = absurd cc
unmarked_high false false e = refl

value_is : (b : Bool) (d x : ℕ) → cond b (Some d) None ≡ Some x → d ≡ x
value_is true d x e = cc
value_is false d x e = absurd cc

no_mark : (front : List Token) (t : Token) (m : Option Mark) → clean front ≡ (t, m) ∷ [] → m ≡ None
no_mark [] t m e = absurd cc
no_mark (u ∷ us) t m e = let same : (u, None) ≡ (t, m) = cc in sym (ap (λ (i : Item). i.1) same)

pub number_most : (high : ℕ) (ts us : List Token) (n : ℕ) → (number_in 0 high).reads ts ≡ Ok (n, us)
    → n ≤ high
number_most high ts us n e =
    let a = ok_goes (read_token number_of (number_mark 0 high) ts)
    (λ x. (line_ends >>= λ u. nothing x).reads) n us e in
    let b = ok_goes (line_ends.reads a.1) (λ u. read_nothing a.0) n us a.3 in
    let same : a.0 ≡ n = (ok_is a.0 n b.1 us b.3).0 in
    let k = (reads_token number_of (number_mark 0 high) a_number Any).takes ts a.0 a.1 a.2 in
    let t = k.spelled.0 in
    let value : decimal_from 0 t.text ≡ a.0 =
    value_is (is_number t) (decimal_from 0 t.text) a.0 k.spelled.1 in
    let low : nat_lt high (decimal_from 0 t.text) ≡ false =
    unmarked_high (nat_lt (decimal_from 0 t.text) 0) (nat_lt high (decimal_from 0 t.text))
    (no_mark k.front t (number_mark 0 high t) k.spelled.2) in
    let most : decimal_from 0 t.text ≤ high = grind (arith, low) in
    subst (λ (m : ℕ). m ≤ high) (value ∙ same) most

pub given_most : (high : ℕ) (ts us : List Token) (result : Result ℕ Stop)
    → Gives (λ n. n) result us ((number_in 0 high).reads ts) → IfOk result (λ n. n ≤ high)
given_most high ts us (Ok n) h = number_most high ts us n h
given_most high ts us (Err s) h = tt
