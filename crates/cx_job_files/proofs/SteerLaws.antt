-- Each line of a steer file has an iteration of 1 or more.
use Rattle.std.proofs.Common.{◌≡◌, refl, ◌≤◌, ℕ, zero, suc, nat_eq, Bool, true, false, cond, List, [], ◌∷◌, drop, Some, None, subst, arith}
use Rattle.std.specs.Prelude.{All}
use Rattle.std.specs.List.{AllByRecursion}
use Rattle.std.proofs.lemmas.List.Elements.{All-from_recursion}
use Rattle.cx_text.specs.declared.token.Token.{Token}
use Rattle.cx_text.specs.declared.stop.Mark.{Mark}
use Rattle.cx_text.specs.declared.stop.Mark.TheVariants.{Limit, BadNumber}
use Rattle.cx_text.specs.Grammar.{Spells}
use Rattle.cx_text.specs.Rules.{token, unmarked, sign_here, one_line_end}
use Rattle.cx_text.specs.Lexemes.{first_mark, decimal_from}
use Rattle.cx_text.proofs.Holds.{Holds, unmarked_clean, holds_any, holds_token, holds_also, holds_nothing, holds_loop, each-append, spelled_holds}
use Rattle.cx_parfile.specs.declared.reader.Name.{Name}
use Rattle.cx_parfile.specs.declared.steer.ReadSteers.{ReadSteers}
use Rattle.cx_parfile.specs.declared.steer.SteerLine.{SteerLine}
use Rattle.cx_parfile.specs.ParFile.{name_of, name_mark, index}
use Rattle.cx_parfile.specs.SteerFile.{is_iteration, is_outside, iteration_of, iteration_mark, plain_value, steered, steer_line, steer_file}

abbrev IsLater : SteerLine → Type 0
IsLater l = 1 ≤ l.at

inside : (n : ℕ) → is_outside n ≡ false → 1 ≤ n
inside zero m = absurd cc
inside (suc n) m = omega arith

no_marks : (a b : Bool) (m k : Mark) → first_mark a m (first_mark b k None) ≡ None → b ≡ false
no_marks true b m k e = absurd cc
no_marks false true m k e = absurd cc
no_marks false false m k e = refl

at_if : (b : Bool) (n i : ℕ) → cond b (Some n) None ≡ Some i → is_outside n ≡ false → 1 ≤ i
at_if true n i v m = let same : n ≡ i = cc in subst (λ (k : ℕ). 1 ≤ k) same (inside n m)
at_if false n i v m = absurd cc

iteration_holds : {T : Token → Type 0} (left : ℕ)
    → Holds T (token iteration_of (iteration_mark left)) (λ n i. 1 ≤ i)
iteration_holds left =
    holds_token {P = λ n i. 1 ≤ i}
    (λ t i h v m. at_if (is_iteration t) (decimal_from 0 (drop 1 t.text)) i v
    (no_marks (nat_eq left 0) (is_outside (decimal_from 0 (drop 1 t.text))) Limit BadNumber m))

steered_holds : {T : Token → Type 0} (at : ℕ) (n : Name) → 1 ≤ at
    → Holds T (steered at n) (λ m l. IsLater l)
steered_holds at n later =
    holds_also (holds_any index) (λ a i b.
    holds_also (holds_any (sign_here 61)) (λ c u d.
    holds_also (holds_any (token plain_value unmarked)) (λ e v f.
    holds_nothing (λ k. later))))

line_holds : {T : Token → Type 0} (r : ReadSteers) → AllByRecursion IsLater r.lines
    → Holds T (steer_line r) (λ n s. AllByRecursion IsLater s.lines)
line_holds r h =
    holds_also (iteration_holds r.left) (λ n at later.
    holds_also (holds_any (token name_of (name_mark 1))) (λ m name a.
    holds_also (steered_holds at name later) (λ j l p.
    holds_also (holds_any (one_line_end tt)) (λ k u q.
    holds_nothing (λ i. each-append IsLater r.lines (l ∷ []) h (p, tt))))))

file_holds : {T : Token → Type 0} → Holds T steer_file (λ n ls. AllByRecursion IsLater ls)
file_holds =
    holds_also (holds_loop {r = steer_line} (λ (r : ReadSteers). AllByRecursion IsLater r.lines)
    line_holds tt) (λ n r h. holds_nothing (λ k. h))

pub lines_later : (ts : List Token) (ls : List SteerLine) → Spells steer_file.derives ts ls
    → All (λ (line : SteerLine). 1 ≤ line.at) ls
lines_later ts ls spelled =
    All-from_recursion IsLater ls
    (spelled_holds (file_holds {T = λ t. Unit {0}}) ts ls spelled
    (unmarked_clean (λ t. Unit {0}) ts (λ t. tt)))
