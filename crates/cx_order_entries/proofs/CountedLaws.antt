-- What counts of nodes, one after another.
use Rattle.std.proofs.Common.{◌≡◌, ℕ, ℤ, Bool, true, false, cond, Result, Ok, Err, List, [], ◌∷◌, ◌++◌, refl, sym, ◌∙◌, ap, subst, append_assoc, append-nil}
use Rattle.std.specs.Prelude.{OnOk}
use mathlib.Core.Former.{Count}
use Rattle.cx_expr.specs.declared.tree.Expr.{Expr}
use Rattle.cx_expr.specs.declared.tree.ExprFault.{ExprFault}
use Rattle.cx_expr.specs.Known.{Names}
use Rattle.cx_expr.specs.Evaluation.{eval}
use Rattle.cx_sched.specs.declared.tree.Node.{Node, Cond, Cond', Row_of-Node, end_of-Node, more_of-Node, items-the_row-Node, items_hidden-the_row-Node-0}
use Rattle.cx_text.specs.declared.memory.Memory as memory
use Rattle.cx_order_entries.specs.declared.counted.Counted.{Counted as LentCounted}
use Rattle.cx_order_entries.specs.declared.counted.Uncounted.{Uncounted}
use Rattle.cx_order_entries.specs.Counted.{Counted, nothing, and_then, joined, taken, one_counted, each, counted_of}
use Rattle.cx_order_entries.specs.Seen.{seen, unless_memory, Adds}
use Rattle.cx_text.specs.Numbers.{is_not_zero}

row_counted : (thorn : ℕ) (names : Names) (n : _) (row : Row_of-Node n)
    → each thorn names row ≡ counted_of thorn names (items-the_row-Node n row)
row_counted thorn names n end_of-Node = refl
row_counted thorn names n (more_of-Node one rest) =
    ap (joined (one_counted thorn names one)) (row_counted thorn names _ rest)

abbrev first_row : Node → (n : Count) × Row_of-Node n
first_row (Cond' e shape row shape2 row2) = (_, row)
first_row _ = (_, end_of-Node)

abbrev second_row : Node → (n : Count) × Row_of-Node n
second_row (Cond' e shape row shape2 row2) = (_, row2)
second_row _ = (_, end_of-Node)

pub cond_counted : (thorn : ℕ) (names : Names) (test : Expr) (first second : List Node)
    → one_counted thorn names (Cond test first second)
    ≡ taken (eval names test) (counted_of thorn names first) (counted_of thorn names second)
cond_counted thorn names test first second =
    let one = first_row (Cond test first second) in
    let two = second_row (Cond test first second) in
    let a : each thorn names one.1 ≡ counted_of thorn names first =
    row_counted thorn names one.0 one.1
    ∙ ap (counted_of thorn names) (items_hidden-the_row-Node-0 first) in
    let b : each thorn names two.1 ≡ counted_of thorn names second =
    row_counted thorn names two.0 two.1
    ∙ ap (counted_of thorn names) (items_hidden-the_row-Node-0 second) in
    ap (λ (r : Result Counted ExprFault). taken (eval names test) r (each thorn names two.1)) a
    ∙ ap (λ (r : Result Counted ExprFault).
    taken (eval names test) (counted_of thorn names first) r) b

-- ---- joining

pub and_then-nothing : (a : Counted) → and_then a nothing ≡ a
and_then-nothing a = ap (λ l. record { lines = l; entries = a.entries ++ [] }) (append-nil a.lines)
    ∙ ap (λ l. record { lines = a.lines; entries = l }) (append-nil a.entries)

and_then-assoc : (a b c : Counted) → and_then (and_then a b) c ≡ and_then a (and_then b c)
and_then-assoc a b c =
    ap (λ l. record { lines = l; entries = (a.entries ++ b.entries) ++ c.entries })
    (append_assoc a.lines b.lines c.lines)
    ∙ ap (λ l. record { lines = a.lines ++ (b.lines ++ c.lines); entries = l })
    (append_assoc a.entries b.entries c.entries)

pub joined-assoc : {E : Type 0} (a : Counted) (b c : Result Counted E)
    → joined (joined (Ok a) b) c ≡ joined (Ok a) (joined b c)
joined-assoc a (Err e) c = refl
joined-assoc a (Ok b) (Err e) = refl
joined-assoc a (Ok b) (Ok c) = ap (λ (x : Counted). Ok x) (and_then-assoc a b c)

pub joined-err : {E : Type 0} (a : Counted) (b : Result Counted E) (e : E) → joined (Ok a) b ≡ Err e
    → b ≡ Err e
joined-err a (Err f) e h = h
joined-err a (Ok b) e h = absurd (cc h)

-- ---- the steps of the calls

pub adds-alone : (part : Counted) (told : Result Counted ExprFault) (old new : LentCounted)
    (done : Result (Unit {0}) memory.Memory) (r : Result (Unit {0}) Uncounted) → told ≡ Ok part
    → OnOk done (seen new ≡ and_then (seen old) part) → r ≡ unless_memory done → Adds told old new r
adds-alone part told old new (Ok u) r is added same =
    let A : Result (Unit {0}) Uncounted → Type 0 = λ r. Adds told old new r in
    subst A (sym same) (ap (joined (Ok (seen old))) is ∙ ap (λ (x : Counted). Ok x) (sym added))
adds-alone part told old new (Err e) r is added same = let A : Result (Unit {0}) Uncounted
    → Type 0 = λ r. Adds told old new r in subst A (sym same) tt

-- the state of the loop over nodes: what is there, with the rest, is what was there with all
pub record Passed (thorn : ℕ) (names : Names) (first now : Counted)
    (nodes rest : List Node) : Type 0 where
  pub same : joined (Ok now) (counted_of thorn names rest)
      ≡ joined (Ok first) (counted_of thorn names nodes)

pub passed-next : (thorn : ℕ) (names : Names) (first now new : Counted)
    (nodes rest more : List Node) (n : Node) → rest ≡ n ∷ more
    → joined (Ok now) (one_counted thorn names n) ≡ Ok new → Passed thorn names first now nodes rest
    → Passed thorn names first new nodes more
passed-next thorn names first now new nodes rest more n parts told p =
    record {
      same = ap (λ (r : Result Counted ExprFault). joined r (counted_of thorn names more))
          (sym told) ∙ joined-assoc now (one_counted thorn names n) (counted_of thorn names more)
          ∙ (ap (λ (ns : List Node). joined (Ok now) (counted_of thorn names ns)) (sym parts)
          ∙ p.same);
    }

pub passed-all : (thorn : ℕ) (names : Names) (first now : Counted) (nodes rest : List Node)
    → rest ≡ [] → Passed thorn names first now nodes rest
    → joined (Ok first) (counted_of thorn names nodes) ≡ Ok now
passed-all thorn names first now nodes rest none p =
    sym p.same ∙ ap (λ (ns : List Node). joined (Ok now) (counted_of thorn names ns)) none
    ∙ ap (λ (x : Counted). Ok x) (and_then-nothing now)

pub passed-err : (thorn : ℕ) (names : Names) (first now : Counted) (nodes rest more : List Node)
    (n : Node) (e : ExprFault) → rest ≡ n ∷ more → one_counted thorn names n ≡ Err e
    → Passed thorn names first now nodes rest → counted_of thorn names nodes ≡ Err e
passed-err thorn names first now nodes rest more n e parts told p =
    joined-err first (counted_of thorn names nodes) e
    (sym p.same ∙ ap (λ (ns : List Node). joined (Ok now) (counted_of thorn names ns)) parts
    ∙ ap (λ (r : Result Counted ExprFault).
    joined (Ok now) (joined r (counted_of thorn names more))) told)

-- the branch that is taken
pub branch : (thorn : ℕ) (names : Names) (test : Expr) (first second now : List Node) (node : Node)
    (n : ℤ) (b : Bool) → node ≡ Cond test first second → eval names test ≡ Ok n → b ≡ is_not_zero n
    → now ≡ cond b first second → counted_of thorn names now ≡ one_counted thorn names node
branch thorn names test first second now node n b is value truth picked =
    ap (counted_of thorn names) picked ∙ which b
    ∙ ap (λ (t : Bool). cond t (counted_of thorn names first) (counted_of thorn names second))
    truth
    ∙ ap (λ (r : Result ℤ ExprFault).
    taken r (counted_of thorn names first) (counted_of thorn names second)) (sym value)
    ∙ sym (cond_counted thorn names test first second)
    ∙ ap (one_counted thorn names) (sym is)
  where
    which : (t : Bool) → counted_of thorn names (cond t first second)
        ≡ cond t (counted_of thorn names first) (counted_of thorn names second)
    which true = refl
    which false = refl

pub adds-same : (told other : Result Counted ExprFault) (old new : LentCounted)
    (r : Result (Unit {0}) Uncounted) → other ≡ told → Adds other old new r → Adds told old new r
adds-same told other old new r same adds = let A : Result Counted ExprFault
    → Type 0 = λ t. Adds t old new r in subst A same adds
