-- The tokens of a condition's node, over the lists of its bodies.
use Rattle.std.proofs.Common.{◌≡◌, List, [], ◌∷◌, ◌++◌, codes, refl, ap, ◌∙◌}
use mathlib.Core.Former.{Count}
use Rattle.cx_text.specs.declared.token.Token.{Token}
use Rattle.cx_text.specs.Written.{word, sign, line_end}
use Rattle.cx_expr.specs.declared.tree.Expr.{Expr}
use Rattle.cx_expr.specs.Printed.{expr_tokens}
use Rattle.cx_sched.specs.declared.tree.Node.{Node, Cond, Cond', Row_of-Node, end_of-Node, more_of-Node, items-the_row-Node, items_hidden-the_row-Node-0}
use Rattle.cx_sched.specs.Printed.{node, each, otherwise, nodes, otherwise_nodes}

row_nodes : (n : _) (row : Row_of-Node n) → each row ≡ nodes (items-the_row-Node n row)
row_nodes n end_of-Node = refl
row_nodes n (more_of-Node one rest) = ap (λ (ts : List Token). node one ++ ts) (row_nodes _ rest)

row_otherwise : (n : _) (row : Row_of-Node n)
    → otherwise row ≡ otherwise_nodes (items-the_row-Node n row)
row_otherwise n end_of-Node = refl
row_otherwise n (more_of-Node one rest) =
    ap (λ (ts : List Token). word (codes "else") ∷ sign 123 ∷ line_end ∷ (node one ++ ts)
    ++ sign 125 ∷ line_end ∷ []) (row_nodes _ rest)

-- a condition's tokens, where those of its bodies are these
abbrev with : Expr → List Token → List Token → List Token
with e first second = word (codes "if") ∷ sign 40 ∷ expr_tokens e ++ sign 41 ∷ sign 123 ∷ line_end
    ∷ first ++ sign 125 ∷ line_end ∷ second

abbrev first_row : Node → (n : Count) × Row_of-Node n
first_row (Cond' e shape row shape2 row2) = (_, row)
first_row _ = (_, end_of-Node)

abbrev second_row : Node → (n : Count) × Row_of-Node n
second_row (Cond' e shape row shape2 row2) = (_, row2)
second_row _ = (_, end_of-Node)

pub cond_tokens : (e : Expr) (first second : List Node)
    → node (Cond e first second) ≡ with e (nodes first) (otherwise_nodes second)
cond_tokens e first second =
    let one = first_row (Cond e first second) in
    let two = second_row (Cond e first second) in
    let a : each one.1 ≡ nodes first =
    row_nodes one.0 one.1 ∙ ap nodes (items_hidden-the_row-Node-0 first) in
    let b : otherwise two.1 ≡ otherwise_nodes second =
    row_otherwise two.0 two.1 ∙ ap otherwise_nodes (items_hidden-the_row-Node-0 second) in
    ap (λ (ts : List Token). with e ts (otherwise two.1)) a
    ∙ ap (λ (ts : List Token). with e (nodes first) ts) b
