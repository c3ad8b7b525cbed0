-- A condition's tokens are those of its parts.
use Rattle.std.proofs.Common.{◌≡◌, ◌∙◌, ◌++◌, ◌∷◌, [], IfOk, List, Result, Ok, Err, codes, sym, ap, append_assoc}
use Rattle.cx_text.specs.declared.token.Token.{Token}
use Rattle.cx_text.specs.Written.{word, sign, line_end}
use Rattle.cx_expr.specs.declared.tree.Expr.{Expr}
use Rattle.cx_expr.specs.Printed.{expr_tokens}
use Rattle.cx_sched.specs.declared.tree.Node.{Node, Cond}
use Rattle.cx_sched.specs.Printed.{node, nodes, otherwise_nodes}
use Rattle.cx_sched.proofs.NodeTokens.{cond_tokens}
use Rattle.cx_sched.proofs.printer.+print.Goals as goal

parts : (old before body other : List Token)
    → ((old ++ before) ++ (sign 123 ∷ line_end ∷ body ++ sign 125 ∷ line_end ∷ [])) ++ other
    ≡ old ++ (before ++ sign 123 ∷ line_end ∷ body ++ sign 125 ∷ line_end ∷ other)
parts old before body other = simp append_assoc

cond_whole : (e : Expr) (first second : List Node)
    → (word (codes "if") ∷ sign 40 ∷ expr_tokens e ++ sign 41 ∷ []) ++ sign 123 ∷ line_end
    ∷ nodes first ++ sign 125 ∷ line_end ∷ otherwise_nodes second ≡ node (Cond e first second)
cond_whole e first second =
    let same : (word (codes "if") ∷ sign 40 ∷ expr_tokens e ++ sign 41 ∷ []) ++ sign 123 ∷ line_end
    ∷ nodes first ++ sign 125 ∷ line_end ∷ otherwise_nodes second
    ≡ word (codes "if") ∷ sign 40 ∷ expr_tokens e ++ sign 41 ∷ sign 123 ∷ line_end ∷ nodes first
    ++ sign 125 ∷ line_end ∷ otherwise_nodes second = simp append_assoc in
    same ∙ sym (cond_tokens e first second)

joined : {E : Type 0} (r : Result (Unit {0}) E) (old mid new : List Token) (item : Node) (e : Expr)
    (first second first_now second_now : List Node) → item ≡ Cond e first second → first_now ≡ first
    → second_now ≡ second
    → mid ≡ (old ++ (word (codes "if") ∷ sign 40 ∷ expr_tokens e ++ sign 41 ∷ []))
    ++ (sign 123 ∷ line_end ∷ nodes first_now ++ sign 125 ∷ line_end ∷ [])
    → IfOk r (λ x. new ≡ mid ++ otherwise_nodes second_now)
    → IfOk r (λ x. new ≡ old ++ node item)
joined (Ok u) old mid new item e first second first_now second_now is f s m k =
    k
    ∙ ap (λ (ns : List Node). mid ++ otherwise_nodes ns) s
    ∙ ap (λ (ts : List Token). ts ++ otherwise_nodes second)
    (m ∙ ap (λ (ns : List Node).
    (old ++ (word (codes "if") ∷ sign 40 ∷ expr_tokens e ++ sign 41 ∷ []))
    ++ (sign 123 ∷ line_end ∷ nodes ns ++ sign 125 ∷ line_end ∷ [])) f)
    ∙ parts old (word (codes "if") ∷ sign 40 ∷ expr_tokens e ++ sign 41 ∷ []) (nodes first)
    (otherwise_nodes second)
    ∙ ap (λ (ts : List Token). old ++ ts) (cond_whole e first second ∙ ap node (sym is))
joined (Err x) old mid new item e first second first_now second_now is f s m k = tt

pub push_node-returns-in_ok-push_body-in-Cond : goal.push_node-returns-in_ok-push_body-in-Cond
push_node-returns-in_ok-push_body-in-Cond t c =
    let first : c.push_condition.new.tokens
    ≡ c.args.tokens.now ++ (word (codes "if") ∷ sign 40 ∷ expr_tokens c.in-Cond.test ++ sign 41
    ∷ []) = c.in_ok-push_condition-in-Cond.ensures in
    let mid = c.in_ok-push_body-in-Cond.ensures
    ∙ ap (λ (ts : List Token). ts
    ++ (sign 123 ∷ line_end ∷ nodes c.as_slice-in-Cond.result.now ++ sign 125 ∷ line_end ∷ []))
    first in
    joined c.push_otherwise.result c.args.tokens.now c.push_body.new.tokens
    c.push_otherwise.new.tokens c.args.item.now c.in-Cond.test c.in-Cond.yes c.in-Cond.no
    c.as_slice-in-Cond.result.now c.as_slice-in-Cond-2.result.now c.in-Cond.is
    c.as_slice-in-Cond.ensures c.as_slice-in-Cond-2.ensures mid c.push_otherwise.ensures
