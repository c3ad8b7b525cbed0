-- The nodes of a schedule file are read as their grammar derives them.
use Rattle.std.proofs.Common.{◌≡◌, ◌≢◌, ℕ, zero, suc, ◌-◌, Bool, true, false, List, [], ◌∷◌, Option, Some, None, Err, refl, ap, arith, ◌∙◌}
use Rattle.std.specs.Prelude.{nat_eq}
use Rattle.cx_text.specs.declared.stop.Mark.TheVariants.{Limit}
use Rattle.cx_text.specs.declared.stop.Why.TheVariants.{Unexpected, Marked}
use Rattle.cx_text.specs.declared.token.Token.{Token}
use Rattle.cx_text.specs.Grammar.{passes, head}
use Rattle.cx_text.specs.Rules.{Rule, loop, if_is, is_sign, is_named, sign, keyword}
use Rattle.cx_text.specs.Lexemes.{is_quoted}
use Rattle.cx_sched.specs.declared.node.Read.{Read}
use Rattle.cx_sched.specs.Words.{STORAGE, IF, ELSE, SCHEDULE}
use Rattle.cx_sched.specs.Nodes.{nobody, is_node, is_body, storage, blocked, otherwise, condition, conditional, node, braced, body, schedule}
use Rattle.cx_text.proofs.Laws.{Means}
use Rattle.cx_text.proofs.Loops.{Short}
use Rattle.cx_text.proofs.RuleLaws.{Good, Part, Tail, Any, Not, before_part, weaker_part, short_part, token_then, lexeme_good, lexeme_full, lexeme_then, lexeme_last, loop_good, loop_empty, empty_then, part_then, part_choice, part_end, part_then_tail, tail_then, tail_option, tail_loop, tail_end, a_line_end}
use Rattle.cx_text.proofs.LexemeLaws.{a_word, a_sign, keyword_is, sign_is, Ended, beyond_part, line_ends_tail}
use Rattle.cx_expr.proofs.ExprLaws.{AfterExpr}
use Rattle.cx_expr.proofs.ExprLaws.{expression_part}
use Rattle.cx_sched.proofs.RefLaws.{AfterStores, stores_tail}
use Rattle.cx_sched.proofs.BlockLaws.{block_part}

-- what follows a node
pub record AfterNode (n : Option Token) : Type 0 where
  pub else_ : Not (is_named ELSE) n
  pub quoted : Not is_quoted n
  pub ended : Ended n

pub node_end : AfterNode None
node_end = record { else_ = refl; quoted = refl; ended = refl }

-- the first token of a node
abbrev FirstOfNode : Option Token → Type 0
FirstOfNode n = Not (is_sign 123) n × Ended n

storage_part : (s : Read) {F : Option Token → Type 0} → F (Some (a_word STORAGE))
    → Part (storage s) F AfterNode
storage_part s f =
    before_part (lexeme_then (keyword_is STORAGE refl) f
    (λ u. token_then {G = AfterStores} (sign_is 58 refl) refl (λ v.
    empty_then stores_tail.good stores_tail.empty (λ n k. (k, k))
    (λ rs. lexeme_last a_line_end
    (record { word = refl; store = record { pair = refl; bracket = refl; comma = refl } })))))
    (λ n h. h.ended)

blocked_part : (s : Read) {F : Option Token → Type 0} → F (Some (a_word SCHEDULE))
    → Part (blocked s) F AfterNode
blocked_part s f = before_part
    (part_end None (refl, refl) (block_part (nat_eq s.nodes 0) s.lines f))
    (λ n h. (h.quoted, h.ended))

a_close : AfterExpr (Some (a_sign 41))
a_close = (refl, (refl, (refl, (refl, (refl, (refl, refl, refl))))))

pub condition_part : (full : Bool) {F : Option Token → Type 0} → F (Some (a_word IF))
    → Part (condition full) F Ended
condition_part full f = lexeme_then (keyword_is IF refl) f
    (λ u. lexeme_then (sign_is 40 refl) refl
    (λ v. part_then (Some (a_sign 41)) a_close expression_part
    (λ e. lexeme_last (sign_is 41 refl) a_close)))

otherwise_tail : (b : ℕ → ℕ → Rule Read) (nodes lines : ℕ)
    → ((k l : ℕ) → Part (b k l) Ended AfterNode) → Tail (otherwise b nodes lines) AfterNode
otherwise_tail b nodes lines p =
    tail_option None node_end (lexeme_then {F = Any} (keyword_is ELSE refl) tt (λ u. p nodes lines))
    (λ n h. h) (λ n h. h.else_)

conditional_part : (b : ℕ → ℕ → Rule Read) (s : Read) → ((k l : ℕ) → Part (b k l) Ended AfterNode)
    → Part (conditional b s) Any AfterNode
conditional_part b s p =
    part_then None refl (condition_part (nat_eq s.nodes 0) {F = Any} tt) (λ e.
    part_then_tail (p (s.nodes - 1) s.lines) (λ n h. h) None node_end (λ y.
    tail_then (otherwise_tail b y.nodes y.lines p) (λ n. tail_end None node_end)))

node_part : (b : ℕ → ℕ → Rule Read) (s : Read) → ((k l : ℕ) → Part (b k l) Ended AfterNode)
    → Part (node b s) FirstOfNode AfterNode
node_part b s p =
    weaker_part {F = λ n. Not (is_named IF) n × (Not (is_named STORAGE) n × FirstOfNode n)}
    (part_choice (storage_part s {F = Any} tt)
    (part_choice (conditional_part b s p) (blocked_part s (refl, (refl, (refl, refl))))
    (λ n h. h.0))
    (λ n h. h.1.0)) (λ n h. h.1.1)

-- what follows nodes
pub record AfterNodes (n : Option Token) : Type 0 where
  pub node : Not is_node n
  pub after : AfterNode n

nodes_end : AfterNodes None
nodes_end = record { node = refl; after = node_end }

nodes_good : (b : ℕ → ℕ → Rule Read) (s : Read) → ((k l : ℕ) → Part (b k l) Ended AfterNode)
    → Good (loop is_node (node b) s) AfterNodes
nodes_good b s p = loop_good (λ t. (node_part b t p).good) (λ t. (node_part b t p).full)
    (λ n h. h.node) (λ n h. h.after) None nodes_end

braced_part : (b : ℕ → ℕ → Rule Read) (nodes lines : ℕ) → ((k l : ℕ) → Part (b k l) Ended AfterNode)
    → Part (braced b nodes lines) Any Ended
braced_part b nodes lines p =
    lexeme_then (sign_is 123 refl) tt (λ u.
    weaker_part {F = AfterNodes}
    (empty_then {G = AfterNodes} (nodes_good b (nobody nodes lines) p)
    (loop_empty (node b) (nobody nodes lines)) (λ n h. (h, h.node))
    (λ s. lexeme_last (sign_is 125 refl)
    (record { node = refl; after = record { else_ = refl; quoted = refl; ended = refl } })))
    (λ n h. h.after.ended))

abbrev a_body : Means (if_is is_body)
a_body = record { tok = a_sign 123; x = tt; is = refl }

pub body_part : (depth nodes lines : ℕ) → Part (body depth nodes lines) Ended AfterNode
unfolding body
body_part zero nodes lines = before_part (beyond_part is_body a_body refl) (λ n h. h.ended)
body_part (suc depth) nodes lines =
    weaker_part {F = FirstOfNode}
    (part_choice (before_part (braced_part (body depth) nodes lines (body_part depth))
    (λ n h. h.ended)) (node_part (body depth) (nobody nodes lines) (body_part depth))
    (λ n h. h.0)) (λ n h. h.1)

pub file_good : Good schedule AfterNodes
file_good =
    (tail_then (line_ends_tail None nodes_end (λ n h. h.after.ended))
    (λ u. tail_then (tail_loop None nodes_end (λ s. node_part (body 32) s (body_part 32))
    (λ n h. h.after) (λ n h. h.node)) (λ s. tail_end {H = AfterNodes} None nodes_end))).good

pub file_end : AfterNodes None
file_end = nodes_end

-- ---- what reading takes

pub node_short : (depth : ℕ) (s : Read) → Short (node (body depth) s)
node_short depth s = let p = node_part (body depth) s (body_part depth) in short_part p.good p.full

pub body_short : (depth nodes lines : ℕ) → Short (body depth nodes lines)
body_short depth nodes lines = let p = body_part depth nodes lines in short_part p.good p.full

pub condition_short : (full : Bool) → Short (condition full)
condition_short full = let p = condition_part full {F = Any} tt in short_part p.good p.full

pub sign_short : (b : ℕ) → if_is (is_sign b) (a_sign b) ≡ Some tt → Short (sign b)
sign_short b is = short_part (lexeme_good (sign_is b is)) lexeme_full

pub else_short : Short (keyword ELSE)
else_short = short_part (lexeme_good (keyword_is ELSE refl)) lexeme_full

-- ---- what reading a body answers, case by case

pub beyond_limit : (depth nodes lines : ℕ) (ts : List Token) → depth ≡ 0
    → passes is_body (head ts) ≡ true → (body depth nodes lines).reads ts ≡ Err (Marked Limit, ts)
unfolding body
beyond_limit (suc depth) nodes lines ts e go = absurd (omega arith)
beyond_limit zero nodes lines [] e go = absurd cc
beyond_limit zero nodes lines (t ∷ ts) e go = rw go refl

pub beyond_none : (depth nodes lines : ℕ) (ts : List Token) → depth ≡ 0
    → passes is_body (head ts) ≡ false → (body depth nodes lines).reads ts ≡ Err (Unexpected, ts)
unfolding body
beyond_none (suc depth) nodes lines ts e go = absurd (omega arith)
beyond_none zero nodes lines [] e go = refl
beyond_none zero nodes lines (t ∷ ts) e go = rw go refl

braced_behind : (depth nodes lines : ℕ) (ts : List Token) → passes (is_sign 123) (head ts) ≡ true
    → (body (suc depth) nodes lines).reads ts ≡ (braced (body depth) nodes lines).reads ts
unfolding body
braced_behind depth nodes lines ts go = rw go refl

single_behind : (depth nodes lines : ℕ) (ts : List Token) → passes (is_sign 123) (head ts) ≡ false
    → (body (suc depth) nodes lines).reads ts ≡ (node (body depth) (nobody nodes lines)).reads ts
unfolding body
single_behind depth nodes lines ts go = rw go refl

less : (k : ℕ) → k ≡ suc k - 1
less k = omega arith

pub braced_goes : (depth nodes lines : ℕ) (ts : List Token) → depth ≢ 0
    → passes (is_sign 123) (head ts) ≡ true
    → (body depth nodes lines).reads ts ≡ (braced (body (depth - 1)) nodes lines).reads ts
braced_goes zero nodes lines ts ne go = absurd (ne refl)
braced_goes (suc depth) nodes lines ts ne go =
    braced_behind depth nodes lines ts go
    ∙ ap (λ (d : ℕ). (braced (body d) nodes lines).reads ts) (less depth)

pub single_goes : (depth nodes lines : ℕ) (ts : List Token) → depth ≢ 0
    → passes (is_sign 123) (head ts) ≡ false
    → (body depth nodes lines).reads ts ≡ (node (body (depth - 1)) (nobody nodes lines)).reads ts
single_goes zero nodes lines ts ne go = absurd (ne refl)
single_goes (suc depth) nodes lines ts ne go =
    single_behind depth nodes lines ts go
    ∙ ap (λ (d : ℕ). (node (body d) (nobody nodes lines)).reads ts) (less depth)
