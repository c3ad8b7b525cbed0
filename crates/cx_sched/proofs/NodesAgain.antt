-- Nodes are read again from the tokens that are printed.
use Rattle.std.proofs.Common.{◌≡◌, ◌<◌, ◌≤◌, ◌+◌, ◌-◌, ℕ, suc, Bool, true, false, List, [], ◌∷◌, ◌++◌, codes, Option, Some, Ok, refl, sym, ap, subst, ◌∙◌, append_assoc, arith}
use Rattle.std.specs.List.{AllByRecursion}
use Rattle.std.proofs.lemmas.List.{append-nil}
use Rattle.cx_text.specs.declared.token.Token.{Token}
use Rattle.cx_text.specs.declared.token.Style.TheVariants.{Ccl}
use Rattle.cx_text.specs.Tokens.{is_line_end}
use Rattle.cx_text.specs.Grammar.{head, passes}
use Rattle.cx_text.specs.Rules.{is_named, loop}
use Rattle.cx_text.specs.Lexemes.{kept, is_quoted}
use Rattle.cx_text.specs.Written.{word, sign, line_end}
use Rattle.cx_text.proofs.Holds.{each-append}
use Rattle.cx_text.proofs.PrintLaws.{AllPrintable, WellEnded, printable_end}
use Rattle.cx_text.proofs.Printing.{loop_step, loop_stop, no_skip, one_skip}
use Rattle.cx_expr.specs.declared.tree.Expr.{Expr}
use Rattle.cx_expr.specs.Exprs.{expression}
use Rattle.cx_expr.specs.Printed.{expr_tokens}
use Rattle.cx_expr.proofs.ExprFits as expr
use Rattle.cx_expr.proofs.ExprLaws.{AfterExpr}
use Rattle.cx_expr.proofs.TextLaws.{IsWritten, tokens_written, expression_again}
use Rattle.cx_sched.specs.declared.tree.Ref.{Ref}
use Rattle.cx_sched.specs.declared.tree.Block.{Block as BlockOf}
use Rattle.cx_sched.specs.declared.tree.Node.{Node, Storage, Cond, Cond', Block}
use Rattle.cx_sched.specs.declared.node.Read.{Read}
use Rattle.cx_sched.specs.Words.{STORAGE, ELSE}
use Rattle.cx_sched.specs.Nodes.{nobody, is_node, otherwise, condition, node, braced, body}
use Rattle.cx_sched.specs.Printed as printed
use Rattle.cx_sched.proofs.NodeLaws.{node_short}
use Rattle.cx_sched.proofs.NodeTokens.{cond_tokens}
use Rattle.cx_sched.proofs.RefAgain.{IsName, StoreFits, stores_again}
use Rattle.cx_sched.proofs.LinesAgain.{not_full}
use Rattle.cx_sched.proofs.TokenLaws.{Written, a_sign, written_starts, stores_written, a_storage, a_condition, an_else}
use Rattle.cx_sched.proofs.BlockAgain.{BlockFits, flat, block_tokens, block_again, block_written}

-- ---- what fits

abbrev pub ExprFits : Expr → Type 0
ExprFits e = expr.Kept IsName 5 32 32 1024 e

-- nodes that are read again where so many bodies may stand within one another, and how many nodes
-- and lines they are
pub data NodesFit : ℕ → ℕ → ℕ → List Node → Type 0 where
  no_nodes : {depth n l : ℕ} {ns : List Node} → ns ≡ [] → n ≡ 0 → l ≡ 0 → NodesFit depth n l ns
  storage_node : {depth n l : ℕ} {ns : List Node} (groups : List (Ref × Option ℕ))
      (more : List Node) (k : ℕ) → ns ≡ Storage groups ∷ more → AllByRecursion StoreFits groups
      → n ≡ suc k → NodesFit depth k l more → NodesFit depth n l ns
  block_node : {depth n l : ℕ} {ns : List Node} (b : BlockOf) (more : List Node) (k used j : ℕ)
      → ns ≡ Block b ∷ more → BlockFits b used → n ≡ suc k → l ≡ used + j → NodesFit depth k j more
      → NodesFit depth n l ns
  cond_node : {depth n l : ℕ} {ns : List Node} (e : Expr) (first second more : List Node)
      (n1 n2 n3 l1 l2 l3 : ℕ) → ns ≡ Cond e first second ∷ more → ExprFits e
      → n ≡ suc (n1 + (n2 + n3)) → l ≡ l1 + (l2 + l3) → NodesFit depth n1 l1 first
      → NodesFit depth n2 l2 second → NodesFit (suc depth) n3 l3 more → NodesFit (suc depth) n l ns

-- some nodes, and others behind them
pub nodes_joined : {depth n l : ℕ} {xs : List Node} → NodesFit depth n l xs
    → (m k : ℕ) (ys : List Node) → NodesFit depth m k ys → NodesFit depth (n + m) (l + k) (xs ++ ys)
nodes_joined {depth} {n} {l} (no_nodes is a b) m k ys g =
    let first : m ≡ n + m = omega (arith, a) in
    let second : k ≡ l + k = omega (arith, b) in
    subst (λ (ns : List Node). NodesFit depth (n + m) (l + k) (ns ++ ys)) (sym is)
    (subst (λ (i : ℕ). NodesFit depth i (l + k) ys) first
    (subst (λ (i : ℕ). NodesFit depth m i ys) second g))
nodes_joined {depth} (storage_node groups more j is h a f) m k ys g =
    storage_node groups (more ++ ys) (j + m) (ap (λ (ns : List Node). ns ++ ys) is) h
    (omega (arith, a)) (nodes_joined f m k ys g)
nodes_joined {depth} (block_node b more j used i is h a c f) m k ys g =
    block_node b (more ++ ys) (j + m) used (i + k) (ap (λ (ns : List Node). ns ++ ys) is) h
    (omega (arith, a)) (omega (arith, c)) (nodes_joined f m k ys g)
nodes_joined (cond_node e first second more n1 n2 n3 l1 l2 l3 is h a c f f2 f3) m k ys g =
    cond_node e first second (more ++ ys) n1 n2 (n3 + m) l1 l2 (l3 + k)
    (ap (λ (ns : List Node). ns ++ ys) is) h (omega (arith, a)) (omega (arith, c)) f f2
    (nodes_joined f3 m k ys g)

none_fit : {depth n l : ℕ} {ns : List Node} → NodesFit depth n l ns → ns ≡ [] → (n ≡ 0) × (l ≡ 0)
none_fit (no_nodes is a b) e = (a, b)
none_fit (storage_node groups more j is h a f) e =
    absurd (let same : Storage groups ∷ more ≡ [] = sym is ∙ e in cc)
none_fit (block_node b more j used i is h a c f) e =
    absurd (let same : Block b ∷ more ≡ [] = sym is ∙ e in cc)
none_fit (cond_node x first second more n1 n2 n3 l1 l2 l3 is h a c f f2 f3) e =
    absurd (let same : Cond x first second ∷ more ≡ [] = sym is ∙ e in cc)

-- ---- what follows

pub record After (ts : List Token) : Type 0 where
  pub ended : passes is_line_end (head ts) ≡ false
  pub quoted : passes is_quoted (head ts) ≡ false
  pub else_ : passes (is_named ELSE) (head ts) ≡ false

-- no node
pub record Stop (ts : List Token) : Type 0 where
  pub node : passes is_node (head ts) ≡ false
  pub after : After ts

pub stop_end : Stop []
stop_end = record { node = refl; after = record { ended = refl; quoted = refl; else_ = refl } }

stop_close : (ts : List Token) → Stop (sign 125 ∷ ts)
stop_close ts = record { node = refl; after = record { ended = refl; quoted = refl; else_ = refl } }

pub after_nodes : (ns : List Node) (rest : List Token) → After rest
    → After (printed.nodes ns ++ rest)
after_nodes [] rest a = a
after_nodes (Storage groups ∷ ns) rest a = record { ended = refl; quoted = refl; else_ = refl }
after_nodes (Cond' e shape one shape2 two ∷ ns) rest a =
    record { ended = refl; quoted = refl; else_ = refl }
after_nodes (Block b ∷ ns) rest a = record { ended = refl; quoted = refl; else_ = refl }

-- ---- each node

storage_read : (depth : ℕ) (s : Read) (groups : List (Ref × Option ℕ)) (rest : List Token)
    → 0 < s.nodes → AllByRecursion StoreFits groups → passes is_line_end (head rest) ≡ false
    → (node (body depth) s).reads
    (word STORAGE ∷ sign 58 ∷ (printed.stores groups ++ line_end ∷ rest))
    ≡ Ok (
      record { nodes = s.nodes - 1; lines = s.lines; tree = s.tree ++ Storage groups ∷ [] },
      rest,
    )
storage_read depth s groups rest some h e =
    let full = not_full s.nodes some in
    let read = stores_again groups rest h in
    rw (
      full,
      no_skip (sign 58 ∷ (printed.stores groups ++ line_end ∷ rest)) refl,
      read,
      no_skip rest e,
    ) refl

block_read : (depth : ℕ) (s : Read) (b : BlockOf) (used : ℕ) (rest : List Token) → 0 < s.nodes
    → BlockFits b used → used ≤ s.lines → After rest
    → (node (body depth) s).reads (flat b rest)
    ≡ Ok (
      record { nodes = s.nodes - 1; lines = s.lines - used; tree = s.tree ++ Block b ∷ [] },
      rest,
    )
block_read depth s b used rest some f h a =
    let full = not_full s.nodes some in
    let read = block_again b used s.lines rest f h a.ended a.quoted in
    rw (full, read) refl

a_close : AfterExpr (Some (sign 41))
a_close = (refl, (refl, (refl, (refl, (refl, (refl, refl, refl))))))

expr_written : (e : Expr) → ExprFits e → Written (expr_tokens e)
expr_written e f = tokens_written {W = IsName} (λ n w. w.1) f.0

condition_again : (e : Expr) (rest : List Token) → ExprFits e
    → passes is_line_end (head rest) ≡ false
    → (condition false).reads (word (codes "if") ∷ sign 40 ∷ (expr_tokens e ++ sign 41 ∷ rest))
    ≡ Ok (e, rest)
condition_again e rest f h =
    let more : List Token = expr_tokens e ++ sign 41 ∷ rest in
    let starts = written_starts (expr_tokens e) (sign 41 ∷ rest) (expr_written e f) refl in
    let read : expression.reads more ≡ Ok (e, sign 41 ∷ rest) =
    expression_again {W = IsName} (λ n w. w.0) e f (sign 41 ∷ rest) a_close in
    rw (no_skip (sign 40 ∷ more) refl, no_skip more starts, read, no_skip rest h) refl

abbrev read_of : ℕ → ℕ → List Node → Read
read_of nodes lines ns = record { nodes = nodes; lines = lines; tree = ns }

opens : (depth nodes lines : ℕ) (ts : List Token)
    → (body (suc depth) nodes lines).reads (sign 123 ∷ ts)
    ≡ (braced (body depth) nodes lines).reads (sign 123 ∷ ts)
unfolding body
opens depth nodes lines ts = refl

-- a body in braces, whose nodes are read again
body_again : (depth nodes lines n l : ℕ) (ns : List Node) (rest : List Token)
    → (loop is_node (node (body depth)) (nobody nodes lines)).reads
    (printed.nodes ns ++ sign 125 ∷ line_end ∷ rest)
    ≡ Ok (read_of (nodes - n) (lines - l) ns, sign 125 ∷ line_end ∷ rest)
    → passes is_line_end (head rest) ≡ false
    → (body (suc depth) nodes lines).reads
    (sign 123 ∷ line_end ∷ (printed.nodes ns ++ sign 125 ∷ line_end ∷ rest))
    ≡ Ok (read_of (nodes - n) (lines - l) ns, rest)
body_again depth nodes lines n l ns rest inner e =
    let more : List Token = printed.nodes ns ++ sign 125 ∷ line_end ∷ rest in
    let starts =
    (after_nodes ns (sign 125 ∷ line_end ∷ rest) (stop_close (line_end ∷ rest)).after).ended in
    let whole : (braced (body depth) nodes lines).reads (sign 123 ∷ line_end ∷ more)
    ≡ Ok (read_of (nodes - n) (lines - l) ns, rest) =
    rw (one_skip more starts, inner, one_skip rest e) refl in
    opens depth nodes lines (line_end ∷ more) ∙ whole

abbrev else_tokens : List Node → List Token → List Token
else_tokens [] rest = rest
else_tokens (n ∷ ns) rest =
    word (codes "else") ∷ sign 123 ∷ line_end
    ∷ (printed.nodes (n ∷ ns) ++ sign 125 ∷ line_end ∷ rest)

else_parts : (ns : List Node) (rest : List Token)
    → printed.otherwise_nodes ns ++ rest ≡ else_tokens ns rest
else_parts [] rest = refl
else_parts (n ∷ ns) rest =
    ap (λ (ts : List Token). word (codes "else") ∷ sign 123 ∷ line_end ∷ ts)
    (append_assoc (printed.nodes (n ∷ ns)) (sign 125 ∷ line_end ∷ []) rest)

otherwise_again : (depth nodes lines n l : ℕ) (ns : List Node) (rest : List Token)
    → NodesFit depth n l ns
    → (loop is_node (node (body depth)) (nobody nodes lines)).reads
    (printed.nodes ns ++ sign 125 ∷ line_end ∷ rest)
    ≡ Ok (read_of (nodes - n) (lines - l) ns, sign 125 ∷ line_end ∷ rest) → After rest
    → (otherwise (body (suc depth)) nodes lines).reads (else_tokens ns rest)
    ≡ Ok (read_of (nodes - n) (lines - l) ns, rest)
otherwise_again depth nodes lines n l [] rest f inner a =
    let none = none_fit f refl in
    let stop = a.else_ in
    let read : (otherwise (body (suc depth)) nodes lines).reads rest
    ≡ Ok (read_of nodes lines [], rest) = rw stop refl in
    let n_none = none.0 in
    let l_none = none.1 in
    read ∙ ap (λ (i : ℕ). Ok (read_of i lines [], rest)) (omega (arith, n_none))
    ∙ ap (λ (i : ℕ). Ok (read_of (nodes - n) i [], rest)) (omega (arith, l_none))
otherwise_again depth nodes lines n l (x ∷ ns) rest f inner a =
    let more : List Token = printed.nodes (x ∷ ns) ++ sign 125 ∷ line_end ∷ rest in
    let read = body_again depth nodes lines n l (x ∷ ns) rest inner a.ended in
    rw (no_skip (sign 123 ∷ line_end ∷ more) refl, read) refl

-- a condition's tokens, and then
abbrev cond_flat : Expr → List Node → List Node → List Token → List Token
cond_flat e first second rest =
    word (codes "if") ∷ sign 40
    ∷ (expr_tokens e ++ sign 41 ∷ sign 123 ∷ line_end
    ∷ (printed.nodes first ++ sign 125 ∷ line_end ∷ else_tokens second rest))

cond_parts : (e : Expr) (first second : List Node) (rest : List Token)
    → printed.node (Cond e first second) ++ rest ≡ cond_flat e first second rest
cond_parts e first second rest =
    ap (λ (ts : List Token). ts ++ rest) (cond_tokens e first second)
    ∙ parts (word (codes "if") ∷ sign 40 ∷ expr_tokens e)
    (sign 41 ∷ sign 123 ∷ line_end ∷ printed.nodes first)
    (sign 125 ∷ line_end ∷ printed.otherwise_nodes second) rest
    ∙ ap (λ (ts : List Token). word (codes "if") ∷ sign 40
    ∷ (expr_tokens e ++ sign 41 ∷ sign 123 ∷ line_end
    ∷ (printed.nodes first ++ sign 125 ∷ line_end ∷ ts))) (else_parts second rest)
  where
    parts : (a b c ts : List Token) → ((a ++ b) ++ c) ++ ts ≡ a ++ (b ++ (c ++ ts))
    parts a b c ts = simp append_assoc

after_else : (ns : List Node) (rest : List Token) → passes is_line_end (head rest) ≡ false
    → passes is_line_end (head (else_tokens ns rest)) ≡ false
after_else [] rest e = e
after_else (n ∷ ns) rest e = refl

cond_read : (depth : ℕ) (s : Read) (e : Expr) (first second : List Node) (n1 n2 l1 l2 : ℕ)
    (rest : List Token) → 0 < s.nodes → ExprFits e → NodesFit depth n2 l2 second
    → (loop is_node (node (body depth)) (nobody (s.nodes - 1) s.lines)).reads
    (printed.nodes first ++ sign 125 ∷ line_end ∷ else_tokens second rest)
    ≡ Ok (
      read_of (s.nodes - 1 - n1) (s.lines - l1) first,
      sign 125 ∷ line_end ∷ else_tokens second rest,
    )
    → (loop is_node (node (body depth)) (nobody (s.nodes - 1 - n1) (s.lines - l1))).reads
    (printed.nodes second ++ sign 125 ∷ line_end ∷ rest)
    ≡ Ok (
      read_of (s.nodes - 1 - n1 - n2) (s.lines - l1 - l2) second,
      sign 125 ∷ line_end ∷ rest,
    )
    → After rest
    → (node (body (suc depth)) s).reads (cond_flat e first second rest)
    ≡ Ok (
      read_of (s.nodes - 1 - n1 - n2) (s.lines - l1 - l2)
          (s.tree ++ Cond e first second ∷ []),
      rest,
    )
cond_read depth s e first second n1 n2 l1 l2 rest some f g one two a =
    let full = not_full s.nodes some in
    let behind : List Token =
    sign 123 ∷ line_end ∷ (printed.nodes first ++ sign 125 ∷ line_end ∷ else_tokens second rest)
    in
    let test = condition_again e behind f refl in
    let yes_ = body_again depth (s.nodes - 1) s.lines n1 l1 first (else_tokens second rest) one
    (after_else second rest a.ended) in
    let no_ = otherwise_again depth (s.nodes - 1 - n1) (s.lines - l1) n2 l2 second rest g two a in
    rw (full, test, yes_, no_) refl

-- ---- all of them

abbrev behind_nodes : Read → ℕ → ℕ → List Node → Read
behind_nodes s n l ns = record { nodes = s.nodes - n; lines = s.lines - l; tree = s.tree ++ ns }

-- what all nodes of a list do
abbrev Reads : ℕ → ℕ → ℕ → List Node → Type 0
Reads depth n l ns = (s : Read) (rest : List Token) → n ≤ s.nodes → l ≤ s.lines → Stop rest
    → (loop is_node (node (body depth)) s).reads (printed.nodes ns ++ rest)
    ≡ Ok (behind_nodes s n l ns, rest)

more_read : (depth : ℕ) (x : Node) (more : List Node) (s t : Read) (n l k j : ℕ)
    (flat_ rest : List Token) → printed.node x ++ (printed.nodes more ++ rest) ≡ flat_
    → passes is_node (head flat_) ≡ true
    → (node (body depth) s).reads flat_ ≡ Ok (t, printed.nodes more ++ rest)
    → t.tree ≡ s.tree ++ x ∷ [] → t.nodes - k ≡ s.nodes - n → t.lines - j ≡ s.lines - l
    → Reads depth k j more → k ≤ t.nodes → j ≤ t.lines → Stop rest
    → (loop is_node (node (body depth)) s).reads (printed.nodes (x ∷ more) ++ rest)
    ≡ Ok (behind_nodes s n l (x ∷ more), rest)
more_read depth x more s t n l k j flat_ rest parts goes one tree nodes lines ih a b stop =
    ap (loop is_node (node (body depth)) s).reads
    (append_assoc (printed.node x) (printed.nodes more) rest ∙ parts)
    ∙ loop_step is_node (node (body depth)) (node_short depth) s t flat_
    (printed.nodes more ++ rest) goes one
    ∙ ih t rest a b stop
    ∙ ap (λ (i : ℕ). Ok (record { nodes = i; lines = t.lines - j; tree = t.tree ++ more }, rest))
    nodes
    ∙ ap (λ (i : ℕ). Ok (record { nodes = s.nodes - n; lines = i; tree = t.tree ++ more }, rest))
    lines
    ∙ ap (λ (xs : List Node).
    Ok (record { nodes = s.nodes - n; lines = s.lines - l; tree = xs }, rest))
    (ap (λ (xs : List Node). xs ++ more) tree ∙ append_assoc s.tree (x ∷ []) more)

storage_flat : (groups : List (Ref × Option ℕ)) (ts : List Token)
    → printed.node (Storage groups) ++ ts
    ≡ word STORAGE ∷ sign 58 ∷ (printed.stores groups ++ line_end ∷ ts)
storage_flat groups ts =
    ap (λ (us : List Token). word STORAGE ∷ sign 58 ∷ us)
    (append_assoc (printed.stores groups) (line_end ∷ []) ts)

pub nodes_again : {depth n l : ℕ} {ns : List Node} → NodesFit depth n l ns → Reads depth n l ns
nodes_again {depth} {n} {l} (no_nodes is a b) =
    subst (Reads depth n l) (sym is) (λ s rest h k stop.
    loop_stop is_node (node (body depth)) (node_short depth) s rest stop.node
    ∙ ap (λ (i : ℕ). Ok (record { nodes = i; lines = s.lines; tree = s.tree }, rest))
    (omega (arith, a))
    ∙ ap (λ (i : ℕ). Ok (record { nodes = s.nodes - n; lines = i; tree = s.tree }, rest))
    (omega (arith, b))
    ∙ ap (λ (xs : List Node).
    Ok (record { nodes = s.nodes - n; lines = s.lines - l; tree = xs }, rest))
    (sym (append-nil s.tree)))
nodes_again {depth} {n} {l} (storage_node groups more j is f a g) =
    subst (Reads depth n l) (sym is) (λ s rest h k stop.
    let next = after_nodes more rest stop.after in
    let some : 0 < s.nodes = omega (arith, h, a) in
    let t : Read = record {
      nodes = s.nodes - 1;
      lines = s.lines;
      tree = s.tree ++ Storage groups ∷ [];
    } in
    more_read depth (Storage groups) more s t n l j l
    (word STORAGE ∷ sign 58
    ∷ (printed.stores groups ++ line_end ∷ (printed.nodes more ++ rest))) rest
    (storage_flat groups (printed.nodes more ++ rest)) refl
    (storage_read depth s groups (printed.nodes more ++ rest) some f next.ended) refl
    (omega (arith, a)) refl (nodes_again g) (omega (arith, h, a)) k stop)
nodes_again {depth} {n} {l} (block_node b more j used i is f a c g) =
    subst (Reads depth n l) (sym is) (λ s rest h k stop.
    let next = after_nodes more rest stop.after in
    let some : 0 < s.nodes = omega (arith, h, a) in
    let t : Read = record {
      nodes = s.nodes - 1;
      lines = s.lines - used;
      tree = s.tree ++ Block b ∷ [];
    } in
    more_read depth (Block b) more s t n l j i (flat b (printed.nodes more ++ rest)) rest
    (block_tokens b (printed.nodes more ++ rest)) refl
    (block_read depth s b used (printed.nodes more ++ rest) some f (omega (arith, k, c)) next) refl
    (omega (arith, a)) (omega (arith, c)) (nodes_again g) (omega (arith, h, a))
    (omega (arith, k, c)) stop)
nodes_again {depth = suc depth} {n} {l}
    (cond_node e first second more n1 n2 n3 l1 l2 l3 is f a c g1 g2 g3) =
    subst (Reads (suc depth) n l) (sym is) (λ s rest h k stop.
    let behind : List Token = printed.nodes more ++ rest in
    let next = after_nodes more rest stop.after in
    let some : 0 < s.nodes = omega (arith, h, a) in
    let one = nodes_again g1 (nobody (s.nodes - 1) s.lines)
    (sign 125 ∷ line_end ∷ else_tokens second behind) (omega (arith, h, a))
    (omega (arith, k, c)) (stop_close _) in
    let two = nodes_again g2 (nobody (s.nodes - 1 - n1) (s.lines - l1))
    (sign 125 ∷ line_end ∷ behind) (omega (arith, h, a)) (omega (arith, k, c)) (stop_close _) in
    let t : Read = read_of (s.nodes - 1 - n1 - n2) (s.lines - l1 - l2)
    (s.tree ++ Cond e first second ∷ []) in
    more_read (suc depth) (Cond e first second) more s t n l n3 l3 (cond_flat e first second behind)
    rest (cond_parts e first second behind) refl
    (cond_read depth s e first second n1 n2 l1 l2 behind some f g2 one two next) refl
    (omega (arith, a)) (omega (arith, c)) (nodes_again g3) (omega (arith, h, a))
    (omega (arith, k, c)) stop)

-- ---- the printed tokens

-- whole lines
pub record Lined (ts : List Token) : Type 0 where
  pub printable : (us : List Token) → AllPrintable Ccl us → AllPrintable Ccl (ts ++ us)
  pub ended : (us : List Token) → WellEnded true us → WellEnded true (ts ++ us)
  pub same : (us : List Token) → AllByRecursion (λ t. kept t ≡ t) us
      → AllByRecursion (λ t. kept t ≡ t) (ts ++ us)

no_line : Lined []
no_line = record { printable = λ us h. h; ended = λ us h. h; same = λ us h. h }

lined_joined : (ts us : List Token) → Lined ts → Lined us → Lined (ts ++ us)
lined_joined ts us a b = record {
  printable = λ vs h. subst (AllPrintable Ccl) (sym (append_assoc ts us vs))
      (a.printable (us ++ vs) (b.printable vs h));
  ended = λ vs h. subst (WellEnded true) (sym (append_assoc ts us vs))
      (a.ended (us ++ vs) (b.ended vs h));
  same = λ vs h. subst (AllByRecursion (λ (t : Token). kept t ≡ t)) (sym (append_assoc ts us vs))
      (a.same (us ++ vs) (b.same vs h));
}

line_printable : (ts us : List Token) → Written ts → AllPrintable Ccl us
    → AllPrintable Ccl (ts ++ line_end ∷ us)
line_printable [] us h a = (printable_end Ccl 0, a)
line_printable (t ∷ ts) us h a = (h.0.0, line_printable ts us h.1 a)

line_ended : (ts us : List Token) → Written ts → WellEnded true us
    → WellEnded false (ts ++ line_end ∷ us)
line_ended [] us h a = (refl, a)
line_ended (t ∷ ts) us h a = (
  rw h.0.1 refl,
  subst (λ (b : Bool). WellEnded b (ts ++ line_end ∷ us)) (sym h.0.1)
      (line_ended ts us h.1 a),
)

line_same : (ts us : List Token) → Written ts → AllByRecursion (λ t. kept t ≡ t) us
    → AllByRecursion (λ t. kept t ≡ t) (ts ++ line_end ∷ us)
line_same [] us h a = (refl, a)
line_same (t ∷ ts) us h a = (h.0.2, line_same ts us h.1 a)

-- a line that isn't empty
a_line : (t : Token) (ts : List Token) → Written (t ∷ ts) → Lined ((t ∷ ts) ++ line_end ∷ [])
a_line t ts h = record {
  printable = λ us a. subst (AllPrintable Ccl) (sym (append_assoc (t ∷ ts) (line_end ∷ []) us))
      (line_printable (t ∷ ts) us h a);
  ended = λ us a. subst (WellEnded true) (sym (append_assoc (t ∷ ts) (line_end ∷ []) us)) (
    rw h.0.1 refl,
    subst (λ (b : Bool). WellEnded b (ts ++ line_end ∷ us)) (sym h.0.1)
        (line_ended ts us h.1 a),
  );
  same = λ us a. subst (AllByRecursion (λ (x : Token). kept x ≡ x))
      (sym (append_assoc (t ∷ ts) (line_end ∷ []) us)) (line_same (t ∷ ts) us h a);
}

close_line : Lined (sign 125 ∷ line_end ∷ [])
close_line = a_line (sign 125) [] (a_sign 125 (λ f. refl), tt)

else_lined : (ns : List Node) → Lined (printed.nodes ns) → Lined (printed.otherwise_nodes ns)
else_lined [] h = no_line
else_lined (n ∷ ns) h =
    lined_joined (word (codes "else") ∷ sign 123 ∷ line_end ∷ printed.nodes (n ∷ ns))
    (sign 125 ∷ line_end ∷ [])
    (lined_joined (word (codes "else") ∷ sign 123 ∷ line_end ∷ []) (printed.nodes (n ∷ ns))
    (a_line (word (codes "else")) (sign 123 ∷ []) (an_else, (a_sign 123 (λ f. refl), tt))) h)
    close_line

cond_lined : (e : Expr) (first second : List Node) → ExprFits e → Lined (printed.nodes first)
    → Lined (printed.nodes second) → Lined (printed.node (Cond e first second))
cond_lined e first second f a b =
    let test : List Token =
    word (codes "if") ∷ sign 40 ∷ (expr_tokens e ++ sign 41 ∷ sign 123 ∷ []) in
    let begin : Written test = (
      a_condition,
      (
        a_sign 40 (λ g. refl),
        each-append IsWritten (expr_tokens e) (sign 41 ∷ sign 123 ∷ []) (expr_written e f)
            (a_sign 41 (λ g. refl), (a_sign 123 (λ g. refl), tt)),
      ),
    ) in
    let whole = lined_joined (test ++ line_end ∷ [])
    (printed.nodes first ++ (sign 125 ∷ line_end ∷ printed.otherwise_nodes second))
    (a_line (word (codes "if")) (sign 40 ∷ (expr_tokens e ++ sign 41 ∷ sign 123 ∷ [])) begin)
    (lined_joined (printed.nodes first) (sign 125 ∷ line_end ∷ printed.otherwise_nodes second) a
    (lined_joined (sign 125 ∷ line_end ∷ []) (printed.otherwise_nodes second) close_line
    (else_lined second b))) in
    let parts : (test ++ line_end ∷ [])
    ++ (printed.nodes first ++ (sign 125 ∷ line_end ∷ printed.otherwise_nodes second))
    ≡ printed.node (Cond e first second) =
    ap (λ (ts : List Token). word (codes "if") ∷ sign 40 ∷ ts)
    (three (expr_tokens e) (sign 41 ∷ sign 123 ∷ []) (line_end ∷ []) (printed.nodes first)
    (sign 125 ∷ line_end ∷ printed.otherwise_nodes second))
    ∙ sym (cond_tokens e first second) in
    subst Lined parts whole
  where
    three : (x a b c d : List Token) → ((x ++ a) ++ b) ++ (c ++ d) ≡ (x ++ (a ++ (b ++ c))) ++ d
    three x a b c d = simp append_assoc

pub nodes_lined : {depth n l : ℕ} {ns : List Node} → NodesFit depth n l ns
    → Lined (printed.nodes ns)
nodes_lined (no_nodes is a b) =
    subst (λ (xs : List Node). Lined (printed.nodes xs)) (sym is) no_line
nodes_lined (storage_node groups more j is f a g) =
    subst (λ (xs : List Node). Lined (printed.nodes xs)) (sym is)
    (lined_joined (printed.node (Storage groups)) (printed.nodes more)
    (a_line (word STORAGE) (sign 58 ∷ printed.stores groups)
    (a_storage, (a_sign 58 (λ h. refl), stores_written groups f))) (nodes_lined g))
nodes_lined (block_node b more j used i is f a c g) =
    subst (λ (xs : List Node). Lined (printed.nodes xs)) (sym is)
    (lined_joined (printed.node (Block b)) (printed.nodes more)
    (let w = block_written b used f in a_line _ _ w) (nodes_lined g))
nodes_lined (cond_node e first second more n1 n2 n3 l1 l2 l3 is f a c g1 g2 g3) =
    subst (λ (xs : List Node). Lined (printed.nodes xs)) (sym is)
    (lined_joined (printed.node (Cond e first second)) (printed.nodes more)
    (cond_lined e first second f (nodes_lined g1) (nodes_lined g2)) (nodes_lined g3))
