-- The nodes of a schedule file, at most so many, and bodies of nodes, at most so many within one
-- another.
use Rattle.std.specs.Prelude.{ℕ, zero, suc, ◌-◌, Bool, ◌||◌, nat_eq, [], ◌∷◌, ◌++◌}
use Rattle.cx_text.specs.declared.token.Token.{Token}
use Rattle.cx_text.specs.Rules.{Rule, nothing, ◌>>=◌, choice, loop, is_sign, is_named, line_ends, keyword, sign, sign_here, line_end}
use Rattle.cx_text.specs.Lexemes.{beyond, counted_keyword}
use Rattle.cx_expr.specs.declared.tree.Expr.{Expr}
use Rattle.cx_expr.specs.Exprs.{expression}
use Rattle.cx_sched.specs.declared.tree.Node.{Storage, Cond, Block}
use Rattle.cx_sched.specs.declared.tree.ScheduleFile.{ScheduleFile}
use Rattle.cx_sched.specs.declared.node.Read.{Read}
use Rattle.cx_sched.specs.Words.{STORAGE, IF, ELSE, SCHEDULE}
use Rattle.cx_sched.specs.Refs.{stores}
use Rattle.cx_sched.specs.Blocks.{block}

-- nothing is read yet, and so many nodes and lines of blocks may stand
abbrev pub nobody : ℕ → ℕ → Read
nobody nodes lines = record { nodes = nodes; lines = lines; tree = [] }

abbrev pub is_node : Token → Bool
is_node t = is_named STORAGE t || is_named IF t || is_named SCHEDULE t

abbrev pub is_body : Token → Bool
is_body t = is_sign 123 t || is_node t

-- STORAGE ":" stores LineEnd
abbrev pub storage : Read → Rule Read
storage s = do
  u ← counted_keyword STORAGE (nat_eq s.nodes 0)
  v ← sign_here 58
  rs ← stores
  w ← line_end
  nothing (record s { nodes = s.nodes - 1; tree = s.tree ++ Storage rs ∷ [] })

-- a block
abbrev pub blocked : Read → Rule Read
blocked s = do
  m ← block (nat_eq s.nodes 0) s.lines
  nothing (record { nodes = s.nodes - 1; lines = m.lines; tree = s.tree ++ Block m.block ∷ [] })

-- [ else body ]
abbrev pub otherwise : (ℕ → ℕ → Rule Read) → ℕ → ℕ → Rule Read
otherwise body nodes lines =
    choice (is_named ELSE) (keyword ELSE >>= λ u. body nodes lines) (nothing (nobody nodes lines))

-- if "(" expr ")", which is marked where as many nodes as may stand are there already
abbrev pub condition : Bool → Rule Expr
condition full = do
  u ← counted_keyword IF full
  v ← sign 40
  e ← expression
  w ← sign 41
  nothing e

-- if "(" expr ")" body [ else body ]
abbrev pub conditional : (ℕ → ℕ → Rule Read) → Read → Rule Read
conditional body s = do
  e ← condition (nat_eq s.nodes 0)
  y ← body (s.nodes - 1) s.lines
  n ← otherwise body y.nodes y.lines
  nothing (record { nodes = n.nodes; lines = n.lines; tree = s.tree ++ Cond e y.tree n.tree ∷ [] })

-- node = STORAGE ":" stores LineEnd | if "(" expr ")" body [ else body ] | block, behind others
abbrev pub node : (ℕ → ℕ → Rule Read) → Read → Rule Read
node body s = choice (is_named STORAGE) (storage s)
    (choice (is_named IF) (conditional body s) (blocked s))

-- "{" { node } "}"
abbrev pub braced : (ℕ → ℕ → Rule Read) → ℕ → ℕ → Rule Read
braced body nodes lines = do
  u ← sign 123
  s ← loop is_node (node body) (nobody nodes lines)
  v ← sign 125
  nothing s

-- body = "{" { node } "}" | node, where so many bodies may still stand within one another
unfoldable pub body : ℕ → ℕ → ℕ → Rule Read
body zero nodes lines = beyond is_body (nobody nodes lines)
body (suc depth) nodes lines =
    choice (is_sign 123) (braced (body depth) nodes lines) (node (body depth) (nobody nodes lines))

-- file = { node }
abbrev pub schedule : Rule ScheduleFile
schedule = do
  u ← line_ends
  s ← loop is_node (node (body 32)) (nobody 4096 4096)
  nothing (record { items = s.tree })
