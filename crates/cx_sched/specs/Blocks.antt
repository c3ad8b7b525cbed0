-- Blocks: routines and groups of routines.
use Rattle.std.specs.Prelude.{ℕ, Bool, true, false, cond, is_some, ◌||◌, List, [], ◌∷◌, ◌++◌, Option, Some, None}
use Rattle.cx_text.specs.declared.token.Token.{Token}
use Rattle.cx_text.specs.Tokens.{is_word}
use Rattle.cx_text.specs.Rules.{Rule, nothing, ◌>>=◌, choice, loop, unmarked, is_sign, is_named, lexeme, keyword, sign, name}
use Rattle.cx_text.specs.Lexemes.{once, counted_keyword, same_name, is_quoted, quoted, listed}
use Rattle.cx_sched.specs.declared.tree.Spot.{Spot}
use Rattle.cx_sched.specs.declared.tree.Spot.TheVariants.{At, Inside}
use Rattle.cx_sched.specs.declared.tree.Block.{Block}
use Rattle.cx_sched.specs.declared.block.Head.{Head}
use Rattle.cx_sched.specs.declared.block.Clauses.{Clauses}
use Rattle.cx_sched.specs.declared.block.Made.{Made}
use Rattle.cx_sched.specs.declared.lines.Lines.{Lines}
use Rattle.cx_sched.specs.Words.{SCHEDULE, GROUP, AT, IN, AS, IF, WHILE, BEFORE, AFTER}
use Rattle.cx_sched.specs.Refs.{reference}
use Rattle.cx_sched.specs.Lines.{lines}

-- ---- the head

abbrev pub is_way : Token → Bool
is_way t = is_named AT t || is_named IN t

abbrev pub way_of : Token → Option (List ℕ)
way_of t = cond (is_way t) (Some t.text) None

-- AT | IN
abbrev pub way : Rule (List ℕ)
way = lexeme way_of unmarked

abbrev pub is_way_name : List ℕ → Bool
is_way_name n = same_name n AT || same_name n IN

abbrev pub spot : List ℕ → List ℕ → Spot
spot w p = cond (same_name w AT) (At p) (Inside p)

-- (AT | IN) Word, behind a name
abbrev pub placed : Bool → List ℕ → Rule Head
placed group n = do
  w ← way
  p ← name
  nothing (record { group = group; name = n; spot = spot w p })

-- Word, behind GROUP as a name and AT or IN
abbrev pub place : List ℕ → List ℕ → Rule Head
place g w = do
  p ← name
  nothing (record { group = false; name = g; spot = spot w p })

-- Word, behind the keyword GROUP, a name and AT or IN
abbrev pub group_place : List ℕ → List ℕ → Rule Head
group_place n w = do
  p ← name
  nothing (record { group = true; name = n; spot = spot w p })

-- behind GROUP, AT or IN, and AT or IN again: the first of both is a name where a Word follows,
-- else the second is one
abbrev pub either : List ℕ → List ℕ → Rule Head
either g n = do
  w ← way
  choice is_word (group_place n w) (nothing (record { group = false; name = g; spot = spot n w }))

abbrev pub behind_group : Bool → List ℕ → List ℕ → Rule Head
behind_group true g n = choice is_way (either g n) (place g n)
behind_group false g n = placed true n

abbrev pub behind_name : Bool → List ℕ → Rule Head
behind_name true g = do
  n ← name
  behind_group (is_way_name n) g n
behind_name false n = placed false n

-- [ GROUP ] Word (AT | IN) Word: GROUP is the keyword where the head can then be read, else the
-- name
abbrev pub head : Rule Head
head = do
  n ← name
  behind_name (same_name n GROUP) n

-- ---- clauses

abbrev pub no_clauses : Clauses
no_clauses = record { alias = None; test = None; turn = None; before = []; after = [] }

-- "(" Word { [","] Word } ")"
abbrev pub names_in_parens : List (List ℕ) → Rule (List (List ℕ))
names_in_parens ns = do
  u ← sign 40
  ms ← listed ns
  v ← sign 41
  nothing ms

-- Word
abbrev pub one_name : List (List ℕ) → Rule (List (List ℕ))
one_name ns = do
  n ← name
  nothing (ns ++ n ∷ [])

-- list = Word | "(" Word { [","] Word } ")"
abbrev pub name_list : List (List ℕ) → Rule (List (List ℕ))
name_list ns = choice (is_sign 40) (names_in_parens ns) (one_name ns)

-- AS Word
abbrev pub alias : Clauses → Rule Clauses
alias c = do
  u ← once AS (is_some c.alias)
  n ← name
  nothing (record c { alias = Some n })

-- IF ref
abbrev pub tested : Clauses → Rule Clauses
tested c = do
  u ← once IF (is_some c.test)
  r ← reference
  nothing (record c { test = Some r })

-- WHILE ref
abbrev pub turning : Clauses → Rule Clauses
turning c = do
  u ← once WHILE (is_some c.turn)
  r ← reference
  nothing (record c { turn = Some r })

-- BEFORE list
abbrev pub before : Clauses → Rule Clauses
before c = do
  u ← keyword BEFORE
  ns ← name_list c.before
  nothing (record c { before = ns })

-- AFTER list
abbrev pub after : Clauses → Rule Clauses
after c = do
  u ← keyword AFTER
  ns ← name_list c.after
  nothing (record c { after = ns })

abbrev pub is_clause : Token → Bool
is_clause t = is_named AS t || is_named IF t || is_named WHILE t || is_named BEFORE t
    || is_named AFTER t

-- clause = AS Word | IF ref | WHILE ref | BEFORE list | AFTER list
abbrev pub clause : Clauses → Rule Clauses
clause c = choice (is_named AS) (alias c)
    (choice (is_named IF) (tested c)
    (choice (is_named WHILE) (turning c) (choice (is_named BEFORE) (before c) (after c))))

-- ---- blocks

abbrev pub block_of : Head → Clauses → Lines → List ℕ → Block
block_of h c l text = record {
  group = h.group;
  name = h.name;
  spot = h.spot;
  alias = c.alias;
  test = c.test;
  turn = c.turn;
  before = c.before;
  after = c.after;
  storage = l.storage;
  sync = l.sync;
  reads = l.reads;
  writes = l.writes;
  rest = l.rest;
  text = text;
}

-- [ Quoted ], behind all that stands before it
abbrev pub behind_lines : Head → Clauses → Lines → Rule Made
behind_lines h c l = do
  t ← choice is_quoted quoted (nothing [])
  nothing (record { lines = l.left; block = block_of h c l t })

-- "{" { line } "}" [ Quoted ], behind a head and its clauses, where so many lines may stand
abbrev pub behind_clauses : Head → ℕ → Clauses → Rule Made
behind_clauses h left c = do
  l ← lines left
  behind_lines h c l

-- { clause } "{" { line } "}" [ Quoted ], behind a head
abbrev pub behind_head : Head → ℕ → Rule Made
behind_head h left = do
  c ← loop is_clause clause no_clauses
  behind_clauses h left c

-- block = schedule [ GROUP ] Word (AT | IN) Word { clause } "{" { line } "}" [ Quoted ]
abbrev pub block : Bool → ℕ → Rule Made
block full left = do
  u ← counted_keyword SCHEDULE full
  h ← head
  behind_head h left
