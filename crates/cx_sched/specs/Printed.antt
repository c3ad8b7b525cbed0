-- Schedule files as tokens. Each node stands on lines of its own, and each body in braces.
use Rattle.std.specs.Prelude.{ℕ, Bool, true, false, List, [], ◌∷◌, ◌++◌, codes, Option, Some, None}
use Rattle.std.specs.Fmt.{decimal}
use Rattle.cx_plan.specs.declared.item.Region.{Region}
use Rattle.cx_plan.specs.Names.{region_text}
use Rattle.cx_text.specs.declared.token.Token.{Token}
use Rattle.cx_text.specs.Written.{word, words, quoted, sign, sign_pair, line_end}
use Rattle.cx_text.specs.Written as written
use Rattle.cx_expr.specs.Printed.{expr_tokens}
use Rattle.cx_sched.specs.declared.tree.Ref.{Ref}
use Rattle.cx_sched.specs.declared.tree.Spot.{Spot}
use Rattle.cx_sched.specs.declared.tree.Spot.TheVariants.{At, Inside}
use Rattle.cx_sched.specs.declared.tree.Block.{Block as BlockOf}
use Rattle.cx_sched.specs.declared.tree.Node.{Node, Storage, Cond', Block, Row_of-Node, end_of-Node, more_of-Node}
use Rattle.cx_sched.specs.declared.tree.ScheduleFile.{ScheduleFile}
use Rattle.cx_sched.specs.Words.{STORAGE, GROUP, AT, IN, AS, IF, WHILE, BEFORE, AFTER}

-- ---- names of variables and groups

-- Word [ "::" Word ]
abbrev pub ref_from : Option (List ℕ) → List ℕ → List Token
ref_from None name = word name ∷ []
ref_from (Some owner) name = word owner ∷ sign_pair 58 58 ∷ word name ∷ []

abbrev pub ref : Ref → List Token
ref r = ref_from r.owner r.name

-- [ "[" Number "]" ]
abbrev pub bracketed : Option ℕ → List Token
bracketed None = []
bracketed (Some k) = sign 91 ∷ written.number (decimal k) ∷ sign 93 ∷ []

abbrev pub store : Ref × Option ℕ → List Token
store s = ref s.0 ++ bracketed s.1

-- with its region
abbrev pub access : Ref × Region → List Token
access t = ref t.0 ++ bracketed t.0.copy ++ sign 40 ∷ word (region_text t.1) ∷ sign 41 ∷ []

abbrev pub stores : List (Ref × Option ℕ) → List Token
stores [] = []
stores (s ∷ ss) = store s ++ stores ss

abbrev pub refs : List Ref → List Token
refs [] = []
refs (r ∷ rs) = ref r ++ refs rs

abbrev pub accesses : List (Ref × Region) → List Token
accesses [] = []
accesses (t ∷ ts) = access t ++ accesses ts

-- ---- the lines of a block: no line that names nothing

abbrev pub storage_line : List (Ref × Option ℕ) → List Token
storage_line [] = []
storage_line (s ∷ ss) = word STORAGE ∷ sign 58 ∷ stores (s ∷ ss)

abbrev pub sync_line : List Ref → List Token
sync_line [] = []
sync_line (r ∷ rs) = word (codes "SYNC") ∷ sign 58 ∷ refs (r ∷ rs)

abbrev pub access_line : List ℕ → List (Ref × Region) → List Token
access_line name [] = []
access_line name (t ∷ ts) = word name ∷ sign 58 ∷ accesses (t ∷ ts)

-- lines without effect stand first, as they are kept
abbrev pub lines : BlockOf → List Token
lines b = b.rest ++ storage_line b.storage ++ sync_line b.sync
    ++ access_line (codes "READS") b.reads ++ access_line (codes "WRITES") b.writes

-- ---- what stands before a block's lines

abbrev pub group_word : Bool → List Token
group_word true = word GROUP ∷ []
group_word false = []

abbrev pub spot : Spot → List Token
spot (At bin) = word AT ∷ word bin ∷ []
spot (Inside group) = word IN ∷ word group ∷ []

abbrev pub heading : BlockOf → List Token
heading b = word (codes "schedule") ∷ group_word b.group ++ word b.name ∷ spot b.spot

abbrev pub alias : Option (List ℕ) → List Token
alias None = []
alias (Some name) = word AS ∷ word name ∷ []

abbrev pub scalar : List ℕ → Option Ref → List Token
scalar name None = []
scalar name (Some r) = word name ∷ ref r

-- names in parentheses
abbrev pub others : List ℕ → List (List ℕ) → List Token
others name [] = []
others name (n ∷ ns) = word name ∷ sign 40 ∷ words (n ∷ ns) ++ sign 41 ∷ []

abbrev pub clauses : BlockOf → List Token
clauses b = alias b.alias ++ scalar IF b.test ++ scalar WHILE b.turn ++ others BEFORE b.before
    ++ others AFTER b.after

-- ---- nodes

-- [ Quoted ]: an empty text doesn't stand
abbrev pub description : List ℕ → List Token
description [] = []
description (c ∷ cs) = quoted (c ∷ cs) ∷ []

abbrev pub block : BlockOf → List Token
block b = heading b ++ clauses b ++ sign 123 ∷ lines b ++ sign 125 ∷ description b.text

abbrev mutual
  pub node : Node → List Token
  node (Storage groups) = word STORAGE ∷ sign 58 ∷ stores groups ++ line_end ∷ []
  node (Cond' e shape body shape2 other) =
      word (codes "if") ∷ sign 40 ∷ expr_tokens e ++ sign 41 ∷ sign 123 ∷ line_end ∷ each body
      ++ sign 125 ∷ line_end ∷ otherwise other
  node (Block b) = block b ++ line_end ∷ []

  -- of the nodes in a list
  pub each : {m : _} → Row_of-Node m → List Token
  each end_of-Node = []
  each (more_of-Node n rest) = node n ++ each rest

  -- no else stands where nothing is in it
  pub otherwise : {m : _} → Row_of-Node m → List Token
  otherwise end_of-Node = []
  otherwise (more_of-Node n rest) =
      word (codes "else") ∷ sign 123 ∷ line_end ∷ (node n ++ each rest) ++ sign 125 ∷ line_end ∷ []

abbrev pub nodes : List Node → List Token
nodes [] = []
nodes (n ∷ ns) = node n ++ nodes ns

-- else, and a body that isn't empty
abbrev pub otherwise_nodes : List Node → List Token
otherwise_nodes [] = []
otherwise_nodes (n ∷ ns) =
    word (codes "else") ∷ sign 123 ∷ line_end ∷ nodes (n ∷ ns) ++ sign 125 ∷ line_end ∷ []

abbrev pub file_tokens : ScheduleFile → List Token
file_tokens file = nodes file.items
