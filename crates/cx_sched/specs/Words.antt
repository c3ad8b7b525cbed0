-- The words of a schedule file, each in any case.
use Rattle.std.specs.Prelude.{ℕ, Bool, cond, ◌||◌, List, Option, Some, None, codes}
use Rattle.cx_plan.specs.declared.item.Region.{Region}
use Rattle.cx_plan.specs.declared.item.Region.TheVariants.{Interior, Boundary, Everywhere}
use Rattle.cx_text.specs.declared.token.Token.{Token}
use Rattle.cx_text.specs.Rules.{is_named}
use Rattle.cx_text.specs.Lexemes.{same_name}
use Rattle.cx_sched.specs.declared.lines.Kind.TheVariants as kinds
use Rattle.cx_sched.specs.declared.lines.Line.{Line}
use Rattle.cx_sched.specs.declared.lines.Line.TheVariants.{Tokens, Names}

-- ---- nodes

abbrev pub IF : List ℕ
IF = codes "IF"

abbrev pub ELSE : List ℕ
ELSE = codes "ELSE"

abbrev pub SCHEDULE : List ℕ
SCHEDULE = codes "SCHEDULE"

abbrev pub STORAGE : List ℕ
STORAGE = codes "STORAGE"

-- ---- the head of a block

abbrev pub GROUP : List ℕ
GROUP = codes "GROUP"

abbrev pub AT : List ℕ
AT = codes "AT"

abbrev pub IN : List ℕ
IN = codes "IN"

abbrev pub AS : List ℕ
AS = codes "AS"

abbrev pub WHILE : List ℕ
WHILE = codes "WHILE"

abbrev pub BEFORE : List ℕ
BEFORE = codes "BEFORE"

abbrev pub AFTER : List ℕ
AFTER = codes "AFTER"

-- ---- the lines of a block

-- a line without effect
abbrev pub is_idle : List ℕ → Bool
is_idle w = same_name w (codes "LANG") || same_name w (codes "OPTIONS")
    || same_name w (codes "TRIGGERS")

-- the line that a word begins
abbrev pub line_of : List ℕ → Option Line
line_of w =
    cond (is_idle w) (Some Tokens)
    (cond (same_name w STORAGE) (Some (Names kinds.Storage))
    (cond (same_name w (codes "SYNC")) (Some (Names kinds.Sync))
    (cond (same_name w (codes "READS")) (Some (Names kinds.Reads))
    (cond (same_name w (codes "WRITES")) (Some (Names kinds.Writes)) None))))

-- the region that a word names
abbrev pub region_of : Token → Option Region
region_of t = cond (is_named (codes "INTERIOR") t) (Some Interior)
    (cond (is_named (codes "BOUNDARY") t) (Some Boundary)
    (cond (is_named (codes "EVERYWHERE") t) (Some Everywhere) None))
