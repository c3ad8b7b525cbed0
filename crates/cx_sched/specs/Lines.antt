-- The lines of a block. A list ends before a Word that ":" follows: the Word is read first.
use Rattle.std.specs.Prelude.{ℕ, ◌-◌, Bool, true, false, cond, not, ◌&&◌, nat_eq, List, [], ◌∷◌, ◌++◌, Option, Some, None}
use Rattle.cx_text.specs.declared.stop.Mark.TheVariants.{Limit}
use Rattle.cx_text.specs.declared.token.Token.{Token}
use Rattle.cx_text.specs.Tokens.{is_word}
use Rattle.cx_text.specs.Rules.{Rule, nothing, ◌>>=◌, choice, loop, if_is, unmarked, is_sign, lexeme, sign, name}
use Rattle.cx_text.specs.Lexemes.{first_mark, kept_if, is_inside}
use Rattle.cx_text.specs.Written as written
use Rattle.cx_sched.specs.declared.lines.Kind.{Kind}
use Rattle.cx_sched.specs.declared.lines.Kind.TheVariants.{Storage, Sync, Reads, Writes}
use Rattle.cx_sched.specs.declared.lines.Line.{Line}
use Rattle.cx_sched.specs.declared.lines.Line.TheVariants.{Start, Tokens, Word, Names}
use Rattle.cx_sched.specs.declared.lines.Lines.{Lines}
use Rattle.cx_sched.specs.Words.{line_of}
use Rattle.cx_sched.specs.Refs.{store, sync_name, access}

-- before the first line of a block, where so many lines may still stand
abbrev pub no_lines : ℕ → Lines
no_lines left = record {
  left = left;
  line = Start;
  storage = [];
  sync = [];
  reads = [];
  writes = [];
  rest = [];
}

-- ---- how a line begins

-- what is kept of a line's word and ":": a line without effect is kept token by token
abbrev pub beginning : Line → List ℕ → List Token
beginning Tokens w = written.word w ∷ written.sign 58 ∷ []
beginning Start w = []
beginning Word w = []
beginning (Names k) w = []

-- ":", behind a line's word; it is marked where as many lines as may stand are there already
abbrev pub begin : Line → List ℕ → Lines → Rule Lines
begin l w s = do
  u ← lexeme (if_is (is_sign 58)) (λ t. first_mark (nat_eq s.left 0) Limit None)
  nothing (record s { left = s.left - 1; line = l; rest = s.rest ++ beginning l w })

-- behind a Word, which begins a line where it may and ":" follows, else is what it else is
abbrev pub begin_or : Option Line → List ℕ → Lines → Rule Lines → Rule Lines
begin_or None w s r = r
begin_or (Some l) w s r = choice (is_sign 58) (begin l w s) r

-- a line's word, and which line it begins
abbrev pub with_word : List ℕ → Option Line → Option (Line × List ℕ)
with_word w None = None
with_word w (Some l) = Some (l, w)

abbrev pub line_word : Token → Option (Line × List ℕ)
line_word t = cond (is_word t) (with_word t.text (line_of t.text)) None

abbrev pub first : Lines → Rule Lines
first s = do
  l ← lexeme line_word unmarked
  begin l.0 l.1 s

-- ---- LANG, OPTIONS and TRIGGERS lines

abbrev pub begun_by : Token → Option Line
begun_by t = cond (is_word t) (line_of t.text) None

-- a token of such a line; ":" doesn't follow a Word of it
abbrev pub keep : Token → Lines → Lines
keep t s = record s { line = cond (is_word t) Word Tokens; rest = s.rest ++ t ∷ [] }

-- what may be such a token, behind a Word of the line or not
abbrev pub kept_after : Bool → Token → Bool
kept_after behind t = is_inside t && not (behind && is_sign 58 t)

abbrev pub kept : Bool → Lines → Rule Lines
kept behind s = do
  t ← lexeme (kept_if (kept_after behind)) unmarked
  begin_or (begun_by t) t.text s (nothing (keep t s))

-- ---- lists of names

abbrev pub item : Kind → List ℕ → Lines → Rule Lines
item Storage w s = do
  r ← store w
  nothing (record s { storage = s.storage ++ r ∷ [] })
item Sync w s = do
  r ← sync_name w
  nothing (record s { sync = s.sync ++ r ∷ [] })
item Reads w s = do
  r ← access w
  nothing (record s { reads = s.reads ++ r ∷ [] })
item Writes w s = do
  r ← access w
  nothing (record s { writes = s.writes ++ r ∷ [] })

abbrev pub named : Kind → Lines → Rule Lines
named k s = do
  w ← name
  begin_or (line_of w) w s (item k w s)

-- ---- lines

-- what goes on in a line, or begins the next
abbrev pub entry_in : Line → Lines → Rule Lines
entry_in Start s = first s
entry_in Tokens s = kept false s
entry_in Word s = kept true s
entry_in (Names k) s = named k s

abbrev pub entry : Lines → Rule Lines
entry s = entry_in s.line s

-- "{" { line } "}", where so many lines may still stand
abbrev pub lines : ℕ → Rule Lines
lines left = do
  u ← sign 123
  s ← loop is_inside entry (no_lines left)
  v ← sign 125
  nothing s
