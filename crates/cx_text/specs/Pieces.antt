-- The tokens of a text. A text is pieces, one after the other: blanks, comments, line feeds, words
-- and so on, each as long as it can be.
use Rattle.std.specs.Prelude.{◌≡◌, ℕ, ◌+◌, ◌≤◌, ◌<◌, Bool, true, false, ◌&&◌, ◌==◌, ◌⊎◌, if◌then◌else◌, List, [], ◌∷◌, ◌++◌, length, map, Option, Some, None, MatchResult, Result}
use Rattle.std.specs.List.{list_all}
use Rattle.cx_text.specs.declared.token.Kind.TheVariants as kinds
use Rattle.cx_text.specs.declared.token.Token.{Token}
use Rattle.cx_text.specs.declared.token.Style.{Style}
use Rattle.cx_text.specs.declared.token.Style.TheVariants as styles
use Rattle.cx_text.specs.declared.fault.TextFault.{TextFault}
use Rattle.cx_text.specs.declared.fault.TextFault.TheVariants as faults
use Rattle.cx_text.specs.declared.byte.Role.{Role}
use Rattle.cx_text.specs.declared.byte.Role.TheVariants as roles
use Rattle.cx_text.specs.declared.byte.Class.{Class}
use Rattle.cx_text.specs.declared.byte.Class.TheVariants as classes
use Rattle.cx_text.specs.Tokens.{is_line_end}
use Rattle.cx_text.specs.Bytes.{role_of, has, is_escapable, is_pair}

abbrev pub is_ccl : Style → Bool
is_ccl styles.Ccl = true
is_ccl styles.Par = false
is_ccl styles.Thorns = false

-- a byte of a quoted text, as it is or behind a backslash
pub data QuotedByte : Type 0 where
  Plain : ℕ → QuotedByte
  Escaped : ℕ → QuotedByte

-- A piece: its first byte, and what more of it there is.
pub data Piece : Type 0 where
  Blank : ℕ → Piece
  LineFeed : ℕ → Piece
  Comment : ℕ → List ℕ → Piece
  IgnoredLine : ℕ → List ℕ → Piece
  -- a backslash, blanks and a line feed
  Joint : ℕ → List ℕ → Piece
  Word : ℕ → List ℕ → Piece
  Number : ℕ → List ℕ → Piece
  Quoted : ℕ → List QuotedByte → Piece
  Sign : ℕ → Piece
  Pair : ℕ → ℕ → Piece

-- what stands behind an opening quote, up to the closing one
abbrev pub quoted_bytes : ℕ → List QuotedByte → List ℕ
quoted_bytes quote [] = quote ∷ []
quoted_bytes quote (Plain b ∷ more) = b ∷ quoted_bytes quote more
quoted_bytes quote (Escaped b ∷ more) = 92 ∷ b ∷ quoted_bytes quote more

abbrev pub meaning : QuotedByte → ℕ
meaning (Plain b) = b
meaning (Escaped b) = b

-- the bytes of a piece
abbrev pub bytes_of : Piece → List ℕ
bytes_of (Blank b) = b ∷ []
bytes_of (LineFeed b) = b ∷ []
bytes_of (Comment b more) = b ∷ more
bytes_of (IgnoredLine b more) = b ∷ more
bytes_of (Joint b blanks) = b ∷ blanks ++ 10 ∷ []
bytes_of (Word b more) = b ∷ more
bytes_of (Number b more) = b ∷ more
bytes_of (Quoted quote more) = quote ∷ quoted_bytes quote more
bytes_of (Sign b) = b ∷ []
bytes_of (Pair b c) = b ∷ c ∷ []

abbrev pub starts : (ℕ → Bool) → List ℕ → Bool
starts test [] = false
starts test (b ∷ bs) = test b

-- these bytes and no more: all pass, and what follows doesn't go on
abbrev pub Longest : Class → List ℕ → List ℕ → Type 0
Longest class bytes rest = (list_all (has class) bytes ≡ true) × (starts (has class) rest ≡ false)

-- What stands between quotes: a byte as it is is no closing quote and no backslash that escapes the
-- next one, and what is escaped is a quote or a backslash.
abbrev pub Closes : ℕ → List QuotedByte → Type 0
Closes quote [] = Unit {0}
Closes quote (Plain b ∷ more) =
    (b == quote ≡ false) × ((b == 92) && starts is_escapable (quoted_bytes quote more) ≡ false)
    × Closes quote more
Closes quote (Escaped b ∷ more) = (is_escapable b ≡ true) × Closes quote more

-- whether a sign of two bytes begins here
abbrev pub begins_pair : Style → ℕ → List ℕ → Bool
begins_pair style b rest = is_ccl style && starts (is_pair b) rest

-- A piece before this rest of the text, on a line that is fresh or not. What a piece is goes by its
-- first byte, and it takes all that goes on with it.
abbrev pub Stands : Style → Bool → Piece → List ℕ → Type 0
Stands style fresh (Blank b) rest = role_of style fresh b ≡ roles.Blank
Stands style fresh (LineFeed b) rest = role_of style fresh b ≡ roles.LineFeed
Stands style fresh (Comment b more) rest =
    (role_of style fresh b ≡ roles.Comment) × Longest classes.Line more rest
Stands style fresh (IgnoredLine b more) rest =
    (role_of style fresh b ≡ roles.IgnoredLine) × Longest classes.Line more rest
Stands style fresh (Joint b blanks) rest =
    (role_of style fresh b ≡ roles.Joint) × (list_all (has classes.Blank) blanks ≡ true)
Stands style fresh (Word b more) rest =
    (role_of style fresh b ≡ roles.Word) × Longest (classes.Word style) more rest
Stands style fresh (Number b more) rest =
    (role_of style fresh b ≡ roles.Number) × Longest classes.Digit more rest
Stands style fresh (Quoted quote more) rest =
    (role_of style fresh quote ≡ roles.Quote) × Closes quote more
Stands style fresh (Sign b) rest =
    (role_of style fresh b ≡ roles.Sign) × (begins_pair style b rest ≡ false)
Stands style fresh (Pair b c) rest =
    (role_of style fresh b ≡ roles.Sign) × (begins_pair style b (c ∷ rest) ≡ true)

-- ---- a text as pieces

-- whether the line is still fresh behind a piece
abbrev pub fresh_after : Bool → Piece → Bool
fresh_after fresh (Blank b) = fresh
fresh_after fresh (LineFeed b) = true
fresh_after fresh (Comment b more) = false
fresh_after fresh (IgnoredLine b more) = false
fresh_after fresh (Joint b blanks) = false
fresh_after fresh (Word b more) = false
fresh_after fresh (Number b more) = false
fresh_after fresh (Quoted quote more) = false
fresh_after fresh (Sign b) = false
fresh_after fresh (Pair b c) = false

abbrev pub fresh_behind : Bool → List Piece → Bool
fresh_behind fresh [] = fresh
fresh_behind fresh (p ∷ ps) = fresh_behind (fresh_after fresh p) ps

-- the bytes are these pieces, one after the other, and then the rest
abbrev pub Cut : Style → Bool → List Piece → List ℕ → List ℕ → Type 0
Cut style fresh [] bytes rest = bytes ≡ rest
Cut style fresh (p ∷ ps) bytes rest =
    (more : List ℕ) × (bytes ≡ bytes_of p ++ more) × Stands style fresh p more
    × Cut style (fresh_after fresh p) ps more rest

-- ---- the tokens of pieces

abbrev pub feeds : List ℕ → ℕ
feeds [] = 0
feeds (b ∷ bs) = (if b == 10 then 1 else 0) + feeds bs

-- the line behind pieces that begin on a line
abbrev pub line_behind : ℕ → List Piece → ℕ
line_behind line [] = line
line_behind line (p ∷ ps) = line_behind (line + feeds (bytes_of p)) ps

abbrev pub line_end : ℕ → Token
line_end line = record { kind = kinds.LineEnd; text = []; line = line }

-- the token that a piece on a line is, if it is one
abbrev pub own_token : ℕ → Piece → Option Token
own_token line (Blank b) = None
own_token line (LineFeed b) = Some (line_end line)
own_token line (Comment b more) = None
own_token line (IgnoredLine b more) = None
own_token line (Joint b blanks) = None
own_token line (Word b more) = Some (record { kind = kinds.Word; text = b ∷ more; line = line })
own_token line (Number b more) = Some (record { kind = kinds.Number; text = b ∷ more; line = line })
own_token line (Quoted quote more) =
    Some (record { kind = kinds.Quoted; text = map meaning more; line = line })
own_token line (Sign b) = Some (record { kind = kinds.Sign; text = b ∷ []; line = line })
own_token line (Pair b c) = Some (record { kind = kinds.Sign; text = b ∷ c ∷ []; line = line })

abbrev pub or_nothing : Option Token → List Token
or_nothing None = []
or_nothing (Some t) = t ∷ []

-- a token for each word, number, quoted text, sign and line feed, with its line
abbrev pub each_token : ℕ → List Piece → List Token
each_token line [] = []
each_token line (p ∷ ps) =
    or_nothing (own_token line p) ++ each_token (line + feeds (bytes_of p)) ps

-- whether a LineEnd is the last one, or for no token what held before
abbrev pub ended : Bool → List Token → Bool
ended before [] = before
ended before (t ∷ ts) = ended (is_line_end t) ts

-- without each LineEnd that follows another or stands first, so that of a run the first stays
abbrev pub merged : Bool → List Token → List Token
merged before [] = []
merged before (t ∷ ts) =
    (if is_line_end t && before then [] else (t ∷ [])) ++ merged (is_line_end t) ts

-- with a LineEnd at the end
abbrev pub closed : ℕ → List Token → List Token
closed line ts = ts ++ (if ended true ts then [] else (line_end line ∷ []))

-- A run of line feeds is one LineEnd. None stands at the beginning, and one is added where a last
-- token is none. Its line is that of the text's end.
abbrev pub tokens_of : List Piece → List Token
tokens_of ps = closed (line_behind 1 ps) (merged true (each_token 1 ps))

-- these are the tokens of a text
abbrev pub Spelled : List ℕ → Style → List Token → Type 0
Spelled bytes style ts = (ps : List Piece) × Cut style true ps bytes [] × (ts ≡ tokens_of ps)

-- ---- the first fault

-- no piece can begin a text
abbrev pub NoPiece : Style → Bool → List ℕ → Type 0
NoPiece style fresh bytes = (p : Piece) (more : List ℕ) → bytes ≡ bytes_of p ++ more
    → Stands style fresh p more → ⊥

-- the fault where no piece begins: an opening quote that nothing closes, or any other byte
abbrev pub fault_at : Role → ℕ → TextFault
fault_at roles.Quote line = faults.OpenQuote line
fault_at roles.Blank line = faults.BadByte line
fault_at roles.LineFeed line = faults.BadByte line
fault_at roles.Comment line = faults.BadByte line
fault_at roles.IgnoredLine line = faults.BadByte line
fault_at roles.Word line = faults.BadByte line
fault_at roles.Number line = faults.BadByte line
fault_at roles.Joint line = faults.BadByte line
fault_at roles.Sign line = faults.BadByte line
fault_at roles.Bad line = faults.BadByte line

-- The first fault: a text is pieces up to a byte with which none begins, and this is the fault
-- there.
abbrev pub Faulty : List ℕ → Style → TextFault → Type 0
Faulty bytes style fault =
    (ps : List Piece) × (b : ℕ) × (rest : List ℕ) × Cut style true ps bytes (b ∷ rest)
    × NoPiece style (fresh_behind true ps) (b ∷ rest)
    × (fault ≡ fault_at (role_of style (fresh_behind true ps) b) (line_behind 1 ps))

-- ---- what reading a text answers

abbrev pub max_text : ℕ
max_text = 1048576

abbrev pub IsCause : List ℕ → Style → TextFault → Type 0
IsCause bytes style faults.TooLong = max_text < length bytes
IsCause bytes style (faults.BadByte line) =
    (length bytes ≤ max_text) × Faulty bytes style (faults.BadByte line)
IsCause bytes style (faults.OpenQuote line) =
    (length bytes ≤ max_text) × Faulty bytes style (faults.OpenQuote line)
IsCause bytes style faults.Memory = Unit {0}

abbrev pub Reads : List ℕ → Style → Result (List Token) TextFault → Type 0
Reads bytes style result =
    MatchResult result (λ ts. (length bytes ≤ max_text) × Spelled bytes style ts)
    (λ fault. IsCause bytes style fault)

-- a text is one list of tokens, or it has one first fault, and not both
abbrev pub OneReading : List ℕ → Style → Type 0
OneReading bytes style =
    ((ts : List Token) × Spelled bytes style ts
    × ((us : List Token) → Spelled bytes style us → us ≡ ts)
    × ((fault : TextFault) → Faulty bytes style fault → ⊥))
    ⊎ ((fault : TextFault) × Faulty bytes style fault
    × ((other : TextFault) → Faulty bytes style other → other ≡ fault)
    × ((ts : List Token) → Spelled bytes style ts → ⊥))

-- where a text has tokens, an answer is these or want of memory
abbrev pub OnlyTokens : List ℕ → Style → Result (List Token) TextFault → Type 0
OnlyTokens bytes style result = (ts : List Token) → length bytes ≤ max_text → Spelled bytes style ts
    → MatchResult result (λ list. list ≡ ts) (λ e. e ≡ faults.Memory)

-- where a text has a fault, an answer is this or want of memory
abbrev pub OnlyFault : List ℕ → Style → Result (List Token) TextFault → Type 0
OnlyFault bytes style result = (fault : TextFault) → length bytes ≤ max_text
    → Faulty bytes style fault
    → MatchResult result (λ list. ⊥) (λ e. (e ≡ fault) ⊎ (e ≡ faults.Memory))
