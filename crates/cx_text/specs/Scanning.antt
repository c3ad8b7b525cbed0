-- Taking the piece that stands at the front of a text.
use Rattle.std.specs.Prelude.{◌≡◌, ℕ, ◌+◌, Bool, true, false, ◌&&◌, ◌==◌, ◌⊎◌, cond, List, [], ◌∷◌, map, take, drop, Option, Some, None, Result, Ok, Err}
use Rattle.std.specs.List.{prefix_len}
use Rattle.cx_text.specs.declared.token.Kind.{Kind}
use Rattle.cx_text.specs.declared.token.Token.{Token}
use Rattle.cx_text.specs.declared.scanner.Scanner.{Scanner}
use Rattle.cx_text.specs.declared.token.Style.{Style}
use Rattle.cx_text.specs.declared.fault.TextFault.{TextFault}
use Rattle.cx_text.specs.declared.fault.TextFault.TheVariants as faults
use Rattle.cx_text.specs.declared.byte.Role.{Role}
use Rattle.cx_text.specs.declared.byte.Role.TheVariants as roles
use Rattle.cx_text.specs.declared.byte.Class.{Class}
use Rattle.cx_text.specs.declared.byte.Class.TheVariants as classes
use Rattle.cx_text.specs.Bytes.{role_of, has, is_escapable, is_pair}
use Rattle.cx_text.specs.declared.memory.Memory.{Memory}
use Rattle.cx_text.specs.Pieces.{Piece, Blank, LineFeed, Comment, IgnoredLine, Joint, Word, Number, Quoted, Sign, Pair, QuotedByte, Plain, Escaped, is_ccl, bytes_of, starts, meaning, fresh_after, own_token, feeds, fault_at}

abbrev pub front : Class → List ℕ → List ℕ
front class bs = take (prefix_len (has class) bs) bs

abbrev pub behind : Class → List ℕ → List ℕ
behind class bs = drop (prefix_len (has class) bs) bs

abbrev pub Taken : Type 0
Taken = Option (Piece × List ℕ)

-- the next byte of a quoted text that doesn't end here, and what is behind it
abbrev pub next_byte : ℕ → List ℕ → QuotedByte × List ℕ
next_byte b [] = (Plain b, [])
next_byte b (c ∷ cs) = cond ((b == 92) && is_escapable c) (Escaped c, cs) (Plain b, c ∷ cs)

abbrev pub onto : QuotedByte → Option (List QuotedByte × List ℕ) → Option (List QuotedByte × List ℕ)
onto q None = None
onto q (Some x) = Some (q ∷ x.0, x.1)

unfoldable pub quoted : ℕ → List ℕ → Option (List QuotedByte × List ℕ)
quoted quote [] = None
quoted quote (b ∷ []) = cond (b == quote) (Some ([], [])) None
quoted quote (b ∷ c ∷ cs) =
    cond (b == quote) (Some ([], c ∷ cs))
    (cond ((b == 92) && is_escapable c) (onto (Escaped c) (quoted quote cs))
    (onto (Plain b) (quoted quote (c ∷ cs))))

abbrev pub take_quoted : ℕ → Option (List QuotedByte × List ℕ) → Taken
take_quoted quote None = None
take_quoted quote (Some x) = Some (Quoted quote x.0, x.1)

abbrev pub take_joint : ℕ → List ℕ → List ℕ → Taken
take_joint b blanks [] = None
take_joint b blanks (c ∷ cs) = cond (c == 10) (Some (Joint b blanks, cs)) None

abbrev pub take_sign : Style → ℕ → List ℕ → Taken
take_sign style b [] = Some (Sign b, [])
take_sign style b (c ∷ cs) =
    cond (is_ccl style && is_pair b c) (Some (Pair b c, cs)) (Some (Sign b, c ∷ cs))

abbrev pub take_as : Style → Role → ℕ → List ℕ → Taken
take_as style roles.Blank b bs = Some (Blank b, bs)
take_as style roles.LineFeed b bs = Some (LineFeed b, bs)
take_as style roles.Comment b bs = Some (Comment b (front classes.Line bs), behind classes.Line bs)
take_as style roles.IgnoredLine b bs =
    Some (IgnoredLine b (front classes.Line bs), behind classes.Line bs)
take_as style roles.Joint b bs = take_joint b (front classes.Blank bs) (behind classes.Blank bs)
take_as style roles.Word b bs =
    Some (Word b (front (classes.Word style) bs), behind (classes.Word style) bs)
take_as style roles.Number b bs = Some (Number b (front classes.Digit bs), behind classes.Digit bs)
take_as style roles.Quote b bs = take_quoted b (quoted b bs)
take_as style roles.Sign b bs = take_sign style b bs
take_as style roles.Bad b bs = None

abbrev pub take_piece : Style → Bool → List ℕ → Taken
take_piece style fresh [] = None
take_piece style fresh (b ∷ bs) = take_as style (role_of style fresh b) b bs

abbrev pub fault_here : Style → Bool → ℕ → List ℕ → TextFault
fault_here style fresh line [] = faults.BadByte line
fault_here style fresh line (b ∷ bs) = fault_at (role_of style fresh b) line

-- What a step answers, and where it stands after it. The fault is what is wrong where no piece
-- stands.
abbrev pub Takes : Result (Option Token) TextFault → Bool → ℕ → List ℕ → Taken → Bool → ℕ
    → TextFault → Type 0
Takes (Ok token) fresh' line' rest' (Some x) fresh line fault =
    (token ≡ own_token line x.0) × (fresh' ≡ fresh_after fresh x.0)
    × (line' ≡ line + feeds (bytes_of x.0)) × (rest' ≡ x.1)
Takes (Ok token) fresh' line' rest' None fresh line fault = ⊥
Takes (Err e) fresh' line' rest' (Some x) fresh line fault = e ≡ faults.Memory
Takes (Err e) fresh' line' rest' None fresh line fault = (e ≡ faults.Memory) ⊎ (e ≡ fault)

-- The same of a step that took a scanner from `old` to `new`.
abbrev pub Steps : Result (Option Token) TextFault → Scanner → Scanner → Taken → TextFault → Type 0
Steps result old new taken fault =
    Takes result new.fresh new.line new.rest.now taken old.fresh old.line fault

-- what goes on with a first byte, as a token
abbrev pub long_token : Kind → ℕ → Class → Scanner → Token
long_token kind first class old =
    record { kind = kind; text = first ∷ front class old.rest.now; line = old.line }

-- Whether a byte was taken, and what is left.
abbrev pub TakesByte : Bool → List ℕ → ℕ → List ℕ → Type 0
TakesByte true rest' b bs = bs ≡ b ∷ rest'
TakesByte false rest' b bs = (starts (λ c. c == b) bs ≡ false) × (rest' ≡ bs)

-- The text of a quoted text, or None where nothing closes it.
abbrev pub TakesText : Result (Option (List ℕ)) Memory → ℕ → List ℕ
    → Option (List QuotedByte × List ℕ) → ℕ → Type 0
TakesText (Ok (Some text)) line' rest' (Some x) line =
    (text ≡ map meaning x.0) × (line' ≡ line + feeds text) × (rest' ≡ x.1)
TakesText (Ok (Some text)) line' rest' None line = ⊥
TakesText (Ok None) line' rest' (Some x) line = ⊥
TakesText (Ok None) line' rest' None line = Unit {0}
TakesText (Err e) line' rest' taken line = Unit {0}
