-- What a byte begins where neither a quoted text nor a comment is open, and which bytes go on with
-- it.
use Rattle.std.specs.Prelude.{ℕ, Bool, true, false, not, ◌&&◌, ◌||◌, ◌==◌, nat_le, if◌then◌else◌, List, map, nat_eq}
use Rattle.std.specs.Char.{is_ascii_digit, is_ascii_alphabetic, to_ascii_lowercase}
use Rattle.cx_text.specs.declared.token.Style.{Style}
use Rattle.cx_text.specs.declared.token.Style.TheVariants.{Ccl, Par, Thorns}
use Rattle.cx_text.specs.declared.byte.Role.{Role}
use Rattle.cx_text.specs.declared.byte.Role.TheVariants as roles
use Rattle.cx_text.specs.declared.byte.Class.{Class}
use Rattle.cx_text.specs.declared.byte.Class.TheVariants as classes

abbrev pub LINE_FEED : ℕ
LINE_FEED = 10

-- space, tab, carriage return
abbrev pub is_blank : ℕ → Bool
is_blank b = (b == 32) || (b == 9) || (b == 13)

abbrev pub is_printable : ℕ → Bool
is_printable b = nat_le 33 b && nat_le b 126

-- a letter or _
abbrev pub begins_name : ℕ → Bool
begins_name b = is_ascii_alphabetic b || (b == 95)

-- a letter, a digit or _
abbrev pub is_in_name : ℕ → Bool
is_in_name b = begins_name b || is_ascii_digit b

-- " or '
abbrev pub is_quote : ℕ → Bool
is_quote b = (b == 34) || (b == 39)

-- what a backslash in a quoted text escapes: ", ' and the backslash
abbrev pub is_escapable : ℕ → Bool
is_escapable b = is_quote b || (b == 92)

-- = [ ]
abbrev pub is_par_sign : ℕ → Bool
is_par_sign b = (b == 61) || (b == 91) || (b == 93)

-- :: <= >= == != && ||
abbrev pub is_pair : ℕ → ℕ → Bool
is_pair b c =
    if c == 61 then (b == 60) || (b == 62) || (b == 61) || (b == 33)
    else (b == c) && ((b == 58) || (b == 38) || (b == 124))

-- whether a line that begins with ! is ignored
abbrev pub ignores_lines : Style → Bool
ignores_lines Ccl = false
ignores_lines Par = true
ignores_lines Thorns = true

abbrev pub ccl_role : ℕ → Role
ccl_role b =
    if is_quote b then roles.Quote
    else (if begins_name b then roles.Word
    else (if is_ascii_digit b then roles.Number
    else (if b == 92 then roles.Joint
    else (if is_printable b then roles.Sign
    else roles.Bad))))

abbrev pub par_role : ℕ → Role
par_role b =
    if b == 34 then roles.Quote
    else (if is_par_sign b then roles.Sign
    else (if is_printable b then roles.Word
    else roles.Bad))

abbrev pub thorns_role : ℕ → Role
thorns_role b = if is_printable b then roles.Word else roles.Bad

abbrev pub style_role : Style → ℕ → Role
style_role Ccl b = ccl_role b
style_role Par b = par_role b
style_role Thorns b = thorns_role b

-- what a byte begins; the line is fresh where nothing but blanks stands before on it
abbrev pub role_of : Style → Bool → ℕ → Role
role_of style fresh b =
    if is_blank b then roles.Blank
    else (if b == 10 then roles.LineFeed
    else (if b == 35 then roles.Comment
    else (if ignores_lines style && (b == 33) && fresh then roles.IgnoredLine
    else style_role style b)))

-- which bytes go on with a word
abbrev pub goes_on : Style → ℕ → Bool
goes_on Ccl b = is_in_name b
goes_on Par b = is_printable b && not ((b == 35) || (b == 34) || is_par_sign b)
goes_on Thorns b = is_printable b && not (b == 35)

abbrev pub has : Class → ℕ → Bool
has classes.Line b = not (b == 10)
has classes.Blank b = is_blank b
has classes.Digit b = is_ascii_digit b
has (classes.Word style) b = goes_on style b

-- a name in small letters
abbrev pub folded : List ℕ → List ℕ
folded name = map to_ascii_lowercase name

abbrev pub is_slash : ℕ → Bool
is_slash b = nat_eq b 47
