-- A rule of which at most so many tokens may be taken, LineEnds aside.
use Rattle.std.specs.Prelude.{ℕ, ◌-◌, Bool, true, false, cond, not, ◌&&◌, nat_eq, nat_lt, List, [], ◌∷◌, length, Option, Some, None, Result, Ok, Err, ◌≡◌}
use Rattle.cx_text.specs.declared.stop.Mark.{Mark}
use Rattle.cx_text.specs.declared.stop.Mark.TheVariants.{Limit}
use Rattle.cx_text.specs.declared.stop.Why.TheVariants.{Marked}
use Rattle.cx_text.specs.declared.stop.Stop.{Stop}
use Rattle.cx_text.specs.declared.stop.Stop.TheVariants as stops
use Rattle.cx_text.specs.declared.token.Token.{Token}
use Rattle.cx_text.specs.Tokens.{is_line_end}
use Rattle.cx_text.specs.Grammar.{Item, Grammar}
use Rattle.cx_text.specs.Reading.{Answer, Read}
use Rattle.cx_text.specs.Rules.{Rule}

-- its own mark, or else that it passes the limit
abbrev pub or_limit : Option Mark → Option Mark
or_limit None = Some Limit
or_limit (Some m) = Some m

-- how many may still stand behind a token; LineEnds don't count
abbrev pub left_behind : ℕ → Token → ℕ
left_behind n t = cond (is_line_end t) n (n - 1)

-- whether a token is one too many, where n may still stand
abbrev pub is_over : ℕ → Token → Bool
is_over n t = nat_eq n 0 && not (is_line_end t)

abbrev pub limit_mark : Bool → Option Mark → Option Mark
limit_mark true m = or_limit m
limit_mark false m = m

-- each token behind the first n is marked, LineEnds aside, unless it has a mark
abbrev pub limited : ℕ → List Item → List Item
limited n [] = []
limited n ((t, m) ∷ ms) = (t, limit_mark (is_over n t) m) ∷ limited (left_behind n t) ms

-- what a grammar derives, with the tokens behind the first n marked
abbrev pub derives_at_most : {A : Type 0} → ℕ → Grammar A → Grammar A
derives_at_most n S x ms next = (free : List Item) × (ms ≡ limited n free) × S x free next

-- what is left from the first token on that is one too many
abbrev pub past : ℕ → List Token → List Token
past n [] = []
past n (t ∷ ts) = cond (is_over n t) (t ∷ ts) (past (left_behind n t) ts)

-- what was read, unless it goes past this place
abbrev pub until : {A : Type 0} → List Token → Answer A → Answer A
until place (Ok x) = cond (nat_lt (length x.1) (length place)) (Err (Marked Limit, place)) (Ok x)
until place (Err e) = cond (nat_lt (length e.1) (length place)) (Err (Marked Limit, place)) (Err e)

abbrev pub read_at_most : {A : Type 0} → ℕ → Read A → Read A
read_at_most n p ts = until (past n ts) (p ts)

abbrev pub at_most : {A : Type 0} → ℕ → Rule A → Rule A
at_most n r = record { derives = derives_at_most n r.derives; reads = read_at_most n r.reads }

-- what a reader answers where the tokens that may stand didn't suffice
abbrev pub cut_short : {X : Type 0} → Result X Stop → Result X Stop
cut_short (Ok x) = Err (stops.Fault (Marked Limit))
cut_short (Err stops.Memory) = Err stops.Memory
cut_short (Err (stops.Fault w)) = Err (stops.Fault (Marked Limit))
