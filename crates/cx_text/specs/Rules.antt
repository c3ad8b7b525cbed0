-- Rules: what a grammar derives, and how it is read from left to right. Each way to make a rule
-- gives both.
use Rattle.std.specs.Prelude.{ℕ, Bool, true, false, cond, ◌&&◌, nat_lt, List, [], ◌∷◌, length, map, Option, Some, None, Result}
use Rattle.std.specs.Str.{bytes_eq}
use Rattle.std.specs.Char.{to_ascii_lowercase}
use Rattle.cx_text.specs.declared.token.Kind.{Kind}
use Rattle.cx_text.specs.declared.token.Kind.TheVariants.{Word, Number, Quoted, Sign, LineEnd}
use Rattle.cx_text.specs.declared.stop.Mark.{Mark}
use Rattle.cx_text.specs.declared.stop.Mark.TheVariants.{Limit}
use Rattle.cx_text.specs.declared.token.Token.{Token}
use Rattle.cx_text.specs.declared.reader.Reader.{Reader}
use Rattle.cx_text.specs.declared.stop.Stop.{Stop}
use Rattle.cx_text.specs.Tokens.{is_word, is_line_end}
use Rattle.cx_text.specs.Grammar.{Grammar}
use Rattle.cx_text.specs.Grammar as grammar
use Rattle.cx_text.specs.Reading.{Read, Gives, read_token, read_nothing, read_also, read_marked, read_choice, read_many}

pub record Rule (A : Type 0) : Type 1 where
  pub derives : Grammar A
  pub reads : Read A

abbrev pub token : {A : Type 0} → (Token → Option A) → (Token → Option Mark) → Rule A
token value mark = record { derives = grammar.token value mark; reads = read_token value mark }

abbrev pub nothing : {A : Type 0} → A → Rule A
nothing x = record { derives = grammar.nothing x; reads = read_nothing x }

infixl 10 ◌>>=◌
abbrev pub ◌>>=◌ : {A B : Type 0} → Rule A → (A → Rule B) → Rule B
r >>= f = record {
  derives = grammar.also r.derives (λ x. (f x).derives);
  reads = read_also r.reads (λ x. (f x).reads);
}

-- a token whose mark depends on whether the one behind it passes, and then a rule
abbrev pub lookahead : {A B : Type 0} → (Token → Option A) → (Token → Bool)
    → (Bool → Token → Option Mark) → (A → Rule B) → Rule B
lookahead value test mark f =
    record {
      derives = grammar.lookahead value test mark (λ x. (f x).derives);
      reads = read_also (read_marked value test mark) (λ x. (f x).reads);
    }

abbrev pub choice : {A : Type 0} → (Token → Bool) → Rule A → Rule A → Rule A
choice test r s = record {
  derives = grammar.choice test r.derives s.derives;
  reads = read_choice test r.reads s.reads;
}

abbrev pub last : {C : Type 0} → C → List C → C
last c [] = c
last c (x ∷ xs) = last x xs

-- again and again, for as long as the next token passes, each turn making a new value of the one so
-- far
abbrev pub turns : {C : Type 0} → (Token → Bool) → (C → Rule C) → C → Rule (List C)
turns test r c = record {
  derives = grammar.many test (λ d. (r d).derives) (λ d x. x) c;
  reads = read_many test (λ d. (r d).reads) (λ d x. x) c;
}

abbrev pub loop : {C : Type 0} → (Token → Bool) → (C → Rule C) → C → Rule C
loop test r c = do
  cs ← turns test r c
  nothing (last c cs)

-- ---- tokens

abbrev pub if_is : (Token → Bool) → Token → Option (Unit {0})
if_is test t = cond (test t) (Some tt) None

abbrev pub unmarked : Token → Option Mark
unmarked t = None

abbrev pub limit_if : Bool → Option Mark
limit_if true = Some Limit
limit_if false = None

abbrev pub is_sign_kind : Kind → Bool
is_sign_kind Sign = true
is_sign_kind LineEnd = false
is_sign_kind Word = false
is_sign_kind Number = false
is_sign_kind Quoted = false

abbrev pub is_sign : ℕ → Token → Bool
is_sign b t = is_sign_kind t.kind && bytes_eq t.text (b ∷ [])

-- a word, in any case
abbrev pub is_named : List ℕ → Token → Bool
is_named name t = is_word t
    && bytes_eq (map to_ascii_lowercase t.text) (map to_ascii_lowercase name)

abbrev pub name_of : Token → Option (List ℕ)
name_of t = cond (is_word t) (Some t.text) None

abbrev pub name_mark : Token → Option Mark
name_mark t = limit_if (nat_lt 64 (length t.text))

-- ---- where LineEnd is skipped, it is skipped behind a token

abbrev pub one_line_end : Unit {0} → Rule (Unit {0})
one_line_end u = token (if_is is_line_end) unmarked

abbrev pub line_ends : Rule (Unit {0})
line_ends = loop is_line_end one_line_end tt

abbrev pub lexeme : {A : Type 0} → (Token → Option A) → (Token → Option Mark) → Rule A
lexeme value mark = do
  x ← token value mark
  u ← line_ends
  nothing x

abbrev pub keyword : List ℕ → Rule (Unit {0})
keyword name = lexeme (if_is (is_named name)) unmarked

abbrev pub sign : ℕ → Rule (Unit {0})
sign b = lexeme (if_is (is_sign b)) unmarked

abbrev pub name : Rule (List ℕ)
name = lexeme name_of name_mark

-- before a LineEnd that the grammar names
abbrev pub name_here : Rule (List ℕ)
name_here = token name_of name_mark

abbrev pub sign_here : ℕ → Rule (Unit {0})
sign_here b = token (if_is (is_sign b)) unmarked

abbrev pub line_end : Rule (Unit {0})
line_end = lexeme (if_is is_line_end) unmarked

-- ---- what a function that reads owes

-- It answers what the rule reads from where the reader stood, and leaves it behind that; at a fault
-- it leaves it at the faulty token. Memory may run out.
abbrev pub Obeys : {X : Type 0} → Rule X → Result X Stop → Reader → Reader → Type 0
Obeys rule result old new = Gives (λ x. x) result new.rest.now (rule.reads old.rest.now)

-- the same of a function that puts what the rule reads into a value of the caller's
abbrev pub Builds : {X Y : Type 0} → Rule Y → Y → Result X Stop → Reader → Reader → Type 0
Builds rule built result old new = Gives (λ x. built) result new.rest.now (rule.reads old.rest.now)
