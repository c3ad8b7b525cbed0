-- The steer file: settings of parameters, each from an iteration on. LineEnd is never skipped.
use Rattle.std.specs.Prelude.{ℕ, ◌-◌, Bool, false, ◌&&◌, ◌||◌, cond, nat_eq, nat_le, nat_lt, List, [], ◌∷◌, ◌++◌, drop, length, Option, Some, None}
use Rattle.std.specs.List.{list_all}
use Rattle.std.specs.Char.{is_ascii_digit}
use Rattle.cx_text.specs.declared.stop.Mark.{Mark}
use Rattle.cx_text.specs.declared.stop.Mark.TheVariants.{Limit, BadNumber}
use Rattle.cx_text.specs.declared.token.Token.{Token}
use Rattle.cx_text.specs.Tokens.{is_word}
use Rattle.cx_text.specs.Rules.{Rule, token, nothing, ◌>>=◌, loop, unmarked, sign_here, one_line_end}
use Rattle.cx_text.specs.Lexemes.{first_mark, decimal_from, is_quoted}
use Rattle.cx_parfile.specs.declared.reader.Name.{Name}
use Rattle.cx_parfile.specs.declared.steer.SteerLine.{SteerLine}
use Rattle.cx_parfile.specs.declared.steer.ReadSteers.{ReadSteers}
use Rattle.cx_parfile.specs.ParFile.{name_of, name_mark, index}

-- ---- tokens

-- one to seven digits
abbrev pub are_digits : List ℕ → Bool
are_digits text = nat_le 1 (length text) && (nat_le (length text) 7 && list_all is_ascii_digit text)

-- `@` and these digits
abbrev pub is_at_word : List ℕ → Bool
is_at_word [] = false
is_at_word (b ∷ digits) = nat_eq b 64 && are_digits digits

abbrev pub is_iteration : Token → Bool
is_iteration t = is_word t && is_at_word t.text

-- a Word of `@` and an iteration
abbrev pub iteration_of : Token → Option ℕ
iteration_of t = cond (is_iteration t) (Some (decimal_from 0 (drop 1 t.text))) None

-- the iterations are 1 to 1,000,000
abbrev pub is_outside : ℕ → Bool
is_outside n = nat_eq n 0 || nat_lt 1000000 n

-- where so many lines may still come
abbrev pub iteration_mark : ℕ → Token → Option Mark
iteration_mark left t = first_mark (nat_eq left 0) Limit
    (first_mark (is_outside (decimal_from 0 (drop 1 t.text))) BadNumber None)

-- Quoted | Word, where `$parfile` stands for itself
abbrev pub plain_value : Token → Option (List ℕ)
plain_value t = cond (is_quoted t || is_word t) (Some t.text) None

-- ---- lines

-- Word [ "[" Word "]" ] "=" (Quoted | Word), behind its first Word
abbrev pub steered : ℕ → Name → Rule SteerLine
steered at n = do
  i ← index
  u ← sign_here 61
  v ← token plain_value unmarked
  nothing
      (record {
        at = at;
        setting = record { owner = n.owner; name = n.name; index = i; value = v; line = n.line };
      })

-- Word setting LineEnd
abbrev pub steer_line : ReadSteers → Rule ReadSteers
steer_line r = do
  n ← token iteration_of (iteration_mark r.left)
  name ← token name_of (name_mark 1)
  l ← steered n name
  u ← one_line_end tt
  nothing (record { left = r.left - 1; lines = r.lines ++ l ∷ [] })

-- file = { Word setting LineEnd }
abbrev pub steer_file : Rule (List SteerLine)
steer_file = do
  r ← loop is_word steer_line (record { left = 4096; lines = [] })
  nothing r.lines
