-- Names of variables and groups, with what may stand behind them.
use Rattle.std.specs.Prelude.{ℕ, ◌-◌, ◌^◌, List, [], ◌∷◌, ◌++◌, Option, Some, None}
use Rattle.cx_plan.specs.declared.item.Region.{Region}
use Rattle.cx_plan.specs.declared.item.Region.TheVariants.{Everywhere}
use Rattle.cx_text.specs.Tokens.{is_word}
use Rattle.cx_text.specs.Rules.{Rule, nothing, ◌>>=◌, choice, loop, unmarked, is_sign, lexeme, sign, sign_here, name, name_here}
use Rattle.cx_text.specs.Lexemes.{is_sign_pair, sign_pair, number_in, comma}
use Rattle.cx_sched.specs.declared.tree.Ref.{Ref}
use Rattle.cx_sched.specs.Words.{region_of}

-- ---- where LineEnd is skipped

abbrev pub plain : List ℕ → Ref
plain w = record { owner = None; name = w; copy = None }

-- "::" Word, behind a Word
abbrev pub owned : List ℕ → Rule Ref
owned w = do
  u ← sign_pair 58 58
  n ← name
  nothing (record { owner = Some w; name = n; copy = None })

-- [ "::" Word ], behind a Word
abbrev pub behind_word : List ℕ → Rule Ref
behind_word w = choice (is_sign_pair 58 58) (owned w) (nothing (plain w))

-- ref = Word [ "::" Word ]
abbrev pub reference : Rule Ref
reference = do
  w ← name
  behind_word w

-- "[" Number "]", of 32 bits
abbrev pub bracket : Rule (Option ℕ)
bracket = do
  u ← sign 91
  n ← number_in 0 (2 ^ 32 - 1)
  v ← sign 93
  nothing (Some n)

-- [ "[" Number "]" ]
abbrev pub bracketed : Rule (Option ℕ)
bracketed = choice (is_sign 91) bracket (nothing None)

-- "(" Word ")", of a region
abbrev pub parens : Rule Region
parens = do
  u ← sign 40
  g ← lexeme region_of unmarked
  v ← sign 41
  nothing g

-- [ "(" Word ")" ]: everywhere, where it doesn't stand
abbrev pub region : Rule Region
region = choice (is_sign 40) parens (nothing Everywhere)

-- [ "::" Word ] [ "[" Number "]" ] [","], behind a Word
abbrev pub store : List ℕ → Rule (Ref × Option ℕ)
store w = do
  r ← behind_word w
  k ← bracketed
  u ← comma
  nothing (r, k)

-- [ "::" Word ] [","], behind a Word
abbrev pub sync_name : List ℕ → Rule Ref
sync_name w = do
  r ← behind_word w
  u ← comma
  nothing r

-- [ "::" Word ] [ "[" Number "]" ] [ "(" Word ")" ] [","], behind a Word
abbrev pub access : List ℕ → Rule (Ref × Region)
access w = do
  r ← behind_word w
  k ← bracketed
  g ← region
  u ← comma
  nothing (record r { copy = k }, g)

-- ---- where LineEnd may come next

abbrev pub owned_here : List ℕ → Rule Ref
owned_here w = do
  u ← sign_pair 58 58
  n ← name_here
  nothing (record { owner = Some w; name = n; copy = None })

abbrev pub behind_word_here : List ℕ → Rule Ref
behind_word_here w = choice (is_sign_pair 58 58) (owned_here w) (nothing (plain w))

abbrev pub bracket_here : Rule (Option ℕ)
bracket_here = do
  u ← sign 91
  n ← number_in 0 (2 ^ 32 - 1)
  v ← sign_here 93
  nothing (Some n)

abbrev pub bracketed_here : Rule (Option ℕ)
bracketed_here = choice (is_sign 91) bracket_here (nothing None)

abbrev pub comma_here : Rule (Unit {0})
comma_here = choice (is_sign 44) (sign_here 44) (nothing tt)

-- ref [ "[" Number "]" ] [","]
abbrev pub more_stores : List (Ref × Option ℕ) → Rule (List (Ref × Option ℕ))
more_stores rs = do
  w ← name_here
  r ← behind_word_here w
  k ← bracketed_here
  u ← comma_here
  nothing (rs ++ (r, k) ∷ [])

-- stores = { ref [ "[" Number "]" ] [","] }
abbrev pub stores : Rule (List (Ref × Option ℕ))
stores = loop is_word more_stores []
