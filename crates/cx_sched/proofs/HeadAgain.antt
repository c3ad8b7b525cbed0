-- What stands before a block's lines is read again from the tokens that are printed.
use Rattle.std.proofs.Common.{◌≡◌, ℕ, ltb, Bool, true, false, List, [], ◌∷◌, ◌++◌, length, Option, Some, None, Ok, refl, sym, ap, ◌∙◌, append_assoc, arith}
use Rattle.std.specs.List.{AllByRecursion}
use Rattle.std.proofs.lemmas.Bool.{le-ltb}
use Rattle.std.proofs.lemmas.List.{append-nil}
use Rattle.cx_text.specs.declared.token.Token.{Token}
use Rattle.cx_text.specs.Tokens.{is_word, is_line_end}
use Rattle.cx_text.specs.Grammar.{head as next_of, passes}
use Rattle.cx_text.specs.Rules.{loop}
use Rattle.cx_text.specs.Lexemes.{same_name, is_comma_or_word, more_listed, listed}
use Rattle.cx_text.specs.Written.{word, words, sign}
use Rattle.cx_text.proofs.LexemeLaws.{more_listed_short}
use Rattle.cx_text.proofs.Printing.{loop_step, loop_stop, no_skip, IsShortName}
use Rattle.cx_sched.specs.declared.tree.Ref.{Ref}
use Rattle.cx_sched.specs.declared.tree.Spot.{Spot}
use Rattle.cx_sched.specs.declared.tree.Spot.TheVariants.{At, Inside}
use Rattle.cx_sched.specs.declared.block.Head.{Head}
use Rattle.cx_sched.specs.declared.block.Clauses.{Clauses}
use Rattle.cx_sched.specs.Words.{GROUP, AT, IN, AS, IF, WHILE, BEFORE, AFTER}
use Rattle.cx_sched.specs.Blocks.{is_way, is_way_name, spot, placed, behind_group, behind_name, head, no_clauses, is_clause, clause}
use Rattle.cx_sched.specs.Printed as printed
use Rattle.cx_sched.proofs.BlockLaws.{clause_short}
use Rattle.cx_sched.proofs.RefAgain.{Next, next_word, next_open, IsMaybe, IsName, PlainFits, reference_again}

-- ---- the head

abbrev found : Bool → List ℕ → List ℕ → List ℕ → Head
found g n w p = record { group = g; name = n; spot = spot w p }

placed_again : (g : Bool) (n w p : List ℕ) (rest : List Token) → is_way (word w) ≡ true
    → IsShortName p → passes is_line_end (next_of rest) ≡ false
    → (placed g n).reads (word w ∷ word p ∷ rest) ≡ Ok (found g n w p, rest)
placed_again g n w p rest way h e =
    let short : ltb 64 (length p) ≡ false = le-ltb _ _ h in
    rw (way, no_skip (word p ∷ rest) refl, short, no_skip rest e) refl

-- behind the keyword GROUP and the name
named_group : (b : Bool) (g n w p : List ℕ) (rest : List Token) → is_way (word w) ≡ true
    → IsShortName p → passes is_line_end (next_of rest) ≡ false
    → (behind_group b g n).reads (word w ∷ word p ∷ rest) ≡ Ok (found true n w p, rest)
named_group true g n w p rest way h e =
    let short : ltb 64 (length p) ≡ false = le-ltb _ _ h in
    rw (way, no_skip (word p ∷ rest) refl, short, no_skip rest e) refl
named_group false g n w p rest way h e = placed_again true n w p rest way h e

-- behind GROUP as the name and AT or IN
group_named : (b : Bool) (n w p : List ℕ) (rest : List Token) → is_way (word p) ≡ b → IsShortName p
    → passes is_line_end (next_of rest) ≡ false → (b ≡ true → passes is_word (next_of rest) ≡ false)
    → (behind_group true n w).reads (word p ∷ rest) ≡ Ok (found false n w p, rest)
group_named true n w p rest is h e stops =
    let stop = stops refl in
    rw (is, no_skip rest e, stop) refl
group_named false n w p rest is h e stops =
    let short : ltb 64 (length p) ≡ false = le-ltb _ _ h in
    rw (is, short, no_skip rest e) refl

-- what isn't a group, by whether its name is GROUP
single_again : (b : Bool) (n w p : List ℕ) (rest : List Token) → is_way (word w) ≡ true
    → IsShortName w → IsShortName p → passes is_line_end (next_of rest) ≡ false
    → (b ≡ true → is_way (word p) ≡ true → passes is_word (next_of rest) ≡ false)
    → (behind_name b n).reads (word w ∷ word p ∷ rest) ≡ Ok (found false n w p, rest)
single_again true n w p rest way k h e stops =
    let short : ltb 64 (length w) ≡ false = le-ltb _ _ k in
    let whole = group_named (is_way (word p)) n w p rest refl h e (stops refl) in
    let is : is_way_name w ≡ true = way in
    rw (short, no_skip (word p ∷ rest) refl, is) whole
single_again false n w p rest way k h e stops = placed_again false n w p rest way h e

-- a group's name stands behind the keyword
pub starts_head : (g : Bool) (n : List ℕ) (ts : List Token)
    → passes is_line_end (next_of (printed.group_word g ++ word n ∷ ts)) ≡ false
starts_head true n ts = refl
starts_head false n ts = refl

way_head : (g : Bool) (n w p : List ℕ) (rest : List Token) → is_way (word w) ≡ true → IsShortName w
    → IsShortName n → IsShortName p → passes is_line_end (next_of rest) ≡ false
    → (g ≡ false → same_name n GROUP ≡ true → is_way (word p) ≡ true
    → passes is_word (next_of rest) ≡ false)
    → head.reads (printed.group_word g ++ word n ∷ word w ∷ word p ∷ rest)
    ≡ Ok (found g n w p, rest)
way_head true n w p rest way k m h e stops =
    let short : ltb 64 (length n) ≡ false = le-ltb _ _ m in
    rw (
      no_skip (word n ∷ word w ∷ word p ∷ rest) refl,
      short,
      no_skip (word w ∷ word p ∷ rest) refl,
    )
    (named_group (is_way_name n) GROUP n w p rest way h e)
way_head false n w p rest way k m h e stops =
    let short : ltb 64 (length n) ≡ false = le-ltb _ _ m in
    rw (short, no_skip (word w ∷ word p ∷ rest) refl)
    (single_again (same_name n GROUP) n w p rest way k h e (stops refl))

abbrev pub place_of : Spot → List ℕ
place_of (At p) = p
place_of (Inside p) = p

pub head_again : (g : Bool) (n : List ℕ) (s : Spot) (rest : List Token) → IsShortName n
    → IsShortName (place_of s) → passes is_line_end (next_of rest) ≡ false
    → (g ≡ false → same_name n GROUP ≡ true → is_way_name (place_of s) ≡ true
    → passes is_word (next_of rest) ≡ false)
    → head.reads (printed.group_word g ++ word n ∷ (printed.spot s ++ rest))
    ≡ Ok (record { group = g; name = n; spot = s }, rest)
head_again g n (At p) rest m h e stops = way_head g n AT p rest refl (omega arith) m h e stops
head_again g n (Inside p) rest m h e stops = way_head g n IN p rest refl (omega arith) m h e stops

-- ---- clauses

abbrev pub clauses_of : Option (List ℕ) → Option Ref → Option Ref → List (List ℕ) → List (List ℕ)
    → Clauses
clauses_of a t u b f = record { alias = a; test = t; turn = u; before = b; after = f }

abbrev pub MaybePlain : Option Ref → Type 0
MaybePlain None = Unit {0}
MaybePlain (Some r) = PlainFits r

ref_starts : (o : Option (List ℕ)) (n : List ℕ) (ts : List Token)
    → passes is_line_end (next_of (printed.ref_from o n ++ ts)) ≡ false
ref_starts None n ts = refl
ref_starts (Some o) n ts = refl

alias_again : (a : Option (List ℕ)) (rest : List Token) → IsMaybe a → Next rest
    → (loop is_clause clause no_clauses).reads (printed.alias a ++ rest)
    ≡ (loop is_clause clause (clauses_of a None None [] [])).reads rest
alias_again None rest f e = refl
alias_again (Some n) rest f e =
    let short : ltb 64 (length n) ≡ false = le-ltb _ _ f.0 in
    let one : (clause no_clauses).reads (word AS ∷ word n ∷ rest)
    ≡ Ok (clauses_of (Some n) None None [] [], rest) =
    rw (no_skip (word n ∷ rest) refl, short, no_skip rest e.ended) refl in
    loop_step is_clause clause clause_short no_clauses (clauses_of (Some n) None None [] [])
    (word AS ∷ word n ∷ rest) rest refl one

test_again : (a : Option (List ℕ)) (t : Option Ref) (rest : List Token) → MaybePlain t → Next rest
    → (loop is_clause clause (clauses_of a None None [] [])).reads (printed.scalar IF t ++ rest)
    ≡ (loop is_clause clause (clauses_of a t None [] [])).reads rest
test_again a None rest f e = refl
test_again a (Some r) rest f e =
    let read = reference_again r rest f e in
    let one : (clause (clauses_of a None None [] [])).reads (word IF ∷ (printed.ref r ++ rest))
    ≡ Ok (clauses_of a (Some r) None [] [], rest) =
    rw (no_skip (printed.ref r ++ rest) (ref_starts r.owner r.name rest), read) refl in
    loop_step is_clause clause clause_short (clauses_of a None None [] [])
    (clauses_of a (Some r) None [] []) (word IF ∷ (printed.ref r ++ rest)) rest refl one

turn_again : (a : Option (List ℕ)) (t u : Option Ref) (rest : List Token) → MaybePlain u → Next rest
    → (loop is_clause clause (clauses_of a t None [] [])).reads (printed.scalar WHILE u ++ rest)
    ≡ (loop is_clause clause (clauses_of a t u [] [])).reads rest
turn_again a t None rest f e = refl
turn_again a t (Some r) rest f e =
    let read = reference_again r rest f e in
    let one : (clause (clauses_of a t None [] [])).reads (word WHILE ∷ (printed.ref r ++ rest))
    ≡ Ok (clauses_of a t (Some r) [] [], rest) =
    rw (no_skip (printed.ref r ++ rest) (ref_starts r.owner r.name rest), read) refl in
    loop_step is_clause clause clause_short (clauses_of a t None [] [])
    (clauses_of a t (Some r) [] []) (word WHILE ∷ (printed.ref r ++ rest)) rest refl one

-- ---- lists of names

words_start : (ns : List (List ℕ)) (rest : List Token)
    → passes is_line_end (next_of (words ns ++ sign 41 ∷ rest)) ≡ false
words_start [] rest = refl
words_start (n ∷ ns) rest = refl

more_again : (ns old : List (List ℕ)) (rest : List Token) → AllByRecursion IsName ns
    → (loop is_comma_or_word more_listed old).reads (words ns ++ sign 41 ∷ rest)
    ≡ Ok (old ++ ns, sign 41 ∷ rest)
more_again [] old rest h =
    loop_stop is_comma_or_word more_listed more_listed_short old (sign 41 ∷ rest) refl
    ∙ ap (λ (xs : List (List ℕ)). Ok (xs, sign 41 ∷ rest)) (sym (append-nil old))
more_again (n ∷ ns) old rest h =
    let short : ltb 64 (length n) ≡ false = le-ltb _ _ h.0.0 in
    let ts : List Token = words ns ++ sign 41 ∷ rest in
    let one : (more_listed old).reads (word n ∷ ts) ≡ Ok (old ++ n ∷ [], ts) =
    rw (short, no_skip ts (words_start ns rest)) refl in
    loop_step is_comma_or_word more_listed more_listed_short old (old ++ n ∷ []) (word n ∷ ts)
    ts refl one
    ∙ more_again ns (old ++ n ∷ []) rest h.1
    ∙ ap (λ (xs : List (List ℕ)). Ok (xs, sign 41 ∷ rest)) (append_assoc old (n ∷ []) ns)

listed_again : (n : List ℕ) (ns : List (List ℕ)) (rest : List Token)
    → AllByRecursion IsName (n ∷ ns)
    → (listed []).reads (word n ∷ (words ns ++ sign 41 ∷ rest)) ≡ Ok (n ∷ ns, sign 41 ∷ rest)
listed_again n ns rest h =
    let short : ltb 64 (length n) ≡ false = le-ltb _ _ h.0.0 in
    let ts : List Token = words ns ++ sign 41 ∷ rest in
    let all = more_again ns (n ∷ []) rest h.1 in
    rw (short, no_skip ts (words_start ns rest), all) refl

others_parts : (w n : List ℕ) (ns : List (List ℕ)) (rest : List Token)
    → printed.others w (n ∷ ns) ++ rest ≡ word w ∷ sign 40 ∷ word n ∷ (words ns ++ sign 41 ∷ rest)
others_parts w n ns rest =
    ap (λ (ts : List Token). word w ∷ sign 40 ∷ word n ∷ ts)
    (append_assoc (words ns) (sign 41 ∷ []) rest)

before_again : (a : Option (List ℕ)) (t u : Option Ref) (b : List (List ℕ)) (rest : List Token)
    → AllByRecursion IsName b → Next rest
    → (loop is_clause clause (clauses_of a t u [] [])).reads (printed.others BEFORE b ++ rest)
    ≡ (loop is_clause clause (clauses_of a t u b [])).reads rest
before_again a t u [] rest h e = refl
before_again a t u (n ∷ ns) rest h e =
    let ts : List Token = word n ∷ (words ns ++ sign 41 ∷ rest) in
    let all = listed_again n ns rest h in
    let one : (clause (clauses_of a t u [] [])).reads (word BEFORE ∷ sign 40 ∷ ts)
    ≡ Ok (clauses_of a t u (n ∷ ns) [], rest) =
    rw (no_skip (sign 40 ∷ ts) refl, no_skip ts refl, all, no_skip rest e.ended) refl in
    ap (loop is_clause clause (clauses_of a t u [] [])).reads (others_parts BEFORE n ns rest)
    ∙ loop_step is_clause clause clause_short (clauses_of a t u [] [])
    (clauses_of a t u (n ∷ ns) []) (word BEFORE ∷ sign 40 ∷ ts) rest refl one

after_again : (a : Option (List ℕ)) (t u : Option Ref) (b f : List (List ℕ)) (rest : List Token)
    → AllByRecursion IsName f → Next rest
    → (loop is_clause clause (clauses_of a t u b [])).reads (printed.others AFTER f ++ rest)
    ≡ (loop is_clause clause (clauses_of a t u b f)).reads rest
after_again a t u b [] rest h e = refl
after_again a t u b (n ∷ ns) rest h e =
    let ts : List Token = word n ∷ (words ns ++ sign 41 ∷ rest) in
    let all = listed_again n ns rest h in
    let one : (clause (clauses_of a t u b [])).reads (word AFTER ∷ sign 40 ∷ ts)
    ≡ Ok (clauses_of a t u b (n ∷ ns), rest) =
    rw (no_skip (sign 40 ∷ ts) refl, no_skip ts refl, all, no_skip rest e.ended) refl in
    ap (loop is_clause clause (clauses_of a t u b [])).reads (others_parts AFTER n ns rest)
    ∙ loop_step is_clause clause clause_short (clauses_of a t u b []) (clauses_of a t u b (n ∷ ns))
    (word AFTER ∷ sign 40 ∷ ts) rest refl one

-- ---- all clauses

pub record ClausesFit (a : Option (List ℕ)) (t u : Option Ref) (b f : List (List ℕ)) : Type 0 where
  pub alias : IsMaybe a
  pub test : MaybePlain t
  pub turn : MaybePlain u
  pub before : AllByRecursion IsName b
  pub after : AllByRecursion IsName f

-- what is printed of clauses, and then
abbrev pub with_clauses : Option (List ℕ) → Option Ref → Option Ref → List (List ℕ) → List (List ℕ)
    → List Token → List Token
with_clauses a t u b f ts =
    printed.alias a ++ (printed.scalar IF t
    ++ (printed.scalar WHILE u ++ (printed.others BEFORE b ++ (printed.others AFTER f ++ ts))))

next_alias : (a : Option (List ℕ)) (rest : List Token) → Next rest → Next (printed.alias a ++ rest)
next_alias None rest e = e
next_alias (Some n) rest e = next_word _ _

next_scalar : (w : List ℕ) (t : Option Ref) (rest : List Token) → Next rest
    → Next (printed.scalar w t ++ rest)
next_scalar w None rest e = e
next_scalar w (Some r) rest e = next_word _ _

next_others : (w : List ℕ) (ns : List (List ℕ)) (rest : List Token) → Next rest
    → Next (printed.others w ns ++ rest)
next_others w [] rest e = e
next_others w (n ∷ ns) rest e = next_word _ _

pub next_clauses : (a : Option (List ℕ)) (t u : Option Ref) (b f : List (List ℕ)) (ts : List Token)
    → Next ts → Next (with_clauses a t u b f ts)
next_clauses a t u b f ts e =
    next_alias a _ (next_scalar IF t _
    (next_scalar WHILE u _ (next_others BEFORE b _ (next_others AFTER f _ e))))

pub clauses_again : (a : Option (List ℕ)) (t u : Option Ref) (b f : List (List ℕ))
    (more_ : List Token) → ClausesFit a t u b f
    → (loop is_clause clause no_clauses).reads (with_clauses a t u b f (sign 123 ∷ more_))
    ≡ Ok (clauses_of a t u b f, sign 123 ∷ more_)
clauses_again a t u b f more_ h =
    let d4 : List Token = sign 123 ∷ more_ in
    let d3 : List Token = printed.others AFTER f ++ d4 in
    let d2 : List Token = printed.others BEFORE b ++ d3 in
    let d1 : List Token = printed.scalar WHILE u ++ d2 in
    let d0 : List Token = printed.scalar IF t ++ d1 in
    let e4 = next_open more_ in
    let e3 = next_others AFTER f d4 e4 in
    let e2 = next_others BEFORE b d3 e3 in
    let e1 = next_scalar WHILE u d2 e2 in
    let e0 = next_scalar IF t d1 e1 in
    alias_again a d0 h.alias e0
    ∙ test_again a t d1 h.test e1
    ∙ turn_again a t u d2 h.turn e2
    ∙ before_again a t u b d3 h.before e3
    ∙ after_again a t u b f d4 h.after e4
    ∙ loop_stop is_clause clause clause_short (clauses_of a t u b f) d4 refl
