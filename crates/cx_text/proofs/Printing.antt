-- What is printed is read again.
use Rattle.std.proofs.Common.{◌≡◌, ℕ, ◌≤◌, ltb, Bool, true, false, List, [], ◌∷◌, ◌++◌, length, Option, None, Ok, refl, sym, ap, subst, ◌∙◌, append_assoc}
use Rattle.std.specs.List.{AllByRecursion}
use Rattle.std.proofs.lemmas.Bool.{le-ltb}
use Rattle.std.proofs.lemmas.List.{append-nil}
use Rattle.cx_text.specs.declared.token.Token.{Token}
use Rattle.cx_text.specs.Tokens.{is_line_end}
use Rattle.cx_text.specs.Grammar.{clean, head, passes, Spells}
use Rattle.cx_text.specs.Reading.{go_on, read_many}
use Rattle.cx_text.specs.Rules.{Rule, loop, one_line_end, name_here}
use Rattle.cx_text.specs.Lexemes.{is_comma_or_word, more_names, some_names, is_inside, inside}
use Rattle.cx_text.specs.Written.{word, words, line_end}
use Rattle.cx_text.proofs.Loops.{Short, loop_unrolled}
use Rattle.cx_text.proofs.Many.{unrolled}
use Rattle.cx_text.proofs.RuleLaws.{Good, line_end_short}
use Rattle.cx_text.proofs.LexemeLaws.{inside_short, more_names_short}

-- a list that is read whole is spelled
pub spelled : {A : Type 0} {r : Rule A} {G : Option Token → Type 0} → Good r G
    → (ts : List Token) (x : A) → r.reads ts ≡ Ok (x, []) → Spells r.derives ts x
spelled {A} {r} good ts x e =
    let t = good.law.takes ts x [] e in
    subst (λ (us : List Token). r.derives x (clean us) None) (sym (t.parts ∙ append-nil t.front))
    t.spelled

-- ---- loops

-- one turn more
pub loop_step : {C : Type 0} (test : Token → Bool) (r : C → Rule C) (short : (c : C) → Short (r c))
    (c d : C) (ts us : List Token) → passes test (head ts) ≡ true → (r c).reads ts ≡ Ok (d, us)
    → (loop test r c).reads ts ≡ (loop test r d).reads us
loop_step test r short c d ts us go one = loop_unrolled test r short c ts ∙ rw (go, one) refl

-- no turn more
pub loop_stop : {C : Type 0} (test : Token → Bool) (r : C → Rule C) (short : (c : C) → Short (r c))
    (c : C) (ts : List Token) → passes test (head ts) ≡ false
    → (loop test r c).reads ts ≡ Ok (c, ts)
loop_stop test r short c ts stop = loop_unrolled test r short c ts ∙ rw stop refl

-- ---- LineEnds behind a token

-- there is none
pub no_skip : (ts : List Token) → passes is_line_end (head ts) ≡ false
    → read_many is_line_end (λ u. (one_line_end u).reads) (λ d x. x) tt ts ≡ Ok ([], ts)
no_skip ts h = unrolled is_line_end (λ u. (one_line_end u).reads) (λ d x. x)
    (λ u. (line_end_short u).law) tt ts ∙ rw h refl

-- there is one
pub one_skip : (ts : List Token) → passes is_line_end (head ts) ≡ false
    → read_many is_line_end (λ u. (one_line_end u).reads) (λ d x. x) tt (line_end ∷ ts)
    ≡ Ok (tt ∷ [], ts)
one_skip ts h = unrolled is_line_end (λ u. (one_line_end u).reads) (λ d x. x)
    (λ u. (line_end_short u).law) tt (line_end ∷ ts) ∙ rw (no_skip ts h) refl

-- empty braces
pub no_inside : (ts : List Token) → passes is_inside (head ts) ≡ false
    → read_many is_inside (λ u. (inside u).reads) (λ d x. x) tt ts ≡ Ok ([], ts)
no_inside ts h = unrolled is_inside (λ u. (inside u).reads) (λ d x. x) (λ u. (inside_short u).law)
    tt ts ∙ rw h refl

-- ---- names

-- a name within its limit
abbrev pub IsShortName : List ℕ → Type 0
IsShortName n = length n ≤ 64

more_again : (old : List (List ℕ)) (n : List ℕ) (rest : List Token) → IsShortName n
    → (more_names old).reads (word n ∷ rest) ≡ Ok (old ++ n ∷ [], rest)
more_again old n rest h = let short : ltb 64 (length n) ≡ false = le-ltb _ _ h in rw short refl

pub more_names_again : (ns old : List (List ℕ)) (rest : List Token) → AllByRecursion IsShortName ns
    → passes is_comma_or_word (head rest) ≡ false
    → (loop is_comma_or_word more_names old).reads (words ns ++ rest) ≡ Ok (old ++ ns, rest)
more_names_again [] old rest h e =
    loop_stop is_comma_or_word more_names more_names_short old rest e ∙ rw (append-nil old) refl
more_names_again (n ∷ ns) old rest h e =
    loop_step is_comma_or_word more_names more_names_short old (old ++ n ∷ [])
    (word n ∷ (words ns ++ rest)) (words ns ++ rest) refl
    (more_again old n (words ns ++ rest) h.0)
    ∙ more_names_again ns (old ++ n ∷ []) rest h.1 e
    ∙ ap (λ xs. Ok (xs, rest)) (append_assoc old (n ∷ []) ns)

pub some_names_again : (old : List (List ℕ)) (n : List ℕ) (ns : List (List ℕ)) (rest : List Token)
    → IsShortName n → AllByRecursion IsShortName ns → passes is_comma_or_word (head rest) ≡ false
    → (some_names old).reads (words (n ∷ ns) ++ rest) ≡ Ok (old ++ n ∷ ns, rest)
some_names_again old n ns rest h hs e =
    let short : ltb 64 (length n) ≡ false = le-ltb _ _ h in
    let first : name_here.reads (words (n ∷ ns) ++ rest) ≡ Ok (n, words ns ++ rest) =
    rw short refl in
    ap (λ a. go_on a (λ m. (loop is_comma_or_word more_names (old ++ m ∷ [])).reads)) first
    ∙ more_names_again ns (old ++ n ∷ []) rest hs e
    ∙ ap (λ xs. Ok (xs, rest)) (append_assoc old (n ∷ []) ns)
