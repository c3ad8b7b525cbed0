-- One stage of reading behind another.
use Rattle.std.proofs.Common.{◌≡◌, ◌≢◌, ◌∙◌, sym, ap, subst, refl, ◌≤◌, ◌⊎◌, inl, inr, ℕ, List, Option, Some, None, Result, Ok, Err, arith}
use Rattle.cx_text.specs.declared.token.Token.{Token}
use Rattle.cx_text.specs.declared.token.Style.{Style}
use Rattle.cx_text.specs.declared.fault.TextFault.{TextFault}
use Rattle.cx_text.specs.declared.fault.CclFault.{CclFault}
use Rattle.cx_text.specs.Pieces.{IsCause, Reads}
use Rattle.cx_text.specs.Grammar.{Grammar, IsFault, ReadsBy}
use Rattle.cx_disk.specs.Cause.{HasCause, Rose}
use Rattle.cx_job_files.specs.declared.fault.ConfigFault.{ConfigFault}
use Rattle.cx_job_files.specs.declared.fault.ConfigFault.TheVariants as faults
use Rattle.cx_job_files.specs.declared.shelf.Shelf.{Ghosts}
use Rattle.cx_job_files.specs.Shelf.{Held}
use Rattle.cx_text.specs.Telling.{Stage, Then}
use Rattle.cx_job_files.specs.Reading.{Finds, TokensOf, TokensOfAny, ComesFrom, TextTokens, Tree, Tokens, TokensIfAny, TreeIfAny, File, FileOr, Comes, Follows, NamedText, NamedTree, IsTree}

-- ---- answers without a value

abbrev okay : (A : Type 0) → A → Result A ConfigFault
okay A x = Ok x

abbrev err : (A : Type 0) → ConfigFault → Result A ConfigFault
err A e = Err e

err_memory : (A : Type 0) (e : ConfigFault) (P : Type 0) → (e ≡ faults.Memory) ⊎ P
    → (err A e ≡ err A faults.Memory) ⊎ P
err_memory A e P (inl m) = inl (ap (err A) m)
err_memory A e P (inr s) = inr s

err_free : (A : Type 0) (e : ConfigFault) (P : Type 0)
    → (e ≡ faults.Memory) ⊎ (e ≡ faults.Shelf) ⊎ P
    → (err A e ≡ err A faults.Memory) ⊎ (err A e ≡ err A faults.Shelf) ⊎ P
err_free A e P (inl m) = inl (ap (err A) m)
err_free A e P (inr (inl m)) = inr (inl (ap (err A) m))
err_free A e P (inr (inr s)) = inr (inr s)

from_err : (A : Type 0) (e : ConfigFault) (P : Type 0)
    → (err A e ≡ err A faults.Memory) ⊎ (err A e ≡ err A faults.Shelf) ⊎ P
    → (e ≡ faults.Memory) ⊎ (e ≡ faults.Shelf) ⊎ P
from_err A e P (inl m) = inl cc
from_err A e P (inr (inl m)) = inr (inl cc)
from_err A e P (inr (inr s)) = inr (inr s)

from_ok : (A : Type 0) (x : A) (r : Result A ConfigFault) (P : Type 0) → r ≡ Ok x
    → (r ≡ err A faults.Memory) ⊎ (r ≡ err A faults.Shelf) ⊎ P → P
from_ok A x r P e (inl m) = absurd cc
from_ok A x r P e (inr (inl m)) = absurd cc
from_ok A x r P e (inr (inr s)) = s

-- ---- causes

moved : (A B : Type 0) (e f : ConfigFault) → err B e ≡ err B f → err A e ≡ err A f
moved A B e f h = let same : e ≡ f = cc in ap (err A) same

halted_cause : (A B : Type 0) (e : ConfigFault) (f0 f1 : ℕ) → HasCause faults.Shelf f0 f1 (err A e)
    → HasCause faults.Shelf f0 f1 (err B e)
halted_cause A B e f0 f1 c =
    record { later = c.later; failed = λ h. c.failed (moved A B e faults.Shelf h) }

rose_since : (f0 f1 f2 : ℕ) → f0 ≤ f1 → Rose f1 f2 → Rose f0 f2
rose_since f0 f1 f2 h r = omega arith

later_still : (f0 f1 f2 : ℕ) → f0 ≤ f1 → f1 ≤ f2 → f0 ≤ f2
later_still f0 f1 f2 h k = omega arith

two_causes : (A B : Type 0) (f0 f1 f2 : ℕ) (a : Result A ConfigFault) (r : Result B ConfigFault)
    → HasCause faults.Shelf f0 f1 a → HasCause faults.Shelf f1 f2 r → HasCause faults.Shelf f0 f2 r
two_causes A B f0 f1 f2 a r first second =
    record {
      later = later_still f0 f1 f2 first.later second.later;
      failed = λ h. rose_since f0 f1 f2 first.later (second.failed h);
    }

no_cause : (B : Type 0) (f : ℕ) (r : Result B ConfigFault) → r ≢ err B faults.Shelf
    → HasCause faults.Shelf f f r
no_cause B f (Ok v) other = record { later = omega arith; failed = λ h. absurd cc }
no_cause B f (Err e) other = record { later = omega arith; failed = λ h. absurd (other h) }

-- ---- faults and values of a stage

-- where a stage gave a fault, it had none but this
pub free : {A : Type 0} (tells : Type 0) (stage : Held → Stage A ConfigFault) (h0 h1 : Held)
    (f0 f1 : ℕ) (e : ConfigFault) → Follows tells stage h0 h1 f0 f1 (err A e) → tells
    → (e ≡ faults.Memory) ⊎ (e ≡ faults.Shelf) ⊎ stage h0 (err A e)
free {A} tells stage h0 h1 f0 f1 e a t = from_err A e (stage h0 (err A e)) (a.answers t)

-- a value that a stage gave is what it comes to
pub given : {A : Type 0} (tells : Type 0) (stage : Held → Stage A ConfigFault) (h0 h1 : Held)
    (f0 f1 : ℕ) (x : A) → Follows tells stage h0 h1 f0 f1 (Ok x) → tells → stage h0 (Ok x)
given {A} tells stage h0 h1 f0 f1 x a t = from_ok A x (Ok x) (stage h0 (Ok x)) refl (a.answers t)

-- ---- two stages

halt_answers : (A B : Type 0) (p : Stage A ConfigFault) (q : A → Stage B ConfigFault)
    (e : ConfigFault) → (e ≡ faults.Memory) ⊎ (e ≡ faults.Shelf) ⊎ p (err A e)
    → (err B e ≡ err B faults.Memory) ⊎ (err B e ≡ err B faults.Shelf) ⊎ Then p q (err B e)
halt_answers A B p q e (inl m) = inl (ap (err B) m)
halt_answers A B p q e (inr (inl m)) = inr (inl (ap (err B) m))
halt_answers A B p q e (inr (inr s)) = inr (inr (inl (e, s, refl)))

pub halted : {A B : Type 0} (tells : Type 0) (p : Held → Stage A ConfigFault)
    (q : Held → A → Stage B ConfigFault) (h0 h1 : Held) (f0 f1 : ℕ) (e : ConfigFault)
    → Follows tells p h0 h1 f0 f1 (err A e)
    → Follows tells (λ h. Then (p h) (q h)) h0 h1 f0 f1 (err B e)
halted {A} {B} tells p q h0 h1 f0 f1 e a = record {
  answers = λ t. halt_answers A B (p h0) (q h0) e (free tells p h0 h1 f0 f1 e a t);
  same = a.same;
  cause = halted_cause A B e f0 f1 a.cause;
}

pass_answers : (A B : Type 0) (p : Stage A ConfigFault) (q : A → Stage B ConfigFault) (x : A)
    (r : Result B ConfigFault) → p (Ok x)
    → (r ≡ err B faults.Memory) ⊎ (r ≡ err B faults.Shelf) ⊎ q x r
    → (r ≡ err B faults.Memory) ⊎ (r ≡ err B faults.Shelf) ⊎ Then p q r
pass_answers A B p q x r s (inl m) = inl m
pass_answers A B p q x r s (inr (inl m)) = inr (inl m)
pass_answers A B p q x r s (inr (inr t)) = inr (inr (inr (x, s, t)))

pub passed : {A B : Type 0} (tells : Type 0) (p : Held → Stage A ConfigFault)
    (q : Held → A → Stage B ConfigFault) (h0 h1 h2 : Held) (f0 f1 f2 : ℕ) (x : A)
    (r : Result B ConfigFault) → Follows tells p h0 h1 f0 f1 (Ok x)
    → Follows tells (λ h. q h x) h1 h2 f1 f2 r → Follows tells (λ h. Then (p h) (q h)) h0 h2 f0 f2 r
passed {A} {B} tells p q h0 h1 h2 f0 f1 f2 x r a b = record {
  answers = λ t. pass_answers A B (p h0) (q h0) x r (given tells p h0 h1 f0 f1 x a t)
      (subst (λ (h : Held). (r ≡ err B faults.Memory) ⊎ (r ≡ err B faults.Shelf) ⊎ q h x r)
      (a.same t) (b.answers t));
  same = λ t. b.same t ∙ a.same t;
  cause = two_causes A B f0 f1 f2 (Ok x) r a.cause b.cause;
}

-- ---- what is made of a value with no more reading

come_answers : (B : Type 0) (P : Type 0) (r : Result B ConfigFault) → (r ≡ err B faults.Memory) ⊎ P
    → (r ≡ err B faults.Memory) ⊎ (r ≡ err B faults.Shelf) ⊎ P
come_answers B P r (inl m) = inl m
come_answers B P r (inr s) = inr (inr s)

pub came : {B : Type 0} (tells : Type 0) (q : Stage B ConfigFault) (h : Held) (f : ℕ)
    (r : Result B ConfigFault) → Comes q r → Follows tells (λ _. q) h h f f r
came {B} tells q h f r c = record {
  answers = λ t. come_answers B (q r) r c.answers;
  same = λ t. refl;
  cause = no_cause B f r c.no_shelf;
}

-- ---- tokens and trees

pub text_ok : (style : Style) (name bytes : List ℕ) (ts : List Token) → Reads bytes style (Ok ts)
    → Comes (TextTokens style name bytes) (Ok ts)
text_ok style name bytes ts reads = record {
  answers = inr reads;
  no_shelf = λ z. absurd cc;
}

text_sort : (style : Style) (name bytes : List ℕ) (fault : TextFault) (e : ConfigFault)
    → IsCause bytes style fault → NamedText name fault e
    → (err (List Token) e ≡ err (List Token) faults.Memory) ⊎ TextTokens style name bytes (Err e)
text_sort style name bytes fault e reads (inl m) = inl (ap (err (List Token)) m)
text_sort style name bytes fault e reads (inr s) = inr (fault, s.0, s.1, reads)

text_other : (name : List ℕ) (fault : TextFault) (e : ConfigFault) → NamedText name fault e
    → err (List Token) e ≡ err (List Token) faults.Shelf → ⊥
text_other name fault e (inl m) z = absurd cc
text_other name fault e (inr (m, s)) z = absurd cc

pub text_err : (style : Style) (name bytes : List ℕ) (fault : TextFault) (e : ConfigFault)
    → Reads bytes style (Err fault) → NamedText name fault e
    → Comes (TextTokens style name bytes) (Err e)
text_err style name bytes fault e reads found = record {
  answers = text_sort style name bytes fault e reads found;
  no_shelf = text_other name fault e found;
}

tree_sort : {A : Type 0} (S : Grammar A) (name : List ℕ) (ts : List Token) (fault : CclFault)
    (e : ConfigFault) → IsFault S ts fault → NamedTree name fault e
    → (err A e ≡ err A faults.Memory) ⊎ Tree S name ts (Err e)
tree_sort {A} S name ts fault e is (inl m) = inl (ap (err A) m)
tree_sort {A} S name ts fault e is (inr s) = inr (fault, s.0, s.1, is)

tree_other : (A : Type 0) (name : List ℕ) (fault : CclFault) (e : ConfigFault)
    → NamedTree name fault e → err A e ≡ err A faults.Shelf → ⊥
tree_other A name fault e (inl m) z = absurd cc
tree_other A name fault e (inr (m, s)) z = absurd cc

pub tree_comes : {A : Type 0} (S : Grammar A) (name : List ℕ) (ts : List Token)
    (read : Result A CclFault) (r : Result A ConfigFault) → ReadsBy S (λ x. x) ts read
    → IsTree name read r → Comes (Tree S name ts) r
tree_comes {A} S name ts (Ok x) r answers is =
    subst (λ (z : Result A ConfigFault). Comes (Tree S name ts) z) (sym is) (record {
      answers = inr answers;
      no_shelf = λ z. absurd cc;
    })
tree_comes {A} S name ts (Err fault) r answers (e, is, found) =
    subst (λ (z : Result A ConfigFault). Comes (Tree S name ts) z) (sym is) (record {
      answers = tree_sort S name ts fault e answers found.0;
      no_shelf = tree_other A name fault e found.0;
    })

-- ---- the file under a name

pub named_halted : {B : Type 0} (tells : Type 0) (name : List ℕ)
    (q : Option (List ℕ) → Stage B ConfigFault) (h0 h1 : Held) (f0 f1 : ℕ) (e : ConfigFault)
    → Follows tells (λ files found. found ≡ Ok (files name)) h0 h1 f0 f1 (err (Option (List ℕ)) e)
    → Follows tells (λ files. q (files name)) h0 h1 f0 f1 (err B e)
named_halted {B} tells name q h0 h1 f0 f1 e a = record {
  answers = λ t. by_read B e name h0 (q (h0 name))
      (free tells (λ files found. found ≡ Ok (files name)) h0 h1 f0 f1 e a t);
  same = a.same;
  cause = halted_cause (Option (List ℕ)) B e f0 f1 a.cause;
}
  where
    by_read : (B : Type 0) (e : ConfigFault) (name : List ℕ) (files : Held)
        (q : Stage B ConfigFault)
        → (e ≡ faults.Memory) ⊎ (e ≡ faults.Shelf) ⊎ (err (Option (List ℕ)) e ≡ Ok (files name))
        → (err B e ≡ err B faults.Memory) ⊎ (err B e ≡ err B faults.Shelf) ⊎ q (err B e)
    by_read B e name files q (inl m) = inl (ap (err B) m)
    by_read B e name files q (inr (inl m)) = inr (inl (ap (err B) m))
    by_read B e name files q (inr (inr s)) = absurd cc

same_value : {A : Type 0} (x y : A) → okay A x ≡ okay A y → x ≡ y
same_value x y e = cc

pub named_passed : {B : Type 0} (tells : Type 0) (name : List ℕ)
    (q : Option (List ℕ) → Stage B ConfigFault) (h0 h1 : Held) (f0 f1 : ℕ) (o : Option (List ℕ))
    (r : Result B ConfigFault)
    → Follows tells (λ files found. found ≡ Ok (files name)) h0 h1 f0 f1 (Ok o) → Comes (q o) r
    → Follows tells (λ files. q (files name)) h0 h1 f0 f1 r
named_passed {B} tells name q h0 h1 f0 f1 o r a c = record {
  answers = λ t. come_answers B (q (h0 name) r) r
      (subst (λ (p : Option (List ℕ)). (r ≡ err B faults.Memory) ⊎ q p r) (held t) c.answers);
  same = a.same;
  cause = two_causes (Option (List ℕ)) B f0 f1 f1 (Ok o) r a.cause (no_cause B f1 r c.no_shelf);
}
  where
    held : tells → o ≡ h0 name
    held t = same_value o (h0 name)
        (given tells (λ files found. found ≡ Ok (files name)) h0 h1 f0 f1 o a t)

pub no_file : (style : Style) (name : List ℕ) (e : ConfigFault)
    → (e ≡ faults.Memory) ⊎ (e ≡ faults.NoFile name) → Comes (Tokens style name None) (Err e)
no_file style name e (inl m) =
    record { answers = inl (ap (err (List Token)) m); no_shelf = λ z. absurd cc }
no_file style name e (inr s) =
    record { answers = inr (ap (err (List Token)) s); no_shelf = λ z. absurd cc }

pub none_there : (style : Style) (name : List ℕ) → Comes (TokensIfAny style name None) (Ok None)
none_there style name = record { answers = inr refl; no_shelf = λ z. absurd cc }

pub some_there : (style : Style) (name bytes : List ℕ) (ts : List Token)
    → Comes (TextTokens style name bytes) (Ok ts)
    → Comes (TokensIfAny style name (Some bytes)) (Ok (Some ts))
some_there style name bytes ts c = record {
  answers = inr (inr (ts, there c.answers, refl));
  no_shelf = λ z. absurd cc;
}
  where
    there : (Ok ts ≡ err (List Token) faults.Memory) ⊎ TextTokens style name bytes (Ok ts)
        → TextTokens style name bytes (Ok ts)
    there (inl m) = absurd cc
    there (inr s) = s

pub halted_there : (style : Style) (name bytes : List ℕ) (e : ConfigFault)
    → Comes (TextTokens style name bytes) (Err e)
    → Comes (TokensIfAny style name (Some bytes)) (Err e)
halted_there style name bytes e c = record {
  answers = answers c.answers;
  no_shelf = λ z. c.no_shelf (moved (List Token) (Option (List Token)) e faults.Shelf z);
}
  where
    answers : (err (List Token) e ≡ err (List Token) faults.Memory)
        ⊎ TextTokens style name bytes (Err e)
        → (err (Option (List Token)) e ≡ err (Option (List Token)) faults.Memory)
        ⊎ TokensIfAny style name (Some bytes) (Err e)
    answers (inl m) = inl (moved (Option (List Token)) (List Token) e faults.Memory m)
    answers (inr s) = inr (inl (e, s, refl))

-- ---- a file

pub file_passed : {A : Type 0} (tells : Type 0) (style : Style) (S : Grammar A) (name : List ℕ)
    (h0 h1 : Held) (f0 f1 : ℕ) (ts : List Token) (read : Result A CclFault)
    (r : Result A ConfigFault)
    → Follows tells (λ files. Tokens style name (files name)) h0 h1 f0 f1 (Ok ts)
    → ReadsBy S (λ x. x) ts read → IsTree name read r
    → Follows tells (File style S name) h0 h1 f0 f1 r
file_passed tells style S name h0 h1 f0 f1 ts read r a answers is =
    passed tells (λ files. Tokens style name (files name)) (λ _. Tree S name)
    h0 h1 h1 f0 f1 f1 ts r a
    (came tells (Tree S name ts) h1 f1 r (tree_comes S name ts read r answers is))

pub file_halted : {A : Type 0} (tells : Type 0) (style : Style) (S : Grammar A) (name : List ℕ)
    (h0 h1 : Held) (f0 f1 : ℕ) (e : ConfigFault)
    → Follows tells (λ files. Tokens style name (files name)) h0 h1 f0 f1 (err (List Token) e)
    → Follows tells (File style S name) h0 h1 f0 f1 (err A e)
file_halted tells style S name h0 h1 f0 f1 e a =
    halted tells (λ files. Tokens style name (files name)) (λ _. Tree S name) h0 h1 f0 f1 e a

pub or_passed : {A : Type 0} (tells : Type 0) (absent : A) (style : Style) (S : Grammar A)
    (name : List ℕ) (h0 h1 : Held) (f0 f1 : ℕ) (ts : List Token) (read : Result A CclFault)
    (r : Result A ConfigFault)
    → Follows tells (λ files. TokensIfAny style name (files name)) h0 h1 f0 f1 (Ok (Some ts))
    → ReadsBy S (λ x. x) ts read → IsTree name read r
    → Follows tells (FileOr absent style S name) h0 h1 f0 f1 r
or_passed tells absent style S name h0 h1 f0 f1 ts read r a answers is =
    passed tells (λ files. TokensIfAny style name (files name)) (λ _. TreeIfAny absent S name)
    h0 h1 h1 f0 f1 f1 (Some ts) r a
    (came tells (TreeIfAny absent S name (Some ts)) h1 f1 r
    (tree_comes S name ts read r answers is))

-- ---- the last step

pub done : {B : Type 0} (y : B) (r : Result B ConfigFault) → r ≡ Ok y
    → Comes (λ found. found ≡ Ok y) r
done {B} y r e = subst (λ (z : Result B ConfigFault). Comes (λ found. found ≡ Ok y) z) (sym e)
    (record {
      answers = inr refl;
      no_shelf = λ z. absurd cc;
    })

-- ---- the same of a shelf before and after

module _ {S : Type 0} (shelf : Ghosts S) where
  pub halted_from : {A B : Type 0} (p : Held → Stage A ConfigFault)
      (q : Held → A → Stage B ConfigFault) (s0 s1 : S) (e : ConfigFault)
      → ComesFrom shelf p s0 s1 (err A e) → ComesFrom shelf (λ h. Then (p h) (q h)) s0 s1 (err B e)
  halted_from p q s0 s1 e a =
      halted shelf.tells p q (shelf.held s0) (shelf.held s1) (shelf.faults s0) (shelf.faults s1) e a

  pub passed_from : {A B : Type 0} (p : Held → Stage A ConfigFault)
      (q : Held → A → Stage B ConfigFault) (s0 s1 s2 : S) (x : A) (r : Result B ConfigFault)
      → ComesFrom shelf p s0 s1 (Ok x) → ComesFrom shelf (λ h. q h x) s1 s2 r
      → ComesFrom shelf (λ h. Then (p h) (q h)) s0 s2 r
  passed_from p q s0 s1 s2 x r a b =
      passed shelf.tells p q (shelf.held s0) (shelf.held s1) (shelf.held s2) (shelf.faults s0)
      (shelf.faults s1) (shelf.faults s2) x r a b

  pub came_from : {B : Type 0} (q : Stage B ConfigFault) (s : S) (r : Result B ConfigFault)
      → Comes q r → ComesFrom shelf (λ _. q) s s r
  came_from q s r c = came shelf.tells q (shelf.held s) (shelf.faults s) r c

  pub named_passed_from : {B : Type 0} (name : List ℕ) (q : Option (List ℕ) → Stage B ConfigFault)
      (s0 s1 : S) (o : Option (List ℕ)) (r : Result B ConfigFault)
      → ComesFrom shelf (Finds name) s0 s1 (Ok o) → Comes (q o) r
      → ComesFrom shelf (λ files. q (files name)) s0 s1 r
  named_passed_from name q s0 s1 o r a c =
      named_passed shelf.tells name q (shelf.held s0) (shelf.held s1) (shelf.faults s0)
      (shelf.faults s1) o r a c

  pub file_passed_from : {A : Type 0} (style : Style) (G : Grammar A) (name : List ℕ) (s0 s1 : S)
      (ts : List Token) (read : Result A CclFault) (r : Result A ConfigFault)
      → ComesFrom shelf (TokensOf style name) s0 s1 (Ok ts) → ReadsBy G (λ x. x) ts read
      → IsTree name read r → ComesFrom shelf (File style G name) s0 s1 r
  file_passed_from style G name s0 s1 ts read r a answers is =
      file_passed shelf.tells style G name (shelf.held s0) (shelf.held s1) (shelf.faults s0)
      (shelf.faults s1) ts read r a answers is

  pub or_passed_from : {A : Type 0} (absent : A) (style : Style) (G : Grammar A) (name : List ℕ)
      (s0 s1 : S) (ts : List Token) (read : Result A CclFault) (r : Result A ConfigFault)
      → ComesFrom shelf (TokensOfAny style name) s0 s1 (Ok (Some ts)) → ReadsBy G (λ x. x) ts read
      → IsTree name read r → ComesFrom shelf (FileOr absent style G name) s0 s1 r
  or_passed_from absent style G name s0 s1 ts read r a answers is =
      or_passed shelf.tells absent style G name (shelf.held s0) (shelf.held s1) (shelf.faults s0)
      (shelf.faults s1) ts read r a answers is
