-- What holds of each value that some unmarked tokens spell, and of the token behind them, where the
-- first one is such as F says.
use Rattle.std.proofs.Common.{◌≡◌, Bool, true, false, List, [], ◌∷◌, ◌++◌, Option, Some, None, refl, sym, ap, subst, ◌∙◌}
use Rattle.std.specs.Prelude.{MatchBool}
use Rattle.cx_text.specs.declared.stop.Mark.{Mark}
use Rattle.cx_text.specs.declared.token.Token.{Token}
use Rattle.cx_text.specs.declared.token.Style.TheVariants.{Ccl}
use Rattle.cx_text.specs.Tokens.{is_line_end}
use Rattle.cx_text.specs.Grammar.{Item, next_of, passes}
use Rattle.cx_text.specs.Grammar as grammar
use Rattle.cx_text.specs.Rules.{Rule, token, nothing, ◌>>=◌, choice, last, loop, line_ends, lexeme}
use Rattle.cx_text.proofs.PrintLaws.{Printable}
use Rattle.cx_text.proofs.Holds.{Unmarked, Holds}
use Rattle.cx_text.proofs.LexemeLaws.{Ended}

abbrev pub Fine : Token → Type 0
Fine = Printable Ccl

pub record Sees {A : Type 0} (F : Option Token → Type 0) (r : Rule A)
    (P : A → Option Token → Type 0) : Type 0 where
  pub law : (x : A) (ms : List Item) (next : Option Token) → r.derives x ms next → Unmarked Fine ms
      → F (next_of ms next) → P x next

-- ---- parts of a list

unmarked_front : (a b : List Item) → Unmarked Fine (a ++ b) → Unmarked Fine a
unmarked_front [] b h = tt
unmarked_front (i ∷ a) b h = (h.0, h.1, unmarked_front a b h.2)

unmarked_back : (a b : List Item) → Unmarked Fine (a ++ b) → Unmarked Fine b
unmarked_back [] b h = h
unmarked_back (i ∷ a) b h = unmarked_back a b h.2

next-append : (a b : List Item) (next : Option Token)
    → next_of (a ++ b) next ≡ next_of a (next_of b next)
next-append [] b next = refl
next-append (i ∷ a) b next = refl

-- ---- rules

pub sees_nothing : {A : Type 0} {F : Option Token → Type 0} {x : A} {P : A → Option Token → Type 0}
    → ((n : Option Token) → F n → P x n) → Sees F (nothing x) P
sees_nothing {A} {F} {x} {P} h =
    record {
      law = λ y ms next d u f.
          subst (λ (z : A). P z next) (sym d.0)
          (h next (subst (λ (is : List Item). F (next_of is next)) d.1 f));
    }

pub sees_token : {A : Type 0} {F : Option Token → Type 0} {value : Token → Option A}
    {mark : Token → Option Mark} {P : A → Option Token → Type 0}
    → ((t : Token) (x : A) → Fine t → value t ≡ Some x → mark t ≡ None → F (Some t)
    → (n : Option Token) → P x n) → Sees F (token value mark) P
sees_token {A} {F} {value} {mark} {P} h = record {
  law = λ x ms next d u f.
      let us = subst (λ (is : List Item). Unmarked Fine is) d.2 u in
      h d.0 x us.1 d.1 us.0 (subst (λ (is : List Item). F (next_of is next)) d.2 f) next;
}

-- what holds of the first value by itself, and of the token behind it
pub sees_also : {A B : Type 0} {F : Option Token → Type 0} {r : Rule A} {f : A → Rule B}
    {Q : A → Type 0} {G : A → Option Token → Type 0} {P : B → Option Token → Type 0}
    → Sees F r (λ x n. Q x × G x n) → ((x : A) → Q x → Sees (G x) (f x) P) → Sees F (r >>= f) P
sees_also {A} {B} {F} {r} {f} {Q} {G} {P} first second = record {
  law = λ y ms next d u g.
      let parts : ms ≡ d.1 ++ d.2 = d.3 in
      let us = subst (λ (is : List Item). Unmarked Fine is) parts u in
      let start = subst F (ap (λ (is : List Item). next_of is next) parts
      ∙ next-append d.1 d.2 next) g in
      let q = first.law d.0 d.1 (next_of d.2 next) d.4 (unmarked_front d.1 d.2 us) start in
      (second d.0 q.0).law y d.2 next d.5 (unmarked_back d.1 d.2 us) q.1;
}

way : (b : Bool) (X Y Z : Type 0) → (b ≡ true → X → Z) → (b ≡ false → Y → Z) → MatchBool b X Y → Z
way true X Y Z p q d = p refl d
way false X Y Z p q d = q refl d

pub sees_choice : {A : Type 0} {F : Option Token → Type 0} {test : Token → Bool} {r s : Rule A}
    {P : A → Option Token → Type 0} → Sees (λ n. F n × (passes test n ≡ true)) r P
    → Sees (λ n. F n × (passes test n ≡ false)) s P → Sees F (choice test r s) P
sees_choice {A} {F} {test} {r} {s} {P} first second = record {
  law = λ x ms next d u f.
      way (passes test (next_of ms next)) (r.derives x ms next) (s.derives x ms next) (P x next)
      (λ e h. first.law x ms next h u (f, e)) (λ e h. second.law x ms next h u (f, e)) d;
}

many_see : {C : Type 0} (test : Token → Bool) (r : C → Rule C) (I : C → Option Token → Type 0)
    → ((c : C) → Sees (λ n. I c n × (passes test n ≡ true)) (r c) I)
    → (c : C) (cs : List C) (ms : List Item) (next : Option Token)
    → grammar.many test (λ d. (r d).derives) (λ d x. x) c cs ms next → Unmarked Fine ms
    → I c (next_of ms next) → I (last c cs) next × (passes test next ≡ false)
many_see test r I step c [] ms next d u i = (
  subst (λ (is : List Item). I c (next_of is next)) d.1 i,
  subst (λ (is : List Item). passes test (next_of is next) ≡ false) d.1 d.0,
)
many_see test r I step c (x ∷ cs) ms next d u i =
    let parts : ms ≡ d.1 ++ d.2 = d.3 in
    let us = subst (λ (is : List Item). Unmarked Fine is) parts u in
    let start = subst (λ (n : Option Token). I c n × (passes test n ≡ true))
    (ap (λ (is : List Item). next_of is next) parts ∙ next-append d.1 d.2 next) (i, d.0) in
    let q = (step c).law x d.1 (next_of d.2 next) d.4 (unmarked_front d.1 d.2 us) start in
    many_see test r I step x cs d.2 next d.5 (unmarked_back d.1 d.2 us) q

-- what each turn keeps
pub sees_loop : {C : Type 0} {test : Token → Bool} {r : C → Rule C} {c : C}
    (I : C → Option Token → Type 0) → ((d : C) → Sees (λ n. I d n × (passes test n ≡ true)) (r d) I)
    → Sees (I c) (loop test r c) (λ d n. I d n × (passes test n ≡ false))
sees_loop {C} {test} {r} {c} I step = record {
  law = λ x ms next d u i.
      let parts : ms ≡ d.1 ++ d.2 = d.3 in
      let us = subst (λ (is : List Item). Unmarked Fine is) parts u in
      let start = subst (I c)
      (ap (λ (is : List Item). next_of is next) parts ∙ next-append d.1 d.2 next) i in
      let q = many_see test r I step c d.0 d.1 (next_of d.2 next) d.4 (unmarked_front d.1 d.2 us)
      start in
      let end : next_of d.2 next ≡ next = ap (λ (is : List Item). next_of is next) d.5.1 in
      subst (λ (y : C). I y next × (passes test next ≡ false)) (sym d.5.0)
      (subst (λ (n : Option Token). I (last c d.0) n × (passes test n ≡ false)) end q);
}

pub sees_from : {A : Type 0} {F G : Option Token → Type 0} {r : Rule A}
    {P : A → Option Token → Type 0} → Sees G r P → ((n : Option Token) → F n → G n) → Sees F r P
sees_from h weaker = record { law = λ x ms next d u f. h.law x ms next d u (weaker _ f) }

pub weaker_sees : {A : Type 0} {F : Option Token → Type 0} {r : Rule A}
    {Q P : A → Option Token → Type 0} → Sees F r Q → ((x : A) (n : Option Token) → Q x n → P x n)
    → Sees F r P
weaker_sees h weaker = record { law = λ x ms next d u f. weaker x next (h.law x ms next d u f) }

-- what is known before the first token is known
pub sees_given : {A : Type 0} {F : Option Token → Type 0} {r : Rule A}
    {P : A → Option Token → Type 0} (Q : Type 0) → ((n : Option Token) → F n → Q) → (Q → Sees F r P)
    → Sees F r P
sees_given Q known h = record { law = λ x ms next d u f. (h (known _ f)).law x ms next d u f }

pub of_holds : {A : Type 0} {F : Option Token → Type 0} {r : Rule A} (P : A → Type 0)
    → Holds Fine r (λ n x. P x) → Sees F r (λ x n. P x × Unit {0})
of_holds P h = record { law = λ x ms next d u f. (h.law x ms next d u, tt) }

pub sees_any : {A : Type 0} {F : Option Token → Type 0} (r : Rule A)
    → Sees F r (λ x n. Unit {0} × Unit {0})
sees_any r = record { law = λ x ms next d u f. (tt, tt) }

-- ---- tokens behind which LineEnd is skipped

ends_seen : {F : Option Token → Type 0} (R : Type 0) → ((n : Option Token) → F n → R)
    → Sees F line_ends (λ u n. R × Ended n)
ends_seen R known = sees_from
    (weaker_sees (sees_loop {test = is_line_end} (λ u n. R)
    (λ u. sees_token (λ t x h v m f n. f.0))) (λ u n h. h)) known

pub sees_lexeme : {A : Type 0} {F : Option Token → Type 0} {value : Token → Option A}
    {mark : Token → Option Mark} (R : A → Type 0)
    → ((t : Token) (x : A) → Fine t → value t ≡ Some x → mark t ≡ None → F (Some t) → R x)
    → Sees F (lexeme value mark) (λ x n. R x × Ended n)
sees_lexeme {A} {F} {value} {mark} R h =
    sees_also {Q = R} {G = λ x n. Unit {0}} (sees_token (λ t x k v m f n. (h t x k v m f, tt)))
    (λ x p.
    sees_also {Q = λ u. R x} {G = λ u n. Ended n} (ends_seen (R x) (λ n f. p))
    (λ u q. sees_nothing (λ n e. (q, e))))

pub sees_skipped : {A : Type 0} {F : Option Token → Type 0} {value : Token → Option A}
    {mark : Token → Option Mark} → Sees F (lexeme value mark) (λ x n. Unit {0} × Ended n)
sees_skipped = sees_lexeme (λ x. Unit {0}) (λ t x h v m f. tt)
