-- A choice by the next token keeps what its ways keep.
use Rattle.std.proofs.Common.{◌≡◌, Bool, true, false, cond, List, [], ◌∷◌, ◌++◌, Option, Ok, Err, refl, sym, ap, subst, ◌∙◌, inl, inr}
use Rattle.std.specs.Prelude.{MatchBool}
use Rattle.cx_text.specs.declared.stop.Why.{Why}
use Rattle.cx_text.specs.declared.token.Token.{Token}
use Rattle.cx_text.specs.Grammar.{Item, tokens, head, next_of, passes, Grammar, choice}
use Rattle.cx_text.specs.Reading.{Answer, Read, read_choice}
use Rattle.cx_text.proofs.Laws.{told, tail, Beyond, Taken, Stopped, Reads, head-tokens, head-clean, head-same, next-same, is_first}

-- what the two ways owe
pub record Parts {A : Type 0} (test : Token → Bool) (S R : Grammar A)
    (H : Option Token → Type 0) : Type 0 where
  -- the first way has a token
  pub full : (x : A) (next : Option Token) → S x [] next → ⊥
  -- where the second has none, what follows doesn't pass
  pub stays : (x : A) (next other : Option Token) → R x [] next → H other
      → passes test other ≡ false
  pub some : (next : Option Token) → H next → (x : A) × (ms : List Item) × choice test S R x ms next

pub at_test : (b : Bool) (P Q : Type 0) → b ≡ true → P → MatchBool b P Q
at_test true P Q e h = h
at_test false P Q e h = absurd cc

pub at_other : (b : Bool) (P Q : Type 0) → b ≡ false → Q → MatchBool b P Q
at_other true P Q e h = absurd cc
at_other false P Q e h = h

choice_again : {A : Type 0} (b : Bool) (p q : Read A) (S R : Grammar A) (H : Option Token → Type 0)
    (first : Reads p S H) (second : Reads q R H) (x : A) (ms : List Item) (rest : List Token)
    → MatchBool b (S x ms (head rest)) (R x ms (head rest))
    → cond b (p (tokens ms ++ rest)) (q (tokens ms ++ rest)) ≡ told x ms rest
choice_again true p q S R H first second x ms rest h = first.again x ms rest h
choice_again false p q S R H first second x ms rest h = second.again x ms rest h

choice_takes : {A : Type 0} (b : Bool) (test : Token → Bool) (p q : Read A) (S R : Grammar A)
    (H : Option Token → Type 0) (first : Reads p S H) (second : Reads q R H) (ts : List Token)
    (x : A) (rest : List Token) → passes test (head ts) ≡ b → cond b (p ts) (q ts) ≡ Ok (x, rest)
    → Taken (choice test S R) ts x rest
choice_takes true test p q S R H first second ts x rest t e =
    let k = first.takes ts x rest e in
    record {
      front = k.front;
      parts = k.parts;
      spelled = at_test _ _ _
          (sym (ap (passes test) (ap head k.parts ∙ head-clean k.front rest)) ∙ t) k.spelled;
    }
choice_takes false test p q S R H first second ts x rest t e =
    let k = second.takes ts x rest e in
    record {
      front = k.front;
      parts = k.parts;
      spelled = at_other _ _ _
          (sym (ap (passes test) (ap head k.parts ∙ head-clean k.front rest)) ∙ t) k.spelled;
    }

cond-true : {X : Type 0} (b : Bool) (x y : X) → b ≡ true → cond b x y ≡ x
cond-true b x y e = rw e refl

cond-false : {X : Type 0} (b : Bool) (x y : X) → b ≡ false → cond b x y ≡ y
cond-false b x y e = rw e refl

choice_stops : {A : Type 0} (b : Bool) (test : Token → Bool) (p q : Read A) (S R : Grammar A)
    (H : Option Token → Type 0) (first : Reads p S H) (second : Reads q R H)
    (parts : Parts test S R H) (ts : List Token) (w : Why) (rest : List Token)
    → passes test (head ts) ≡ b → cond b (p ts) (q ts) ≡ Err (w, rest)
    → Stopped (read_choice test p q) (choice test S R) H ts w rest
choice_stops {A} true test p q S R H first second parts ts w rest t e =
    record {
      before = k.before;
      parts = k.parts;
      begins = λ next h. elim (is_first w k.before) [
        | inl i ↦ let s = parts.some next h in (s.0, s.1, rw i.1 s.2, rw i.0 tt)
        | inr n ↦
            let b = k.begins next h in (
              b.0,
              b.1,
              at_test _ _ _
                  (sym (ap (passes test)
                  (ap head k.parts ∙ next-same w k.before rest b.1 next b.3 n))
                  ∙ t) b.2,
              b.3,
            )
      ];
      same = λ other o n. way other o ∙ k.same other o n;
      past = λ other o. elim (k.past other o) [
        | inl e ↦ inl (way other o ∙ e)
        | inr b ↦ inr (subst (λ (a : Answer A). Beyond a (tail other)) (sym (way other o)) b)
      ];
    }
  where
    k : Stopped p S H ts w rest
    k = first.stops ts w rest e

    way : (other : List Token) → head other ≡ head rest
        → cond (passes test (head (k.before ++ other))) (p (k.before ++ other))
        (q (k.before ++ other)) ≡ p (k.before ++ other)
    way other o = cond-true _ _ _
        (ap (passes test) (head-same k.before other rest o ∙ sym (ap head k.parts)) ∙ t)
choice_stops {A} false test p q S R H first second parts ts w rest t e =
    record {
      before = k.before;
      parts = k.parts;
      begins = λ next h. elim (is_first w k.before) [
        | inl i ↦ let s = parts.some next h in (s.0, s.1, rw i.1 s.2, rw i.0 tt)
        | inr n ↦
            let b = k.begins next h in (
              b.0,
              b.1,
              at_other _ _ _
                  (sym (ap (passes test)
                  (ap head k.parts ∙ next-same w k.before rest b.1 next b.3 n))
                  ∙ t) b.2,
              b.3,
            )
      ];
      same = λ other o n. way other o ∙ k.same other o n;
      past = λ other o. elim (k.past other o) [
        | inl e ↦ inl (way other o ∙ e)
        | inr b ↦ inr (subst (λ (a : Answer A). Beyond a (tail other)) (sym (way other o)) b)
      ];
    }
  where
    k : Stopped q R H ts w rest
    k = second.stops ts w rest e

    way : (other : List Token) → head other ≡ head rest
        → cond (passes test (head (k.before ++ other))) (p (k.before ++ other))
        (q (k.before ++ other)) ≡ q (k.before ++ other)
    way other o = cond-false _ _ _
        (ap (passes test) (head-same k.before other rest o ∙ sym (ap head k.parts)) ∙ t)

choice_moves : {A : Type 0} (b : Bool) (test : Token → Bool) (p q : Read A) (S R : Grammar A)
    (H : Option Token → Type 0) (first : Reads p S H) (second : Reads q R H)
    (parts : Parts test S R H) (x : A) (ms : List Item) (next other : Option Token)
    → passes test (next_of ms next) ≡ b → MatchBool b (S x ms next) (R x ms next) → H other
    → choice test S R x ms other
choice_moves true test p q S R H first second parts x [] next other t s h =
    absurd (parts.full x next s)
choice_moves true test p q S R H first second parts x (m ∷ ms) next other t s h =
    at_test _ _ _ t (first.moves x (m ∷ ms) next other s h)
choice_moves false test p q S R H first second parts x [] next other t s h =
    at_other _ _ _ (parts.stays x next other s h) (second.moves x [] next other s h)
choice_moves false test p q S R H first second parts x (m ∷ ms) next other t s h =
    at_other _ _ _ t (second.moves x (m ∷ ms) next other s h)

pub reads_choice : {A : Type 0} (test : Token → Bool) (p q : Read A) (S R : Grammar A)
    (H : Option Token → Type 0) → Reads p S H → Reads q R H → Parts test S R H
    → Reads (read_choice test p q) (choice test S R) H
reads_choice test p q S R H first second parts = record {
  again = λ x ms rest s. ap
      (λ n. cond (passes test n) (p (tokens ms ++ rest)) (q (tokens ms ++ rest)))
      (head-tokens ms rest) ∙ choice_again _ p q S R H first second x ms rest s;
  takes = λ ts x rest e. choice_takes _ test p q S R H first second ts x rest refl e;
  stops = λ ts w rest e. choice_stops _ test p q S R H first second parts ts w rest refl e;
  moves = λ x ms next other s h.
      choice_moves _ test p q S R H first second parts x ms next other refl s h;
}
