-- A token whose mark depends on the one behind it, and then a part.
use Rattle.std.proofs.Common.{◌≡◌, Bool, true, List, [], ◌∷◌, ◌++◌, Option, Some, None, Ok, Err, refl, inl, inr, sym, ap, subst, ◌∙◌}
use Rattle.std.specs.Prelude.{◌⊎◌}
use Rattle.cx_text.specs.declared.stop.Mark.{Mark}
use Rattle.cx_text.specs.declared.stop.Mark.TheVariants.{Repeated}
use Rattle.cx_text.specs.declared.stop.Why.{Why}
use Rattle.cx_text.specs.declared.stop.Why.TheVariants.{Unexpected, Marked}
use Rattle.cx_text.specs.declared.token.Token.{Token}
use Rattle.cx_text.specs.Grammar.{Item, tokens, clean, head, next_of, passes}
use Rattle.cx_text.specs.Reading.{Answer, Read, found, go_on}
use Rattle.cx_text.specs.Rules.{Rule, lookahead}
use Rattle.cx_text.proofs.Laws.{told, second, tail, Beyond, Means, Taken, Stopped, head-tokens, head-clean, head-same, next-same, is_first, ok_is, err_is, ok_goes, err_goes}
use Rattle.cx_text.proofs.RuleLaws.{Part, Any}

-- whatever stands behind the token, the rule has a list before which the token has the same mark
pub record Goes {A B : Type 0} (value : Token → Option A) (test : Token → Bool)
    (mark : Bool → Token → Option Mark) (f : A → Rule B) (H : Option Token → Type 0) : Type 0 where
  pub law : (t : Token) (x : A) (b : Bool) (next : Option Token) → value t ≡ Some x → H next
      → (y : B) × (ms : List Item) × (f x).derives y ms next
      × (mark (passes test (next_of ms next)) t ≡ mark b t)

-- where a token that may have a mark has none, the part goes on behind the next token
pub record Lifts {A B : Type 0} (value : Token → Option A) (test : Token → Bool)
    (mark : Bool → Token → Option Mark) (f : A → Rule B) : Type 0 where
  pub law : (t : Token) (x : A) (rest : List Token) (b : Bool) (m : Mark) → value t ≡ Some x
      → mark b t ≡ Some m → mark (passes test (head rest)) t ≡ None → Beyond ((f x).reads rest) rest

-- ---- what reading the token answers

marked_ok : {A : Type 0} (value : Option A) (m : Option Mark) (t : Token) (ts : List Token) (x : A)
    (mid : List Token) → found value m t ts ≡ Ok (x, mid)
    → (value ≡ Some x) × (m ≡ None) × (ts ≡ mid)
marked_ok None m t ts x mid e = absurd cc
marked_ok {A} (Some y) None t ts x mid e = let h = ok_is y x ts mid e in
    (ap (λ (z : A). Some z) h.0, refl, h.1)
marked_ok (Some y) (Some m) t ts x mid e = absurd cc

marked_err : {A : Type 0} (value : Option A) (m : Option Mark) (t : Token) (ts : List Token)
    (w : Why) (rest : List Token) → found value m t ts ≡ Err (w, rest)
    → (t ∷ ts ≡ rest) × (((value ≡ None) × (Unexpected ≡ w))
    ⊎ ((x : A) × (k : Mark) × (value ≡ Some x) × (m ≡ Some k) × (Marked k ≡ w)))
marked_err {A} None m t ts w rest e = let h = err_is {A = A} Unexpected w (t ∷ ts) rest e in
    (h.1, inl (refl, h.0))
marked_err (Some y) None t ts w rest e = absurd cc
marked_err {A} (Some y) (Some m) t ts w rest e = let h =
    err_is {A = A} (Marked m) w (t ∷ ts) rest e in (h.1, inr (y, m, refl, refl, h.0))

marked_told : {A B : Type 0} (m : Option Mark) (x : A) (f : A → Read B) (y : B) (t : Token)
    (back : List Item) (rest : List Token) → f x (tokens back ++ rest) ≡ told y back rest
    → go_on (found (Some x) m t (tokens back ++ rest)) f ≡ told y ((t, m) ∷ back) rest
marked_told None x f y t back rest h = h
marked_told (Some k) x f y t back rest h = refl

-- ---- the rule

module _ {A B : Type 0} (value : Token → Option A) (test : Token → Bool)
    (mark : Bool → Token → Option Mark) (f : A → Rule B) (H : Option Token → Type 0)
    (one : Means value) (part : (x : A) → Part (f x) Any H) (goes : Goes value test mark f H)
    (lifts : Lifts value test mark f)
    (only : (b : Bool) (t : Token) (m : Mark) → mark b t ≡ Some m → m ≡ Repeated) where
  again : (y : B) (ms : List Item) (rest : List Token)
      → (lookahead value test mark f).derives y ms (head rest)
      → (lookahead value test mark f).reads (tokens ms ++ rest) ≡ told y ms rest
  again y ms rest (x, t, back, v, e, d) =
      let seen : passes test (head (tokens back ++ rest)) ≡ passes test (next_of back (head rest)) =
      ap (passes test) (head-tokens back rest) in
      rw (e, v, seen) (marked_told (mark (passes test (next_of back (head rest))) t) x
      (λ z. (f z).reads) y t back rest ((part x).good.law.again y back rest d))

  takes : (ts : List Token) (y : B) (rest : List Token)
      → (lookahead value test mark f).reads ts ≡ Ok (y, rest)
      → Taken (lookahead value test mark f).derives ts y rest
  takes [] y rest e = absurd cc
  takes (t ∷ ts) y rest e =
      let a = ok_goes (found (value t) (mark (passes test (head ts)) t) t ts) (λ z. (f z).reads)
      y rest e in
      let h = marked_ok (value t) (mark (passes test (head ts)) t) t ts a.0 a.1 a.2 in
      let k = (part a.0).good.law.takes a.1 y rest a.3 in
      let whole : ts ≡ k.front ++ rest = h.2 ∙ k.parts in
      let seen : passes test (head ts) ≡ passes test (next_of (clean k.front) (head rest)) =
      ap (passes test) (ap head whole ∙ head-clean k.front rest) in
      let unmarked : None ≡ mark (passes test (next_of (clean k.front) (head rest))) t =
      sym h.1 ∙ ap (λ b. mark b t) seen in
      record {
        front = t ∷ k.front;
        parts = ap (λ (us : List Token). t ∷ us) whole;
        spelled = (
          a.0,
          t,
          clean k.front,
          h.0,
          ap (λ (m : Option Mark). (t, m) ∷ clean k.front) unmarked,
          k.spelled,
        );
      }

  begins_there : (t : Token) (x : A) (m : Option Mark) (b : Bool) (next : Option Token)
      → value t ≡ Some x → mark b t ≡ m → H next
      → (y : B) × (more : List Item) × (lookahead value test mark f).derives y ((t, m) ∷ more) next
  begins_there t x m b next v e h =
      let k = goes.law t x b next v h in
      (k.0, k.1, (x, t, k.1, v, ap (λ (o : Option Mark). (t, o) ∷ k.1) (sym e ∙ sym k.3), k.2))

  begins_any : (next : Option Token) → H next
      → (y : B) × (more : List Item) × (lookahead value test mark f).derives y more next
  begins_any next h = let k =
      begins_there one.tok one.x (mark true one.tok) true next one.is refl h in
      (k.0, (one.tok, mark true one.tok) ∷ k.1, k.2)

  first_same : (t : Token) → value t ≡ None → (other : List Token) → head other ≡ Some t
      → (lookahead value test mark f).reads other ≡ Err (Unexpected, other)
  first_same t v [] e = absurd cc
  first_same t v (u ∷ us) e = let same : u ≡ t = cc in rw (same, v) refl

  marked_same : (t : Token) (ts : List Token) (x : A) (k : Mark) → value t ≡ Some x
      → mark (passes test (head ts)) t ≡ Some k → (other : List Token) → head other ≡ Some t
      → second other ≡ head ts → (lookahead value test mark f).reads other ≡ Err (Marked k, other)
  marked_same t ts x k v m [] e s = absurd cc
  marked_same t ts x k v m (u ∷ us) e s =
      let same : u ≡ t = cc in
      let seen : passes test (head us) ≡ passes test (head ts) = ap (passes test) s in
      rw (same, v, seen, m) refl

  -- a mark there, by another token behind, is the same; without one the part goes on
  marked_past : (t : Token) (x : A) (b : Bool) (k : Mark) → value t ≡ Some x → mark b t ≡ Some k
      → (other : List Token) → head other ≡ Some t
      → ((lookahead value test mark f).reads other ≡ Err (Marked k, other))
      ⊎ Beyond ((lookahead value test mark f).reads other) (tail other)
  marked_past t x b k v m [] e = absurd cc
  marked_past t x b k v m (u ∷ us) e = by (mark (passes test (head us)) t) refl
    where
      same : u ≡ t
      same = cc

      by : (o : Option Mark) → mark (passes test (head us)) t ≡ o
          → ((lookahead value test mark f).reads (u ∷ us) ≡ Err (Marked k, u ∷ us))
          ⊎ Beyond ((lookahead value test mark f).reads (u ∷ us)) us
      by None o = inr (let read : (lookahead value test mark f).reads (u ∷ us) ≡ (f x).reads us =
          rw (same, v, o) refl in
          subst (λ (a : Answer B). Beyond a us) (sym read) (lifts.law t x us b k v m o))
      by (Some l) o =
          let one : l ≡ k = only (passes test (head us)) t l o ∙ sym (only b t k m) in
          inl (rw (same, v, o, one) refl)

  ended_same : (other : List Token) → head other ≡ None
      → (lookahead value test mark f).reads other ≡ Err (Unexpected, other)
  ended_same [] e = refl
  ended_same (u ∷ us) e = absurd cc

  inner : (t : Token) (ts : List Token) (x : A) (w : Why) (rest : List Token) → value t ≡ Some x
      → mark (passes test (head ts)) t ≡ None → (f x).reads ts ≡ Err (w, rest)
      → Stopped (lookahead value test mark f).reads (lookahead value test mark f).derives H (t ∷ ts)
      w rest
  inner t ts x w rest v m e =
      let k = (part x).good.law.stops ts w rest e in
      record {
        before = t ∷ k.before;
        parts = ap (λ (us : List Token). t ∷ us) k.parts;
        begins = λ next h. elim (is_first w k.before) [
          | inl i ↦ let b = begins_there t x None (passes test (head ts)) next v m h in
              (b.0, b.1, rw i.1 b.2, rw i.0 tt)
          | inr n ↦
              let b = k.begins next h in
              let seen : passes test (head ts)
              ≡ passes test (next_of (clean k.before ++ b.1) next) =
              ap (passes test) (ap head k.parts ∙ next-same w k.before rest b.1 next b.3 n) in
              let unmarked : None ≡ mark (passes test (next_of (clean k.before ++ b.1) next)) t =
              sym m ∙ ap (λ c. mark c t) seen in (
                b.0,
                b.1,
                (
                  x,
                  t,
                  clean k.before ++ b.1,
                  v,
                  ap (λ (o : Option Mark). (t, o) ∷ (clean k.before ++ b.1)) unmarked,
                  b.2,
                ),
                b.3,
              )
        ];
        same = λ other o n.
            let seen : passes test (head (k.before ++ other)) ≡ passes test (head ts) =
            ap (passes test) (head-same k.before other rest o ∙ sym (ap head k.parts)) in
            rw (v, seen, m) (k.same other o n);
        past = λ other o.
            let seen : passes test (head (k.before ++ other)) ≡ passes test (head ts) =
            ap (passes test) (head-same k.before other rest o ∙ sym (ap head k.parts)) in
            rw (v, seen, m) (k.past other o);
      }

  stops : (ts : List Token) (w : Why) (rest : List Token)
      → (lookahead value test mark f).reads ts ≡ Err (w, rest)
      → Stopped (lookahead value test mark f).reads
      (lookahead value test mark f).derives H ts w rest
  stops [] w rest e =
      let h = err_is {A = B} Unexpected w [] rest e in
      subst (λ (r : List Token).
      Stopped (lookahead value test mark f).reads (lookahead value test mark f).derives H []
      w r) h.1
      (subst (λ (v : Why). Stopped (lookahead value test mark f).reads
      (lookahead value test mark f).derives H [] v []) h.0
      (record {
        before = [];
        parts = refl;
        begins = λ next h. let b = begins_any next h in
            (b.0, b.1, b.2, tt);
        same = λ other e n. ended_same other e;
        past = λ other e. inl (ended_same other e);
      }))
  stops (t ∷ ts) w rest e =
      elim (err_goes (found (value t) (mark (passes test (head ts)) t) t ts) (λ z. (f z).reads)
      w rest e) [
        | inr a ↦
            let h = marked_ok (value t) (mark (passes test (head ts)) t) t ts a.0 a.1 a.2 in
            inner t ts a.0 w rest h.0 h.1 (ap (f a.0).reads h.2 ∙ a.3)
        | inl a ↦
            let h = marked_err (value t) (mark (passes test (head ts)) t) t ts w rest a in
            subst (λ (r : List Token).
            Stopped (lookahead value test mark f).reads (lookahead value test mark f).derives H
            (t ∷ ts) w r) h.0
            (elim h.1 [
              | inl n
                  ↦ subst (λ (v : Why).
                  Stopped (lookahead value test mark f).reads
                  (lookahead value test mark f).derives H (t ∷ ts) v (t ∷ ts)) n.1
                  (record {
                    before = [];
                    parts = refl;
                    begins = λ next g. let b = begins_any next g in
                        (b.0, b.1, b.2, tt);
                    same = λ other e k. first_same t n.0 other e;
                    past = λ other e. inl (first_same t n.0 other e);
                  })
              | inr m
                  ↦ subst (λ (v : Why).
                  Stopped (lookahead value test mark f).reads
                  (lookahead value test mark f).derives H (t ∷ ts) v (t ∷ ts)) m.4
                  (record {
                    before = [];
                    parts = refl;
                    begins = λ next g. let b =
                        begins_there t m.0 (Some m.1) (passes test (head ts)) next m.2 m.3 g in
                        (b.0, (t, Some m.1) ∷ b.1, b.2, refl);
                    same = λ other o k.
                        marked_same t ts m.0 m.1 m.2 m.3 other o
                        (k (ap (λ (r : Mark). Marked r) (only (passes test (head ts)) t m.1 m.3)));
                    past = λ other o. marked_past t m.0 (passes test (head ts)) m.1 m.2 m.3 other o;
                  })
            ])
      ]

  moves : (y : B) (ms : List Item) (next other : Option Token)
      → (lookahead value test mark f).derives y ms next → H other
      → (lookahead value test mark f).derives y ms other
  moves y ms next other (x, t, [], v, e, d) h = absurd ((part x).full.law y next d)
  moves y ms next other (x, t, (i ∷ back), v, e, d) h =
      (x, t, i ∷ back, v, e, (part x).good.law.moves y (i ∷ back) next other d h)

  lookahead_full : (y : B) (next : Option Token) → (lookahead value test mark f).derives y [] next
      → ⊥
  lookahead_full y next (x, t, back, v, e, d) = absurd cc

  pub lookahead_part : {F : Option Token → Type 0} → F (Some one.tok)
      → Part (lookahead value test mark f) F H
  lookahead_part {F} g = record {
    good = record { law = record { again = again; takes = takes; stops = stops; moves = moves } };
    full = record { law = lookahead_full };
    ends = λ next h. let k =
        begins_there one.tok one.x (mark true one.tok) true next one.is refl h in
        record { law = (k.0, (one.tok, mark true one.tok) ∷ k.1, k.2, g) };
    one = Some one.tok;
    allowed = g;
  }
