-- What a reading function owes its grammar, and that the ways to join them keep it.
use Rattle.std.proofs.Common.{◌≡◌, ◌<◌, List, [], ◌∷◌, ◌++◌, length, Option, Some, None, Ok, Err, refl, inl, inr, sym, ap, subst, ◌∙◌, append_assoc, arith}
use Rattle.std.specs.Prelude.{◌⊎◌}
use Rattle.std.proofs.lemmas.List.{append-nil, length-append}
use Rattle.cx_text.specs.declared.stop.Mark.{Mark}
use Rattle.cx_text.specs.declared.stop.Mark.TheVariants.{Repeated}
use Rattle.cx_text.specs.declared.stop.Why.{Why}
use Rattle.cx_text.specs.declared.stop.Why.TheVariants.{Unexpected, Marked}
use Rattle.cx_text.specs.declared.token.Token.{Token}
use Rattle.cx_text.specs.Grammar.{Item, tokens, clean, head, next_of, Grammar, token, nothing, also}
use Rattle.cx_text.specs.Reading.{Answer, Read, unless_marked, found, read_token, read_nothing, go_on, read_also}

-- what reading answers on a derived list: the first mark, else the value
abbrev pub told : {A : Type 0} → A → List Item → List Token → Answer A
told x [] rest = Ok (x, rest)
told x ((t, None) ∷ ms) rest = told x ms rest
told x ((t, Some m) ∷ ms) rest = Err (Marked m, t ∷ (tokens ms ++ rest))

-- the token behind the first
abbrev pub second : List Token → Option Token
second [] = None
second (t ∷ ts) = head ts

abbrev pub tail : List Token → List Token
tail [] = []
tail (t ∷ ts) = ts

-- reading went further than to these tokens, or met a mark
abbrev pub Short : Why → List Token → List Token → Type 0
Short Unexpected rest ts = length rest < length ts
Short (Marked m) rest ts = Unit {0}

abbrev pub Beyond : {A : Type 0} → Answer A → List Token → Type 0
Beyond (Ok x) ts = length x.1 < length ts
Beyond (Err e) ts = Short e.0 e.1 ts

-- a list that goes on is what the fault says of its first token
abbrev pub Shows : Why → List Token → List Item → Type 0
Shows Unexpected rest more = Unit {0}
Shows (Marked m) [] more = ⊥
Shows (Marked m) (t ∷ ts) [] = ⊥
Shows (Marked m) (t ∷ ts) (i ∷ is) = i ≡ (t, Some m)

-- a list was read whole
pub record Taken {A : Type 0} (S : Grammar A) (ts : List Token) (x : A)
    (rest : List Token) : Type 0 where
  pub front : List Token
  pub parts : ts ≡ front ++ rest
  pub spelled : S x (clean front) (head rest)

-- Reading stopped. The tokens before begin a derived list, before each next token that G allows,
-- and any list that goes on with the same token is stopped at it too; at a repeated word, any with
-- the same token behind it. Where another stands there, reading is stopped at the word too, or goes
-- on behind that one.
pub record Stopped {A : Type 0} (p : Read A) (S : Grammar A) (G : Option Token → Type 0)
    (ts : List Token) (w : Why) (rest : List Token) : Type 0 where
  pub before : List Token
  pub parts : ts ≡ before ++ rest
  pub begins : (next : Option Token) → G next
      → (x : A) × (more : List Item) × S x (clean before ++ more) next × Shows w rest more
  pub same : (other : List Token) → head other ≡ head rest
      → (w ≡ Marked Repeated → second other ≡ second rest) → p (before ++ other) ≡ Err (w, other)
  pub past : (other : List Token) → head other ≡ head rest
      → (p (before ++ other) ≡ Err (w, other)) ⊎ Beyond (p (before ++ other)) (tail other)

pub record Reads {A : Type 0} (p : Read A) (S : Grammar A)
    (G : Option Token → Type 0) : Type 0 where
  pub again : (x : A) (ms : List Item) (rest : List Token) → S x ms (head rest)
      → p (tokens ms ++ rest) ≡ told x ms rest
  pub takes : (ts : List Token) (x : A) (rest : List Token) → p ts ≡ Ok (x, rest)
      → Taken S ts x rest
  pub stops : (ts : List Token) (w : Why) (rest : List Token) → p ts ≡ Err (w, rest)
      → Stopped p S G ts w rest
  pub moves : (x : A) (ms : List Item) (next other : Option Token) → S x ms next → G other
      → S x ms other

-- some derived list, before a next token, whose own first token is allowed
abbrev pub Completes : {A : Type 0} → Grammar A → Option Token → (Option Token → Type 0) → Type 0
Completes {A} S next G = (x : A) × (ms : List Item) × S x ms next × G (next_of ms next)

-- ---- lists

pub tokens-append : (a b : List Item) → tokens (a ++ b) ≡ tokens a ++ tokens b
tokens-append [] b = refl
tokens-append (m ∷ a) b = ap (λ (ts : List Token). m.0 ∷ ts) (tokens-append a b)

pub clean-append : (a b : List Token) → clean (a ++ b) ≡ clean a ++ clean b
clean-append [] b = refl
clean-append (t ∷ a) b = ap (λ (ms : List Item). (t, None) ∷ ms) (clean-append a b)

pub tokens-clean : (a : List Token) → tokens (clean a) ≡ a
tokens-clean [] = refl
tokens-clean (t ∷ a) = ap (λ (ts : List Token). t ∷ ts) (tokens-clean a)

pub head-tokens : (ms : List Item) (rest : List Token)
    → head (tokens ms ++ rest) ≡ next_of ms (head rest)
head-tokens [] rest = refl
head-tokens (m ∷ ms) rest = refl

pub head-clean : (front rest : List Token)
    → head (front ++ rest) ≡ next_of (clean front) (head rest)
head-clean [] rest = refl
head-clean (t ∷ front) rest = refl

pub head-same : (before other rest : List Token) → head other ≡ head rest
    → head (before ++ other) ≡ head (before ++ rest)
head-same [] other rest h = h
head-same (t ∷ before) other rest h = refl

-- the tokens of a list whose first part stands before a second
pub regrouped : (a b : List Item) (rest : List Token)
    → tokens (a ++ b) ++ rest ≡ tokens a ++ (tokens b ++ rest)
regrouped a b rest = ap (λ (ts : List Token). ts ++ rest) (tokens-append a b)
    ∙ append_assoc (tokens a) (tokens b) rest

pub told-clean : {A : Type 0} (x : A) (front rest : List Token)
    → told x (clean front) rest ≡ Ok (x, rest)
told-clean x [] rest = refl
told-clean x (t ∷ front) rest = told-clean x front rest

pub told-also : {A B : Type 0} (x : A) (f : A → Read B) (y : B) (front back : List Item)
    (rest : List Token) → f x (tokens back ++ rest) ≡ told y back rest
    → go_on (told x front (tokens back ++ rest)) f ≡ told y (front ++ back) rest
told-also x f y [] back rest h = h
told-also x f y ((t, None) ∷ front) back rest h = told-also x f y front back rest h
told-also {A} {B} x f y ((t, Some m) ∷ front) back rest h =
    let failed : List Token → Answer B = λ ts. Err (Marked m, t ∷ ts) in
    ap failed (sym (regrouped front back rest))

-- what is read is read before any other list with the same first token
pub taken_same : {A : Type 0} (p : Read A) (S : Grammar A) (G : Option Token → Type 0)
    (r : Reads p S G) (ts : List Token) (x : A) (rest : List Token) (t : Taken S ts x rest)
    (other : List Token) → head other ≡ head rest → p (t.front ++ other) ≡ Ok (x, other)
taken_same p S G r ts x rest t other h =
    ap (λ (us : List Token). p (us ++ other)) (sym (tokens-clean t.front))
    ∙ r.again x (clean t.front) other
    (subst (λ (n : Option Token). S x (clean t.front) n) (sym h) t.spelled)
    ∙ told-clean x t.front other

-- ---- answers

abbrev done : {A : Type 0} → A → List Token → Answer A
done x ts = Ok (x, ts)

abbrev failed : {A : Type 0} → Why → List Token → Answer A
failed w ts = Err (w, ts)

pub ok_is : {A : Type 0} (x y : A) (ts us : List Token) → done x ts ≡ done y us
    → (x ≡ y) × (ts ≡ us)
ok_is {A} x y ts us e = let p : (x, ts) ≡ (y, us) = cc in
    (ap (λ (q : A × List Token). q.0) p, ap (λ (q : A × List Token). q.1) p)

pub err_is : {A : Type 0} (v w : Why) (ts us : List Token) → failed {A = A} v ts ≡ failed w us
    → (v ≡ w) × (ts ≡ us)
err_is v w ts us e = let p : (v, ts) ≡ (w, us) = cc in
    (ap (λ (q : Why × List Token). q.0) p, ap (λ (q : Why × List Token). q.1) p)

pub ok_goes : {A B : Type 0} (r : Answer A) (f : A → Read B) (y : B) (rest : List Token)
    → go_on r f ≡ Ok (y, rest)
    → (x : A) × (mid : List Token) × (r ≡ Ok (x, mid)) × (f x mid ≡ Ok (y, rest))
ok_goes (Ok x) f y rest e = (x.0, x.1, refl, e)
ok_goes (Err d) f y rest e = absurd cc

pub err_goes : {A B : Type 0} (r : Answer A) (f : A → Read B) (w : Why) (rest : List Token)
    → go_on r f ≡ Err (w, rest)
    → (r ≡ Err (w, rest)) ⊎ ((x : A) × (mid : List Token) × (r ≡ Ok (x, mid))
    × (f x mid ≡ Err (w, rest)))
err_goes (Ok x) f w rest e = inr (x.0, x.1, refl, e)
err_goes {A} {B} (Err d) f w rest e = let h = err_is {A = B} d.0 w d.1 rest e in
    inl (rw (h.0, h.1) refl)

-- ---- no token

pub reads_nothing : {A : Type 0} (x : A) (G : Option Token → Type 0)
    → Reads (read_nothing x) (nothing x) G
reads_nothing x G = record {
  moves = λ y ms next other s g. s;
  again = λ y ms rest s. rw (s.1, s.0) refl;
  takes = λ ts y rest e. let h = ok_is x y ts rest e in
      record { front = []; parts = h.1; spelled = (sym h.0, refl) };
  stops = λ ts w rest e. absurd cc;
}

-- ---- one token

found_ok : {A : Type 0} (v : Option A) (m : Option Mark) (t : Token) (ts : List Token) (x : A)
    (rest : List Token) → found v m t ts ≡ Ok (x, rest) → (v ≡ Some x) × (m ≡ None) × (ts ≡ rest)
found_ok None m t ts x rest e = absurd cc
found_ok {A} (Some y) None t ts x rest e = let h = ok_is y x ts rest e in
    (ap (λ (z : A). Some z) h.0, refl, h.1)
found_ok (Some y) (Some m) t ts x rest e = absurd cc

found_err : {A : Type 0} (v : Option A) (m : Option Mark) (t : Token) (ts : List Token) (w : Why)
    (rest : List Token) → found v m t ts ≡ Err (w, rest)
    → (t ∷ ts ≡ rest) × (((v ≡ None) × (Unexpected ≡ w))
    ⊎ ((x : A) × (k : Mark) × (v ≡ Some x) × (m ≡ Some k) × (Marked k ≡ w)))
found_err {A} None m t ts w rest e = let h = err_is {A = A} Unexpected w (t ∷ ts) rest e in
    (h.1, inl (refl, h.0))
found_err (Some y) None t ts w rest e = absurd cc
found_err {A} (Some y) (Some m) t ts w rest e = let h =
    err_is {A = A} (Marked m) w (t ∷ ts) rest e in (h.1, inr (y, m, refl, refl, h.0))

unless-told : {A : Type 0} (m : Option Mark) (x : A) (t : Token) (rest : List Token)
    → unless_marked m x t rest ≡ told x ((t, m) ∷ []) rest
unless-told None x t rest = refl
unless-told (Some k) x t rest = refl

-- some token means something
pub record Means {A : Type 0} (value : Token → Option A) : Type 0 where
  pub tok : Token
  pub x : A
  pub is : value tok ≡ Some x

token_again : {A : Type 0} (value : Token → Option A) (mark : Token → Option Mark) (x : A)
    (ms : List Item) (rest : List Token) → token value mark x ms (head rest)
    → read_token value mark (tokens ms ++ rest) ≡ told x ms rest
token_again value mark x ms rest s = rw (s.2, s.1) (unless-told (mark s.0) x s.0 rest)

token_takes : {A : Type 0} (value : Token → Option A) (mark : Token → Option Mark) (ts : List Token)
    (x : A) (rest : List Token) → read_token value mark ts ≡ Ok (x, rest)
    → Taken (token value mark) ts x rest
token_takes value mark [] x rest e = absurd cc
token_takes value mark (t ∷ ts) x rest e =
    let h = found_ok (value t) (mark t) t ts x rest e in
    record {
      front = t ∷ [];
      parts = ap (λ (us : List Token). t ∷ us) h.2;
      spelled = (t, h.0, ap (λ (m : Option Mark). (t, m) ∷ []) (sym h.1));
    }

token_same : {A : Type 0} (value : Token → Option A) (mark : Token → Option Mark) (t : Token)
    (w : Why) → ((ts : List Token) → found (value t) (mark t) t ts ≡ Err (w, t ∷ ts))
    → (other : List Token) → head other ≡ Some t → read_token value mark other ≡ Err (w, other)
token_same value mark t w h [] e = absurd cc
token_same value mark t w h (u ∷ us) e = let same : u ≡ t = cc in rw same (h us)

token_ended : {A : Type 0} (value : Token → Option A) (mark : Token → Option Mark)
    (other : List Token) → head other ≡ None → read_token value mark other ≡ Err (Unexpected, other)
token_ended value mark [] e = refl
token_ended value mark (u ∷ us) e = absurd cc

token_stops : {A : Type 0} (value : Token → Option A) (mark : Token → Option Mark)
    (one : Means value) (G : Option Token → Type 0) (ts : List Token) (w : Why) (rest : List Token)
    → read_token value mark ts ≡ Err (w, rest)
    → Stopped (read_token value mark) (token value mark) G ts w rest
token_stops {A} value mark one G [] w rest e =
    let h = err_is {A = A} Unexpected w [] rest e in
    subst (λ (r : List Token). Stopped (read_token value mark) (token value mark) G [] w r) h.1
    (subst (λ (v : Why). Stopped (read_token value mark) (token value mark) G [] v []) h.0
    (record {
      before = [];
      parts = refl;
      begins = λ next g. (one.x, (one.tok, mark one.tok) ∷ [], (one.tok, one.is, refl), tt);
      same = λ other e n. token_ended value mark other e;
      past = λ other e. inl (token_ended value mark other e);
    }))
token_stops {A} value mark one G (t ∷ ts) w rest e =
    let h = found_err (value t) (mark t) t ts w rest e in
    subst (λ (r : List Token). Stopped (read_token value mark) (token value mark) G (t ∷ ts) w r)
    h.0
    (elim h.1 [
      | inl n
          ↦ subst (λ (v : Why). Stopped (read_token value mark) (token value mark) G (t ∷ ts) v
          (t ∷ ts)) n.1
          (record {
            before = [];
            parts = refl;
            begins = λ next g. (one.x, (one.tok, mark one.tok) ∷ [], (one.tok, one.is, refl), tt);
            same = λ other e k. token_same value mark t Unexpected (λ us. rw n.0 refl) other e;
            past = λ other e. inl (token_same value mark t Unexpected (λ us. rw n.0 refl) other e);
          })
      | inr m
          ↦ subst (λ (v : Why). Stopped (read_token value mark) (token value mark) G (t ∷ ts) v
          (t ∷ ts)) m.4
          (record {
            before = [];
            parts = refl;
            begins = λ next g. (
              m.0,
              (t, Some m.1) ∷ [],
              (t, m.2, ap (λ (k : Option Mark). (t, k) ∷ []) (sym m.3)),
              refl,
            );
            same = λ other e k. token_same value mark t (Marked m.1) (λ us. rw (m.2, m.3) refl)
                other e;
            past = λ other e.
                inl (token_same value mark t (Marked m.1) (λ us. rw (m.2, m.3) refl) other e);
          })
    ])

pub reads_token : {A : Type 0} (value : Token → Option A) (mark : Token → Option Mark)
    (one : Means value) (G : Option Token → Type 0)
    → Reads (read_token value mark) (token value mark) G
reads_token value mark one G = record {
  moves = λ x ms next other s g. s;
  again = token_again value mark;
  takes = token_takes value mark;
  stops = token_stops value mark one G;
}

-- ---- one part, and then another

also_again : {A B : Type 0} (p : Read A) (S : Grammar A) (G : Option Token → Type 0)
    (f : A → Read B) (R : A → Grammar B) (H : Option Token → Type 0) (first : Reads p S G)
    (second : (x : A) → Reads (f x) (R x) H)
    (y : B) (ms : List Item) (rest : List Token) → also S R y ms (head rest)
    → read_also p f (tokens ms ++ rest) ≡ told y ms rest
also_again p S G f R H first second y ms rest (x, front, back, e, s, r) =
    let at_front : S x front (head (tokens back ++ rest)) =
    subst (λ (n : Option Token). S x front n) (sym (head-tokens back rest)) s in
    rw e (ap (λ (us : List Token). go_on (p us) f) (regrouped front back rest)
    ∙ ap (λ a. go_on a f) (first.again x front (tokens back ++ rest) at_front)
    ∙ told-also x f y front back rest ((second x).again y back rest r))

also_takes : {A B : Type 0} (p : Read A) (S : Grammar A) (G : Option Token → Type 0)
    (f : A → Read B) (R : A → Grammar B) (H : Option Token → Type 0) (first : Reads p S G)
    (second : (x : A) → Reads (f x) (R x) H)
    (ts : List Token) (y : B) (rest : List Token) → read_also p f ts ≡ Ok (y, rest)
    → Taken (also S R) ts y rest
also_takes p S G f R H first second ts y rest e =
    let b = ok_goes (p ts) f y rest e in
    let t = first.takes ts b.0 b.1 b.2 in
    let u = (second b.0).takes b.1 y rest b.3 in
    let next : head b.1 ≡ next_of (clean u.front) (head rest) =
    ap head u.parts ∙ head-clean u.front rest in
    record {
      front = t.front ++ u.front;
      parts = t.parts ∙ ap (λ (us : List Token). t.front ++ us) u.parts
          ∙ sym (append_assoc t.front u.front rest);
      spelled = (
        b.0,
        clean t.front,
        clean u.front,
        clean-append t.front u.front,
        subst (λ (n : Option Token). S b.0 (clean t.front) n) next t.spelled,
        u.spelled,
      );
    }

pub Shows-append : (w : Why) (rest : List Token) (more back : List Item) → Shows w rest more
    → Shows w rest (more ++ back)
Shows-append Unexpected rest more back h = tt
Shows-append (Marked m) [] more back h = absurd h
Shows-append (Marked m) (t ∷ ts) [] back h = absurd h
Shows-append (Marked m) (t ∷ ts) (i ∷ is) back h = h

-- the next tokens before which a part that comes first has other completions
pub next-same : (w : Why) (before : List Token) (rest : List Token) (more : List Item)
    (next : Option Token) → Shows w rest more → (w ≡ Unexpected → before ≡ [] → ⊥)
    → head (before ++ rest) ≡ next_of (clean before ++ more) next
next-same w (t ∷ before) rest more next h n = refl
next-same Unexpected [] rest more next h n = absurd (n refl refl)
next-same (Marked m) [] [] more next h n = absurd h
next-same (Marked m) [] (t ∷ ts) [] next h n = absurd h
next-same (Marked m) [] (t ∷ ts) (i ∷ is) next h n = ap (λ (j : Item). Some j.0) (sym h)

-- a fault that no completion shows: the first token of a part is unexpected
pub is_first : (w : Why) (before : List Token)
    → ((w ≡ Unexpected) × (before ≡ [])) ⊎ (w ≡ Unexpected → before ≡ [] → ⊥)
is_first Unexpected [] = inl (refl, refl)
is_first Unexpected (t ∷ before) = inr (λ a b. absurd cc)
is_first (Marked m) before = inr (λ a b. absurd cc)

-- what two parts owe each other
pub record Joins {A B : Type 0} (S : Grammar A) (G : Option Token → Type 0) (R : A → Grammar B)
    (H : Option Token → Type 0) : Type 0 where
  -- something may follow the first
  pub one : Option Token
  pub allowed : G one
  -- the second has a derived list whose first token may follow the first
  pub ends : (x : A) (next : Option Token) → H next → Completes (R x) next G
  -- where the second has no token, what follows it may follow the first
  pub through : (x : A) (y : B) (next other : Option Token) → R x y [] next → H other → G other

-- what is read behind a part leaves no more than that
no_longer : (ts front rest us : List Token) → ts ≡ front ++ rest → length ts < length us
    → length rest < length us
no_longer ts front rest us parts less =
    (let whole : length ts ≡ length (front ++ rest) = ap length parts in
    let sum = length-append front rest in omega (arith, whole, sum, less))

pub behind : {B : Type 0} (q : Read B) (R : Grammar B) (H : Option Token → Type 0) → Reads q R H
    → (ts us : List Token) → length ts < length us → Beyond (q ts) us
behind {B} q R H r ts us less = by (q ts) refl
  where
    stop : (w : Why) (rest : List Token) → Stopped q R H ts w rest → Short w rest us
    stop Unexpected rest k = no_longer ts k.before rest us k.parts less
    stop (Marked m) rest k = tt

    by : (a : Answer B) → q ts ≡ a → Beyond a us
    by (Ok x) e = let t = r.takes ts x.0 x.1 e in no_longer ts t.front x.1 us t.parts less
    by (Err d) e = stop d.0 d.1 (r.stops ts d.0 d.1 e)

pub beyond_also : {A B : Type 0} (f : A → Read B) (R : A → Grammar B) (H : Option Token → Type 0)
    → ((x : A) → Reads (f x) (R x) H) → (a : Answer A) (us : List Token) → Beyond a us
    → Beyond (go_on a f) us
beyond_also f R H second (Ok x) us less = behind (f x.0) (R x.0) H (second x.0) x.1 us less
beyond_also f R H second (Err e) us less = less

also_first : {A B : Type 0} (p : Read A) (S : Grammar A) (G : Option Token → Type 0)
    (f : A → Read B) (R : A → Grammar B) (H : Option Token → Type 0) (first : Reads p S G)
    (second : (x : A) → Reads (f x) (R x) H) (joins : Joins S G R H)
    (ts : List Token) (w : Why) (rest : List Token) → Stopped p S G ts w rest
    → Stopped (read_also p f) (also S R) H ts w rest
also_first {A} {B} p S G f R H first second joins ts w rest s =
    record {
      before = s.before;
      parts = s.parts;
      begins = λ next h.
          let b = s.begins joins.one joins.allowed in
          let e = joins.ends b.0 next h in (
            e.0,
            b.1 ++ e.1,
            (
              b.0,
              clean s.before ++ b.1,
              e.1,
              sym (append_assoc (clean s.before) b.1 e.1),
              first.moves b.0 (clean s.before ++ b.1) joins.one (next_of e.1 next) b.2 e.3,
              e.2,
            ),
            Shows-append w rest b.1 e.1 b.3,
          );
      same = λ other e n. ap (λ a. go_on a f) (s.same other e n);
      past = λ other e. elim (s.past other e) [
        | inl q ↦ inl (ap (λ a. go_on a f) q)
        | inr b ↦ inr (beyond_also f R H second (p (s.before ++ other)) (tail other) b)
      ];
    }

also_second : {A B : Type 0} (p : Read A) (S : Grammar A) (G : Option Token → Type 0)
    (f : A → Read B) (R : A → Grammar B) (H : Option Token → Type 0) (first : Reads p S G)
    (joins : Joins S G R H)
    (ts : List Token) (x : A) (mid : List Token) (w : Why) (rest : List Token)
    (t : Taken S ts x mid) → Stopped (f x) (R x) H mid w rest
    → Stopped (read_also p f) (also S R) H ts w rest
also_second {A} {B} p S G f R H first joins ts x mid w rest t u =
    record {
      before = t.front ++ u.before;
      parts = t.parts ∙ ap (λ (us : List Token). t.front ++ us) u.parts
          ∙ sym (append_assoc t.front u.before rest);
      begins = λ next h.
          elim (is_first w u.before) [
            | inl i ↦
                let e = joins.ends x next h in
                let whole : clean (t.front ++ u.before) ++ e.1 ≡ clean t.front ++ e.1 =
                rw i.1 (ap (λ (a : List Item). a ++ e.1)
                (clean-append t.front [] ∙ append-nil (clean t.front))) in (
                  e.0,
                  e.1,
                  (
                    x,
                    clean t.front,
                    e.1,
                    whole,
                    first.moves x (clean t.front) (head mid) (next_of e.1 next) t.spelled e.3,
                    e.2,
                  ),
                  rw i.0 tt,
                )
            | inr n ↦
                let b = u.begins next h in
                let same : head mid ≡ next_of (clean u.before ++ b.1) next =
                ap head u.parts ∙ next-same w u.before rest b.1 next b.3 n in
                let whole : clean (t.front ++ u.before) ++ b.1
                ≡ clean t.front ++ (clean u.before ++ b.1) =
                ap (λ (a : List Item). a ++ b.1) (clean-append t.front u.before)
                ∙ append_assoc (clean t.front) (clean u.before) b.1 in (
                  b.0,
                  b.1,
                  (
                    x,
                    clean t.front,
                    clean u.before ++ b.1,
                    whole,
                    subst (λ (k : Option Token). S x (clean t.front) k) same t.spelled,
                    b.2,
                  ),
                  b.3,
                )
          ];
      same = λ other e n. go other e ∙ u.same other e n;
      past = λ other e. elim (u.past other e) [
        | inl q ↦ inl (go other e ∙ q)
        | inr b ↦ inr (subst (λ (a : Answer B). Beyond a (tail other)) (sym (go other e)) b)
      ];
    }
  where
    go : (other : List Token) → head other ≡ head rest
        → read_also p f ((t.front ++ u.before) ++ other) ≡ f x (u.before ++ other)
    go other e =
        ap (λ (us : List Token). go_on (p us) f) (append_assoc t.front u.before other)
        ∙ ap (λ a. go_on a f) (taken_same p S G first ts x mid t (u.before ++ other)
        (head-same u.before other rest e ∙ sym (ap head u.parts)))

also_stops : {A B : Type 0} (p : Read A) (S : Grammar A) (G : Option Token → Type 0)
    (f : A → Read B) (R : A → Grammar B) (H : Option Token → Type 0) (first : Reads p S G)
    (second : (x : A) → Reads (f x) (R x) H) (joins : Joins S G R H)
    (ts : List Token) (w : Why) (rest : List Token) → read_also p f ts ≡ Err (w, rest)
    → Stopped (read_also p f) (also S R) H ts w rest
also_stops p S G f R H first second joins ts w rest e =
    elim (err_goes (p ts) f w rest e) [
      | inl a ↦ also_first p S G f R H first second joins ts w rest (first.stops ts w rest a)
      | inr b ↦ also_second p S G f R H first joins ts b.0 b.1 w rest (first.takes ts b.0 b.1 b.2)
          ((second b.0).stops b.1 w rest b.3)
    ]

also_moves : {A B : Type 0} (p : Read A) (S : Grammar A) (G : Option Token → Type 0)
    (f : A → Read B) (R : A → Grammar B) (H : Option Token → Type 0) (first : Reads p S G)
    (second : (x : A) → Reads (f x) (R x) H) (joins : Joins S G R H)
    (y : B) (ms : List Item) (next other : Option Token) → also S R y ms next → H other
    → also S R y ms other
also_moves p S G f R H first second joins y ms next other (x, front, [], e, s, r) h = (
  x,
  front,
  [],
  e,
  first.moves x front next other s (joins.through x y next other r h),
  (second x).moves y [] next other r h,
)
also_moves p S G f R H first second joins y ms next other (x, front, (b ∷ back), e, s, r) h =
    (x, front, b ∷ back, e, s, (second x).moves y (b ∷ back) next other r h)

pub reads_also : {A B : Type 0} (p : Read A) (S : Grammar A) (G : Option Token → Type 0)
    (f : A → Read B) (R : A → Grammar B) (H : Option Token → Type 0) → Reads p S G
    → ((x : A) → Reads (f x) (R x) H) → Joins S G R H → Reads (read_also p f) (also S R) H
reads_also p S G f R H first second joins = record {
  again = also_again p S G f R H first second;
  takes = also_takes p S G f R H first second;
  stops = also_stops p S G f R H first second joins;
  moves = also_moves p S G f R H first second joins;
}
