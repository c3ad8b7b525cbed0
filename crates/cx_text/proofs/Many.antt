-- Parts one after the other keep what each keeps.
use Rattle.std.proofs.Common.{◌≡◌, ℕ, zero, suc, ◌+◌, ◌<◌, ◌≤◌, Bool, true, false, cond, List, [], ◌∷◌, ◌++◌, length, Option, Some, None, Ok, Err, refl, sym, ap, subst, ◌∙◌, inl, inr, append_assoc, arith}
use Rattle.std.proofs.lemmas.List.{append-nil, length-append}
use Rattle.cx_text.specs.declared.stop.Mark.{Mark}
use Rattle.cx_text.specs.declared.stop.Why.{Why}
use Rattle.cx_text.specs.declared.token.Token.{Token}
use Rattle.cx_text.specs.Grammar.{Item, tokens, clean, head, next_of, passes, Grammar, token, also, many}
use Rattle.cx_text.specs.Reading.{Answer, Read, go_on, read_up_to, read_many}
use Rattle.cx_text.proofs.Laws.{told, tail, Beyond, behind, Taken, Stopped, Reads, head-tokens, head-clean, head-same, next-same, is_first, ok_goes, err_goes, ok_is, told-also, regrouped, taken_same, clean-append}

-- a reader takes at least one token
abbrev pub IsShort : {A : Type 0} → Read A → Type 0
IsShort {A} p = (ts : List Token) (x : A) (rest : List Token) → p ts ≡ Ok (x, rest)
    → length rest < length ts

abbrev pub IsFull : {A : Type 0} → Grammar A → Type 0
IsFull {A} S = (x : A) (next : Option Token) → S x [] next → ⊥

pub short_of : {A : Type 0} (p : Read A) (S : Grammar A) (G : Option Token → Type 0) → Reads p S G
    → IsFull S → IsShort p
short_of p S G r full ts x rest e =
    let t = r.takes ts x rest e in
    let P : List Token → Type 0 = λ front. S x (clean front) (head rest) → ts ≡ front ++ rest
    → length rest < length ts in
    let at : (front : List Token)
    → P front = λ front. elim front as P [
      | [] ↦ λ s q. absurd (full x (head rest) s)
      | (u ∷ us)
          ↦ λ s q. rw q (omega (arith, length-append us rest))
    ] in
    at t.front t.spelled t.parts

pub token_full : {A : Type 0} (value : Token → Option A) (mark : Token → Option Mark)
    → IsFull (token value mark)
token_full value mark x next (t, v, e) = absurd cc

pub also_full : {A B : Type 0} (S : Grammar A) (R : A → Grammar B) → IsFull S → IsFull (also S R)
also_full S R full y next (x, [], back, e, s, r) = full x (next_of back next) s
also_full S R full y next (x, f ∷ front, back, e, s, r) = absurd cc

-- the first, and the others
abbrev pub then_more : {A C : Type 0} → (Token → Bool) → (C → Read A) → (C → A → C) → C → A
    → Read (List A)
then_more test p step c x us =
    go_on (read_many test p step (step c x) us) (λ xs vs. Ok (x ∷ xs, vs))

-- enough is enough
pub enough : {A C : Type 0} (test : Token → Bool) (p : C → Read A) (step : C → A → C)
    (short : (c : C) → IsShort (p c)) (n m : ℕ) (c : C) (ts : List Token) → length ts ≤ n
    → length ts ≤ m → read_up_to test p step n c ts ≡ read_up_to test p step m c ts
unfolding read_up_to
enough test p step short zero zero c ts hn hm = refl
enough test p step short zero (suc m) c [] hn hm = refl
enough test p step short zero (suc m) c (t ∷ ts) hn hm = absurd (omega arith)
enough test p step short (suc n) zero c [] hn hm = refl
enough test p step short (suc n) zero c (t ∷ ts) hn hm = absurd (omega arith)
enough {A} {C} test p step short (suc n) (suc m) c ts hn hm =
    let on : ℕ → A → Read (List A) =
    λ k x us. go_on (read_up_to test p step k (step c x) us) (λ xs vs. Ok (x ∷ xs, vs)) in
    let P : Answer A → Type 0 = λ r. p c ts ≡ r → go_on r (on n) ≡ go_on r (on m) in
    let at : (r : Answer A) → P r = λ r. elim r as P [
      | (Err e) ↦ λ q. refl
      | (Ok x) ↦ λ q.
          let less : length x.1 < length ts = short c ts x.0 x.1 q in
          ap (λ a. go_on a (λ xs vs. Ok (x.0 ∷ xs, vs)))
          (enough test p step short n m (step c x.0) x.1 (omega arith) (omega arith))
    ] in
    ap (λ a. cond (passes test (head ts)) a (Ok ([], ts))) (at (p c ts) refl)

-- reading many, once over
pub unrolled : {A C : Type 0} (test : Token → Bool) (p : C → Read A) (step : C → A → C)
    (short : (c : C) → IsShort (p c)) (c : C) (ts : List Token)
    → read_many test p step c ts
    ≡ cond (passes test (head ts)) (go_on (p c ts) (then_more test p step c)) (Ok ([], ts))
unfolding read_up_to read_many
unrolled test p step short c [] = refl
unrolled {A} {C} test p step short c (t ∷ ts) =
    enough test p step short (length (t ∷ ts)) (suc (length (t ∷ ts))) c (t ∷ ts) (omega arith)
    (omega arith)
    ∙ (let on : A → Read (List A) =
    λ x us. go_on (read_up_to test p step (length (t ∷ ts)) (step c x) us)
    (λ xs vs. Ok (x ∷ xs, vs)) in
    let P : Answer A → Type 0 = λ r. p c (t ∷ ts) ≡ r
    → go_on r on ≡ go_on r (then_more test p step c) in
    let at : (r : Answer A) → P r = λ r. elim r as P [
      | (Err e) ↦ λ q. refl
      | (Ok x) ↦ λ q.
          let less : length x.1 < length (t ∷ ts) = short c (t ∷ ts) x.0 x.1 q in
          ap (λ a. go_on a (λ xs vs. Ok (x.0 ∷ xs, vs)))
          (enough test p step short (length (t ∷ ts)) (length x.1) (step c x.0) x.1
          (omega arith) (omega arith))
    ] in
    ap (λ a. cond (passes test (head (t ∷ ts))) a (Ok ([], t ∷ ts))) (at (p c (t ∷ ts)) refl))

-- what an item owes, where it is read many times
pub record Items {A C : Type 0} (test : Token → Bool) (S : C → Grammar A)
    (G : Option Token → Type 0) (H : Option Token → Type 0) : Type 0 where
  pub full : (c : C) → IsFull (S c)
  -- what follows the last one doesn't pass, and may follow an item
  pub stays : (next : Option Token) → H next → passes test next ≡ false
  pub allows : (next : Option Token) → H next → G next

told-cons : {A : Type 0} (x : A) (xs : List A) (ms : List Item) (rest : List Token)
    → go_on (told xs ms rest) (λ ys vs. Ok (x ∷ ys, vs)) ≡ told (x ∷ xs) ms rest
told-cons x xs [] rest = refl
told-cons x xs ((t, None) ∷ ms) rest = told-cons x xs ms rest
told-cons x xs ((t, Some m) ∷ ms) rest = refl

many_again : {A C : Type 0} (test : Token → Bool) (p : C → Read A) (step : C → A → C)
    (S : C → Grammar A) (G H : Option Token → Type 0) (each : (c : C) → Reads (p c) (S c) G)
    (items : Items test S G H)
    (xs : List A) (c : C) (ms : List Item) (rest : List Token)
    → many test S step c xs ms (head rest)
    → read_many test p step c (tokens ms ++ rest) ≡ told xs ms rest
many_again test p step S G H each items [] c ms rest s =
    unrolled test p step (λ d. short_of (p d) (S d) G (each d) (items.full d)) c (tokens ms ++ rest)
    ∙ rw (head-tokens ms rest, s.0, s.1) refl
many_again test p step S G H each items (x ∷ xs) c ms rest (go, front, back, e, s, more) =
    let at_front : S c x front (head (tokens back ++ rest)) =
    subst (λ (n : Option Token). S c x front n) (sym (head-tokens back rest)) s in
    let on : then_more test p step c x (tokens back ++ rest) ≡ told (x ∷ xs) back rest =
    ap (λ a. go_on a (λ ys vs. Ok (x ∷ ys, vs)))
    (many_again test p step S G H each items xs (step c x) back rest more)
    ∙ told-cons x xs back rest in
    unrolled test p step (λ d. short_of (p d) (S d) G (each d) (items.full d)) c (tokens ms ++ rest)
    ∙ rw (head-tokens ms rest, go, e)
    (ap (λ (us : List Token). go_on (p c us) (then_more test p step c))
    (regrouped front back rest)
    ∙ ap (λ a. go_on a (then_more test p step c))
    ((each c).again x front (tokens back ++ rest) at_front)
    ∙ told-also x (then_more test p step c) (x ∷ xs) front back rest on)

many_takes : {A C : Type 0} (test : Token → Bool) (p : C → Read A) (step : C → A → C)
    (S : C → Grammar A) (G H : Option Token → Type 0) (each : (c : C) → Reads (p c) (S c) G)
    (items : Items test S G H)
    (n : ℕ) (b : Bool) (c : C) (ts : List Token) (xs : List A) (rest : List Token) → length ts < n
    → passes test (head ts) ≡ b
    → cond b (go_on (p c ts) (then_more test p step c)) (Ok ([], ts)) ≡ Ok (xs, rest)
    → Taken (many test S step c) ts xs rest
many_takes test p step S G H each items zero b c ts xs rest lt t e = absurd (omega arith)
many_takes {A} test p step S G H each items (suc n) false c ts xs rest lt t e =
    let h = ok_is {A = List A} [] xs ts rest e in
    subst (λ (ys : List A). Taken (many test S step c) ts ys rest) h.0
    (record {
      front = [];
      parts = h.1;
      spelled = (sym (ap (λ (us : List Token). passes test (head us)) h.1) ∙ t, refl);
    })
many_takes {A} {C} test p step S G H each items (suc n) true c ts xs rest lt t e =
    let short = λ (d : C). short_of (p d) (S d) G (each d) (items.full d) in
    let a = ok_goes (p c ts) (then_more test p step c) xs rest e in
    let b = ok_goes (read_many test p step (step c a.0) a.1) (λ ys vs. Ok (a.0 ∷ ys, vs))
    xs rest a.3 in
    let less : length a.1 < length ts = short c ts a.0 a.1 a.2 in
    let k = (each c).takes ts a.0 a.1 a.2 in
    let h = ok_is {A = List A} (a.0 ∷ b.0) xs b.1 rest b.3 in
    let u = many_takes test p step S G H each items n (passes test (head a.1)) (step c a.0)
    a.1 b.0 b.1 (omega arith) refl (sym (unrolled test p step short (step c a.0) a.1) ∙ b.2) in
    let next : head a.1 ≡ next_of (clean u.front) (head b.1) =
    ap head u.parts ∙ head-clean u.front b.1 in
    let whole : ts ≡ (k.front ++ u.front) ++ b.1 =
    k.parts ∙ ap (λ (us : List Token). k.front ++ us) u.parts
    ∙ sym (append_assoc k.front u.front b.1) in
    let go : passes test (next_of (clean (k.front ++ u.front)) (head b.1)) ≡ true =
    ap (passes test) (sym (head-clean (k.front ++ u.front) b.1) ∙ sym (ap head whole)) ∙ t in
    let made : Taken (many test S step c) ts (a.0 ∷ b.0) b.1 = record {
      front = k.front ++ u.front;
      parts = whole;
      spelled = (
        go,
        clean k.front,
        clean u.front,
        clean-append k.front u.front,
        subst (λ (m : Option Token). S c a.0 (clean k.front) m) next k.spelled,
        u.spelled,
      );
    } in
    subst (λ (ys : List A). Taken (many test S step c) ts ys rest) h.0
    (subst (λ (r : List Token). Taken (many test S step c) ts (a.0 ∷ b.0) r) h.1 made)

beyond-cons : {A : Type 0} (x : A) (a : Answer (List A)) (us : List Token) → Beyond a us
    → Beyond (go_on a (λ xs vs. Ok (x ∷ xs, vs))) us
beyond-cons x (Ok y) us less = less
beyond-cons x (Err e) us less = less

module _ {A C : Type 0} (test : Token → Bool) (p : C → Read A) (step : C → A → C)
    (S : C → Grammar A) (G : Option Token → Type 0) (each : (c : C) → Reads (p c) (S c) G)
    (full : (c : C) → IsFull (S c)) where
  short_at : (c : C) → IsShort (p c)
  short_at c = short_of (p c) (S c) G (each c) (full c)

  beyond_turn : (c : C) (ts us : List Token) → length ts < length us
      → ((d : C) (vs : List Token) → length vs < length ts → Beyond (read_many test p step d vs) us)
      → (a : Answer A) → p c ts ≡ a → Beyond (go_on a (then_more test p step c)) us
  beyond_turn c ts us less others (Ok x) e =
      beyond-cons x.0 (read_many test p step (step c x.0) x.1) us
      (others (step c x.0) x.1 (short_at c ts x.0 x.1 e))
  beyond_turn c ts us less others (Err d) e =
      subst (λ (a : Answer A). Beyond a us) e (behind (p c) (S c) G (each c) ts us less)

  beyond_way : (c : C) (ts us : List Token) (b : Bool) → length ts < length us
      → Beyond (go_on (p c ts) (then_more test p step c)) us
      → Beyond (cond b (go_on (p c ts) (then_more test p step c)) (Ok ([], ts))) us
  beyond_way c ts us true less turn = turn
  beyond_way c ts us false less turn = less

  -- what is read behind an item leaves no more than that
  many_behind : (n : ℕ) (c : C) (ts us : List Token) → length ts < n → length ts < length us
      → Beyond (read_many test p step c ts) us
  many_behind zero c ts us lt less = absurd (omega arith)
  many_behind (suc n) c ts us lt less =
      subst (λ (a : Answer (List A)). Beyond a us) (sym (unrolled test p step short_at c ts))
      (beyond_way c ts us (passes test (head ts)) less
      (beyond_turn c ts us less
      (λ d vs fewer. many_behind n d vs us (omega (arith, fewer, lt))
      (omega (arith, fewer, less))) (p c ts) refl))

  beyond-more : (c : C) (a : Answer A) (us : List Token) → Beyond a us
      → Beyond (go_on a (then_more test p step c)) us
  beyond-more c (Ok x) us less =
      beyond-cons x.0 (read_many test p step (step c x.0) x.1) us
      (many_behind (suc (length x.1)) (step c x.0) x.1 us (omega arith) less)
  beyond-more c (Err e) us less = less

many_first : {A C : Type 0} (test : Token → Bool) (p : C → Read A) (step : C → A → C)
    (S : C → Grammar A) (G H : Option Token → Type 0) (each : (c : C) → Reads (p c) (S c) G)
    (items : Items test S G H)
    (c : C) (ts : List Token) (w : Why) (rest : List Token) → passes test (head ts) ≡ true
    → Stopped (p c) (S c) G ts w rest
    → Stopped (read_many test p step c) (many test S step c) H ts w rest
many_first {A} {C} test p step S G H each items c ts w rest t k =
    let short = λ (d : C). short_of (p d) (S d) G (each d) (items.full d) in
    record {
      before = k.before;
      parts = k.parts;
      begins = λ next h. elim (is_first w k.before) [
        | inl i ↦ ([], [], rw i.1 (items.stays next h, refl), rw i.0 tt)
        | inr n ↦
            let b = k.begins next (items.allows next h) in
            let go =
            sym (ap (passes test) (ap head k.parts ∙ next-same w k.before rest b.1 next b.3 n))
            ∙ t in (
              b.0 ∷ [],
              b.1,
              (
                go,
                clean k.before ++ b.1,
                [],
                sym (append-nil (clean k.before ++ b.1)),
                b.2,
                (items.stays next h, refl),
              ),
              b.3,
            )
      ];
      same = λ other o n.
          let go : passes test (head (k.before ++ other)) ≡ true =
          ap (passes test) (head-same k.before other rest o ∙ sym (ap head k.parts)) ∙ t in
          unrolled test p step short c (k.before ++ other) ∙ rw (go, k.same other o n) refl;
      past = λ other o.
          let go : passes test (head (k.before ++ other)) ≡ true =
          ap (passes test) (head-same k.before other rest o ∙ sym (ap head k.parts)) ∙ t in
          let turn : read_many test p step c (k.before ++ other)
          ≡ go_on (p c (k.before ++ other)) (then_more test p step c) =
          unrolled test p step short c (k.before ++ other) ∙ rw go refl in
          elim (k.past other o) [
            | inl e ↦ inl (turn ∙ rw e refl)
            | inr b
                ↦ inr (subst (λ (a : Answer (List A)). Beyond a (tail other)) (sym turn)
                (beyond-more test p step S G each items.full c (p c (k.before ++ other))
                (tail other) b))
          ];
    }

many_later : {A C : Type 0} (test : Token → Bool) (p : C → Read A) (step : C → A → C)
    (S : C → Grammar A) (G H : Option Token → Type 0) (each : (c : C) → Reads (p c) (S c) G)
    (items : Items test S G H)
    (c : C) (ts : List Token) (x : A) (mid : List Token) (w : Why) (rest : List Token)
    (t : Taken (S c) ts x mid) → passes test (head ts) ≡ true
    → Stopped (read_many test p step (step c x)) (many test S step (step c x)) H mid w rest
    → Stopped (read_many test p step c) (many test S step c) H ts w rest
many_later {A} {C} test p step S G H each items c ts x mid w rest t go u =
    let short = λ (d : C). short_of (p d) (S d) G (each d) (items.full d) in
    let parts : ts ≡ (t.front ++ u.before) ++ rest =
    t.parts ∙ ap (λ (us : List Token). t.front ++ us) u.parts
    ∙ sym (append_assoc t.front u.before rest) in
    record {
      before = t.front ++ u.before;
      parts = parts;
      begins = λ next h. elim (is_first w u.before) [
        | inl i ↦
            let whole : clean (t.front ++ u.before) ++ [] ≡ clean t.front ++ [] =
            rw i.1 (ap (λ (a : List Item). a ++ [])
            (clean-append t.front [] ∙ append-nil (clean t.front))) in
            let spelled : S c x (clean t.front) next =
            (each c).moves x (clean t.front) (head mid) next t.spelled (items.allows next h) in
            let P : List Token → Type 0 = λ front. S c x (clean front) next → ts ≡ front ++ mid
            → passes test (next_of (clean front) next) ≡ true in
            let at : (front : List Token)
            → P front = λ front.
            elim front as P [
              | [] ↦ λ s q. absurd (items.full c x next s)
              | (a ∷ others)
                  ↦ λ s q. sym (ap (λ (us : List Token). passes test (head us)) q) ∙ go
            ] in
            let whole_go : passes test (next_of (clean (t.front ++ u.before) ++ []) next) ≡ true =
            rw whole (rw (append-nil (clean t.front)) (at t.front spelled t.parts)) in (
              x ∷ [],
              [],
              (whole_go, clean t.front, [], whole, spelled, (items.stays next h, refl)),
              rw i.0 tt,
            )
        | inr n ↦
            let b = u.begins next h in
            let same : head mid ≡ next_of (clean u.before ++ b.1) next =
            ap head u.parts ∙ next-same w u.before rest b.1 next b.3 n in
            let whole : clean (t.front ++ u.before) ++ b.1
            ≡ clean t.front ++ (clean u.before ++ b.1) =
            ap (λ (a : List Item). a ++ b.1) (clean-append t.front u.before)
            ∙ append_assoc (clean t.front) (clean u.before) b.1 in
            let spelled : S c x (clean t.front) (next_of (clean u.before ++ b.1) next) =
            subst (λ (k : Option Token). S c x (clean t.front) k) same t.spelled in
            let P : List Token → Type 0 = λ front. S c x (clean front) (head mid)
            → ts ≡ front ++ mid → passes test
            (next_of (clean front ++ (clean u.before ++ b.1)) next) ≡ true in
            let at : (front : List Token)
            → P front = λ front.
            elim front as P [
              | [] ↦ λ s q. absurd (items.full c x (head mid) s)
              | (a ∷ others)
                  ↦ λ s q. sym (ap (λ (us : List Token). passes test (head us)) q) ∙ go
            ] in (
              x ∷ b.0,
              b.1,
              (
                rw whole (at t.front t.spelled t.parts),
                clean t.front,
                clean u.before ++ b.1,
                whole,
                spelled,
                b.2,
              ),
              b.3,
            )
      ];
      same = λ other e n.
          let other_go : passes test (head ((t.front ++ u.before) ++ other)) ≡ true =
          ap (passes test) (head-same (t.front ++ u.before) other rest e ∙ sym (ap head parts))
          ∙ go in
          let first : p c ((t.front ++ u.before) ++ other) ≡ Ok (x, u.before ++ other) =
          ap (p c) (append_assoc t.front u.before other)
          ∙ taken_same (p c) (S c) G (each c) ts x mid t (u.before ++ other)
          (head-same u.before other rest e ∙ sym (ap head u.parts)) in
          unrolled test p step short c ((t.front ++ u.before) ++ other)
          ∙ rw (other_go, first, u.same other e n) refl;
      past = λ other e.
          let other_go : passes test (head ((t.front ++ u.before) ++ other)) ≡ true =
          ap (passes test) (head-same (t.front ++ u.before) other rest e ∙ sym (ap head parts))
          ∙ go in
          let first : p c ((t.front ++ u.before) ++ other) ≡ Ok (x, u.before ++ other) =
          ap (p c) (append_assoc t.front u.before other)
          ∙ taken_same (p c) (S c) G (each c) ts x mid t (u.before ++ other)
          (head-same u.before other rest e ∙ sym (ap head u.parts)) in
          let more : read_many test p step c ((t.front ++ u.before) ++ other)
          ≡ go_on (read_many test p step (step c x) (u.before ++ other))
          (λ ys vs. Ok (x ∷ ys, vs)) =
          unrolled test p step short c ((t.front ++ u.before) ++ other)
          ∙ rw (other_go, first) refl in
          elim (u.past other e) [
            | inl q ↦ inl (more ∙ rw q refl)
            | inr b
                ↦ inr (subst (λ (a : Answer (List A)). Beyond a (tail other)) (sym more)
                (beyond-cons x (read_many test p step (step c x) (u.before ++ other)) (tail other)
                b))
          ];
    }

many_stops : {A C : Type 0} (test : Token → Bool) (p : C → Read A) (step : C → A → C)
    (S : C → Grammar A) (G H : Option Token → Type 0) (each : (c : C) → Reads (p c) (S c) G)
    (items : Items test S G H)
    (n : ℕ) (b : Bool) (c : C) (ts : List Token) (w : Why) (rest : List Token) → length ts < n
    → passes test (head ts) ≡ b
    → cond b (go_on (p c ts) (then_more test p step c)) (Ok ([], ts)) ≡ Err (w, rest)
    → Stopped (read_many test p step c) (many test S step c) H ts w rest
many_stops test p step S G H each items zero b c ts w rest lt t e = absurd (omega arith)
many_stops test p step S G H each items (suc n) false c ts w rest lt t e = absurd cc
many_stops {A} {C} test p step S G H each items (suc n) true c ts w rest lt t e =
    let short = λ (d : C). short_of (p d) (S d) G (each d) (items.full d) in
    elim (err_goes (p c ts) (then_more test p step c) w rest e) [
      | inl a ↦ many_first test p step S G H each items c ts w rest t ((each c).stops ts w rest a)
      | inr a ↦
          let less : length a.1 < length ts = short c ts a.0 a.1 a.2 in
          elim (err_goes (read_many test p step (step c a.0) a.1) (λ ys vs. Ok (a.0 ∷ ys, vs))
          w rest a.3) [
            | inl q ↦ many_later test p step S G H each items c ts a.0 a.1 w rest
                ((each c).takes ts a.0 a.1 a.2) t
                (many_stops test p step S G H each items n (passes test (head a.1)) (step c a.0)
                a.1 w rest (omega arith) refl
                (sym (unrolled test p step short (step c a.0) a.1) ∙ q))
            | inr q ↦ absurd (let z = q.3 in cc)
          ]
    ]

many_moves : {A C : Type 0} (test : Token → Bool) (p : C → Read A) (step : C → A → C)
    (S : C → Grammar A) (G H : Option Token → Type 0) (each : (c : C) → Reads (p c) (S c) G)
    (items : Items test S G H)
    (xs : List A) (c : C) (ms : List Item) (next other : Option Token)
    → many test S step c xs ms next → H other → many test S step c xs ms other
many_moves test p step S G H each items [] c ms next other s h = (rw s.1 (items.stays other h), s.1)
many_moves test p step S G H each items (x ∷ xs) c ms next other (go, [], back, e, s, more) h =
    absurd (items.full c x _ s)
many_moves test p step S G H each items (x ∷ xs) c ms next other (go, f ∷ front, [], e, s, more) h = (
  rw e (rw e at go),
  f ∷ front,
  [],
  e,
  (each c).moves x (f ∷ front) next other s (items.allows other h),
  many_moves test p step S G H each items xs (step c x) [] next other more h,
)
many_moves test p step S G H each items (x ∷ xs) c ms next other
    (go, f ∷ front, b ∷ back, e, s, more) h = (
      rw e (rw e at go),
      f ∷ front,
      b ∷ back,
      e,
      s,
      many_moves test p step S G H each items xs (step c x) (b ∷ back) next other more h,
    )

pub reads_many : {A C : Type 0} (test : Token → Bool) (p : C → Read A) (step : C → A → C)
    (S : C → Grammar A) (G H : Option Token → Type 0) → ((c : C) → Reads (p c) (S c) G)
    → Items test S G H → (c : C) → Reads (read_many test p step c) (many test S step c) H
reads_many {A} {C} test p step S G H each items c =
    let short = λ (d : C). short_of (p d) (S d) G (each d) (items.full d) in
    record {
      again = λ xs ms rest s. many_again test p step S G H each items xs c ms rest s;
      takes = λ ts xs rest e.
          many_takes test p step S G H each items (length ts + 1) (passes test (head ts))
          c ts xs rest (omega arith) refl (sym (unrolled test p step short c ts) ∙ e);
      stops = λ ts w rest e. many_stops test p step S G H each items (length ts + 1)
          (passes test (head ts)) c ts w rest (omega arith) refl
          (sym (unrolled test p step short c ts) ∙ e);
      moves = λ xs ms next other s h.
          many_moves test p step S G H each items xs c ms next other s h;
    }
