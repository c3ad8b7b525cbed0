-- A fault is the first, and there is one.
use Rattle.std.proofs.Common.{◌≡◌, ℕ, List, [], ◌∷◌, ◌++◌, length, Option, Some, None, Ok, Err, refl, inl, inr, sym, ap, subst, ◌∙◌, append_assoc, arith}
use Rattle.std.specs.Prelude.{◌⊎◌}
use Rattle.std.proofs.lemmas.List.{append-nil, append_cancel_right}
use Rattle.cx_text.specs.declared.stop.Mark.{Mark}
use Rattle.cx_text.specs.declared.stop.Mark.TheVariants as marks
use Rattle.cx_text.specs.declared.stop.Why.{Why}
use Rattle.cx_text.specs.declared.stop.Why.TheVariants.{Unexpected, Marked}
use Rattle.cx_text.specs.declared.stop.Stop.TheVariants as stops
use Rattle.cx_text.specs.declared.fault.CclFault.{CclFault}
use Rattle.cx_text.specs.declared.fault.CclFault.TheVariants as faults
use Rattle.cx_text.specs.declared.token.Token.{Token}
use Rattle.cx_text.specs.Grammar.{Item, tokens, clean, head, next_of, Grammar, IsWrong, IsFirstFault, HasFault, IsFault, line_at}
use Rattle.cx_text.specs.Reading.{Answer, Read, go_on, fault_of}
use Rattle.cx_text.proofs.Laws.{told, Beyond, Shows, Stopped, Reads, tokens-append, clean-append, tokens-clean, err_is}

pub told_behind : {A : Type 0} (x : A) (front : List Token) (ms : List Item) (rest : List Token)
    → told x (clean front ++ ms) rest ≡ told x ms rest
told_behind x [] ms rest = refl
told_behind x (t ∷ front) ms rest = told_behind x front ms rest

-- ---- what a reader of whole lists owes

pub record Judges {A : Type 0} (q : Read A) (S : Grammar A) : Type 0 where
  -- on a derived list it answers the first mark, else the value
  pub tells : (x : A) (ms : List Item) → S x ms None → q (tokens ms) ≡ told x ms []
  -- at a mark it stops whatever stands behind the token, but that a repeated word goes by that
  pub firm : (m : Mark) (before : List Token) (t : Token) (rest other : List Token)
      → q (before ++ t ∷ rest) ≡ Err (Marked m, t ∷ rest)
      → (m ≡ marks.Repeated → head other ≡ head rest)
      → q (before ++ t ∷ other) ≡ Err (Marked m, t ∷ other)
  -- or else it goes on behind what stands there
  pub past : (m : Mark) (before : List Token) (t : Token) (rest other : List Token)
      → q (before ++ t ∷ rest) ≡ Err (Marked m, t ∷ rest)
      → (q (before ++ t ∷ other) ≡ Err (Marked m, t ∷ other))
      ⊎ Beyond (q (before ++ t ∷ other)) other

mark_in : (m k : Mark) → Marked m ≡ Marked k → m ≡ k
mark_in m k e = cc

pub judges_read : {A : Type 0} (p : Read A) (S : Grammar A) (G : Option Token → Type 0)
    → Reads p S G → Judges p S
judges_read {A} p S G r = record {
  tells = λ x ms s. ap p (sym (append-nil (tokens ms))) ∙ r.again x ms [] s;
  firm = λ m before t rest other e n.
      let k = r.stops (before ++ t ∷ rest) (Marked m) (t ∷ rest) e in
      subst (λ (us : List Token). p (us ++ t ∷ other) ≡ Err (Marked m, t ∷ other))
      (place m before t rest k) (k.same (t ∷ other) refl (λ q. n (mark_in m marks.Repeated q)));
  past = λ m before t rest other e.
      let k = r.stops (before ++ t ∷ rest) (Marked m) (t ∷ rest) e in
      subst (λ (us : List Token). (p (us ++ t ∷ other) ≡ Err (Marked m, t ∷ other))
      ⊎ Beyond (p (us ++ t ∷ other)) other) (place m before t rest k) (k.past (t ∷ other) refl);
}
  where
    place : (m : Mark) (before : List Token) (t : Token) (rest : List Token)
        (k : Stopped p S G (before ++ t ∷ rest) (Marked m) (t ∷ rest)) → k.before ≡ before
    place m before t rest k = append_cancel_right k.before before (t ∷ rest) (sym k.parts)

-- ---- a view of what is read

abbrev pub read_seen : {A B : Type 0} → (A → B) → Read A → Read B
read_seen view q ts = go_on (q ts) (λ x rest. Ok (view x, rest))

told_seen : {A B : Type 0} (view : A → B) (x : A) (ms : List Item)
    → go_on (told x ms []) (λ z rest. Ok (view z, rest)) ≡ told (view x) ms []
told_seen view x [] = refl
told_seen view x ((t, None) ∷ ms) = told_seen view x ms
told_seen view x ((t, Some m) ∷ ms) = refl

mark_seen : {A B : Type 0} (view : A → B) (a : Answer A) (m : Mark) (us : List Token)
    → go_on a (λ z rest. Ok (view z, rest)) ≡ Err (Marked m, us) → a ≡ Err (Marked m, us)
mark_seen view (Ok x) m us e = absurd cc
mark_seen {A} {B} view (Err d) m us e =
    (let h = err_is {A = B} d.0 (Marked m) d.1 us e in rw (h.0, h.1) refl)

beyond_seen : {A B : Type 0} (view : A → B) (a : Answer A) (us : List Token) → Beyond a us
    → Beyond (go_on a (λ z rest. Ok (view z, rest))) us
beyond_seen view (Ok x) us less = less
beyond_seen view (Err e) us less = less

pub judges_seen : {A B : Type 0} (view : A → B) (q : Read A) (S : Grammar A) (R : Grammar B)
    → Judges q S → ((y : B) (ms : List Item) → R y ms None → (x : A) × S x ms None × (y ≡ view x))
    → Judges (read_seen view q) R
judges_seen {A} {B} view q S R j of = record {
  tells = λ y ms s.
      let k = of y ms s in
      ap (λ (a : Answer A). go_on a (λ z rest. Ok (view z, rest))) (j.tells k.0 ms k.1)
      ∙ told_seen view k.0 ms ∙ ap (λ (z : B). told z ms []) (sym k.2);
  firm = λ m before t rest other e n.
      ap (λ (a : Answer A). go_on a (λ z us. Ok (view z, us)))
      (j.firm m before t rest other (mark_seen view (q (before ++ t ∷ rest)) m (t ∷ rest) e) n);
  past = λ m before t rest other e.
      elim (j.past m before t rest other (mark_seen view (q (before ++ t ∷ rest)) m (t ∷ rest) e)) [
        | inl f ↦ inl (ap (λ (a : Answer A). go_on a (λ z us. Ok (view z, us))) f)
        | inr b ↦ inr (beyond_seen view (q (before ++ t ∷ other)) other b)
      ];
}

-- ---- nothing is wrong behind a shorter beginning

-- reading ends where this is left, at no mark
abbrev Halts : {A : Type 0} → Answer A → List Token → Type 0
Halts (Ok x) rest = x.1 ≡ rest
Halts (Err e) rest = (e.0 ≡ Unexpected) × (e.1 ≡ rest)

halts-unmarked : {A : Type 0} (a : Answer A) (rest us : List Token) (m : Mark) → Halts a rest
    → a ≡ Err (Marked m, us) → ⊥
halts-unmarked (Ok x) rest us m h e = absurd cc
halts-unmarked {A} (Err d) rest us m h e =
    absurd (let w = sym h.0 ∙ (err_is {A = A} d.0 (Marked m) d.1 us e).0 in cc)

short-not : (w : Why) (rest us : List Token) → w ≡ Unexpected → us ≡ rest
    → Beyond {A = Unit {0}} (Err (w, us)) rest → ⊥
short-not Unexpected rest us same e less =
    absurd (let size : length us ≡ length rest = ap length e in omega (arith, size, less))
short-not (Marked m) rest us same e less = absurd cc

halts-not-beyond : {A : Type 0} (a : Answer A) (rest : List Token) → Halts a rest → Beyond a rest
    → ⊥
halts-not-beyond (Ok x) rest h less =
    absurd (let size : length x.1 ≡ length rest = ap length h in omega (arith, size, less))
halts-not-beyond (Err d) rest h less = short-not d.0 rest d.1 h.0 h.1 less

-- reading a list that has this mark behind unmarked tokens
marked_read : {A : Type 0} (q : Read A) (S : Grammar A) (j : Judges q S) (before : List Token)
    (t : Token) (m : Mark) (x : A) (more : List Item)
    → S x (clean before ++ (t, Some m) ∷ more) None
    → q (before ++ t ∷ tokens more) ≡ Err (Marked m, t ∷ tokens more)
marked_read {A} q S j before t m x more s =
    let listed : tokens (clean before ++ (t, Some m) ∷ more) ≡ before ++ t ∷ tokens more =
    tokens-append (clean before) ((t, Some m) ∷ more)
    ∙ ap (λ (us : List Token). us ++ t ∷ tokens more) (tokens-clean before) in
    let failed : List Token → Answer A = λ us. Err (Marked m, t ∷ us) in
    ap q (sym listed) ∙ j.tells x (clean before ++ (t, Some m) ∷ more) s
    ∙ told_behind x before ((t, Some m) ∷ more) [] ∙ ap failed (append-nil (tokens more))

next-shown : (w : Why) (rest : List Token) (more : List Item) → Shows w rest more
    → (w ≡ Unexpected → ⊥) → next_of more None ≡ head rest
next-shown Unexpected rest more h n = absurd (n refl)
next-shown (Marked m) [] more h n = absurd h
next-shown (Marked m) (t ∷ rest) [] h n = absurd h
next-shown (Marked m) (t ∷ rest) (i ∷ is) h n = ap (λ (j : Item). Some j.0) h

is-unexpected : (w : Why) → (w ≡ Unexpected) ⊎ (w ≡ Unexpected → ⊥)
is-unexpected Unexpected = inl refl
is-unexpected (Marked m) = inr (λ e. absurd cc)

module _ {A : Type 0} (q : Read A) (S : Grammar A) (j : Judges q S) (before rest : List Token)
    (w : Why) (x : A) (more : List Item) (s : S x (clean before ++ more) None)
    (shows : Shows w rest more) (halts : w ≡ Unexpected → Halts (q (before ++ rest)) rest) where
  parted : (early : List Token) (t : Token) (late : List Token) → before ≡ early ++ t ∷ late
      → clean before ++ more ≡ clean early ++ (t, None) ∷ (clean late ++ more)
  parted early t late parts =
      ap (λ (us : List Token). clean us ++ more) parts
      ∙ ap (λ (ms : List Item). ms ++ more) (clean-append early (t ∷ late))
      ∙ append_assoc (clean early) (clean (t ∷ late)) more

  -- the last token before: its mark would have stopped reading, or reading would have gone on
  at_last : (early : List Token) (t : Token) (m : Mark) → before ≡ early ++ t ∷ [] → w ≡ Unexpected
      → IsWrong S early (Marked m) (t ∷ rest) → ⊥
  at_last early t m parts is ((y, others, d), none) =
      let whole : before ++ rest ≡ early ++ t ∷ rest =
      ap (λ (us : List Token). us ++ rest) parts ∙ append_assoc early (t ∷ []) rest in
      let here : Halts (q (early ++ t ∷ rest)) rest =
      subst (λ (us : List Token). Halts (q us) rest) whole (halts is) in
      elim (j.past m early t (tokens others) rest (marked_read q S j early t m y others d)) [
        | inl e ↦ halts-unmarked (q (early ++ t ∷ rest)) rest (t ∷ rest) m here e
        | inr b ↦ halts-not-beyond (q (early ++ t ∷ rest)) rest here b
      ]

  marked_earlier : (early : List Token) (t : Token) (late : List Token) (m : Mark)
      → before ≡ early ++ t ∷ late → IsWrong S early (Marked m) (t ∷ late ++ rest) → ⊥
  marked_earlier early t (l ∷ late) m parts (marked, none) =
      none x (clean (l ∷ late) ++ more)
      (subst (λ (ms : List Item). S x ms None) (parted early t (l ∷ late) parts) s) refl
  marked_earlier early t [] m parts (marked, none) =
      elim (is-unexpected w) [
        | inl is ↦ at_last early t m parts is (marked, none)
        | inr n ↦ none x more (subst (λ (ms : List Item). S x ms None) (parted early t [] parts) s)
            (next-shown w rest more shows n)
      ]

  none_earlier : (early : List Token) (t : Token) (late : List Token) (other : Why)
      → before ≡ early ++ t ∷ late → IsWrong S early other (t ∷ late ++ rest) → ⊥
  none_earlier early t late Unexpected parts (begins, none) =
      let listed : tokens (clean before ++ more) ≡ early ++ t ∷ (late ++ tokens more) =
      tokens-append (clean before) more
      ∙ ap (λ (us : List Token). us ++ tokens more) (tokens-clean before ∙ parts)
      ∙ append_assoc early (t ∷ late) (tokens more) in
      none x (clean before ++ more) (t ∷ (late ++ tokens more)) s listed refl
  none_earlier early t late (Marked m) parts wrong = marked_earlier early t late m parts wrong

first_here : {A : Type 0} (q : Read A) (S : Grammar A) → Judges q S
    → (before rest : List Token) (w : Why) → q (before ++ rest) ≡ Err (w, rest)
    → IsWrong S before w rest → IsFirstFault S before w rest
first_here q S j before rest Unexpected e ((x, more, s), none) = (
  ((x, more, s), none),
  none_earlier q S j before rest Unexpected x more s tt
      (λ is. rw e (refl, refl)),
)
first_here q S j before [] (Marked m) e wrong = absurd wrong
first_here q S j before (t ∷ rest) (Marked m) e ((x, more, s), none) = (
  ((x, more, s), none),
  none_earlier q S j before (t ∷ rest) (Marked m) x ((t, Some m) ∷ more)
      s refl (λ is. absurd cc),
)

-- what is wrong where a reader stops is the first fault
pub first_from : {A : Type 0} (q : Read A) (S : Grammar A) → Judges q S
    → (w : Why) (ts rest : List Token) → q ts ≡ Err (w, rest)
    → (before : List Token) × (ts ≡ before ++ rest) × IsWrong S before w rest
    → (before : List Token) × (ts ≡ before ++ rest) × IsFirstFault S before w rest
first_from q S j w ts rest e (before, parts, wrong) =
    (before, parts, first_here q S j before rest w (ap q (sym parts) ∙ e) wrong)

-- ---- a fault is one

pub is_repeated : (m : Mark) → (m ≡ marks.Repeated) ⊎ (m ≡ marks.Repeated → ⊥)
is_repeated marks.Repeated = inl refl
is_repeated marks.BadNumber = inr (λ e. absurd cc)
is_repeated marks.Limit = inr (λ e. absurd cc)

module _ {A : Type 0} (q : Read A) (S : Grammar A) (j : Judges q S) where
  -- a mark that isn't for a repeated word is the only one
  firm_mark : (before : List Token) (t : Token) (m k : Mark) (x y : A) (more others : List Item)
      → (m ≡ marks.Repeated → ⊥) → S x (clean before ++ (t, Some m) ∷ more) None
      → S y (clean before ++ (t, Some k) ∷ others) None → m ≡ k
  firm_mark before t m k x y more others n s d =
      let one = j.firm m before t (tokens more) (tokens others)
      (marked_read q S j before t m x more s) (λ e. absurd (n e)) in
      mark_in m k (err_is {A = A} (Marked m) (Marked k) (t ∷ tokens others) (t ∷ tokens others)
      (sym one ∙ marked_read q S j before t k y others d)).0

  one_mark : (before : List Token) (t : Token) (m k : Mark) (x y : A) (more others : List Item)
      → S x (clean before ++ (t, Some m) ∷ more) None
      → S y (clean before ++ (t, Some k) ∷ others) None → m ≡ k
  one_mark before t m k x y more others s d =
      elim (is_repeated m) [
        | inr n ↦ firm_mark before t m k x y more others n s d
        | inl a ↦ elim (is_repeated k)
            [ (inl b) ↦ a ∙ sym b | (inr n) ↦ sym (firm_mark before t k m y x others more n d s) ]
      ]

  never-both : (before : List Token) (t : Token) (rest : List Token) (m : Mark)
      → IsWrong S before Unexpected (t ∷ rest) → IsWrong S before (Marked m) (t ∷ rest) → ⊥
  never-both before t rest m (begins, none) ((x, more, s), unmarked) =
      none x (clean before ++ (t, Some m) ∷ more) (t ∷ tokens more) s
      (tokens-append (clean before) ((t, Some m) ∷ more)
      ∙ ap (λ (us : List Token). us ++ t ∷ tokens more) (tokens-clean before)) refl

  one_why : (before rest : List Token) (w v : Why) → IsWrong S before w rest
      → IsWrong S before v rest → w ≡ v
  one_why before rest Unexpected Unexpected a b = refl
  one_why before [] Unexpected (Marked m) a b = absurd b
  one_why before (t ∷ rest) Unexpected (Marked m) a b = absurd (never-both before t rest m a b)
  one_why before [] (Marked m) v a b = absurd a
  one_why before (t ∷ rest) (Marked m) Unexpected a b = absurd (never-both before t rest m b a)
  one_why before (t ∷ rest) (Marked m) (Marked k) ((x, more, s), n) ((y, others, d), o) =
      ap (λ (r : Mark). Marked r) (one_mark before t m k x y more others s d)

  -- two beginnings of a list: one of them is shorter, or they are one
  one_place : (a b rest other : List Token) (w v : Why) → a ++ rest ≡ b ++ other
      → IsFirstFault S a w rest → IsFirstFault S b v other → (w ≡ v) × (rest ≡ other)
  one_place a b rest other w v whole f g = by [] a b refl refl whole
    where
      by : (front c d : List Token) → a ≡ front ++ c → b ≡ front ++ d → c ++ rest ≡ d ++ other
          → (w ≡ v) × (rest ≡ other)
      by front [] [] p r e = (
        one_why a rest w v f.0
            (subst (λ (us : List Token). IsWrong S us v rest) (r ∙ sym p)
            (subst (λ (us : List Token). IsWrong S b v us) (sym e) g.0)),
        e,
      )
      by front [] (t ∷ d) p r e =
          absurd (g.1 front t d w r
          (subst (λ (us : List Token). IsWrong S front w us) e
          (subst (λ (us : List Token). IsWrong S us w rest) (p ∙ append-nil front) f.0)))
      by front (t ∷ c) [] p r e =
          absurd (f.1 front t c v p
          (subst (λ (us : List Token). IsWrong S front v us) (sym e)
          (subst (λ (us : List Token). IsWrong S us v other) (r ∙ append-nil front) g.0)))
      by front (t ∷ c) (u ∷ d) p r e =
          let first : t ≡ u = cc in
          let more : c ++ rest ≡ d ++ other = cc in
          by (front ++ t ∷ []) c d (p ∙ sym (append_assoc front (t ∷ []) c))
          (r ∙ ap (λ (s : Token). front ++ s ∷ d) (sym first)
          ∙ sym (append_assoc front (t ∷ []) d)) more

  one_line : (ts : List Token) (w v : Why) (k l : ℕ) → HasFault S ts w k → HasFault S ts v l
      → (w ≡ v) × (k ≡ l)
  one_line ts w v k l (a, rest, p, f, x) (b, other, r, g, y) =
      let one = one_place a b rest other w v (sym p ∙ r) f g in
      (one.0, x ∙ ap (line_at ts) one.1 ∙ sym y)

  abbrev Of : List Token → CclFault → Type 0
  Of ts fault = (fault ≡ faults.Memory)
      ⊎ ((w : Why) × (line : ℕ) × HasFault S ts w line × (fault ≡ fault_of (stops.Fault w) line))

  of_fault : (ts : List Token) (fault : CclFault) → IsFault S ts fault → Of ts fault
  of_fault ts faults.Memory f = inl refl
  of_fault ts (faults.Unexpected line) f = inr (Unexpected, line, f, refl)
  of_fault ts (faults.Repeated line) f = inr (Marked marks.Repeated, line, f, refl)
  of_fault ts (faults.BadNumber line) f = inr (Marked marks.BadNumber, line, f, refl)
  of_fault ts (faults.Limit line) f = inr (Marked marks.Limit, line, f, refl)

  -- a list has one fault beside want of memory
  pub one_fault : (ts : List Token) (a b : CclFault) → IsFault S ts a → IsFault S ts b
      → (a ≡ faults.Memory) ⊎ (b ≡ faults.Memory) ⊎ (a ≡ b)
  one_fault ts a b f g = by (of_fault ts a f) (of_fault ts b g)
    where
      by : Of ts a → Of ts b → (a ≡ faults.Memory) ⊎ (b ≡ faults.Memory) ⊎ (a ≡ b)
      by (inl e) other = inl e
      by (inr one) (inl e) = inr (inl e)
      by (inr (w, k, f, x)) (inr (v, l, g, y)) =
          let one = one_line ts w v k l f g in
          inr (inr (x ∙ ap (λ (u : Why). fault_of (stops.Fault u) k) one.0
          ∙ ap (fault_of (stops.Fault v)) one.1 ∙ sym y))
