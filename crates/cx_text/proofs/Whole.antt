-- A whole list: what is read is spelled, what is spelled is read, and a fault is the first one.
use Rattle.std.proofs.Common.{◌≡◌, ℕ, ◌≤◌, List, [], ◌∷◌, ◌++◌, length, Option, Some, None, Ok, Err, refl, inl, sym, ap, subst, ◌∙◌, arith}
use Rattle.std.proofs.lemmas.List.{append-nil}
use Rattle.cx_text.specs.declared.stop.Mark.{Mark}
use Rattle.cx_text.specs.declared.stop.Why.{Why}
use Rattle.cx_text.specs.declared.stop.Why.TheVariants.{Unexpected, Marked}
use Rattle.cx_text.specs.declared.stop.Mark.TheVariants as marks
use Rattle.cx_text.specs.declared.stop.Stop.{Stop}
use Rattle.cx_text.specs.declared.stop.Stop.TheVariants as stops
use Rattle.cx_text.specs.declared.fault.CclFault.TheVariants as faults
use Rattle.cx_text.specs.declared.token.Token.{Token}
use Rattle.cx_text.specs.Grammar.{Item, tokens, clean, head, next_of, Grammar, also, Spells, BeginsMarked, NoneUnmarked, IsWrong, IsFirstFault, IsFault, line_at, last_line}
use Rattle.cx_text.specs.Reading.{Read, read_end, read_whole, Fails, fault_of}
use Rattle.cx_text.proofs.FirstFault.{Judges, judges_read, told_behind, first_from}
use Rattle.cx_text.proofs.Laws.{told, Shows, Taken, Stopped, Reads, reads_also, ok_is, err_is, tokens-append, tokens-clean, told-clean}

-- nothing, and nothing follows
abbrev ended : {A : Type 0} → A → Grammar A
ended x y ms next = (y ≡ x) × (ms ≡ []) × (next ≡ None)

end_again : {A : Type 0} (x y : A) (ms : List Item) (rest : List Token) → ended x y ms (head rest)
    → read_end x (tokens ms ++ rest) ≡ told y ms rest
end_again x y ms [] s = rw (s.1, s.0) refl
end_again x y ms (t ∷ rest) s = absurd (let h = s.2 in cc)

end_takes : {A : Type 0} (x : A) (ts : List Token) (y : A) (rest : List Token)
    → read_end x ts ≡ Ok (y, rest) → Taken (ended x) ts y rest
end_takes x [] y rest e = let h = ok_is x y [] rest e in
    record { front = []; parts = h.1; spelled = (sym h.0, refl, ap head (sym h.1)) }
end_takes x (t ∷ ts) y rest e = absurd cc

end_same : {A : Type 0} (x : A) (t : Token) (other : List Token) → head other ≡ Some t
    → read_end x other ≡ Err (Unexpected, other)
end_same x t [] e = absurd cc
end_same x t (u ∷ us) e = refl

end_stops : {A : Type 0} (x : A) (ts : List Token) (w : Why) (rest : List Token)
    → read_end x ts ≡ Err (w, rest) → Stopped (read_end x) (ended x) (λ n. n ≡ None) ts w rest
end_stops x [] w rest e = absurd cc
end_stops {A} x (t ∷ ts) w rest e =
    let h = err_is {A = A} Unexpected w (t ∷ ts) rest e in
    subst (λ (r : List Token). Stopped (read_end x) (ended x) (λ n. n ≡ None) (t ∷ ts) w r) h.1
    (subst (λ (v : Why). Stopped (read_end x) (ended x) (λ n. n ≡ None) (t ∷ ts) v (t ∷ ts)) h.0
    (record {
      before = [];
      parts = refl;
      begins = λ next n. (x, [], (refl, refl, n), tt);
      same = λ other o n. end_same x t other o;
      past = λ other o. inl (end_same x t other o);
    }))

reads_end : {A : Type 0} (x : A) → Reads (read_end x) (ended x) (λ n. n ≡ None)
reads_end x = record {
  again = end_again x;
  takes = end_takes x;
  stops = end_stops x;
  moves = λ y ms next other s g. (s.0, s.1, g);
}

reads_whole : {A : Type 0} (p : Read A) (S : Grammar A) (G : Option Token → Type 0) → Reads p S G
    → G None → Reads (read_whole p) (also S ended) (λ n. n ≡ None)
reads_whole p S G r g =
    let at : (next : Option Token) → next ≡ None
    → G next = λ next n. subst (λ (m : Option Token). G m) (sym n) g in
    reads_also p S G read_end ended (λ n. n ≡ None) r reads_end
    (record {
      one = None;
      allowed = g;
      ends = λ x next n. (x, [], (refl, refl, n), at next n);
      through = λ x y next other e n. at other n;
    })

-- a whole list is a part, and then nothing
of_whole : {A : Type 0} (S : Grammar A) (x : A) (ms : List Item) (next : Option Token)
    → also S ended x ms next → S x ms None
of_whole S x ms next (y, front, back, e, s, (same, none, last)) =
    let whole : ms ≡ front = e ∙ rw none (append-nil front) in
    let s' : S y front next = rw none at s in
    subst (λ (z : _). S z ms None) (sym same)
    (subst (λ (is : List Item). S y is None) (sym whole)
    (subst (λ (n : Option Token). S y front n) last s'))

to_whole : {A : Type 0} (S : Grammar A) (x : A) (ms : List Item) → S x ms None
    → also S ended x ms None
to_whole S x ms s = (x, ms, [], sym (append-nil ms), s, (refl, refl, refl))

head-none : (rest : List Token) → head rest ≡ None → rest ≡ []
head-none [] e = refl
head-none (t ∷ ts) e = absurd cc

last_of : {A : Type 0} (S : Grammar A) (x : A) (ms : List Item) (next : Option Token)
    → also S ended x ms next → next ≡ None
last_of S x ms next (y, front, back, e, s, (same, none, last)) = last

pub whole_found : {A : Type 0} (p : Read A) (S : Grammar A) (G : Option Token → Type 0)
    → Reads p S G → G None → (ts : List Token) (x : A) (rest : List Token)
    → read_whole p ts ≡ Ok (x, rest) → Spells S ts x
whole_found p S G r g ts x rest e =
    let t = (reads_whole p S G r g).takes ts x rest e in
    let s = of_whole S x (clean t.front) (head rest) t.spelled in
    let whole : t.front ≡ ts =
    sym (append-nil t.front)
    ∙ ap (λ (us : List Token). t.front ++ us)
    (sym (head-none rest (last_of S x (clean t.front) (head rest) t.spelled))) ∙ sym t.parts in
    subst (λ (us : List Token). S x (clean us) None) whole s

pub whole_only : {A : Type 0} (p : Read A) (S : Grammar A) (G : Option Token → Type 0) → Reads p S G
    → G None → (ts : List Token) (x : A) → Spells S ts x → read_whole p ts ≡ Ok (x, [])
whole_only p S G r g ts x s =
    let a = (reads_whole p S G r g).again x (clean ts) [] (to_whole S x (clean ts) s) in
    ap (read_whole p) (sym (append-nil (tokens (clean ts)) ∙ tokens-clean ts)) ∙ a
    ∙ told-clean x ts []

-- ---- where reading stops is the first fault

told_marks : {A : Type 0} (x : A) (ms : List Item) (rest r : List Token)
    → told x ms rest ≡ Err (Unexpected, r) → ⊥
told_marks x [] rest r e = absurd cc
told_marks x ((t, None) ∷ ms) rest r e = told_marks x ms rest r e
told_marks {A} x ((t, Some m) ∷ ms) rest r e =
    absurd (let h = (err_is {A = A} (Marked m) Unexpected (t ∷ (tokens ms ++ rest)) r e).0 in cc)

told_within : {A : Type 0} (x : A) (ms : List Item) (w : Why) (us : List Token)
    → told x ms [] ≡ Err (w, us) → length us ≤ length (tokens ms)
told_within x [] w us e = absurd cc
told_within x ((t, None) ∷ ms) w us e = let h = told_within x ms w us e in omega (arith, h)
told_within {A} x ((t, Some m) ∷ ms) w us e =
    let h = (err_is {A = A} (Marked m) w (t ∷ (tokens ms ++ [])) us e).1 in
    let size : length us ≡ length (t ∷ tokens ms) =
    ap length (sym h ∙ ap (λ (ts : List Token). t ∷ ts) (append-nil (tokens ms))) in
    omega (arith, size)

next_tokens : (ms : List Item) → head (tokens ms) ≡ next_of ms None
next_tokens [] = refl
next_tokens (m ∷ ms) = refl

pub told_all : {A : Type 0} (p : Read A) (S : Grammar A) (G : Option Token → Type 0) → Reads p S G
    → (x : A) (ms : List Item) → S x ms None → p (tokens ms) ≡ told x ms []
told_all p S G r x ms s = ap p (sym (append-nil (tokens ms))) ∙ r.again x ms [] s

-- a list that goes on without the mark would be read past the token
none_unmarked : {A : Type 0} (p : Read A) (S : Grammar A) (G : Option Token → Type 0) → Reads p S G
    → (m : Mark) (ts : List Token) (t : Token) (rest : List Token)
    (k : Stopped p S G ts (Marked m) (t ∷ rest)) → NoneUnmarked S k.before t (head rest)
none_unmarked p S G r m ts t rest k x more s n =
    let listed : tokens (clean k.before ++ (t, None) ∷ more) ≡ k.before ++ t ∷ tokens more =
    tokens-append (clean k.before) ((t, None) ∷ more)
    ∙ ap (λ (us : List Token). us ++ t ∷ tokens more) (tokens-clean k.before) in
    let stopped = k.same (t ∷ tokens more) refl (λ q. next_tokens more ∙ n) in
    let goes : p (k.before ++ t ∷ tokens more) ≡ told x more [] =
    ap p (sym listed) ∙ told_all p S G r x (clean k.before ++ (t, None) ∷ more) s
    ∙ told_behind x k.before ((t, None) ∷ more) [] in
    let short = told_within x more (Marked m) (t ∷ tokens more) (sym goes ∙ stopped) in
    absurd (omega (arith, short))

marked_there : {A : Type 0} (S : Grammar A) (m : Mark) (before : List Token) (t : Token)
    (rest : List Token) (x : A) (more : List Item) → S x (clean before ++ more) None
    → Shows (Marked m) (t ∷ rest) more → BeginsMarked S before t m
marked_there S m before t rest x [] s h = absurd h
marked_there S m before t rest x (i ∷ is) s h =
    (x, is, subst (λ (j : Item). S x (clean before ++ j ∷ is) None) h s)

stopped_wrong : {A : Type 0} (p : Read A) (S : Grammar A) (G : Option Token → Type 0) → Reads p S G
    → G None → (w : Why) (ts : List Token) (rest : List Token) (k : Stopped p S G ts w rest)
    → IsWrong S k.before w rest
stopped_wrong p S G r g Unexpected ts rest k =
    let b = k.begins None g in (
      (b.0, b.1, b.2),
      λ x ms more s q h. told_marks x ms [] more
          (sym (told_all p S G r x ms s) ∙ ap p q ∙ k.same more h (λ v. absurd cc)),
    )
stopped_wrong p S G r g (Marked m) ts [] k = let b = k.begins None g in absurd b.3
stopped_wrong p S G r g (Marked m) ts (t ∷ rest) k =
    let b = k.begins None g in
    (marked_there S m k.before t rest b.0 b.1 b.2 b.3, none_unmarked p S G r m ts t rest k)

pub first_fault : {A : Type 0} (p : Read A) (S : Grammar A) (G : Option Token → Type 0)
    → Reads p S G → G None → (w : Why) (ts rest : List Token) → p ts ≡ Err (w, rest)
    → (before : List Token) × (ts ≡ before ++ rest) × IsFirstFault S before w rest
first_fault p S G r g w ts rest e = let k = r.stops ts w rest e in
    first_from p S (judges_read p S G r) w ts rest e
    (k.before, k.parts, stopped_wrong p S G r g w ts rest k)

wrong_of_whole : {A : Type 0} (S : Grammar A) (before : List Token) (w : Why) (rest : List Token)
    → IsWrong (also S ended) before w rest → IsWrong S before w rest
wrong_of_whole S before Unexpected rest ((x, more, s), none) = (
  (x, more, of_whole S x (clean before ++ more) None s),
  λ y ms us d q h. none y ms us (to_whole S y ms d) q h,
)
wrong_of_whole S before (Marked m) [] f = absurd f
wrong_of_whole S before (Marked m) (t ∷ rest) ((x, more, s), none) = (
  (x, more, of_whole S x (clean before ++ (t, Some m) ∷ more) None s),
  λ y us d n. none y us (to_whole S y (clean before ++ (t, None) ∷ us) d) n,
)

-- reading a list whole judges it
pub judges_whole : {A : Type 0} (p : Read A) (S : Grammar A) (G : Option Token → Type 0)
    → Reads p S G → G None → Judges (read_whole p) S
judges_whole p S G r g =
    let j = judges_read (read_whole p) (also S ended) (λ n. n ≡ None) (reads_whole p S G r g) in
    record { tells = λ x ms s. j.tells x ms (to_whole S x ms s); firm = j.firm; past = j.past }

-- where a list is wrong that is read whole
pub whole_wrong : {A : Type 0} (p : Read A) (S : Grammar A) (G : Option Token → Type 0)
    → Reads p S G → G None → (w : Why) (ts : List Token) (rest : List Token)
    → read_whole p ts ≡ Err (w, rest)
    → (before : List Token) × (ts ≡ before ++ rest) × IsWrong S before w rest
whole_wrong p S G r g w ts rest e =
    let whole = reads_whole p S G r g in
    let k = whole.stops ts w rest e in (
      k.before,
      k.parts,
      wrong_of_whole S k.before w rest
          (stopped_wrong (read_whole p) (also S ended) (λ n. n ≡ None) whole refl w ts rest k),
    )

pub whole_fault : {A : Type 0} (p : Read A) (S : Grammar A) (G : Option Token → Type 0)
    → Reads p S G → G None → (w : Why) (ts : List Token) (rest : List Token)
    → read_whole p ts ≡ Err (w, rest)
    → (before : List Token) × (ts ≡ before ++ rest) × IsFirstFault S before w rest
whole_fault p S G r g w ts rest e =
    first_from (read_whole p) S (judges_whole p S G r g) w ts rest e
    (whole_wrong p S G r g w ts rest e)

-- ---- what a reader answers

pub answer_found : {X A : Type 0} (view : X → A) (p : Read A) (S : Grammar A)
    (G : Option Token → Type 0) → Reads p S G → G None → (ts rest : List Token) (v : X)
    → read_whole p ts ≡ Ok (view v, rest) → Spells S ts (view v)
answer_found view p S G r g ts rest v e = whole_found p S G r g ts (view v) rest e

pub answer_is : {A : Type 0} (p : Read A) (S : Grammar A) (G : Option Token → Type 0) → Reads p S G
    → G None → (ts rest : List Token) (x y : A) → read_whole p ts ≡ Ok (x, rest) → Spells S ts y
    → x ≡ y
answer_is p S G r g ts rest x y e s = (ok_is x y rest [] (sym e ∙ whole_only p S G r g ts y s)).0

pub answer_fault : {A : Type 0} (p : Read A) (S : Grammar A) (G : Option Token → Type 0)
    → Reads p S G → G None → (ts rest : List Token) (stop : Stop)
    → Fails stop rest (read_whole p ts) → IsFault S ts (fault_of stop (line_at ts rest))
answer_fault p S G r g ts rest stops.Memory h = tt
answer_fault p S G r g ts rest (stops.Fault Unexpected) h = let f =
    whole_fault p S G r g Unexpected ts rest h in (f.0, rest, f.1, f.2, refl)
answer_fault p S G r g ts rest (stops.Fault (Marked marks.Repeated)) h = let f =
    whole_fault p S G r g (Marked marks.Repeated) ts rest h in (f.0, rest, f.1, f.2, refl)
answer_fault p S G r g ts rest (stops.Fault (Marked marks.BadNumber)) h = let f =
    whole_fault p S G r g (Marked marks.BadNumber) ts rest h in (f.0, rest, f.1, f.2, refl)
answer_fault p S G r g ts rest (stops.Fault (Marked marks.Limit)) h = let f =
    whole_fault p S G r g (Marked marks.Limit) ts rest h in (f.0, rest, f.1, f.2, refl)

-- no list that is spelled has a fault
pub fault_memory : {A : Type 0} (p : Read A) (S : Grammar A) (G : Option Token → Type 0)
    → Reads p S G → G None → (ts rest : List Token) (stop : Stop) (y : A) (line : ℕ)
    → Fails stop rest (read_whole p ts) → Spells S ts y → fault_of stop line ≡ faults.Memory
fault_memory p S G r g ts rest stops.Memory y line h s = refl
fault_memory p S G r g ts rest (stops.Fault w) y line h s =
    absurd (let e = sym h ∙ whole_only p S G r g ts y s in cc)

pub last_line-push : (ts : List Token) (t : Token) → last_line (ts ++ t ∷ []) ≡ t.line
last_line-push [] t = refl
last_line-push (u ∷ []) t = refl
last_line-push (u ∷ v ∷ ts) t = last_line-push (v ∷ ts) t

pub whole_told : {A : Type 0} (p : Read A) (S : Grammar A) (G : Option Token → Type 0) → Reads p S G
    → G None → (x : A) (ms : List Item) → S x ms None → read_whole p (tokens ms) ≡ told x ms []
whole_told p S G r g x ms s =
    ap (read_whole p) (sym (append-nil (tokens ms)))
    ∙ (reads_whole p S G r g).again x ms [] (to_whole S x ms s)

pub told_is : {A : Type 0} (x : A) (ms : List Item) (rest : List Token) (y : A) (r : List Token)
    → told x ms rest ≡ Ok (y, r) → x ≡ y
told_is x [] rest y r e = (ok_is x y rest r e).0
told_is x ((t, None) ∷ ms) rest y r e = told_is x ms rest y r e
told_is x ((t, Some m) ∷ ms) rest y r e = absurd cc

-- nothing is left of a whole list
pub whole_rest : {A : Type 0} (p : Read A) (S : Grammar A) (G : Option Token → Type 0) → Reads p S G
    → G None → (ts : List Token) (x : A) (rest : List Token) → read_whole p ts ≡ Ok (x, rest)
    → rest ≡ []
whole_rest p S G r g ts x rest e = let t = (reads_whole p S G r g).takes ts x rest e in
    head-none rest (last_of S x (clean t.front) (head rest) t.spelled)
