-- From a place on, the longest part is read, or the first fault is found.
use Rattle.std.proofs.Common.{◌≡◌, ℕ, ◌+◌, ◌≤◌, List, [], ◌∷◌, ◌++◌, length, drop, Option, Some, None, Result, Ok, Err, refl, sym, ap, subst, ◌∙◌, append_assoc, arith}
use Rattle.std.proofs.lemmas.List.{append-nil, length-append, length-drop}
use Rattle.cx_text.specs.declared.stop.Mark.TheVariants as marks
use Rattle.cx_text.specs.declared.stop.Why.{Why}
use Rattle.cx_text.specs.declared.stop.Why.TheVariants.{Unexpected, Marked}
use Rattle.cx_text.specs.declared.stop.Stop.{Stop}
use Rattle.cx_text.specs.declared.stop.Stop.TheVariants as stops
use Rattle.cx_text.specs.declared.fault.CclFault.{CclFault}
use Rattle.cx_text.specs.declared.fault.CclFault.TheVariants as faults
use Rattle.cx_text.specs.declared.token.Token.{Token}
use Rattle.cx_text.specs.Grammar.{Item, Grammar, tokens, clean, head, line_at}
use Rattle.cx_text.specs.Reading.{Answer, Read, Fails, Gives, fault_of}
use Rattle.cx_text.proofs.Laws.{told, Taken, Reads, ok_is, tokens-clean, told-clean, taken_same}
use Rattle.cx_text.proofs.Whole.{told_all, first_fault}
use Rattle.cx_expr.specs.Parts.{IsBeginning, IsLongest, IsSpelledFrom, HasFaultFrom, IsFaultFrom, AnswersFrom, AnswersDerived, AnswersFromOnly, ReadsFrom}
use Rattle.cx_text.specs.Rules.{Rule}
use Rattle.cx_text.specs.Grammar.{Spells}
use Rattle.cx_text.proofs.Laws.{tokens-append}
use Rattle.std.proofs.Common.{inl, inr}
use Rattle.cx_expr.proofs.OpenLaws.{Open}

told_left : {A : Type 0} (x y : A) (ms : List Item) (rest : List Token)
    → told x ms [] ≡ Ok (y, rest) → rest ≡ []
told_left x y [] rest e = sym (ok_is x y [] rest e).1
told_left x y ((t, None) ∷ ms) rest e = told_left x y ms rest e
told_left x y ((t, Some m) ∷ ms) rest e = absurd cc

-- nothing longer begins a derived list
none_longer : {A : Type 0} (p : Read A) (S : Grammar A) (G : Option Token → Type 0) → Reads p S G
    → (ts : List Token) (x : A) (rest : List Token) (k : Taken S ts x rest) (t : Token)
    (more : List Token) → rest ≡ t ∷ more → IsBeginning S (k.front ++ t ∷ []) → ⊥
none_longer p S G r ts x rest k t more e b =
    let listed : tokens b.1 ≡ k.front ++ t ∷ b.2 = b.4 ∙ append_assoc k.front (t ∷ []) b.2 in
    let one : p (tokens b.1) ≡ Ok (x, t ∷ b.2) =
    ap p listed ∙ taken_same p S G r ts x rest k (t ∷ b.2) (sym (ap head e)) in
    absurd (let none : t ∷ b.2 ≡ [] =
    told_left b.0 x b.1 (t ∷ b.2) (sym (told_all p S G r b.0 b.1 b.3) ∙ one) in cc)

pub spelled_from : {A : Type 0} (p : Read A) (S : Grammar A) (G : Option Token → Type 0)
    → Reads p S G → G None → (ts : List Token) (at : ℕ) (x : A) (place : ℕ) (rest : List Token)
    → at ≤ length ts → p (drop at ts) ≡ Ok (x, rest) → place + length rest ≡ length ts
    → IsSpelledFrom S ts at x place
spelled_from p S G r g ts at x place rest within e sized =
    let k = r.takes (drop at ts) x rest e in
    let spelled : S x (clean k.front) None =
    r.moves x (clean k.front) (head rest) None k.spelled g in
    let size : length (drop at ts) ≡ length k.front + length rest =
    ap length k.parts ∙ length-append k.front rest in
    let dropped = length-drop at ts in
    let whole : at + length (drop at ts) ≡ length ts = omega (arith, dropped, within) in
    record {
      part = k.front;
      rest = rest;
      longest = record {
        parts = k.parts;
        begins = (x, clean k.front, [], spelled, tokens-clean k.front ∙ sym (append-nil k.front));
        longest = none_longer p S G r (drop at ts) x rest k;
      };
      spelled = spelled;
      ends = omega (arith, sized, size, whole);
    }

fault_from : {A : Type 0} (p : Read A) (S : Grammar A) (G : Option Token → Type 0) → Reads p S G
    → G None → (ts : List Token) (at : ℕ) (w : Why) (rest : List Token)
    → p (drop at ts) ≡ Err (w, rest) → HasFaultFrom S ts at w (line_at ts rest)
fault_from p S G r g ts at w rest e = let f = first_fault p S G r g w (drop at ts) rest e in
    (f.0, rest, f.1, f.2, refl)

stop_from : {A : Type 0} (p : Read A) (S : Grammar A) (G : Option Token → Type 0) → Reads p S G
    → G None → (ts : List Token) (at : ℕ) (rest : List Token) (stop : Stop)
    → Fails stop rest (p (drop at ts)) → IsFaultFrom S ts at (fault_of stop (line_at ts rest))
stop_from p S G r g ts at rest stops.Memory h = tt
stop_from p S G r g ts at rest (stops.Fault Unexpected) h =
    fault_from p S G r g ts at Unexpected rest h
stop_from p S G r g ts at rest (stops.Fault (Marked marks.Repeated)) h =
    fault_from p S G r g ts at (Marked marks.Repeated) rest h
stop_from p S G r g ts at rest (stops.Fault (Marked marks.BadNumber)) h =
    fault_from p S G r g ts at (Marked marks.BadNumber) rest h
stop_from p S G r g ts at rest (stops.Fault (Marked marks.Limit)) h =
    fault_from p S G r g ts at (Marked marks.Limit) rest h

pub answers_from : {A : Type 0} (p : Read A) (S : Grammar A) (G : Option Token → Type 0)
    → Reads p S G → G None → (ts : List Token) (at : ℕ) → at ≤ length ts
    → (result : Result (A × ℕ) CclFault) → ReadsFrom p ts at result → AnswersFrom S ts at result
answers_from p S G r g ts at within (Ok v) h =
    spelled_from p S G r g ts at v.0 v.1 h.0 within h.1 h.2
answers_from p S G r g ts at within (Err e) h =
    subst (λ (f : CclFault). IsFaultFrom S ts at f) (sym h.3)
    (stop_from p S G r g ts at h.1 h.0 h.2)

-- what is left of a list
pub left_fits : {A : Type 0} (p : Read A) (S : Grammar A) (G : Option Token → Type 0) → Reads p S G
    → (ts : List Token) (at : ℕ) (x : A) (rest : List Token) → p (drop at ts) ≡ Ok (x, rest)
    → length rest ≤ length ts
left_fits p S G r ts at x rest e =
    let k = r.takes (drop at ts) x rest e in
    let size : length (drop at ts) ≡ length (k.front ++ rest) = ap length k.parts in
    let both = length-append k.front rest in
    let dropped = length-drop at ts in
    omega (arith, size, both, dropped)

pub given_ok : {A : Type 0} (read : Answer A) (answer : Result A Stop) (rest : List Token) (x : A)
    → answer ≡ Ok x → Gives (λ y. y) answer rest read → read ≡ Ok (x, rest)
given_ok read (Ok y) rest x e h = let same : y ≡ x = cc in h ∙ rw same refl
given_ok read (Err s) rest x e h = absurd cc

pub given_err : {A : Type 0} (read : Answer A) (answer : Result A Stop) (rest : List Token)
    (stop : Stop) → answer ≡ Err stop → Gives (λ y. y) answer rest read → Fails stop rest read
given_err read (Ok y) rest stop e h = absurd cc
given_err read (Err s) rest stop e h = let same : s ≡ stop = cc in
    subst (λ (z : Stop). Fails z rest read) same h

-- ---- what is derived is answered

read_derived : {A : Type 0} (p : Read A) (S : Grammar A) (G : Option Token → Type 0) → Reads p S G
    → (ts : List Token) (at : ℕ) (x : A) (part rest : List Token) → drop at ts ≡ part ++ rest
    → S x (clean part) (head rest) → p (drop at ts) ≡ Ok (x, rest)
read_derived p S G r ts at x part rest e s =
    ap p (e ∙ ap (λ (us : List Token). us ++ rest) (sym (tokens-clean part)))
    ∙ r.again x (clean part) rest s ∙ told-clean x part rest

failed_memory : {A : Type 0} (stop : Stop) (rest : List Token) (read : Answer A) (x : A)
    (left : List Token) (line : ℕ) → Fails stop rest read → read ≡ Ok (x, left)
    → fault_of stop line ≡ faults.Memory
failed_memory stops.Memory rest read x left line h e = refl
failed_memory (stops.Fault w) rest read x left line h e = absurd (let z = sym h ∙ e in cc)

pub answers_from_only : {A : Type 0} (p : Read A) (S : Grammar A) (G : Option Token → Type 0)
    → Reads p S G → (ts : List Token) (at : ℕ) → at ≤ length ts → (result : Result (A × ℕ) CclFault)
    → ReadsFrom p ts at result → AnswersDerived S ts at result
answers_from_only p S G r ts at within (Ok v) h x part rest e s =
    let read = read_derived p S G r ts at x part rest e s in
    let same = ok_is v.0 x h.0 rest (sym h.1 ∙ read) in
    let sized : v.1 + length h.0 ≡ length ts = h.2 in
    let left : length h.0 ≡ length rest = ap length same.1 in
    let size : length (drop at ts) ≡ length (part ++ rest) = ap length e in
    let both = length-append part rest in
    let dropped = length-drop at ts in
    (same.0, omega (arith, sized, left, size, both, dropped, within))
answers_from_only p S G r ts at within (Err f) h x part rest e s =
    h.3 ∙ failed_memory h.0 h.1 (p (drop at ts)) x rest (line_at ts h.1) h.2
    (read_derived p S G r ts at x part rest e s)

-- ---- the longest part that is spelled

-- it is derived before the token that stands behind it
pub longest_derived : {A : Type 0} (r : Rule A) → Open r → (ts part rest : List Token) (x : A)
    → IsLongest r.derives ts part rest → Spells r.derives part x
    → r.derives x (clean part) (head rest)
longest_derived r each ts part [] x l s = s
longest_derived r each ts part (t ∷ more) x l s =
    elim (each.law x (clean part) t s) [
      | inl p ↦ p
      | inr g
          ↦ absurd (l.longest t more refl (
            g.0,
            clean part ++ (t, g.1) ∷ g.2,
            tokens g.2,
            g.3,
            tokens-append (clean part) ((t, g.1) ∷ g.2)
                ∙ ap (λ (us : List Token). us ++ t ∷ tokens g.2) (tokens-clean part)
                ∙ sym (append_assoc part (t ∷ []) (tokens g.2)),
          ))
    ]

pub spelled_only : {A : Type 0} (r : Rule A) → Open r
    → (ts : List Token) (at : ℕ) (result : Result (A × ℕ) CclFault)
    → AnswersDerived r.derives ts at result → AnswersFromOnly r.derives ts at result
spelled_only r each ts at (Ok v) only x place s = let h =
    only x s.part s.rest s.longest.parts
    (longest_derived r each (drop at ts) s.part s.rest x s.longest s.spelled) in
    (h.0, h.1 ∙ sym s.ends)
spelled_only r each ts at (Err e) only x place s =
    only x s.part s.rest s.longest.parts
    (longest_derived r each (drop at ts) s.part s.rest x s.longest s.spelled)
