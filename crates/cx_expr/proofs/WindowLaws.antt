-- Reading in a window on the tokens up to the first that is one too many.
use Rattle.std.proofs.Common.{◌≡◌, ℕ, ◌+◌, ◌-◌, ◌<◌, ◌≤◌, List, [], ◌∷◌, ◌++◌, length, take, drop, Option, Result, Ok, Err, refl, sym, ap, subst, ◌∙◌, append_assoc, arith}
use Rattle.std.proofs.lemmas.List.{length-append}
use Rattle.std.proofs.Math.Seq.{take-append-add, drop-append-add, drop-append_seam}
use Rattle.cx_text.specs.declared.stop.Mark.TheVariants.{Limit}
use Rattle.cx_text.specs.declared.stop.Why.TheVariants.{Marked}
use Rattle.cx_text.specs.declared.stop.Stop.{Stop}
use Rattle.cx_text.specs.declared.stop.Stop.TheVariants as stops
use Rattle.cx_text.specs.declared.token.Token.{Token}
use Rattle.cx_text.specs.Reading.{Answer, Gives}
use Rattle.cx_text.specs.Rules.{Rule}
use Rattle.cx_text.proofs.RuleLaws.{Good}
use Rattle.cx_text.proofs.Never.{Never}
use Rattle.cx_expr.specs.AtMost.{past, at_most, cut_short}
use Rattle.cx_expr.proofs.AtMostLaws.{left_of, moved, passed, window_kept, window_passed, until_kept}

-- what an answer is, where memory didn't run out
pub record Told {A : Type 0} (answer : Result A Stop) (rest : List Token)
    (read : Answer A) : Type 0 where
  pub stands : left_of read ≡ rest
  pub same : (other : List Token) → Gives (λ x. x) answer other (moved read other)

pub told_of : {A : Type 0} (answer : Result A Stop) (rest : List Token) (read : Answer A)
    → (answer ≡ Err stops.Memory → ⊥) → Gives (λ x. x) answer rest read → Told answer rest read
told_of (Ok x) rest read n h = record { stands = ap left_of h; same = λ other. rw h refl }
told_of (Err stops.Memory) rest read n h = absurd (n refl)
told_of (Err (stops.Fault w)) rest read n h =
    record { stands = ap left_of h; same = λ other. rw h refl }

-- an answer stands at an end of what was read
suffix : {A : Type 0} (r : Rule A) (G : Option Token → Type 0) → Good r G
    → (ts : List Token) (a : Answer A) → r.reads ts ≡ a
    → (front : List Token) × (ts ≡ front ++ left_of a)
suffix r G good ts (Ok x) e = let k = good.law.takes ts x.0 x.1 e in (k.front, k.parts)
suffix r G good ts (Err d) e = let k = good.law.stops ts d.0 d.1 e in (k.before, k.parts)

-- what a window is
pub record Window {A : Type 0} (n : ℕ) (r : Rule A) (ts : List Token) (k : ℕ)
    (answer : Result A Stop) (rest : List Token) : Type 0 where
  -- all of it was read
  pub whole : rest ≡ [] → (at_most n r).reads ts ≡ Err (Marked Limit, past n ts)
  pub fits : length (drop k ts) + length rest ≤ length ts
  pub part : 0 < length rest
      → Gives (λ x. x) answer (drop (length ts - length (drop k ts) - length rest) ts)
      ((at_most n r).reads ts)

behind_parts : (f rest us : List Token)
    → drop (length (f ++ (rest ++ us)) - length us - length rest) (f ++ (rest ++ us)) ≡ rest ++ us
behind_parts f rest us =
    let a = length-append f (rest ++ us) in
    let b = length-append rest us in
    let size : length (f ++ (rest ++ us)) - length us - length rest ≡ length f =
    omega (arith, a, b) in
    ap (λ n. drop n (f ++ (rest ++ us))) size ∙ drop-append_seam f (rest ++ us)

regroup : (front : List Token) (t : Token) (us s rest : List Token) → front ++ t ∷ [] ≡ s ++ rest
    → front ++ t ∷ us ≡ s ++ (rest ++ us)
regroup front t us s rest e =
    sym (append_assoc front (t ∷ []) us) ∙ ap (λ (vs : List Token). vs ++ us) e
    ∙ append_assoc s rest us

pub window : {A : Type 0} (n : ℕ) (r : Rule A) (G : Option Token → Type 0) → Good r G → Never r
    → (ts : List Token) (k : ℕ) → 0 < length (past n ts) → k ≡ length ts - length (past n ts) + 1
    → (answer : Result A Stop) (rest : List Token) → (answer ≡ Err stops.Memory → ⊥)
    → Gives (λ x. x) answer rest (r.reads (take k ts)) → Window n r ts k answer rest
window {A} n r G good never ts k some is answer rest memory given =
    let f = passed n ts some in
    let a = length-append f.front (f.t ∷ f.rest) in
    let b : length ts ≡ length (f.front ++ f.t ∷ f.rest) = ap length f.parts in
    let c : length (past n ts) ≡ length (f.t ∷ f.rest) = ap length f.place in
    let place : k ≡ length f.front + 1 = omega (arith, a, b, c, is) in
    let taken : take k ts ≡ f.front ++ f.t ∷ [] =
    ap (λ m. take m ts) place ∙ ap (take (length f.front + 1)) f.parts
    ∙ take-append-add f.front (f.t ∷ f.rest) 1 in
    let dropped : drop k ts ≡ f.rest =
    ap (λ m. drop m ts) place ∙ ap (drop (length f.front + 1)) f.parts
    ∙ drop-append-add f.front (f.t ∷ f.rest) 1 in
    let read = r.reads (f.front ++ f.t ∷ []) in
    let told : Told answer rest read =
    told_of answer rest read memory
    (subst (λ (us : List Token). Gives (λ x. x) answer rest (r.reads us)) taken given) in
    let s = suffix r G good (f.front ++ f.t ∷ []) read refl in
    let parted : f.front ++ f.t ∷ [] ≡ s.0 ++ rest =
    s.1 ∙ ap (λ (us : List Token). s.0 ++ us) told.stands in
    let whole_parts : ts ≡ s.0 ++ (rest ++ f.rest) =
    f.parts ∙ regroup f.front f.t f.rest s.0 rest parted in
    let sized : length ts ≡ length (s.0 ++ (rest ++ f.rest)) = ap length whole_parts in
    let d = length-append s.0 (rest ++ f.rest) in
    let e = length-append rest f.rest in
    let g : length (drop k ts) ≡ length f.rest = ap length dropped in
    let there : drop (length ts - length (drop k ts) - length rest) ts ≡ rest ++ f.rest =
    ap (λ (us : List Token). drop (length ts - length us - length rest) ts) dropped
    ∙ ap (λ (us : List Token). drop (length us - length f.rest - length rest) us) whole_parts
    ∙ behind_parts s.0 rest f.rest in
    record {
      whole = λ none. window_passed n r G good never ts f.front f.t f.rest read f.parts f.place refl
          (told.stands ∙ none) ∙ ap (λ (us : List Token). Err (Marked Limit, us)) (sym f.place);
      fits = omega (arith, sized, d, e, g);
      part = λ more.
          let kept = window_kept n r G good never ts f.front f.t f.rest read f.parts f.place refl
          (rw told.stands more) in
          rw (there, kept, told.stands) (told.same (rest ++ f.rest));
    }

-- no token is one too many
pub no_window : {A : Type 0} (n : ℕ) (r : Rule A) (ts : List Token) → past n ts ≡ []
    → (at_most n r).reads ts ≡ r.reads ts
no_window n r ts none = rw none (until_kept [] (r.reads ts) (omega arith))

-- what a reader answers that read in a window
pub record Windowed {A : Type 0} (n : ℕ) (r : Rule A) (ts : List Token) (k : ℕ)
    (answer : Result A Stop) (rest : List Token) : Type 0 where
  pub whole : rest ≡ [] → Gives (λ x. x) (cut_short answer) (past n ts) ((at_most n r).reads ts)
  pub part : 0 < length rest
      → Gives (λ x. x) answer (drop (length ts - length (drop k ts) - length rest) ts)
      ((at_most n r).reads ts)

pub windowed : {A : Type 0} (n : ℕ) (r : Rule A) (G : Option Token → Type 0) → Good r G → Never r
    → (ts : List Token) (k : ℕ) → 0 < length (past n ts) → k ≡ length ts - length (past n ts) + 1
    → (answer : Result A Stop) (rest : List Token)
    → Gives (λ x. x) answer rest (r.reads (take k ts)) → Windowed n r ts k answer rest
windowed n r G good never ts k some is (Ok x) rest given = let w =
    window n r G good never ts k some is (Ok x) rest (λ e. absurd cc) given in
    record { whole = w.whole; part = w.part }
windowed n r G good never ts k some is (Err (stops.Fault v)) rest given = let w =
    window n r G good never ts k some is (Err (stops.Fault v)) rest (λ e. absurd cc) given in
    record { whole = w.whole; part = w.part }
windowed n r G good never ts k some is (Err stops.Memory) rest given =
    record { whole = λ e. tt; part = λ e. tt }
