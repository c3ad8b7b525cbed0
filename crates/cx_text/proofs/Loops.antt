-- Reading parts one after the other, as a loop does.
use Rattle.std.proofs.Common.{◌≡◌, Bool, true, false, cond, List, [], ◌∷◌, ◌++◌, length, ◌<◌, Result, Ok, Err, refl, sym, ap, ◌∙◌, append_assoc}
use Rattle.std.specs.Prelude.{IsErrAnd}
use Rattle.std.proofs.lemmas.List.{append-nil}
use Rattle.std.proofs.lemmas.Result.{err_from_is_err_and}
use Rattle.cx_text.specs.declared.stop.Stop.{Stop}
use Rattle.cx_text.specs.declared.stop.Stop.TheVariants as stops
use Rattle.cx_text.specs.declared.token.Token.{Token}
use Rattle.cx_text.specs.Grammar.{head, passes}
use Rattle.cx_text.specs.Reading.{Answer, Read, go_on, read_many, Fails, Gives}
use Rattle.cx_text.specs.Rules.{Rule, loop, last}
use Rattle.cx_text.proofs.Many.{IsShort, unrolled, then_more}

-- what was read before, and what is still read
abbrev pub prefixed : {A : Type 0} → List A → Answer (List A) → Answer (List A)
prefixed front read = go_on read (λ xs rest. Ok (front ++ xs, rest))

prefixed-cons : {A : Type 0} (front : List A) (x : A) (read : Answer (List A))
    → prefixed front (go_on read (λ xs rest. Ok (x ∷ xs, rest))) ≡ prefixed (front ++ x ∷ []) read
prefixed-cons front x (Ok r) = ap (λ xs. Ok (xs, r.1)) (simp append_assoc)
prefixed-cons front x (Err e) = refl

pub many_goes_on : {A C : Type 0} (test : Token → Bool) (p : C → Read A) (step : C → A → C)
    (short : (c : C) → IsShort (p c)) (front : List A) (c : C) (ts us : List Token) (x : A)
    (total : Answer (List A))
    → passes test (head ts) ≡ true → p c ts ≡ Ok (x, us)
    → prefixed front (read_many test p step c ts) ≡ total
    → prefixed (front ++ x ∷ []) (read_many test p step (step c x) us) ≡ total
many_goes_on test p step short front c ts us x total go one so_far =
    let here : read_many test p step c ts ≡ then_more test p step c x us =
    unrolled test p step short c ts ∙ rw (go, one) refl in
    sym (ap (prefixed front) here ∙ prefixed-cons front x (read_many test p step (step c x) us))
    ∙ so_far

pub many_fails : {A C : Type 0} (test : Token → Bool) (p : C → Read A) (step : C → A → C)
    (short : (c : C) → IsShort (p c)) (front : List A) (c : C) (ts us : List Token) (e : Stop)
    (total : Answer (List A))
    → passes test (head ts) ≡ true → Fails e us (p c ts)
    → prefixed front (read_many test p step c ts) ≡ total → Fails e us total
many_fails test p step short front c ts us stops.Memory total go one so_far = tt
many_fails test p step short front c ts us (stops.Fault w) total go one so_far =
    let here : read_many test p step c ts ≡ Err (w, us) =
    unrolled test p step short c ts ∙ rw (go, one) refl in
    sym so_far ∙ rw here refl

pub many_ends : {A C : Type 0} (test : Token → Bool) (p : C → Read A) (step : C → A → C)
    (short : (c : C) → IsShort (p c)) (front : List A) (c : C) (ts : List Token)
    (total : Answer (List A))
    → passes test (head ts) ≡ false → prefixed front (read_many test p step c ts) ≡ total
    → total ≡ Ok (front, ts)
many_ends test p step short front c ts total stop so_far =
    let here : read_many test p step c ts ≡ Ok ([], ts) =
    unrolled test p step short c ts ∙ rw stop refl in
    sym so_far ∙ rw (here, append-nil front) refl

-- ---- a rule again and again

-- a rule takes a token, read from left to right
pub record Short {A : Type 0} (r : Rule A) : Type 0 where
  pub law : IsShort r.reads

pub loop_unrolled : {C : Type 0} (test : Token → Bool) (r : C → Rule C)
    (short : (c : C) → Short (r c)) (c : C) (ts : List Token)
    → (loop test r c).reads ts
    ≡ cond (passes test (head ts)) (go_on ((r c).reads ts) (λ x us. (loop test r x).reads us))
    (Ok (c, ts))
loop_unrolled {C} test r short c ts =
    let ends : C → List C → Read C = λ d cs us. Ok (last d cs, us) in
    let P : Answer C → Type 0 =
    λ a. go_on (go_on a (then_more test (λ d. (r d).reads) (λ d x. x) c)) (ends c)
    ≡ go_on a (λ x us. (loop test r x).reads us) in
    let more : (a : Answer (List C)) (x : C)
    → go_on (go_on a (λ xs vs. Ok (x ∷ xs, vs))) (ends c) ≡ go_on a (ends x) =
    λ a x. elim a as (λ b. go_on (go_on b (λ xs vs. Ok (x ∷ xs, vs))) (ends c)
    ≡ go_on b (ends x)) [ (Ok y) ↦ refl | (Err e) ↦ refl ] in
    let at : (a : Answer C)
    → P a = λ a. elim a as P [
      | (Ok x) ↦ more (read_many test (λ d. (r d).reads) (λ d y. y) x.0 x.1) x.0
      | (Err e) ↦ refl
    ] in
    let Q : Bool → Type 0 =
    λ b. go_on (cond b (go_on ((r c).reads ts) (then_more test (λ d. (r d).reads) (λ d x. x) c))
    (Ok ([], ts))) (ends c)
    ≡ cond b (go_on ((r c).reads ts) (λ x us. (loop test r x).reads us)) (Ok (c, ts)) in
    let by : (b : Bool) → Q b = λ b. elim b as Q [ true ↦ at ((r c).reads ts) | false ↦ refl ] in
    ap (λ a. go_on a (ends c))
    (unrolled test (λ d. (r d).reads) (λ d x. x) (λ d. (short d).law) c ts)
    ∙ by (passes test (head ts))

pub loop_goes_on : {C : Type 0} (test : Token → Bool) (r : C → Rule C)
    (short : (c : C) → Short (r c)) (c d : C) (ts us : List Token) (total : Answer C)
    → passes test (head ts) ≡ true → (r c).reads ts ≡ Ok (d, us) → (loop test r c).reads ts ≡ total
    → (loop test r d).reads us ≡ total
loop_goes_on test r short c d ts us total go one so_far =
    sym (loop_unrolled test r short c ts ∙ rw (go, one) refl) ∙ so_far

pub loop_fails : {C : Type 0} (test : Token → Bool) (r : C → Rule C) (short : (c : C) → Short (r c))
    (c : C) (ts us : List Token) (e : Stop) (total : Answer C) → passes test (head ts) ≡ true
    → Fails e us ((r c).reads ts) → (loop test r c).reads ts ≡ total → Fails e us total
loop_fails test r short c ts us stops.Memory total go one so_far = tt
loop_fails test r short c ts us (stops.Fault w) total go one so_far =
    sym so_far ∙ loop_unrolled test r short c ts ∙ rw (go, one) refl

pub loop_ends : {C : Type 0} (test : Token → Bool) (r : C → Rule C) (short : (c : C) → Short (r c))
    (c : C) (ts : List Token) (total : Answer C) → passes test (head ts) ≡ false
    → (loop test r c).reads ts ≡ total → total ≡ Ok (c, ts)
loop_ends test r short c ts total stop so_far =
    sym so_far ∙ loop_unrolled test r short c ts ∙ rw stop refl

-- ---- a loop of the code

-- the loop that began at `total` goes on from c at ts
pub record SoFar {C : Type 0} (test : Token → Bool) (r : C → Rule C) (c : C) (ts : List Token)
    (total : Answer C) : Type 0 where
  pub law : (loop test r c).reads ts ≡ total

pub begun : {C : Type 0} {test : Token → Bool} {r : C → Rule C} {c : C} {ts : List Token}
    → SoFar test r c ts ((loop test r c).reads ts)
begun = record { law = refl }

-- a turn was read
pub turned : {C : Type 0} {test : Token → Bool} {r : C → Rule C} {c d : C} {ts us : List Token}
    {total : Answer C} {b : Bool} → ((e : C) → Short (r e)) → SoFar test r c ts total
    → b ≡ passes test (head ts) → b ≡ true → (r c).reads ts ≡ Ok (d, us) → SoFar test r d us total
turned {C} {test} {r} {c} {d} {ts} {us} {total} short so_far at go one =
    record { law = loop_goes_on test r short c d ts us total (sym at ∙ go) one so_far.law }

-- a turn takes a token
pub fewer : {C : Type 0} {r : C → Rule C} {c d : C} {ts us : List Token} → ((e : C) → Short (r e))
    → (r c).reads ts ≡ Ok (d, us) → length us < length ts
fewer {C} {r} {c} {d} {ts} {us} short one = (short c).law ts d us one

-- a turn was stopped, and `?` hands that out
pub stopped : {X C : Type 0} {test : Token → Bool} {r : C → Rule C} {c : C} {ts : List Token}
    {total : Answer C} {b : Bool} (view : X → C) (result : Result X Stop) (us : List Token)
    (e : Stop) → ((d : C) → Short (r d)) → SoFar test r c ts total → b ≡ passes test (head ts)
    → b ≡ true → Fails e us ((r c).reads ts) → IsErrAnd result (λ y. y ≡ e)
    → Gives view result us total
stopped {X} {C} {test} {r} {c} {ts} {total} view result us e short so_far at go one out =
    let p = err_from_is_err_and result out in
    rw (p.1, p.2) (loop_fails test r short c ts us e total (sym at ∙ go) one so_far.law)

-- the next token doesn't pass
pub ended_at : {C : Type 0} {test : Token → Bool} {r : C → Rule C} {c : C} {ts : List Token}
    {total : Answer C} {b : Bool} → ((d : C) → Short (r d)) → SoFar test r c ts total
    → b ≡ passes test (head ts) → b ≡ false → total ≡ Ok (c, ts)
ended_at {C} {test} {r} {c} {ts} {total} short so_far at end =
    loop_ends test r short c ts total (sym at ∙ end) so_far.law
