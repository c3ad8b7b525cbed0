-- Reading from left to right. A reading function answers a value and the tokens after it, or a
-- fault and the tokens from it on.
use Rattle.std.specs.Prelude.{◌≡◌, ℕ, zero, suc, Bool, cond, List, [], ◌∷◌, length, Option, Some, None, Result, Ok, Err}
use Rattle.cx_text.specs.declared.stop.Mark.{Mark}
use Rattle.cx_text.specs.declared.stop.Why.{Why}
use Rattle.cx_text.specs.declared.stop.Why.TheVariants.{Unexpected, Marked}
use Rattle.cx_text.specs.declared.stop.Stop.{Stop}
use Rattle.cx_text.specs.declared.stop.Stop.TheVariants as stops
use Rattle.cx_text.specs.declared.stop.Mark.TheVariants as marks
use Rattle.cx_text.specs.declared.fault.CclFault.{CclFault}
use Rattle.cx_text.specs.declared.fault.CclFault.TheVariants as faults
use Rattle.cx_text.specs.declared.token.Token.{Token}
use Rattle.cx_text.specs.Grammar.{passes, head}

abbrev pub Answer : Type 0 → Type 0
Answer A = Result (A × List Token) (Why × List Token)

abbrev pub Read : Type 0 → Type 0
Read A = List Token → Answer A

abbrev pub unless_marked : {A : Type 0} → Option Mark → A → Token → List Token → Answer A
unless_marked None x t ts = Ok (x, ts)
unless_marked (Some m) x t ts = Err (Marked m, t ∷ ts)

abbrev pub found : {A : Type 0} → Option A → Option Mark → Token → List Token → Answer A
found None m t ts = Err (Unexpected, t ∷ ts)
found (Some x) m t ts = unless_marked m x t ts

abbrev pub read_token : {A : Type 0} → (Token → Option A) → (Token → Option Mark) → Read A
read_token value mark [] = Err (Unexpected, [])
read_token value mark (t ∷ ts) = found (value t) (mark t) t ts

abbrev pub read_nothing : {A : Type 0} → A → Read A
read_nothing x ts = Ok (x, ts)

abbrev pub go_on : {A B : Type 0} → Answer A → (A → Read B) → Answer B
go_on (Ok x) f = f x.0 x.1
go_on (Err e) f = Err e

abbrev pub read_also : {A B : Type 0} → Read A → (A → Read B) → Read B
read_also p f ts = go_on (p ts) f

abbrev pub read_marked : {A : Type 0} → (Token → Option A) → (Token → Bool)
    → (Bool → Token → Option Mark) → Read A
read_marked value test mark [] = Err (Unexpected, [])
read_marked value test mark (t ∷ ts) = found (value t) (mark (passes test (head ts)) t) t ts

abbrev pub read_choice : {A : Type 0} → (Token → Bool) → Read A → Read A → Read A
read_choice test p q ts = cond (passes test (head ts)) (p ts) (q ts)

-- at most n of them
unfoldable pub read_up_to : {A C : Type 0} → (Token → Bool) → (C → Read A) → (C → A → C) → ℕ → C
    → Read (List A)
read_up_to test p step zero c ts = Ok ([], ts)
read_up_to test p step (suc n) c ts =
    cond (passes test (head ts))
    (go_on (p c ts) (λ x us.
    go_on (read_up_to test p step n (step c x) us) (λ xs vs. Ok (x ∷ xs, vs)))) (Ok ([], ts))

-- as many as there are
unfoldable pub read_many : {A C : Type 0} → (Token → Bool) → (C → Read A) → (C → A → C) → C
    → Read (List A)
read_many test p step c ts = read_up_to test p step (length ts) c ts

-- nothing is left
abbrev pub read_end : {A : Type 0} → A → Read A
read_end x [] = Ok (x, [])
read_end x (t ∷ ts) = Err (Unexpected, t ∷ ts)

abbrev pub read_whole : {A : Type 0} → Read A → Read A
read_whole p = read_also p read_end

-- What a reader returned, seen by view, and where it stands is what reading gives, unless memory
-- ran out.
abbrev pub Fails : {Y : Type 0} → Stop → List Token → Answer Y → Type 0
Fails stops.Memory rest read = Unit {0}
Fails (stops.Fault why) rest read = read ≡ Err (why, rest)

abbrev pub Gives : {X Y : Type 0} → (X → Y) → Result X Stop → List Token → Answer Y → Type 0
Gives view (Ok x) rest read = read ≡ Ok (view x, rest)
Gives view (Err e) rest read = Fails e rest read

-- the fault that a stop is, at a line
abbrev pub fault_of : Stop → ℕ → CclFault
fault_of stops.Memory line = faults.Memory
fault_of (stops.Fault Unexpected) line = faults.Unexpected line
fault_of (stops.Fault (Marked marks.Repeated)) line = faults.Repeated line
fault_of (stops.Fault (Marked marks.BadNumber)) line = faults.BadNumber line
fault_of (stops.Fault (Marked marks.Limit)) line = faults.Limit line
