-- The queues of a wire that tells nothing, by those of a wire that tells: the heads are the same.
use Rattle.std.proofs.Common.{◌≡◌, ℕ, ◌&&◌, ◌==◌, Bool, true, false, cond, ℤ, List, [], ◌∷◌, map, refl, sym, ap, ◌∙◌, Some, Result, Ok, Err, IfOk, OnErr, IsTrue}
use Rattle.std.proofs.Math.Path.{fun_ext}
use Rattle.std.specs.Prelude.{slice_get, slice_set}
use Rattle.std.proofs.lemmas.List.{map-append}
use Rattle.cx_wire.specs.declared.mail.Mail.{Mail}
use Rattle.cx_wire.specs.Messages.{Sent, sent, front_head}
use Rattle.cx_wire.specs.Queues.{at_pair, Gains, Loses, SameQueues}
use Rattle.cx_wire.specs.Altering.{with_first}

-- ---- what is told, as mails

abbrev told : (ℕ → ℕ → List Mail) → ℕ → ℕ → List (Sent (IsTrue true))
told q a b = map sent (q a b)

abbrev mail_of : Sent (IsTrue true) → Mail
mail_of m = record { head = m.head; values = m.values refl }

mails : (q : List Mail) → map mail_of (map sent q) ≡ q
mails [] = refl
mails (m ∷ q) = rw (mails q) refl

mail_pair : (v : Bool) (m : Mail) → map mail_of (cond v (sent m ∷ []) []) ≡ cond v (m ∷ []) []
mail_pair true m = refl
mail_pair false m = refl

pub mails_gain : (q r : ℕ → ℕ → List Mail) (f o : ℕ) (m : Mail)
    → Gains (told q) (told r) f o (sent m) → Gains q r f o m
mails_gain q r f o m gains a b =
    sym (mails (r a b)) ∙ ap (map mail_of) (gains a b)
    ∙ map-append mail_of (map sent (q a b)) (at_pair f o (sent m) a b)
    ∙ rw (mails (q a b), mail_pair (a == f && b == o) m) refl

pub mails_lose : (q r : ℕ → ℕ → List Mail) (f o : ℕ) (m : Mail)
    → Loses (told q) (told r) f o (sent m) → Loses q r f o m
mails_lose q r f o m loses a b =
    sym (mails (q a b)) ∙ ap (map mail_of) (loses a b)
    ∙ map-append mail_of (at_pair f o (sent m) a b) (map sent (r a b))
    ∙ rw (mails (r a b), mail_pair (a == f && b == o) m) refl

pub mails_stay : (q r : ℕ → ℕ → List Mail) → SameQueues (told q) (told r) → SameQueues q r
mails_stay q r same a b = sym (mails (r a b)) ∙ ap (map mail_of) (same a b) ∙ mails (q a b)

-- ---- heads alone

-- what is never told
never : IsTrue false → List ℤ
never t = absurd cc

-- a message of which the head alone is known
abbrev hidden : Sent (IsTrue true) → Sent (IsTrue false)
hidden m = record { head = m.head; values = never }

untold : (f g : IsTrue false → List ℤ) → f ≡ g
untold f g = fun_ext (λ t. absurd cc)

hidden_sent : (m : Mail) → hidden (sent m) ≡ sent m
hidden_sent m = ap (λ (v : IsTrue false → List ℤ). record { head = m.head; values = v })
    (untold _ _)

hidden_queue : (q : List Mail) → map hidden (map sent q) ≡ map sent q
hidden_queue [] = refl
hidden_queue (m ∷ q) = rw (hidden_sent m, hidden_queue q) refl

-- two mails of one head
same_bare : (m n : Mail) → m.head ≡ n.head → sent {tells = IsTrue false} m ≡ sent n
same_bare m n e =
    rw e (ap (λ (v : IsTrue false → List ℤ). record { head = n.head; values = v }) (untold _ _))

hidden_pair : (v : Bool) (m : Sent (IsTrue true))
    → map hidden (cond v (m ∷ []) []) ≡ cond v (hidden m ∷ []) []
hidden_pair true m = refl
hidden_pair false m = refl

abbrev kept_back : (ℕ → ℕ → List Mail) → ℕ → ℕ → List (Sent (IsTrue false))
kept_back q a b = map sent (q a b)

pub hide_gains : (q r : ℕ → ℕ → List Mail) (f o : ℕ) (m k : Mail) → m.head ≡ k.head
    → Gains (told q) (told r) f o (sent m) → Gains (kept_back q) (kept_back r) f o (sent k)
hide_gains q r f o m k e gains a b =
    sym (hidden_queue (r a b)) ∙ ap (map hidden) (gains a b)
    ∙ map-append hidden (map sent (q a b)) (at_pair f o (sent m) a b)
    ∙ rw (
      hidden_queue (q a b),
      hidden_pair (a == f && b == o) (sent m),
      hidden_sent m,
      same_bare m k e,
    ) refl

pub hide_loses : (q r : ℕ → ℕ → List Mail) (f o : ℕ) (m : Mail)
    → Loses (told q) (told r) f o (sent m) → Loses (kept_back q) (kept_back r) f o (sent m)
hide_loses q r f o m loses a b =
    sym (hidden_queue (q a b)) ∙ ap (map hidden) (loses a b)
    ∙ map-append hidden (at_pair f o (sent m) a b) (map sent (r a b))
    ∙ rw (hidden_queue (r a b), hidden_pair (a == f && b == o) (sent m), hidden_sent m) refl

pub hide_same : (q r : ℕ → ℕ → List Mail) → SameQueues (told q) (told r)
    → SameQueues (kept_back q) (kept_back r)
hide_same q r same a b =
    sym (hidden_queue (r a b)) ∙ ap (map hidden) (same a b) ∙ hidden_queue (q a b)

pub if_taken : {T E : Type 0} (r : Result T E) {P Q : T → Type 0} → ((x : T) → P x → Q x) → IfOk r P
    → IfOk r Q
if_taken (Ok x) f h = f x h
if_taken (Err e) f h = h

pub if_unsent : {T E : Type 0} (r : Result T E) {P Q : Type 0} → (P → Q) → OnErr r P → OnErr r Q
if_unsent (Ok x) f h = h
if_unsent (Err e) f h = f h

pub same_front : (s t : Type 0) (q : List Mail)
    → front_head (map (sent {tells = s}) q) ≡ front_head (map (sent {tells = t}) q)
same_front s t [] = refl
same_front s t (m ∷ q) = refl

-- the first value put back
back_again : (xs : List ℤ) (x y : ℤ) → slice_get xs 0 ≡ Some x
    → slice_set (slice_set xs 0 y) 0 x ≡ xs
back_again [] x y e = absurd cc
back_again (z ∷ zs) x y e = let s : z ≡ x = cc in rw s refl

pub put_back : (m : Mail) (x y : ℤ) → slice_get m.values 0 ≡ Some x
    → with_first (with_first m y) x ≡ m
put_back m x y e = ap (λ (v : List ℤ). record m { values = v }) (back_again m.values x y e)
