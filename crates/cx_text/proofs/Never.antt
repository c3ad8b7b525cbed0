-- Rules that never stop at a repeated word.
use Rattle.std.proofs.Common.{◌≡◌, ℕ, zero, suc, Bool, true, false, cond, List, [], ◌∷◌, length, Option, Some, None, Ok, Err, inl, inr}
use Rattle.cx_text.specs.declared.stop.Mark.{Mark}
use Rattle.cx_text.specs.declared.stop.Mark.TheVariants.{Repeated, BadNumber}
use Rattle.cx_text.specs.declared.stop.Why.TheVariants.{Unexpected, Marked}
use Rattle.cx_text.specs.declared.token.Token.{Token}
use Rattle.cx_text.specs.Grammar.{head, passes}
use Rattle.cx_text.specs.Reading.{Answer, Read, found, go_on, read_up_to, read_many}
use Rattle.cx_text.specs.Rules.{Rule, token, nothing, ◌>>=◌, choice, turns, loop, line_ends, lexeme, limit_if, name}
use Rattle.cx_text.specs.Lexemes.{first_mark, number_in, beyond}
use Rattle.cx_text.proofs.Laws.{err_is, err_goes}

pub record Never {A : Type 0} (r : Rule A) : Type 0 where
  pub law : (ts rest : List Token) → r.reads ts ≡ Err (Marked Repeated, rest) → ⊥

pub never_nothing : {A : Type 0} {x : A} → Never (nothing x)
never_nothing = record { law = λ ts rest e. absurd cc }

found_never : {A : Type 0} (v : Option A) (m : Option Mark) (t : Token) (ts rest : List Token)
    → (m ≡ Some Repeated → ⊥) → found v m t ts ≡ Err (Marked Repeated, rest) → ⊥
found_never {A} None m t ts rest n e = let h =
    (err_is {A = A} Unexpected (Marked Repeated) (t ∷ ts) rest e).0 in absurd cc
found_never (Some x) None t ts rest n e = absurd cc
found_never {A} (Some x) (Some m) t ts rest n e = let h =
    (err_is {A = A} (Marked m) (Marked Repeated) (t ∷ ts) rest e).0 in n cc

token_never : {A : Type 0} (value : Token → Option A) (mark : Token → Option Mark)
    → ((t : Token) → mark t ≡ Some Repeated → ⊥) → (ts rest : List Token)
    → (token value mark).reads ts ≡ Err (Marked Repeated, rest) → ⊥
token_never {A} value mark n [] rest e = let h =
    (err_is {A = A} Unexpected (Marked Repeated) [] rest e).0 in absurd cc
token_never value mark n (t ∷ ts) rest e = found_never (value t) (mark t) t ts rest (n t) e

pub never_token : {A : Type 0} {value : Token → Option A} {mark : Token → Option Mark}
    → ((t : Token) → mark t ≡ Some Repeated → ⊥) → Never (token value mark)
never_token {A} {value} {mark} n = record { law = token_never value mark n }

pub never_also : {A B : Type 0} {r : Rule A} {f : A → Rule B} → Never r → ((x : A) → Never (f x))
    → Never (r >>= f)
never_also {A} {B} {r} {f} first second = record {
  law = λ ts rest e. elim (err_goes (r.reads ts) (λ x. (f x).reads) (Marked Repeated) rest e) [
    | inl a ↦ first.law ts rest a
    | inr b ↦ (second b.0).law b.1 rest b.3
  ];
}

way_never : {A : Type 0} (b : Bool) (p q : Answer A) (rest : List Token)
    → (p ≡ Err (Marked Repeated, rest) → ⊥) → (q ≡ Err (Marked Repeated, rest) → ⊥)
    → cond b p q ≡ Err (Marked Repeated, rest) → ⊥
way_never true p q rest h k e = h e
way_never false p q rest h k e = k e

pub never_choice : {A : Type 0} {test : Token → Bool} {r s : Rule A} → Never r → Never s
    → Never (choice test r s)
never_choice {A} {test} {r} {s} first second =
    record {
      law = λ ts rest e.
          way_never (passes test (head ts)) (r.reads ts) (s.reads ts) rest (first.law ts rest)
          (second.law ts rest) e;
    }

up_to_never : {C : Type 0} (test : Token → Bool) (r : C → Rule C) → ((c : C) → Never (r c))
    → (n : ℕ) (c : C) (ts rest : List Token)
    → read_up_to test (λ d. (r d).reads) (λ d x. x) n c ts ≡ Err (Marked Repeated, rest) → ⊥
unfolding read_up_to
up_to_never test r each zero c ts rest e = absurd cc
up_to_never {C} test r each (suc n) c ts rest e =
    let more : C → Read (List C) =
    λ x us. go_on (read_up_to test (λ d. (r d).reads) (λ d y. y) n x us)
    (λ xs vs. Ok (x ∷ xs, vs)) in
    way_never (passes test (head ts)) (go_on ((r c).reads ts) more) (Ok ([], ts)) rest (λ h.
    elim (err_goes ((r c).reads ts) more (Marked Repeated) rest h) [
      | inl a ↦ (each c).law ts rest a
      | inr b
          ↦ elim (err_goes (read_up_to test (λ d. (r d).reads) (λ d y. y) n b.0 b.1)
          (λ xs vs. Ok (b.0 ∷ xs, vs)) (Marked Repeated) rest b.3) [
            | inl a ↦ up_to_never test r each n b.0 b.1 rest a
            | inr k ↦ absurd (let z = k.3 in cc)
          ]
    ]) (λ h. absurd cc) e

many_never : {C : Type 0} (test : Token → Bool) (r : C → Rule C) → ((c : C) → Never (r c))
    → (c : C) (ts rest : List Token) → (turns test r c).reads ts ≡ Err (Marked Repeated, rest) → ⊥
unfolding read_many
many_never test r each c ts rest e = up_to_never test r each (length ts) c ts rest e

pub never_loop : {C : Type 0} {test : Token → Bool} {r : C → Rule C} {c : C}
    → ((d : C) → Never (r d)) → Never (loop test r c)
never_loop {C} {test} {r} {c} each =
    never_also {r = turns test r c} (record { law = many_never test r each c })
    (λ cs. never_nothing)

pub never_line_ends : Never line_ends
never_line_ends = never_loop (λ u. never_token (λ t e. absurd cc))

pub never_lexeme : {A : Type 0} {value : Token → Option A} {mark : Token → Option Mark}
    → ((t : Token) → mark t ≡ Some Repeated → ⊥) → Never (lexeme value mark)
never_lexeme n = never_also (never_token n) (λ x. never_also never_line_ends (λ u. never_nothing))

limit_never : (b : Bool) → limit_if b ≡ Some Repeated → ⊥
limit_never true e = absurd cc
limit_never false e = absurd cc

pub never_name : Never name
never_name = never_lexeme (λ t e. limit_never _ e)

number_never : (b : Bool) → first_mark b BadNumber None ≡ Some Repeated → ⊥
number_never true e = absurd cc
number_never false e = absurd cc

pub never_number : (low high : ℕ) → Never (number_in low high)
never_number low high = never_lexeme (λ t e. number_never _ e)

pub never_beyond : {A : Type 0} (test : Token → Bool) (x : A) → Never (beyond test x)
never_beyond test x = never_also (never_lexeme (λ t e. absurd cc)) (λ u. never_nothing)
