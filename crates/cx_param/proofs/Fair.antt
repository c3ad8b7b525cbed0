-- What holds of each value that tokens of a text spell: each of them can be printed, and no LineEnd
-- follows another.
use Rattle.std.proofs.Common.{◌≡◌, ℕ, Bool, true, false, ◌&&◌, List, [], ◌∷◌, ◌++◌, Option, None, refl, sym, subst, append_assoc}
use Rattle.std.specs.Prelude.{MatchBool, cond}
use Rattle.std.proofs.lemmas.List.{map-append}
use Rattle.cx_text.specs.declared.token.Token.{Token}
use Rattle.cx_text.specs.declared.token.Style.TheVariants.{Ccl}
use Rattle.cx_text.specs.Tokens.{is_line_end}
use Rattle.cx_text.specs.Pieces.{line_end, ended, merged, each_token, line_behind, Spelled}
use Rattle.cx_text.specs.Grammar.{Item, Grammar, clean, tokens, passes, next_of, Spells}
use Rattle.cx_text.specs.Grammar as grammar
use Rattle.cx_text.specs.Rules.{Rule, nothing, ◌>>=◌, choice, last, loop}
use Rattle.cx_text.proofs.CutLaws.{ended_merged}
use Rattle.cx_text.proofs.Laws.{tokens-clean}
use Rattle.cx_text.proofs.PrintLaws.{Printable, WellEnded}
use Rattle.cx_text.proofs.PrintLaws as print
use Rattle.cx_text.proofs.WrittenLaws.{unmarked_printable}
use Rattle.cx_text.proofs.Holds.{Unmarked, Holds}
use Rattle.cx_param.proofs.TokenLaws.{Calm}

-- ---- parts of a list

and_false : (b : Bool) → b && false ≡ false
and_false true = refl
and_false false = refl

calm_any : (ts : List Token) (before : Bool) → Calm before ts → Calm false ts
calm_any [] before h = tt
calm_any (t ∷ ts) before h = (and_false (is_line_end t), h.1)

calm_front : (ts us : List Token) (before : Bool) → Calm before (ts ++ us) → Calm before ts
calm_front [] us before h = tt
calm_front (t ∷ ts) us before h = (h.0, calm_front ts us (is_line_end t) h.1)

calm_back : (ts us : List Token) (before : Bool) → Calm before (ts ++ us) → Calm false us
calm_back [] us before h = calm_any us before h
calm_back (t ∷ ts) us before h = calm_back ts us (is_line_end t) h.1

-- without marks
pub record Fair (ms : List Item) : Type 0 where
  pub each : Unmarked (Printable Ccl) ms
  pub calm : Calm false (tokens ms)

unmarked_front : (a b : List Item) → Unmarked (Printable Ccl) (a ++ b) → Unmarked (Printable Ccl) a
unmarked_front [] b h = tt
unmarked_front (i ∷ a) b h = (h.0, h.1, unmarked_front a b h.2)

unmarked_back : (a b : List Item) → Unmarked (Printable Ccl) (a ++ b) → Unmarked (Printable Ccl) b
unmarked_back [] b h = h
unmarked_back (i ∷ a) b h = unmarked_back a b h.2

pub fair_front : (ms a b : List Item) → ms ≡ a ++ b → Fair ms → Fair a
fair_front ms a b e f =
    let h = subst Fair e f in
    record {
      each = unmarked_front a b h.each;
      calm = calm_front (tokens a) (tokens b) false
          (subst (Calm false) (map-append (λ (m : Item). m.0) a b) h.calm);
    }

fair_back : (ms a b : List Item) → ms ≡ a ++ b → Fair ms → Fair b
fair_back ms a b e f =
    let h = subst Fair e f in
    record {
      each = unmarked_back a b h.each;
      calm = calm_back (tokens a) (tokens b) false
          (subst (Calm false) (map-append (λ (m : Item). m.0) a b) h.calm);
    }

-- ---- rules

pub record Keeps {A : Type 0} (r : Rule A) (P : A → Type 0) : Type 0 where
  pub law : (x : A) (ms : List Item) (next : Option Token) → r.derives x ms next → Fair ms → P x

-- a fact in which LineEnds play no part
pub of_each : {A : Type 0} {r : Rule A} {P : A → Type 0} → Holds (Printable Ccl) r (λ n x. P x)
    → Keeps r P
of_each h = record { law = λ x ms next d f. h.law x ms next d f.each }

pub keeps_nothing : {A : Type 0} {x : A} {P : A → Type 0} → P x → Keeps (nothing x) P
keeps_nothing {A} {x} {P} p = record { law = λ y ms next d f. subst P (sym d.0) p }

pub keeps_also : {A B : Type 0} {r : Rule A} {f : A → Rule B} {Q : A → Type 0} {P : B → Type 0}
    → Keeps r Q → ((x : A) → Q x → Keeps (f x) P) → Keeps (r >>= f) P
keeps_also {A} {B} {r} {f} {Q} {P} first second = record {
  law = λ y ms next d h. let q =
      first.law d.0 d.1 (next_of d.2 next) d.4 (fair_front ms d.1 d.2 d.3 h) in
      (second d.0 q).law y d.2 next d.5 (fair_back ms d.1 d.2 d.3 h);
}

way : {A : Type 0} (b : Bool) (S R : Grammar A) (P : A → Type 0) (x : A) (ms : List Item)
    (next : Option Token) → (S x ms next → P x) → (R x ms next → P x)
    → MatchBool b (S x ms next) (R x ms next) → P x
way true S R P x ms next p q d = p d
way false S R P x ms next p q d = q d

pub keeps_choice : {A : Type 0} {test : Token → Bool} {r s : Rule A} {P : A → Type 0} → Keeps r P
    → Keeps s P → Keeps (choice test r s) P
keeps_choice {A} {test} {r} {s} {P} first second =
    record {
      law = λ x ms next d f.
          way (passes test (next_of ms next)) r.derives s.derives P x ms next
          (λ h. first.law x ms next h f) (λ h. second.law x ms next h f) d;
    }

many_keeps : {C : Type 0} (test : Token → Bool) (r : C → Rule C) (P : C → Type 0)
    → ((c : C) → P c → Keeps (r c) P) → (c : C) (cs : List C) (ms : List Item) (next : Option Token)
    → P c → grammar.many test (λ d. (r d).derives) (λ d x. x) c cs ms next → Fair ms → P (last c cs)
many_keeps test r P step c [] ms next p d f = p
many_keeps test r P step c (x ∷ cs) ms next p d f =
    let q = (step c p).law x d.1 (next_of d.2 next) d.4 (fair_front ms d.1 d.2 d.3 f) in
    many_keeps test r P step x cs d.2 next q d.5 (fair_back ms d.1 d.2 d.3 f)

pub keeps_loop : {C : Type 0} {test : Token → Bool} {r : C → Rule C} {c : C} (P : C → Type 0)
    → ((d : C) → P d → Keeps (r d) P) → P c → Keeps (loop test r c) P
keeps_loop {C} {test} {r} {c} P step p =
    record {
      law = λ x ms next d f.
          subst P (sym d.5.0) (many_keeps test r P step c d.0 d.1 (next_of d.2 next) p d.4
          (fair_front ms d.1 d.2 d.3 f));
    }

pub keeps_any : {A : Type 0} (r : Rule A) → Keeps r (λ x. Unit {0})
keeps_any r = record { law = λ x ms next d f. tt }

pub weaker_keeps : {A : Type 0} {r : Rule A} {Q P : A → Type 0} → Keeps r Q → ((x : A) → Q x → P x)
    → Keeps r P
weaker_keeps h weaker = record { law = λ x ms next d f. weaker x (h.law x ms next d f) }

-- ---- the tokens of a text

calm_if : (left before : Bool) (t : Token) (ts : List Token) → is_line_end t ≡ left → Calm left ts
    → Calm before (cond (left && before) [] (t ∷ []) ++ ts)
calm_if true true t ts e h = h
calm_if true false t ts e h = (rw e refl, rw e h)
calm_if false before t ts e h = (rw e refl, rw e h)

calm_end : (before : Bool) (line : ℕ) → Calm before (cond before [] (line_end line ∷ []))
calm_end true line = tt
calm_end false line = (refl, tt)

calm_merged : (ts : List Token) (before : Bool) (line : ℕ)
    → Calm before (merged before ts ++ cond (ended before ts) [] (line_end line ∷ []))
calm_merged [] before line = calm_end before line
calm_merged (t ∷ ts) before line =
    rw (append_assoc (cond (is_line_end t && before) [] (t ∷ [])) (merged (is_line_end t) ts)
    (cond (ended (is_line_end t) ts) [] (line_end line ∷ [])))
    (calm_if (is_line_end t) before t
    (merged (is_line_end t) ts ++ cond (ended (is_line_end t) ts) [] (line_end line ∷ [])) refl
    (calm_merged ts (is_line_end t) line))

spelled_calm : (bytes : List ℕ) (ts : List Token) → Spelled bytes Ccl ts → Calm true ts
spelled_calm bytes ts (ps, c, e) =
    rw (e, ended_merged (each_token 1 ps) true)
    (calm_merged (each_token 1 ps) true (line_behind 1 ps))

pub spelled_keeps : {A : Type 0} {r : Rule A} {P : A → Type 0} → Keeps r P
    → (bytes : List ℕ) (ts : List Token) (x : A) → Spelled bytes Ccl ts → Spells r.derives ts x
    → P x
spelled_keeps {A} {r} {P} k bytes ts x s d =
    let calm : Calm false ts = calm_any ts true (spelled_calm bytes ts s) in
    k.law x (clean ts) None d
    (record {
      each = unmarked_printable Ccl ts (print.all_printable bytes ts s);
      calm = subst (Calm false) (sym (tokens-clean ts)) calm;
    })
