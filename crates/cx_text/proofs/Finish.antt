-- What a reader of a whole list answers.
use Rattle.std.proofs.Common.{List, [], ◌∷◌, Option, None, Result, Ok, Err, refl}
use Rattle.cx_text.specs.declared.stop.Stop.{Stop}
use Rattle.cx_text.specs.declared.stop.Stop.TheVariants as stops
use Rattle.cx_text.specs.declared.stop.Why.TheVariants.{Unexpected}
use Rattle.cx_text.specs.declared.token.Token.{Token}
use Rattle.cx_text.specs.Grammar.{ReadsBy, AnswersOnly, line_at}
use Rattle.cx_text.specs.Reading.{Answer, go_on, read_end, Fails, Gives}
use Rattle.cx_text.specs.Rules.{Rule}
use Rattle.cx_text.specs.Lexemes.{finished}
use Rattle.cx_text.proofs.Whole.{answer_found, answer_is, answer_fault, fault_memory}
use Rattle.cx_text.proofs.RuleLaws.{Good}

still_fails : {A : Type 0} (e : Stop) (rest : List Token) (read : Answer A) → Fails e rest read
    → Fails e rest (go_on read read_end)
still_fails stops.Memory rest read h = tt
still_fails (stops.Fault w) rest read h = rw h refl

-- the answer is the value that is spelled, or the first fault
pub answers : {X A : Type 0} {r : Rule A} {G : Option Token → Type 0} → Good r G → G None
    → (view : X → A) (ts rest : List Token) (answer : Result X Stop)
    → Gives view answer rest (r.reads ts) → ReadsBy r.derives view ts (finished ts rest answer)
answers {X} {A} {r} {G} good g view ts [] (Ok x) h =
    answer_found view r.reads r.derives G good.law g ts [] x (rw h refl)
answers {X} {A} {r} {G} good g view ts (t ∷ rest) (Ok x) h =
    answer_fault r.reads r.derives G good.law g ts (t ∷ rest) (stops.Fault Unexpected) (rw h refl)
answers {X} {A} {r} {G} good g view ts [] (Err e) h =
    answer_fault r.reads r.derives G good.law g ts [] e (still_fails e [] (r.reads ts) h)
answers {X} {A} {r} {G} good g view ts (t ∷ rest) (Err e) h =
    answer_fault r.reads r.derives G good.law g ts (t ∷ rest) e
    (still_fails e (t ∷ rest) (r.reads ts) h)

-- what is spelled is answered, unless memory runs out
pub answers_only : {X A : Type 0} {r : Rule A} {G : Option Token → Type 0} → Good r G → G None
    → (view : X → A) (ts rest : List Token) (answer : Result X Stop)
    → Gives view answer rest (r.reads ts) → AnswersOnly r.derives view ts (finished ts rest answer)
answers_only {X} {A} {r} {G} good g view ts [] (Ok x) h y s =
    answer_is r.reads r.derives G good.law g ts [] (view x) y (rw h refl) s
answers_only {X} {A} {r} {G} good g view ts (t ∷ rest) (Ok x) h y s =
    fault_memory r.reads r.derives G good.law g ts (t ∷ rest) (stops.Fault Unexpected) y t.line
    (rw h refl) s
answers_only {X} {A} {r} {G} good g view ts [] (Err e) h y s =
    fault_memory r.reads r.derives G good.law g ts [] e y (line_at ts [])
    (still_fails e [] (r.reads ts) h) s
answers_only {X} {A} {r} {G} good g view ts (t ∷ rest) (Err e) h y s =
    fault_memory r.reads r.derives G good.law g ts (t ∷ rest) e y (line_at ts (t ∷ rest))
    (still_fails e (t ∷ rest) (r.reads ts) h) s
