-- What a function answers where its last part was stopped.
use Rattle.std.proofs.Common.{◌≡◌, List, Result, Ok, refl}
use Rattle.std.specs.Prelude.{IsErrAnd}
use Rattle.std.proofs.lemmas.Result.{err_from_is_err_and}
use Rattle.cx_text.specs.declared.stop.Stop.{Stop}
use Rattle.cx_text.specs.declared.stop.Stop.TheVariants as stops
use Rattle.cx_text.specs.declared.token.Token.{Token}
use Rattle.cx_text.specs.Reading.{Fails, Gives}
use Rattle.cx_text.specs.Rules.{Rule, ◌>>=◌}

fails_also : {A B : Type 0} (r : Rule A) (f : A → Rule B) (ts us : List Token) (e : Stop)
    → Fails e us (r.reads ts) → Fails e us ((r >>= f).reads ts)
fails_also r f ts us stops.Memory h = tt
fails_also r f ts us (stops.Fault w) h = rw h refl

-- a part was stopped, and `?` hands that out
pub halted : {X A B : Type 0} (r : Rule A) (f : A → Rule B) (view : X → B) (ts us : List Token)
    (result : Result X Stop) (e : Stop) → Fails e us (r.reads ts) → IsErrAnd result (λ y. y ≡ e)
    → Gives view result us ((r >>= f).reads ts)
halted r f view ts us result e h out =
    let p = err_from_is_err_and result out in
    rw (p.1, p.2) (fails_also r f ts us e h)

-- a part was read
pub behind : {X A B : Type 0} (r : Rule A) (f : A → Rule B) (view : X → B) (ts us rest : List Token)
    (x : A) (result : Result X Stop) → r.reads ts ≡ Ok (x, us)
    → Gives view result rest ((f x).reads us) → Gives view result rest ((r >>= f).reads ts)
behind r f view ts us rest x result h g = rw h g
