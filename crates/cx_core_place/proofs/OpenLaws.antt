-- Open WHILEs as the code has them.
use Rattle.std.proofs.Common.{◌≡◌, ℕ, suc, ◌+◌, ◌-◌, List, [], ◌∷◌, ◌++◌, length, take, Some, None, refl, sym, ap, ◌∙◌, arith}
use Rattle.std.specs.Prelude.{slice_get}
use Rattle.std.proofs.lemmas.List.{map-append}
use Rattle.cx_flat.specs.Flats.{Control, last_turns, turned_on, closed, leaves_loop, turns_back}
use Rattle.cx_flat.proofs.RunLaws.{last_of, turned_of}
use Rattle.cx_core_place.specs.declared.opened.OpenWhile.{OpenWhile}
use Rattle.cx_core_place.specs.Seen.{opened_of, all_opened}

-- ---- the innermost

-- from the second on
behind_first : {X : Type 0} (o p : X) (os : List X)
    → slice_get (o ∷ p ∷ os) (length (o ∷ p ∷ os) - 1) ≡ slice_get (p ∷ os) (length (p ∷ os) - 1)
behind_first o p os = let e : length (o ∷ p ∷ os) - 1 ≡ suc (length (p ∷ os) - 1) = omega arith in
    ap (slice_get (o ∷ p ∷ os)) e

some_same : {X : Type 0} (x y : X) → Some x ≡ Some y → x ≡ y
some_same x y e = cc

some_none : {X : Type 0} (x : X) → Some x ≡ None → ⊥
some_none x e = cc

pub last_some : (os : List OpenWhile) (o : OpenWhile) → Some o ≡ slice_get os (length os - 1)
    → o.turns ≡ last_turns (all_opened os)
last_some [] o e = absurd (some_none o e)
last_some (p ∷ []) o e = ap (λ (x : OpenWhile). x.turns) (some_same o p e)
last_some (p ∷ q ∷ os) o e = last_some (q ∷ os) o (e ∙ behind_first p q os)

none_empty : (p : OpenWhile) (os : List OpenWhile) → None ≡ slice_get (p ∷ os) (length (p ∷ os) - 1)
    → ⊥
none_empty p [] e = some_none p (sym e)
none_empty p (q ∷ os) e = none_empty q os (e ∙ behind_first p q os)

pub last_none : (os : List OpenWhile) → None ≡ slice_get os (length os - 1)
    → 0 ≡ last_turns (all_opened os)
last_none [] e = refl
last_none (p ∷ os) e = absurd (none_empty p os e)

-- ---- out of it, and back to it

pub closed_take : (os : List OpenWhile)
    → all_opened (take (length os - 1) os) ≡ closed (all_opened os)
closed_take [] = refl
closed_take (o ∷ []) = refl
closed_take (o ∷ p ∷ os) =
    let e : length (o ∷ p ∷ os) - 1 ≡ suc (length (p ∷ os) - 1) = omega arith in
    ap (λ n. all_opened (take n (o ∷ p ∷ os))) e
    ∙ ap (λ xs. opened_of o ∷ xs) (closed_take (p ∷ os))

-- what a place shows
abbrev pub seen : ℕ → ℕ → List OpenWhile → Control
seen pc iteration opened = record { pc = pc; iteration = iteration; opened = all_opened opened }

pub left : (pc iteration count : ℕ) (old new : List OpenWhile) (c : Control)
    → seen pc iteration old ≡ c → new ≡ take (length old - 1) old
    → seen (pc + count) iteration new ≡ leaves_loop c (c.pc + count)
left pc iteration count old new c is rest =
    ap (λ os. record { pc = pc + count; iteration = iteration; opened = os })
    (ap all_opened rest ∙ closed_take old)
    ∙ ap (λ (d : Control). leaves_loop d (d.pc + count)) is

turned_last : (old mid new : List OpenWhile) (o p : OpenWhile) → old ≡ mid ++ o ∷ []
    → new ≡ mid ++ p ∷ [] → p ≡ record { place = o.place; turns = o.turns + 1 }
    → all_opened new ≡ turned_on (all_opened old)
turned_last old mid new o p a b e =
    let n : o.turns + 1 ≡ suc o.turns = omega arith in
    ap all_opened b ∙ map-append opened_of mid (p ∷ [])
    ∙ ap (λ (q : OpenWhile). all_opened mid ++ opened_of q ∷ []) e
    ∙ ap (λ k. all_opened mid ++ record { place = o.place; turns = k } ∷ []) n
    ∙ sym (turned_of (all_opened mid) (opened_of o))
    ∙ ap turned_on (sym (map-append opened_of mid (o ∷ [])))
    ∙ ap (λ xs. turned_on (all_opened xs)) (sym a)

pub turned_back : (pc iteration count back : ℕ) (old mid new : List OpenWhile) (o p : OpenWhile)
    (c : Control) → seen pc iteration old ≡ c → back ≡ pc - count
    → old ≡ mid ++ o ∷ [] → new ≡ mid ++ p ∷ []
    → p ≡ record { place = o.place; turns = o.turns + 1 }
    → seen back iteration new ≡ turns_back c (c.pc - count)
turned_back pc iteration count back old mid new o p c is at a b e =
    ap (λ n. seen n iteration new) at
    ∙ ap (λ os. record { pc = pc - count; iteration = iteration; opened = os })
    (turned_last old mid new o p a b e)
    ∙ ap (λ (d : Control). turns_back d (d.pc - count)) is

pub not_turned : (pc iteration count back : ℕ) (old new : List OpenWhile) (c : Control)
    → seen pc iteration old ≡ c → back ≡ pc - count
    → None ≡ slice_get old (length old - 1) → new ≡ take (length old - 1) old
    → seen back iteration new ≡ turns_back c (c.pc - count)
not_turned pc iteration count back [] new c is at none same =
    ap (λ n. seen n iteration new) at ∙ ap (seen (pc - count) iteration) same
    ∙ ap (λ (d : Control). turns_back d (d.pc - count)) is
not_turned pc iteration count back (o ∷ os) new c is at none same = absurd (none_empty o os none)

-- the turns of the last one
pub last_turned : (pc iteration : ℕ) (old mid : List OpenWhile) (o : OpenWhile) (c : Control)
    → seen pc iteration old ≡ c → old ≡ mid ++ o ∷ [] → last_turns c.opened ≡ o.turns
last_turned pc iteration old mid o c is a =
    ap (λ (d : Control). last_turns d.opened) (sym is) ∙ ap (λ xs. last_turns (all_opened xs)) a
    ∙ ap last_turns (map-append opened_of mid (o ∷ [])) ∙ last_of (all_opened mid) (opened_of o)
