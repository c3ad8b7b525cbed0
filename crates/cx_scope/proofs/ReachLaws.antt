-- Marks that grow along edges are what is reached.
use Rattle.std.proofs.Common.{◌≡◌, ◌⊎◌, inl, inr, ℕ, zero, suc, ◌+◌, ◌<◌, Bool, true, false, not, ◌&&◌, ◌||◌, cond, eqb, List, [], ◌∷◌, length, get_or, set, refl, sym, ◌∙◌, ap, subst, arith, eqb-true, eq-eqb, ltb-true}
use Rattle.std.specs.Prelude.{◌↔◌, find, Option, Some, None, option_map, replicate, nat_lt}
use Rattle.std.proofs.lemmas.Bool.{and_parts, and_from}
use Rattle.cx_scope.specs.Reach.{Edge, has_edge, Reach, edge, onward, is_new, ends_below}
use Rattle.cx_plan.specs.Lists.{is_marked}

pub true_or_false : (b : Bool) → (b ≡ true) ⊎ (b ≡ false)
true_or_false true = inl refl
true_or_false false = inr refl

pub some-injective : {A : Type 0} {x y : A} → Some x ≡ Some y → x ≡ y
some-injective {A} {x} h = ap (λ o. or_this x o) h
  where
    or_this : A → Option A → A
    or_this d None = d
    or_this d (Some z) = z

-- the edge that was found
found-new : (p : Edge → Bool) (xs : List Edge) (e : Edge) → find p xs ≡ Some e → p e ≡ true
found-new p [] e h = cc h
found-new p (x ∷ xs) e h = elim (true_or_false (p x)) [
  | inl t ↦ (let P : Edge → Type 0 = λ y. p y ≡ true in
      let same : Some x ≡ Some e = ap (λ b. cond b (Some x) (find p xs)) (sym t) ∙ h in
      subst P (some-injective same) t)
  | inr f ↦ found-new p xs e (ap (λ b. cond b (Some x) (find p xs)) (sym f) ∙ h)
]

same-edge : (e : Edge) → (eqb e.0 e.0 && eqb e.1 e.1) ≡ true
same-edge e = and_from (eqb e.0 e.0) (eqb e.1 e.1) (eq-eqb e.0 e.0 refl) (eq-eqb e.1 e.1 refl)

pub or-left : (a b : Bool) → a ≡ true → (a || b) ≡ true
or-left a b h = rw h refl

pub or-right : (a b : Bool) → b ≡ true → (a || b) ≡ true
or-right true b h = refl
or-right false b h = h

pub or-cases : (a b : Bool) → (a || b) ≡ true → (a ≡ true) ⊎ (b ≡ true)
or-cases true b h = inl refl
or-cases false b h = inr h

found-there : (p : Edge → Bool) (xs : List Edge) (e : Edge) → find p xs ≡ Some e
    → has_edge xs e.0 e.1 ≡ true
found-there p [] e h = cc h
found-there p (x ∷ xs) e h = elim (true_or_false (p x)) [
  | inl t ↦ (let H : Edge → Type 0 = λ y. has_edge (x ∷ xs) y.0 y.1 ≡ true in
      let same : Some x ≡ Some e = ap (λ b. cond b (Some x) (find p xs)) (sym t) ∙ h in
      subst H (some-injective same)
      (or-left (eqb x.0 x.0 && eqb x.1 x.1) (has_edge xs x.0 x.1) (same-edge x)))
  | inr f ↦ or-right (eqb x.0 e.0 && eqb x.1 e.1) (has_edge xs e.0 e.1)
      (found-there p xs e (ap (λ b. cond b (Some x) (find p xs)) (sym f) ∙ h))
]

-- where none is found, no edge passes
none-passes : (p : Edge → Bool) (xs : List Edge) → find p xs ≡ None → (a b : ℕ)
    → has_edge xs a b ≡ true → p (a, b) ≡ false
none-passes p [] h a b there = cc there
none-passes p (x ∷ xs) h a b there = elim (true_or_false (p x)) [
  | inl t ↦ (let no : Some x ≡ None = ap (λ c. cond c (Some x) (find p xs)) (sym t) ∙ h in cc no)
  | inr f ↦ elim (or-cases (eqb x.0 a && eqb x.1 b) (has_edge xs a b) there) [
    | inl here ↦ (let parts = and_parts (eqb x.0 a) (eqb x.1 b) here in
        let A : ℕ → Type 0 = λ n. p (n, x.1) ≡ false in
        let B : ℕ → Type 0 = λ n. p (a, n) ≡ false in
        subst B (eqb-true x.1 b parts.1) (subst A (eqb-true x.0 a parts.0) f))
    | inr later ↦ none-passes p xs (ap (λ c. cond c (Some x) (find p xs)) (sym f) ∙ h) a b later
  ]
]

-- ---- marks

abbrev pub unmarked : List Bool → ℕ
unmarked [] = 0
unmarked (true ∷ ms) = unmarked ms
unmarked (false ∷ ms) = unmarked ms + 1

pub unmarked-falls : (ms : List Bool) (k : ℕ) → k < length ms → get_or ms k false ≡ false
    → unmarked (set ms k true) < unmarked ms
unmarked-falls [] k h f = absurd (let no : ⊥ = omega (arith, h) in no)
unmarked-falls (true ∷ ms) zero h f = cc f
unmarked-falls (false ∷ ms) zero h f = omega arith
unmarked-falls (true ∷ ms) (suc k) h f = unmarked-falls ms k (omega (arith, h)) f
unmarked-falls (false ∷ ms) (suc k) h f = let rest = unmarked-falls ms k (omega (arith, h)) f in
    omega (arith, rest)

pub set-marked : (ms : List Bool) (k b : ℕ) → get_or (set ms k true) b false ≡ true
    → (k ≡ b) ⊎ (get_or ms b false ≡ true)
set-marked [] k b h = inr h
set-marked (m ∷ ms) zero zero h = inl refl
set-marked (m ∷ ms) zero (suc b) h = inr h
set-marked (m ∷ ms) (suc k) zero h = inr h
set-marked (m ∷ ms) (suc k) (suc b) h =
    elim (set-marked ms k b h) [ inl e ↦ inl (ap (λ n. suc n) e) | inr g ↦ inr g ]

pub none-marked : (n b : ℕ) → get_or (replicate n false) b false ≡ false
none-marked zero b = refl
none-marked (suc n) zero = refl
none-marked (suc n) (suc b) = none-marked n b

-- ---- the steps of the loop

pub step-sound : (edges : List Edge) (from : ℕ) (ms : List Bool) (e : Edge)
    → find (is_new from ms) edges ≡ Some e → ((b : ℕ) → is_marked ms b ≡ true → Reach edges from b)
    → (b : ℕ) → is_marked (set ms e.1 true) b ≡ true → Reach edges from b
step-sound edges from ms e h sound b marked = elim (set-marked ms e.1 b marked) [
  | inl same ↦ (let P : ℕ → Type 0 = λ n. Reach edges from n in subst P same reaches)
  | inr before ↦ sound b before
]
  where
    there : has_edge edges e.0 e.1 ≡ true
    there = found-there (is_new from ms) edges e h

    begins : (eqb e.0 from ≡ true) ⊎ (is_marked ms e.0 ≡ true)
    begins = or-cases (eqb e.0 from) (is_marked ms e.0)
        (and_parts (eqb e.0 from || is_marked ms e.0) (not (is_marked ms e.1))
        (found-new (is_new from ms) edges e h)).0

    reaches : Reach edges from e.1
    reaches = elim begins [
      | inl same ↦ (let H : ℕ → Type 0 = λ n. has_edge edges n e.1 ≡ true in
          edge from e.1 (subst H (eqb-true e.0 from same) there))
      | inr marked_before ↦ onward from e.0 e.1 (sound e.0 marked_before) there
    ]

pub step-fresh : (edges : List Edge) (from : ℕ) (ms : List Bool) (e : Edge)
    → find (is_new from ms) edges ≡ Some e → is_marked ms e.1 ≡ false
step-fresh edges from ms e h =
    not_true (is_marked ms e.1)
    (and_parts (eqb e.0 from || is_marked ms e.0) (not (is_marked ms e.1))
    (found-new (is_new from ms) edges e h)).1
  where
    not_true : (b : Bool) → not b ≡ true → b ≡ false
    not_true true g = cc g
    not_true false g = refl

pub step-below : (count : ℕ) (edges : List Edge) (p : Edge → Bool) (e : Edge)
    → ends_below count edges ≡ true → find p edges ≡ Some e → e.1 < count
step-below count [] p e below h = cc h
step-below count (x ∷ xs) p e below h = elim (true_or_false (p x)) [
  | inl t ↦ (let P : Edge → Type 0 = λ y. y.1 < count in
      let same : Some x ≡ Some e = ap (λ b. cond b (Some x) (find p xs)) (sym t) ∙ h in
      subst P (some-injective same)
      (ltb-true x.1 count (and_parts (nat_lt x.1 count) (ends_below count xs) below).0))
  | inr f ↦ step-below count xs p e (and_parts (nat_lt x.1 count) (ends_below count xs) below).1
      (ap (λ b. cond b (Some x) (find p xs)) (sym f) ∙ h)
]

-- where no edge is new, all that is reached is marked
marked-behind : (a b m : Bool) → (a ≡ true) ⊎ (b ≡ true) → ((a || b) && not m) ≡ false → m ≡ true
marked-behind a b true starts h = refl
marked-behind true b false starts h = cc h
marked-behind false true false starts h = cc h
marked-behind false false false (inl e) h = cc e
marked-behind false false false (inr e) h = cc e

complete : (edges : List Edge) (from : ℕ) (ms : List Bool) → find (is_new from ms) edges ≡ None
    → (a b : ℕ) → Reach edges a b → a ≡ from → is_marked ms b ≡ true
complete edges from ms none a b (edge _ _ h) e =
    marked-behind (eqb a from) (is_marked ms a) (is_marked ms b) (inl (eq-eqb a from e))
    (none-passes (is_new from ms) edges none a b h)
complete edges from ms none a c (onward _ b _ r h) e =
    marked-behind (eqb b from) (is_marked ms b) (is_marked ms c)
    (inr (complete edges from ms none a b r e)) (none-passes (is_new from ms) edges none b c h)

pub marks-reached : (edges : List Edge) (from : ℕ) (ms : List Bool)
    → find (is_new from ms) edges ≡ None → ((b : ℕ) → is_marked ms b ≡ true → Reach edges from b)
    → (b : ℕ) → (is_marked ms b ≡ true) ↔ Reach edges from b
marks-reached edges from ms none sound b = (sound b, λ r. complete edges from ms none from b r refl)

-- ---- the same by the end of the edge that was found

mapped-some : (o : Option Edge) (end : ℕ) → option_map (λ e. e.1) o ≡ Some end
    → (e : Edge) × (o ≡ Some e) × (e.1 ≡ end)
mapped-some None end h = cc h
mapped-some (Some e) end h = (e, refl, some-injective h)

mapped-none : (o : Option Edge) → option_map (λ e. e.1) o ≡ None → o ≡ None
mapped-none None h = refl
mapped-none (Some e) h = cc h

pub end-sound : (edges : List Edge) (from : ℕ) (seen ms : List Bool) (told : Option ℕ) (end : ℕ)
    → seen ≡ ms → told ≡ option_map (λ e. e.1) (find (is_new from seen) edges) → told ≡ Some end
    → ((b : ℕ) → is_marked ms b ≡ true → Reach edges from b) → (b : ℕ)
    → is_marked (set ms end true) b ≡ true → Reach edges from b
end-sound edges from seen ms told end same is some sound b marked =
    let F : List Bool → Type 0 =
    λ r. option_map (λ e. e.1) (find (is_new from r) edges) ≡ Some end in
    let found = mapped-some (find (is_new from ms) edges) end (subst F same (sym is ∙ some)) in
    let M : ℕ → Type 0 = λ n. is_marked (set ms n true) b ≡ true in
    step-sound edges from ms found.0 found.1 sound b (subst M (sym found.2) marked)

pub end-below : (edges : List Edge) (from count : ℕ) (seen : List Bool) (told : Option ℕ) (end : ℕ)
    → ends_below count edges ≡ true → told ≡ option_map (λ e. e.1) (find (is_new from seen) edges)
    → told ≡ Some end → end < count
end-below edges from count seen told end below is some =
    let found = mapped-some (find (is_new from seen) edges) end (sym is ∙ some) in
    let P : ℕ → Type 0 = λ n. n < count in
    subst P found.2 (step-below count edges (is_new from seen) found.0 below found.1)

pub end-falls : (edges : List Edge) (from : ℕ) (seen ms : List Bool) (told : Option ℕ) (end : ℕ)
    → seen ≡ ms → end < length ms → told ≡ option_map (λ e. e.1) (find (is_new from seen) edges)
    → told ≡ Some end → unmarked (set ms end true) < unmarked ms
end-falls edges from seen ms told end same below is some =
    let F : List Bool → Type 0 =
    λ r. option_map (λ e. e.1) (find (is_new from r) edges) ≡ Some end in
    let found = mapped-some (find (is_new from ms) edges) end (subst F same (sym is ∙ some)) in
    let P : ℕ → Type 0 = λ n. is_marked ms n ≡ false in
    unmarked-falls ms end below (subst P found.2 (step-fresh edges from ms found.0 found.1))

pub all-reached : (edges : List Edge) (from : ℕ) (seen ms : List Bool) (told : Option ℕ) → seen ≡ ms
    → told ≡ option_map (λ e. e.1) (find (is_new from seen) edges) → told ≡ None
    → ((b : ℕ) → is_marked ms b ≡ true → Reach edges from b) → (b : ℕ)
    → (is_marked ms b ≡ true) ↔ Reach edges from b
all-reached edges from seen ms told same is none sound =
    let F : List Bool → Type 0 = λ r. option_map (λ e. e.1) (find (is_new from r) edges) ≡ None in
    marks-reached edges from ms
    (mapped-none (find (is_new from ms) edges) (subst F same (sym is ∙ none))) sound

pub marks-length : (ms : List Bool) (k : ℕ) → length (set ms k true) ≡ length ms
marks-length [] k = refl
marks-length (m ∷ ms) zero = refl
marks-length (m ∷ ms) (suc k) = ap (λ n. suc n) (marks-length ms k)
