-- Runs of operations: how they begin, go on and join.
use Rattle.std.proofs.Common.{◌≡◌, ℕ, zero, suc, ◌+◌, ◌<◌, Bool, true, false, List, [], ◌∷◌, ◌++◌, length, Option, Some, None, refl, sym, ap, ◌∙◌, subst, arith, append_assoc, length-append}
use Rattle.std.proofs.lemmas.List.{append-nil}
use Rattle.cx_plan.specs.Setups.{Setup}
use Rattle.cx_rule.specs.Routine.{Rule}
use Rattle.cx_flat.specs.declared.op.Op.{Op}
use Rattle.cx_model.specs.Courses.{Note}
use Rattle.cx_flat.specs.Code.{op_at}
use Rattle.cx_flat.specs.declared.op.Op.TheVariants.{Sweep, Apply, Give, Join, Post, Take, Test, Open, Turn, Again, Rotate, Due, Written, Skip, Next, Piece, Save, Halt}
use Rattle.cx_flat.specs.Flats.{Opened, last_turns, turned_on, closed, Flat, stepped, notes_at, flat_from, noted_from, is_halt, GoesOn, Pair, begins_pair, ends_pair, InPairs}

-- ---- operations at a place

abbrev pub StandsAt : List Op → ℕ → List Op → Type 0
StandsAt ops at [] = Unit {0}
StandsAt ops at (o ∷ os) = (op_at ops at ≡ o) × StandsAt ops (suc at) os

pub stands_first : (ops : List Op) (at : ℕ) (a b : List Op) → StandsAt ops at (a ++ b)
    → StandsAt ops at a
stands_first ops at [] b h = tt
stands_first ops at (o ∷ os) b h = (h.0, stands_first ops (suc at) os b h.1)

pub stands_then : (ops : List Op) (at : ℕ) (a b : List Op) → StandsAt ops at (a ++ b)
    → StandsAt ops (at + length a) b
stands_then ops at [] b h = let e : at ≡ at + 0 = omega arith in subst (λ n. StandsAt ops n b) e h
stands_then ops at (o ∷ os) b h =
    let e : suc at + length os ≡ at + suc (length os) = omega arith in
    subst (λ n. StandsAt ops n b) e (stands_then ops (suc at) os b h.1)

op_behind : (before : List Op) (o : Op) (os : List Op)
    → op_at (before ++ o ∷ os) (length before) ≡ o
op_behind [] o os = refl
op_behind (x ∷ xs) o os = op_behind xs o os

pub stands_all : (before ops : List Op) → StandsAt (before ++ ops) (length before) ops
stands_all before [] = tt
stands_all before (o ∷ os) =
    let e : length (before ++ o ∷ []) ≡ suc (length before) =
    length-append before (o ∷ []) ∙ omega arith in (
      op_behind before o os,
      subst (λ n. StandsAt (before ++ o ∷ os) n os) e
          (subst (λ l. StandsAt l (length (before ++ o ∷ [])) os) (append_assoc before (o ∷ []) os)
          (stands_all (before ++ o ∷ []) os)),
    )

-- ---- open WHILEs

pub last_of : (os : List Opened) (o : Opened) → last_turns (os ++ o ∷ []) ≡ o.turns
last_of [] o = refl
last_of (a ∷ []) o = refl
last_of (a ∷ b ∷ os) o = last_of (b ∷ os) o

pub turned_of : (os : List Opened) (o : Opened)
    → turned_on (os ++ o ∷ []) ≡ os ++ record { place = o.place; turns = suc o.turns } ∷ []
turned_of [] o = refl
turned_of (a ∷ []) o = refl
turned_of (a ∷ b ∷ os) o = ap (λ xs. a ∷ xs) (turned_of (b ∷ os) o)

pub closed_of : (os : List Opened) (o : Opened) → closed (os ++ o ∷ []) ≡ os
closed_of [] o = refl
closed_of (a ∷ []) o = refl
closed_of (a ∷ b ∷ os) o = ap (λ xs. a ∷ xs) (closed_of (b ∷ os) o)

-- ---- runs

-- from one control and state to another, with what is noted on the way
pub record RunsBetween (setup : Setup) (rules : List Rule) (ops : List Op) (p q : Option Pair)
    (from goal : Flat) (notes : List Note) : Type 0 where
  pub count : ℕ
  pub arrives : flat_from setup rules ops count from ≡ goal
  pub noted : noted_from setup rules ops count from ≡ notes
  pub goes_on : GoesOn setup rules ops count from
  pub paired : InPairs setup rules ops p q count from

abbrev pub Runs : Setup → List Rule → List Op → Flat → Flat → List Note → Type 0
Runs setup rules ops from goal notes = RunsBetween setup rules ops None None from goal notes

-- an operation that is neither the last one nor in a pair
abbrev pub is_alone : Op → Bool
is_alone (Sweep k) = true
is_alone (Apply k) = true
is_alone (Give k) = false
is_alone (Join k) = false
is_alone (Post d vars) = false
is_alone (Take d vars path) = false
is_alone (Test v path skip) = true
is_alone Open = true
is_alone (Turn v path skip) = true
is_alone (Again back) = true
is_alone Rotate = true
is_alone (Due skip) = true
is_alone (Written skip) = true
is_alone (Skip skip) = true
is_alone (Next back) = true
is_alone (Piece v) = true
is_alone Save = true
is_alone Halt = false

pub no_halt : (o : Op) → is_alone o ≡ true → is_halt o ≡ false
no_halt (Sweep k) h = refl
no_halt (Apply k) h = refl
no_halt (Give k) h = absurd cc
no_halt (Join k) h = absurd cc
no_halt (Post d vars) h = absurd cc
no_halt (Take d vars path) h = absurd cc
no_halt (Test v path skip) h = refl
no_halt Open h = refl
no_halt (Turn v path skip) h = refl
no_halt (Again back) h = refl
no_halt Rotate h = refl
no_halt (Due skip) h = refl
no_halt (Written skip) h = refl
no_halt (Skip skip) h = refl
no_halt (Next back) h = refl
no_halt (Piece v) h = refl
no_halt Save h = refl
no_halt Halt h = absurd cc

pub no_end : (o : Op) → is_alone o ≡ true → ends_pair o ≡ None
no_end (Sweep k) h = refl
no_end (Apply k) h = refl
no_end (Give k) h = absurd cc
no_end (Join k) h = absurd cc
no_end (Post d vars) h = absurd cc
no_end (Take d vars path) h = absurd cc
no_end (Test v path skip) h = refl
no_end Open h = refl
no_end (Turn v path skip) h = refl
no_end (Again back) h = refl
no_end Rotate h = refl
no_end (Due skip) h = refl
no_end (Written skip) h = refl
no_end (Skip skip) h = refl
no_end (Next back) h = refl
no_end (Piece v) h = refl
no_end Save h = refl
no_end Halt h = absurd cc

pub no_begin : (setup : Setup) (o : Op) → is_alone o ≡ true → begins_pair setup o ≡ None
no_begin setup (Sweep k) h = refl
no_begin setup (Apply k) h = refl
no_begin setup (Give k) h = absurd cc
no_begin setup (Join k) h = absurd cc
no_begin setup (Post d vars) h = absurd cc
no_begin setup (Take d vars path) h = absurd cc
no_begin setup (Test v path skip) h = refl
no_begin setup Open h = refl
no_begin setup (Turn v path skip) h = refl
no_begin setup (Again back) h = refl
no_begin setup Rotate h = refl
no_begin setup (Due skip) h = refl
no_begin setup (Written skip) h = refl
no_begin setup (Skip skip) h = refl
no_begin setup (Next back) h = refl
no_begin setup (Piece v) h = refl
no_begin setup Save h = refl
no_begin setup Halt h = absurd cc

module _ (setup : Setup) (rules : List Rule) (ops : List Op) where
  flat_both : (m n : ℕ) (g : Flat)
      → flat_from setup rules ops (m + n) g
      ≡ flat_from setup rules ops n (flat_from setup rules ops m g)
  flat_both zero n g = let e : 0 + n ≡ n = omega arith in rw e refl
  flat_both (suc m) n g = let e : suc m + n ≡ suc (m + n) = omega arith in
      rw e (flat_both m n (stepped setup rules (op_at ops g.control.pc) g))

  noted_both : (m n : ℕ) (g : Flat)
      → noted_from setup rules ops (m + n) g
      ≡ noted_from setup rules ops m g
      ++ noted_from setup rules ops n (flat_from setup rules ops m g)
  noted_both zero n g = let e : 0 + n ≡ n = omega arith in rw e refl
  noted_both (suc m) n g = let e : suc m + n ≡ suc (m + n) = omega arith in rw e (
      ap (λ xs. notes_at setup rules (op_at ops g.control.pc) g.control g.state ++ xs)
      (noted_both m n (stepped setup rules (op_at ops g.control.pc) g))
      ∙ sym (append_assoc (notes_at setup rules (op_at ops g.control.pc) g.control g.state)
      (noted_from setup rules ops m (stepped setup rules (op_at ops g.control.pc) g))
      (noted_from setup rules ops n
      (flat_from setup rules ops m (stepped setup rules (op_at ops g.control.pc) g)))))

  on_both : (m n : ℕ) (g : Flat) → GoesOn setup rules ops m g
      → GoesOn setup rules ops n (flat_from setup rules ops m g) → GoesOn setup rules ops (m + n) g
  on_both zero n g a b = let e : n ≡ 0 + n = omega arith in
      subst (λ k. GoesOn setup rules ops k g) e b
  on_both (suc m) n g a b =
      let e : suc (m + n) ≡ suc m + n = omega arith in
      subst (λ k. GoesOn setup rules ops k g) e
      (a.0, on_both m n (stepped setup rules (op_at ops g.control.pc) g) a.1 b)

  pairs_both : (p q s : Option Pair) (m n : ℕ) (g : Flat) → InPairs setup rules ops p q m g
      → InPairs setup rules ops q s n (flat_from setup rules ops m g)
      → InPairs setup rules ops p s (m + n) g
  pairs_both p q s zero n g a b = let e : n ≡ 0 + n = omega arith in
      subst (λ k. InPairs setup rules ops p s k g) e
      (subst (λ x. InPairs setup rules ops x s n g) (sym a) b)
  pairs_both p q s (suc m) n g a b =
      let e : suc (m + n) ≡ suc m + n = omega arith in
      subst (λ k. InPairs setup rules ops p s k g) e (
        a.0,
        pairs_both (begins_pair setup (op_at ops g.control.pc)) q s m n
            (stepped setup rules (op_at ops g.control.pc) g) a.1 b,
      )

  pub runs_stay : (g : Flat) → Runs setup rules ops g g []
  runs_stay g = record { count = 0; arrives = refl; noted = refl; goes_on = tt; paired = refl }

  pub between_then : (p q s : Option Pair) (g h i : Flat) (a b : List Note)
      → RunsBetween setup rules ops p q g h a → RunsBetween setup rules ops q s h i b
      → RunsBetween setup rules ops p s g i (a ++ b)
  between_then p q s g h i a b x y =
      record {
        count = x.count + y.count;
        arrives = flat_both x.count y.count g ∙ ap (flat_from setup rules ops y.count) x.arrives
            ∙ y.arrives;
        noted = noted_both x.count y.count g
            ∙ ap (λ xs. xs ++ noted_from setup rules ops y.count
            (flat_from setup rules ops x.count g)) x.noted
            ∙ ap (λ z. a ++ noted_from setup rules ops y.count z) x.arrives
            ∙ ap (λ xs. a ++ xs) y.noted;
        goes_on = on_both x.count y.count g x.goes_on
            (subst (GoesOn setup rules ops y.count) (sym x.arrives) y.goes_on);
        paired = pairs_both p q s x.count y.count g x.paired
            (subst (InPairs setup rules ops q s y.count) (sym x.arrives) y.paired);
      }

  pub runs_then : (g h i : Flat) (a b : List Note) → Runs setup rules ops g h a
      → Runs setup rules ops h i b → Runs setup rules ops g i (a ++ b)
  runs_then g h i a b x y = between_then None None None g h i a b x y

  pub between_to : (p q : Option Pair) (g h i : Flat) (a b : List Note)
      → RunsBetween setup rules ops p q g h a → h ≡ i → a ≡ b
      → RunsBetween setup rules ops p q g i b
  between_to p q g h i a b x e f =
      subst (λ z. RunsBetween setup rules ops p q g z b) e
      (subst (RunsBetween setup rules ops p q g h) f x)

  pub runs_to : (g h i : Flat) (a b : List Note) → Runs setup rules ops g h a → h ≡ i → a ≡ b
      → Runs setup rules ops g i b
  runs_to g h i a b x e f = between_to None None g h i a b x e f

  -- one operation
  pub runs_one : (g : Flat) (o : Op) → op_at ops g.control.pc ≡ o → is_alone o ≡ true
      → Runs setup rules ops g (stepped setup rules o g) (notes_at setup rules o g.control g.state)
  runs_one g o e f =
      record {
        count = 1;
        arrives = ap (λ z. stepped setup rules z g) e;
        noted = append-nil (notes_at setup rules (op_at ops g.control.pc) g.control g.state)
            ∙ ap (λ z. notes_at setup rules z g.control g.state) e;
        goes_on = (ap is_halt e ∙ no_halt o f, tt);
        paired = (ap ends_pair e ∙ no_end o f, ap (begins_pair setup) e ∙ no_begin setup o f);
      }

  -- two in a pair
  pub runs_pair : (u v : Option Pair) (g h : Flat) (o t : Op) (p : Pair)
      → op_at ops g.control.pc ≡ o → stepped setup rules o g ≡ h → op_at ops h.control.pc ≡ t
      → is_halt o ≡ false → is_halt t ≡ false
      → ends_pair o ≡ u → begins_pair setup o ≡ Some p → ends_pair t ≡ Some p
      → begins_pair setup t ≡ v → notes_at setup rules o g.control g.state ≡ []
      → RunsBetween setup rules ops u v g (stepped setup rules t h)
      (notes_at setup rules t h.control h.state)
  runs_pair u v g h o t p e step f a b first some same last none =
      let s : stepped setup rules (op_at ops g.control.pc) g ≡ h =
      ap (λ z. stepped setup rules z g) e ∙ step in
      record {
        count = 2;
        arrives = ap (λ z. stepped setup rules (op_at ops z.control.pc) z) s
            ∙ ap (λ z. stepped setup rules z h) f;
        noted =
            ap (λ ns. ns ++ noted_from setup rules ops 1
            (stepped setup rules (op_at ops g.control.pc) g))
            (ap (λ z. notes_at setup rules z g.control g.state) e ∙ none)
            ∙ ap (λ z. noted_from setup rules ops 1 z) s
            ∙ append-nil (notes_at setup rules (op_at ops h.control.pc) h.control h.state)
            ∙ ap (λ z. notes_at setup rules z h.control h.state) f;
        goes_on = (
          ap is_halt e ∙ a,
          (ap (λ z. is_halt (op_at ops z.control.pc)) s ∙ ap is_halt f ∙ b, tt),
        );
        paired = (
          ap ends_pair e ∙ first,
          (
            ap (λ z. ends_pair (op_at ops z.control.pc)) s ∙ ap ends_pair f ∙ same
                ∙ sym (ap (begins_pair setup) e ∙ some),
            ap (λ z. begins_pair setup (op_at ops z.control.pc)) s ∙ ap (begins_pair setup) f
                ∙ last,
          ),
        );
      }

  -- the last of so many operations
  pub flat_last : (n : ℕ) (g : Flat)
      → flat_from setup rules ops (suc n) g
      ≡ stepped setup rules (op_at ops (flat_from setup rules ops n g).control.pc)
      (flat_from setup rules ops n g)
  flat_last zero g = refl
  flat_last (suc n) g = flat_last n (stepped setup rules (op_at ops g.control.pc) g)

  -- each operation ends what the one before it begins
  pub pairs_at : (p q : Option Pair) (n m : ℕ) (g : Flat) → suc n < m
      → InPairs setup rules ops p q m g
      → ends_pair (op_at ops (flat_from setup rules ops (suc n) g).control.pc)
      ≡ begins_pair setup (op_at ops (flat_from setup rules ops n g).control.pc)
  pairs_at p q n zero g l h = absurd (omega arith)
  pairs_at p q n (suc zero) g l h = absurd (omega arith)
  pairs_at p q zero (suc (suc m)) g l h = h.1.0
  pairs_at p q (suc n) (suc (suc m)) g l h =
      pairs_at (begins_pair setup (op_at ops g.control.pc)) q n (suc m)
      (stepped setup rules (op_at ops g.control.pc) g) (omega arith) h.1

  -- and the first one ends nothing
  pub pairs_first : (p q : Option Pair) (m : ℕ) (g : Flat) → 0 < m → InPairs setup rules ops p q m g
      → ends_pair (op_at ops g.control.pc) ≡ p
  pairs_first p q zero g l h = absurd (omega arith)
  pairs_first p q (suc m) g l h = h.0
