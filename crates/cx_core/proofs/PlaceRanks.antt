-- The place of a part rises with each operation, and so does its rank.
use Rattle.std.proofs.Common.{◌≡◌, ℕ, zero, suc, ◌+◌, ◌-◌, ◌*◌, ◌<◌, ◌≤◌, Bool, true, false, eqb, ltb, ℤ, pos, negsuc, List, [], ◌∷◌, ◌++◌, length, cond, refl, sym, subst, arith}
use Rattle.std.specs.Prelude.{All}
use Rattle.cx_plan.specs.declared.variable.VarId.{VarId}
use Rattle.cx_plan.specs.Setups.{Setup}
use Rattle.cx_plan.specs.Dues.{is_due, is_written}
use Rattle.cx_model.specs.Courses.{by_zero}
use Rattle.cx_flat.specs.declared.op.Op.{Op}
use Rattle.cx_flat.specs.declared.op.Op.TheVariants as op
use Rattle.cx_flat.specs.Code.{op_at, code}
use Rattle.cx_flat.specs.Flats.{Opened, Control, last_turns, turned_on, closed, to, next, leaves_loop, control_after, is_halt}
use Rattle.cx_flat.specs.Ways.{key, opened_key, Less, Scalars, way_from, Rises, WayEnds, WaysEnd}
use Rattle.cx_flat.proofs.AtLaws.{halt_is}
use Rattle.cx_core_place.specs.Steps.{IsReached, starts, continues, follows, PlacesFit, most_open}
use Rattle.cx_core.specs.Left.{key_base, key_length, place_rank, rank_limit}
use Rattle.cx_core.proofs.RankLaws.{Below, rank_below, rank_less}

-- ---- an operation behind which a place is later

-- From a place the run rises up to its last operation, by these scalars.
record Climbs (setup : Setup) (scalars : Scalars) (c : Control) : Type 0 where
  before : Op
  count : ℕ
  rises : Rises setup (code setup) scalars before count c
  halts : is_halt (op_at (code setup) (way_from setup (code setup) scalars count c).pc) ≡ true

abbrev behind : (VarId → ℤ) → Scalars → Scalars
behind s scalars zero = s
behind s scalars (suc n) = scalars n

module _ (setup : Setup) (ways : WaysEnd setup) where
  from_way : (first : Control) (most : ℕ) (scalars : Scalars) → WayEnds setup first most scalars
      → Climbs setup scalars first
  from_way first most scalars w =
      record { before = op.Halt; count = w.count; rises = w.rises; halts = w.halts }

  climbs_on : (c : Control) (s : VarId → ℤ) (scalars : Scalars) → Climbs setup (behind s scalars) c
      → Climbs setup scalars (control_after setup (op_at (code setup) c.pc) s c)
  climbs_on c s scalars h = go h.before h.count h.rises h.halts
    where
      go : (before : Op) (count : ℕ) → Rises setup (code setup) (behind s scalars) before count c
          → is_halt (op_at (code setup) (way_from setup (code setup) (behind s scalars) count c).pc)
          ≡ true
          → Climbs setup scalars (control_after setup (op_at (code setup) c.pc) s c)
      go before zero rises halts =
          subst (λ o. Climbs setup scalars (control_after setup o s c))
          (sym (halt_is (op_at (code setup) c.pc) halts))
          (record { before = before; count = 0; rises = tt; halts = halts })
      go before (suc count) rises halts =
          record { before = op_at (code setup) c.pc; count = count; rises = rises.3; halts = halts }

  climbs : {c : Control} → IsReached setup c → (scalars : Scalars) → Climbs setup scalars c
  climbs (starts e) scalars =
      subst (Climbs setup scalars) (sym e) (from_way _ _ scalars (ways.whole scalars))
  climbs (continues n l e) scalars =
      subst (Climbs setup scalars) (sym e) (from_way _ _ scalars (ways.continued n l scalars))
  climbs (follows before s r e) scalars =
      subst (Climbs setup scalars) (sym e)
      (climbs_on before s scalars (climbs r (behind s scalars)))

  pub place_rises : (c : Control) → IsReached setup c → is_halt (op_at (code setup) c.pc) ≡ false
      → (s : VarId → ℤ)
      → Less (key c) (key (control_after setup (op_at (code setup) c.pc) s c))
  place_rises c r running s = go (climbs r (λ n. s))
    where
      never : (b : Bool) → b ≡ false → b ≡ true → ⊥
      never b e f = cc

      by : (before : Op) (count : ℕ) → Rises setup (code setup) (λ n. s) before count c
          → is_halt (op_at (code setup) (way_from setup (code setup) (λ n. s) count c).pc) ≡ true
          → Less (key c) (key (control_after setup (op_at (code setup) c.pc) s c))
      by before zero rises halts = absurd (never (is_halt (op_at (code setup) c.pc)) running halts)
      by before (suc count) rises halts = rises.1

      go : Climbs setup (λ n. s) c
          → Less (key c) (key (control_after setup (op_at (code setup) c.pc) s c))
      go h = by h.before h.count h.rises h.halts

-- ---- how large the numbers of a place are

-- each open WHILE's test stands at an operation, or behind the last one
abbrev Within : ℕ → List Opened → Type 0
Within most [] = Unit {0}
Within most (o ∷ os) = (o.place ≤ most) × Within most os

within_more : (most : ℕ) (os : List Opened) (o : Opened) → Within most os → o.place ≤ most
    → Within most (os ++ o ∷ [])
within_more most [] o h l = (l, tt)
within_more most (p ∷ os) o h l = (h.0, within_more most os o h.1 l)

within_closed : (most : ℕ) (os : List Opened) → Within most os → Within most (closed os)
within_closed most [] h = tt
within_closed most (o ∷ []) h = tt
within_closed most (o ∷ p ∷ os) h = (h.0, within_closed most (p ∷ os) h.1)

within_turned : (most : ℕ) (os : List Opened) → Within most os → Within most (turned_on os)
within_turned most [] h = tt
within_turned most (o ∷ []) h = (h.0, tt)
within_turned most (o ∷ p ∷ os) h = (h.0, within_turned most (p ∷ os) h.1)

abbrev IsWithin : ℕ → Control → Type 0
IsWithin most c = Within most c.opened

either : (most : ℕ) (b : Bool) (c d : Control) → IsWithin most c → IsWithin most d
    → IsWithin most (cond b c d)
either most true c d h k = h
either most false c d h k = k

by_number : (most : ℕ) (n : ℤ) (c d : Control) → IsWithin most c → IsWithin most d
    → IsWithin most (by_zero n c d)
by_number most (pos zero) c d h k = h
by_number most (pos (suc n)) c d h k = k
by_number most (negsuc n) c d h k = k

within_after : (setup : Setup) (most : ℕ) (o : Op) (s : VarId → ℤ) (c : Control) → c.pc < most
    → IsWithin most c → IsWithin most (control_after setup o s c)
within_after setup most (op.Sweep k) s c l h = h
within_after setup most (op.Apply k) s c l h = h
within_after setup most (op.Give k) s c l h = h
within_after setup most (op.Join k) s c l h = h
within_after setup most (op.Post d vars) s c l h = h
within_after setup most (op.Take d vars path) s c l h = h
within_after setup most (op.Test v path skip) s c l h =
    by_number most (s v) (to c (c.pc + skip)) (next c) h h
within_after setup most op.Open s c l h =
    within_more most c.opened (record { place = suc c.pc; turns = 0 }) h (omega (arith, l))
within_after setup most (op.Turn v path skip) s c l h =
    either most (eqb (last_turns c.opened) setup.while_limit) (leaves_loop c (c.pc + skip))
    (by_zero (s v) (leaves_loop c (c.pc + skip)) (next c))
    (within_closed most c.opened h)
    (by_number most (s v) (leaves_loop c (c.pc + skip)) (next c) (within_closed most c.opened h) h)
within_after setup most (op.Again back) s c l h = within_turned most c.opened h
within_after setup most op.Rotate s c l h = h
within_after setup most (op.Due skip) s c l h =
    either most (is_due setup c.iteration) (next c) (to c (c.pc + skip)) h h
within_after setup most (op.Written skip) s c l h =
    either most (is_written setup c.iteration) (next c) (to c (c.pc + skip)) h h
within_after setup most (op.Skip skip) s c l h = h
within_after setup most (op.Next back) s c l h =
    either most (ltb c.iteration setup.itlast)
    (record { pc = c.pc - back; iteration = suc c.iteration; opened = c.opened }) (next c) h h
within_after setup most (op.Piece v) s c l h = h
within_after setup most op.Save s c l h = h
within_after setup most op.Halt s c l h = h

tail_all : (P : Opened → Type 0) (o : Opened) (os : List Opened) → All P (o ∷ os) → All P os
tail_all P o os h = λ k d l. h (suc k) d (omega (arith, l))

below_opened : (base limit most pc : ℕ) (os : List Opened) → limit < base → most < base → pc < base
    → Within most os → All (λ (o : Opened). o.turns ≤ limit) os
    → Below base (opened_key os pc)
below_opened base limit most pc [] a b l h t = (l, tt)
below_opened base limit most pc (o ∷ os) a b l h t =
    let turns : o.turns ≤ limit = t 0 o (omega arith) in (
      omega (arith, h.0, b),
      (
        omega (arith, turns, a),
        below_opened base limit most pc os a b l h.1
            (tail_all (λ (o : Opened). o.turns ≤ limit) o os t),
      ),
    )

opened_length : (os : List Opened) (pc : ℕ) → length (opened_key os pc) ≡ 2 * length os + 1
opened_length [] pc = refl
opened_length (o ∷ os) pc = omega (arith, opened_length os pc)

module _ (setup : Setup) (fits : PlacesFit setup) where
  within : {c : Control} → IsReached setup c → IsWithin (length (code setup)) c
  within (starts e) = subst (IsWithin (length (code setup))) (sym e) tt
  within (continues n l e) = subst (IsWithin (length (code setup))) (sym e) tt
  within (follows before s r e) =
      subst (IsWithin (length (code setup))) (sym e)
      (within_after setup (length (code setup)) (op_at (code setup) before.pc) s before
      (fits.fit before r).pc (within r))

  below_base : (c : Control) → IsReached setup c → Below (key_base setup) (key c)
  unfolding key_base
  below_base c r =
      let f = fits.fit c r in
      let i : c.iteration ≤ setup.itlast = f.iteration in
      let p : c.pc < length (code setup) = f.pc in (
        omega (arith, i),
        below_opened (suc (setup.itlast + setup.while_limit + length (code setup)))
            setup.while_limit (length (code setup)) c.pc c.opened (omega arith) (omega arith)
            (omega (arith, p)) (within r) f.turns,
      )

  long_enough : (c : Control) → IsReached setup c → length (key c) ≤ key_length
  unfolding key_length
  long_enough c r = let d : length c.opened ≤ most_open = (fits.fit c r).depth in
      omega (arith, d, opened_length c.opened c.pc)

  some_base : 0 < key_base setup
  unfolding key_base
  some_base = omega arith

  pub rank_small : (c : Control) → IsReached setup c → place_rank setup c < rank_limit setup
  unfolding place_rank rank_limit
  rank_small c r = rank_below (key_base setup) key_length (key c) some_base (below_base c r)

  pub rank_rises : (c d : Control) → IsReached setup c → Less (key c) (key d)
      → place_rank setup c < place_rank setup d
  unfolding place_rank
  rank_rises c d r less = rank_less (key_base setup) key_length (key c) (key d) some_base
      (below_base c r) (long_enough c r) less
