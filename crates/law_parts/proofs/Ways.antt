-- The way of a run in parts, whatever its wires tell: it ends, what is posted is taken, and its
-- pieces.
use Rattle.std.proofs.Common.{◌≡◌, ℕ, zero, suc, ◌+◌, ◌-◌, ◌≤◌, ◌<◌, ◌⊎◌, inl, inr, Bool, true, false, ℤ, List, [], ◌∷◌, ◌++◌, length, refl, sym, ap, ◌∙◌, subst, arith, cond}
use Rattle.std.proofs.lemmas.Bool.{cases_lt, cases_eq}
use Rattle.cx_plan.specs.declared.variable.VarId.{VarId}
use Rattle.cx_model.specs.States.{scalar_of}
use Rattle.cx_flat.specs.declared.op.Op.{Op}
use Rattle.cx_flat.specs.Code.{op_at, code}
use Rattle.cx_flat.specs.Flats.{control_after, is_halt}
use Rattle.cx_flat.proofs.WayLaws.{paired_quiet}
use Rattle.cx_flat.specs.Ways.{last_from, key, Less, Scalars, way_from, is_sending, is_receiving, Paired, WayEnds}
use Rattle.cx_flat.proofs.AtLaws.{way_last, last_prior, rises_at, halt_is}
use Rattle.cx_grid.specs.declared.shapes.Side.{Side}
use Rattle.cx_grid.specs.declared.shapes.Side.TheVariants.{Low, High}
use Rattle.cx_cut.specs.Neighbours.{partner}
use Rattle.law_parts.specs.Moves.{Message, Channel, Wire, Board, sender, receiver, is_there, takes_from, op_wants, op_posts, face_head, posted_faces, buffer_of, op_hands}
use Rattle.law_parts.specs.Runs.{Run, Oracle, next_op, guided, halts, last_of, first_from, parts_in, cut_of}
use Rattle.cx_flat.specs.declared.op.Op.TheVariants as op
use Rattle.law_parts.specs.Operations.{NamesWell}
use Rattle.law_parts.specs.Moves as message
use Rattle.cx_plan.specs.Lists.{only, is_at}

-- ---- the first place

pub first_is : (f s count : ℕ) (p : ℕ → Bool) → count ≤ f
    → ((n : ℕ) → n < count → p (s + n) ≡ false) → p (s + count) ≡ true
    → first_from f s p ≡ s + count
first_is zero s count p l before at = omega arith
first_is (suc f) s zero p l before at =
    let e : s + 0 ≡ s = omega arith in
    ap (λ b. cond b s (first_from f (suc s) p)) (subst (λ n. p n ≡ true) e at) ∙ sym e
first_is (suc f) s (suc count) p l before at =
    let e : s + 0 ≡ s = omega arith in
    let g : s + suc count ≡ suc s + count = omega arith in
    ap (λ b. cond b s (first_from f (suc s) p))
    (subst (λ n. p n ≡ false) e (before 0 (omega arith)))
    ∙ first_is f (suc s) count p (omega arith)
    (λ n h. let q : s + suc n ≡ suc s + n = omega arith in
    subst (λ m. p m ≡ false) q (before (suc n) (omega arith))) (subst (λ m. p m ≡ true) g at)
    ∙ sym g

-- ---- one operation and the next

only_length : {A : Type 0} (b : Bool) (x : A) (ys : List A)
    → length (only b (x ∷ []) ++ ys) ≡ cond b 1 0 + length ys
only_length true x ys = omega arith
only_length false x ys = omega arith

only_one : {A : Type 0} (b : Bool) (x : A) → length (only b (x ∷ [])) ≡ cond b 1 0
only_one true x = refl
only_one false x = refl

-- a part is its neighbour's neighbour at the other side
pub record IsMutual (r : Run) : Type 0 where
  pub high : (a b d : ℕ) → d < 3 → a < parts_in r → b < parts_in r
      → is_at (partner (cut_of r) b d High) a ≡ is_at (partner (cut_of r) a d Low) b
  pub low : (a b d : ℕ) → d < 3 → a < parts_in r → b < parts_in r
      → is_at (partner (cut_of r) b d Low) a ≡ is_at (partner (cut_of r) a d High) b

pub wants_none : (r : Run) (p : Op) (c : Channel) → is_receiving p ≡ false → op_wants r p c ≡ 0
wants_none r (op.Sweep k) (Wire a b) e = refl
wants_none r (op.Sweep k) (Board a b) e = refl
wants_none r (op.Apply k) (Wire a b) e = refl
wants_none r (op.Apply k) (Board a b) e = refl
wants_none r (op.Give k) (Wire a b) e = refl
wants_none r (op.Give k) (Board a b) e = refl
wants_none r (op.Join k) c e = absurd cc
wants_none r (op.Post d vars) (Wire a b) e = refl
wants_none r (op.Post d vars) (Board a b) e = refl
wants_none r (op.Take d vars path) c e = absurd cc
wants_none r (op.Test v path skip) (Wire a b) e = refl
wants_none r (op.Test v path skip) (Board a b) e = refl
wants_none r op.Open (Wire a b) e = refl
wants_none r op.Open (Board a b) e = refl
wants_none r (op.Turn v path skip) (Wire a b) e = refl
wants_none r (op.Turn v path skip) (Board a b) e = refl
wants_none r (op.Again back) (Wire a b) e = refl
wants_none r (op.Again back) (Board a b) e = refl
wants_none r op.Rotate (Wire a b) e = refl
wants_none r op.Rotate (Board a b) e = refl
wants_none r (op.Due skip) (Wire a b) e = refl
wants_none r (op.Due skip) (Board a b) e = refl
wants_none r (op.Written skip) (Wire a b) e = refl
wants_none r (op.Written skip) (Board a b) e = refl
wants_none r (op.Skip skip) (Wire a b) e = refl
wants_none r (op.Skip skip) (Board a b) e = refl
wants_none r (op.Next back) (Wire a b) e = refl
wants_none r (op.Next back) (Board a b) e = refl
wants_none r (op.Piece v) (Wire a b) e = refl
wants_none r (op.Piece v) (Board a b) e = refl
wants_none r op.Save (Wire a b) e = refl
wants_none r op.Save (Board a b) e = refl
wants_none r op.Halt (Wire a b) e = refl
wants_none r op.Halt (Board a b) e = refl

module _ {tells : Type 0} (r : Run) (mutual_parts : IsMutual r) (few : r.setup.shape.dims ≤ 3) where
  abbrev op_low : (n a d : ℕ) (vars : List VarId) (values : Side → tells → List ℤ) → Message tells
  op_low n a d vars values = message.Sent (face_head r n a d Low vars) (values Low)

  abbrev op_high : (n a d : ℕ) (vars : List VarId) (values : Side → tells → List ℤ) → Message tells
  op_high n a d vars values = message.Sent (face_head r n a d High vars) (values High)

  faces_length : (n a b d : ℕ) (vars : List VarId) (values : Side → tells → List ℤ) → d < 3
      → a < parts_in r → b < parts_in r
      → takes_from r b d a ≡ length (posted_faces r n a values d vars b)
  faces_length n a b d vars values below l m =
      let x = is_at (partner (cut_of r) a d Low) b in
      let y = is_at (partner (cut_of r) a d High) b in
      ap (λ z. cond z 1 0 + cond (is_at (partner (cut_of r) b d Low) a) 1 0)
      (mutual_parts.high a b d below l m)
      ∙ ap (λ z. cond x 1 0 + cond z 1 0) (mutual_parts.low a b d below l m)
      ∙ sym (only_length x (op_low n a d vars values) (only y (op_high n a d vars values ∷ []))
      ∙ ap (λ z. cond x 1 0 + z) (only_one y (op_high n a d vars values)))

  posts_none : (o : Op) (n : ℕ) (faces : ℕ → List VarId → Side → tells → List ℤ) (number : ℕ → ℤ)
      (c : Channel) → is_sending o ≡ false → op_posts r o n faces number c ≡ []
  posts_none (op.Sweep k) n faces number c e = refl
  posts_none (op.Apply k) n faces number c e = refl
  posts_none (op.Give k) n faces number c e = absurd cc
  posts_none (op.Join k) n faces number c e = refl
  posts_none (op.Post d vars) n faces number c e = absurd cc
  posts_none (op.Take d vars path) n faces number c e = refl
  posts_none (op.Test v path skip) n faces number c e = refl
  posts_none op.Open n faces number c e = refl
  posts_none (op.Turn v path skip) n faces number c e = refl
  posts_none (op.Again back) n faces number c e = refl
  posts_none op.Rotate n faces number c e = refl
  posts_none (op.Due skip) n faces number c e = refl
  posts_none (op.Written skip) n faces number c e = refl
  posts_none (op.Skip skip) n faces number c e = refl
  posts_none (op.Next back) n faces number c e = refl
  posts_none (op.Piece v) n faces number c e = refl
  posts_none op.Save n faces number c e = refl
  posts_none op.Halt n faces number c e = refl

  pub pair_counts : (o p : Op) → NamesWell r.setup o → Paired o p
      → (n : ℕ) (faces : ℕ → List VarId → Side → tells → List ℤ) (number : ℕ → ℤ) (c : Channel)
      → sender c < parts_in r → receiver c < parts_in r
      → op_wants r p c ≡ length (op_posts r o n faces number c)
  pair_counts (op.Sweep k) p names h n faces number c l m =
      wants_none r p c h ∙ sym (ap length (posts_none (op.Sweep k) n faces number c refl))
  pair_counts (op.Apply k) p names h n faces number c l m =
      wants_none r p c h ∙ sym (ap length (posts_none (op.Apply k) n faces number c refl))
  pair_counts (op.Give k) p names h n faces number (Wire a b) l m =
      ap (λ z. op_wants r z (Wire a b)) h
  pair_counts (op.Give k) p names h n faces number (Board a b) l m =
      ap (λ z. op_wants r z (Board a b)) h
  pair_counts (op.Join k) p names h n faces number c l m =
      wants_none r p c h ∙ sym (ap length (posts_none (op.Join k) n faces number c refl))
  pair_counts (op.Post d vars) p names h n faces number (Wire a b) l m =
      ap (λ z. op_wants r z (Wire a b)) h.1
      ∙ faces_length n a b d vars (faces d vars) (let e = names.direction in omega (arith, e, few))
      l m
  pair_counts (op.Post d vars) p names h n faces number (Board a b) l m =
      ap (λ z. op_wants r z (Board a b)) h.1
  pair_counts (op.Take d vars path) p names h n faces number c l m =
      wants_none r p c h ∙ sym (ap length (posts_none (op.Take d vars path) n faces number c refl))
  pair_counts (op.Test v path skip) p names h n faces number c l m =
      wants_none r p c h ∙ sym (ap length (posts_none (op.Test v path skip) n faces number c refl))
  pair_counts op.Open p names h n faces number c l m =
      wants_none r p c h ∙ sym (ap length (posts_none op.Open n faces number c refl))
  pair_counts (op.Turn v path skip) p names h n faces number c l m =
      wants_none r p c h ∙ sym (ap length (posts_none (op.Turn v path skip) n faces number c refl))
  pair_counts (op.Again back) p names h n faces number c l m =
      wants_none r p c h ∙ sym (ap length (posts_none (op.Again back) n faces number c refl))
  pair_counts op.Rotate p names h n faces number c l m =
      wants_none r p c h ∙ sym (ap length (posts_none op.Rotate n faces number c refl))
  pair_counts (op.Due skip) p names h n faces number c l m =
      wants_none r p c h ∙ sym (ap length (posts_none (op.Due skip) n faces number c refl))
  pair_counts (op.Written skip) p names h n faces number c l m =
      wants_none r p c h ∙ sym (ap length (posts_none (op.Written skip) n faces number c refl))
  pair_counts (op.Skip skip) p names h n faces number c l m =
      wants_none r p c h ∙ sym (ap length (posts_none (op.Skip skip) n faces number c refl))
  pair_counts (op.Next back) p names h n faces number c l m =
      wants_none r p c h ∙ sym (ap length (posts_none (op.Next back) n faces number c refl))
  pair_counts (op.Piece v) p names h n faces number c l m =
      wants_none r p c h ∙ sym (ap length (posts_none (op.Piece v) n faces number c refl))
  pair_counts op.Save p names h n faces number c l m =
      wants_none r p c h ∙ sym (ap length (posts_none op.Save n faces number c refl))
  pair_counts op.Halt p names h n faces number c l m =
      wants_none r p c h ∙ sym (ap length (posts_none op.Halt n faces number c refl))

-- ---- the way

module _ (r : Run) (oracle : Oracle) where
  abbrev pub scalars_at : Scalars
  scalars_at n = scalar_of (guided r oracle n).state

  pub way_is : (n : ℕ) → (guided r oracle n).control
      ≡ way_from r.setup (code r.setup) scalars_at n r.first.control
  way_is zero = refl
  way_is (suc n) = ap (λ c. control_after r.setup (op_at (code r.setup) c.pc) (scalars_at n) c)
      (way_is n) ∙ sym (way_last r.setup (code r.setup) n scalars_at r.first.control)

  abbrev pub op_there : ℕ → Op
  op_there n = next_op r (guided r oracle n).control

  halted_on : (n : ℕ) → is_halt (op_there n) ≡ true → is_halt (op_there (suc n)) ≡ true
  halted_on n h =
      let e : op_there n ≡ op.Halt = halt_is (op_there n) h in
      ap (λ o. is_halt (next_op r
      (control_after r.setup o (scalars_at n) (guided r oracle n).control))) e ∙ h

  module _ (ends : WayEnds r.setup r.first.control r.most scalars_at) where
    halts_there : is_halt (op_there ends.count) ≡ true
    halts_there = ap (λ c. is_halt (next_op r c)) (way_is ends.count) ∙ ends.halts

    goes_there : (n : ℕ) → n < ends.count → is_halt (op_there n) ≡ false
    goes_there n l = ap (λ c. is_halt (next_op r c)) (way_is n)
        ∙ (rises_at r.setup (code r.setup)
        ends.count n scalars_at op.Halt r.first.control ends.rises l).0

    pub last_is : last_of r oracle ≡ ends.count
    last_is =
        let e : 0 + ends.count ≡ ends.count = omega arith in
        first_is r.most 0 ends.count (λ n. halts r (guided r oracle n).control) ends.within
        (λ n l. let q : 0 + n ≡ n = omega arith in
        subst (λ m. is_halt (op_there m) ≡ false) (sym q) (goes_there n l))
        (subst (λ m. is_halt (op_there m) ≡ true) (sym e) halts_there) ∙ e

    pub within_most : last_of r oracle ≤ r.most
    within_most = omega (arith, last_is, ends.within)

    pub goes_on : (n : ℕ) → n < last_of r oracle → halts r (guided r oracle n).control ≡ false
    goes_on n l = goes_there n (omega (arith, last_is))

    pub halted : halts r (guided r oracle (last_of r oracle)).control ≡ true
    halted = ap (λ n. halts r (guided r oracle n).control) last_is ∙ halts_there

    -- each operation raises the key
    pub key_rises : (n : ℕ) → n < last_of r oracle
        → Less (key (guided r oracle n).control) (key (guided r oracle (suc n)).control)
    key_rises n l =
        let x =
        (rises_at r.setup (code r.setup)
        ends.count n scalars_at op.Halt r.first.control ends.rises
        (omega (arith, last_is))).1 in
        subst (λ c. Less (key c) (key (guided r oracle (suc n)).control)) (sym (way_is n))
        (subst (λ c. Less (key (way_from r.setup (code r.setup) scalars_at n r.first.control))
        (key c)) (sym (way_is (suc n))) x)

    -- the first operation takes nothing
    pub first_quiet : is_receiving (op_there 0) ≡ false
    first_quiet = at_zero (cases_lt 0 ends.count)
      where
        at_zero : (0 < ends.count) ⊎ (ends.count ≤ 0) → is_receiving (op_there 0) ≡ false
        at_zero (inl l) =
            (rises_at r.setup (code r.setup)
            ends.count 0 scalars_at op.Halt r.first.control ends.rises l).2
        at_zero (inr l) = let z : ends.count ≡ 0 = omega arith in
            ap is_receiving (halt_is (op_there 0)
            (subst (λ n. is_halt (op_there n) ≡ true) z halts_there))

    -- behind the last place all stand still
    still : (m n : ℕ) → ends.count + m ≡ n → is_halt (op_there n) ≡ true
    still zero n e = let q : n ≡ ends.count = omega arith in
        subst (λ k. is_halt (op_there k) ≡ true) (sym q) halts_there
    still (suc m) zero e = absurd (omega arith)
    still (suc m) (suc n) e = halted_on n (still m n (omega arith))

    pub still_there : (n : ℕ) → last_of r oracle ≤ n → is_halt (op_there n) ≡ true
    still_there n l = still (n - ends.count) n (omega (arith, last_is))

    -- an operation and the next one
    pub pair_there : (n : ℕ) → Paired (op_there n) (op_there (suc n))
    pair_there n = go (cases_lt (suc n) ends.count) (cases_eq (suc n) ends.count)
      where
        quiet_pair : is_halt (op_there (suc n)) ≡ true → is_sending (op_there n) ≡ false
            → Paired (op_there n) (op_there (suc n))
        quiet_pair h q = subst (λ o. Paired (op_there n) o) (sym (halt_is (op_there (suc n)) h))
            (paired_quiet (op_there n) op.Halt q refl)

        go : (suc n < ends.count) ⊎ (ends.count ≤ suc n)
            → (suc n ≡ ends.count) ⊎ (suc n ≡ ends.count → ⊥)
            → Paired (op_there n) (op_there (suc n))
        go (inl l) e =
            let x =
            (rises_at r.setup (code r.setup) ends.count (suc n)
            scalars_at op.Halt r.first.control ends.rises l).2 in
            subst (λ c. Paired (next_op r c) (op_there (suc n))) (sym (way_is n))
            (subst
            (λ c. Paired (next_op r
            (way_from r.setup (code r.setup) scalars_at n r.first.control)) (next_op r c))
            (sym (way_is (suc n))) x)
        go (inr l) (inl e) =
            quiet_pair (subst (λ m. is_halt (op_there m) ≡ true) (sym e) halts_there)
            (ap (λ c. is_sending (next_op r c)) (way_is n)
            ∙ ap is_sending (sym
            (last_prior r.setup (code r.setup) (suc n) scalars_at op.Halt r.first.control))
            ∙ subst (λ m. is_sending
            (last_from r.setup (code r.setup) scalars_at op.Halt m r.first.control) ≡ false)
            (sym e) ends.quiet)
        go (inr l) (inr e) =
            quiet_pair (still (suc n - ends.count) (suc n) (omega arith))
            (ap is_sending (halt_is (op_there n) (still (n - ends.count) n (omega arith))))
