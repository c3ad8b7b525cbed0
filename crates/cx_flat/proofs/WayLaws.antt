-- All ways come to the last operation, and each operation raises the key.
use Rattle.std.proofs.Common.{◌≡◌, ℕ, zero, suc, ◌+◌, ◌-◌, ◌≤◌, ◌<◌, inl, inr, Bool, true, false, eqb, ℤ, pos, negsuc, List, [], ◌∷◌, ◌++◌, length, refl, sym, ap, ◌∙◌, subst, arith, length-append, eq-eqb, cond}
use Rattle.std.proofs.lemmas.Bool.{ne_eqb, lt-ltb, le-ltb}
use Rattle.cx_plan.specs.declared.variable.VarId.{VarId}
use Rattle.cx_plan.specs.declared.item.ItemKind.{ItemKind}
use Rattle.cx_plan.specs.declared.item.ItemKind.TheVariants.{Cell, Scalar, Sum, Least, Greatest, Count}
use Rattle.cx_plan.specs.declared.tree.Tree.{Tree, Seq', Call, Sync, If', While', Row_of-Tree, end_of-Tree, more_of-Tree}
use Rattle.cx_plan.specs.Setups.{Setup}
use Rattle.cx_plan.specs.Dues.{is_due, is_written}
use Rattle.cx_plan.specs.Lookups.{item, bin, CHECKPOINT, ANALYSIS, PRESTEP, EVOL, POSTSTEP, TERMINATE, SHUTDOWN}
use Rattle.cx_flat.specs.declared.op.Op.{Op}
use Rattle.cx_flat.specs.declared.op.Op.TheVariants as op
use Rattle.cx_model.specs.Courses.{by_zero}
use Rattle.cx_flat.specs.Code.{op_at, item_code, sync_code, if_code, while_code, tree_code, row_code, bins_code, checkpoint_code, before_code, pieces_code, from_code, loop_code}
use Rattle.cx_flat.specs.Flats.{Opened, Control, last_turns, turned_on, to, next, leaves_loop, turns_back, control_after, is_halt}
use Rattle.cx_flat.specs.Ways.{opened_key, key, Less, Scalars, later, way_from, is_sending, is_receiving, Paired, last_from, Rises, most_turns, most_sync, most_tree, most_row, most_bins, most_before, most_from, most_rest}
use Rattle.cx_flat.proofs.RunLaws.{StandsAt, stands_first, stands_then, last_of, turned_of, closed_of}

-- ---- keys

pub less_pc : (os : List Opened) (a b : ℕ) → a < b → Less (opened_key os a) (opened_key os b)
less_pc [] a b l = inl l
less_pc (o ∷ os) a b l = inr (refl, inr (refl, less_pc os a b l))

pub less_open : (os : List Opened) (o : Opened) (a b : ℕ) → a < o.place
    → Less (opened_key os a) (opened_key (os ++ o ∷ []) b)
less_open [] o a b l = inl l
less_open (p ∷ os) o a b l = inr (refl, inr (refl, less_open os o a b l))

pub less_out : (os : List Opened) (o : Opened) (a b : ℕ) → o.place < b
    → Less (opened_key (os ++ o ∷ []) a) (opened_key os b)
less_out [] o a b l = inl l
less_out (p ∷ os) o a b l = inr (refl, inr (refl, less_out os o a b l))

pub less_turn : (os : List Opened) (f t u a b : ℕ) → t < u
    → Less (opened_key (os ++ record { place = f; turns = t } ∷ []) a)
    (opened_key (os ++ record { place = f; turns = u } ∷ []) b)
less_turn [] f t u a b l = inr (refl, inl l)
less_turn (p ∷ os) f t u a b l = inr (refl, inr (refl, less_turn os f t u a b l))

pub less_trans : (a b c : List ℕ) → Less a b → Less b c → Less a c
less_trans [] b c x y = absurd x
less_trans (i ∷ a) [] c x y = absurd x
less_trans (i ∷ a) (j ∷ b) [] x y = absurd y
less_trans (i ∷ a) (j ∷ b) (k ∷ c) (inl l) (inl m) = inl (omega arith)
less_trans (i ∷ a) (j ∷ b) (k ∷ c) (inl l) (inr m) = let e : j ≡ k = m.0 in inl (omega arith)
less_trans (i ∷ a) (j ∷ b) (k ∷ c) (inr l) (inl m) = let e : i ≡ j = l.0 in inl (omega arith)
less_trans (i ∷ a) (j ∷ b) (k ∷ c) (inr l) (inr m) = inr (l.0 ∙ m.0, less_trans a b c l.1 m.1)

pub less_never : (a : List ℕ) → Less a a → ⊥
less_never [] x = x
less_never (i ∷ a) (inl l) = omega arith
less_never (i ∷ a) (inr l) = less_never a l.1

-- ---- passing

abbrev shifted : Scalars → ℕ → Scalars
shifted scalars zero = scalars
shifted scalars (suc m) = shifted (later scalars) m

-- an operation that neither posts nor takes
abbrev is_plain : Op → Bool
is_plain (op.Sweep k) = true
is_plain (op.Apply k) = true
is_plain (op.Give k) = false
is_plain (op.Join k) = false
is_plain (op.Post d vars) = false
is_plain (op.Take d vars path) = false
is_plain (op.Test v path skip) = true
is_plain op.Open = true
is_plain (op.Turn v path skip) = true
is_plain (op.Again back) = true
is_plain op.Rotate = true
is_plain (op.Due skip) = true
is_plain (op.Written skip) = true
is_plain (op.Skip skip) = true
is_plain (op.Next back) = true
is_plain (op.Piece v) = true
is_plain op.Save = true
is_plain op.Halt = false

plain_facts : (o : Op) → is_plain o ≡ true
    → (is_halt o ≡ false) × (is_sending o ≡ false) × (is_receiving o ≡ false)
plain_facts (op.Sweep k) e = (refl, refl, refl)
plain_facts (op.Apply k) e = (refl, refl, refl)
plain_facts (op.Give k) e = absurd cc
plain_facts (op.Join k) e = absurd cc
plain_facts (op.Post d vars) e = absurd cc
plain_facts (op.Take d vars path) e = absurd cc
plain_facts (op.Test v path skip) e = (refl, refl, refl)
plain_facts op.Open e = (refl, refl, refl)
plain_facts (op.Turn v path skip) e = (refl, refl, refl)
plain_facts (op.Again back) e = (refl, refl, refl)
plain_facts op.Rotate e = (refl, refl, refl)
plain_facts (op.Due skip) e = (refl, refl, refl)
plain_facts (op.Written skip) e = (refl, refl, refl)
plain_facts (op.Skip skip) e = (refl, refl, refl)
plain_facts (op.Next back) e = (refl, refl, refl)
plain_facts (op.Piece v) e = (refl, refl, refl)
plain_facts op.Save e = (refl, refl, refl)
plain_facts op.Halt e = absurd cc

pub paired_quiet : (a b : Op) → is_sending a ≡ false → is_receiving b ≡ false → Paired a b
paired_quiet (op.Sweep k) b q r = r
paired_quiet (op.Apply k) b q r = r
paired_quiet (op.Give k) b q r = absurd cc
paired_quiet (op.Join k) b q r = r
paired_quiet (op.Post d vars) b q r = absurd cc
paired_quiet (op.Take d vars path) b q r = r
paired_quiet (op.Test v path skip) b q r = r
paired_quiet op.Open b q r = r
paired_quiet (op.Turn v path skip) b q r = r
paired_quiet (op.Again back) b q r = r
paired_quiet op.Rotate b q r = r
paired_quiet (op.Due skip) b q r = r
paired_quiet (op.Written skip) b q r = r
paired_quiet (op.Skip skip) b q r = r
paired_quiet (op.Next back) b q r = r
paired_quiet (op.Piece v) b q r = r
paired_quiet op.Save b q r = r
paired_quiet op.Halt b q r = r

-- the scalars from here on, and the operation before, which posts nothing
pub record Setting : Type 0 where
  pub numbers : Scalars
  pub before : Op
  pub quiet : is_sending before ≡ false

pub record Passes (setup : Setup) (ops : List Op) (from goal : Control) (most : ℕ)
    (scalars : Setting) : Type 0 where
  pub count : ℕ
  pub within : count ≤ most
  pub arrives : way_from setup ops scalars.numbers count from ≡ goal
  pub rises : Rises setup ops scalars.numbers scalars.before count from
  pub quiet : is_sending (last_from setup ops scalars.numbers scalars.before count from) ≡ false

module _ (setup : Setup) (ops : List Op) where
  way_both : (m n : ℕ) (scalars : Scalars) (c : Control)
      → way_from setup ops scalars (m + n) c
      ≡ way_from setup ops (shifted scalars m) n (way_from setup ops scalars m c)
  way_both zero n scalars c = let e : 0 + n ≡ n = omega arith in rw e refl
  way_both (suc m) n scalars c = let e : suc m + n ≡ suc (m + n) = omega arith in
      rw e (way_both m n (later scalars) (control_after setup (op_at ops c.pc) (scalars 0) c))

  last_both : (m n : ℕ) (scalars : Scalars) (before : Op) (c : Control)
      → last_from setup ops scalars before (m + n) c
      ≡ last_from setup ops (shifted scalars m) (last_from setup ops scalars before m c) n
      (way_from setup ops scalars m c)
  last_both zero n scalars before c = let e : 0 + n ≡ n = omega arith in rw e refl
  last_both (suc m) n scalars before c = let e : suc m + n ≡ suc (m + n) = omega arith in
      rw e (last_both m n (later scalars) (op_at ops c.pc)
      (control_after setup (op_at ops c.pc) (scalars 0) c))

  rises_both : (m n : ℕ) (scalars : Scalars) (before : Op) (c : Control)
      → Rises setup ops scalars before m c
      → Rises setup ops (shifted scalars m) (last_from setup ops scalars before m c) n
      (way_from setup ops scalars m c) → Rises setup ops scalars before (m + n) c
  rises_both zero n scalars before c a b = let e : n ≡ 0 + n = omega arith in
      subst (λ k. Rises setup ops scalars before k c) e b
  rises_both (suc m) n scalars before c a b =
      let e : suc (m + n) ≡ suc m + n = omega arith in
      subst (λ k. Rises setup ops scalars before k c) e (
        a.0,
        a.1,
        a.2,
        rises_both m n (later scalars) (op_at ops c.pc)
            (control_after setup (op_at ops c.pc) (scalars 0) c) a.3 b,
      )

  abbrev pub Goes : Control → Control → ℕ → Type 0
  Goes c d most = (scalars : Setting) → Passes setup ops c d most scalars

  pub pass_stay : (c : Control) (most : ℕ) → Goes c c most
  pass_stay c most scalars =
      record { count = 0; within = omega arith; arrives = refl; rises = tt; quiet = scalars.quiet }

  -- the setting behind
  abbrev behind : (a b : Control) (m : ℕ) (scalars : Setting) → Passes setup ops a b m scalars
      → Setting
  behind a b m scalars x =
      record {
        numbers = shifted scalars.numbers x.count;
        before = last_from setup ops scalars.numbers scalars.before x.count a;
        quiet = x.quiet;
      }

  pub then_by : (a b c : Control) (m n most : ℕ) (scalars : Setting) → m + n ≤ most
      → Passes setup ops a b m scalars → Goes b c n → Passes setup ops a c most scalars
  then_by a b c m n most scalars l x g =
      let y = g (behind a b m scalars x) in
      let before = last_from setup ops scalars.numbers scalars.before x.count a in
      record {
        count = x.count + y.count;
        within = omega (arith, x.within, y.within);
        arrives = way_both x.count y.count scalars.numbers a
            ∙ ap (way_from setup ops (shifted scalars.numbers x.count) y.count) x.arrives
            ∙ y.arrives;
        rises = rises_both x.count y.count scalars.numbers scalars.before a x.rises
            (subst (Rises setup ops (shifted scalars.numbers x.count) before y.count)
            (sym x.arrives) y.rises);
        quiet = ap is_sending (last_both x.count y.count scalars.numbers scalars.before a)
            ∙ ap (λ z. is_sending
            (last_from setup ops (shifted scalars.numbers x.count) before y.count z)) x.arrives
            ∙ y.quiet;
      }

  pub pass_then : (a b c : Control) (m n most : ℕ) → m + n ≤ most → Goes a b m → Goes b c n
      → Goes a c most
  pass_then a b c m n most l f g scalars = then_by a b c m n most scalars l (f scalars) g

  pub pass_to : (a b c : Control) (m : ℕ) → Goes a b m → b ≡ c → Goes a c m
  pass_to a b c m f e = subst (λ z. Goes a z m) e f

  pub step_by : (c d : Control) (o : Op) (most : ℕ) (scalars : Setting) → 1 ≤ most
      → op_at ops c.pc ≡ o → is_plain o ≡ true → control_after setup o (scalars.numbers 0) c ≡ d
      → Less (key c) (key d) → Passes setup ops c d most scalars
  step_by c d o most scalars l e h f less =
      let q : control_after setup (op_at ops c.pc) (scalars.numbers 0) c ≡ d =
      ap (λ z. control_after setup z (scalars.numbers 0) c) e ∙ f in
      let x = plain_facts o h in
      record {
        count = 1;
        within = l;
        arrives = q;
        rises = (
          ap is_halt e ∙ x.0,
          subst (λ z. Less (key c) (key z)) (sym q) less,
          paired_quiet scalars.before (op_at ops c.pc) scalars.quiet (ap is_receiving e ∙ x.2),
          tt,
        );
        quiet = ap is_sending e ∙ x.1;
      }

  -- one that posts, and the one that takes
  pub pair_step : (c : Control) (pc : ℕ) (a b : Op) → op_at ops pc ≡ a → op_at ops (suc pc) ≡ b
      → Paired a b → (is_halt a ≡ false) × (is_halt b ≡ false)
      → (is_receiving a ≡ false) × (is_sending b ≡ false)
      → ((s : VarId → ℤ) → control_after setup a s (to c pc) ≡ to c (suc pc))
      → ((s : VarId → ℤ) → control_after setup b s (to c (suc pc)) ≡ to c (suc (suc pc)))
      → Goes (to c pc) (to c (suc (suc pc))) 2
  pair_step c pc a b e f pair halts quiet g h scalars =
      let q : control_after setup (op_at ops pc) (scalars.numbers 0) (to c pc) ≡ to c (suc pc) =
      ap (λ z. control_after setup z (scalars.numbers 0) (to c pc)) e ∙ g (scalars.numbers 0) in
      let r : control_after setup (op_at ops (suc pc)) (scalars.numbers 1) (to c (suc pc))
      ≡ to c (suc (suc pc)) =
      ap (λ z. control_after setup z (scalars.numbers 1) (to c (suc pc))) f
      ∙ h (scalars.numbers 1) in
      record {
        count = 2;
        within = omega arith;
        arrives = ap (λ z. control_after setup (op_at ops z.pc) (scalars.numbers 1) z) q ∙ r;
        rises = (
          ap is_halt e ∙ halts.0,
          subst (λ z. Less (key (to c pc)) (key z)) (sym q)
              (inr (refl, less_pc c.opened pc (suc pc) (omega arith))),
          paired_quiet scalars.before (op_at ops pc) scalars.quiet (ap is_receiving e ∙ quiet.0),
          subst (λ z. Rises setup ops (later scalars.numbers) (op_at ops pc) 1 z) (sym q) (
            ap is_halt f ∙ halts.1,
            subst (λ z. Less (key (to c (suc pc))) (key z)) (sym r)
                (inr (refl, less_pc c.opened (suc pc) (suc (suc pc)) (omega arith))),
            subst (λ z. Paired z (op_at ops (suc pc))) (sym e) (subst (Paired a) (sym f) pair),
            tt,
          ),
        );
        quiet = ap (λ z. is_sending (op_at ops z.pc)) q ∙ ap is_sending f ∙ quiet.1;
      }

  -- an operation that leads to the next one
  pub plain : (c : Control) (pc : ℕ) (o : Op) → op_at ops pc ≡ o → is_plain o ≡ true
      → ((s : VarId → ℤ) → control_after setup o s (to c pc) ≡ to c (suc pc))
      → Goes (to c pc) (to c (suc pc)) 1
  plain c pc o e h f scalars =
      step_by (to c pc) (to c (suc pc)) o 1 scalars (omega arith) e h (f (scalars.numbers 0))
      (inr (refl, less_pc c.opened pc (suc pc) (omega arith)))

  -- one that leads further down
  pub jump_by : (c : Control) (pc skip : ℕ) (o : Op) (most : ℕ) (scalars : Setting) → 1 ≤ most
      → 0 < skip → op_at ops pc ≡ o → is_plain o ≡ true
      → control_after setup o (scalars.numbers 0) (to c pc) ≡ to c (pc + skip)
      → Passes setup ops (to c pc) (to c (pc + skip)) most scalars
  jump_by c pc skip o most scalars l s e h f =
      step_by (to c pc) (to c (pc + skip)) o most scalars l e h f
      (inr (refl, less_pc c.opened pc (pc + skip) (omega arith)))

  -- ---- items and SYNCs

  pass_one : (c : Control) (pc : ℕ) (o : Op) → op_at ops pc ≡ o → is_plain o ≡ true
      → ((s : VarId → ℤ) → control_after setup o s (to c pc) ≡ to c (suc pc))
      → Goes (to c pc) (to c (pc + 1)) 2
  pass_one c pc o e h f =
      let p : suc pc ≡ pc + 1 = omega arith in
      pass_then (to c pc) (to c (pc + 1)) (to c (pc + 1)) 1 0 2 (omega arith)
      (pass_to (to c pc) (to c (suc pc)) (to c (pc + 1)) 1 (plain c pc o e h f) (ap (to c) p))
      (pass_stay (to c (pc + 1)) 0)

  pass_reduction : (c : Control) (pc k : ℕ) → op_at ops pc ≡ op.Give k
      → op_at ops (suc pc) ≡ op.Join k → Goes (to c pc) (to c (pc + 2)) 2
  pass_reduction c pc k a b =
      let p : suc (suc pc) ≡ pc + 2 = omega arith in
      pass_to (to c pc) (to c (suc (suc pc))) (to c (pc + 2)) 2
      (pair_step c pc (op.Give k) (op.Join k) a b refl (refl, refl) (refl, refl) (λ s. refl)
      (λ s. refl)) (ap (to c) p)

  pass_item : (c : Control) (pc k : ℕ) (kind : ItemKind) → StandsAt ops pc (item_code kind k)
      → Goes (to c pc) (to c (pc + length (item_code kind k))) 2
  pass_item c pc k Cell h = pass_one c pc (op.Sweep k) h.0 refl (λ s. refl)
  pass_item c pc k Scalar h = pass_one c pc (op.Apply k) h.0 refl (λ s. refl)
  pass_item c pc k Sum h = pass_reduction c pc k h.0 h.1.0
  pass_item c pc k Least h = pass_reduction c pc k h.0 h.1.0
  pass_item c pc k Greatest h = pass_reduction c pc k h.0 h.1.0
  pass_item c pc k Count h = pass_reduction c pc k h.0 h.1.0

  pass_sync : (c : Control) (pc : ℕ) (vars : List VarId) (path : List ℕ) (d count : ℕ)
      → StandsAt ops pc (sync_code vars path d count)
      → Goes (to c pc) (to c (pc + length (sync_code vars path d count))) (most_sync count)
  pass_sync c pc vars path d zero h = let e : pc ≡ pc + 0 = omega arith in
      pass_to (to c pc) (to c pc) (to c (pc + 0)) 0 (pass_stay (to c pc) 0) (ap (to c) e)
  pass_sync c pc vars path d (suc count) h =
      let l = length (sync_code vars path (suc d) count) in
      let e : suc (suc pc) + l ≡ pc + length (sync_code vars path d (suc count)) = omega arith in
      pass_to (to c pc) (to c (suc (suc pc) + l))
      (to c (pc + length (sync_code vars path d (suc count)))) (most_sync (suc count))
      (pass_then (to c pc) (to c (suc (suc pc))) (to c (suc (suc pc) + l)) 2 (most_sync count)
      (most_sync (suc count)) (omega arith)
      (pair_step c pc (op.Post d vars) (op.Take d vars path) h.0 h.1.0 (path, refl) (refl, refl)
      (refl, refl) (λ s. refl) (λ s. refl))
      (pass_sync c (suc (suc pc)) vars path (suc d) count h.1.1)) (ap (to c) e)

  -- ---- IF

  pass_if : (c : Control) (pc : ℕ) (v : VarId) (path : List ℕ) (body : List Op) (most : ℕ)
      → StandsAt ops pc (if_code v path body)
      → Goes (to c (suc pc)) (to c (suc pc + length body)) most
      → Goes (to c pc) (to c (pc + length (if_code v path body))) (suc most)
  pass_if c pc v path body most h inner scalars = go (scalars.numbers 0 v) refl
    where
      e : suc pc + length body ≡ pc + suc (length body)
      e = omega arith

      on : control_after setup (op.Test v path (suc (length body))) (scalars.numbers 0) (to c pc)
          ≡ to c (suc pc) → Passes setup ops (to c pc) (to c (pc + suc (length body))) (suc most)
          scalars
      on f = then_by (to c pc) (to c (suc pc)) (to c (pc + suc (length body))) 1 most (suc most)
          scalars (omega arith)
          (step_by (to c pc) (to c (suc pc)) (op.Test v path (suc (length body))) 1 scalars
          (omega arith) h.0 refl f (inr (refl, less_pc c.opened pc (suc pc) (omega arith))))
          (pass_to (to c (suc pc)) (to c (suc pc + length body)) (to c (pc + suc (length body)))
          most inner (ap (to c) e))

      go : (n : ℤ) → scalars.numbers 0 v ≡ n
          → Passes setup ops (to c pc) (to c (pc + suc (length body))) (suc most) scalars
      go (pos zero) q = jump_by c pc (suc (length body)) (op.Test v path (suc (length body)))
          (suc most) scalars (omega arith) (omega arith) h.0 refl
          (ap (λ n. by_zero n (to c (pc + suc (length body))) (to c (suc pc))) q)
      go (pos (suc n)) q = on
          (ap (λ n. by_zero n (to c (pc + suc (length body))) (to c (suc pc))) q)
      go (negsuc n) q = on (ap (λ n. by_zero n (to c (pc + suc (length body))) (to c (suc pc))) q)

  -- ---- WHILE

  abbrev pub within_loop : Control → ℕ → ℕ → Control
  within_loop c f t = record {
    pc = 0;
    iteration = c.iteration;
    opened = c.opened ++ record { place = f; turns = t } ∷ [];
  }

  last_is : (c : Control) (f t : ℕ) (b : Bool) → eqb t setup.while_limit ≡ b
      → eqb (last_turns (c.opened ++ record { place = f; turns = t } ∷ [])) setup.while_limit ≡ b
  last_is c f t b e = ap (λ n. eqb n setup.while_limit)
      (last_of c.opened (record { place = f; turns = t })) ∙ e

  out_is : (c : Control) (f t pc : ℕ) → leaves_loop (to (within_loop c f t) f) pc ≡ to c pc
  out_is c f t pc = ap (λ os. record { pc = pc; iteration = c.iteration; opened = os })
      (closed_of c.opened (record { place = f; turns = t }))

  back_is : (c : Control) (f t l : ℕ)
      → turns_back (to (within_loop c f t) (suc f + l)) (suc f + l - suc l)
      ≡ to (within_loop c f (suc t)) f
  back_is c f t l =
      let e : suc f + l - suc l ≡ f = omega arith in
      ap (λ n. record {
        pc = n;
        iteration = c.iteration;
        opened = turned_on (c.opened ++ record { place = f; turns = t } ∷ []);
      }) e
      ∙ ap (λ os. record { pc = f; iteration = c.iteration; opened = os })
      (turned_of c.opened (record { place = f; turns = t }))

  pass_turns : (c : Control) (f l : ℕ) (v : VarId) (path : List ℕ) (most : ℕ)
      → op_at ops f ≡ op.Turn v path (suc (suc l)) → op_at ops (suc f + l) ≡ op.Again (suc l)
      → ((t : ℕ) → Goes (to (within_loop c f t) (suc f)) (to (within_loop c f t) (suc f + l)) most)
      → (turns t : ℕ) → t + turns ≡ setup.while_limit
      → Goes (to (within_loop c f t) f) (to c (f + suc (suc l))) (most_turns turns most)
  pass_turns c f l v path most at_test at_end body zero t sum scalars =
      let b : eqb (last_turns (c.opened ++ record { place = f; turns = t } ∷ [])) setup.while_limit
      ≡ true = last_is c f t true (eq-eqb t setup.while_limit (omega arith)) in
      step_by (to (within_loop c f t) f) (to c (f + suc (suc l))) (op.Turn v path (suc (suc l)))
      1 scalars (omega arith) at_test refl
      (ap (λ z. cond z (leaves_loop (to (within_loop c f t) f) (f + suc (suc l)))
      (by_zero (scalars.numbers 0 v) (leaves_loop (to (within_loop c f t) f) (f + suc (suc l)))
      (next (to (within_loop c f t) f)))) b ∙ out_is c f t (f + suc (suc l)))
      (inr (
        refl,
        less_out c.opened (record { place = f; turns = t }) f (f + suc (suc l))
            (omega arith),
      ))
  pass_turns c f l v path most at_test at_end body (suc turns) t sum scalars =
      go (pass_turns c f l v path most at_test at_end body turns (suc t) (omega arith))
      (scalars.numbers 0 v) refl
    where
      b : eqb (last_turns (c.opened ++ record { place = f; turns = t } ∷ [])) setup.while_limit
          ≡ false
      b = last_is c f t false (ne_eqb t setup.while_limit (λ z. omega arith))

      leads : (n : ℤ) → scalars.numbers 0 v ≡ n
          → control_after setup (op.Turn v path (suc (suc l))) (scalars.numbers 0)
          (to (within_loop c f t) f)
          ≡ by_zero n (to c (f + suc (suc l))) (to (within_loop c f t) (suc f))
      leads n q =
          ap (λ z. cond z (leaves_loop (to (within_loop c f t) f) (f + suc (suc l)))
          (by_zero (scalars.numbers 0 v)
          (leaves_loop (to (within_loop c f t) f) (f + suc (suc l)))
          (next (to (within_loop c f t) f)))) b
          ∙ ap (λ z. by_zero (scalars.numbers 0 v) z (to (within_loop c f t) (suc f)))
          (out_is c f t (f + suc (suc l)))
          ∙ ap (λ n. by_zero n (to c (f + suc (suc l))) (to (within_loop c f t) (suc f))) q

      again : Goes (to (within_loop c f t) (suc f + l)) (to (within_loop c f (suc t)) f) 1
      again s = step_by (to (within_loop c f t) (suc f + l)) (to (within_loop c f (suc t)) f)
          (op.Again (suc l)) 1 s (omega arith) at_end refl (back_is c f t l)
          (inr (refl, less_turn c.opened f t (suc t) (suc f + l) f (omega arith)))

      on : Goes (to (within_loop c f (suc t)) f) (to c (f + suc (suc l))) (most_turns turns most)
          → control_after setup (op.Turn v path (suc (suc l))) (scalars.numbers 0)
          (to (within_loop c f t) f) ≡ to (within_loop c f t) (suc f)
          → Passes setup ops (to (within_loop c f t) f) (to c (f + suc (suc l)))
          (most_turns (suc turns) most) scalars
      on more e = then_by (to (within_loop c f t) f) (to (within_loop c f t) (suc f))
          (to c (f + suc (suc l))) 1 (most + suc (most_turns turns most))
          (most_turns (suc turns) most) scalars (omega arith)
          (step_by (to (within_loop c f t) f) (to (within_loop c f t) (suc f))
          (op.Turn v path (suc (suc l))) 1 scalars (omega arith) at_test refl e
          (inr (
            refl,
            less_pc (c.opened ++ record { place = f; turns = t } ∷ []) f (suc f)
                (omega arith),
          )))
          (pass_then (to (within_loop c f t) (suc f)) (to (within_loop c f t) (suc f + l))
          (to c (f + suc (suc l))) most (suc (most_turns turns most))
          (most + suc (most_turns turns most)) (omega arith) (body t)
          (pass_then (to (within_loop c f t) (suc f + l)) (to (within_loop c f (suc t)) f)
          (to c (f + suc (suc l))) 1 (most_turns turns most) (suc (most_turns turns most))
          (omega arith) again more))

      go : Goes (to (within_loop c f (suc t)) f) (to c (f + suc (suc l))) (most_turns turns most)
          → (n : ℤ) → scalars.numbers 0 v ≡ n
          → Passes setup ops (to (within_loop c f t) f) (to c (f + suc (suc l)))
          (most_turns (suc turns) most) scalars
      go more (pos zero) q =
          step_by (to (within_loop c f t) f) (to c (f + suc (suc l))) (op.Turn v path (suc (suc l)))
          (most_turns (suc turns) most) scalars (omega arith) at_test refl (leads (pos zero) q)
          (inr (
            refl,
            less_out c.opened (record { place = f; turns = t }) f (f + suc (suc l))
                (omega arith),
          ))
      go more (pos (suc n)) q = on more (leads (pos (suc n)) q)
      go more (negsuc n) q = on more (leads (negsuc n) q)

  pass_while : (c : Control) (pc : ℕ) (v : VarId) (path : List ℕ) (body : List Op) (most : ℕ)
      → StandsAt ops pc (while_code v path body)
      → ((t : ℕ) → StandsAt ops (suc (suc pc)) body
      → Goes (to (within_loop c (suc pc) t) (suc (suc pc)))
      (to (within_loop c (suc pc) t) (suc (suc pc) + length body)) most)
      → Goes (to c pc) (to c (pc + length (while_code v path body)))
      (suc (most_turns setup.while_limit most))
  pass_while c pc v path body most h inner =
      let within : StandsAt ops (suc (suc pc)) body =
      stands_first ops (suc (suc pc)) body (op.Again (suc (length body)) ∷ []) h.1.1 in
      let at_end : op_at ops (suc (suc pc) + length body) ≡ op.Again (suc (length body)) =
      (stands_then ops (suc (suc pc)) body (op.Again (suc (length body)) ∷ []) h.1.1).0 in
      let e : suc pc + suc (suc (length body)) ≡ pc + length (while_code v path body) =
      omega (arith, length-append body (op.Again (suc (length body)) ∷ [])) in
      pass_to (to c pc) (to c (suc pc + suc (suc (length body))))
      (to c (pc + length (while_code v path body))) (suc (most_turns setup.while_limit most))
      (pass_then (to c pc) (to (within_loop c (suc pc) 0) (suc pc))
      (to c (suc pc + suc (suc (length body)))) 1 (most_turns setup.while_limit most)
      (suc (most_turns setup.while_limit most)) (omega arith)
      (λ s. step_by (to c pc) (to (within_loop c (suc pc) 0) (suc pc)) op.Open 1 s (omega arith)
      h.0 refl refl
      (inr (
        refl,
        less_open c.opened (record { place = suc pc; turns = 0 }) pc (suc pc)
            (omega arith),
      )))
      (pass_turns c (suc pc) (length body) v path most h.1.0 at_end (λ t. inner t within)
      setup.while_limit 0 (omega arith))) (ap (to c) e)

  -- ---- trees

  mutual
    pub pass_tree : (c : Control) (pc : ℕ) (tree : Tree) → StandsAt ops pc (tree_code setup tree)
        → Goes (to c pc) (to c (pc + length (tree_code setup tree))) (most_tree setup tree)
    pass_tree c pc (Seq' shape all) h = pass_row c pc all h
    pass_tree c pc (Call k) h = pass_item c pc k (item setup k).kind h
    pass_tree c pc (Sync vars path) h = pass_sync c pc vars path 0 setup.shape.dims h
    pass_tree c pc (If' v path shape one) h =
        pass_if c pc v path (row_code setup one) (most_row setup one) h
        (pass_row c (suc pc) one h.1)
    pass_tree c pc (While' v path shape one) h =
        pass_while c pc v path (row_code setup one) (most_row setup one) h
        (λ t within. pass_row (within_loop c (suc pc) t) (suc (suc pc)) one within)

    pub pass_row : {m : _} → (c : Control) (pc : ℕ) (row : Row_of-Tree m)
        → StandsAt ops pc (row_code setup row)
        → Goes (to c pc) (to c (pc + length (row_code setup row))) (most_row setup row)
    pass_row c pc end_of-Tree h = let e : pc ≡ pc + 0 = omega arith in
        pass_to (to c pc) (to c pc) (to c (pc + 0)) 0 (pass_stay (to c pc) 0) (ap (to c) e)
    pass_row c pc (more_of-Tree tree rest) h =
        let a = tree_code setup tree in
        let b = row_code setup rest in
        let e : pc + length a + length b ≡ pc + length (a ++ b) =
        omega (arith, length-append a b) in
        pass_to (to c pc) (to c (pc + length a + length b)) (to c (pc + length (a ++ b)))
        (most_tree setup tree + most_row setup rest)
        (pass_then (to c pc) (to c (pc + length a)) (to c (pc + length a + length b))
        (most_tree setup tree) (most_row setup rest)
        (most_tree setup tree + most_row setup rest) (omega arith)
        (pass_tree c pc tree (stands_first ops pc a b h))
        (pass_row c (pc + length a) rest (stands_then ops pc a b h))) (ap (to c) e)

  -- ---- iterations

  abbrev pub in_turn : ℕ → Control
  in_turn n = record { pc = 0; iteration = n; opened = [] }

  pub pass_bins : (c : Control) (pc : ℕ) (bs : List ℕ) → StandsAt ops pc (bins_code setup bs)
      → Goes (to c pc) (to c (pc + length (bins_code setup bs))) (most_bins setup bs)
  pass_bins c pc [] h = let e : pc ≡ pc + 0 = omega arith in
      pass_to (to c pc) (to c pc) (to c (pc + 0)) 0 (pass_stay (to c pc) 0) (ap (to c) e)
  pass_bins c pc (b ∷ bs) h =
      let t = tree_code setup (bin setup b) in
      let e : pc + length t + length (bins_code setup bs) ≡ pc + length (t ++ bins_code setup bs) =
      omega (arith, length-append t (bins_code setup bs)) in
      pass_to (to c pc) (to c (pc + length t + length (bins_code setup bs)))
      (to c (pc + length (t ++ bins_code setup bs)))
      (most_tree setup (bin setup b) + most_bins setup bs)
      (pass_then (to c pc) (to c (pc + length t))
      (to c (pc + length t + length (bins_code setup bs))) (most_tree setup (bin setup b))
      (most_bins setup bs) (most_tree setup (bin setup b) + most_bins setup bs) (omega arith)
      (pass_tree c pc (bin setup b) (stands_first ops pc t (bins_code setup bs) h))
      (pass_bins c (pc + length t) bs (stands_then ops pc t (bins_code setup bs) h))) (ap (to c) e)

  pass_checkpoint : (c : Control) (pc : ℕ)
      → StandsAt ops pc (op.Due (suc (length (checkpoint_code setup))) ∷ checkpoint_code setup)
      → Goes (to c pc) (to c (pc + suc (length (checkpoint_code setup))))
      (suc (suc (most_tree setup (bin setup CHECKPOINT))))
  pass_checkpoint c pc h = go (is_due setup c.iteration) refl
    where
      t : List Op
      t = tree_code setup (bin setup CHECKPOINT)

      go : (b : Bool) → is_due setup c.iteration ≡ b
          → Goes (to c pc) (to c (pc + suc (length (checkpoint_code setup))))
          (suc (suc (most_tree setup (bin setup CHECKPOINT))))
      go false q = λ scalars.
          jump_by c pc (suc (length (checkpoint_code setup)))
          (op.Due (suc (length (checkpoint_code setup))))
          (suc (suc (most_tree setup (bin setup CHECKPOINT)))) scalars (omega arith)
          (omega arith) h.0 refl
          (ap (λ b. cond b (to c (suc pc)) (to c (pc + suc (length (checkpoint_code setup))))) q)
      go true q =
          let e : suc (suc pc + length (tree_code setup (bin setup CHECKPOINT)))
          ≡ pc + suc (length (checkpoint_code setup)) =
          omega (arith, length-append (tree_code setup (bin setup CHECKPOINT)) (op.Save ∷ []))
          in
          let m = most_tree setup (bin setup CHECKPOINT) in
          pass_to (to c pc) (to c (suc (suc pc + length (tree_code setup (bin setup CHECKPOINT)))))
          (to c (pc + suc (length (checkpoint_code setup)))) (suc (suc m))
          (pass_then (to c pc) (to c (suc pc))
          (to c (suc (suc pc + length (tree_code setup (bin setup CHECKPOINT))))) 1 (suc m)
          (suc (suc m)) (omega arith)
          (plain c pc (op.Due (suc (length (checkpoint_code setup)))) h.0 refl
          (λ s. ap (λ b. cond b (to c (suc pc))
          (to c (pc + suc (length (checkpoint_code setup))))) q))
          (pass_then (to c (suc pc))
          (to c (suc pc + length (tree_code setup (bin setup CHECKPOINT))))
          (to c (suc (suc pc + length (tree_code setup (bin setup CHECKPOINT))))) m 1 (suc m)
          (omega arith)
          (pass_tree c (suc pc) (bin setup CHECKPOINT)
          (stands_first ops (suc pc) (tree_code setup (bin setup CHECKPOINT)) (op.Save ∷ [])
          h.1))
          (plain c (suc pc + length (tree_code setup (bin setup CHECKPOINT))) op.Save
          (stands_then ops (suc pc) (tree_code setup (bin setup CHECKPOINT)) (op.Save ∷ [])
          h.1).0 refl (λ s. refl)))) (ap (to c) e)

  pub pass_before : (c : Control) (pc : ℕ) → StandsAt ops pc (before_code setup)
      → Goes (to c pc) (to c (pc + length (before_code setup))) (most_before setup)
  pass_before c pc h =
      let bs = bins_code setup (PRESTEP ∷ EVOL ∷ POSTSTEP ∷ []) in
      let k = op.Due (suc (length (checkpoint_code setup))) ∷ checkpoint_code setup in
      let m = most_bins setup (PRESTEP ∷ EVOL ∷ POSTSTEP ∷ []) in
      let n = suc (suc (most_tree setup (bin setup CHECKPOINT))) in
      let e : suc pc + length bs + suc (length (checkpoint_code setup))
      ≡ pc + suc (length (bs ++ k)) = omega (arith, length-append bs k) in
      pass_to (to c pc) (to c (suc pc + length bs + suc (length (checkpoint_code setup))))
      (to c (pc + suc (length (bs ++ k)))) (suc (m + n))
      (pass_then (to c pc) (to c (suc pc))
      (to c (suc pc + length bs + suc (length (checkpoint_code setup)))) 1 (m + n) (suc (m + n))
      (omega arith)
      (plain c pc op.Rotate h.0 refl (λ s. refl))
      (pass_then (to c (suc pc)) (to c (suc pc + length bs))
      (to c (suc pc + length bs + suc (length (checkpoint_code setup)))) m n (m + n)
      (omega arith)
      (pass_bins c (suc pc) (PRESTEP ∷ EVOL ∷ POSTSTEP ∷ []) (stands_first ops (suc pc) bs k h.1))
      (pass_checkpoint c (suc pc + length bs) (stands_then ops (suc pc) bs k h.1)))) (ap (to c) e)

  pass_pieces : (c : Control) (pc : ℕ) (vs : List VarId) → StandsAt ops pc (pieces_code vs)
      → Goes (to c pc) (to c (pc + length vs)) (length vs)
  pass_pieces c pc [] h = let e : pc ≡ pc + 0 = omega arith in
      pass_to (to c pc) (to c pc) (to c (pc + 0)) 0 (pass_stay (to c pc) 0) (ap (to c) e)
  pass_pieces c pc (v ∷ vs) h =
      let e : suc pc + length vs ≡ pc + suc (length vs) = omega arith in
      pass_to (to c pc) (to c (suc pc + length vs)) (to c (pc + suc (length vs))) (suc (length vs))
      (pass_then (to c pc) (to c (suc pc)) (to c (suc pc + length vs)) 1 (length vs)
      (suc (length vs)) (omega arith) (plain c pc (op.Piece v) h.0 refl (λ s. refl))
      (pass_pieces c (suc pc) vs h.1)) (ap (to c) e)

  pass_output : (c : Control) (pc : ℕ)
      → StandsAt ops pc (op.Written (suc (length setup.out_vars)) ∷ pieces_code setup.out_vars)
      → Goes (to c pc) (to c (pc + suc (length setup.out_vars))) (suc (length setup.out_vars))
  pass_output c pc h = go (is_written setup c.iteration) refl
    where
      go : (b : Bool) → is_written setup c.iteration ≡ b
          → Goes (to c pc) (to c (pc + suc (length setup.out_vars))) (suc (length setup.out_vars))
      go false q = λ scalars.
          jump_by c pc (suc (length setup.out_vars)) (op.Written (suc (length setup.out_vars)))
          (suc (length setup.out_vars)) scalars (omega arith) (omega arith) h.0 refl
          (ap (λ b. cond b (to c (suc pc)) (to c (pc + suc (length setup.out_vars)))) q)
      go true q =
          let e : suc pc + length setup.out_vars ≡ pc + suc (length setup.out_vars) = omega arith in
          pass_to (to c pc) (to c (suc pc + length setup.out_vars))
          (to c (pc + suc (length setup.out_vars))) (suc (length setup.out_vars))
          (pass_then (to c pc) (to c (suc pc)) (to c (suc pc + length setup.out_vars)) 1
          (length setup.out_vars) (suc (length setup.out_vars)) (omega arith)
          (plain c pc (op.Written (suc (length setup.out_vars))) h.0 refl
          (λ s. ap (λ b. cond b (to c (suc pc)) (to c (pc + suc (length setup.out_vars)))) q))
          (pass_pieces c (suc pc) setup.out_vars h.1)) (ap (to c) e)

  pieces_length : (vs : List VarId) → length (pieces_code vs) ≡ length vs
  pieces_length [] = refl
  pieces_length (v ∷ vs) = ap suc (pieces_length vs)

  pub pass_from : (c : Control) (pc : ℕ) → StandsAt ops pc (from_code setup)
      → Goes (to c pc) (to c (pc + length (from_code setup))) (most_from setup)
  pass_from c pc h =
      let t = tree_code setup (bin setup ANALYSIS) in
      let o = op.Written (suc (length setup.out_vars)) ∷ pieces_code setup.out_vars in
      let e : pc + length t + suc (length setup.out_vars) ≡ pc + length (t ++ o) =
      omega (arith, length-append t o, pieces_length setup.out_vars) in
      pass_to (to c pc) (to c (pc + length t + suc (length setup.out_vars)))
      (to c (pc + length (t ++ o)))
      (most_tree setup (bin setup ANALYSIS) + suc (length setup.out_vars))
      (pass_then (to c pc) (to c (pc + length t))
      (to c (pc + length t + suc (length setup.out_vars)))
      (most_tree setup (bin setup ANALYSIS)) (suc (length setup.out_vars))
      (most_tree setup (bin setup ANALYSIS) + suc (length setup.out_vars)) (omega arith)
      (pass_tree c pc (bin setup ANALYSIS) (stands_first ops pc t o h))
      (pass_output c (pc + length t) (stands_then ops pc t o h))) (ap (to c) e)

  -- from the jump back, with so many iterations to come
  module _ (loop stop most_end : ℕ) (h : StandsAt ops loop (loop_code setup))
      (ending : Goes (to (in_turn setup.itlast)
      (suc (loop + length (before_code setup) + length (from_code setup))))
      (to (in_turn setup.itlast) stop) most_end) where
    abbrev back : ℕ
    back = loop + length (before_code setup) + length (from_code setup)

    abbrev size : ℕ
    size = length (before_code setup) + length (from_code setup)

    abbrev most_here : ℕ → ℕ
    most_here zero = suc most_end
    most_here (suc count) = suc (most_before setup + (most_from setup + most_here count))

    pub most_is : most_end ≡ most_bins setup (TERMINATE ∷ SHUTDOWN ∷ []) → (count : ℕ)
        → most_here count ≡ most_rest setup count
    most_is e zero = ap suc e
    most_is e (suc count) =
        ap (λ n. suc (most_before setup + (most_from setup + n))) (most_is e count)

    at_before : StandsAt ops loop (before_code setup)
    at_before = stands_first ops loop (before_code setup)
        (from_code setup ++ op.Next (length (before_code setup) + length (from_code setup)) ∷ []) h

    at_rest : StandsAt ops (loop + length (before_code setup))
        (from_code setup ++ op.Next (length (before_code setup) + length (from_code setup)) ∷ [])
    at_rest = stands_then ops loop (before_code setup)
        (from_code setup ++ op.Next (length (before_code setup) + length (from_code setup)) ∷ []) h

    pub at_from : StandsAt ops (loop + length (before_code setup)) (from_code setup)
    at_from = stands_first ops (loop + length (before_code setup)) (from_code setup)
        (op.Next (length (before_code setup) + length (from_code setup)) ∷ []) at_rest

    at_next : op_at ops back ≡ op.Next size
    at_next =
        (stands_then ops (loop + length (before_code setup)) (from_code setup)
        (op.Next (length (before_code setup) + length (from_code setup)) ∷ []) at_rest).0

    pub pass_rest : (count n : ℕ) → n + count ≡ setup.itlast
        → Goes (to (in_turn n) back) (to (in_turn setup.itlast) stop) (most_here count)
    pass_rest zero n sum =
        let z : n ≡ setup.itlast = omega arith in
        pass_then (to (in_turn n) back) (to (in_turn setup.itlast) (suc back))
        (to (in_turn setup.itlast) stop) 1 most_end (suc most_end) (omega arith)
        (pass_to (to (in_turn n) back) (to (in_turn n) (suc back))
        (to (in_turn setup.itlast) (suc back)) 1
        (plain (in_turn n) back (op.Next size) at_next refl
        (λ s. ap (λ b. cond b (to (in_turn (suc n)) (back - size)) (to (in_turn n) (suc back)))
        (le-ltb n setup.itlast (omega arith)))) (ap (λ k. to (in_turn k) (suc back)) z))
        ending
    pass_rest (suc count) n sum =
        let e : loop + length (before_code setup)
        + length (from_code setup) - (length (before_code setup) + length (from_code setup))
        ≡ loop = omega arith in
        let m = most_here count in
        pass_then (to (in_turn n) back) (to (in_turn (suc n)) loop) (to (in_turn setup.itlast) stop)
        1 (most_before setup + (most_from setup + m))
        (suc (most_before setup + (most_from setup + m))) (omega arith)
        (λ s. step_by (to (in_turn n) back) (to (in_turn (suc n)) loop) (op.Next size) 1 s
        (omega arith) at_next refl
        (ap (λ b. cond b (to (in_turn (suc n)) (back - size)) (to (in_turn n) (suc back)))
        (lt-ltb n setup.itlast (omega arith)) ∙ ap (to (in_turn (suc n))) e)
        (inl (omega arith)))
        (pass_then (to (in_turn (suc n)) loop)
        (to (in_turn (suc n)) (loop + length (before_code setup)))
        (to (in_turn setup.itlast) stop) (most_before setup) (most_from setup + m)
        (most_before setup + (most_from setup + m)) (omega arith)
        (pass_before (in_turn (suc n)) loop at_before)
        (pass_then (to (in_turn (suc n)) (loop + length (before_code setup)))
        (to (in_turn (suc n)) back) (to (in_turn setup.itlast) stop) (most_from setup) m
        (most_from setup + m) (omega arith)
        (pass_from (in_turn (suc n)) (loop + length (before_code setup)) at_from)
        (pass_rest count (suc n) (omega arith))))
