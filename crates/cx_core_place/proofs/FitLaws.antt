-- Whatever the scalars are, each place within a tree fits.
use Rattle.std.proofs.Common.{◌≡◌, ℕ, zero, suc, ◌+◌, ◌-◌, ◌≤◌, ◌<◌, ◌⊎◌, inl, inr, Bool, true, false, eqb, ℤ, pos, negsuc, List, [], ◌∷◌, ◌++◌, length, refl, sym, ap, ◌∙◌, subst, arith, length-append, eq-eqb, cond}
use Rattle.std.specs.Prelude.{All}
use Rattle.std.proofs.lemmas.Bool.{ne_eqb}
use Rattle.std.proofs.lemmas.List.Elements.{All-append}
use Rattle.cx_plan.specs.declared.variable.VarId.{VarId}
use Rattle.cx_plan.specs.declared.item.ItemKind.{ItemKind}
use Rattle.cx_plan.specs.declared.item.ItemKind.TheVariants.{Cell, Scalar, Sum, Least, Greatest, Count}
use Rattle.cx_plan.specs.declared.tree.Tree.{Tree, Seq', Call, Sync, If', While', Row_of-Tree, end_of-Tree, more_of-Tree}
use Rattle.cx_plan.specs.Setups.{Setup}
use Rattle.cx_plan.specs.Lookups.{item}
use Rattle.cx_plan.specs.Sizes.{depth, row_depth}
use Rattle.cx_flat.specs.declared.op.Op.{Op}
use Rattle.cx_flat.specs.declared.op.Op.TheVariants as op
use Rattle.cx_model.specs.Courses.{by_zero}
use Rattle.cx_flat.specs.Code.{op_at, item_code, sync_code, if_code, while_code, tree_code, row_code, pieces_code}
use Rattle.cx_flat.specs.Flats.{Opened, Control, last_turns, turned_on, to, next, leaves_loop, turns_back, control_after}
use Rattle.cx_flat.proofs.RunLaws.{StandsAt, stands_first, stands_then, last_of, turned_of, closed_of}
use Rattle.cx_core_place.specs.Steps.{Fits, most_open}

-- ---- room for more open WHILEs

pub record Room (setup : Setup) (c : Control) (more : ℕ) : Type 0 where
  pub iteration : c.iteration ≤ setup.itlast
  pub depth : length c.opened + more ≤ most_open
  pub turns : All (λ (o : Opened). o.turns ≤ setup.while_limit) c.opened

all_one : (P : Opened → Type 0) (o : Opened) → P o → All P (o ∷ [])
all_one P o h zero d l = h
all_one P o h (suc k) d l = absurd (omega arith)

-- within a WHILE whose test stands at a place, after so many turns
abbrev pub in_loop : Control → ℕ → ℕ → Control
in_loop c f t = record {
  pc = 0;
  iteration = c.iteration;
  opened = c.opened ++ record { place = f; turns = t } ∷ [];
}

inside : (setup : Setup) (c : Control) (more f t : ℕ) → Room setup c more → 1 ≤ more
    → t ≤ setup.while_limit → Room setup (in_loop c f t) (more - 1)
inside setup c more f t r some l =
    let o : Opened = record { place = f; turns = t } in
    let e : length (c.opened ++ o ∷ []) ≡ length c.opened + 1 = length-append c.opened (o ∷ []) in
    let d = r.depth in
    record {
      iteration = r.iteration;
      depth = omega (arith, d, e, some);
      turns = All-append (λ (o : Opened). o.turns ≤ setup.while_limit) c.opened (o ∷ []) r.turns
          (all_one (λ (o : Opened). o.turns ≤ setup.while_limit) o l);
    }

pub zero_cases : (n : ℤ) (c d : Control) → (by_zero n c d ≡ c) ⊎ (by_zero n c d ≡ d)
zero_cases (pos zero) c d = inl refl
zero_cases (pos (suc n)) c d = inr refl
zero_cases (negsuc n) c d = inr refl

pub bool_cases : (b : Bool) (c d : Control) → (cond b d c ≡ c) ⊎ (cond b d c ≡ d)
bool_cases true c d = inr refl
bool_cases false c d = inl refl

module _ (setup : Setup) (ops : List Op) where
  -- up to so many operations on each place fits
  abbrev pub Safe : ℕ → Control → Type 0
  Safe zero c = Fits setup ops c
  Safe (suc n) c = Fits setup ops c
      × ((s : VarId → ℤ) → Safe n (control_after setup (op_at ops c.pc) s c))

  pub fewer : (n : ℕ) (c : Control) → Safe (suc n) c → Safe n c
  fewer zero c x = x.0
  fewer (suc n) c x = (x.0, λ s. fewer n (control_after setup (op_at ops c.pc) s c) (x.1 s))

  -- what is safe from one place on is so from another one on
  abbrev pub Leads : Control → Control → Type 0
  Leads c d = (n : ℕ) → Safe n d → Safe n c

  pub leads_then : (a b c : Control) → Leads a b → Leads b c → Leads a c
  leads_then a b c f g n x = f n (g n x)

  pub leads_to : (a b c : Control) → Leads a b → b ≡ c → Leads a c
  leads_to a b c f e = subst (Leads a) e f

  -- an operation that leads to either of two places
  pub either : (c d e : Control) (o : Op) → Fits setup ops c → op_at ops c.pc ≡ o
      → ((s : VarId → ℤ) → (control_after setup o s c ≡ d) ⊎ (control_after setup o s c ≡ e))
      → Leads e d → Leads c d
  either c d e o f is h l zero x = f
  either c d e o f is h l (suc n) x =
      (f, λ s. subst (λ z. Safe n (control_after setup z s c)) (sym is) (go s (h s)))
    where
      go : (s : VarId → ℤ) → (control_after setup o s c ≡ d) ⊎ (control_after setup o s c ≡ e)
          → Safe n (control_after setup o s c)
      go s (inl p) = subst (Safe n) (sym p) (fewer n d x)
      go s (inr p) = subst (Safe n) (sym p) (l n (fewer n d x))

  pub step : (c d : Control) (o : Op) → Fits setup ops c → op_at ops c.pc ≡ o
      → ((s : VarId → ℤ) → control_after setup o s c ≡ d) → Leads c d
  step c d o f is h = either c d d o f is (λ s. inl (h s)) (λ n x. x)

  pub fits_at : (c : Control) (more pc : ℕ) → Room setup c more → pc < length ops
      → Fits setup ops (to c pc)
  fits_at c more pc r l = let d = r.depth in
      record { pc = l; iteration = r.iteration; depth = omega (arith, d); turns = r.turns }

  -- the last operation
  pub halted : (c : Control) → Fits setup ops c → op_at ops c.pc ≡ op.Halt → (n : ℕ) → Safe n c
  halted c f is zero = f
  halted c f is (suc n) = (
    f,
    λ s. subst (λ z. Safe n (control_after setup z s c)) (sym is) (halted c f is n),
  )

  -- ---- operations that lead to the next one

  abbrev pub Straight : List Op → Type 0
  Straight [] = Unit {0}
  Straight (o ∷ os) = ((s : VarId → ℤ) (c : Control) → control_after setup o s c ≡ next c)
      × Straight os

  pub leads_straight : (c : Control) (more pc : ℕ) (os : List Op) → Room setup c more
      → StandsAt ops pc os → Straight os → pc + length os ≤ length ops
      → Leads (to c pc) (to c (pc + length os))
  leads_straight c more pc [] r h all l = let e : pc ≡ pc + 0 = omega arith in
      leads_to (to c pc) (to c pc) (to c (pc + 0)) (λ n x. x) (ap (to c) e)
  leads_straight c more pc (o ∷ os) r h all l =
      let e : suc pc + length os ≡ pc + suc (length os) = omega arith in
      leads_to (to c pc) (to c (suc pc + length os)) (to c (pc + suc (length os)))
      (leads_then (to c pc) (to c (suc pc)) (to c (suc pc + length os))
      (step (to c pc) (to c (suc pc)) o (fits_at c more pc r (omega arith)) h.0
      (λ s. all.0 s (to c pc)))
      (leads_straight c more (suc pc) os r h.1 all.1 (omega arith))) (ap (to c) e)

  item_straight : (kind : ItemKind) (k : ℕ) → Straight (item_code kind k)
  item_straight Cell k = (λ s c. refl, tt)
  item_straight Scalar k = (λ s c. refl, tt)
  item_straight Sum k = (λ s c. refl, (λ s c. refl, tt))
  item_straight Least k = (λ s c. refl, (λ s c. refl, tt))
  item_straight Greatest k = (λ s c. refl, (λ s c. refl, tt))
  item_straight Count k = (λ s c. refl, (λ s c. refl, tt))

  sync_straight : (vars : List VarId) (path : List ℕ) (d count : ℕ)
      → Straight (sync_code vars path d count)
  sync_straight vars path d zero = tt
  sync_straight vars path d (suc count) =
      (λ s c. refl, (λ s c. refl, sync_straight vars path (suc d) count))

  pub pieces_straight : (vars : List VarId) → Straight (pieces_code vars)
  pieces_straight [] = tt
  pieces_straight (v ∷ vs) = (λ s c. refl, pieces_straight vs)

  -- ---- IF

  leads_if : (c : Control) (more pc : ℕ) (v : VarId) (path : List ℕ) (body : List Op)
      → Room setup c more → StandsAt ops pc (if_code v path body)
      → pc + length (if_code v path body) < length ops
      → Leads (to c (suc pc)) (to c (suc pc + length body))
      → Leads (to c pc) (to c (pc + length (if_code v path body)))
  leads_if c more pc v path body r h l inner =
      let e : suc pc + length body ≡ pc + suc (length body) = omega arith in
      either (to c pc) (to c (pc + suc (length body))) (to c (suc pc))
      (op.Test v path (suc (length body))) (fits_at c more pc r (omega arith)) h.0
      (λ s. zero_cases (s v) (to c (pc + suc (length body))) (to c (suc pc)))
      (leads_to (to c (suc pc)) (to c (suc pc + length body)) (to c (pc + suc (length body))) inner
      (ap (to c) e))

  -- ---- WHILE

  last_is : (c : Control) (f t : ℕ) (b : Bool) → eqb t setup.while_limit ≡ b
      → eqb (last_turns (c.opened ++ record { place = f; turns = t } ∷ [])) setup.while_limit ≡ b
  last_is c f t b e = ap (λ n. eqb n setup.while_limit)
      (last_of c.opened (record { place = f; turns = t })) ∙ e

  out_is : (c : Control) (f t pc : ℕ) → leaves_loop (to (in_loop c f t) f) pc ≡ to c pc
  out_is c f t pc = ap (λ os. record { pc = pc; iteration = c.iteration; opened = os })
      (closed_of c.opened (record { place = f; turns = t }))

  back_is : (c : Control) (f t l : ℕ)
      → turns_back (to (in_loop c f t) (suc f + l)) (suc f + l - suc l) ≡ to (in_loop c f (suc t)) f
  back_is c f t l =
      let e : suc f + l - suc l ≡ f = omega arith in
      ap (λ n. record {
        pc = n;
        iteration = c.iteration;
        opened = turned_on (c.opened ++ record { place = f; turns = t } ∷ []);
      }) e
      ∙ ap (λ os. record { pc = f; iteration = c.iteration; opened = os })
      (turned_of c.opened (record { place = f; turns = t }))

  -- from the test, with so many turns to come
  module _ (c : Control) (more f l : ℕ) (v : VarId) (path : List ℕ) (r : Room setup c more)
      (some : 1 ≤ more)
      (at_test : op_at ops f ≡ op.Turn v path (suc (suc l)))
      (at_end : op_at ops (suc f + l) ≡ op.Again (suc l)) (few : suc f + l < length ops)
      (body : (t : ℕ) → t ≤ setup.while_limit
      → Leads (to (in_loop c f t) (suc f)) (to (in_loop c f t) (suc f + l))) where
    abbrev turn : Op
    turn = op.Turn v path (suc (suc l))

    abbrev out : Control
    out = to c (f + suc (suc l))

    at_turn : (t pc : ℕ) → t ≤ setup.while_limit → pc < length ops
        → Fits setup ops (to (in_loop c f t) pc)
    at_turn t pc k b = fits_at (in_loop c f t) (more - 1) pc (inside setup c more f t r some k) b

    leads : (t : ℕ) → eqb t setup.while_limit ≡ false → (s : VarId → ℤ)
        → (control_after setup turn s (to (in_loop c f t) f) ≡ out)
        ⊎ (control_after setup turn s (to (in_loop c f t) f) ≡ to (in_loop c f t) (suc f))
    leads t b s =
        let e : control_after setup turn s (to (in_loop c f t) f)
        ≡ by_zero (s v) out (to (in_loop c f t) (suc f)) =
        ap (λ z. cond z (leaves_loop (to (in_loop c f t) f) (f + suc (suc l)))
        (by_zero (s v) (leaves_loop (to (in_loop c f t) f) (f + suc (suc l)))
        (next (to (in_loop c f t) f)))) (last_is c f t false b)
        ∙ ap (λ z. by_zero (s v) z (to (in_loop c f t) (suc f))) (out_is c f t (f + suc (suc l))) in
        elim (zero_cases (s v) out (to (in_loop c f t) (suc f))) [
          | inl p ↦ inl (e ∙ p)
          | inr p ↦ inr (e ∙ p)
        ]

    pub leads_turns : (turns t : ℕ) → t + turns ≡ setup.while_limit
        → Leads (to (in_loop c f t) f) out
    leads_turns zero t sum =
        let b : eqb t setup.while_limit ≡ true = eq-eqb t setup.while_limit (omega arith) in
        step (to (in_loop c f t) f) out turn (at_turn t f (omega arith) (omega (arith, few)))
        at_test
        (λ s. ap (λ z. cond z (leaves_loop (to (in_loop c f t) f) (f + suc (suc l)))
        (by_zero (s v) (leaves_loop (to (in_loop c f t) f) (f + suc (suc l)))
        (next (to (in_loop c f t) f)))) (last_is c f t true b) ∙ out_is c f t (f + suc (suc l)))
    leads_turns (suc turns) t sum =
        either (to (in_loop c f t) f) out (to (in_loop c f t) (suc f)) turn
        (at_turn t f (omega arith) (omega (arith, few))) at_test
        (leads t (ne_eqb t setup.while_limit (λ z. omega arith)))
        (leads_then (to (in_loop c f t) (suc f)) (to (in_loop c f t) (suc f + l)) out
        (body t (omega arith))
        (leads_then (to (in_loop c f t) (suc f + l)) (to (in_loop c f (suc t)) f) out
        (step (to (in_loop c f t) (suc f + l)) (to (in_loop c f (suc t)) f) (op.Again (suc l))
        (at_turn t (suc f + l) (omega arith) few) at_end (λ s. back_is c f t l))
        (leads_turns turns (suc t) (omega arith))))

  leads_while : (c : Control) (more pc : ℕ) (v : VarId) (path : List ℕ) (body : List Op)
      → Room setup c more → 1 ≤ more → StandsAt ops pc (while_code v path body)
      → pc + length (while_code v path body) < length ops
      → ((t : ℕ) → t ≤ setup.while_limit → StandsAt ops (suc (suc pc)) body
      → Leads (to (in_loop c (suc pc) t) (suc (suc pc)))
      (to (in_loop c (suc pc) t) (suc (suc pc) + length body)))
      → Leads (to c pc) (to c (pc + length (while_code v path body)))
  leads_while c more pc v path body r some h l inner =
      let within : StandsAt ops (suc (suc pc)) body =
      stands_first ops (suc (suc pc)) body (op.Again (suc (length body)) ∷ []) h.1.1 in
      let at_end : op_at ops (suc (suc pc) + length body) ≡ op.Again (suc (length body)) =
      (stands_then ops (suc (suc pc)) body (op.Again (suc (length body)) ∷ []) h.1.1).0 in
      let size : length (body ++ op.Again (suc (length body)) ∷ []) ≡ length body + 1 =
      length-append body (op.Again (suc (length body)) ∷ []) in
      let e : suc pc + suc (suc (length body)) ≡ pc + length (while_code v path body) =
      omega (arith, size) in
      leads_to (to c pc) (to c (suc pc + suc (suc (length body))))
      (to c (pc + length (while_code v path body)))
      (leads_then (to c pc) (to (in_loop c (suc pc) 0) (suc pc))
      (to c (suc pc + suc (suc (length body))))
      (step (to c pc) (to (in_loop c (suc pc) 0) (suc pc)) op.Open
      (fits_at c more pc r (omega arith)) h.0 (λ s. refl))
      (leads_turns c more (suc pc) (length body) v path r some h.1.0 at_end (omega (arith, size, l))
      (λ t k. inner t k within) setup.while_limit 0 (omega arith))) (ap (to c) e)

  -- ---- trees

  mutual
    pub leads_tree : (c : Control) (more pc : ℕ) (tree : Tree) → Room setup c more
        → depth tree ≤ more → StandsAt ops pc (tree_code setup tree)
        → pc + length (tree_code setup tree) < length ops
        → Leads (to c pc) (to c (pc + length (tree_code setup tree)))
    leads_tree c more pc (Seq' shape all) r deep h l = leads_row c more pc all r (omega arith) h l
    leads_tree c more pc (Call k) r deep h l =
        leads_straight c more pc (item_code (item setup k).kind k) r h
        (item_straight (item setup k).kind k) (omega arith)
    leads_tree c more pc (Sync vars path) r deep h l =
        leads_straight c more pc (sync_code vars path 0 setup.shape.dims) r h
        (sync_straight vars path 0 setup.shape.dims) (omega arith)
    leads_tree c more pc (If' v path shape one) r deep h l =
        leads_if c more pc v path (row_code setup one) r h l
        (leads_row c more (suc pc) one r (omega arith) h.1 (omega arith))
    leads_tree c more pc (While' v path shape one) r deep h l =
        let size : length (row_code setup one ++ op.Again (suc (length (row_code setup one))) ∷ [])
        ≡ length (row_code setup one) + 1 =
        length-append (row_code setup one) (op.Again (suc (length (row_code setup one))) ∷ [])
        in
        leads_while c more pc v path (row_code setup one) r (omega arith) h l
        (λ t k within. leads_row (in_loop c (suc pc) t) (more - 1) (suc (suc pc)) one
        (inside setup c more (suc pc) t r (omega (arith, deep)) k) (omega (arith, deep)) within
        (omega (arith, size, l)))

    pub leads_row : {m : _} → (c : Control) (more pc : ℕ) (row : Row_of-Tree m) → Room setup c more
        → row_depth row ≤ more → StandsAt ops pc (row_code setup row)
        → pc + length (row_code setup row) < length ops
        → Leads (to c pc) (to c (pc + length (row_code setup row)))
    leads_row c more pc end_of-Tree r deep h l = let e : pc ≡ pc + 0 = omega arith in
        leads_to (to c pc) (to c pc) (to c (pc + 0)) (λ n x. x) (ap (to c) e)
    leads_row c more pc (more_of-Tree tree rest) r deep h l =
        let a = tree_code setup tree in
        let b = row_code setup rest in
        let size : length (a ++ b) ≡ length a + length b = length-append a b in
        let e : pc + length a + length b ≡ pc + length (a ++ b) = omega (arith, size) in
        leads_to (to c pc) (to c (pc + length a + length b)) (to c (pc + length (a ++ b)))
        (leads_then (to c pc) (to c (pc + length a)) (to c (pc + length a + length b))
        (leads_tree c more pc tree r (omega arith) (stands_first ops pc a b h)
        (omega (arith, size, l)))
        (leads_row c more (pc + length a) rest r (omega arith) (stands_then ops pc a b h)
        (omega (arith, size, l)))) (ap (to c) e)
