-- A part's number for a reduction, and the number of all parts in its scalar.
use Rattle.std.proofs.Common.{◌≡◌, ℕ, ◌<◌, arith, Bool, true, false, not, ◌&&◌, cond, refl, sym, ap, ◌∙◌, subst, ℤ, int_le, List, [], ◌∷◌, length, get_or, Some, None, Ok, Err}
use Rattle.std.specs.Prelude.{Contains}
use Rattle.std.specs.List.{list_all}
use Rattle.std.proofs.lemmas.Bool.{and_parts, and_from}
use Rattle.std.proofs.lemmas.Int.{ints}
use Rattle.cx_grid.specs.declared.boxes.Box3.{Box3}
use Rattle.cx_grid.specs.Boxes.{numbers_in}
use Rattle.cx_plan.specs.declared.item.ItemKind.{ItemKind}
use Rattle.cx_plan.specs.declared.item.ItemKind.TheVariants.{Cell, Scalar, Sum, Least, Greatest, Count}
use Rattle.cx_plan.specs.declared.item.Item.{Item}
use Rattle.cx_plan.specs.declared.item.Region.TheVariants.{Everywhere}
use Rattle.cx_plan.specs.declared.item.Touch.{Touch}
use Rattle.cx_plan.specs.declared.job.Job.{Job}
use Rattle.cx_plan.specs.declared.variable.VarInfo.{VarInfo}
use Rattle.cx_plan.specs.Setups.{Setup, setup_of}
use Rattle.cx_plan.specs.Lookups.{item, is_scalar, variable}
use Rattle.cx_plan.specs.Regions.{is_one, has_shape, kinds_agree, reduces, run_items}
use Rattle.cx_plan.specs.Types.{least, greatest}
use Rattle.cx_rule.specs.States.{State, level_of, scalar_of, with_scalar}
use Rattle.cx_rule.specs.Sweeps.{fits, if_fit, all_fit, scalar_turn}
use Rattle.cx_rule.specs.declared.routine.Overflow.{Overflow}
use Rattle.cx_model.specs.Turns.{reduced}
use Rattle.cx_cut.specs.Cuts.{Parts, owned, local}
use Rattle.cx_field.specs.Patches.{PatchValue, IsGridLevel, IsScalar, setup_in, number_at}
use Rattle.cx_field.proofs.SweptLaws.{declared}
use Rattle.cx_reduce.specs.Partials.{IsReduction, Reduced, reduced_over, Finishes}
use Rattle.cx_flat.specs.declared.op.Op.TheVariants.{Give}
use Rattle.law_parts.specs.Runs.{Run, cut_of}
use Rattle.law_parts.specs.Moves.{number_by, held_values}
use Rattle.law_parts.specs.Holding.{local_values, number_at as number_in_box, partial, first_numbers, join_turn}
use Rattle.law_parts.specs.Operations.{is_reduction, NamesWell}
use Rattle.law_parts.proofs.ListLaws.{not_true}
use Rattle.cx_core_part.specs.Jobs.{IsChecked, IsRunOf}
use Rattle.cx_core_part.specs.Frames.{IsPatchFor, IsPatchOf}
use Rattle.cx_core_part.specs.Reductions.{Joins}
use Rattle.cx_core_part.proofs.FrameLaws.{same_patch, shaped, reads_stored, writes_stored}

-- ---- the item of a reduction

pub reduction_is : (kind : ItemKind) → is_reduction kind ≡ true → IsReduction kind
reduction_is Cell e = absurd cc
reduction_is Scalar e = absurd cc
reduction_is Sum e = tt
reduction_is Least e = tt
reduction_is Greatest e = tt
reduction_is Count e = tt

reduces_by : (setup : Setup) (x : Item) (kind : ItemKind) → is_reduction kind ≡ true
    → kinds_agree setup x kind ≡ true → reduces setup x ≡ true
reduces_by setup x Cell e h = absurd cc
reduces_by setup x Scalar e h = absurd cc
reduces_by setup x Sum e h = h
reduces_by setup x Least e h = h
reduces_by setup x Greatest e h = h
reduces_by setup x Count e h = h

only_one : (xs : List Touch) (d : Touch) → is_one xs ≡ true → (xs ≡ get_or xs 0 d ∷ [])
only_one [] d e = absurd cc
only_one (x ∷ []) d e = refl
only_one (x ∷ y ∷ xs) d e = absurd cc

-- one read of a grid variable, and one scalar written
pub record Reduces (setup : Setup) (x : Item) (d : Touch) : Type 0 where
  pub read : x.reads ≡ get_or x.reads 0 d ∷ []
  pub grid : is_scalar setup (get_or x.reads 0 d).var ≡ false
  pub write : x.writes ≡ get_or x.writes 0 d ∷ []
  pub scalar : is_scalar setup (get_or x.writes 0 d).var ≡ true

pub reduces_one : (setup : Setup) (x : Item) (d : Touch) → is_reduction x.kind ≡ true
    → has_shape setup x ≡ true → Reduces setup x d
reduces_one setup x d e h =
    let all = reduces_by setup x x.kind e (declared setup x h).kinds in
    let a = and_parts (is_one x.reads && is_one x.writes
    && list_all (λ (r : Touch). not (is_scalar setup r.var)) x.reads)
    (list_all (λ (w : Touch). is_scalar setup w.var) x.writes) all in
    let b = and_parts (is_one x.reads && is_one x.writes)
    (list_all (λ (r : Touch). not (is_scalar setup r.var)) x.reads) a.0 in
    let c = and_parts (is_one x.reads) (is_one x.writes) b.0 in
    let read = only_one x.reads d c.0 in
    let write = only_one x.writes d c.1 in
    record {
      read = read;
      grid = not_true (is_scalar setup (get_or x.reads 0 d).var)
          (and_parts (not (is_scalar setup (get_or x.reads 0 d).var)) true
          (subst (λ rs. list_all (λ (r : Touch). not (is_scalar setup r.var)) rs ≡ true)
          read b.1)).0;
      write = write;
      scalar =
          (and_parts (is_scalar setup (get_or x.writes 0 d).var) true
          (subst (λ ws. list_all (λ (w : Touch). is_scalar setup w.var) ws ≡ true) write a.1)).0;
    }

pub some_touch : (xs : List Touch) (t : Touch) → xs ≡ t ∷ [] → 0 < length xs
some_touch xs t e = let n = ap length e in omega (arith, n)

-- ---- what a part gives

pub give_is : (setup : Setup) (cut : Parts) (k : ℕ) (x : Item) (p : PatchValue) (t : Touch)
    → IsPatchOf setup cut k p → x.reads ≡ t ∷ [] → is_scalar setup t.var ≡ false
    → reduced x.kind (numbers_in p.owned (number_at p t.var t.level))
    ≡ partial (local_values setup (local cut k) p.numbers) (owned cut k) x
give_is setup cut k x p t patch reads grid =
    ap (λ (b : Box3). reduced x.kind (numbers_in b (number_at p t.var t.level))) patch.owned_is
    ∙ ap (λ (b : Box3). reduced x.kind
    (numbers_in (owned cut k) (λ y. number_in_box b (level_of p.numbers t.var t.level) y)))
    patch.local_is
    ∙ sym
    (ap (λ c. reduced x.kind
    (numbers_in (owned cut k)
    (λ y. cond c (scalar_of p.numbers t.var)
    (number_in_box (local cut k) (level_of p.numbers t.var t.level) y)))) grid)
    ∙ sym
    (ap (λ rs. reduced x.kind
    (first_numbers (local_values setup (local cut k) p.numbers) (owned cut k) rs)) reads)

-- ---- the number of all parts

fits_is : (setup : Setup) (w : Touch) (n : ℤ)
    → all_fit setup (w ∷ []) (n ∷ [])
    ≡ (int_le (least (variable setup w.var).ctype) n
    && int_le n (greatest (variable setup w.var).ctype))
fits_is setup w n = go (fits (variable setup w.var).ctype n)
  where
    go : (b : Bool) → (b && true) ≡ b
    go true = refl
    go false = refl

join_by : (setup : Setup) (x : Item) (w : Touch) (state : State) (n : ℤ) (b : Bool)
    → x.writes ≡ w ∷ []
    → (int_le (least (variable setup w.var).ctype) n
    && int_le n (greatest (variable setup w.var).ctype)) ≡ b
    → join_turn setup x state n ≡ cond b (Some (with_scalar state w.var n)) None
join_by setup x w state n b writes e =
    ap (λ ws. scalar_turn (record x { writes = ws }) state (if_fit setup ws (Some (n ∷ [])))) writes
    ∙ ap (λ f. scalar_turn (record x { writes = w ∷ [] }) state (cond f (Some (n ∷ [])) None))
    (fits_is setup w n ∙ e)
    ∙ go b
  where
    go : (f : Bool) → scalar_turn (record x { writes = w ∷ [] }) state (cond f (Some (n ∷ [])) None)
        ≡ cond f (Some (with_scalar state w.var n)) None
    go true = refl
    go false = refl

-- a number in the range of the scalar goes to it
pub join_ok : (setup : Setup) (x : Item) (w : Touch) (old new : State) (number n : ℤ)
    → x.writes ≡ w ∷ []
    → Finishes number (least (variable setup w.var).ctype) (greatest (variable setup w.var).ctype)
    (Ok n) → new ≡ with_scalar old w.var n
    → join_turn setup x old number ≡ Some new
join_ok setup x w old new number n writes h is =
    let low : int_le (least (variable setup w.var).ctype) number ≡ true =
    grind (arith, ints, h.1) in
    let high : int_le number (greatest (variable setup w.var).ctype) ≡ true =
    grind (arith, ints, h.2) in
    join_by setup x w old number true writes
    (and_from (int_le (least (variable setup w.var).ctype) number)
    (int_le number (greatest (variable setup w.var).ctype)) low high)
    ∙ ap Some (ap (with_scalar old w.var) (sym h.0) ∙ sym is)

-- any other one is Overflow
pub join_err : (setup : Setup) (x : Item) (w : Touch) (old : State) (number : ℤ) (e : Overflow)
    → x.writes ≡ w ∷ []
    → Finishes number (least (variable setup w.var).ctype) (greatest (variable setup w.var).ctype)
    (Err e)
    → Joins setup x number old old (Err e)
join_err setup x w old number e writes h = (join_by setup x w old number false writes h, refl)

-- ---- in the code's terms

no_touch : Touch
no_touch = record { var = record { 0 = 0 }; level = 0; region = Everywhere; reach = 0 }

some_read_of : (setup : Setup) (x : Item) (d : Touch) → is_reduction x.kind ≡ true
    → has_shape setup x ≡ true → 0 < length x.reads
some_read_of setup x d e h =
    some_touch x.reads (get_or x.reads 0 d) (reduces_one setup x d e h).read

some_write_of : (setup : Setup) (x : Item) (d : Touch) → is_reduction x.kind ≡ true
    → has_shape setup x ≡ true → 0 < length x.writes
some_write_of setup x d e h =
    some_touch x.writes (get_or x.writes 0 d) (reduces_one setup x d e h).write

pub some_read : (setup : Setup) (i : ℕ) (x : Item) (reads : List Touch) → x ≡ item setup i
    → reads ≡ x.reads
    → is_reduction (item setup i).kind ≡ true → has_shape setup (item setup i) ≡ true
    → 0 < length reads
some_read setup i x reads is rs e h =
    subst (λ l. 0 < length l) (sym (rs ∙ ap (λ (y : Item). y.reads) is))
    (some_read_of setup (item setup i) no_touch e h)

pub some_write : (setup : Setup) (i : ℕ) (x : Item) (writes : List Touch) → x ≡ item setup i
    → writes ≡ x.writes
    → is_reduction (item setup i).kind ≡ true → has_shape setup (item setup i) ≡ true
    → 0 < length writes
some_write setup i x writes is ws e h =
    subst (λ l. 0 < length l) (sym (ws ∙ ap (λ (y : Item). y.writes) is))
    (some_write_of setup (item setup i) no_touch e h)

-- the level that is read is one of a grid variable
pub grid_read : (job : Job) → (checked : IsChecked job) → (p : PatchValue)
    → (patch : IsPatchFor (setup_of job) p) → (i : ℕ) → Contains (run_items (setup_of job)) i
    → is_reduction (item (setup_of job) i).kind ≡ true → (x : Item) (reads : List Touch)
    → x ≡ item (setup_of job) i → reads ≡ x.reads → (d : Touch)
    → IsGridLevel p (get_or reads 0 d).var (get_or reads 0 d).level
grid_read job checked p patch i run e x reads is rs d =
    let one = reduces_one (setup_of job) (item (setup_of job) i) d e
    (shaped job checked p patch i run) in
    let all = rs ∙ ap (λ (y : Item). y.reads) is in
    let stored = reads_stored job checked p patch i run 0 d
    (some_touch (item (setup_of job) i).reads (get_or (item (setup_of job) i).reads 0 d)
    one.read) in
    subst (λ l. IsGridLevel p (get_or l 0 d).var (get_or l 0 d).level) (sym all) (record {
      var = stored.var;
      stored = stored.stored;
      grid = subst (λ q. is_scalar (setup_in q) (get_or (item (setup_of job) i).reads 0 d).var
          ≡ false) (same_patch (setup_of job) p patch.shape patch.vars) one.grid;
    })

-- the scalar that is written is one of the patch
pub scalar_written : (job : Job) → (checked : IsChecked job) → (p : PatchValue)
    → (patch : IsPatchFor (setup_of job) p) → (i : ℕ) → Contains (run_items (setup_of job)) i
    → is_reduction (item (setup_of job) i).kind ≡ true → (x : Item) (writes : List Touch)
    → x ≡ item (setup_of job) i → writes ≡ x.writes → (d : Touch)
    → IsScalar p (get_or writes 0 d).var
scalar_written job checked p patch i run e x writes is ws d =
    let one = reduces_one (setup_of job) (item (setup_of job) i) d e
    (shaped job checked p patch i run) in
    let all = ws ∙ ap (λ (y : Item). y.writes) is in
    let stored = writes_stored job checked p patch i run 0 d
    (some_touch (item (setup_of job) i).writes (get_or (item (setup_of job) i).writes 0 d)
    one.write) in
    let level = stored.stored in
    subst (λ l. IsScalar p (get_or l 0 d).var) (sym all) (record {
      var = stored.var;
      stored = omega (arith, level);
      scalar = subst (λ q. is_scalar (setup_in q) (get_or (item (setup_of job) i).writes 0 d).var
          ≡ true) (same_patch (setup_of job) p patch.shape patch.vars) one.scalar;
    })

pub scalar_there : (job : Job) → (checked : IsChecked job) → (p : PatchValue)
    → (patch : IsPatchFor (setup_of job) p) → (i : ℕ) → Contains (run_items (setup_of job)) i
    → is_reduction (item (setup_of job) i).kind ≡ true → (x : Item) (writes : List Touch)
    → x ≡ item (setup_of job) i → writes ≡ x.writes → (d : Touch)
    → (get_or writes 0 d).var.0 < length job.vars
scalar_there job checked p patch i run e x writes is ws d =
    subst (λ vs. (get_or writes 0 d).var.0 < length vs) patch.vars
    (scalar_written job checked p patch i run e x writes is ws d).var

pub gives : (job : Job) → IsChecked job → (r : Run) (k i : ℕ) → IsRunOf job r → (p : PatchValue)
    → IsPatchOf r.setup (cut_of r) k p
    → NamesWell (setup_of job) (Give i) → (x : Item) (reads : List Touch)
    → x ≡ item (setup_of job) i → reads ≡ x.reads → (d : Touch)
    → (given : Reduced) → given
    ≡ reduced_over x.kind (numbers_in p.owned
    (number_at p (get_or reads 0 d).var (get_or reads 0 d).level))
    → given.number ≡ number_by r k (held_values r k p.numbers) i
gives job checked r k i run p patch well x reads is rs d given e =
    let setup = setup_of job in
    let one = reduces_one setup (item setup i) d well.1 well.0.1 in
    let y = item setup i in
    let t = get_or y.reads 0 d in
    ap (λ (g : Reduced). g.number) e
    ∙ ap (λ (l : List Touch).
    reduced x.kind (numbers_in p.owned (number_at p (get_or l 0 d).var (get_or l 0 d).level)))
    (rs ∙ ap (λ (z : Item). z.reads) is)
    ∙ ap (λ (z : Item). reduced z.kind (numbers_in p.owned (number_at p t.var t.level))) is
    ∙ give_is r.setup (cut_of r) k y p t patch one.read
    (subst (λ s. is_scalar s t.var ≡ false) (sym run.setup) one.grid)
    ∙ ap (λ s. partial (local_values r.setup (local (cut_of r) k) p.numbers) (owned (cut_of r) k)
    (item s i)) (sym run.setup)

-- the number of all parts, in the item's scalar or not
pub joins_ok : (setup : Setup) (i : ℕ) (x : Item) (writes : List Touch) → x ≡ item setup i
    → writes ≡ x.writes → (d : Touch)
    → is_reduction (item setup i).kind ≡ true → has_shape setup (item setup i) ≡ true
    → (info : VarInfo) → info ≡ variable setup (get_or writes 0 d).var
    → (old new : State) (number n : ℤ)
    → Finishes number (least info.ctype) (greatest info.ctype) (Ok n)
    → new ≡ with_scalar old (get_or writes 0 d).var n
    → join_turn setup (item setup i) old number ≡ Some new
joins_ok setup i x writes is ws d e h info about old new number n finished set =
    let y = item setup i in
    let one = reduces_one setup y d e h in
    let all : writes ≡ y.writes = ws ∙ ap (λ (z : Item). z.writes) is in
    let here = about ∙ ap (λ (l : List Touch). variable setup (get_or l 0 d).var) all in
    join_ok setup y (get_or y.writes 0 d) old new number n one.write
    (subst (λ (v : VarInfo). Finishes number (least v.ctype) (greatest v.ctype) (Ok n))
    here finished)
    (set ∙ ap (λ (l : List Touch). with_scalar old (get_or l 0 d).var n) all)

pub joins_err : (setup : Setup) (i : ℕ) (x : Item) (writes : List Touch) → x ≡ item setup i
    → writes ≡ x.writes → (d : Touch)
    → is_reduction (item setup i).kind ≡ true → has_shape setup (item setup i) ≡ true
    → (info : VarInfo) → info ≡ variable setup (get_or writes 0 d).var
    → (old : State) (number : ℤ) (e : Overflow)
    → Finishes number (least info.ctype) (greatest info.ctype) (Err e)
    → Joins setup (item setup i) number old old (Err e)
joins_err setup i x writes is ws d e h info about old number err finished =
    let y = item setup i in
    let one = reduces_one setup y d e h in
    let all : writes ≡ y.writes = ws ∙ ap (λ (z : Item). z.writes) is in
    let here = about ∙ ap (λ (l : List Touch). variable setup (get_or l 0 d).var) all in
    join_err setup y (get_or y.writes 0 d) old number err one.write
    (subst (λ (v : VarInfo). Finishes number (least v.ctype) (greatest v.ctype) (Err err))
    here finished)
