-- What a part takes, one side after the other.
use Rattle.std.proofs.Common.{◌≡◌, ℕ, ◌+◌, ◌*◌, ◌<◌, ◌%◌, ◌^◌, Bool, cond, IsTrue, true, false, ◌&&◌, List, [], ◌∷◌, ◌++◌, length, drop, refl, sym, ap, ◌∙◌, subst, Option, Some, None, ◌==◌, eq-eqb, ◌⊎◌, inl, inr, Result, Ok, Err, OnOk, OnErr, arith, ◌≢◌}
use Rattle.std.specs.Prelude.{if◌then◌else◌}
use Rattle.std.proofs.Math.Nat.{mod-add-mod, add_assoc}
use Rattle.cx_grid.specs.declared.boxes.Point.{Point}
use Rattle.cx_grid.specs.declared.boxes.Box3.{Box3}
use Rattle.cx_grid.specs.declared.shapes.Side.{Side}
use Rattle.cx_grid.specs.declared.shapes.Side.TheVariants.{Low, High}
use Rattle.cx_grid.specs.Boxes.{IsIn, point_count}
use Rattle.cx_plan.specs.declared.variable.VarId.{VarId}
use Rattle.cx_plan.specs.Lookups.{is_scalar}
use Rattle.cx_cut.specs.Cuts.{Parts, part_count, halo_of}
use Rattle.cx_cut.specs.Neighbours.{partner, Neighbours}
use Rattle.cx_field.specs.Patches.{PatchValue, setup_in, values_in, with_numbers}
use Rattle.cx_field.specs.Faces.{AreGrid, halo_in, IsFilled, variable_at}
use Rattle.cx_wire.specs.Messages.{Sent}
use Rattle.cx_wire.specs.Queues.{SameQueues}
use Rattle.cx_wire.specs.Received.{counted, counted_none}
use Rattle.cx_wire.specs.declared.wire.Wire.{Ghosts}
use Rattle.cx_ghost.specs.declared.faults.TakeFault.{TakeFault}
use Rattle.cx_ghost.specs.declared.faults.TakeFault.TheVariants.{NotYet, Wire}
use Rattle.cx_ghost.specs.Posts.{CanExchange, face_count}
use Rattle.cx_ghost.specs.Takes.{BeginsWith, IsReady, missing_of, missing_from, front_values, behind_high, TakesNeeded, Fills, Keeps, sum_from, StartsWith, IsFronted, FilledFrom, taken_sum, count_from, TakesHigh, Stops}
use Rattle.cx_ghost.proofs.PostLaws.{halo_is}
use Rattle.cx_ghost.proofs.Sides.{some_at}
use Rattle.cx_plan.specs.Lists.{only, is_at}
use Rattle.cx_text.specs.Numbers.{word_sum}

-- ---- what stands in front

first_starts : {tells : Type 0} (c : Parts) (a d : ℕ) (vars : List VarId) (sides : List Side)
    (q : List (Sent tells)) (k : ℕ) → missing_of q a k ≡ None
    → (q ≡ []) ⊎ BeginsWith c a d vars (Low ∷ sides) q → StartsWith q (face_count c a d vars Low)
first_starts c a d vars sides [] k e b = absurd cc
first_starts c a d vars sides (m ∷ q) k e (inl z) = absurd cc
first_starts c a d vars sides (m ∷ q) k e (inr b) = (b.0).count

second_starts : {tells : Type 0} (c : Parts) (a d : ℕ) (vars : List VarId) (h : Bool)
    (q : List (Sent tells)) (k : ℕ) → missing_of q a k ≡ None
    → (q ≡ []) ⊎ BeginsWith c a d vars (only h (Low ∷ []) ++ High ∷ []) q
    → StartsWith (drop (if h then 1 else 0) q) (face_count c a d vars High)
second_starts c a d vars h [] k e b = absurd cc
second_starts c a d vars h (m ∷ q) k e (inl z) = absurd cc
second_starts c a d vars true (m ∷ []) k e (inr b) = absurd (b.1)
second_starts c a d vars true (m ∷ n ∷ q) k e (inr b) = ((b.1).0).count
second_starts c a d vars false (m ∷ q) k e (inr b) = (b.0).count

module _ (c : Parts) (k d : ℕ) (vars : List VarId) (law : Neighbours c) (hk : k < part_count c)
    (hd : d < 3) {tells : Type 0} (q : ℕ → ℕ → List (Sent tells)) (ready : IsReady c k d vars q)
  where
    pub high_fronted : missing_from (partner c k d High) k q ≡ None
        → IsFronted (partner c k d High) (λ a. q a k)
        (length vars * point_count (halo_of c k d High))
    high_fronted none = go (partner c k d High) refl none
      where
        go : (o : Option ℕ) → partner c k d High ≡ o → missing_from o k q ≡ None
            → IsFronted o (λ a. q a k) (length vars * point_count (halo_of c k d High))
        go None e n = tt
        go (Some a) e n =
            let from_it = some_at (partner c k d High) a e in
            let counts = law.counts k d High a hk hd e in
            let ready_a = ready a in
            let r = rw from_it at ready_a in
            subst (λ m. StartsWith (q a k) (length vars * m)) counts
            (first_starts c a d vars (only (is_at (partner c k d Low) a) (High ∷ [])) (q a k)
            k n r)

    pub low_fronted : missing_from (partner c k d Low) k q ≡ None
        → IsFronted (partner c k d Low) (behind_high c k d q)
        (length vars * point_count (halo_of c k d Low))
    low_fronted none = go (partner c k d Low) refl none
      where
        go : (o : Option ℕ) → partner c k d Low ≡ o → missing_from o k q ≡ None
            → IsFronted o (behind_high c k d q) (length vars * point_count (halo_of c k d Low))
        go None e n = tt
        go (Some a) e n =
            let from_it = some_at (partner c k d Low) a e in
            let counts = law.counts k d Low a hk hd e in
            let ready_a = ready a in
            let r = rw from_it at ready_a in
            subst (λ m. StartsWith (behind_high c k d q a) (length vars * m)) counts
            (second_starts c a d vars (is_at (partner c k d High) a) (q a k) k n r)

fronted_by : {tells : Type 0} (o : Option ℕ) (q r : ℕ → List (Sent tells)) (n m : ℕ)
    → ((a : ℕ) → q a ≡ r a) → n ≡ m → IsFronted o r m → IsFronted o q n
fronted_by None q r n m same e f = tt
fronted_by (Some a) q r n m same e f = rw (same a, e) f

module _ (c : Parts) (k d : ℕ) (vars : List VarId) (law : Neighbours c) (hk : k < part_count c)
    (hd : d < 3) {tells : Type 0} (q : ℕ → ℕ → List (Sent tells)) (ready : IsReady c k d vars q)
    (o : Option ℕ) (n : ℕ) where
  pub high_ready : o ≡ partner c k d High → missing_from o k q ≡ None
      → n ≡ length vars * point_count (halo_of c k d High) → IsFronted o (λ a. q a k) n
  high_ready is none count =
      subst (λ u. IsFronted u (λ a. q a k) n) (sym is)
      (fronted_by (partner c k d High) (λ a. q a k) (λ a. q a k) n _ (λ a. refl) count
      (high_fronted c k d vars law hk hd q ready (subst (λ u. missing_from u k q ≡ None) is none)))

  pub low_ready : (m : ℕ → ℕ → List (Sent tells)) → o ≡ partner c k d Low
      → missing_from o k q ≡ None → ((a : ℕ) → m a k ≡ behind_high c k d q a)
      → n ≡ length vars * point_count (halo_of c k d Low) → IsFronted o (λ a. m a k) n
  low_ready m is none same count =
      subst (λ u. IsFronted u (λ a. m a k) n) (sym is)
      (fronted_by (partner c k d Low) (λ a. m a k) (behind_high c k d q) n _ same count
      (low_fronted c k d vars law hk hd q ready (subst (λ u. missing_from u k q ≡ None) is none)))

-- ---- two sides

pub taken_by : {M : Type 0} (k : ℕ) (o p : Option ℕ) (old mid : ℕ → ℕ → List M) → o ≡ p
    → ((a b : ℕ) → mid a b ≡ drop (if b == k && is_at o a then 1 else 0) (old a b)) → (a b : ℕ)
    → mid a b ≡ drop (if b == k && is_at p a then 1 else 0) (old a b)
taken_by k o p old mid is first a b =
    subst (λ u. mid a b ≡ drop (if b == k && is_at u a then 1 else 0) (old a b)) is (first a b)

drop_twice : {A : Type 0} (q : List A) → drop 1 (drop 1 q) ≡ drop 2 q
drop_twice [] = refl
drop_twice (x ∷ q) = refl

two_taken : {A : Type 0} (t h l : Bool) (q m n : List A) → m ≡ drop (if t && h then 1 else 0) q
    → n ≡ drop (if t && l then 1 else 0) m
    → n ≡ (if t then drop (length (only h (Low ∷ []) ++ only l (High ∷ []))) q else q)
two_taken true true true q m n e f = f ∙ ap (drop 1) e ∙ drop_twice q
two_taken true true false q m n e f = f ∙ e
two_taken true false true q m n e f = f ∙ ap (drop 1) e
two_taken true false false q m n e f = f ∙ e
two_taken false h l q m n e f = f ∙ e

pub takes_needed : {M : Type 0} (c : Parts) (k d : ℕ) (old mid new : ℕ → ℕ → List M)
    → ((a b : ℕ) → mid a b ≡ drop (if b == k && is_at (partner c k d High) a then 1 else 0)
    (old a b))
    → ((a b : ℕ) → new a b ≡ drop (if b == k && is_at (partner c k d Low) a then 1 else 0)
    (mid a b))
    → TakesNeeded c k d old new
takes_needed c k d old mid new first second a b =
    two_taken (b == k) (is_at (partner c k d High) a) (is_at (partner c k d Low) a) (old a b)
    (mid a b) (new a b) (first a b) (second a b)

pub behind_is : {M : Type 0} (c : Parts) (k d : ℕ) (old mid : ℕ → ℕ → List M)
    → ((a b : ℕ) → mid a b ≡ drop (if b == k && is_at (partner c k d High) a then 1 else 0)
    (old a b)) → (a : ℕ) → mid a k ≡ behind_high c k d old a
behind_is c k d old mid first a = first a k ∙ rw (eq-eqb k k refl) refl

-- ---- the patch

pub can_after : (c : Parts) (k d : ℕ) (vars : List VarId) (old mid : PatchValue)
    → CanExchange c k d vars old → with_numbers mid old.numbers ≡ old → CanExchange c k d vars mid
can_after c k d vars old mid can frame =
    let stored = subst (λ (p : PatchValue). AreGrid p vars) (sym frame) can.stored in
    record {
      whole = can.whole;
      part = can.part;
      shape_is = ap (λ (p : PatchValue). p.shape) frame ∙ can.shape_is;
      owned_is = ap (λ (p : PatchValue). p.owned) frame ∙ can.owned_is;
      local_is = ap (λ (p : PatchValue). p.local) frame ∙ can.local_is;
      direction = can.direction;
      stored = record {
        levels = λ i v h. let g = stored.levels i v h in
            record { var = g.var; stored = g.stored; grid = g.grid };
        differ = stored.differ;
      };
      few = can.few;
    }

pub keeps_all : (c : Parts) (k d : ℕ) (vars : List VarId) (p : PatchValue) → Keeps c k d vars p p
keeps_all c k d vars p =
    record { frame = refl; sized = refl; kept = λ v level y near is. refl; scalars = λ v s. refl }

pub keeps_twice : (c : Parts) (k d : ℕ) (vars : List VarId) (old mid new : PatchValue)
    → Keeps c k d vars old mid → Keeps c k d vars mid new → Keeps c k d vars old new
keeps_twice c k d vars old mid new f s =
    record {
      frame = ap (λ (p : PatchValue). with_numbers p old.numbers) s.frame ∙ f.frame;
      sized = s.sized ∙ f.sized;
      kept = λ v level y near is.
          s.kept v level y (subst (λ (b : Box3). IsIn b y)
          (sym (ap (λ (p : PatchValue). p.local) f.frame)) near) is ∙ f.kept v level y near is;
      scalars = λ v e. s.scalars v (subst (λ z. is_scalar z v ≡ true) (sym (ap setup_in f.frame)) e)
          ∙ f.scalars v e;
    }

-- a side that is filled keeps all else
module _ (c : Parts) (k d : ℕ) (vars : List VarId) (old new : PatchValue)
    (can : CanExchange c k d vars old) (side : Side) {tells : Type 0} (q : ℕ → List (Sent tells))
    (from : Option ℕ) (from_is : from ≡ partner c k d side)
    (given : FilledFrom tells from q vars (halo_in old d side) old new) where
  filled : FilledFrom tells (partner c k d side) q vars (halo_in old d side) old new
  filled = subst (λ u. FilledFrom tells u q vars (halo_in old d side) old new) from_is given

  pub side_keeps : Keeps c k d vars old new
  side_keeps = go (partner c k d side) refl filled
    where
      go : (o : Option ℕ) → partner c k d side ≡ o
          → FilledFrom tells o q vars (halo_in old d side) old new → Keeps c k d vars old new
      go None e f = subst (λ (p : PatchValue). Keeps c k d vars old p) (sym f)
          (keeps_all c k d vars old)
      go (Some a) e f =
          record {
            frame = (f.2).frame;
            sized = (f.2).sized;
            kept = λ v level y near is. (f.2).kept v level y near (λ among inside.
                let none = is among side
                (subst (λ (b : Box3). IsIn b y) (halo_is c k d vars old can side) inside) in
                let both : Some a ≡ None = sym e ∙ none in absurd cc);
            scalars = (f.2).scalars;
          }

  -- what lies outside of it is kept
  pub side_apart : (v : VarId) (level : ℕ) (y : Point) → IsIn old.local y
      → (IsIn (halo_of c k d side) y → ⊥) → values_in new v level y ≡ values_in old v level y
  side_apart v level y near out = go (partner c k d side) filled
    where
      go : (o : Option ℕ) → FilledFrom tells o q vars (halo_in old d side) old new
          → values_in new v level y ≡ values_in old v level y
      go None f = ap (λ (p : PatchValue). values_in p v level y) f
      go (Some a) f = (f.2).kept v level y near
          (λ among inside. out (subst (λ (b : Box3). IsIn b y) (halo_is c k d vars old can side)
          inside))

  pub side_filled : (told : tells) (a : ℕ) → partner c k d side ≡ Some a
      → IsFilled new vars (halo_of c k d side) (front_values told (q a))
  side_filled told a e =
      let f = rw e at filled in
      subst (λ (b : Box3). IsFilled new vars b (front_values told (q a)))
      (halo_is c k d vars old can side)
      (subst (λ values. IsFilled new vars (halo_in old d side) values) (f.1 told) (f.2).filled)

module _ (c : Parts) (k d : ℕ) (vars : List VarId) (law : Neighbours c) (hd : d < 3)
    (old mid : PatchValue) (can : CanExchange c k d vars old) {tells : Type 0}
    (q : ℕ → ℕ → List (Sent tells))
    (o_high : Option ℕ) (is_high : o_high ≡ partner c k d High)
    (high : FilledFrom tells o_high (λ a. q a k) vars (halo_in old d High) old mid) where
  first : Keeps c k d vars old mid
  first = side_keeps c k d vars old mid can High (λ a. q a k) o_high is_high high

  pub can_mid : CanExchange c k d vars mid
  can_mid = can_after c k d vars old mid can first.frame

  module _ (new : PatchValue) (m : ℕ → ℕ → List (Sent tells)) (o_low : Option ℕ)
      (is_low : o_low ≡ partner c k d Low) where
    pub both_keep : FilledFrom tells o_low (λ a. m a k) vars (halo_in mid d Low) mid new
        → Keeps c k d vars old new
    both_keep low = keeps_twice c k d vars old mid new first
        (side_keeps c k d vars mid new can_mid Low (λ a. m a k) o_low is_low low)

    pub either_keeps : {A E : Type 0} (r : Result A E)
        → OnOk r (FilledFrom tells o_low (λ a. m a k) vars (halo_in mid d Low) mid new)
        → OnErr r (new ≡ mid) → Keeps c k d vars old new
    either_keeps (Ok x) low same = both_keep low
    either_keeps (Err e) low same =
        subst (λ (p : PatchValue). Keeps c k d vars old p) (sym same) first

    pub both_fill : FilledFrom tells o_low (λ a. m a k) vars (halo_in mid d Low) mid new
        → ((a : ℕ) → m a k ≡ behind_high c k d q a) → Fills tells c k d vars q new
    both_fill low same =
        let second = side_keeps c k d vars mid new can_mid Low (λ a. m a k) o_low is_low low in
        record {
          high = λ told a e i y h inside near.
              let near_mid = subst (λ (b : Box3). IsIn b y)
              (ap (λ (p : PatchValue). p.local) second.frame) near in
              side_apart c k d vars mid new can_mid Low (λ a. m a k) o_low is_low low
              (variable_at vars i) 0 y near_mid (λ z. law.apart k d y can.part hd z inside)
              ∙ side_filled c k d vars old mid can High (λ a. q a k)
              o_high is_high high told a e i y h inside near_mid;
          low = λ told a e.
              subst (λ xs. IsFilled new vars (halo_of c k d Low) (front_values told xs)) (same a)
              (side_filled c k d vars mid new can_mid Low (λ a. m a k) o_low is_low low told a e);
        }

-- ---- the received numbers

sums_twice : (a b c x y m : ℕ) → b ≡ (a + x) % m → c ≡ (b + y) % m → c ≡ (a + (x + y)) % m
sums_twice a b c x y m e f =
    f ∙ ap (λ z. (z + y) % m) e ∙ mod-add-mod (a + x) m y ∙ ap (λ z. z % m) (add_assoc a x y)

sum_same : {tells : Type 0} (told : tells) (o : Option ℕ) (q r : ℕ → List (Sent tells))
    → ((a : ℕ) → q a ≡ r a) → sum_from told o q ≡ sum_from told o r
sum_same told None q r same = refl
sum_same told (Some a) q r same = ap (λ xs. word_sum (front_values told xs)) (same a)

pub sums : (c : Parts) (k d : ℕ) {tells : Type 0} (told : tells) (q m : ℕ → ℕ → List (Sent tells))
    (o_high o_low : Option ℕ) (old mid new bound : ℕ) → o_high ≡ partner c k d High
    → o_low ≡ partner c k d Low
    → mid ≡ (old + sum_from told o_high (λ a. q a k)) % bound
    → new ≡ (mid + sum_from told o_low (λ a. m a k)) % bound
    → ((a : ℕ) → m a k ≡ behind_high c k d q a)
    → new ≡ (old + taken_sum told c k d q) % bound
sums c k d told q m o_high o_low old mid new bound is_high is_low first second same =
    sums_twice old mid new (sum_from told o_high (λ a. q a k)) (sum_from told o_low (λ a. m a k))
    bound first second
    ∙ ap (λ n. (old + (n + sum_from told o_low (λ a. m a k))) % bound)
    (ap (λ u. sum_from told u (λ a. q a k)) is_high)
    ∙ ap (λ n. (old + (sum_from told (partner c k d High) (λ a. q a k) + n)) % bound)
    (ap (λ u. sum_from told u (λ a. m a k)) is_low
    ∙ sum_same told (partner c k d Low) (λ a. m a k) (behind_high c k d q) same)

-- ---- where the wire fails

no_drop : {A : Type 0} (t : Bool) (q : List A) → q ≡ drop (cond (t && false) 1 0) q
no_drop true q = refl
no_drop false q = refl

module _ {W : Type 0} (g : Ghosts W) (c : Parts) (k d : ℕ) (vars : List VarId) (old : PatchValue)
    (wire : W) where
  -- nothing was received
  takes_none : (new : PatchValue) (after : W) → new ≡ old
      → SameQueues (g.queue wire) (g.queue after) → g.received after ≡ g.received wire
      → ((told : IsTrue g.tells) → g.sum after ≡ g.sum wire)
      → ((told : IsTrue g.tells) → g.sum wire < 2 ^ 64)
      → TakesHigh g c k d vars None old new wire after
  takes_none new after same queues count sum fits =
      record {
        patch = same;
        queues = λ a b. queues a b ∙ no_drop (b == k) (g.queue wire a b);
        received = count ∙ counted_none (g.received wire);
        sum = λ told. sum told ∙ let f = fits told in omega (arith, f);
      }

  pub stops_high : {A : Type 0} (new : PatchValue) (after : W) (o : Option ℕ)
      (r : Result A TakeFault) → o ≡ partner c k d High → o ≢ None → new ≡ old
      → SameQueues (g.queue wire) (g.queue after) → g.received after ≡ g.received wire
      → ((told : IsTrue g.tells) → g.sum after ≡ g.sum wire)
      → ((told : IsTrue g.tells) → g.sum wire < 2 ^ 64) → Stops g c k d vars old new wire after r
  stops_high new after o (Ok x) is there same queues count sum fits = tt
  stops_high new after o (Err (NotYet a b)) is there same queues count sum fits = tt
  stops_high new after o (Err Wire) is there same queues count sum fits = (
    High,
    subst (λ (u : Option ℕ). u ≢ None) is there,
    takes_none new after same queues count sum fits,
  )

  -- what the high neighbour sent was received
  module _ (mid : PatchValue) (between : W) (o_high : Option ℕ)
      (is_high : o_high ≡ partner c k d High) (can : CanExchange c k d vars old)
      (filled : FilledFrom (IsTrue g.tells) o_high (λ a. g.queue wire a k) vars (halo_in old d High)
      old mid)
      (queues : (a b : ℕ) → g.queue between a b
      ≡ drop (if b == k && is_at o_high a then 1 else 0) (g.queue wire a b))
      (received : g.received between
      ≡ counted (g.received wire)
      (count_from o_high (length vars * point_count (halo_in old d High))))
      (sum : (told : IsTrue g.tells)
      → g.sum between ≡ (g.sum wire + sum_from told o_high (λ a. g.queue wire a k)) % 2 ^ 64)
    where
      takes_high : TakesHigh g c k d vars (partner c k d High) old mid wire between
      takes_high =
          subst (λ o. TakesHigh g c k d vars o old mid wire between) is_high
          (record {
            patch =
                subst (λ (b : Box3). FilledFrom (IsTrue g.tells) o_high (λ a. g.queue wire a k)
                vars b old mid) (halo_is c k d vars old can High) filled;
            queues = queues;
            received = received ∙ ap
                (λ (b : Box3). counted (g.received wire)
                (count_from o_high (length vars * point_count b)))
                (halo_is c k d vars old can High);
            sum = sum;
          })

      pub stops_low : {A : Type 0} (new : PatchValue) (after : W) (o_low : Option ℕ)
          (r : Result A TakeFault) → o_low ≡ partner c k d Low → OnErr r (o_low ≢ None)
          → OnErr r (new ≡ mid) → OnErr r (SameQueues (g.queue between) (g.queue after))
          → OnErr r (g.received after ≡ g.received between)
          → ((told : IsTrue g.tells) → OnErr r (g.sum after ≡ g.sum between))
          → Stops g c k d vars old new wire after r
      stops_low new after o_low (Ok x) is there same still count summed = tt
      stops_low new after o_low (Err (NotYet a b)) is there same still count summed = tt
      stops_low new after o_low (Err Wire) is there same still count summed = (
        Low,
        subst (λ (u : Option ℕ). u ≢ None) is there,
        record {
          patch =
              subst (λ (p : PatchValue).
              FilledFrom (IsTrue g.tells) (partner c k d High) (λ a. g.queue wire a k) vars
              (halo_of c k d High) old p) (sym same) takes_high.patch;
          queues = λ a b. still a b ∙ takes_high.queues a b;
          received = count ∙ takes_high.received;
          sum = λ told. summed told ∙ takes_high.sum told;
        },
      )
