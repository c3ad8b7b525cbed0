-- A part that takes in a direction agrees one direction further.
use Rattle.std.proofs.Common.{◌≡◌, ℕ, suc, ◌+◌, ◌*◌, ◌<◌, ◌≤◌, Bool, true, false, List, [], ◌∷◌, ◌++◌, length, map, drop, arith, refl, sym, ap, ◌∙◌, subst, ℤ, pos, Option, Some, None, ◌==◌, ◌&&◌, cond, ◌⊎◌, inl, inr}
use Rattle.std.specs.Prelude.{slice_index_or, if◌then◌else◌}
use Rattle.std.specs.List.{flat_map}
use Rattle.std.proofs.Math.ListN.{get_or-map}
use Rattle.cx_plan.specs.Setups.{Setup}
use Rattle.std.proofs.lemmas.Bool.{eqb-true}
use Rattle.cx_grid.specs.declared.boxes.Point.{Point}
use Rattle.cx_grid.specs.declared.boxes.Box3.{Box3}
use Rattle.cx_grid.specs.Boxes.{IsIn, numbers_in, point_count, index_in, point_in}
use Rattle.cx_grid.specs.Grid.{at, whole}
use Rattle.cx_grid.proofs.Places.{index_below}
use Rattle.cx_plan.specs.declared.variable.VarId.{VarId}
use Rattle.cx_plan.specs.declared.flag.Flag.TheVariants.{G}
use Rattle.cx_plan.specs.Lookups.{is_scalar, levels_of}
use Rattle.cx_plan.specs.Regions.{is_among, Flags, exchanged}
use Rattle.cx_model.specs.States.{State, level_of, scalar_of}
use Rattle.cx_model.specs.Turns.{values_of}
use Rattle.cx_model.specs.Traces.{Exchanged}
use Rattle.cx_flat.specs.declared.op.Op.TheVariants.{Post, Take}
use Rattle.cx_model.specs.Courses.{note}
use Rattle.cx_flat.specs.Flats.{next, control_after, state_after, notes_at, Pair, Exchange, begins_pair, ends_pair}
use Rattle.cx_grid.specs.declared.shapes.Side.{Side}
use Rattle.cx_grid.specs.declared.shapes.Side.TheVariants.{Low, High}
use Rattle.cx_cut.specs.Cuts.{face_of, halo_of, IsReached, local}
use Rattle.cx_cut.specs.Neighbours.{partner, Neighbours, Received, IsOutside}
use Rattle.law_parts.specs.Moves.{Message, Sent, Channel, Wire, receiver, posted_faces, face_head, front_values, Filled, Goes, faces_by}
use Rattle.law_parts.specs.Holding.{Held, IsHeld, local_values}
use Rattle.law_parts.specs.Runs.{Run, Oracle, undivided, op_of, flags_at, synced, done_directions, guided, guided_state, last_of, parts_in, cut_of}
use Rattle.cx_model.specs.Needs.{notes_leave}
use Rattle.law_parts.specs.Truths.{script, Stands}
use Rattle.law_parts.specs.Nets.{Nearness}
use Rattle.cx_cut.specs.Exchange.{other}
use Rattle.law_parts.proofs.Places.{guided_op, Exchanges}
use Rattle.law_parts.specs.Operations.{IsExchange}
use Rattle.law_parts.proofs.ListLaws.{length_map, among_at, at_among, piece_number, numbers_length, number_in}
use Rattle.law_parts.proofs.PostLaws.{grid_value, op_true, reached_at}
use Rattle.law_parts.proofs.PairLaws.{ends_onward, begins_exchange, some_at, both_ways, are_there, and_left, and_right}
use Rattle.law_parts.proofs.SweepMoves.{no_direction}
use Rattle.cx_rule.specs.Faces.{variable_at}
use Rattle.cx_plan.specs.Lists.{only, is_at}

-- ---- flags and directions

-- every local point is reached in all directions
pub all_reached : (r : Run) (k d : ℕ) (p : Point) → 3 ≤ d → IsIn (local (cut_of r) k) p
    → IsReached (cut_of r) k d p
all_reached r k d p h i =
    record { inside = i; own = λ u from below. absurd (omega (arith, from, below, h)) }

flags_take : (r : Run) (n d : ℕ) (vars : List VarId) (path : List ℕ) → op_of r n ≡ Take d vars path
    → flags_at r (suc n) ≡ (if suc d == r.setup.shape.dims then exchanged vars (flags_at r n)
    else flags_at r n)
flags_take r n d vars path e =
    ap (λ o. notes_leave r.setup
    (notes_at r.setup r.rules o (undivided r n).control (undivided r n).state) (flags_at r n)) e
    ∙ go (suc d == r.setup.shape.dims)
  where
    go : (b : Bool) → notes_leave r.setup
        (if b then note (Exchanged vars path (undivided r n).state) ∷ [] else []) (flags_at r n)
        ≡ (if b then exchanged vars (flags_at r n) else flags_at r n)
    go true = refl
    go false = refl

state_post : (r : Run) (n d : ℕ) (vars : List VarId) → op_of r n ≡ Post d vars
    → (undivided r (suc n)).state ≡ (undivided r n).state
state_post r n d vars e =
    ap (λ o. state_after r.setup r.rules o (undivided r n).control.iteration (undivided r n).state)
    e

state_take : (r : Run) (n d : ℕ) (vars : List VarId) (path : List ℕ) → op_of r n ≡ Take d vars path
    → (undivided r (suc n)).state ≡ (undivided r n).state
state_take r n d vars path e =
    ap (λ o. state_after r.setup r.rules o (undivided r n).control.iteration (undivided r n).state)
    e

-- ---- lengths

count_of : (xs : State) (i : ℕ)
    → length (slice_index_or xs i []) ≡ length (slice_index_or (map (map length) xs) i [])
count_of xs i = sym (length_map length (slice_index_or xs i []))
    ∙ ap length (sym (get_or-map (map length) xs i []))

length_at : (s : State) (i l : ℕ)
    → length (slice_index_or (slice_index_or s i []) l [])
    ≡ slice_index_or (slice_index_or (map (map length) s) i []) l 0
length_at s i l = sym (get_or-map length (slice_index_or s i []) l [])
    ∙ ap (λ z. slice_index_or z l 0) (sym (get_or-map (map length) s i []))

held_same : (setup : Setup) (near : Box3) (old new : State)
    → map (map length) new ≡ map (map length) old → IsHeld setup near old → IsHeld setup near new
held_same setup near old new e h = record {
  vars = sym (length_map (map length) new) ∙ ap length e ∙ length_map (map length) old ∙ h.vars;
  levels = λ v l. count_of new v.0 ∙ ap (λ z. length (slice_index_or z v.0 [])) e
      ∙ sym (count_of old v.0) ∙ h.levels v l;
  sizes = λ v level l m. length_at new v.0 level
      ∙ ap (λ z. slice_index_or (slice_index_or z v.0 []) level 0) e ∙ sym (length_at old v.0 level)
      ∙ h.sizes v level l m;
}

-- ---- one Take

module _ (tells : Type 0) (Near : Nearness) (r : Run) (oracle : Oracle)
    (law : Neighbours (cut_of r)) (ex : Exchanges tells r oracle) (m : ℕ)
    (l : suc m < last_of r oracle)
    (k : ℕ) (part : k < parts_in r) (x y : Held) (d : ℕ) (vars : List VarId) (path : List ℕ)
    (here : guided_op r oracle (suc m) ≡ Take d vars path)
    (mails : Channel → List (Message tells))
    (mailed : (c : Channel) → receiver c ≡ k → mails c ≡ (script tells r oracle).mail c m)
    (a : Stands tells r oracle k (suc m) x) (goes : Goes r (Take d vars path) x y)
    (filled : Filled tells r k d vars mails x.numbers y.numbers) where
  -- the operation before it
  posted_before : tells → guided_op r oracle m ≡ Post d vars
  posted_before t = begins_exchange r.setup (guided_op r oracle m) d vars
      (sym (ex.pairs t m (omega (arith, l))) ∙ ap ends_pair here)

  exchange : tells → IsExchange r.setup d vars
  exchange t = ex.posts m d vars (posted_before t)

  below : tells → d < 3
  below t = let e = exchange t in omega (arith, e.direction, ex.few)

  mail_is : tells → (j : ℕ) → j < parts_in r
      → mails (Wire j k) ≡ posted_faces r m j
      (λ side. faces_by r j (values_of r.setup (undivided r m).state) d vars side) d vars k
  mail_is t j h =
      let before = posted_before t in
      let there = are_there r (Wire j k) h part in
      mailed (Wire j k) refl
      ∙ (rw (there, before) refl)

  module _ (t : tells) where
    abbrev truth : VarId → ℕ → Point → ℤ
    truth v level p = at r.setup.shape (level_of (undivided r (suc m)).state v level) p

    op_here : op_of r (suc m) ≡ Take d vars path
    op_here = op_true tells r oracle ex t (suc m) (omega (arith, l)) (Take d vars path) here

    op_before : op_of r m ≡ Post d vars
    op_before = op_true tells r oracle ex t m (omega (arith, l)) (Post d vars) (posted_before t)

    same_state : (undivided r (suc m)).state ≡ (undivided r m).state
    same_state = state_post r m d vars op_before

    high_values : (j : ℕ) → partner (cut_of r) k d High ≡ Some j
        → front_values t (mails (Wire j k))
        ≡ faces_by r j (values_of r.setup (undivided r m).state) d vars Low t
    high_values j e =
        let to_me = some_at _ k (law.back k d High j part (below t) e) in
        ap (λ ms. front_values t ms) (mail_is t j (law.there k d High j part (below t) e))
        ∙ (rw to_me refl)

    low_values : (j : ℕ) → partner (cut_of r) k d Low ≡ Some j
        → front_values t (drop (cond (is_at (partner (cut_of r) k d High) j) 1 0)
        (mails (Wire j k))) ≡ faces_by r j (values_of r.setup (undivided r m).state)
        d vars High t
    low_values j e =
        let h = law.there k d Low j part (below t) e in
        let to_me = some_at _ k (law.back k d Low j part (below t) e) in
        let both = both_ways r law d (below t) j k h part High in
        ap (λ ms. front_values t (drop (cond (is_at (partner (cut_of r) k d High) j) 1 0) ms))
        (mail_is t j h)
        ∙ (rw (to_me, both) (go (is_at (partner (cut_of r) j d Low) k)))
      where
        go : (b : Bool) → front_values t
            (drop (cond b 1 0) (only b
            (Sent (face_head r m j d Low vars)
            (faces_by r j (values_of r.setup (undivided r m).state) d vars Low) ∷ [])
            ++ only true (Sent (face_head r m j d High vars)
            (faces_by r j (values_of r.setup (undivided r m).state) d vars High) ∷ [])))
            ≡ faces_by r j (values_of r.setup (undivided r m).state) d vars High t
        go true = refl
        go false = refl

    -- a number of a face of the partner is that of the point of the halo
    value : (side : Side) (j : ℕ) (p : Point) → partner (cut_of r) k d side ≡ Some j
        → IsIn (halo_of (cut_of r) k d side) p → (i : ℕ) → i < length vars
        → slice_index_or (faces_by r j (values_of r.setup (undivided r m).state) d vars (other side)
        t) (i * point_count (halo_of (cut_of r) k d side)
        + index_in (halo_of (cut_of r) k d side) p) (pos 0)
        ≡ truth (variable_at vars i) 0 p
    value side j p e inside i h =
        let counts = law.counts k d side j part (below t) e in
        let short : index_in (halo_of (cut_of r) k d side) p
        < point_count (face_of (cut_of r) j d (other side)) =
        rw counts (index_below (halo_of (cut_of r) k d side) p inside) in
        let grid = (exchange t).grid i h in
        ap (λ n. slice_index_or
        (flat_map (λ v. numbers_in (face_of (cut_of r) j d (other side))
        (values_of r.setup (undivided r m).state v 0)) vars)
        (i * n + index_in (halo_of (cut_of r) k d side) p) (pos 0)) (sym counts)
        ∙ piece_number (λ v. numbers_in (face_of (cut_of r) j d (other side))
        (values_of r.setup (undivided r m).state v 0))
        (point_count (face_of (cut_of r) j d (other side)))
        (λ v. numbers_length (face_of (cut_of r) j d (other side))
        (values_of r.setup (undivided r m).state v 0)) vars i
        (index_in (halo_of (cut_of r) k d side) p) h short
        ∙ number_in (face_of (cut_of r) j d (other side))
        (values_of r.setup (undivided r m).state (variable_at vars i) 0)
        (index_in (halo_of (cut_of r) k d side) p) short
        ∙ ap (λ f. f (point_in (face_of (cut_of r) j d (other side))
        (index_in (halo_of (cut_of r) k d side) p)))
        (grid_value r (undivided r m).state (variable_at vars i) 0 grid)
        ∙ ap (λ w. slice_index_or (level_of (undivided r m).state (variable_at vars i) 0)
        (index_in (whole r.setup.shape) w) (pos 0))
        (law.same k d side j p part (below t) e inside)
        ∙ ap (λ st. at r.setup.shape (level_of st (variable_at vars i) 0) p) (sym same_state)

    -- what is received is the undivided run's
    received_true : (side : Side) (j : ℕ) (p : Point) → partner (cut_of r) k d side ≡ Some j
        → IsIn (halo_of (cut_of r) k d side) p → (i : ℕ) → i < length vars
        → local_values r.setup (local (cut_of r) k) y.numbers (variable_at vars i) 0 p
        ≡ truth (variable_at vars i) 0 p
    received_true Low j p e inside i h =
        filled.low t j e i p h inside
        ∙ ap (λ zs. slice_index_or zs
        (i * point_count (halo_of (cut_of r) k d Low) + index_in (halo_of (cut_of r) k d Low) p)
        (pos 0)) (low_values j e)
        ∙ value Low j p e inside i h
    received_true High j p e inside i h =
        filled.high t j e i p h inside
        ∙ ap (λ zs. slice_index_or zs
        (i * point_count (halo_of (cut_of r) k d High)
        + index_in (halo_of (cut_of r) k d High) p) (pos 0)) (high_values j e)
        ∙ value High j p e inside i h

    -- ---- how far the part agrees then

    next_op_is : (suc d == r.setup.shape.dims) ≡ false → op_of r (suc (suc m)) ≡ Post (suc d) vars
    next_op_is e = op_true tells r oracle ex t (suc (suc m)) (omega (arith, l)) (Post (suc d) vars)
        (ends_onward (guided_op r oracle (suc (suc m))) (suc d) vars
        (ex.pairs t (suc m) l ∙ ap (begins_pair r.setup) here ∙ (rw e refl)))

    next_op_none : (suc d == r.setup.shape.dims) ≡ true → ends_pair (op_of r (suc (suc m))) ≡ None
    next_op_none e =
        ap ends_pair (op_true tells r oracle ex t (suc (suc m)) (omega (arith, l))
        (guided_op r oracle (suc (suc m))) refl)
        ∙ ex.pairs t (suc m) l ∙ ap (begins_pair r.setup) here ∙ (rw e refl)

    -- a variable that is exchanged
    module _ (i : ℕ) (h : i < length vars) (p : Point) (inside : IsIn (local (cut_of r) k) p) where
      abbrev V : VarId
      V = variable_at vars i

      further : IsReached (cut_of r) k (synced r (suc (suc m)) V 0) p
          → flags_at r (suc m) V 0 G ≡ false → IsReached (cut_of r) k (suc d) p
      further reached off = go (suc d == r.setup.shape.dims) refl
        where
          go : (b : Bool) → (suc d == r.setup.shape.dims) ≡ b → IsReached (cut_of r) k (suc d) p
          go true e = law.flat k (suc d) p part
              (let q = eqb-true (suc d) r.setup.shape.dims e in omega (arith, q)) inside
          go false e =
              let now : flags_at r (suc (suc m)) V 0 G ≡ false =
              ap (λ (f : Flags). f V 0 G) (flags_take r (suc m) d vars path op_here)
              ∙ (rw e off) in
              let done : done_directions (op_of r (suc (suc m))) V 0 ≡ suc d =
              ap (λ o. done_directions o V 0) (next_op_is e) ∙ (rw (at_among vars i h) refl) in
              rw (now, done) at reached

      was_reached : IsReached (cut_of r) k (synced r (suc (suc m)) V 0) p
          → IsOutside (cut_of r) k d p → IsReached (cut_of r) k (synced r (suc m) V 0) p
      was_reached reached out = go (flags_at r (suc m) V 0 G) refl
        where
          go : (b : Bool) → flags_at r (suc m) V 0 G ≡ b
              → IsReached (cut_of r) k (synced r (suc m) V 0) p
          go true e = rw e (all_reached r k 3 p (omega arith) inside)
          go false e =
              let done : done_directions (op_of r (suc m)) V 0 ≡ d =
              ap (λ o. done_directions o V 0) op_here ∙ (rw (at_among vars i h) refl) in
              reached_at r (suc m) k d V p done
              (law.before k d p part (below t) (further reached e) out)

      exchanged_true : IsReached (cut_of r) k (synced r (suc (suc m)) V 0) p
          → local_values r.setup (local (cut_of r) k) y.numbers V 0 p ≡ truth V 0 p
      exchanged_true reached = go (law.split k d p part (below t) inside)
        where
          go : Received (cut_of r) k d p ⊎ IsOutside (cut_of r) k d p
              → local_values r.setup (local (cut_of r) k) y.numbers V 0 p ≡ truth V 0 p
          go (inl q) = received_true q.side q.from p q.partner_is q.inside i h
          go (inr out) =
              let grid = (exchange t).grid i h in
              let current = (exchange t).current i h in
              filled.kept V 0 p inside
              (λ e. ((λ q. absurd (out Low q)), (λ q. absurd (out High q))))
              ∙ a.numbers t V 0 p grid current.0 current.1 (was_reached reached out)

    -- another variable or level
    module _ (v : VarId) (level : ℕ) (off : (is_among v vars && level == 0) ≡ false) where
      same_flag : flags_at r (suc (suc m)) v level G ≡ flags_at r (suc m) v level G
      same_flag = ap (λ (f : Flags). f v level G) (flags_take r (suc m) d vars path op_here)
          ∙ go (suc d == r.setup.shape.dims)
        where
          go : (b : Bool) → (if b then exchanged vars (flags_at r (suc m)) else flags_at r (suc m))
              v level G ≡ flags_at r (suc m) v level G
          go true = rw off refl
          go false = refl

      same_done : done_directions (op_of r (suc (suc m))) v level
          ≡ done_directions (op_of r (suc m)) v level
      same_done = go (suc d == r.setup.shape.dims) refl
          ∙ sym (ap (λ o. done_directions o v level) op_here ∙ (rw off refl))
        where
          go : (b : Bool) → (suc d == r.setup.shape.dims) ≡ b
              → done_directions (op_of r (suc (suc m))) v level ≡ 0
          go true e = no_direction (op_of r (suc (suc m))) (next_op_none e) v level
          go false e = ap (λ o. done_directions o v level) (next_op_is e) ∙ (rw off refl)

      same_synced : synced r (suc (suc m)) v level ≡ synced r (suc m) v level
      same_synced = rw (same_flag, same_done) refl

      other_true : (p : Point) → is_scalar r.setup v ≡ false → v.0 < length r.setup.vars
          → level < levels_of r.setup v → IsReached (cut_of r) k (synced r (suc (suc m)) v level) p
          → local_values r.setup (local (cut_of r) k) y.numbers v level p ≡ truth v level p
      other_true p grid there few reached =
          filled.kept v level p reached.inside
          (λ e. absurd (let bad : true ≡ false = sym e ∙ off in cc))
          ∙ a.numbers t v level p grid there few
          (subst (λ z. IsReached (cut_of r) k z p) same_synced reached)

    numbers_true : (v : VarId) (level : ℕ) (p : Point) → is_scalar r.setup v ≡ false
        → v.0 < length r.setup.vars → level < levels_of r.setup v
        → IsReached (cut_of r) k (synced r (suc (suc m)) v level) p
        → local_values r.setup (local (cut_of r) k) y.numbers v level p
        ≡ at r.setup.shape (level_of (undivided r (suc (suc m))).state v level) p
    numbers_true v level p grid there few reached =
        go (is_among v vars && level == 0) refl
        ∙ ap (λ s. at r.setup.shape (level_of s v level) p)
        (sym (state_take r (suc m) d vars path op_here))
      where
        by_place : (i : ℕ) × (i < length vars) × (variable_at vars i ≡ v) → level ≡ 0
            → local_values r.setup (local (cut_of r) k) y.numbers v level p ≡ truth v level p
        by_place (i, h, e) z =
            let reached_0 = subst (λ (n : ℕ). IsReached (cut_of r) k (synced r (suc (suc m)) v n) p)
            z reached in
            let reached_i = subst
            (λ (u : VarId). IsReached (cut_of r) k (synced r (suc (suc m)) u 0) p) (sym e)
            reached_0 in
            let here_i = exchanged_true i h p reached.inside reached_i in
            let here_0 =
            subst (λ (u : VarId). local_values r.setup (local (cut_of r) k) y.numbers u 0 p
            ≡ truth u 0 p) e here_i in
            subst (λ (n : ℕ). local_values r.setup (local (cut_of r) k) y.numbers v n p
            ≡ truth v n p) (sym z) here_0

        go : (b : Bool) → (is_among v vars && level == 0) ≡ b
            → local_values r.setup (local (cut_of r) k) y.numbers v level p ≡ truth v level p
        go true e = by_place (among_at v vars (and_left (is_among v vars) (level == 0) e))
            (eqb-true level 0 (and_right (is_among v vars) (level == 0) e))
        go false e = other_true v level e p grid there few reached

  -- the field moves of Fits, at a Take
  pub took : Stands tells r oracle k (suc (suc m)) y
  took = record {
    count = goes.count ∙ ap (λ (n : ℕ). suc n) a.count;
    control = goes.control ∙ ap next a.control
        ∙ sym
        (ap (λ o. control_after r.setup o (scalar_of (guided r oracle (suc m)).state)
        (guided r oracle (suc m)).control) here);
    scalars = λ v h. filled.scalars v h ∙ a.scalars v h
        ∙ ap (λ s. scalar_of s v)
        (sym (ap (λ o. guided_state r oracle (suc m) o
        (guided r oracle (suc m)).control.iteration (guided r oracle (suc m)).state) here));
    sized = held_same r.setup (local (cut_of r) k) x.numbers y.numbers filled.sized a.sized;
    numbers = numbers_true;
  }

-- and the first operation is no Take
pub take_behind : (tells : Type 0) (r : Run) (oracle : Oracle) → Exchanges tells r oracle
    → (d : ℕ) (vars : List VarId) (path : List ℕ) → guided_op r oracle 0 ≡ Take d vars path → ⊥
take_behind tells r oracle ex d vars path e =
    let bad : ◌≡◌ {A = Option Pair} (Some (Exchange d vars)) None =
    sym (ap ends_pair e) ∙ ex.first in cc
