-- The law of the exchange: from the directions below d to those below d + 1.
use Rattle.std.proofs.Common.{◌≡◌, ℕ, zero, suc, ◌+◌, ◌*◌, ◌<◌, ◌≤◌, Bool, true, false, IsTrue, List, [], ◌∷◌, ◌++◌, length, drop, arith, refl, sym, ap, ◌∙◌, subst, ℤ, pos, Some, ◌⊎◌, inl, inr}
use Rattle.std.specs.Prelude.{slice_index_or, if◌then◌else◌}
use Rattle.cx_grid.specs.declared.boxes.Point.{Point}
use Rattle.cx_grid.specs.declared.shapes.Side.{Side}
use Rattle.cx_grid.specs.declared.shapes.Side.TheVariants.{Low, High}
use Rattle.cx_grid.specs.Boxes.{IsIn, point_count, index_in, point_in, numbers_in}
use Rattle.cx_grid.proofs.Places.{index_below, point_inside}
use Rattle.cx_plan.specs.declared.variable.VarId.{VarId}
use Rattle.cx_cut.specs.Cuts.{Parts, IsWhole, part_count, local, face_of, halo_of}
use Rattle.cx_cut.specs.Exchange.{other}
use Rattle.cx_cut.specs.Neighbours.{partner, Neighbours, Received, IsOutside}
use Rattle.cx_cut.proofs.NeighbourLaws.{neighbours}
use Rattle.cx_field.specs.Patches.{PatchValue, values_in}
use Rattle.cx_field.specs.Faces.{variable_at, box_numbers}
use Rattle.cx_ghost.specs.Posts.{face_head, own_faces}
use Rattle.cx_ghost.specs.Takes.{BeginsWith, front_values, behind_high}
use Rattle.cx_ghost.specs.Rounds.{Told, Truth, IsTruth, AgreeBelow, in_queues, IsRound, IsExchange, BeginsTrue, RoundsReach, AllReached, PostsAreNeeded}
use Rattle.cx_ghost.proofs.Pieces.{piece_number, numbers_length, number_in}
use Rattle.cx_ghost.proofs.Sides.{some_at, to_high, to_low}
use Rattle.cx_plan.specs.Lists.{only, is_at}

law_of : (c : Parts) → IsWhole c → Neighbours c
law_of c w = neighbours c w.cut w.shape

-- ---- what is posted is what is needed

module _ (c : Parts) (a d : ℕ) (vars : List VarId) (op : ℕ) (values : Side → IsTrue true → List ℤ)
    (behind : List Told) where
  abbrev low : Told
  low = record { head = face_head c a d vars op Low; values = values Low }

  abbrev high : Told
  high = record { head = face_head c a d vars op High; values = values High }

  begins : (h l : Bool) → BeginsWith c a d vars (only h (Low ∷ []) ++ only l (High ∷ []))
      (only h (low ∷ []) ++ only l (high ∷ []) ++ behind)
  begins true true = (
    record { direction = refl; side_is = refl; count = refl },
    (record { direction = refl; side_is = refl; count = refl }, tt),
  )
  begins true false = (record { direction = refl; side_is = refl; count = refl }, tt)
  begins false true = (record { direction = refl; side_is = refl; count = refl }, tt)
  begins false false = tt

  leaves : (h l : Bool) → drop (length (only h (Low ∷ []) ++ only l (High ∷ [])))
      (only h (low ∷ []) ++ only l (high ∷ []) ++ behind) ≡ behind
  leaves true true = refl
  leaves true false = refl
  leaves false true = refl
  leaves false false = refl

pub posts_are_needed : PostsAreNeeded
posts_are_needed c w d hd a k ha hk vars op values behind =
    let h3 : d < 3 = omega (arith, hd, w.shape.most) in
    let h = to_high c (law_of c w) d h3 a k ha hk in
    let l = to_low c (law_of c w) d h3 a k ha hk in
    record {
      begins =
          rw (h, l) (begins c a d vars op values behind (is_at (partner c k d High) a)
          (is_at (partner c k d Low) a));
      leaves =
          rw (h, l) (leaves c a d vars op values behind (is_at (partner c k d High) a)
          (is_at (partner c k d Low) a));
    }

-- ---- one round

module _ (c : Parts) (w : IsWhole c) (vars : List VarId) (truth : Truth) (named : IsTruth c truth)
    (d : ℕ) (hd : d < 3) (old new : ℕ → PatchValue)
    (mine : (k : ℕ) → k < part_count c → (old k).local ≡ local c k) (r : IsRound c d vars old new)
    (agree : (k : ℕ) → k < part_count c → AgreeBelow c k d vars truth (old k)) (k : ℕ)
    (hk : k < part_count c) where
  law : Neighbours c
  law = law_of c w

  -- the patch stays that of its part
  pub still_mine : (new k).local ≡ local c k
  still_mine = ap (λ (p : PatchValue). p.local) ((r.keeps k hk).frame) ∙ mine k hk

  abbrev queues : ℕ → ℕ → List Told
  queues = in_queues c d vars old r.op r.behind

  high_values : (a : ℕ) → partner c k d High ≡ Some a
      → front_values {tells = IsTrue true} refl (queues a k)
      ≡ box_numbers (old a) (face_of c a d Low) vars
  high_values a e =
      let to_me = some_at (partner c a d Low) k (law.back k d High a hk hd e) in
      rw to_me refl

  low_values : (a : ℕ) → partner c k d Low ≡ Some a
      → front_values {tells = IsTrue true} refl (behind_high c k d queues a)
      ≡ box_numbers (old a) (face_of c a d High) vars
  low_values a e =
      let ha = law.there k d Low a hk hd e in
      let to_me = some_at (partner c a d High) k (law.back k d Low a hk hd e) in
      let both = to_high c law d hd a k ha hk in
      rw (to_me, both) (go (is_at (partner c k d High) a))
    where
      go : (h : Bool) → front_values {tells = IsTrue true} refl (drop (if h then 1 else 0)
          (only h
          (record {
            head = face_head c a d vars (r.op a) Low;
            values = own_faces c a d vars (old a) Low;
          } ∷ [])
          ++ only true
          (record {
            head = face_head c a d vars (r.op a) High;
            values = own_faces c a d vars (old a) High;
          } ∷ []) ++ r.behind a k))
          ≡ box_numbers (old a) (face_of c a d High) vars
      go true = refl
      go false = refl

  -- a number of a neighbour's face is that of the point of the halo
  value : (side : Side) (a : ℕ) (p : Point) → partner c k d side ≡ Some a
      → IsIn (halo_of c k d side) p → (i : ℕ) → i < length vars
      → slice_index_or (box_numbers (old a) (face_of c a d (other side)) vars)
      (i * point_count (halo_of c k d side) + index_in (halo_of c k d side) p) (pos 0)
      ≡ truth (variable_at vars i) p
  value side a p e inside i h =
      let ha = law.there k d side a hk hd e in
      let counts = law.counts k d side a hk hd e in
      let j = index_in (halo_of c k d side) p in
      let short : index_in (halo_of c k d side) p < point_count (face_of c a d (other side)) =
      rw counts (index_below (halo_of c k d side) p inside) in
      ap (λ n. slice_index_or (box_numbers (old a) (face_of c a d (other side)) vars)
      (i * n + index_in (halo_of c k d side) p) (pos 0)) (sym counts)
      ∙ piece_number (λ v. numbers_in (face_of c a d (other side)) (values_in (old a) v 0))
      (point_count (face_of c a d (other side)))
      (λ v. numbers_length (face_of c a d (other side)) (values_in (old a) v 0)) vars i
      (index_in (halo_of c k d side) p) h short
      ∙ number_in (face_of c a d (other side)) (values_in (old a) (variable_at vars i) 0)
      (index_in (halo_of c k d side) p) short
      ∙ agree a ha i h (point_in (face_of c a d (other side)) (index_in (halo_of c k d side) p))
      (law.face_reached a d (other side) _ ha hd
      (point_inside (face_of c a d (other side)) (index_in (halo_of c k d side) p) short))
      ∙ named (variable_at vars i) _ p (law.same k d side a p hk hd e inside)

  received : (side : Side) (a : ℕ) (p : Point) → partner c k d side ≡ Some a
      → IsIn (halo_of c k d side) p → IsIn (local c k) p → (i : ℕ) → i < length vars
      → values_in (new k) (variable_at vars i) 0 p ≡ truth (variable_at vars i) p
  received Low a p e inside near i h =
      (r.fills k hk).low refl a e i p h inside (subst (λ b. IsIn b p) (sym still_mine) near)
      ∙ ap (λ zs. slice_index_or zs
      (i * point_count (halo_of c k d Low) + index_in (halo_of c k d Low) p) (pos 0))
      (low_values a e)
      ∙ value Low a p e inside i h
  received High a p e inside near i h =
      (r.fills k hk).high refl a e i p h inside (subst (λ b. IsIn b p) (sym still_mine) near)
      ∙ ap (λ zs. slice_index_or zs
      (i * point_count (halo_of c k d High) + index_in (halo_of c k d High) p) (pos 0))
      (high_values a e)
      ∙ value High a p e inside i h

  pub further : AgreeBelow c k (suc d) vars truth (new k)
  further i h p reached = go (law.split k d p hk hd reached.inside)
    where
      go : Received c k d p ⊎ IsOutside c k d p
          → values_in (new k) (variable_at vars i) 0 p ≡ truth (variable_at vars i) p
      go (inl q) = received q.side q.from p q.partner_is q.inside reached.inside i h
      go (inr out) =
          (r.keeps k hk).kept (variable_at vars i) 0 p
          (subst (λ b. IsIn b p) (sym (mine k hk)) reached.inside)
          (λ e side inside. absurd (out side inside))
          ∙ agree k hk i h p (law.before k d p hk hd reached out)

-- ---- all rounds

module _ (c : Parts) (vars : List VarId) (after : ℕ → ℕ → PatchValue) (ex : IsExchange c vars after)
    (truth : Truth) (named : IsTruth c truth) (begin : BeginsTrue c vars truth after) where
  -- what holds after the rounds of the directions below d
  record Reached (d k : ℕ) : Type 0 where
    mine : (after d k).local ≡ local c k
    agrees : AgreeBelow c k d vars truth (after d k)

  reach : (d : ℕ) → d ≤ c.shape.dims → (k : ℕ) → k < part_count c → Reached d k
  reach zero l k hk = record { mine = ex.parts k hk; agrees = begin k hk }
  reach (suc d) l k hk =
      let before : (j : ℕ) → j < part_count c
      → Reached d j = λ j hj. reach d (omega (arith, l)) j hj in
      let h3 : d < 3 = omega (arith, l, ex.whole.shape.most) in
      let r = ex.rounds d (omega (arith, l)) in
      record {
        mine = still_mine c ex.whole vars truth named d h3 (after d) (after (suc d))
            (λ j hj. (before j hj).mine) r (λ j hj. (before j hj).agrees) k hk;
        agrees = further c ex.whole vars truth named d h3 (after d) (after (suc d))
            (λ j hj. (before j hj).mine) r (λ j hj. (before j hj).agrees) k hk;
      }

  pub all_reached : (k : ℕ) → k < part_count c → (i : ℕ) → i < length vars → (y : Point)
      → IsIn (local c k) y
      → values_in (after c.shape.dims k) (variable_at vars i) 0 y ≡ truth (variable_at vars i) y
  all_reached k hk i h y near =
      (reach c.shape.dims (omega arith) k hk).agrees i h y
      ((law_of c ex.whole).flat k c.shape.dims y hk (omega arith) near)

pub rounds_reach : RoundsReach
rounds_reach c vars after ex truth named begin d l k hk =
    (reach c vars after ex truth named begin d l k hk).agrees

pub all_agree : AllReached
all_agree c vars after ex truth named begin k hk i h y near =
    all_reached c vars after ex truth named begin k hk i h y near
