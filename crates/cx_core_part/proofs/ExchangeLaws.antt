-- What the exchange of ghost zones does, in the words of a run.
use Rattle.std.proofs.Common.{◌≡◌, ℕ, zero, suc, ◌%◌, ◌^◌, ◌<◌, arith, Bool, true, false, eqb, eq-eqb, refl, sym, ap, ◌∙◌, subst, ◌⊎◌, inl, inr, List, [], ◌∷◌, ◌++◌, take, drop, Option, Some, None, Result, Ok, Err}
use Rattle.std.specs.Prelude.{if◌then◌else◌, IfErr}
use Rattle.std.specs.List.{flat_map}
use Rattle.std.proofs.lemmas.Bool.{eqb-true}
use Rattle.cx_grid.specs.declared.boxes.Box3.{Box3}
use Rattle.cx_grid.specs.declared.shapes.Side.{Side}
use Rattle.cx_grid.specs.declared.shapes.Side.TheVariants.{Low, High}
use Rattle.cx_grid.specs.Boxes.{numbers_in}
use Rattle.cx_plan.specs.declared.variable.VarId.{VarId}
use Rattle.cx_plan.specs.Setups.{Setup}
use Rattle.cx_plan.specs.Lists.{or_else}
use Rattle.cx_rule.specs.Sweeps.{Values}
use Rattle.cx_cut.specs.Cuts.{Parts, part_count, local, face_of}
use Rattle.cx_cut.specs.Neighbours.{partner, Neighbours}
use Rattle.cx_field.specs.Patches.{PatchValue, values_in}
use Rattle.cx_wire.specs.Messages.{Sent as SentMail}
use Rattle.cx_ghost.specs.declared.faults.TakeFault.{TakeFault}
use Rattle.cx_ghost.specs.declared.faults.TakeFault.TheVariants as faults
use Rattle.cx_plan.specs.Lists.{only, is_at}
use Rattle.cx_ghost.specs.Posts as ghost
use Rattle.cx_ghost.specs.Posts.{Adds, own_faces}
use Rattle.cx_ghost.specs.Takes as takes
use Rattle.cx_ghost.specs.Takes.{needed, BeginsWith, missing, missing_from, TellsMissing, TakesNeeded, Fills, Keeps, behind_high, taken_count, taken_sum, sum_from, side_count, count_from}
use Rattle.cx_flat.specs.declared.op.Op.TheVariants.{Post}
use Rattle.law_parts.specs.Holding.{local_values}
use Rattle.law_parts.specs.Runs.{Run, cut_of}
use Rattle.law_parts.specs.Moves.{Message, Sent, held_values, faces_by, face_head}
use Rattle.cx_core_part.specs.Frames.{IsPatchOf}
use Rattle.cx_core_part.specs.Exchanges.{ShowsQueue, posted_to, Posts}
use Rattle.cx_core_part.proofs.FrameLaws.{same_patch}

-- ---- queues one by one

pub both_shown : {tells : Type 0} (p q : List (SentMail tells)) (ms ns : List (Message tells))
    → ShowsQueue p ms → ShowsQueue q ns → ShowsQueue (p ++ q) (ms ++ ns)
both_shown [] q [] ns h k = k
both_shown [] q (m ∷ ms) ns h k = absurd h
both_shown (p ∷ ps) q [] ns h k = absurd h
both_shown (p ∷ ps) q (m ∷ ms) ns h k = (h.0, both_shown ps q ms ns h.1 k)

pub drop_shown : {tells : Type 0} (n : ℕ) (q : List (SentMail tells)) (ms : List (Message tells))
    → ShowsQueue q ms → ShowsQueue (drop n q) (drop n ms)
drop_shown zero q ms h = h
drop_shown (suc n) [] [] h = tt
drop_shown (suc n) [] (m ∷ ms) h = absurd h
drop_shown (suc n) (p ∷ ps) [] h = absurd h
drop_shown (suc n) (p ∷ ps) (m ∷ ms) h = drop_shown n ps ms h.1

pub take_shown : {tells : Type 0} (n : ℕ) (q : List (SentMail tells)) (ms : List (Message tells))
    → ShowsQueue q ms → ShowsQueue (take n q) (take n ms)
take_shown zero q ms h = tt
take_shown (suc n) [] [] h = tt
take_shown (suc n) [] (m ∷ ms) h = absurd h
take_shown (suc n) (p ∷ ps) [] h = absurd h
take_shown (suc n) (p ∷ ps) (m ∷ ms) h = (h.0, take_shown n ps ms h.1)

if_shown : {tells : Type 0} (c : Bool) (q : List (SentMail tells)) (ms : List (Message tells))
    → ShowsQueue q ms → ShowsQueue (if c then q else []) (if c then ms else [])
if_shown true q ms h = h
if_shown false q ms h = tt

only_shown : {tells : Type 0} (c : Bool) (q : List (SentMail tells)) (ms : List (Message tells))
    → ShowsQueue q ms → ShowsQueue (only c q) (only c ms)
only_shown true q ms h = h
only_shown false q ms h = tt

-- ---- the values of a part

pub values_are : (setup : Setup) (cut : Parts) (k : ℕ) (p : PatchValue) → IsPatchOf setup cut k p
    → values_in p ≡ local_values setup (local cut k) p.numbers
values_are setup cut k p h =
    sym (ap values_in (same_patch setup p h.patch.shape h.patch.vars))
    ∙ ap (λ (b : Box3). local_values setup b p.numbers) h.local_is

-- ---- posting

module _ (tells : Type 0) (r : Run) (k d : ℕ) (vars : List VarId) (p : PatchValue)
    (patch : IsPatchOf r.setup (cut_of r) k p) (op n : ℕ) (count : op ≡ n % 2 ^ 64) where
  abbrev mine : Values
  mine = held_values r k p.numbers

  face_shown : (b : ℕ) (side : Side)
      → ShowsQueue {tells = tells}
      (ghost.posted_face (cut_of r) k d vars op (own_faces (cut_of r) k d vars p) b side)
      (only (is_at (partner (cut_of r) k d side) b)
      (Sent (face_head r n k d side vars) (faces_by r k mine d vars side) ∷ []))
  face_shown b side =
      only_shown (is_at (partner (cut_of r) k d side) b) _
      (Sent (face_head r n k d side vars) (faces_by r k mine d vars side) ∷ []) (
        (
          record { op = count; dir = refl; side = refl; count = refl },
          λ told. ap (λ (values : Values).
              flat_map (λ v. numbers_in (face_of (cut_of r) k d side) (values v 0)) vars)
              (values_are r.setup (cut_of r) k p patch),
        ),
        tt,
      )

  faces_shown : (b : ℕ) → ShowsQueue {tells = tells}
      (ghost.posted_faces (cut_of r) k d vars op (own_faces (cut_of r) k d vars p) b)
      (posted_to r k (Post d vars) n p.numbers b)
  faces_shown b = both_shown _ _ _ _ (face_shown b Low) (face_shown b High)

  pub posts : (cut : Parts) → cut_of r ≡ cut → (old new : ℕ → ℕ → List (SentMail tells))
      → Adds k (ghost.posted_faces cut k d vars op (own_faces cut k d vars p)) old new
      → Posts r k (Post d vars) n p.numbers old new
  posts cut same old new adds a b =
      let here : Adds k (ghost.posted_faces (cut_of r) k d vars op
      (own_faces (cut_of r) k d vars p)) old new =
      subst (λ c. Adds k (ghost.posted_faces c k d vars op (own_faces c k d vars p)) old new)
      (sym same) adds
      in (
        (if eqb a k then ghost.posted_faces (cut_of r) k d vars op (own_faces (cut_of r) k d vars p)
            b else []),
        here a b,
        if_shown (eqb a k) _ _ (faces_shown b),
      )

-- ---- what a part needs is there

module _ (c : Parts) (law : Neighbours c) (k d : ℕ) (part : k < part_count c) (dir : d < 3) where
  partner_at : (side : Side) (a : ℕ) → is_at (partner c k d side) a ≡ true → a < part_count c
  partner_at side a e = go (partner c k d side) refl e
    where
      go : (o : Option ℕ) → partner c k d side ≡ o → is_at o a ≡ true → a < part_count c
      go None same h = absurd cc
      go (Some j) same h = subst (λ i. i < part_count c) (eqb-true j a h)
          (law.there k d side j part dir same)

  none_needed : (a : ℕ) → (a < part_count c → ⊥) → needed c k d a ≡ []
  none_needed a far = go (is_at (partner c k d High) a) (is_at (partner c k d Low) a) refl refl
    where
      go : (h l : Bool) → is_at (partner c k d High) a ≡ h → is_at (partner c k d Low) a ≡ l
          → needed c k d a ≡ []
      go true l e f = absurd (far (partner_at High a e))
      go false true e f = absurd (far (partner_at Low a f))
      go false false e f = rw (e, f) refl

  module _ {tells : Type 0} (vars : List VarId) (q : ℕ → ℕ → List (SentMail tells))
      (there : (a : ℕ) → a < part_count c → BeginsWith c a d vars (needed c k d a) (q a k)) where
    pub is_ready : takes.IsReady c k d vars q
    is_ready a = go (cases a (part_count c))
      where
        cases : (a n : ℕ) → (a < n) ⊎ (a < n → ⊥)
        cases a zero = inr (λ l. absurd (omega (arith, l)))
        cases zero (suc n) = inl (omega arith)
        cases (suc a) (suc n) = more (cases a n)
          where
            more : (a < n) ⊎ (a < n → ⊥) → (suc a < suc n) ⊎ (suc a < suc n → ⊥)
            more (inl l) = inl (omega (arith, l))
            more (inr f) = inr (λ l. f (omega (arith, l)))

        go : (a < part_count c) ⊎ (a < part_count c → ⊥)
            → (q a k ≡ []) ⊎ BeginsWith c a d vars (needed c k d a) (q a k)
        go (inl l) = inr (there a l)
        go (inr far) =
            inr (subst (λ sides. BeginsWith c a d vars sides (q a k)) (sym (none_needed a far)) tt)

    none_missing_at : (side : Side) (o : Option ℕ) → partner c k d side ≡ o
        → missing_from o k q ≡ None
    none_missing_at side None e = refl
    none_missing_at side (Some a) e = go side (q a k) refl e
      where
        at : (s : Side) → partner c k d s ≡ Some a → is_at (partner c k d s) a ≡ true
        at s h = rw h (eq-eqb a a refl)

        go : (s : Side) (l : List (SentMail tells)) → q a k ≡ l → partner c k d s ≡ Some a
            → takes.missing_of (q a k) a k ≡ None
        go s (m ∷ ms) same h = rw same refl
        go High [] same h =
            let begins : BeginsWith {tells = tells} c a d vars
            (Low ∷ only (is_at (partner c k d Low) a) (High ∷ [])) [] =
            subst (λ l. BeginsWith {tells = tells} c a d vars
            (Low ∷ only (is_at (partner c k d Low) a) (High ∷ [])) l) same
            (subst (λ b. BeginsWith {tells = tells} c a d vars
            (only b (Low ∷ []) ++ only (is_at (partner c k d Low) a) (High ∷ [])) (q a k))
            (at High h) (there a (partner_at High a (at High h))))
            in absurd begins
        go Low [] same h = low (is_at (partner c k d High) a)
            (subst (λ l. BeginsWith {tells = tells} c a d vars
            (only (is_at (partner c k d High) a) (Low ∷ []) ++ High ∷ []) l) same
            (subst (λ b. BeginsWith {tells = tells} c a d vars
            (only (is_at (partner c k d High) a) (Low ∷ []) ++ only b (High ∷ [])) (q a k))
            (at Low h) (there a (partner_at Low a (at Low h)))))
          where
            low : (b : Bool) → BeginsWith {tells = tells} c a d vars
                (only b (Low ∷ []) ++ High ∷ []) [] → takes.missing_of (q a k) a k ≡ None
            low true begins = absurd begins
            low false begins = absurd begins

    pub none_missing : missing c k d q ≡ None
    none_missing =
        ap (λ o. or_else o (missing_from (partner c k d Low) k q))
        (none_missing_at High (partner c k d High) refl)
        ∙ none_missing_at Low (partner c k d Low) refl

    pub wire_alone : {A : Type 0} (result : Result A TakeFault)
        → TellsMissing (missing c k d q) result → IfErr result (λ e. e ≡ faults.Wire)
    wire_alone result h = go result (subst (λ o. TellsMissing o result) none_missing h)
      where
        go : {A : Type 0} (result : Result A TakeFault) → TellsMissing None result
            → IfErr result (λ e. e ≡ faults.Wire)
        go (Ok x) h = tt
        go (Err (faults.NotYet a b)) h = absurd h
        go (Err faults.Wire) h = refl
