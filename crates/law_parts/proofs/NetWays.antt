-- What the network's theorem asks of the way alone.
use Rattle.cx_model.specs.Turns.{values_of}
use Rattle.std.proofs.Common.{◌≡◌, ℕ, zero, suc, ◌≤◌, ◌<◌, ◌⊎◌, inl, inr, Bool, true, false, ltb, ℤ, List, [], ◌∷◌, length, Some, None, refl, sym, ap, ◌∙◌, arith, cond}
use Rattle.std.proofs.lemmas.Bool.{cases_lt, cases_eq, and_parts, ltb-true}
use Rattle.cx_plan.specs.declared.variable.VarId.{VarId}
use Rattle.cx_model.specs.States.{State}
use Rattle.cx_flat.specs.declared.op.Op.{Op}
use Rattle.cx_flat.specs.Flats.{Control, control_after}
use Rattle.cx_flat.specs.Ways.{opened_key, Less, WayEnds}
use Rattle.cx_flat.proofs.AtLaws.{halt_is}
use Rattle.law_network.proofs.Keys.{lead_nears}
use Rattle.law_parts.specs.Runs.{Run, Oracle, undivided, guided, last_of, parts_in}
use Rattle.law_parts.specs.Moves.{Message, Channel, sender, receiver, is_there, op_wants, op_posts, op_hands, buffer_of, faces_by, piece_by, state_by}
use Rattle.law_parts.specs.Truths.{script}
use Rattle.law_parts.specs.Nets.{Nearness, net, round, within_lead}
use Rattle.law_parts.specs.Operations.{NamesWell}
use Rattle.law_parts.proofs.Ways.{IsMutual, wants_none, pair_counts, scalars_at, op_there, key_rises, first_quiet, pair_there, still_there}
use Rattle.cx_flat.specs.declared.op.Op.TheVariants as op

-- ---- pieces of an operation

op_piece : {tells : Type 0} (r : Run) (o : Op) (n b : ℕ) (piece : VarId → tells → List ℤ)
    (all : tells → State) → buffer_of r o ≡ Some b → length (op_hands r o n piece all) ≡ 1
op_piece r (op.Sweep k) n b piece all e = absurd cc
op_piece r (op.Apply k) n b piece all e = absurd cc
op_piece r (op.Give k) n b piece all e = absurd cc
op_piece r (op.Join k) n b piece all e = absurd cc
op_piece r (op.Post d vars) n b piece all e = absurd cc
op_piece r (op.Take d vars path) n b piece all e = absurd cc
op_piece r (op.Test v path skip) n b piece all e = absurd cc
op_piece r op.Open n b piece all e = absurd cc
op_piece r (op.Turn v path skip) n b piece all e = absurd cc
op_piece r (op.Again back) n b piece all e = absurd cc
op_piece r op.Rotate n b piece all e = absurd cc
op_piece r (op.Due skip) n b piece all e = absurd cc
op_piece r (op.Written skip) n b piece all e = absurd cc
op_piece r (op.Skip skip) n b piece all e = absurd cc
op_piece r (op.Next back) n b piece all e = absurd cc
op_piece r (op.Piece v) n b piece all e = refl
op_piece r op.Save n b piece all e = refl
op_piece r op.Halt n b piece all e = absurd cc

op_no_piece : {tells : Type 0} (r : Run) (o : Op) (n : ℕ) (piece : VarId → tells → List ℤ)
    (all : tells → State) → buffer_of r o ≡ None → op_hands r o n piece all ≡ []
op_no_piece r (op.Sweep k) n piece all e = refl
op_no_piece r (op.Apply k) n piece all e = refl
op_no_piece r (op.Give k) n piece all e = refl
op_no_piece r (op.Join k) n piece all e = refl
op_no_piece r (op.Post d vars) n piece all e = refl
op_no_piece r (op.Take d vars path) n piece all e = refl
op_no_piece r (op.Test v path skip) n piece all e = refl
op_no_piece r op.Open n piece all e = refl
op_no_piece r (op.Turn v path skip) n piece all e = refl
op_no_piece r (op.Again back) n piece all e = refl
op_no_piece r op.Rotate n piece all e = refl
op_no_piece r (op.Due skip) n piece all e = refl
op_no_piece r (op.Written skip) n piece all e = refl
op_no_piece r (op.Skip skip) n piece all e = refl
op_no_piece r (op.Next back) n piece all e = refl
op_no_piece r (op.Piece v) n piece all e = absurd cc
op_no_piece r op.Save n piece all e = absurd cc
op_no_piece r op.Halt n piece all e = refl

less_first : (x y : ℕ) (xs ys : List ℕ) → Less (x ∷ xs) (y ∷ ys) → x ≤ y
less_first x y xs ys (inl l) = omega arith
less_first x y xs ys (inr l) = let e : x ≡ y = l.0 in omega arith

module _ (tells : Type 0) (Near : Nearness) (r : Run) (oracle : Oracle)
    (ends : WayEnds r.setup r.first.control r.most (scalars_at r oracle)) where
  there_parts : (c : Channel) → is_there r c ≡ true
      → (sender c < parts_in r) × (receiver c < parts_in r)
  there_parts c e =
      let p = and_parts (ltb (sender c) (parts_in r)) (ltb (receiver c) (parts_in r)) e in
      (ltb-true (sender c) (parts_in r) p.0, ltb-true (receiver c) (parts_in r) p.1)

  abbrev posts_there : Channel → ℕ → List (Message tells)
  posts_there c n = op_posts r (op_there r oracle n) n
      (faces_by {tells = tells} r (sender c) (values_of r.setup (undivided r n).state))
      (λ i. oracle (sender c) n) c

  pub fits_among : (c : Channel) (n : ℕ) → 0 < length ((script tells r oracle).mail c n)
      → (sender c < parts_in r) × (receiver c < parts_in r)
  fits_among c n l = go (is_there r c) refl
    where
      go : (b : Bool) → is_there r c ≡ b → (sender c < parts_in r) × (receiver c < parts_in r)
      go true e = there_parts c e
      go false e = let z : length ((script tells r oracle).mail c n) ≡ 0 =
          ap (λ b. length (cond b (posts_there c n) [])) e in absurd (omega arith)

  pub fits_first : (c : Channel)
      → (net tells Near r oracle).wants c ((net tells Near r oracle).way 0) ≡ 0
  fits_first c = go (is_there r c) refl
    where
      go : (b : Bool) → is_there r c ≡ b
          → cond (is_there r c) (op_wants r (op_there r oracle 0) c) 0 ≡ 0
      go true e = ap (λ b. cond b (op_wants r (op_there r oracle 0) c) 0) e
          ∙ wants_none r (op_there r oracle 0) c (first_quiet r oracle ends)
      go false e = ap (λ b. cond b (op_wants r (op_there r oracle 0) c) 0) e

  pub fits_pairs : IsMutual r → r.setup.shape.dims ≤ 3
      → ((n : ℕ) → NamesWell r.setup (op_there r oracle n)) → (c : Channel) (n : ℕ)
      → (net tells Near r oracle).wants c ((net tells Near r oracle).way (suc n))
      ≡ length ((script tells r oracle).mail c n)
  fits_pairs both few names c n = go (is_there r c) refl
    where
      go : (b : Bool) → is_there r c ≡ b
          → cond (is_there r c) (op_wants r (op_there r oracle (suc n)) c) 0
          ≡ length (cond (is_there r c) (posts_there c n) [])
      go true e =
          let p = there_parts c e in
          ap (λ b. cond b (op_wants r (op_there r oracle (suc n)) c) 0) e
          ∙ pair_counts r both few (op_there r oracle n) (op_there r oracle (suc n)) (names n)
          (pair_there r oracle ends n) n
          (faces_by {tells = tells} r (sender c) (values_of r.setup (undivided r n).state))
          (λ i. oracle (sender c) n) c p.0 p.1
          ∙ sym (ap (λ b. length (cond b (posts_there c n) [])) e)
      go false e = ap (λ b. cond b (op_wants r (op_there r oracle (suc n)) c) 0) e
          ∙ sym (ap (λ b. length (cond b (posts_there c n) [])) e)

  pub fits_piece : (k n b : ℕ)
      → (net tells Near r oracle).buffer ((net tells Near r oracle).way n) ≡ Some b
      → length ((script tells r oracle).piece k n) ≡ 1
  fits_piece k n b e = op_piece r (op_there r oracle n) n b
      (piece_by r k (values_of r.setup (undivided r n).state))
      (state_by r k (values_of r.setup (undivided r n).state) (undivided r n).state) e

  pub fits_no_piece : (k n : ℕ)
      → (net tells Near r oracle).buffer ((net tells Near r oracle).way n) ≡ None
      → (script tells r oracle).piece k n ≡ []
  fits_no_piece k n e = op_no_piece r (op_there r oracle n) n
      (piece_by r k (values_of r.setup (undivided r n).state))
      (state_by r k (values_of r.setup (undivided r n).state) (undivided r n).state) e

  -- iterations never fall
  round_next : (n : ℕ) → round (guided r oracle n).control ≤ round (guided r oracle (suc n)).control
  round_next n = go (cases_lt n (last_of r oracle))
    where
      go : (n < last_of r oracle) ⊎ (last_of r oracle ≤ n)
          → round (guided r oracle n).control ≤ round (guided r oracle (suc n)).control
      go (inl l) = let a = (guided r oracle n).control in
          let b = (guided r oracle (suc n)).control in
          less_first a.iteration b.iteration (opened_key a.opened a.pc) (opened_key b.opened b.pc)
          (key_rises r oracle ends n l)
      go (inr l) =
          let h : op_there r oracle n ≡ op.Halt =
          halt_is (op_there r oracle n) (still_there r oracle ends n l) in
          let e : round (guided r oracle (suc n)).control ≡ round (guided r oracle n).control =
          ap (λ o. round (control_after r.setup o (scalars_at r oracle n)
          (guided r oracle n).control)) h in
          omega arith

  pub rounds_rise : (m n : ℕ) → m ≤ n
      → round (guided r oracle m).control ≤ round (guided r oracle n).control
  rounds_rise m zero l = let e : m ≡ 0 = omega arith in rw e (omega arith)
  rounds_rise m (suc n) l = go (rounds_rise m n) (cases_eq m (suc n))
    where
      go : (m ≤ n → round (guided r oracle m).control ≤ round (guided r oracle n).control)
          → (m ≡ suc n) ⊎ (m ≡ suc n → ⊥)
          → round (guided r oracle m).control ≤ round (guided r oracle (suc n)).control
      go more (inl e) = rw e (omega arith)
      go more (inr e) = omega (arith, more (omega arith), round_next n)

  pub fits_lead : (place : ℕ → ℕ) (look : ℕ → Control) (wrote k : ℕ) → k < parts_in r
      → ((j : ℕ) → j < parts_in r → look j ≡ (guided r oracle (place j)).control)
      → ((j : ℕ) → j < parts_in r → place k ≤ place j) → within_lead r oracle place look wrote k
  fits_lead place look wrote k l looks hind =
      lead_nears (parts_in r) r.lead round (λ n. (guided r oracle n).control)
      rounds_rise place look wrote k l looks hind
