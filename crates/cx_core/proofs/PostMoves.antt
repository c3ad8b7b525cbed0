-- Posting: a part's faces stand at the ends of its queues.
use Rattle.std.proofs.Common.{◌≡◌, ℕ, zero, suc, ◌<◌, ◌≤◌, ◌⊎◌, inl, inr, false, List, [], ◌∷◌, ◌++◌, set, length, cond, eqb, drop, Option, Some, None, refl, sym, ap, ◌∙◌, subst, arith}
use Rattle.std.specs.Prelude.{slice_get}
use Rattle.std.proofs.lemmas.Bool.{cases_eq, ne_eqb, cond-false}
use Rattle.cx_grid.specs.declared.shapes.Side.{Side}
use Rattle.cx_grid.specs.declared.shapes.Side.TheVariants.{Low, High}
use Rattle.cx_plan.specs.declared.variable.VarId.{VarId}
use Rattle.cx_rule.specs.Meter.{raised, raised_none}
use Rattle.cx_rule.specs.States.{scalar_of}
use Rattle.cx_cut.specs.Neighbours.{partner}
use Rattle.cx_field.specs.Patches.{PatchValue}
use Rattle.cx_flat.specs.declared.op.Op.TheVariants as op
use Rattle.cx_flat.specs.Flats.{control_after}
use Rattle.law_network.specs.Machine.{taken_now, queue_after}
use Rattle.cx_wire.specs.Messages.{Sent as SentMail}
use Rattle.law_parts.specs.Moves.{Message, Sent, Channel, Wire, Board, sender, receiver, is_there, face_head, op_wants, op_posts, faces_by, number_by, held_values, Moves}
use Rattle.law_parts.specs.Nets.{points_of, values_of_op}
use Rattle.law_parts.specs.Operations.{NamesWell, IsExchange}
use Rattle.law_parts.specs.Runs.{Run, cut_of, parts_in}
use Rattle.law_parts.proofs.PairLaws.{are_there}
use Rattle.law_parts.proofs.WholeRun.{law, names_at, shape}
use Rattle.cx_core_part.specs.Exchanges.{ShowsMessage, ShowsQueue, Posts, posted_to}
use Rattle.cx_core_events.specs.Events.{work_of}
use Rattle.cx_core_events.specs.Steps.{moved_on}
use Rattle.cx_core_buffers.specs.Gathering.{HasRoom}
use Rattle.cx_core.specs.Cores.{Cores}
use Rattle.cx_core.specs.Shows.{ShowsPart, kinds_by}
use Rattle.cx_core.specs.Steps.{Counts}
use Rattle.cx_core.proofs.ZipLaws.{zip_append}
use Rattle.cx_core.proofs.MovedStates.{LedTo, Ready, world, its, next, network, moved_at}
use Rattle.cx_core.proofs.QuietMoves.{cond_both, drop_zero, boards_kept, kinds_kept, pieces_kept, hands_by, values_none, sum_none}
use Rattle.cx_core.proofs.QuietOperations.{held_with}
use Rattle.cx_plan.specs.Lists.{only, is_at}

pub set_there : {A : Type 0} (xs : List A) (k : ℕ) (x : A) → slice_get xs k ≡ Some x
    → set xs k x ≡ xs
set_there [] k x e = refl
set_there (y ∷ ys) zero x e = ap (λ z. z ∷ ys) (inside y x e)
  where
    inside : {A : Type 0} (a b : A) → Some a ≡ Some b → b ≡ a
    inside a b q = cc
set_there (y ∷ ys) (suc k) x e = ap (λ zs. y ∷ zs) (set_there ys k x e)

nothing : {tells : Type 0} (q : List (SentMail tells)) → ShowsQueue q [] → q ≡ []
nothing [] h = refl
nothing (m ∷ q) h = absurd h

module _ {tells : Type 0} {r : Run} {first : Counts} {old : Cores}
    {queue : ℕ → ℕ → List (SentMail tells)} {now : Counts} {k : ℕ}
    (s : Ready tells r first old queue now k) where
  -- all but where the part stands, queues and buffers is as before
  pub record LeavesPart (new : Cores) (later : Counts) : Type 0 where
    pub patch : PatchValue
    pub patch_is : slice_get old.patches k ≡ Some patch
    pub patches_are : new.patches ≡ old.patches
    pub lengths_are : new.lengths ≡ old.lengths
    pub outcome_is : new.outcome ≡ old.outcome
    pub met_is : new.met ≡ old.met
    pub pace_is : new.pace ≡ moved_on r.setup old.pace k (scalar_of (its s).numbers)
    pub points_are : later.points ≡ now.points
    pub values_are : later.values ≡ now.values
    pub sum_is : (t : tells) → later.sum ≡ now.sum

  module _ (new : Cores) (later : Counts) (l : LeavesPart new later) where
    pub still_shown : ShowsPart r k l.patch (its s)
    still_shown = s.at.shows.patches k l.patch l.patch_is

    pub shown_with : ShowsPart r k l.patch (held_with s (its s).numbers)
    shown_with = record { frame = still_shown.frame; numbers = still_shown.numbers }

    pub patches_set : new.patches ≡ set old.patches k l.patch
    patches_set = l.patches_are ∙ sym (set_there old.patches k l.patch l.patch_is)

    pub points_none : points_of r k (next s) ≡ 0
        → later.points ≡ raised now.points (points_of r k (next s))
    points_none e = l.points_are ∙ raised_none now.points ∙ ap (raised now.points) (sym e)

  -- what is posted on a channel is at its end
  pub queue_grown : (c : Channel) → op_wants r (next s) c ≡ 0
      → queue_after (network s) (world s) k c
      ≡ (world s).queue c ++ cond (eqb (sender c) k) ((network s).posts c (its s)) []
  queue_grown c e =
      ap (λ n. cond (eqb (receiver c) k) (drop n ((world s).queue c)) ((world s).queue c)
      ++ cond (eqb (sender c) k) ((network s).posts c (its s)) [])
      (ap (λ n. cond (is_there r c) n 0) e ∙ cond_both (is_there r c) 0)
      ∙ ap (λ q. cond (eqb (receiver c) k) q ((world s).queue c)
      ++ cond (eqb (sender c) k) ((network s).posts c (its s)) [])
      (drop_zero ((world s).queue c))
      ∙ ap (λ q. q ++ cond (eqb (sender c) k) ((network s).posts c (its s)) [])
      (cond_both (eqb (receiver c) k) ((world s).queue c))

  pub posts_there : (c : Channel) → sender c < parts_in r → receiver c < parts_in r
      → (network s).posts c (its s)
      ≡ op_posts r (next s) (its s).count
      (faces_by r (sender c) (held_values r (sender c) (its s).numbers))
      (number_by r (sender c) (held_values r (sender c) (its s).numbers)) c
  posts_there c l m =
      ap (λ b. cond b (op_posts r (next s) (its s).count
      (faces_by r (sender c) (held_values r (sender c) (its s).numbers))
      (number_by r (sender c) (held_values r (sender c) (its s).numbers)) c) []) (are_there r c l m)

  module _ (d : ℕ) (vars : List VarId) (is : next s ≡ op.Post d vars) (new : Cores)
      (after : ℕ → ℕ → List (SentMail tells)) (later : Counts) (l : LeavesPart new later)
      (posts : Posts r k (op.Post d vars) (its s).count l.patch.numbers queue after) where
    posted : (a b : ℕ) → a < parts_in r → b < parts_in r
        → cond (eqb a k) (posted_to {tells = tells} r k (op.Post d vars)
        (its s).count l.patch.numbers b) []
        ≡ cond (eqb a k) ((network s).posts (Wire a b) (its s)) []
    posted a b i j = go (cases_eq a k)
      where
        here : (c : ℕ) → c ≡ k → c < parts_in r
            → posted_to {tells = tells} r k (op.Post d vars) (its s).count l.patch.numbers b
            ≡ (network s).posts (Wire c b) (its s)
        here c e m =
            ap (λ numbers. posted_to r k (op.Post d vars) (its s).count numbers b)
            (still_shown new later l).numbers
            ∙ ap (λ p. posted_to r k p (its s).count (its s).numbers b) (sym is)
            ∙ ap (λ z. op_posts r (next s) (its s).count
            (faces_by r z (held_values r z (its s).numbers))
            (number_by r z (held_values r z (its s).numbers)) (Wire z b)) (sym e)
            ∙ sym (posts_there (Wire c b) m j)

        go : (a ≡ k) ⊎ (a ≡ k → ⊥)
            → cond (eqb a k) (posted_to {tells = tells} r k (op.Post d vars)
            (its s).count l.patch.numbers b) []
            ≡ cond (eqb a k) ((network s).posts (Wire a b) (its s)) []
        go (inl e) = ap (λ ms. cond (eqb a k) ms []) (here a e i)
        go (inr n) = cond-false (eqb a k) _ [] (ne_eqb a k n)
            ∙ sym (cond-false (eqb a k) _ [] (ne_eqb a k n))

    wires : (a b : ℕ) → a < parts_in r → b < parts_in r
        → ShowsQueue (after a b) (queue_after (network s) (world s) k (Wire a b))
    wires a b i j =
        let p = posts a b in
        subst (λ q. ShowsQueue (after a b) q)
        (sym (queue_grown (Wire a b) (ap (λ o. op_wants r o (Wire a b)) is)))
        (subst (λ q. ShowsQueue q
        ((world s).queue (Wire a b)
        ++ cond (eqb a k) ((network s).posts (Wire a b) (its s)) [])) (sym p.1)
        (zip_append ShowsMessage (queue a b) p.0 ((world s).queue (Wire a b))
        (cond (eqb a k) ((network s).posts (Wire a b) (its s)) [])
        (s.at.shows.wires a b i j) (subst (λ q. ShowsQueue p.0 q) (posted a b i j) p.2)))

    -- a partner is a part
    below : d < 3
    below = by (subst (NamesWell r.setup) is (names_at r s.run (its s).control.pc))
        (shape r s.run).most
      where
        by : IsExchange r.setup d vars → r.setup.shape.dims ≤ 3 → d < 3
        by e m = let q = e.direction in omega (arith, q, m)

    no_partner : (b : ℕ) → (b < parts_in r → ⊥) → (side : Side)
        → is_at (partner (cut_of r) k d side) b ≡ false
    no_partner b none side = go (partner (cut_of r) k d side) refl
      where
        go : (o : Option ℕ) → partner (cut_of r) k d side ≡ o → is_at o b ≡ false
        go None e = refl
        go (Some j) e = ne_eqb j b
            (λ same. none (subst (λ n. n < parts_in r) same
            ((law r s.run).there k d side j s.part below e)))

    nothing_posted : (b : ℕ) → (b < parts_in r → ⊥)
        → posted_to {tells = tells} r k (op.Post d vars) (its s).count l.patch.numbers b ≡ []
    nothing_posted b none =
        let faces = faces_by {tells = tells} r k (held_values r k l.patch.numbers) d vars in
        let low : List (Message tells) =
        Sent (face_head r (its s).count k d Low vars) (faces Low) ∷ [] in
        let high : List (Message tells) =
        Sent (face_head r (its s).count k d High vars) (faces High) ∷ [] in
        ap (λ x. only x low ++ only (is_at (partner (cut_of r) k d High) b) high)
        (no_partner b none Low)
        ∙ ap (λ y. only y high) (no_partner b none High)

    others : (a b : ℕ) → (a < parts_in r → b < parts_in r → ⊥) → after a b ≡ []
    others a b n =
        let p = posts a b in
        p.1 ∙ ap (λ q. q ++ p.0) (s.at.shows.others a b n)
        ∙ nothing p.0 (subst (λ ms. ShowsQueue p.0 ms) (by (cases_eq a k)) p.2)
      where
        by : (a ≡ k) ⊎ (a ≡ k → ⊥)
            → cond (eqb a k) (posted_to {tells = tells} r k (op.Post d vars)
            (its s).count l.patch.numbers b) [] ≡ []
        by (inl e) = ap (λ ms. cond (eqb a k) ms [])
            (nothing_posted b (n (subst (λ i. i < parts_in r) (sym e) s.part)))
            ∙ cond_both (eqb a k) []
        by (inr e) = cond-false (eqb a k) _ [] (ne_eqb a k e)

    pub post_goes : new.given ≡ old.given → new.buffers ≡ old.buffers
        → LedTo s.at k new after later
    post_goes given buffers = moved_at s new after later (held_with s (its s).numbers) (record {
      move =
          subst (λ p. Moves tells r k (its s) (taken_now (network s) (world s) k) p
          (Some (held_with s (its s).numbers))) (sym is) (
            record {
              count = refl;
              control =
                  ap (λ p. control_after r.setup p (scalar_of (its s).numbers) (its s).control) is;
            },
            refl,
          );
      pace_is = l.pace_is;
      patch = l.patch;
      patches_are = patches_set new later l;
      shown = shown_with new later l;
      wires = wires;
      others = others;
      senders = ap (λ g. length g.given) given;
      boards = boards_kept s new.given given (λ a b. ap (λ o. op_wants r o (Board a b)) is)
          (λ a b n faces number. ap (λ o. op_posts r o n faces number (Board a b)) is);
      kinds = kinds_kept s new.given given (ap (kinds_by r) is) (λ i e. no_join i (sym is ∙ e));
      pieces = pieces_kept s new l.pace_is buffers
          (ap (λ o. work_of o (its s).control.iteration) is)
          (hands_by s (op.Post d vars) is (λ n piece all. refl));
      room = subst (HasRoom r.setup) (sym buffers) s.at.shows.room;
      lengths_are = l.lengths_are;
      met_is = l.met_is;
      outcome_is = l.outcome_is;
      points = points_none new later l (ap (points_of r k) is);
      values = values_none s later l.values_are (ap (values_of_op r k) is);
      sum = sum_none s later l.sum_is (λ a. ap (λ o. op_wants r o (Wire a k)) is);
    })
      where
        no_join : (i : ℕ) → op.Post d vars ≡ op.Join i → ⊥
        no_join i e = absurd cc
