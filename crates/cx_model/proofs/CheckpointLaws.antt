-- What follows a checkpoint place.
use Rattle.std.proofs.Common.{◌≡◌, ℕ, ◌<◌, ◌≤◌, refl, sym, ap, subst, ◌∙◌, true, List, [], ◌∷◌, ◌++◌, ◌⊎◌, inl, inr, append_assoc, arith}
use Rattle.cx_plan.specs.Setups.{Setup}
use Rattle.cx_plan.specs.Dues.{is_due}
use Rattle.cx_rule.specs.Routine.{Rule}
use Rattle.cx_rule.specs.States.{State}
use Rattle.cx_model.specs.States.{start}
use Rattle.cx_model.specs.Stages.{stages, stages_after}
use Rattle.cx_model.specs.Traces.{Entry, Saved, Trace, after}
use Rattle.cx_model.specs.Runs.{run_stages, Lengths, no_lengths, lengths_behind, limited, greatest_output, undivided_run, continued_run, Reaches}
use Rattle.cx_model.specs.Checkpoints.{ReachesFrom, Continues}
use Rattle.cx_model.proofs.ListLaws.{Same, Further, two_places}
use Rattle.cx_model.proofs.SaveLaws.{Found, found, lengths-both, lengths-more, within-greatest}
use Rattle.cx_model.proofs.StageLaws.{Rises, each-after, each-stage}

-- ---- one place

-- a run comes to the checkpoint place of c; it is what came before, the place and the run that is
-- continued from it
pub record Comes (setup : Setup) (rules : List Rule) (t : Trace) (entries : List Entry) (b : ℕ)
    (so_far : Lengths) (earlier : List Entry) (c : ℕ) (state : State) : Type 0 where
  pub due : is_due setup c ≡ true
  pub later : b < c
  pub all : t ≡ after (earlier ++ Saved c state ∷ [])
      (continued_run setup rules c state (lengths_behind so_far earlier))
  -- and so does the run without a limit
  pub full : entries ≡ earlier ++ Saved c state
      ∷ (run_stages setup rules (stages_after setup c) state).entries

comes : (setup : Setup) (rules : List Rule) (t : Trace) (entries : List Entry) (b : ℕ)
    (so_far : Lengths) (earlier : List Entry) (c : ℕ) (state : State)
    → Found (Rises setup b) setup rules t entries so_far earlier c state
    → Comes setup rules t entries b so_far earlier c state
comes setup rules t entries b so_far earlier c state f =
    record {
      due = f.holds.due;
      later = f.holds.later;
      all =
          f.all
          ∙ ap (λ ss. after (earlier ++ Saved c state ∷ [])
          (limited (lengths_behind so_far earlier) (run_stages setup rules ss state))) f.holds.rest;
      full =
          f.full ∙ ap (λ ss. earlier ++ Saved c state ∷ (run_stages setup rules ss state).entries)
          f.holds.rest;
    }

pub comes-run : (setup : Setup) (rules : List Rule) (c : ℕ) (state : State) (so_far : Lengths)
    (r : Reaches setup rules c state so_far)
    → Comes setup rules (undivided_run setup rules)
    (run_stages setup rules (stages setup) (start setup)).entries 0 no_lengths r.earlier c state
comes-run setup rules c state so_far r =
    comes setup rules (undivided_run setup rules)
    (run_stages setup rules (stages setup) (start setup)).entries 0 no_lengths r.earlier c state
    (found (Rises setup 0) setup rules (stages setup) (each-stage setup) (start setup)
    no_lengths r.earlier c state r.later r.there)

comes-rest : (setup : Setup) (rules : List Rule) (c : ℕ) (state : State) (so_far : Lengths) (d : ℕ)
    (now : State) (written : Lengths) (r : ReachesFrom setup rules c state so_far d now written)
    → Comes setup rules (continued_run setup rules c state so_far)
    (run_stages setup rules (stages_after setup c) state).entries c so_far r.earlier d now
comes-rest setup rules c state so_far d now written r =
    comes setup rules (continued_run setup rules c state so_far)
    (run_stages setup rules (stages_after setup c) state).entries c so_far r.earlier d now
    (found (Rises setup c) setup rules (stages_after setup c) (each-after setup c)
    state so_far r.earlier d now r.later r.there)

run-goes-on : (setup : Setup) (rules : List Rule) (c : ℕ) (state : State) (so_far : Lengths)
    (r : Reaches setup rules c state so_far)
    → undivided_run setup rules
    ≡ after (r.earlier ++ Saved c state ∷ []) (continued_run setup rules c state so_far)
run-goes-on setup rules c state so_far r =
    (comes-run setup rules c state so_far r).all
    ∙ ap (λ n. after (r.earlier ++ Saved c state ∷ []) (continued_run setup rules c state n))
    (sym r.lengths_there)

rest-goes-on : (setup : Setup) (rules : List Rule) (c : ℕ) (state : State) (so_far : Lengths)
    (d : ℕ) (now : State) (written : Lengths)
    (r : ReachesFrom setup rules c state so_far d now written)
    → continued_run setup rules c state so_far
    ≡ after (r.earlier ++ Saved d now ∷ []) (continued_run setup rules d now written)
rest-goes-on setup rules c state so_far d now written r =
    (comes-rest setup rules c state so_far d now written r).all
    ∙ ap (λ n. after (r.earlier ++ Saved d now ∷ []) (continued_run setup rules d now n))
    (sym r.lengths_there)

-- ---- two places

abbrev Order : Setup → List Rule → ℕ → State → Lengths → ℕ → State → Lengths → Type 0
Order setup rules c state so_far d now written =
    ((c ≡ d) × (state ≡ now) × (so_far ≡ written))
    ⊎ (ReachesFrom setup rules c state so_far d now written
    ⊎ ReachesFrom setup rules d now written c state so_far)

-- the entries of a run, with the run that is continued from a place in it
entries-there : (setup : Setup) (rules : List Rule) (c : ℕ) (state : State) (so_far : Lengths)
    (r : Reaches setup rules c state so_far)
    → (undivided_run setup rules).entries
    ≡ r.earlier ++ Saved c state ∷ (continued_run setup rules c state so_far).entries
entries-there setup rules c state so_far r =
    ap (λ (t : Trace). t.entries) (run-goes-on setup rules c state so_far r)
    ∙ append_assoc r.earlier (Saved c state ∷ []) (continued_run setup rules c state so_far).entries

-- the lengths of the outputs behind a place
lengths-place : (n : Lengths) (a : List Entry) (c : ℕ) (state : State) (between b : List Entry)
    → b ≡ a ++ Saved c state ∷ between
    → lengths_behind n b ≡ lengths_behind (lengths_behind n a) between
lengths-place n a c state between b is =
    ap (lengths_behind n) is ∙ lengths-both a (Saved c state ∷ between) n

further : (setup : Setup) (rules : List Rule) (c d : ℕ) (state now : State)
    (so_far written : Lengths) (r : Reaches setup rules c state so_far)
    (q : Reaches setup rules d now written)
    → Further r.earlier (Saved c state) (continued_run setup rules c state so_far).entries q.earlier
    (Saved d now) (continued_run setup rules d now written).entries
    → ReachesFrom setup rules c state so_far d now written
further setup rules c d state now so_far written r q f =
    record {
      earlier = f.between;
      later = (continued_run setup rules d now written).entries;
      there = f.rest;
      lengths_there = q.lengths_there
          ∙ lengths-place no_lengths r.earlier c state f.between q.earlier f.is
          ∙ ap (λ n. lengths_behind n f.between) (sym r.lengths_there);
    }

compared : (setup : Setup) (rules : List Rule) (c d : ℕ) (state now : State)
    (so_far written : Lengths) → Reaches setup rules c state so_far
    → Reaches setup rules d now written → Order setup rules c state so_far d now written
compared setup rules c d state now so_far written r q =
    by (two_places r.earlier (Saved c state)
    (continued_run setup rules c state so_far).entries q.earlier (Saved d now)
    (continued_run setup rules d now written).entries
    (sym (entries-there setup rules c state so_far r) ∙ entries-there setup rules d now written q))
  where
    place_saved : Entry → ℕ
    place_saved (Saved k s) = k
    place_saved _ = c

    state_saved : Entry → State
    state_saved (Saved k s) = s
    state_saved _ = state

    by : Same r.earlier (Saved c state) q.earlier (Saved d now)
        ⊎ (Further r.earlier (Saved c state)
        (continued_run setup rules c state so_far).entries q.earlier (Saved d now)
        (continued_run setup rules d now written).entries
        ⊎ Further q.earlier (Saved d now)
        (continued_run setup rules d now written).entries r.earlier (Saved c state)
        (continued_run setup rules c state so_far).entries)
        → Order setup rules c state so_far d now written
    by (inl s) = inl (
      ap place_saved s.here,
      ap state_saved s.here,
      r.lengths_there ∙ ap (lengths_behind no_lengths) s.before ∙ sym q.lengths_there,
    )
    by (inr (inl f)) = inr (inl (further setup rules c d state now so_far written r q f))
    by (inr (inr f)) = inr (inr (further setup rules d c now state written so_far q r f))

once : (setup : Setup) (rules : List Rule) (c : ℕ) (state now : State) (so_far written : Lengths)
    → Order setup rules c state so_far c now written → (state ≡ now) × (so_far ≡ written)
once setup rules c state now so_far written (inl same) = (same.1, same.2)
once setup rules c state now so_far written (inr (inl f)) = let l =
    (comes-rest setup rules c state so_far c now written f).later in absurd (omega (arith, l))
once setup rules c state now so_far written (inr (inr f)) = let l =
    (comes-rest setup rules c now written c state so_far f).later in absurd (omega (arith, l))

rises : (setup : Setup) (rules : List Rule) (c d : ℕ) (state now : State) (so_far written : Lengths)
    → c < d → Order setup rules c state so_far d now written
    → ReachesFrom setup rules c state so_far d now written
rises setup rules c d state now so_far written below (inl same) = let e = same.0 in
    absurd (omega (arith, e, below))
rises setup rules c d state now so_far written below (inr (inl f)) = f
rises setup rules c d state now so_far written below (inr (inr f)) = let l =
    (comes-rest setup rules d now written c state so_far f).later in
    absurd (omega (arith, l, below))

joins : (setup : Setup) (rules : List Rule) (c d : ℕ) (state now : State) (so_far written : Lengths)
    → Reaches setup rules c state so_far → ReachesFrom setup rules c state so_far d now written
    → Reaches setup rules d now written
joins setup rules c d state now so_far written r f =
    let place = lengths-place no_lengths r.earlier c state f.earlier
    (r.earlier ++ Saved c state ∷ f.earlier) refl in
    record {
      earlier = r.earlier ++ Saved c state ∷ f.earlier;
      later = f.later;
      there = entries-there setup rules c state so_far r
          ∙ ap (λ l. r.earlier ++ Saved c state ∷ l) f.there
          ∙ sym (append_assoc r.earlier (Saved c state ∷ f.earlier) (Saved d now ∷ f.later));
      lengths_there = f.lengths_there ∙ ap (λ n. lengths_behind n f.earlier) r.lengths_there
          ∙ sym place;
    }

pub run-continues : (setup : Setup) (rules : List Rule) → Continues setup rules
run-continues setup rules =
    record {
      run = run-goes-on setup rules;
      rest = rest-goes-on setup rules;
      due = λ c state so_far r. (comes-run setup rules c state so_far r).due;
      due_later = λ c state so_far d now written r. (
        (comes-rest setup rules c state so_far d now written r).due,
        (comes-rest setup rules c state so_far d now written r).later,
        λ v. subst (λ (n : Lengths). so_far v ≤ n v) (sym r.lengths_there)
            (lengths-more r.earlier so_far v),
      );
      once = λ c state now so_far written r q.
          once setup rules c state now so_far written
          (compared setup rules c c state now so_far written r q);
      rises = λ c d state now so_far written below r q.
          rises setup rules c d state now so_far written below
          (compared setup rules c d state now so_far written r q);
      joins = joins setup rules;
      within = λ c state so_far r. within setup rules c state so_far r;
    }
  where
    within : (setup : Setup) (rules : List Rule) (c : ℕ) (state : State) (so_far : Lengths)
        → Reaches setup rules c state so_far → (v : ℕ) → so_far v ≤ greatest_output
    within setup rules c state so_far r v =
        let run = run_stages setup rules (stages setup) (start setup) in
        let all : lengths_behind no_lengths (undivided_run setup rules).entries v
        ≤ greatest_output = within-greatest no_lengths run.entries run.outcome
        (λ w. omega arith) v in
        let split : lengths_behind no_lengths (undivided_run setup rules).entries
        ≡ lengths_behind so_far (Saved c state ∷ r.later) =
        ap (lengths_behind no_lengths) r.there
        ∙ lengths-both r.earlier (Saved c state ∷ r.later) no_lengths
        ∙ ap (λ n. lengths_behind n (Saved c state ∷ r.later)) (sym r.lengths_there) in
        let more = lengths-more (Saved c state ∷ r.later) so_far v in
        let here : lengths_behind so_far (Saved c state ∷ r.later) v ≤ greatest_output =
        subst (λ (n : Lengths). n v ≤ greatest_output) split all in
        omega (arith, more, here)
