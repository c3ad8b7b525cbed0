-- What the meter has counted where all jobs are done.
use Rattle.std.proofs.Common.{◌≡◌, ◌≢◌, ◌⊎◌, ◌∙◌, ℕ, ◌≤◌, ◌<◌, ◌+◌, ◌-◌, ◌^◌, min, max, Bool, true, false, List, [], ◌∷◌, map, sum, inl, inr, refl, sym, ap, subst, arith}
use Rattle.std.proofs.lemmas.Bool.Decides.{eqb_tells, leb_tells}
use Rattle.std.proofs.lemmas.List.Sums.{sum_by-cons}
use Rattle.std.specs.List.{list_all}
use Rattle.std.specs.Prelude.{nat_eq, nat_le, if◌then◌else◌, Option}
use Rattle.cx_cut.specs.Cuts.{Parts}
use Rattle.cx_plan.specs.Setups.{setup_of}
use Rattle.cx_plan.specs.declared.job.Job.{Job}
use Rattle.cx_rule.specs.Meter.{raised}
use Rattle.law_course.specs.Beginnings.{entries_from}
use Rattle.cx_run_loop.specs.Drives.{HasWorked}
use Rattle.cx_run_loop.specs.Recuts.{cut_from}
use Rattle.cx_run_loop.specs.Sums.{work_in}
use Rattle.cx_run.specs.Calls.{IsRun, driven}
use Rattle.cx_run.specs.Words.{is_file, request}
use Rattle.cx_run.specs.declared.words.Command.TheVariants.{Run}
use Rattle.cx_run.specs.Calls.{Lent}
use Rattle.cx_several.specs.Batches.{Batch, Place, alone, place}
use Rattle.cx_several.specs.Clauses.{AreTold, Comes, CountsAll}
use Rattle.cx_several.specs.Making.{AllMade}
use Rattle.cx_several.specs.Members.{AllGoOn, AreLeft, GoesOn, HasRunAlone, HaveRunAlone, IsLeft, Share, spent_on, statuses_of, texts_of}
use Rattle.cx_several.specs.Texts.{fault_status, fault_text, lines, status_in}
use Rattle.cx_several.specs.Words.{files_asked}
use Rattle.cx_several.specs.declared.fault.BatchFault.{BatchFault}
use Rattle.cx_several.specs.declared.fault.BatchFault.TheVariants as batch
use Rattle.cx_several.proofs.ClauseLaws.{files_named, none_some, result_of, same_some}
use Rattle.cx_several.proofs.MemberLaws.{asks_run, both}

-- ---- statuses

zero_by : (b : Bool) (s r : ℕ) → (b ≡ true → s ≡ 0) → (b ≡ false → s ≢ 0)
    → (if b then r else s) ≡ 0 → (s ≡ 0) × (r ≡ 0)
zero_by true s r yes_ no_ e = (yes_ refl, e)
zero_by false s r yes_ no_ e = absurd (no_ refl e)

zeros : (s r : ℕ) → (if nat_eq s 0 then r else s) ≡ 0 → (s ≡ 0) × (r ≡ 0)
zeros s r e = go (eqb_tells s 0)
  where
    go : ((nat_eq s 0 ≡ true) × (s ≡ 0)) ⊎ ((nat_eq s 0 ≡ false) × (s ≢ 0))
        → (s ≡ 0) × (r ≡ 0)
    go (inl h) = zero_by (nat_eq s 0) s r (λ x. h.1) (λ x. absurd (apart (sym x ∙ h.0))) e
      where
        apart : false ≡ true → ⊥
        apart x = cc
    go (inr h) = zero_by (nat_eq s 0) s r (λ x. absurd (apart (sym h.0 ∙ x))) (λ x. h.1) e
      where
        apart : false ≡ true → ⊥
        apart x = cc

-- ---- points

-- what a meter that isn't at its end has risen by
spent_of : (most old new spent points : ℕ) → old + spent ≡ new
    → new ≡ max old (min (old + points) most) → new < most → spent ≡ points
spent_of most old new spent points counted rises below = omega (arith, counted, rises, below)

-- and what any meter has
no_more_of : (most old new spent points : ℕ) → old + spent ≡ new
    → new ≡ max old (min (old + points) most) → spent ≤ points
no_more_of most old new spent points counted rises = omega (arith, counted, rises)

-- what all have counted together, also at the meter's end
risen_by : (old new spent points : ℕ) → new ≡ old + spent → spent ≤ points
    → (new < 2 ^ 128 - 1 → spent ≡ points) → new < 2 ^ 128 → new ≡ raised old points
risen_by old new spent points counts no_more below fits = go (leb_tells (2 ^ 128 - 1) new)
  where
    go : ((nat_le (2 ^ 128 - 1) new ≡ true) × (2 ^ 128 - 1 ≤ new))
        ⊎ ((nat_le (2 ^ 128 - 1) new ≡ false) × (new < 2 ^ 128 - 1)) → new ≡ raised old points
    go (inl h) = let end = h.1 in omega (arith, end, counts, no_more, fits)
    go (inr h) = let less = h.1 in let all = below less in omega (arith, less, all, counts)

below_too : (n m most : ℕ) → n ≤ m → m < most → n < most
below_too n m most less below = omega (arith, less, below)

sum_cons : (n : ℕ) (ns : List ℕ) → sum (n ∷ ns) ≡ n + sum ns
sum_cons n ns = sum_by-cons (λ x. x) n ns

module _ {D W : Type 0} (c : Batch D W) (told : AreTold c) where
  -- what a job computes from where it resumes, the first of it by this cut
  abbrev points_from : Job → Parts → Option ℕ → ℕ
  points_from job cut start = work_in (setup_of job) (cut_from c.specs job) cut
      (entries_from (setup_of job) c.rules start)

  -- what was left of a job that is done
  record IsSpent (job : Job) (a : D) (spent : ℕ) : Type 0 where
    pub points : ℕ
    pub left : IsLeft c job a points
    pub no_more : spent ≤ points
    pub spent_are : c.meter.new < 2 ^ 128 - 1 → spent ≡ points

  is_spent : (file : List ℕ) (p : Place D W) (job : Job) (s : Share) → is_file file ≡ true
      → HasRunAlone c file p s → AllMade c.specs c.shelf.old (file ∷ []) (job ∷ [])
      → GoesOn c job p.disk → s.status ≡ 0 → IsSpent job p.disk s.spent
  is_spent file p job s is_name x made goes done = record {
    points = points_from job worked.cut worked.start;
    left = record {
      start = worked.start;
      start_is = worked.start_is;
      cut = worked.cut;
      cut_is = worked.cut_is;
      points_are = refl;
    };
    no_more = no_more_of (2 ^ 128 - 1) x.meter.old x.meter.new s.spent
        (points_from job worked.cut worked.start) x.spent worked.done.points;
    spent_are = λ below. spent_of (2 ^ 128 - 1) x.meter.old x.meter.new s.spent
        (points_from job worked.cut worked.start) x.spent worked.done.points
        (below_too x.meter.new c.meter.new (2 ^ 128 - 1) x.within below);
  }
    where
      is_run : IsRun (alone c file p x.meter) job
      is_run = record {
        request = request Run file 0;
        asks = asks_run file is_name;
        runs = tt;
        told = told.shelf;
        makes = made.0;
      }

      worked : HasWorked (driven (alone c file p x.meter).work job)
      worked = (x.obeys.run (told.disks, told.wires) job is_run goes).work done

  record AreSpent (jobs : List Job) (disks : List D) (ss : List Share) : Type 0 where
    pub points : List ℕ
    pub left : AreLeft c jobs disks points
    pub no_more : spent_on ss ≤ sum points
    pub spent_are : c.meter.new < 2 ^ 128 - 1 → spent_on ss ≡ sum points

  are_spent : (files : List (List ℕ)) (jobs : List Job) (ss : List Share) (was is : List D)
      (vs us : List W) → list_all is_file files ≡ true → HaveRunAlone c files ss was is vs us
      → AllMade c.specs c.shelf.old files jobs → AllGoOn c jobs was
      → status_in (statuses_of ss) ≡ 0 → AreSpent jobs was ss
  are_spent [] [] [] was is vs us names x made go done =
      record { points = []; left = tt; no_more = omega arith; spent_are = λ below. refl }
  are_spent [] [] (s ∷ ss) was is vs us names x made go done = absurd x
  are_spent [] (job ∷ jobs) ss was is vs us names x made go done = absurd made
  are_spent (file ∷ files) [] ss was is vs us names x made go done = absurd made
  are_spent (file ∷ files) (job ∷ jobs) [] was is vs us names x made go done = absurd x
  are_spent (file ∷ files) (job ∷ jobs) (s ∷ ss) [] is vs us names x made go done = absurd x
  are_spent (file ∷ files) (job ∷ jobs) (s ∷ ss) (a ∷ was) [] vs us names x made go done =
      absurd x
  are_spent (file ∷ files) (job ∷ jobs) (s ∷ ss) (a ∷ was) (b ∷ is) [] us names x made go done =
      absurd x
  are_spent (file ∷ files) (job ∷ jobs) (s ∷ ss) (a ∷ was) (b ∷ is) (v ∷ vs) [] names x made go
      done = absurd x
  are_spent (file ∷ files) (job ∷ jobs) (s ∷ ss) (a ∷ was) (b ∷ is) (v ∷ vs) (u ∷ us) names x
      made go done =
      let named = both (is_file file) (list_all is_file files) names in
      let none = zeros s.status (status_in (statuses_of ss)) done in
      let one = is_spent file (place a b v u) job s named.0 x.0 (made.0, tt) go.0 none.0 in
      let more = are_spent files jobs ss was is vs us named.1 x.1 made.1 go.1 none.1 in
      let spent_all : spent_on (s ∷ ss) ≡ s.spent + spent_on ss =
      sum_cons s.spent (map (λ (t : Share). t.spent) ss) in
      let points_all : sum (one.points ∷ more.points) ≡ one.points + sum more.points =
      sum_cons one.points more.points in
      let first = one.no_more in
      let others = more.no_more in
      record {
        points = one.points ∷ more.points;
        left = (one.left, more.left);
        no_more = omega (arith, spent_all, points_all, first, others);
        spent_are = λ below.
            sum_cons s.spent (map (λ (t : Share). t.spent) ss)
            ∙ ap (λ (n : ℕ). n + spent_on ss) (one.spent_are below)
            ∙ ap (λ (n : ℕ). one.points + n) (more.spent_are below)
            ∙ sym (sum_cons one.points more.points);
      }

-- ---- the batch

not_zero : (result n : ℕ) → (result ≡ n) ⊎ ((result ≡ 4) ⊎ (result ≡ 5)) → n ≢ 0 → result ≡ 0 → ⊥
not_zero result n (inl e) other done = other (sym e ∙ done)
not_zero result n (inr (inl e)) other done = absurd (four (sym e ∙ done))
  where
    four : ◌≡◌ {A = ℕ} 4 0 → ⊥
    four x = cc
not_zero result n (inr (inr e)) other done = absurd (five (sym e ∙ done))
  where
    five : ◌≡◌ {A = ℕ} 5 0 → ⊥
    five x = cc

is_zero : (result n : ℕ) → (result ≡ n) ⊎ ((result ≡ 4) ⊎ (result ≡ 5)) → result ≡ 0 → n ≡ 0
is_zero result n (inl e) done = sym e ∙ done
is_zero result n (inr e) done = absurd (not_zero result 4 (inr e) four done)
  where
    four : ◌≢◌ {A = ℕ} 4 0
    four x = cc

fault_not_zero : (fault : BatchFault) → fault_status fault ≢ 0
fault_not_zero batch.Shelf e = absurd cc
fault_not_zero (batch.Job file fault) e = absurd cc
fault_not_zero (batch.SameFolder a b) e = absurd cc
fault_not_zero (batch.Limit n) e = absurd cc
fault_not_zero batch.Memory e = absurd cc

pub counts_all : {D W : Type 0} (words : List (List ℕ)) (c : Batch D W) (sink : Lent (List ℕ))
    (result : ℕ) → Comes words c sink result → AreTold c → CountsAll words c result
counts_all words c sink result (inl x) told files jobs asks all go done =
    absurd (none_some (files_asked words) files x.asks asks)
counts_all words c sink result (inr (inl x)) told files jobs asks all go done =
    absurd (not_zero result (fault_status x.fault)
    (result_of sink (fault_status x.fault) (fault_text x.fault) result x.said)
    (fault_not_zero x.fault) done)
counts_all words c sink result (inr (inr x)) told files jobs asks all go done = record {
  points = spent.points;
  left = spent.left;
  meter = risen_by c.meter.old c.meter.new (spent_on x.turns.shares) (sum spent.points)
      x.turns.meter spent.no_more spent.spent_are;
}
  where
    same : x.files ≡ files
    same = same_some (files_asked words) x.files files x.asks asks

    none : status_in (statuses_of x.turns.shares) ≡ 0
    none = is_zero result (status_in (statuses_of x.turns.shares))
        (result_of sink (status_in (statuses_of x.turns.shares))
        (lines x.files (texts_of x.turns.shares)) result x.turns.said) done

    spent : AreSpent c told jobs c.disks.old x.turns.shares
    spent = are_spent c told files jobs x.turns.shares c.disks.old c.disks.new c.wires.old
        c.wires.new
        (files_named words files asks)
        (subst (λ (fs : List (List ℕ)).
        HaveRunAlone c fs x.turns.shares c.disks.old c.disks.new c.wires.old c.wires.new) same
        x.turns.each)
        all go none
