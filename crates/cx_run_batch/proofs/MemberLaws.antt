-- Members of a batch: as they begin, from turn to turn, and at the end.
use Rattle.std.proofs.Common.{◌≡◌, ◌⊎◌, inl, inr, ℕ, ◌+◌, ◌≤◌, ◌<◌, ◌^◌, ◌-◌, Bool, true, false, List, [], ◌∷◌, map, sum, ap, arith, refl, subst, sym, ◌∙◌}
use Rattle.std.proofs.lemmas.List.Sums.{sum_by-cons}
use Rattle.std.specs.List.{list_all}
use Rattle.std.specs.Prelude.{IsTrue, ◌&&◌, Ok, Err}
use Rattle.cx_plan.specs.declared.job.Job.{Job}
use Rattle.cx_rule.specs.Routine.{Rule}
use Rattle.cx_rule.specs.declared.spec.Spec.{Spec}
use Rattle.cx_disk.specs.declared.disk.Disk.{Ghosts as DiskGhosts}
use Rattle.cx_wire.specs.declared.wire.Wire.{Ghosts as WireGhosts}
use Rattle.cx_run_batch.specs.Members.{AreAble, AreAt, AreOwnServed, AreServed, AreWaiting, CanTurn, HasRun, HasStarted, HaveRun, HaveStarted, HaveWires, IsWired, Rises, Turned, jobs_of, left_to, own_jobs, spent_by, waiting}
use Rattle.cx_run_batch.specs.Stages.{BeginsAs, IsAt, IsServed, Lot, is_over, lot, own_job, turns_left}
use Rattle.cx_run_batch.specs.declared.stage.Stage.{Stage}
use Rattle.cx_run_batch.specs.declared.stage.Stage.TheVariants.{Going, Over}
use Rattle.cx_run_batch.specs.declared.member.Member.{Member}
use Rattle.cx_run_batch.proofs.BegunLaws.{able_begun, at_begun, job_again}
use Rattle.cx_run_batch.proofs.WaitLaws.{able_waits, rises_more, rises_up, waits}

-- ---- sums

total-cons : (n : ℕ) (ns : List ℕ) → sum (n ∷ ns) ≡ n + sum ns
total-cons n ns = sum_by-cons (λ x. x) n ns

pub spent-cons : (m : Member) (ms : List Member) → spent_by (m ∷ ms) ≡ m.spent + spent_by ms
spent-cons m ms = total-cons m.spent (map (λ (x : Member). x.spent) ms)

pub left-cons : (m : Member) (ms : List Member)
    → left_to (m ∷ ms) ≡ turns_left m.job m.stage + left_to ms
left-cons m ms =
    total-cons (turns_left m.job m.stage) (map (λ (x : Member). turns_left x.job x.stage) ms)

-- ---- jobs

first_same : (a b : Job) (some others : List Job) → a ∷ some ≡ b ∷ others → a ≡ b
first_same a b some others e = cc

others_same : (a b : Job) (some others : List Job) → a ∷ some ≡ b ∷ others → some ≡ others
others_same a b some others e = cc

pub served_again : (specs : List Spec) (ms ns : List Member) → own_jobs ns ≡ own_jobs ms
    → AreOwnServed specs ms → AreOwnServed specs ns
served_again specs [] [] e served = tt
served_again specs [] (n ∷ ns) e served = absurd cc
served_again specs (m ∷ ms) [] e served = absurd cc
served_again specs (m ∷ ms) (n ∷ ns) e served = (
  subst (λ (job : Job). IsServed specs job)
      (sym (first_same (own_job n.job n.stage) (own_job m.job m.stage) (own_jobs ns)
      (own_jobs ms) e)) served.0,
  served_again specs ms ns
      (others_same (own_job n.job n.stage) (own_job m.job m.stage) (own_jobs ns) (own_jobs ms) e)
      served.1,
)

-- those after the first
pub next_served : (specs : List Spec) (all : List Member) (m : Member) (ms : List Member)
    → all ≡ m ∷ ms → AreOwnServed specs all → AreOwnServed specs ms
next_served specs all m ms e served =
    let whole : AreOwnServed specs (m ∷ ms) =
    subst (λ (l : List Member). AreOwnServed specs l) e served in
    whole.1

-- the first
pub first_served : (specs : List Spec) (all : List Member) (m : Member) (ms : List Member)
    → all ≡ m ∷ ms → AreOwnServed specs all → IsServed specs (own_job m.job m.stage)
first_served specs all m ms e served =
    let whole : AreOwnServed specs (m ∷ ms) =
    subst (λ (l : List Member). AreOwnServed specs l) e served in
    whole.0

-- ---- the first turns

-- a run that begins leaves its job as it was, but for the cut that it has
begun_job : {D : Type 0} (d : DiskGhosts D) (specs : List Spec) (job now : Job) (was is : D)
    (stage : Stage) → BeginsAs d specs job now was is stage → own_job now stage ≡ job
begun_job d specs job now was is (Going x) b =
    job_again job now x.own b.starts.core.own_is b.starts.core.job_is
begun_job d specs job now was is (Over (Ok core)) b = absurd b.starts
begun_job d specs job now was is (Over (Err fault)) b = b.starts.0

-- a member that waits has spent nothing
pub spent_none : (m : Member) → m ≡ waiting m.job → m.spent ≡ 0
spent_none m waits = ap (λ (x : Member). x.spent) waits

pub started_jobs : {D : Type 0} (d : DiskGhosts D) (specs : List Spec) (ms ns : List Member)
    (was is : List D) → HaveStarted d specs ms ns was is → own_jobs ns ≡ jobs_of ms
started_jobs d specs [] [] was is h = refl
started_jobs d specs [] (n ∷ ns) was is h = absurd h
started_jobs d specs (m ∷ ms) [] was is h = absurd h
started_jobs d specs (m ∷ ms) (n ∷ ns) [] is h = absurd h
started_jobs d specs (m ∷ ms) (n ∷ ns) (a ∷ was) [] h = absurd h
started_jobs d specs (m ∷ ms) (n ∷ ns) (a ∷ was) (b ∷ is) h =
    ap (λ (job : Job). job ∷ own_jobs ns)
    (begun_job d specs m.job n.job a b n.stage h.0.begins)
    ∙ ap (λ (jobs : List Job). m.job ∷ jobs) (started_jobs d specs ms ns was is h.1)

pub started_served : {D : Type 0} (d : DiskGhosts D) (specs : List Spec) (ms ns : List Member)
    (was is : List D) → HaveStarted d specs ms ns was is → AreServed specs ms
    → AreOwnServed specs ns
started_served d specs [] [] was is h served = tt
started_served d specs [] (n ∷ ns) was is h served = absurd h
started_served d specs (m ∷ ms) [] was is h served = absurd h
started_served d specs (m ∷ ms) (n ∷ ns) [] is h served = absurd h
started_served d specs (m ∷ ms) (n ∷ ns) (a ∷ was) [] h served = absurd h
started_served d specs (m ∷ ms) (n ∷ ns) (a ∷ was) (b ∷ is) h served = (
  subst (λ (job : Job). IsServed specs job)
      (sym (begun_job d specs m.job n.job a b n.stage h.0.begins)) served.0,
  started_served d specs ms ns was is h.1 served.1,
)

pub none_spent : {D : Type 0} (d : DiskGhosts D) (specs : List Spec) (ms ns : List Member)
    (was is : List D) → AreWaiting ms → HaveStarted d specs ms ns was is → spent_by ns ≡ 0
none_spent d specs [] [] was is fresh h = refl
none_spent d specs [] (n ∷ ns) was is fresh h = absurd h
none_spent d specs (m ∷ ms) [] was is fresh h = absurd h
none_spent d specs (m ∷ ms) (n ∷ ns) [] is fresh h = absurd h
none_spent d specs (m ∷ ms) (n ∷ ns) (a ∷ was) [] fresh h = absurd h
none_spent d specs (m ∷ ms) (n ∷ ns) (a ∷ was) (b ∷ is) fresh h =
    let one : n.spent ≡ 0 = h.0.spent ∙ spent_none m fresh.0 in
    let others : spent_by ns ≡ 0 = none_spent d specs ms ns was is fresh.1 h.1 in
    let all : spent_by (n ∷ ns) ≡ n.spent + spent_by ns = spent-cons n ns in
    omega (arith, one, others, all)

-- ---- turns that are left

one_of : (a b : Bool) → (a && b) ≡ false → (a ≡ false) ⊎ (b ≡ false)
one_of true b e = inr e
one_of false b e = inl refl

pub fewer_left : (all : List Member) (m n : Member) (ms ns : List Member) → all ≡ m ∷ ms
    → (is_over m.stage ≡ false → turns_left n.job n.stage < turns_left m.job m.stage)
    → turns_left n.job n.stage ≤ turns_left m.job m.stage
    → (list_all (λ (x : Member). is_over x.stage) ms ≡ false → left_to ns < left_to ms)
    → left_to ns ≤ left_to ms → list_all (λ (x : Member). is_over x.stage) all ≡ false
    → left_to (n ∷ ns) < left_to all
fewer_left all m n ms ns e one one_more others others_more going =
    subst (λ (l : List Member). left_to (n ∷ ns) < left_to l) (sym e)
    (go (one_of (is_over m.stage) (list_all (λ (x : Member). is_over x.stage) ms)
    (sym (ap (λ (l : List Member). list_all (λ (x : Member). is_over x.stage) l) e) ∙ going)))
  where
    go : (is_over m.stage ≡ false) ⊎ (list_all (λ (x : Member). is_over x.stage) ms ≡ false)
        → left_to (n ∷ ns) < left_to (m ∷ ms)
    go (inl first) =
        let less = one first in omega (arith, less, others_more, left-cons n ns, left-cons m ms)
    go (inr rest) =
        let less = others rest in omega (arith, less, one_more, left-cons n ns, left-cons m ms)

module _ {D W : Type 0} (d : DiskGhosts D) (w : WireGhosts W) (rules : List Rule)
    (specs : List Spec) where
  module _ (fits : (wire : W) → IsTrue w.tells → w.sum wire < 2 ^ 64) (meter : ℕ) where
    one_at : (m n : Member) (a b : D) (v : W) → m ≡ waiting m.job → HasStarted d specs m n a b
        → IsWired w m v → IsAt d w rules specs n.job (lot a b v v meter n.spent) n.stage
    one_at m n a b v waits h wired =
        subst (λ (k : ℕ). IsAt d w rules specs n.job (lot a b v v meter k) n.stage)
        (sym (h.spent ∙ spent_none m waits))
        (at_begun d w rules specs m.job (h.laws w.tells rules) a b v meter wired.empty (fits v)
        n.job n.stage h.begins)

    one_able : (m n : Member) (a b : D) (v : W) → m ≡ waiting m.job → HasStarted d specs m n a b
        → IsWired w m v → CanTurn d w rules specs n b v meter
    one_able m n a b v waits h wired =
        let none : n.spent ≡ 0 = h.spent ∙ spent_none m waits in
        record {
          able = able_begun d w rules specs m.job (h.laws w.tells rules) a b v meter wired.empty
              (fits v) wired.parts n.job n.stage h.begins;
          within = omega (arith, none);
        }

    pub started_at : (ms ns : List Member) (was is : List D) (vs : List W) → AreWaiting ms
        → HaveWires w ms vs → HaveStarted d specs ms ns was is
        → AreAt d w rules specs ns was is vs vs meter
    started_at [] [] was is vs fresh wired h = (h, refl)
    started_at [] (n ∷ ns) was is vs fresh wired h = absurd h
    started_at (m ∷ ms) [] was is vs fresh wired h = absurd h
    started_at (m ∷ ms) (n ∷ ns) [] is vs fresh wired h = absurd h
    started_at (m ∷ ms) (n ∷ ns) (a ∷ was) [] vs fresh wired h = absurd h
    started_at (m ∷ ms) (n ∷ ns) (a ∷ was) (b ∷ is) [] fresh wired h = absurd wired
    started_at (m ∷ ms) (n ∷ ns) (a ∷ was) (b ∷ is) (v ∷ vs) fresh wired h = (
      one_at m n a b v fresh.0 h.0 wired.0,
      started_at ms ns was is vs fresh.1 wired.1 h.1,
    )

    pub started_able : (ms ns : List Member) (was is : List D) (vs : List W) → AreWaiting ms
        → HaveWires w ms vs → HaveStarted d specs ms ns was is
        → AreAble d w rules specs ns is vs meter
    started_able [] [] was is vs fresh wired h = tt
    started_able [] (n ∷ ns) was is vs fresh wired h = absurd h
    started_able (m ∷ ms) [] was is vs fresh wired h = absurd h
    started_able (m ∷ ms) (n ∷ ns) [] is vs fresh wired h = absurd h
    started_able (m ∷ ms) (n ∷ ns) (a ∷ was) [] vs fresh wired h = absurd h
    started_able (m ∷ ms) (n ∷ ns) (a ∷ was) (b ∷ is) [] fresh wired h = absurd wired
    started_able (m ∷ ms) (n ∷ ns) (a ∷ was) (b ∷ is) (v ∷ vs) fresh wired h = (
      one_able m n a b v fresh.0 h.0 wired.0,
      started_able ms ns was is vs fresh.1 wired.1 h.1,
    )

  -- ---- a turn of another member

  module _ (meter now : ℕ) (rises : Rises meter now) where
    pub all_wait : (ms : List Member) (was is : List D) (vs us : List W)
        → AreAt d w rules specs ms was is vs us meter → AreAt d w rules specs ms was is vs us now
    all_wait [] was is vs us h = h
    all_wait (m ∷ ms) [] is vs us h = absurd h
    all_wait (m ∷ ms) (a ∷ was) [] vs us h = absurd h
    all_wait (m ∷ ms) (a ∷ was) (b ∷ is) [] us h = absurd h
    all_wait (m ∷ ms) (a ∷ was) (b ∷ is) (v ∷ vs) [] h = absurd h
    all_wait (m ∷ ms) (a ∷ was) (b ∷ is) (v ∷ vs) (u ∷ us) h = (
      waits d w rules specs a b v u meter now m.spent rises m.job m.stage h.0,
      all_wait ms was is vs us h.1,
    )

    pub one_waits : (m : Member) (b : D) (u : W) → CanTurn d w rules specs m b u meter
        → CanTurn d w rules specs m b u now
    one_waits m b u h =
        let spent : m.spent ≤ meter = h.within in
        let up : meter ≤ now = rises_up (2 ^ 128 - 1) meter now rises in
        record {
          able = able_waits d w rules specs b u meter now rises m.job m.stage h.able;
          within = omega (arith, spent, up);
        }

    pub all_can_wait : (ms : List Member) (is : List D) (us : List W)
        → AreAble d w rules specs ms is us meter → AreAble d w rules specs ms is us now
    all_can_wait [] is us h = tt
    all_can_wait (m ∷ ms) [] us h = absurd h
    all_can_wait (m ∷ ms) (b ∷ is) [] h = absurd h
    all_can_wait (m ∷ ms) (b ∷ is) (u ∷ us) h = (
      one_waits m b u h.0,
      all_can_wait ms is us h.1,
    )

  -- ---- turns

  -- no turn
  pub unturned : (ms : List Member) (is : List D) (us : List W) (n : ℕ)
      → AreAble d w rules specs ms is us n → Turned d w rules specs ms ms is is us us n n
  unturned ms is us n able = record {
    jobs = refl;
    at = λ was vs h. h;
    able = able;
    counts = refl;
    rises = omega arith;
  }

  -- one turn of a member
  pub one_turned : (m n : Member) (b c : D) (u x : W) (old new : ℕ)
      → own_job n.job n.stage ≡ own_job m.job m.stage
      → ((a : D) (v : W) → IsAt d w rules specs m.job (lot a b v u old m.spent) m.stage
      → IsAt d w rules specs n.job (lot a c v x new n.spent) n.stage)
      → CanTurn d w rules specs n c x new → new + m.spent ≡ old + n.spent → Rises old new
      → Turned d w rules specs (m ∷ []) (n ∷ []) (b ∷ []) (c ∷ []) (u ∷ []) (x ∷ []) old new
  one_turned m n b c u x old new job at able counts rises =
      let one : spent_by (m ∷ []) ≡ m.spent + spent_by [] = spent-cons m [] in
      let other : spent_by (n ∷ []) ≡ n.spent + spent_by [] = spent-cons n [] in
      record {
        jobs = ap (λ (j : Job). j ∷ []) job;
        at = by;
        able = (able, tt);
        counts = omega (arith, counts, one, other);
        rises = rises;
      }
    where
      by : (was : List D) (vs : List W)
          → AreAt d w rules specs (m ∷ []) was (b ∷ []) vs (u ∷ []) old
          → AreAt d w rules specs (n ∷ []) was (c ∷ []) vs (x ∷ []) new
      by [] vs h = absurd h
      by (a ∷ was) [] h = absurd h
      by (a ∷ was) (v ∷ vs) h = (at a v h.0, h.1)

  -- the others can go on after a turn of one
  pub still_able : (m n : Member) (b c : D) (u x : W) (old new : ℕ)
      → Turned d w rules specs (m ∷ []) (n ∷ []) (b ∷ []) (c ∷ []) (u ∷ []) (x ∷ []) old new
      → (ms : List Member) (is : List D) (us : List W) → AreAble d w rules specs ms is us old
      → AreAble d w rules specs ms is us new
  still_able m n b c u x old new t ms is us able = all_can_wait old new t.rises ms is us able

  -- a turn of the first member, and then one of each other
  pub beside : (m n : Member) (ms ns : List Member) (b c : D) (is js : List D) (u x : W)
      (us xs : List W) (old mid new : ℕ)
      → Turned d w rules specs (m ∷ []) (n ∷ []) (b ∷ []) (c ∷ []) (u ∷ []) (x ∷ []) old mid
      → Turned d w rules specs ms ns is js us xs mid new
      → Turned d w rules specs (m ∷ ms) (n ∷ ns) (b ∷ is) (c ∷ js) (u ∷ us) (x ∷ xs) old new
  beside m n ms ns b c is js u x us xs old mid new one rest =
      let job : own_job n.job n.stage ≡ own_job m.job m.stage =
      first_same (own_job n.job n.stage) (own_job m.job m.stage) [] [] one.jobs in
      let one_old : spent_by (m ∷ []) ≡ m.spent + spent_by [] = spent-cons m [] in
      let one_new : spent_by (n ∷ []) ≡ n.spent + spent_by [] = spent-cons n [] in
      let all_old : spent_by (m ∷ ms) ≡ m.spent + spent_by ms = spent-cons m ms in
      let all_new : spent_by (n ∷ ns) ≡ n.spent + spent_by ns = spent-cons n ns in
      record {
        jobs = ap (λ (j : Job). j ∷ own_jobs ns) job
            ∙ ap (λ (js : List Job). own_job m.job m.stage ∷ js) rest.jobs;
        at = by;
        able = (one_waits mid new rest.rises n c x one.able.0, rest.able);
        counts = omega (arith, one.counts, rest.counts, one_old, one_new, all_old, all_new);
        rises = rises_more (2 ^ 128 - 1) old mid new one.rises rest.rises;
      }
    where
      by : (was : List D) (vs : List W)
          → AreAt d w rules specs (m ∷ ms) was (b ∷ is) vs (u ∷ us) old
          → AreAt d w rules specs (n ∷ ns) was (c ∷ js) vs (x ∷ xs) new
      by [] vs h = absurd h
      by (a ∷ was) [] h = absurd h
      by (a ∷ was) (v ∷ vs) h = (
        waits d w rules specs a c v x mid new n.spent rest.rises n.job n.stage
            (one.at (a ∷ []) (v ∷ []) (h.0, (refl, refl))).0,
        rest.at was vs (all_wait old mid one.rises ms was is vs us h.1),
      )

  -- the same of whole lists
  pub round_turned : (all : List Member) (m n : Member) (ms ns : List Member) (disks : List D)
      (b c : D) (is js : List D) (wires : List W) (u x : W) (us xs : List W) (old mid new : ℕ)
      → all ≡ m ∷ ms → disks ≡ b ∷ is → wires ≡ u ∷ us
      → Turned d w rules specs (m ∷ []) (n ∷ []) (b ∷ []) (c ∷ []) (u ∷ []) (x ∷ []) old mid
      → Turned d w rules specs ms ns is js us xs mid new
      → Turned d w rules specs all (n ∷ ns) disks (c ∷ js) wires (x ∷ xs) old new
  round_turned all m n ms ns disks b c is js wires u x us xs old mid new e f g one rest =
      subst (λ (l : List Member).
      Turned d w rules specs l (n ∷ ns) disks (c ∷ js) wires (x ∷ xs) old new)
      (sym e)
      (subst (λ (l : List D).
      Turned d w rules specs (m ∷ ms) (n ∷ ns) l (c ∷ js) wires (x ∷ xs) old new)
      (sym f)
      (subst (λ (l : List W).
      Turned d w rules specs (m ∷ ms) (n ∷ ns) (b ∷ is) (c ∷ js) l (x ∷ xs) old
      new) (sym g)
      (beside m n ms ns b c is js u x us xs old mid new one rest)))

  -- the others can go on after the first one's turn
  pub next_able : (all : List Member) (m n : Member) (ms : List Member) (disks : List D)
      (b c : D) (is : List D) (wires : List W) (u x : W) (us : List W) (old mid : ℕ)
      → all ≡ m ∷ ms → disks ≡ b ∷ is → wires ≡ u ∷ us → AreAble d w rules specs all disks wires old
      → Turned d w rules specs (m ∷ []) (n ∷ []) (b ∷ []) (c ∷ []) (u ∷ []) (x ∷ []) old mid
      → AreAble d w rules specs ms is us mid
  next_able all m n ms disks b c is wires u x us old mid e f g able one =
      let some : AreAble d w rules specs (m ∷ ms) disks wires old =
      subst (λ (l : List Member). AreAble d w rules specs l disks wires old) e able in
      let more : AreAble d w rules specs (m ∷ ms) (b ∷ is) wires old =
      subst (λ (l : List D). AreAble d w rules specs (m ∷ ms) l wires old) f some in
      let whole : AreAble d w rules specs (m ∷ ms) (b ∷ is) (u ∷ us) old =
      subst (λ (l : List W). AreAble d w rules specs (m ∷ ms) (b ∷ is) l old) g more in
      still_able m n b c u x old mid one ms is us whole.1

  -- some turns, and then some more
  pub turned_twice : (ls ms ns : List Member) (is js ks : List D) (us xs ys : List W)
      (old mid new : ℕ) → Turned d w rules specs ls ms is js us xs old mid
      → Turned d w rules specs ms ns js ks xs ys mid new
      → Turned d w rules specs ls ns is ks us ys old new
  turned_twice ls ms ns is js ks us xs ys old mid new one two = record {
    jobs = two.jobs ∙ one.jobs;
    at = λ was vs h. two.at was vs (one.at was vs h);
    able = two.able;
    counts = omega (arith, one.counts, two.counts);
    rises = rises_more (2 ^ 128 - 1) old mid new one.rises two.rises;
  }

  -- ---- at the end

  one_over : (job : Job) (l : Lot D W) (stage : Stage) → is_over stage ≡ true
      → IsAt d w rules specs job l stage → HasRun d w rules specs job l stage
  one_over job l (Going run) over h = absurd (not_over over)
    where
      not_over : false ≡ true → ⊥
      not_over e = cc
  one_over job l (Over result) over h = h

  -- its job has its own cut
  over_job : (job : Job) (stage : Stage) → is_over stage ≡ true → own_job job stage ≡ job
  over_job job (Going x) over = absurd (not_over over)
    where
      not_over : false ≡ true → ⊥
      not_over e = cc
  over_job job (Over result) over = refl

  both : (a b : Bool) → (a && b) ≡ true → (a ≡ true) × (b ≡ true)
  both true b e = (refl, e)
  both false b e = absurd cc

  pub over_jobs : (ms : List Member) → list_all (λ (m : Member). is_over m.stage) ms ≡ true
      → own_jobs ms ≡ jobs_of ms
  over_jobs [] over = refl
  over_jobs (m ∷ ms) over =
      let e = both (is_over m.stage) (list_all (λ (x : Member). is_over x.stage) ms) over in
      ap (λ (job : Job). job ∷ own_jobs ms) (over_job m.job m.stage e.0)
      ∙ ap (λ (jobs : List Job). m.job ∷ jobs) (over_jobs ms e.1)

  pub all_over : (ms : List Member) (was is : List D) (vs us : List W) (meter : ℕ)
      → list_all (λ (m : Member). is_over m.stage) ms ≡ true
      → AreAt d w rules specs ms was is vs us meter → HaveRun d w rules specs ms was is vs us meter
  all_over [] was is vs us meter over h = h
  all_over (m ∷ ms) [] is vs us meter over h = absurd h
  all_over (m ∷ ms) (a ∷ was) [] vs us meter over h = absurd h
  all_over (m ∷ ms) (a ∷ was) (b ∷ is) [] us meter over h = absurd h
  all_over (m ∷ ms) (a ∷ was) (b ∷ is) (v ∷ vs) [] meter over h = absurd h
  all_over (m ∷ ms) (a ∷ was) (b ∷ is) (v ∷ vs) (u ∷ us) meter over h =
      let e = both (is_over m.stage) (list_all (λ (x : Member). is_over x.stage) ms) over in (
        one_over m.job (lot a b v u meter m.spent) m.stage e.0 h.0,
        all_over ms was is vs us meter e.1 h.1,
      )
