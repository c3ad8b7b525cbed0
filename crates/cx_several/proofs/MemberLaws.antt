-- A member of a batch that is over, as the run of its file alone.
use Rattle.std.proofs.Common.{◌≡◌, ◌∙◌, ℕ, ◌≤◌, ◌+◌, Bool, true, false, if◌then◌else◌, List, [], ◌∷◌, map, Result, Ok, Err, Some, None, inl, refl, sym, ap, subst, arith}
use Rattle.std.proofs.lemmas.List.Sums.{sum_by-cons}
use Rattle.std.specs.List.{list_all}
use Rattle.std.specs.Prelude.{◌&&◌, IfOk, codes}
use Rattle.cx_text.specs.declared.memory.Memory.{Memory}
use Rattle.cx_disk.specs.Disk.{IsView}
use Rattle.cx_plan.specs.declared.job.Job.{Job}
use Rattle.cx_core.specs.Cores.{Cores}
use Rattle.cx_run_loop.specs.declared.fault.DriveFault.{DriveFault}
use Rattle.cx_run_batch.specs.Members.{HasRun, HaveRun, jobs_of, spent_by}
use Rattle.cx_run_batch.specs.Stages.{IsOver, lot}
use Rattle.cx_run_batch.specs.declared.member.Member.{Member}
use Rattle.cx_run_batch.specs.declared.stage.Stage.{Stage}
use Rattle.cx_run_batch.specs.declared.stage.Stage.TheVariants.{Going, Over}
use Rattle.cx_run_batch.proofs.MemberLaws.{spent-cons}
use Rattle.cx_run.specs.Answers.{AnswersRun, answer_for, status_of, text_of, WasSaid}
use Rattle.cx_run.specs.Calls.{Call}
use Rattle.cx_run.specs.Causes.{ComesTo, Explains, MakesOn}
use Rattle.cx_run.specs.Clauses.{Obeys}
use Rattle.cx_run.specs.Words.{Request, asked, is_file, request}
use Rattle.cx_run.specs.declared.reply.Answer.{Answer}
use Rattle.cx_run.specs.declared.reply.Answer.TheVariants as a
use Rattle.cx_run.specs.declared.words.Command.TheVariants as commands
use Rattle.cx_run.proofs.Asked.{with_job}
use Rattle.cx_run.proofs.Clauses as clauses
use Rattle.cx_run.proofs.Running as running
use Rattle.cx_several.specs.Batches.{Batch, Place, alone, place}
use Rattle.cx_several.specs.Making.{AreJobs, AreMade, AreServable, IsServable, IsShelfKept}
use Rattle.cx_several.specs.Members.{AnswersAll, AnswersStage, HasRunAlone, HaveEnded, HaveRunAlone, HaveTurned, Share, answer_statuses, answer_texts, sink_of, spent_on, statuses_of, texts_of}
use Rattle.cx_several.specs.Texts.{lines, status_in}
use Rattle.cx_several.specs.declared.reply.Reply.{Reply}

-- ---- the words of the run alone

asked_if : (b : Bool) (r : Request) → b ≡ true → (if b then Some r else None) ≡ Some r
asked_if true r e = refl
asked_if false r e = absurd cc

pub asks_run : (file : List ℕ) → is_file file ≡ true
    → asked (codes "run" ∷ file ∷ []) ≡ Some (request commands.Run file 0)
asks_run file is = asked_if (is_file file) (request commands.Run file 0) is

-- ---- an answer that was said alone

was_said : (x : Answer) → WasSaid (sink_of (text_of x)) x (status_of x)
was_said x = inl (inl (record { status_is = refl; count = refl; text_is = λ told. refl }))

-- what follows from the cause of an answer, and from what was said
record IsCounted (c : Call) : Type 0 where
  pub held : c.shelf.tells → c.shelf.new ≡ c.shelf.old
  pub shelf : c.shelf.faults.old ≤ c.shelf.faults.new
  pub disk : c.work.disk.faults.old ≤ c.work.disk.faults.new
  pub wire : c.work.wire.faults.old ≤ c.work.wire.faults.new
  pub points : c.work.meter.old ≤ c.work.meter.new
  pub values : c.work.wire.old.received ≤ c.work.wire.new.received

obeys : (c : Call) (x : Answer) → Explains c x → IsCounted c
    → Obeys c (sink_of (text_of x)) (status_of x)
obeys c x explained counted =
    let said = was_said x in
    let sink = sink_of (text_of x) in
    let result = status_of x in
    record {
      run = clauses.runs_well c sink x result explained said;
      trails = clauses.keeps_trails c x explained;
      all_trails = clauses.keeps_all_trails c x explained;
      within = clauses.counts_within c x explained;
      summed = clauses.sums_up c sink x result explained said;
      printed = record { answer = x; cause = explained; said = said };
      untouched = clauses.spares c sink x result explained said;
      owed = clauses.owes c sink x result explained said;
      kept = record {
        held = counted.held;
        shelf = counted.shelf;
        disk = counted.disk;
        wire = counted.wire;
        sink_ = omega arith;
        points = counted.points;
        values = counted.values;
      };
    }

-- ---- one member

abbrev share : Answer → ℕ → Share
share x spent = record { text = text_of x; status = status_of x; spent = spent }

abbrev shares : List Member → List Answer → List Share
shares [] xs = []
shares (m ∷ ms) [] = []
shares (m ∷ ms) (x ∷ xs) = share x m.spent ∷ shares ms xs

shares_texts : (ms : List Member) (xs : List Answer) → AnswersAll ms xs
    → texts_of (shares ms xs) ≡ answer_texts xs
shares_texts [] [] answers = refl
shares_texts [] (x ∷ xs) answers = absurd answers
shares_texts (m ∷ ms) [] answers = absurd answers
shares_texts (m ∷ ms) (x ∷ xs) answers =
    ap (λ (ts : List (List ℕ)). text_of x ∷ ts) (shares_texts ms xs answers.1)

shares_statuses : (ms : List Member) (xs : List Answer) → AnswersAll ms xs
    → statuses_of (shares ms xs) ≡ answer_statuses xs
shares_statuses [] [] answers = refl
shares_statuses [] (x ∷ xs) answers = absurd answers
shares_statuses (m ∷ ms) [] answers = absurd answers
shares_statuses (m ∷ ms) (x ∷ xs) answers =
    ap (λ (ns : List ℕ). status_of x ∷ ns) (shares_statuses ms xs answers.1)

shares_spent : (ms : List Member) (xs : List Answer) → AnswersAll ms xs
    → spent_on (shares ms xs) ≡ spent_by ms
shares_spent [] [] answers = refl
shares_spent [] (x ∷ xs) answers = absurd answers
shares_spent (m ∷ ms) [] answers = absurd answers
shares_spent (m ∷ ms) (x ∷ xs) answers =
    sum_by-cons (λ n. n) m.spent (map (λ (s : Share). s.spent) (shares ms xs))
    ∙ ap (λ (n : ℕ). m.spent + n) (shares_spent ms xs answers.1) ∙ sym (spent-cons m ms)

-- to runs whose reply wants memory there are answers too
some_answer : (job : Job) (stage : Stage) → (x : Answer) × AnswersStage job stage x
some_answer job (Going run) = (a.Memory, tt)
some_answer job (Over (Ok core)) = (a.Memory, inl refl)
some_answer job (Over (Err fault)) = (answer_for fault, refl)

some_answers : (ms : List Member) → (xs : List Answer) × AnswersAll ms xs
some_answers [] = ([], tt)
some_answers (m ∷ ms) =
    let one = some_answer m.job m.stage in
    let others = some_answers ms in (one.0 ∷ others.0, (one.1, others.1))

first_same : (a b : Job) (some others : List Job) → a ∷ some ≡ b ∷ others → a ≡ b
first_same a b some others e = cc

others_same : (a b : Job) (some others : List Job) → a ∷ some ≡ b ∷ others → some ≡ others
others_same a b some others e = cc

pub both : (p q : Bool) → (p && q) ≡ true → (p ≡ true) × (q ≡ true)
both true q e = (refl, e)
both false q e = absurd cc

module _ {D W : Type 0} (c : Batch D W) (begun : c.begun ≡ Some 0) (kept : IsShelfKept c.shelf)
    (view : (disk : D) → c.disk.tells → IsView (c.disk.view disk)) where
  over_alone : (file : List ℕ) (p : Place D W) (job : Job) (spent : ℕ)
      (came : Result Cores DriveFault) (x : Answer) → is_file file ≡ true
      → MakesOn c.shelf file c.specs (Ok job) → IsServable c.specs job
      → IsOver c.disk c.wire c.rules c.specs job
      (lot p.disk p.disk_after p.wire p.wire_after c.meter.new spent) came
      → AnswersRun commands.Run job came x → HasRunAlone c file p (share x spent)
  over_alone file p job spent came x is_name makes servable over answers = record {
    meter = over.meter;
    spent = over.spent;
    within = over.within;
    obeys = obeys (alone c file p over.meter) x explained counted;
  }
    where
      comes : ComesTo (alone c file p over.meter).work commands.Run job x
      comes =
          running.ran (alone c file p over.meter).work commands.Run job tt came over.drives
          over.folders (servable.begins c.rules) (view p.disk) x answers

      explained : Explains (alone c file p over.meter) x
      explained =
          with_job (alone c file p over.meter) (request commands.Run file 0) job x
          (asks_run file is_name) tt makes servable.ready comes (λ runs. begun)

      counted : IsCounted (alone c file p over.meter)
      counted = record {
        held = kept.held;
        shelf = kept.later;
        disk = over.drives.disk_count;
        wire = over.drives.wire_count;
        points = over.drives.points;
        values = over.drives.values;
      }

  member_alone : (file : List ℕ) (p : Place D W) (m : Member) (x : Answer) → is_file file ≡ true
      → MakesOn c.shelf file c.specs (Ok m.job) → IsServable c.specs m.job
      → HasRun c.disk c.wire c.rules c.specs m.job
      (lot p.disk p.disk_after p.wire p.wire_after c.meter.new m.spent) m.stage
      → AnswersStage m.job m.stage x → HasRunAlone c file p (share x m.spent)
  member_alone file p m x is_name makes servable ran answers = by m.stage ran answers
    where
      by : (stage : Stage) → HasRun c.disk c.wire c.rules c.specs m.job
          (lot p.disk p.disk_after p.wire p.wire_after c.meter.new m.spent) stage
          → AnswersStage m.job stage x → HasRunAlone c file p (share x m.spent)
      by (Going run) r ans = absurd r
      by (Over came) r ans = over_alone file p m.job m.spent came x is_name makes servable r ans

  -- ---- all of them

  all_alone : (files : List (List ℕ)) (jobs : List Job) (ms : List Member) (xs : List Answer)
      (was is : List D) (vs us : List W) → list_all is_file files ≡ true
      → AreMade c.shelf c.specs files jobs → AreServable c.specs jobs → jobs_of ms ≡ jobs
      → HaveRun c.disk c.wire c.rules c.specs ms was is vs us c.meter.new → AnswersAll ms xs
      → HaveRunAlone c files (shares ms xs) was is vs us
  all_alone [] [] [] xs was is vs us names made servable e ran answers = ran
  all_alone [] [] (m ∷ ms) xs was is vs us names made servable e ran answers = absurd cc
  all_alone [] (job ∷ jobs) ms xs was is vs us names made servable e ran answers = absurd made
  all_alone (file ∷ files) [] ms xs was is vs us names made servable e ran answers = absurd made
  all_alone (file ∷ files) (job ∷ jobs) [] xs was is vs us names made servable e ran answers =
      absurd cc
  all_alone (file ∷ files) (job ∷ jobs) (m ∷ ms) [] was is vs us names made servable e ran
      answers = absurd answers
  all_alone (file ∷ files) (job ∷ jobs) (m ∷ ms) (x ∷ xs) [] is vs us names made servable e ran
      answers = absurd ran
  all_alone (file ∷ files) (job ∷ jobs) (m ∷ ms) (x ∷ xs) (a ∷ was) [] vs us names made servable
      e ran answers = absurd ran
  all_alone (file ∷ files) (job ∷ jobs) (m ∷ ms) (x ∷ xs) (a ∷ was) (b ∷ is) [] us names made
      servable e ran answers = absurd ran
  all_alone (file ∷ files) (job ∷ jobs) (m ∷ ms) (x ∷ xs) (a ∷ was) (b ∷ is) (v ∷ vs) [] names
      made servable e ran answers = absurd ran
  all_alone (file ∷ files) (job ∷ jobs) (m ∷ ms) (x ∷ xs) (a ∷ was) (b ∷ is) (v ∷ vs) (u ∷ us)
      names made servable e ran answers =
      let named = both (is_file file) (list_all is_file files) names in
      let same : job ≡ m.job = sym (first_same m.job job (jobs_of ms) jobs e) in (
        member_alone file (place a b v u) m x named.0
            (subst (λ (j : Job). MakesOn c.shelf file c.specs (Ok j)) same made.0)
            (subst (λ (j : Job). IsServable c.specs j) same servable.0) ran.0 answers.0,
        all_alone files jobs ms xs was is vs us named.1 made.1 servable.1
            (others_same m.job job (jobs_of ms) jobs e) ran.1 answers.1,
      )

  -- ---- the reply

  turned_with : (files : List (List ℕ)) (jobs : List Job) (ms : List Member) (xs : List Answer)
      (reply : Result Reply Memory) → list_all is_file files ≡ true
      → AreJobs c.shelf c.specs files jobs → jobs_of ms ≡ jobs
      → HaveRun c.disk c.wire c.rules c.specs ms c.disks.old c.disks.new c.wires.old c.wires.new
      c.meter.new
      → c.meter.new ≡ c.meter.old + spent_by ms → AnswersAll ms xs
      → IfOk reply (λ r. (r.text ≡ lines files (answer_texts xs))
      × (r.status ≡ status_in (answer_statuses xs)))
      → HaveTurned c files reply
  turned_with files jobs ms xs reply names are e ran counts answers replied = record {
    jobs = jobs;
    are = are;
    begun = begun;
    shares = shares ms xs;
    each = all_alone files jobs ms xs c.disks.old c.disks.new c.wires.old c.wires.new names are.made
        are.servable e ran answers;
    meter = counts ∙ ap (λ (n : ℕ). c.meter.old + n) (sym (shares_spent ms xs answers));
    reply_is = replied_as reply replied;
  }
    where
      replied_as : (reply : Result Reply Memory)
          → IfOk reply (λ r. (r.text ≡ lines files (answer_texts xs))
          × (r.status ≡ status_in (answer_statuses xs)))
          → IfOk reply (λ r. (r.status ≡ status_in (statuses_of (shares ms xs)))
          × (r.text ≡ lines files (texts_of (shares ms xs))))
      replied_as (Ok r) is = (
        is.1 ∙ ap status_in (sym (shares_statuses ms xs answers)),
        is.0 ∙ ap (λ (ts : List (List ℕ)). lines files ts) (sym (shares_texts ms xs answers)),
      )
      replied_as (Err e) is = tt

  pub turned : (files : List (List ℕ)) (jobs : List Job) (first : List Member)
      (reply : Result Reply Memory) → list_all is_file files ≡ true
      → AreJobs c.shelf c.specs files jobs → jobs_of first ≡ jobs
      → HaveEnded c.disk c.wire c.rules c.specs files first c.disks c.wires c.meter reply
      → HaveTurned c files reply
  turned files jobs first (Ok r) names are e ended =
      turned_with files jobs ended.members ended.reply_is.answers (Ok r) names are
      (ended.jobs ∙ e) ended.ran ended.counts ended.reply_is.are
      (ended.reply_is.lines_are, ended.reply_is.status_is)
  turned files jobs first (Err x) names are e ended =
      let some = some_answers ended.members in
      turned_with files jobs ended.members some.0 (Err x) names are (ended.jobs ∙ e) ended.ran
      ended.counts some.1 tt
