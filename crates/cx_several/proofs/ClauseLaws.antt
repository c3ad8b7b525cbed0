-- From what was replied and said to what the top call ensures of a batch.
use Rattle.std.proofs.Common.{◌≡◌, ◌≢◌, ◌⊎◌, ◌∙◌, ℕ, ◌<◌, List, [], ◌∷◌, Result, Ok, Err, Option, Some, None, inl, inr, refl, sym, ap, subst, arith}
use Rattle.std.specs.List.{list_all}
use Rattle.std.specs.Prelude.{IfOk, codes, length, nat_eq, nat_le, ◌&&◌, if◌then◌else◌, true, false, Bool}
use Rattle.cx_text.specs.declared.memory.Memory.{Memory}
use Rattle.cx_plan.specs.declared.job.Job.{Job}
use Rattle.cx_rule.specs.declared.spec.Spec.{Spec}
use Rattle.cx_job.specs.Making.{without_witness}
use Rattle.cx_job.specs.declared.fault.JobFault.{JobFault}
use Rattle.cx_job_files.specs.Shelf.{Held}
use Rattle.cx_run_loop.specs.Lent.{HasRisen}
use Rattle.cx_run.specs.Answers.{Says}
use Rattle.cx_run.specs.Calls.{Lent}
use Rattle.cx_run.specs.Words.{asked, is_file, request}
use Rattle.cx_run.specs.declared.words.Command.TheVariants.{Run}
use Rattle.cx_run.proofs.Readings.{status_for}
use Rattle.cx_run.specs.Texts.{memory_text, usage_text}
use Rattle.cx_several.specs.Batches.{Batch, IsUntouched, Place, alone, place}
use Rattle.cx_several.specs.Clauses.{Comes, HasTakenTurns, IsCalm, IsRefusedFor, Owes}
use Rattle.cx_several.specs.Faults.{jobs_fault}
use Rattle.cx_several.specs.Making.{AllMade, AreAtFault, AreMade, IsFirstFault, IsWhy}
use Rattle.cx_several.specs.Members.{HasRunAlone, HaveRunAlone, RepliesFor, Share, sink_of, statuses_of, texts_of}
use Rattle.cx_several.specs.Texts.{IsPut, IsReplied, IsSaid, fault_status, fault_text, lines, status_in}
use Rattle.cx_several.specs.Words.{are_files, files_asked}
use Rattle.cx_several.specs.declared.fault.BatchFault.{BatchFault}
use Rattle.cx_several.specs.declared.fault.BatchFault.TheVariants as batch
use Rattle.cx_several.specs.declared.reply.Reply.{Reply}
use Rattle.cx_several.proofs.MemberLaws.{asks_run, both}

-- ---- what was said

replied : (sink : Lent (List ℕ)) (reply : Result Reply Memory) (status : ℕ) (text : List ℕ)
    (result : ℕ) → IfOk reply (λ r. (r.status ≡ status) × (r.text ≡ text))
    → IsPut sink reply result → IsReplied sink status text result
replied sink (Ok r) status text result is put =
    inl (subst (λ (t : List ℕ). IsSaid sink status t result) is.1
    (subst (λ (n : ℕ). IsSaid sink n r.text result) is.0 put))
replied sink (Err e) status text result is put = inr put

pub comes : {D W : Type 0} (words : List (List ℕ)) (c : Batch D W) (files : List (List ℕ))
    (reply : Result Reply Memory) (sink : Lent (List ℕ)) (result : ℕ)
    → files_asked words ≡ Some files → RepliesFor c files reply → IsPut sink reply result
    → Comes words c sink result
comes words c files reply sink result asks (inl x) put = inr (inl (record {
  files = files;
  asks = asks;
  fault = x.fault;
  why = x.why;
  untouched = x.untouched;
  said = replied sink reply (fault_status x.fault) (fault_text x.fault) result x.reply_is put;
}))
comes words c files reply sink result asks (inr x) put = inr (inr (record {
  files = files;
  asks = asks;
  jobs = x.jobs;
  are = x.are;
  turns = record {
    begun = x.begun;
    shares = x.shares;
    each = x.each;
    meter = x.meter;
    said = replied sink reply (status_in (statuses_of x.shares)) (lines files (texts_of x.shares))
        result x.reply_is put;
  };
}))

pub wrong_use : {D W : Type 0} (words : List (List ℕ)) (c : Batch D W)
    (reply : Result Reply Memory) (sink : Lent (List ℕ)) (result : ℕ)
    → files_asked words ≡ None → c.shelf.same → IsUntouched c
    → IfOk reply (λ r. (r.status ≡ 1) × (r.text ≡ usage_text)) → IsPut sink reply result
    → Comes words c sink result
wrong_use words c reply sink result none same untouched is put = inl (record {
  asks = none;
  shelf = same;
  untouched = untouched;
  said = replied sink reply 1 usage_text result is put;
})

-- ---- what a calm sink says

calm_reply : (sink : Lent (List ℕ)) (status : ℕ) (text : List ℕ) (result : ℕ)
    → (HasRisen sink.faults → ⊥) → IsReplied sink status text result
    → Says sink status text result ⊎ (result ≡ 5)
calm_reply sink status text result calm (inl (inl says)) = inl says
calm_reply sink status text result calm (inl (inr cut)) = absurd (calm cut.rose)
calm_reply sink status text result calm (inr (inl says)) = inr says.status_is
calm_reply sink status text result calm (inr (inr cut)) = absurd (calm cut.rose)

five_reply : (sink : Lent (List ℕ)) (text : List ℕ) (result : ℕ) → (HasRisen sink.faults → ⊥)
    → IsReplied sink 5 text result → result ≡ 5
five_reply sink text result calm said = go (calm_reply sink 5 text result calm said)
  where
    go : Says sink 5 text result ⊎ (result ≡ 5) → result ≡ 5
    go (inl says) = says.status_is
    go (inr e) = e

-- a result is the status, or 4, or 5
pub result_of : (sink : Lent (List ℕ)) (status : ℕ) (text : List ℕ) (result : ℕ)
    → IsReplied sink status text result → (result ≡ status) ⊎ ((result ≡ 4) ⊎ (result ≡ 5))
result_of sink status text result (inl (inl says)) = inl says.status_is
result_of sink status text result (inl (inr cut)) = inr (inl cut.status_is)
result_of sink status text result (inr (inl says)) = inr (inr says.status_is)
result_of sink status text result (inr (inr cut)) = inr (inl cut.status_is)

not_less : (n m : ℕ) → m ≡ n → n < m → ⊥
not_less n m same less = omega (arith, same, less)

failed_reply : (sink : Lent (List ℕ)) (status : ℕ) (text : List ℕ) (result : ℕ)
    → sink.faults.old < sink.faults.new → IsReplied sink status text result → result ≡ 4
failed_reply sink status text result rises (inl (inl says)) =
    absurd (not_less sink.faults.old sink.faults.new says.count rises)
failed_reply sink status text result rises (inl (inr cut)) = cut.status_is
failed_reply sink status text result rises (inr (inl says)) =
    absurd (not_less sink.faults.old sink.faults.new says.count rises)
failed_reply sink status text result rises (inr (inr cut)) = cut.status_is

-- ---- options

pub none_some : {A : Type 0} (o : Option A) (x : A) → o ≡ None → o ≡ Some x → ⊥
none_some o x none some = go (sym none ∙ some)
  where
    go : None ≡ Some x → ⊥
    go e = cc

pub same_some : {A : Type 0} (o : Option A) (x y : A) → o ≡ Some x → o ≡ Some y → x ≡ y
same_some o x y first second = go (sym first ∙ second)
  where
    go : Some x ≡ Some y → x ≡ y
    go e = cc

-- ---- jobs that were made are those that the files make

made_same : (s : Lent Held) (specs : List Spec) (files : List (List ℕ)) (js jobs : List Job)
    → s.tells → AreMade s specs files js → AllMade specs s.old files jobs → js ≡ jobs
made_same s specs [] [] [] told made all = refl
made_same s specs [] [] (job ∷ jobs) told made all = absurd all
made_same s specs [] (j ∷ js) jobs told made all = absurd made
made_same s specs (file ∷ files) [] jobs told made all = absurd made
made_same s specs (file ∷ files) (j ∷ js) [] told made all = absurd all
made_same s specs (file ∷ files) (j ∷ js) (job ∷ jobs) told made all =
    ap (λ (x : Job). x ∷ js) (made.0.only told job all.0)
    ∙ ap (λ (xs : List Job). job ∷ xs) (made_same s specs files js jobs told made.1 all.1)

made_none : (s : Lent Held) (specs : List Spec) (files : List (List ℕ)) (js : List Job)
    (named : List ℕ) (fault : JobFault) → s.tells → AreMade s specs files js
    → IsFirstFault specs s.old files named fault → ⊥
made_none s specs [] js named fault told made first = first
made_none s specs (file ∷ files) [] named fault told made first = made
made_none s specs (file ∷ files) (j ∷ js) named fault told made (inl here) =
    made.0.faulty told fault here.1
made_none s specs (file ∷ files) (j ∷ js) named fault told made (inr later) =
    made_none s specs files js named fault told made.1 later.2

-- ---- the statuses of runs

chosen : (P : ℕ → Type 0) (b : Bool) (s r : ℕ) → P s → P r → P (if b then r else s)
chosen P true s r of_s of_r = of_r
chosen P false s r of_s of_r = of_s

zero_not_one : ◌≢◌ {A = ℕ} 0 1
zero_not_one e = cc

module _ {D W : Type 0} (c : Batch D W) where
  not_usage : (file : List ℕ) (p : Place D W) (s : Share) → is_file file ≡ true
      → HasRunAlone c file p s → s.status ≢ 1
  not_usage file p s is_name x one =
      none_some (asked (codes "run" ∷ file ∷ [])) (request Run file 0)
      ((status_for (alone c file p x.meter) (sink_of s.text) s.status x.obeys).usage one)
      (asks_run file is_name)

  -- what is so of 0 and of each job's status is so of the first that isn't 0
  module _ (P : ℕ → Type 0) (zero : P 0) (each : (file : List ℕ) (p : Place D W) (s : Share)
      → is_file file ≡ true → HasRunAlone c file p s → P s.status) where
    pub each_status : (files : List (List ℕ)) (ss : List Share) (was is : List D) (vs us : List W)
        → list_all is_file files ≡ true → HaveRunAlone c files ss was is vs us
        → P (status_in (statuses_of ss))
    each_status [] [] was is vs us names x = zero
    each_status [] (s ∷ ss) was is vs us names x = absurd x
    each_status (file ∷ files) [] was is vs us names x = absurd x
    each_status (file ∷ files) (s ∷ ss) [] is vs us names x = absurd x
    each_status (file ∷ files) (s ∷ ss) (a ∷ was) [] vs us names x = absurd x
    each_status (file ∷ files) (s ∷ ss) (a ∷ was) (b ∷ is) [] us names x = absurd x
    each_status (file ∷ files) (s ∷ ss) (a ∷ was) (b ∷ is) (v ∷ vs) [] names x = absurd x
    each_status (file ∷ files) (s ∷ ss) (a ∷ was) (b ∷ is) (v ∷ vs) (u ∷ us) names x =
        let named = both (is_file file) (list_all is_file files) names in
        chosen P (nat_eq s.status 0) s.status (status_in (statuses_of ss))
        (each file (place a b v u) s named.0 x.0) (each_status files ss was is vs us named.1 x.1)

  none_usage : (files : List (List ℕ)) (ss : List Share) (was is : List D) (vs us : List W)
      → list_all is_file files ≡ true → HaveRunAlone c files ss was is vs us
      → status_in (statuses_of ss) ≢ 1
  none_usage = each_status (λ n. n ≢ 1) zero_not_one not_usage

pub files_are : (words files : List (List ℕ)) → files_asked words ≡ Some files
    → are_files files ≡ true
files_are [] files e = absurd cc
files_are (word ∷ words) files e = by (are_files words) refl e
  where
    by : (b : Bool) → are_files words ≡ b → (if b then Some words else None) ≡ Some files
        → are_files files ≡ true
    by true are same =
        subst (λ (fs : List (List ℕ)). are_files fs ≡ true)
        (same_some (Some words) words files refl same) are
    by false are same = absurd (none_some None files refl same)

pub are_named : (files : List (List ℕ)) → are_files files ≡ true → list_all is_file files ≡ true
are_named files are =
    (both (nat_le 2 (length files) && nat_le (length files) 8) (list_all is_file files) are).1

pub files_named : (words files : List (List ℕ)) → files_asked words ≡ Some files
    → list_all is_file files ≡ true
files_named words files e = are_named files (files_are words files e)

-- ---- what is owed

module _ {D W : Type 0} (words : List (List ℕ)) (c : Batch D W) (sink : Lent (List ℕ))
    (result : ℕ) where
  one_not : (n : ℕ) → (result ≡ n) ⊎ ((result ≡ 4) ⊎ (result ≡ 5)) → n ≢ 1 → result ≡ 1 → ⊥
  one_not n (inl e) other one = other (sym e ∙ one)
  one_not n (inr (inl e)) other one = absurd (four (sym e ∙ one))
    where
      four : ◌≡◌ {A = ℕ} 4 1 → ⊥
      four x = cc
  one_not n (inr (inr e)) other one = absurd (five (sym e ∙ one))
    where
      five : ◌≡◌ {A = ℕ} 5 1 → ⊥
      five x = cc

  fault_not_one : (fault : BatchFault) → fault_status fault ≢ 1
  fault_not_one batch.Shelf e = absurd cc
  fault_not_one (batch.Job file fault) e = absurd cc
  fault_not_one (batch.SameFolder a b) e = absurd cc
  fault_not_one (batch.Limit n) e = absurd cc
  fault_not_one batch.Memory e = absurd cc

  only_usage : Comes words c sink result → result ≡ 1 → files_asked words ≡ None
  only_usage (inl x) one = x.asks
  only_usage (inr (inl x)) one =
      absurd (one_not (fault_status x.fault)
      (result_of sink (fault_status x.fault) (fault_text x.fault) result x.said)
      (fault_not_one x.fault) one)
  only_usage (inr (inr x)) one =
      let ss = x.turns.shares in
      absurd (one_not (status_in (statuses_of ss))
      (result_of sink (status_in (statuses_of ss)) (lines x.files (texts_of ss)) result
      x.turns.said)
      (none_usage c x.files ss c.disks.old c.disks.new c.wires.old c.wires.new
      (files_named words x.files x.asks) x.turns.each) one)

  usage : Comes words c sink result → files_asked words ≡ None → (HasRisen sink.faults → ⊥)
      → Says sink 1 usage_text result ⊎ (result ≡ 5)
  usage (inl x) none calm = calm_reply sink 1 usage_text result calm x.said
  usage (inr (inl x)) none calm = absurd (none_some (files_asked words) x.files none x.asks)
  usage (inr (inr x)) none calm = absurd (none_some (files_asked words) x.files none x.asks)

  sink_failed : Comes words c sink result → sink.faults.old < sink.faults.new → result ≡ 4
  sink_failed (inl x) rises = failed_reply sink 1 usage_text result rises x.said
  sink_failed (inr (inl x)) rises =
      failed_reply sink (fault_status x.fault) (fault_text x.fault) result rises x.said
  sink_failed (inr (inr x)) rises =
      failed_reply sink (status_in (statuses_of x.turns.shares))
      (lines x.files (texts_of x.turns.shares)) result rises x.turns.said

  module _ (calm : IsCalm c sink) (told : c.shelf.tells) (files : List (List ℕ)) where
    -- a file makes no job
    unmade_by : (fault : BatchFault) → IsWhy c.shelf c.specs files fault
        → IsReplied sink (fault_status fault) (fault_text fault) result → (file : List ℕ)
        (other : JobFault) → IsFirstFault c.specs c.shelf.old files file other
        → IsRefusedFor file other sink result ⊎ (result ≡ 5)
    unmade_by batch.Shelf why said file other first = absurd (calm.shelf why)
    unmade_by batch.Memory why said file other first =
        inr (five_reply sink memory_text result calm.sink_ said)
    unmade_by (batch.Job named fault) why said file other first =
        go (calm_reply sink 2 (fault_text (batch.Job named fault)) result calm.sink_ said)
        (why.alike told file other first)
      where
        go : Says sink 2 (fault_text (batch.Job named fault)) result ⊎ (result ≡ 5)
            → (file ≡ named) × (without_witness fault ≡ without_witness other)
            → IsRefusedFor file other sink result ⊎ (result ≡ 5)
        go (inr five) alike = inr five
        go (inl says) alike = inl (record {
          told = fault;
          alike = alike.1;
          said = subst (λ (name : List ℕ). Says sink 2 (fault_text (batch.Job name fault)) result)
              (sym alike.0) says;
        })
    unmade_by (batch.SameFolder a b) why said file other first =
        absurd (made_none c.shelf c.specs files why.jobs file other told why.made first)
    unmade_by (batch.Limit n) why said file other first =
        absurd (made_none c.shelf c.specs files why.jobs file other told why.made first)

    at_fault : (fault other : BatchFault) (jobs : List Job) → fault_status fault ≡ 2
        → AreAtFault c.shelf c.specs files fault → AllMade c.specs c.shelf.old files jobs
        → jobs_fault files jobs ≡ Some other
        → IsReplied sink (fault_status fault) (fault_text fault) result
        → Says sink 2 (fault_text other) result ⊎ (result ≡ 5)
    at_fault fault other jobs two why all is said =
        calm_reply sink 2 (fault_text other) result calm.sink_
        (subst (λ (f : BatchFault). IsReplied sink 2 (fault_text f) result) same
        (subst (λ (n : ℕ). IsReplied sink n (fault_text fault) result) two said))
      where
        same : fault ≡ other
        same = same_some (jobs_fault files jobs) fault other
            (subst (λ (js : List Job). jobs_fault files js ≡ Some fault)
            (made_same c.shelf c.specs files why.jobs jobs told why.made all) why.fault_is) is

    -- the jobs have a fault
    refused_by : (fault : BatchFault) → IsWhy c.shelf c.specs files fault
        → IsReplied sink (fault_status fault) (fault_text fault) result → (jobs : List Job)
        (other : BatchFault) → AllMade c.specs c.shelf.old files jobs
        → jobs_fault files jobs ≡ Some other
        → Says sink 2 (fault_text other) result ⊎ (result ≡ 5)
    refused_by batch.Shelf why said jobs other all is = absurd (calm.shelf why)
    refused_by batch.Memory why said jobs other all is =
        inr (five_reply sink memory_text result calm.sink_ said)
    refused_by (batch.Job file fault) why said jobs other all is = absurd (why.none told jobs all)
    refused_by (batch.SameFolder a b) why said jobs other all is =
        at_fault (batch.SameFolder a b) other jobs refl why all is said
    refused_by (batch.Limit n) why said jobs other all is =
        at_fault (batch.Limit n) other jobs refl why all is said

    none_at_fault : (fault : BatchFault) (jobs : List Job)
        → AreAtFault c.shelf c.specs files fault → AllMade c.specs c.shelf.old files jobs
        → jobs_fault files jobs ≡ None → ⊥
    none_at_fault fault jobs why all none =
        none_some (jobs_fault files jobs) fault none
        (subst (λ (js : List Job). jobs_fault files js ≡ Some fault)
        (made_same c.shelf c.specs files why.jobs jobs told why.made all) why.fault_is)

    -- they have none
    run_by : (fault : BatchFault) → IsWhy c.shelf c.specs files fault
        → IsReplied sink (fault_status fault) (fault_text fault) result → (jobs : List Job)
        → AllMade c.specs c.shelf.old files jobs → jobs_fault files jobs ≡ None
        → HasTakenTurns c files sink result ⊎ (result ≡ 5)
    run_by batch.Shelf why said jobs all none = absurd (calm.shelf why)
    run_by batch.Memory why said jobs all none =
        inr (five_reply sink memory_text result calm.sink_ said)
    run_by (batch.Job file fault) why said jobs all none = absurd (why.none told jobs all)
    run_by (batch.SameFolder a b) why said jobs all none =
        absurd (none_at_fault (batch.SameFolder a b) jobs why all none)
    run_by (batch.Limit n) why said jobs all none =
        absurd (none_at_fault (batch.Limit n) jobs why all none)

  unmade : Comes words c sink result → IsCalm c sink → c.shelf.tells → (files : List (List ℕ))
      (file : List ℕ) (fault : JobFault) → files_asked words ≡ Some files
      → IsFirstFault c.specs c.shelf.old files file fault
      → IsRefusedFor file fault sink result ⊎ (result ≡ 5)
  unmade (inl x) calm told files file fault asks first =
      absurd (none_some (files_asked words) files x.asks asks)
  unmade (inr (inl x)) calm told files file fault asks first =
      unmade_by calm told files x.fault
      (subst (λ (fs : List (List ℕ)). IsWhy c.shelf c.specs fs x.fault)
      (same_some (files_asked words) x.files files x.asks asks) x.why) x.said file fault first
  unmade (inr (inr x)) calm told files file fault asks first =
      absurd (made_none c.shelf c.specs files x.jobs file fault told
      (subst (λ (fs : List (List ℕ)). AreMade c.shelf c.specs fs x.jobs)
      (same_some (files_asked words) x.files files x.asks asks) x.are.made) first)

  refused : Comes words c sink result → IsCalm c sink → c.shelf.tells → (files : List (List ℕ))
      (jobs : List Job) (fault : BatchFault) → files_asked words ≡ Some files
      → AllMade c.specs c.shelf.old files jobs → jobs_fault files jobs ≡ Some fault
      → Says sink 2 (fault_text fault) result ⊎ (result ≡ 5)
  refused (inl x) calm told files jobs fault asks all is =
      absurd (none_some (files_asked words) files x.asks asks)
  refused (inr (inl x)) calm told files jobs fault asks all is =
      refused_by calm told files x.fault
      (subst (λ (fs : List (List ℕ)). IsWhy c.shelf c.specs fs x.fault)
      (same_some (files_asked words) x.files files x.asks asks) x.why) x.said jobs fault all is
  refused (inr (inr x)) calm told files jobs fault asks all is =
      absurd (none_some (jobs_fault files jobs) fault
      (subst (λ (js : List Job). jobs_fault files js ≡ None)
      (made_same c.shelf c.specs files x.jobs jobs told made all)
      (subst (λ (fs : List (List ℕ)). jobs_fault fs x.jobs ≡ None) same x.are.no_fault)) is)
    where
      same : x.files ≡ files
      same = same_some (files_asked words) x.files files x.asks asks

      made : AreMade c.shelf c.specs files x.jobs
      made = subst (λ (fs : List (List ℕ)). AreMade c.shelf c.specs fs x.jobs) same x.are.made

  turns : Comes words c sink result → IsCalm c sink → c.shelf.tells → (files : List (List ℕ))
      (jobs : List Job) → files_asked words ≡ Some files → AllMade c.specs c.shelf.old files jobs
      → jobs_fault files jobs ≡ None → HasTakenTurns c files sink result ⊎ (result ≡ 5)
  turns (inl x) calm told files jobs asks all none =
      absurd (none_some (files_asked words) files x.asks asks)
  turns (inr (inl x)) calm told files jobs asks all none =
      run_by calm told files x.fault
      (subst (λ (fs : List (List ℕ)). IsWhy c.shelf c.specs fs x.fault)
      (same_some (files_asked words) x.files files x.asks asks) x.why) x.said jobs all none
  turns (inr (inr x)) calm told files jobs asks all none =
      inl (subst (λ (fs : List (List ℕ)). HasTakenTurns c fs sink result)
      (same_some (files_asked words) x.files files x.asks asks) x.turns)

  pub owes : Comes words c sink result → Owes words c sink result
  owes x = record {
    usage = usage x;
    only_usage = only_usage x;
    unmade = unmade x;
    refused = refused x;
    turns = turns x;
    sink_failed = sink_failed x;
  }
