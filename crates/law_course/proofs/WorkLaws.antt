-- The works of a run from a beginning, one after another.
use Rattle.std.proofs.Common.{◌≡◌, ◌≢◌, ◌⊎◌, inl, inr, ℕ, ◌+◌, ◌<◌, ◌≤◌, ◌^◌, Bool, true, refl, sym, ap, ◌∙◌, subst, List, [], ◌∷◌, ◌++◌, map, length, length-append, get_or, take, append_assoc, append-nil, Option, Some, None, IfSome, if◌then◌else◌, le_refl, lt_of_le_of_lt, le_trans, le_of_lt, arith}
use Rattle.std.specs.Prelude.{slice_index}
use Rattle.std.proofs.lemmas.Bool.{eq-eqb, ne_eqb}
use Rattle.std.proofs.lemmas.List.{take_at, length-take-le}
use Rattle.cx_plan.specs.declared.variable.VarId.{VarId}
use Rattle.cx_plan.specs.Dues.{is_due}
use Rattle.cx_plan.specs.Setups.{Setup}
use Rattle.cx_rule.specs.Routine.{Rule}
use Rattle.cx_rule.specs.States.{State}
use Rattle.cx_model.specs.Traces.{Entry, Turned, Overflowed, Exchanged, Tested, Rotated, Wrote, Saved}
use Rattle.cx_model.specs.Runs.{Lengths, no_lengths, grown_by, lengths_after, lengths_behind, text_to, output, output_of, undivided_run}
use Rattle.cx_model.specs.Checkpoints.{Continues}
use Rattle.cx_model.specs.Values.{KeepsStates}
use Rattle.cx_model.proofs.SaveLaws.{output-both}
use Rattle.cx_model.proofs.WalkLaws.{Each}
use Rattle.cx_disk.specs.Disk.{Files, View}
use Rattle.cx_chk.specs.declared.checkpoint.Checkpoint.{Checkpoint}
use Rattle.cx_outputs.specs.Names.{lengths_in, place_in}
use Rattle.cx_keep.specs.Beginning.{IsLater, length_left, newest_left}
use Rattle.cx_keep.specs.Trails.{Has, IsFrontOf, IsNextCheckpoint, text_of, length_in, file_of_output}
use Rattle.law_reached.specs.Works.{works_of}
use Rattle.law_reached.proofs.SilentWorks.{works_both}
use Rattle.law_course.specs.Courses.{checkpoint_of, checkpoints_in, course_of}
use Rattle.law_course.specs.Beginnings.{lengths_found, run_from}
use Rattle.law_course.specs.Works.{KeptRun, kept_run, course_by, works_by, text_done, lengths_done, output_done, HasDone, FilesAre, first_of, next_of, newest_after, newest_of, PieceIsNext, ComesNext, SaveIsNext, IsBegun, LastIs, IsAllDone, IsAtLeast, WorksFollow, EachWorkFollows}
use Rattle.law_course.proofs.OutputLaws.{IsAmong, WritesTo, Rise, run_writes, each_rest, after_is, first_behind, var_at, length_at, text_at, count_of, same_in, place_within, place_is, others_same}
use Rattle.law_course.proofs.PlaceLaws.{Rises, run_rises, has_places, no_shorter, has_there}
use Rattle.law_course.proofs.StateLaws.{due_within}
use Rattle.law_course.proofs.BeginLaws.{newest_both, Behind, behind, front_earlier, within_output}

-- ---- works among entries

module _ (setup : Setup) (key : List ℕ) where
  checkpoints_same : (n : Lengths) (es : List Entry)
      → checkpoints_in setup key n (works_of es) ≡ checkpoints_in setup key n es
  checkpoints_same n [] = refl
  checkpoints_same n (Saved i s ∷ es) =
      ap (λ (cs : List Checkpoint). checkpoint_of setup key i s n ∷ cs) (checkpoints_same n es)
  checkpoints_same n (Wrote v i text s ∷ es) = checkpoints_same (grown_by n v (length text)) es
  checkpoints_same n (Turned k i s ∷ es) = checkpoints_same n es
  checkpoints_same n (Overflowed k i s ∷ es) = checkpoints_same n es
  checkpoints_same n (Exchanged vars path s ∷ es) = checkpoints_same n es
  checkpoints_same n (Tested v path s ∷ es) = checkpoints_same n es
  checkpoints_same n (Rotated s ∷ es) = checkpoints_same n es

output_works : (v : VarId) (es : List Entry) → output_of v (works_of es) ≡ output_of v es
output_works v [] = refl
output_works v (Saved i s ∷ es) = output_works v es
output_works v (Wrote w i text s ∷ es) =
    ap (λ (t : List ℕ). text_to v (Wrote w i text s) ++ t) (output_works v es)
output_works v (Turned k i s ∷ es) = output_works v es
output_works v (Overflowed k i s ∷ es) = output_works v es
output_works v (Exchanged vars path s ∷ es) = output_works v es
output_works v (Tested w path s ∷ es) = output_works v es
output_works v (Rotated s ∷ es) = output_works v es

works_write : (vs : List VarId) (es : List Entry) → Each (WritesTo vs) es
    → Each (WritesTo vs) (works_of es)
works_write vs [] each = tt
works_write vs (Saved i s ∷ es) each = (tt, works_write vs es each.1)
works_write vs (Wrote v i text s ∷ es) each = (each.0, works_write vs es each.1)
works_write vs (Turned k i s ∷ es) each = works_write vs es each.1
works_write vs (Overflowed k i s ∷ es) each = works_write vs es each.1
works_write vs (Exchanged vars path s ∷ es) each = works_write vs es each.1
works_write vs (Tested v path s ∷ es) each = works_write vs es each.1
works_write vs (Rotated s ∷ es) each = works_write vs es each.1

rises_works : (b : ℕ) (es : List Entry) → Rises b es → Rises b (works_of es)
rises_works b [] r = tt
rises_works b (Saved i s ∷ es) r = (r.0, rises_works i es r.1)
rises_works b (Wrote v i text s ∷ es) r = rises_works b es r
rises_works b (Turned k i s ∷ es) r = rises_works b es r
rises_works b (Overflowed k i s ∷ es) r = rises_works b es r
rises_works b (Exchanged vars path s ∷ es) r = rises_works b es r
rises_works b (Tested v path s ∷ es) r = rises_works b es r
rises_works b (Rotated s ∷ es) r = rises_works b es r

newest_works : (m : Option ℕ) (es : List Entry) → newest_after m (works_of es) ≡ newest_after m es
newest_works m [] = refl
newest_works m (Saved i s ∷ es) = newest_works (Some i) es
newest_works m (Wrote v i text s ∷ es) = newest_works m es
newest_works m (Turned k i s ∷ es) = newest_works m es
newest_works m (Overflowed k i s ∷ es) = newest_works m es
newest_works m (Exchanged vars path s ∷ es) = newest_works m es
newest_works m (Tested v path s ∷ es) = newest_works m es
newest_works m (Rotated s ∷ es) = newest_works m es

rises_front : (b : ℕ) (es more : List Entry) → Rises b (es ++ more) → Rises b es
rises_front b [] more r = tt
rises_front b (Saved i s ∷ es) more r = (r.0, rises_front i es more r.1)
rises_front b (Wrote v i text s ∷ es) more r = rises_front b es more r
rises_front b (Turned k i s ∷ es) more r = rises_front b es more r
rises_front b (Overflowed k i s ∷ es) more r = rises_front b es more r
rises_front b (Exchanged vars path s ∷ es) more r = rises_front b es more r
rises_front b (Tested v path s ∷ es) more r = rises_front b es more r
rises_front b (Rotated s ∷ es) more r = rises_front b es more r

-- ---- the newest place of entries

at_most : (m : Option ℕ) (b i : ℕ) → IfSome m (λ n. n ≤ b) → b < i → IfSome m (λ n. n < i)
at_most None b i h l = tt
at_most (Some n) b i h l = lt_of_le_of_lt h l

newest_below : (a : List Entry) (m : Option ℕ) (b i : ℕ) (s : State) (rest : List Entry)
    → IfSome m (λ n. n ≤ b) → Rises b (a ++ Saved i s ∷ rest)
    → IfSome (newest_after m a) (λ n. n < i)
newest_below [] m b i s rest h r = at_most m b i h r.0
newest_below (Saved k t ∷ es) m b i s rest h r = newest_below es (Some k) k i s rest (le_refl k) r.1
newest_below (Wrote v k text t ∷ es) m b i s rest h r = newest_below es m b i s rest h r
newest_below (Turned j k t ∷ es) m b i s rest h r = newest_below es m b i s rest h r
newest_below (Overflowed j k t ∷ es) m b i s rest h r = newest_below es m b i s rest h r
newest_below (Exchanged vars path t ∷ es) m b i s rest h r = newest_below es m b i s rest h r
newest_below (Tested v path t ∷ es) m b i s rest h r = newest_below es m b i s rest h r
newest_below (Rotated t ∷ es) m b i s rest h r = newest_below es m b i s rest h r

-- the last of some checkpoints behind iteration k
record LastBehind (cs : List Checkpoint) (k : ℕ) (newest : Option ℕ) : Type 0 where
  iteration : ℕ
  is : newest ≡ Some iteration
  least : k ≤ iteration
  where_from : ((cs ≡ []) × (iteration ≡ k))
      ⊎ ((c : Checkpoint) × Has cs c × (c.iteration ≡ iteration))
  greatest : (c : Checkpoint) → Has cs c → c.iteration ≤ iteration

-- the last of some checkpoints, if there is one
record LastIn (cs : List Checkpoint) (iteration : ℕ) : Type 0 where
  checkpoint : Checkpoint
  among : Has cs checkpoint
  iteration_is : checkpoint.iteration ≡ iteration
  greatest : (c : Checkpoint) → Has cs c → c.iteration ≤ iteration

abbrev LastOf : List Checkpoint → Option ℕ → Type 0
LastOf cs None = cs ≡ []
LastOf cs (Some iteration) = LastIn cs iteration

module _ (setup : Setup) (key : List ℕ) where
  last_behind : (k : ℕ) (n : Lengths) (es : List Entry) → Rises k es
      → LastBehind (checkpoints_in setup key n es) k (newest_after (Some k) es)
  last_behind k n [] r = record {
    iteration = k;
    is = refl;
    least = le_refl k;
    where_from = inl (refl, refl);
    greatest = λ c h. absurd h;
  }
  last_behind k n (Saved i s ∷ es) r = by (last_behind i n es r.1)
    where
      head : Checkpoint
      head = checkpoint_of setup key i s n

      from : (m : ℕ) → ((checkpoints_in setup key n es ≡ []) × (m ≡ i))
          ⊎ ((c : Checkpoint) × Has (checkpoints_in setup key n es) c × (c.iteration ≡ m))
          → (c : Checkpoint) × Has (head ∷ checkpoints_in setup key n es) c × (c.iteration ≡ m)
      from m (inl e) = (head, inl refl, sym e.1)
      from m (inr h) = (h.0, inr h.1, h.2)

      greatest : (m : ℕ) → i ≤ m
          → ((c : Checkpoint) → Has (checkpoints_in setup key n es) c → c.iteration ≤ m)
          → (c : Checkpoint) → Has (head ∷ checkpoints_in setup key n es) c → c.iteration ≤ m
      greatest m l all c (inl e) =
          subst (λ (x : ℕ). x ≤ m) (sym (ap (λ (d : Checkpoint). d.iteration) e)) l
      greatest m l all c (inr h) = all c h

      by : LastBehind (checkpoints_in setup key n es) i (newest_after (Some i) es)
          → LastBehind (head ∷ checkpoints_in setup key n es) k (newest_after (Some i) es)
      by l =
          record {
            iteration = l.iteration;
            is = l.is;
            least = le_trans (le_of_lt r.0) l.least;
            where_from = inr (from l.iteration l.where_from);
            greatest = greatest l.iteration l.least l.greatest;
          }
  last_behind k n (Wrote v i text s ∷ es) r = last_behind k (grown_by n v (length text)) es r
  last_behind k n (Turned j i s ∷ es) r = last_behind k n es r
  last_behind k n (Overflowed j i s ∷ es) r = last_behind k n es r
  last_behind k n (Exchanged vars path s ∷ es) r = last_behind k n es r
  last_behind k n (Tested v path s ∷ es) r = last_behind k n es r
  last_behind k n (Rotated s ∷ es) r = last_behind k n es r

  last_of_all : (b : ℕ) (n : Lengths) (es : List Entry) → Rises b es
      → LastOf (checkpoints_in setup key n es) (newest_after None es)
  last_of_all b n [] r = refl
  last_of_all b n (Saved i s ∷ es) r = by (last_behind i n es r.1)
    where
      head : Checkpoint
      head = checkpoint_of setup key i s n

      made : (m : ℕ) → i ≤ m → ((checkpoints_in setup key n es ≡ []) × (m ≡ i))
          ⊎ ((c : Checkpoint) × Has (checkpoints_in setup key n es) c × (c.iteration ≡ m))
          → ((c : Checkpoint) → Has (checkpoints_in setup key n es) c → c.iteration ≤ m)
          → LastIn (head ∷ checkpoints_in setup key n es) m
      made m l from all =
          let f = found from in
          record {
            checkpoint = f.0;
            among = f.1;
            iteration_is = f.2;
            greatest = λ c h. greatest c h;
          }
        where
          found : ((checkpoints_in setup key n es ≡ []) × (m ≡ i))
              ⊎ ((c : Checkpoint) × Has (checkpoints_in setup key n es) c × (c.iteration ≡ m))
              → (c : Checkpoint) × Has (head ∷ checkpoints_in setup key n es) c × (c.iteration ≡ m)
          found (inl e) = (head, inl refl, sym e.1)
          found (inr h) = (h.0, inr h.1, h.2)

          greatest : (c : Checkpoint) → Has (head ∷ checkpoints_in setup key n es) c
              → c.iteration ≤ m
          greatest c (inl e) = subst (λ (x : ℕ). x ≤ m)
              (sym (ap (λ (d : Checkpoint). d.iteration) e)) l
          greatest c (inr h) = all c h

      by : LastBehind (checkpoints_in setup key n es) i (newest_after (Some i) es)
          → LastOf (head ∷ checkpoints_in setup key n es) (newest_after (Some i) es)
      by l = subst (LastOf (head ∷ checkpoints_in setup key n es)) (sym l.is)
          (made l.iteration l.least l.where_from l.greatest)
  last_of_all b n (Wrote v i text s ∷ es) r = last_of_all b (grown_by n v (length text)) es r
  last_of_all b n (Turned k i s ∷ es) r = last_of_all b n es r
  last_of_all b n (Overflowed k i s ∷ es) r = last_of_all b n es r
  last_of_all b n (Exchanged vars path s ∷ es) r = last_of_all b n es r
  last_of_all b n (Tested v path s ∷ es) r = last_of_all b n es r
  last_of_all b n (Rotated s ∷ es) r = last_of_all b n es r

  -- those of the first of some entries
  has_front : (a more : List Entry) (n : Lengths) (c : Checkpoint)
      → Has (checkpoints_in setup key n a) c
      → Has (checkpoints_in setup key n (a ++ more)) c
  has_front [] more n c h = absurd h
  has_front (Saved i s ∷ es) more n c (inl e) = inl e
  has_front (Saved i s ∷ es) more n c (inr h) = inr (has_front es more n c h)
  has_front (Wrote v i text s ∷ es) more n c h =
      has_front es more (grown_by n v (length text)) c h
  has_front (Turned k i s ∷ es) more n c h = has_front es more n c h
  has_front (Overflowed k i s ∷ es) more n c h = has_front es more n c h
  has_front (Exchanged vars path s ∷ es) more n c h = has_front es more n c h
  has_front (Tested v path s ∷ es) more n c h = has_front es more n c h
  has_front (Rotated s ∷ es) more n c h = has_front es more n c h

  -- ---- the next checkpoint

  first_has : (P : Checkpoint → Type 0) (cs : List Checkpoint) → ((c : Checkpoint) → Has cs c → P c)
      → IfSome (first_of cs) P
  first_has P [] each = tt
  first_has P (c ∷ cs) each = each c (inl refl)

  -- those of some entries, and of the entries behind them
  has_split : (a b : List Entry) (n : Lengths) (c : Checkpoint)
      → Has (checkpoints_in setup key n (a ++ b)) c
      → Has (checkpoints_in setup key n a) c
      ⊎ Has (checkpoints_in setup key (lengths_behind n a) b) c
  has_split [] b n c h = inr h
  has_split (Saved i s ∷ es) b n c (inl e) = inl (inl e)
  has_split (Saved i s ∷ es) b n c (inr h) = by (has_split es b n c h)
    where
      by : Has (checkpoints_in setup key n es) c
          ⊎ Has (checkpoints_in setup key (lengths_behind n es) b) c
          → Has (checkpoints_in setup key n (Saved i s ∷ es)) c
          ⊎ Has (checkpoints_in setup key (lengths_behind n es) b) c
      by (inl k) = inl (inr k)
      by (inr k) = inr k
  has_split (Wrote v i text s ∷ es) b n c h = has_split es b (grown_by n v (length text)) c h
  has_split (Turned k i s ∷ es) b n c h = has_split es b n c h
  has_split (Overflowed k i s ∷ es) b n c h = has_split es b n c h
  has_split (Exchanged vars path s ∷ es) b n c h = has_split es b n c h
  has_split (Tested v path s ∷ es) b n c h = has_split es b n c h
  has_split (Rotated s ∷ es) b n c h = has_split es b n c h

  -- the first one is the shortest
  first_least : (n : Lengths) (es : List Entry) (c : Checkpoint) (j count : ℕ)
      → Has (checkpoints_in setup key n es) c
      → IfSome (first_of (checkpoints_in setup key n es)) (λ d. count ≤ length_in d j)
      → count ≤ length_in c j
  first_least n [] c j count h within = absurd h
  first_least n (Saved i s ∷ es) c j count (inl e) within =
      subst (λ (m : ℕ). count ≤ m) (sym (ap (λ (d : Checkpoint). length_in d j) e)) within
  first_least n (Saved i s ∷ es) c j count (inr h) within =
      le_trans within (no_shorter setup key es n c j h)
  first_least n (Wrote v i text s ∷ es) c j count h within =
      first_least (grown_by n v (length text)) es c j count h within
  first_least n (Turned k i s ∷ es) c j count h within = first_least n es c j count h within
  first_least n (Overflowed k i s ∷ es) c j count h within = first_least n es c j count h within
  first_least n (Exchanged vars path s ∷ es) c j count h within =
      first_least n es c j count h within
  first_least n (Tested v path s ∷ es) c j count h within = first_least n es c j count h within
  first_least n (Rotated s ∷ es) c j count h within = first_least n es c j count h within

-- ---- where a run stands, by all works of the undivided run

-- the works of the undivided run up to there, and what the outputs are by them
record Stood (setup : Setup) (key : List ℕ) (rules : List Rule) (found : Option Checkpoint)
    (done left : List Entry) : Type 0 where
  before : List Entry
  past : List Entry
  found_last : newest_after None before ≡ newest_left found
  past_is : past ≡ before ++ done
  all : works_of (undivided_run setup rules).entries ≡ past ++ left
  texts : (v : VarId) → text_done (kept_run setup key rules found) done v ≡ output_of v past
  newest : newest_after (newest_left found) done ≡ newest_after None past

small : (i most : ℕ) → i ≤ most → most ≤ 1000000 → i < 2 ^ 64
small i most h l = omega (arith, h, l)

-- a variable is its number
same_var : (v w : VarId) → v.0 ≡ w.0 → v ≡ w
same_var v w e = ap (λ (n : ℕ). record { 0 = n }) e

one_text : (w v : VarId) (i : ℕ) (text : List ℕ) (state : State) → w.0 ≡ v.0
    → text_to v (Wrote w i text state) ≡ text
one_text w v i text state e = ap (λ (b : Bool). if b then text else []) (eq-eqb w.0 v.0 e)

other_text : (w v : VarId) (i : ℕ) (text : List ℕ) (state : State) → w.0 ≢ v.0
    → text_to v (Wrote w i text state) ≡ []
other_text w v i text state e = ap (λ (b : Bool). if b then text else []) (ne_eqb w.0 v.0 e)

-- ---- what is there behind a work

module _ (r : KeptRun) (done : List Entry) where
  text_more : (w : Entry) (v : VarId)
      → text_done r (done ++ w ∷ []) v ≡ text_done r done v ++ text_to v w
  text_more w v =
      let front = take (lengths_found r.setup r.found v.0) (output r.setup r.rules v) in
      ap (λ (t : List ℕ). front ++ t)
      (output-both v done (w ∷ []) ∙ ap (λ (t : List ℕ). output_of v done ++ t)
      (append-nil (text_to v w)))
      ∙ sym (append_assoc front (output_of v done) (text_to v w))

  text_same : (w : Entry) (v : VarId) → text_to v w ≡ []
      → text_done r (done ++ w ∷ []) v ≡ text_done r done v
  text_same w v none =
      text_more w v ∙ ap (λ (t : List ℕ). text_done r done v ++ t) none
      ∙ append-nil (text_done r done v)

  lengths_more : (w : Entry)
      → lengths_after (lengths_done r done) w ≡ lengths_done r (done ++ w ∷ [])
  lengths_more w = (λ i u. at (record { 0 = u }) i)
    where
      at : (v : VarId)
          → lengths_after (lengths_done r done) w v.0 ≡ lengths_done r (done ++ w ∷ []) v.0
      at v = after_is (lengths_done r done) w v
          ∙ sym (length-append (text_done r done v) (text_to v w))
          ∙ ap (λ (t : List ℕ). length t) (sym (text_more w v))

  output_is : (j : ℕ) → j < length r.setup.out_vars
      → output_done r done j ≡ text_done r done (var_at r.setup.out_vars j)
  output_is j lt = text_at r.setup.out_vars (text_done r done) j lt

  -- the lengths in a list are those of the outputs
  pub lengths_are : (j : ℕ) → j < length r.setup.out_vars
      → slice_index (lengths_in r.setup.out_vars (lengths_done r done)) j
      ≡ length (output_done r done j)
  lengths_are j lt =
      length_at r.setup.out_vars (lengths_done r done) j lt
      ∙ ap (λ (t : List ℕ). length t) (sym (output_is j lt))

-- a list of the lengths of the outputs' files
pub lengths_of_files : (r : KeptRun) (done : List Entry) (files : Files) (lengths : List ℕ)
    → FilesAre r done files → length lengths ≡ length r.setup.out_vars
    → ((j : ℕ) → j < length lengths → slice_index lengths j ≡ length (files (file_of_output j)))
    → lengths ≡ lengths_in r.setup.out_vars (lengths_done r done)
lengths_of_files r done files lengths are many each =
    same_in r.setup.out_vars (lengths_done r done) lengths many
    (λ j lt. each j (subst (λ (n : ℕ). j < n) (sym many) lt)
    ∙ ap (λ (t : List ℕ). length t) (are j lt)
    ∙ sym (lengths_are r done j lt) ∙ length_at r.setup.out_vars (lengths_done r done) j lt)

module _ (setup : Setup) (key : List ℕ) (rules : List Rule) (laws : Continues setup rules)
    (itlast : setup.itlast ≤ 1000000) (rise : Rise setup.out_vars) (found : Option Checkpoint)
    (b : Behind setup rules found)
  where
    abbrev r : KeptRun
    r = kept_run setup key rules found

    stood : (done left : List Entry) → HasDone r done left → Stood setup key rules found done left
    stood done left h =
        record {
          before = works_of b.earlier;
          past = works_of b.earlier ++ done;
          found_last = newest_works None b.earlier ∙ b.newest;
          past_is = refl;
          all = ap works_of b.all ∙ works_both b.earlier (run_from setup rules found).entries
              ∙ ap (λ (l : List Entry). works_of b.earlier ++ l) h
              ∙ sym (append_assoc (works_of b.earlier) done left);
          texts = λ v. ap (λ (l : List ℕ). l ++ output_of v done)
              (front_earlier setup rules found b v ∙ sym (output_works v b.earlier))
              ∙ sym (output-both v (works_of b.earlier) done);
          newest = ap (λ (m : Option ℕ). newest_after m done)
              (sym (newest_works None b.earlier ∙ b.newest))
              ∙ sym (newest_both None (works_of b.earlier) done);
        }

    -- an output is what there is of it, and then the texts that are left
    whole_output : (done left : List Entry) → Stood setup key rules found done left → (v : VarId)
        → output setup rules v ≡ text_done r done v ++ output_of v left
    whole_output done left s v =
        sym (output_works v (undivided_run setup rules).entries) ∙ ap (output_of v) s.all
        ∙ output-both v s.past left
        ∙ ap (λ (l : List ℕ). l ++ output_of v left) (sym (s.texts v))

    lengths_past : (done left : List Entry) (s : Stood setup key rules found done left)
        → lengths_done r done ≡ lengths_behind no_lengths s.past
    lengths_past done left s = (λ i u. at (record { 0 = u }) i)
      where
        at : (v : VarId) → lengths_done r done v.0 ≡ lengths_behind no_lengths s.past v.0
        at v = ap (λ (t : List ℕ). length t) (s.texts v) ∙ sym (first_behind s.past v)

    course_has : (past left : List Entry)
        → works_of (undivided_run setup rules).entries ≡ past ++ left
        → (course_of setup key rules).checkpoints
        ≡ checkpoints_in setup key no_lengths (past ++ left)
    course_has past left all =
        sym (checkpoints_same setup key no_lengths (undivided_run setup rules).entries)
        ∙ ap (checkpoints_in setup key no_lengths) all

    works_rise : (past left : List Entry)
        → works_of (undivided_run setup rules).entries ≡ past ++ left → Rises 0 (past ++ left)
    works_rise past left all =
        subst (Rises 0) all (rises_works 0 (undivided_run setup rules).entries
        (run_rises setup rules laws))

    -- an output of the course
    of_course : (j : ℕ) → j < length (course_of setup key rules).outputs
        → j < length setup.out_vars
    of_course j lt = subst (λ (n : ℕ). j < n) (count_of setup.out_vars (output setup rules)) lt

    course_text : (j : ℕ) → j < length setup.out_vars
        → text_of (course_of setup key rules) j ≡ output setup rules (var_at setup.out_vars j)
    course_text j lt = text_at setup.out_vars (output setup rules) j lt

    -- the next checkpoint records no shorter outputs than these
    next_within : (n : Lengths) (left : List Entry) (j : ℕ)
        → IfSome (first_of (checkpoints_in setup key n left))
        (λ d. slice_index (lengths_in setup.out_vars n) j ≤ length_in d j)
    next_within n left j =
        first_has setup key (λ d. slice_index (lengths_in setup.out_vars n) j ≤ length_in d j)
        (checkpoints_in setup key n left) (λ c h. no_shorter setup key left n c j h)

    -- ---- a text

    front_of : (file text rest all : List ℕ) → all ≡ (file ++ text) ++ rest
        → file ++ text ≡ take (length (file ++ text)) all
    front_of file text rest all e =
        sym (ap (take (length (file ++ text))) e
        ∙ take_at (file ++ text) rest (length (file ++ text)) refl)

    -- it is of a variable that is written
    is_written : (done left : List Entry) (v : VarId) (i : ℕ) (text : List ℕ) (state : State)
        → HasDone r done (Wrote v i text state ∷ left) → IsAmong setup.out_vars v
    is_written done left v i text state h =
        let s = stood done (Wrote v i text state ∷ left) h in
        (each_rest (WritesTo setup.out_vars) s.past (Wrote v i text state ∷ left)
        (subst (Each (WritesTo setup.out_vars)) s.all
        (works_write setup.out_vars (undivided_run setup rules).entries
        (run_writes setup rules)))).0

    module _ (done left : List Entry) (v : VarId) (i : ℕ) (text : List ℕ) (state : State)
        (h : HasDone r done (Wrote v i text state ∷ left)) where
      among : IsAmong setup.out_vars v
      among = is_written done left v i text state h

      known : place_in setup.out_vars v < length setup.out_vars
      known = place_within setup.out_vars v among

      var_is : var_at setup.out_vars (place_in setup.out_vars v) ≡ v
      var_is = same_var (var_at setup.out_vars (place_in setup.out_vars v)) v
          (place_is setup.out_vars v among)

      file_is : (ds : List Entry)
          → output_done r ds (place_in setup.out_vars v) ≡ text_done r ds v
      file_is ds = output_is r ds (place_in setup.out_vars v) known ∙ ap (text_done r ds) var_is

      piece_front : IsFrontOf (text_of (course_of setup key rules) (place_in setup.out_vars v))
          (output_done r done (place_in setup.out_vars v) ++ text)
      piece_front =
          let file = output_done r done (place_in setup.out_vars v) in
          let s = stood done (Wrote v i text state ∷ left) h in
          front_of file text (output_of v left)
          (text_of (course_of setup key rules) (place_in setup.out_vars v))
          (course_text (place_in setup.out_vars v) known ∙ ap (output setup rules) var_is
          ∙ whole_output done (Wrote v i text state ∷ left) s v
          ∙ ap (λ (t : List ℕ). t ++ (text_to v (Wrote v i text state) ++ output_of v left))
          (sym (file_is done))
          ∙ ap (λ (t : List ℕ). file ++ (t ++ output_of v left))
          (one_text v v i text state refl)
          ∙ sym (append_assoc file text (output_of v left)))

      grown_there : slice_index
          (lengths_in setup.out_vars (grown_by (lengths_done r done) v (length text)))
          (place_in setup.out_vars v)
          ≡ length (output_done r done (place_in setup.out_vars v)) + length text
      grown_there =
          length_at setup.out_vars (grown_by (lengths_done r done) v (length text))
          (place_in setup.out_vars v) known
          ∙ ap (grown_by (lengths_done r done) v (length text)) (place_is setup.out_vars v among)
          ∙ ap (λ (is : Bool). if is then lengths_done r done v.0 + length text
          else lengths_done r done v.0) (eq-eqb v.0 v.0 refl)
          ∙ ap (λ (t : List ℕ). length t + length text) (sym (file_is done))

      next_same : next_of r done (Wrote v i text state ∷ left)
          ≡ next_of r (done ++ Wrote v i text state ∷ []) left
      next_same = ap (λ (n : Lengths). first_of (checkpoints_in setup key n left))
          (lengths_more r done (Wrote v i text state))

      pub piece_next : PieceIsNext r done left (Wrote v i text state) (place_in setup.out_vars v)
          text
      piece_next =
          record {
            piece = record {
              output = subst (λ (n : ℕ). place_in setup.out_vars v < n)
                  (sym (count_of setup.out_vars (output setup rules))) known;
              front = piece_front;
              within = subst (λ (n : ℕ).
                  IfSome (next_of r done (Wrote v i text state ∷ left))
                  (λ d. n ≤ length_in d (place_in setup.out_vars v))) grown_there
                  (next_within (grown_by (lengths_done r done) v (length text)) left
                  (place_in setup.out_vars v));
            };
            next = next_same;
            newest = newest_both (newest_left found) done (Wrote v i text state ∷ []);
            this = file_is (done ++ Wrote v i text state ∷ [])
                ∙ text_more r done (Wrote v i text state) v
                ∙ ap (λ (t : List ℕ). text_done r done v ++ t) (one_text v v i text state refl)
                ∙ ap (λ (t : List ℕ). t ++ text) (sym (file_is done));
            others = λ k other. others_same setup.out_vars rise v
                (text_done r (done ++ Wrote v i text state ∷ [])) (text_done r done)
                (λ u ne. text_same r done (Wrote v i text state) u
                (other_text v u i text state (λ e. ne (sym e)))) k other;
          }

    -- ---- a checkpoint

    later_is : (c : Option Checkpoint) (n : Lengths) (left : List Entry)
        → ((j : ℕ) → j < length setup.out_vars
        → length_left c j ≡ slice_index (lengths_in setup.out_vars n) j)
        → IsLater (course_of setup key rules) c (first_of (checkpoints_in setup key n left))
    later_is c n left each =
        first_has setup key (λ d. (j : ℕ) → j < length (course_of setup key rules).outputs
        → length_left c j ≤ length_in d j)
        (checkpoints_in setup key n left)
        (λ d h j lt. subst (λ (m : ℕ). m ≤ length_in d j) (sym (each j (of_course j lt)))
        (no_shorter setup key left n d j h))

    save_has : (past left : List Entry) (i : ℕ) (state : State) (n : Lengths)
        → works_of (undivided_run setup rules).entries ≡ past ++ Saved i state ∷ left
        → n ≡ lengths_behind no_lengths past
        → Has (course_of setup key rules).checkpoints (checkpoint_of setup key i state n)
    save_has past left i state n all is =
        subst (λ (cs : List Checkpoint). Has cs (checkpoint_of setup key i state n))
        (sym (course_has past (Saved i state ∷ left) all))
        (subst (λ (m : Lengths). Has
        (checkpoints_in setup key no_lengths (past ++ Saved i state ∷ left))
        (checkpoint_of setup key i state m)) (sym is)
        (has_there setup key past left no_lengths i state))

    save_due : (c : Checkpoint) → Has (course_of setup key rules).checkpoints c
        → is_due setup c.iteration ≡ true
    save_due c h = let p = (has_places setup rules laws key).places c h in
        laws.due c.iteration p.state p.so_far p.reached

    save_same : (done : List Entry) (i : ℕ) (state : State)
        → text_done r (done ++ Saved i state ∷ []) ≡ text_done r done
    save_same done i state = (λ k v. text_same r done (Saved i state) v refl k)

    save_next : (done left : List Entry) (i : ℕ) (state : State)
        → HasDone r done (Saved i state ∷ left)
        → SaveIsNext r done left (Saved i state)
        (checkpoint_of setup key i state (lengths_done r done))
    save_next done left i state h =
        let w = Saved i state in
        let s = stood done (w ∷ left) h in
        let c = checkpoint_of setup key i state (lengths_done r done) in
        let has = save_has s.past left i state (lengths_done r done) s.all
        (lengths_past done (w ∷ left) s) in
        record {
          next = refl;
          comes = record {
            of_run = has;
            version = refl;
            in_range = small i setup.itlast (due_within setup i (save_due c has)) itlast;
            later = subst (λ (m : Option ℕ). IfSome m (λ n. n < i)) (sym s.newest)
                (newest_below s.past None 0 i state left tt (works_rise s.past (w ∷ left) s.all));
            lengths = λ files are j lt. lengths_are r done j (of_course j lt)
                ∙ ap (λ (t : List ℕ). length t) (sym (are j (of_course j lt)));
          };
          later = later_is (Some c) (lengths_done r done) left (λ j lt. refl);
          newest = newest_both (newest_left found) done (w ∷ []);
          same = λ j. ap (λ (f : VarId → List ℕ). get_or (map f setup.out_vars) j [])
              (save_same done i state);
        }

    -- ---- the first work, and behind the last one

    nothing_done : (v : VarId) → text_done r [] v
        ≡ take (lengths_found setup found v.0) (output setup rules v)
    nothing_done v = append-nil (take (lengths_found setup found v.0) (output setup rules v))

    first_length : (j : ℕ) → j < length setup.out_vars
        → length (output_done r [] j) ≡ length_left found j
    first_length j lt =
        let v = var_at setup.out_vars j in
        ap (λ (t : List ℕ). length t) (output_is r [] j lt ∙ nothing_done v)
        ∙ length-take-le (lengths_found setup found v.0) (output setup rules v)
        (within_output setup rules found b v)
        ∙ sym (b.left j lt)

    begun : IsBegun r
    begun =
        record {
          outputs = λ j lt. output_is r [] j lt ∙ nothing_done (var_at setup.out_vars j)
              ∙ ap (λ (n : ℕ). take n (output setup rules (var_at setup.out_vars j)))
              (sym (b.left j lt))
              ∙ ap (take (length_left found j)) (sym (course_text j lt));
          lengths = first_length;
          later = later_is found (lengths_done r []) (works_by r)
              (λ j lt. sym (first_length j lt) ∙ sym (lengths_are r [] j lt));
        }

    last_is : (cs : List Checkpoint) (newest : Option ℕ)
        → (course_of setup key rules).checkpoints ≡ cs → LastOf cs newest
        → LastIs (course_of setup key rules) newest
    last_is cs None e l = e ∙ l
    last_is cs (Some m) e l =
        record {
          checkpoint = l.checkpoint;
          of_run = subst (λ (x : List Checkpoint). Has x l.checkpoint) (sym e) l.among;
          iteration_is = l.iteration_is;
          greatest = λ c h. l.greatest c (subst (λ (x : List Checkpoint). Has x c) e h);
        }

    all_done : (done : List Entry) → HasDone r done [] → IsAllDone r done
    all_done done h =
        let s = stood done [] h in
        record {
          outputs = λ j lt. output_is r done j lt
              ∙ sym (whole_output done [] s (var_at setup.out_vars j)
              ∙ append-nil (text_done r done (var_at setup.out_vars j)))
              ∙ sym (course_text j lt);
          newest = subst (LastIs (course_of setup key rules))
              (sym (s.newest ∙ ap (newest_after None) (sym (append-nil s.past))))
              (last_is (checkpoints_in setup key no_lengths (s.past ++ []))
              (newest_after None (s.past ++ []))
              (course_has s.past [] s.all)
              (last_of_all setup key 0 no_lengths (s.past ++ []) (works_rise s.past [] s.all)));
        }

    -- ---- an output that is longer than a checkpoint records

    within : (done left : List Entry) → HasDone r done left
        → IfSome (next_of r done left)
        (λ d. (j : ℕ) → j < length setup.out_vars → length (output_done r done j) ≤ length_in d j)
    within done left h =
        first_has setup key (λ d. (j : ℕ) → j < length setup.out_vars
        → length (output_done r done j) ≤ length_in d j)
        (checkpoints_in setup key (lengths_done r done) left)
        (λ d has j lt. subst (λ (n : ℕ). n ≤ length_in d j) (lengths_are r done j lt)
        (no_shorter setup key left (lengths_done r done) d j has))

    at_least : (cs : List Checkpoint) (newest : Option ℕ) (c : Checkpoint) → LastOf cs newest
        → Has cs c → IsAtLeast newest c.iteration
    at_least cs None c l h = absurd (subst (λ (x : List Checkpoint). Has x c) l h)
    at_least cs (Some m) c l h = record { found = m; is = refl; least = l.greatest c h }

    too_long : (n l : ℕ) → l < n → n ≤ l → ⊥
    too_long n l h k = omega (arith, h, k)

    pace : (done left : List Entry) (c : Checkpoint) (j count : ℕ) → HasDone r done left
        → j < length setup.out_vars
        → IfSome (next_of r done left) (λ d. count ≤ length_in d j)
        → Has (course_of setup key rules).checkpoints c → length_in c j < count
        → IsAtLeast (newest_of r done) c.iteration
    pace done left c j count h lt within has long =
        by (has_split setup key s.past left no_lengths c
        (subst (λ (cs : List Checkpoint). Has cs c) (course_has s.past left s.all) has))
      where
        s : Stood setup key rules found done left
        s = stood done left h

        by : Has (checkpoints_in setup key no_lengths s.past) c
            ⊎ Has (checkpoints_in setup key (lengths_behind no_lengths s.past) left) c
            → IsAtLeast (newest_of r done) c.iteration
        by (inl k) =
            subst (λ (m : Option ℕ). IsAtLeast m c.iteration) (sym s.newest)
            (at_least (checkpoints_in setup key no_lengths s.past) (newest_after None s.past) c
            (last_of_all setup key 0 no_lengths s.past
            (rises_front 0 s.past left (works_rise s.past left s.all))) k)
        by (inr k) =
            let there = subst (λ (m : Lengths). Has (checkpoints_in setup key m left) c)
            (sym (lengths_past done left s)) k in
            absurd (too_long count (length_in c j) long
            (first_least setup key (lengths_done r done) left c j count there within))

    -- ---- a newest checkpoint that isn't older than the one that was found

    -- the last of some entries has others behind it
    last_stays : (before more : List Entry) (c : Checkpoint) → Rises 0 (before ++ more)
        → newest_after None before ≡ Some c.iteration
        → IsAtLeast (newest_after None (before ++ more)) c.iteration
    last_stays before more c rises e =
        let l : LastIn (checkpoints_in setup key no_lengths before) c.iteration =
        subst (LastOf (checkpoints_in setup key no_lengths before)) e
        (last_of_all setup key 0 no_lengths before (rises_front 0 before more rises)) in
        let a = at_least (checkpoints_in setup key no_lengths (before ++ more))
        (newest_after None (before ++ more)) l.checkpoint
        (last_of_all setup key 0 no_lengths (before ++ more) rises)
        (has_front setup key before more no_lengths l.checkpoint l.among) in
        subst (IsAtLeast (newest_after None (before ++ more))) l.iteration_is a

    not_behind : (done left : List Entry) (c : Checkpoint) → HasDone r done left
        → found ≡ Some c → IsAtLeast (newest_of r done) c.iteration
    not_behind done left c h is =
        let s = stood done left h in
        subst (λ (m : Option ℕ). IsAtLeast m c.iteration)
        (sym (s.newest ∙ ap (newest_after None) s.past_is))
        (last_stays s.before done c
        (subst (Rises 0) s.past_is (rises_front 0 s.past left (works_rise s.past left s.all)))
        (s.found_last ∙ ap newest_left is))

    pub works_follow : WorksFollow r
    works_follow =
        record {
          begun = begun;
          piece = piece_next;
          save = save_next;
          all_done = all_done;
          within = within;
          pace = pace;
          not_behind = not_behind;
        }

pub each_work_follows : (setup : Setup) (key : List ℕ) (rules : List Rule) → Continues setup rules
    → KeepsStates setup rules → setup.itlast ≤ 1000000 → Rise setup.out_vars
    → EachWorkFollows setup key rules
each_work_follows setup key rules laws keeps itlast rise found is =
    works_follow setup key rules laws itlast rise found
    (behind setup key rules laws keeps found is)

-- what comes next on each disk whose outputs read so comes next by a view of one
pub is_next_checkpoint : (r : KeptRun) (done : List Entry) (c : Checkpoint) (view : View)
    → ComesNext r done c → FilesAre r done view.seen
    → IsNextCheckpoint (course_by r) (newest_of r done) c view
is_next_checkpoint r done c view comes are =
    record {
      of_run = comes.of_run;
      version = comes.version;
      in_range = comes.in_range;
      later = comes.later;
      lengths = comes.lengths view.seen are;
    }
