-- A flag that is followed: along one kind of marks and then another, either of two, and any number
-- of times.
use Rattle.std.proofs.Common.{◌≡◌, ℕ, zero, suc, ◌<◌, ◌≤◌, true, refl, sym, ap, subst, ◌∙◌, List, [], ◌∷◌, ◌++◌, length, map, arith, Vec, Result, Ok, Err, ◌⊎◌, inl, inr}
use Rattle.std.specs.declared.alloc.Global.{Global}
use Rattle.std.proofs.lemmas.List.{length-map}
use Rattle.cx_plan.specs.declared.job.Job.{Job}
use Rattle.cx_plan.specs.Setups.{setup_of}
use Rattle.cx_plan.specs.Regions.{Flags, Act, Need}
use Rattle.cx_plan.specs.Paths.{Mark, Letter, Meets, letter_y, letter_n, letter_w, letter_x, Then, Just, Loop}
use Rattle.cx_plan.specs.Whole.{IsWhole}
use Rattle.cx_region.specs.declared.one_flag_tree.Rounds.{Rounds}
use Rattle.cx_region.specs.declared.one_flag_tree.Rounds.TheVariants.{Once, Settled}
use Rattle.cx_region.specs.declared.witness.Witness.{Witness}
use Rattle.cx_region.specs.declared.witness.Followed.{Followed}
use Rattle.cx_region.specs.declared.witness.WitnessStop.{WitnessStop}
use Rattle.cx_region.specs.declared.witness.WitnessStop.TheVariants.{Unset, Memory}
use Rattle.cx_region_flags.specs.AllPaths.{flags_after, Branch, Turning}
use Rattle.cx_region_flags.specs.Unmet.{seen}
use Rattle.cx_region.specs.Witnesses.{GoesOn, StopsAt, with_letter, AreMet, IsAmong, IsClearedOn, IsCovered, covers, Joins, GoOn, Stop, Goes}
use Rattle.cx_region.specs.OneFlag.{Come, GoOnBy, GoesBy}
use Rattle.cx_region_flags.proofs.SureLaws.{flags_after-append}
use Rattle.cx_region.proofs.JoinLaws.{joins-some}
use Rattle.cx_region.proofs.WitnessLaws.{Same, are_met-append, goes_on-then, goes_on-from, stops-behind, stops-from, goes-from, goes-then, goes-letter, goes-join, covered-more, covered-by, goes-stop-first, goes-stop-second, goes-stop-from}

-- ---- whatever comes of the ways

pub goes-behind : (job : Job) (x : Followed) (P Q : List Mark → Type 0) (old mid : List Witness)
    (r : Result (Vec Witness Global) WitnessStop) → GoOn job x P old mid → Goes job x Q mid r
    → Goes job x (Then P Q) old r
goes-behind job x P Q old mid (Ok new) one two = goes-then job x P Q old mid new.items one two
goes-behind job x P Q old mid (Err stop) one two = goes-stop-second job x P Q old mid stop one two

pub goes-same : (job : Job) (x : Followed) (P Q : List Mark → Type 0) (old : List Witness)
    (r : Result (Vec Witness Global) WitnessStop) → Same P Q → Goes job x P old r
    → Goes job x Q old r
goes-same job x P Q old (Ok new) same g = goes-from job x P Q old new.items same g
goes-same job x P Q old (Err stop) same g = goes-stop-from job P Q old stop same.into g

-- ---- with one turn of each WHILE, or until nothing new shows

pub come-then : (job : Job) (P Q : List Mark → Type 0) (old mid new : List Witness)
    → Come job P old mid → Come job Q mid new → Come job (Then P Q) old new
come-then job P Q old mid new one two = λ new_way among.
    let second = two new_way among in
    let first = one second.0 second.1 in
    (first.0, first.1, goes_on-then job P Q first.0 second.0 new_way first.2 second.2)

pub come-from : (job : Job) (P Q : List Mark → Type 0) (old new : List Witness)
    → ((marks : List Mark) → P marks → Q marks) → Come job P old new → Come job Q old new
come-from job P Q old new into come = λ new_way among.
    let from = come new_way among in
    (from.0, from.1, goes_on-from job P Q from.0 new_way into from.2)

pub come-join : (job : Job) (x : Followed) (P Q : List Mark → Type 0)
    (old first second new : List Witness) → Come job P old first → Come job Q old second
    → Joins x first second new → Come job (λ marks. P marks ⊎ Q marks) old new
come-join job x P Q old first second new one two joins =
    λ new_way among. by new_way (joins.among new_way among)
  where
    by : (new_way : Witness) → IsAmong first new_way ⊎ IsAmong second new_way
        → (way : Witness) × IsAmong old way × GoesOn job (λ marks. P marks ⊎ Q marks) way new_way
    by new_way (inl among) =
        come-from job P (λ marks. P marks ⊎ Q marks) old first (λ marks on. inl on)
        one new_way among
    by new_way (inr among) =
        come-from job Q (λ marks. P marks ⊎ Q marks) old second (λ marks on. inr on)
        two new_way among

pub come-stop : (job : Job) (P Q : List Mark → Type 0) (old mid : List Witness) (stop : WitnessStop)
    → Come job P old mid → Stop job Q mid stop → Stop job (Then P Q) old stop
come-stop job P Q old mid Memory one s = tt
come-stop job P Q old mid (Unset letters unmet) one s =
    let from = one s.0 s.1 in
    (from.0, from.1, stops-behind job P Q from.0 s.0 letters (seen unmet) from.2 s.2)

pub by-come : (job : Job) (rounds : Rounds) (x : Followed) (Q : List Mark → Type 0)
    (old new : List Witness) → GoOnBy job rounds x Q old new → Come job Q old new
by-come job Once x Q old new g = g
by-come job Settled x Q old new g = g.each

pub by-weaker : (job : Job) (rounds : Rounds) (x : Followed) (Q : List Mark → Type 0)
    (old new : List Witness) → GoOn job x Q old new → GoOnBy job rounds x Q old new
by-weaker job Once x Q old new g = g.each
by-weaker job Settled x Q old new g = g

pub goes-weaker : (job : Job) (rounds : Rounds) (x : Followed) (Q : List Mark → Type 0)
    (old : List Witness) (r : Result (Vec Witness Global) WitnessStop) → Goes job x Q old r
    → GoesBy job rounds x Q old r
goes-weaker job rounds x Q old (Ok new) g = by-weaker job rounds x Q old new.items g
goes-weaker job rounds x Q old (Err stop) g = g

pub goes-all : (job : Job) (x : Followed) (Q : List Mark → Type 0) (old : List Witness)
    (r : Result (Vec Witness Global) WitnessStop) → GoesBy job Settled x Q old r
    → Goes job x Q old r
goes-all job x Q old (Ok new) g = g
goes-all job x Q old (Err stop) g = g

by-then : (job : Job) (rounds : Rounds) (x : Followed) (P Q : List Mark → Type 0)
    (old mid new : List Witness) → GoOnBy job rounds x P old mid → GoOnBy job rounds x Q mid new
    → GoOnBy job rounds x (Then P Q) old new
by-then job Once x P Q old mid new one two = come-then job P Q old mid new one two
by-then job Settled x P Q old mid new one two = goes-then job x P Q old mid new one two

by-from : (job : Job) (rounds : Rounds) (x : Followed) (P Q : List Mark → Type 0)
    (old new : List Witness) → Same P Q → GoOnBy job rounds x P old new
    → GoOnBy job rounds x Q old new
by-from job Once x P Q old new same g = come-from job P Q old new same.into g
by-from job Settled x P Q old new same g = goes-from job x P Q old new same g

by-join : (job : Job) (rounds : Rounds) (x : Followed) (P Q : List Mark → Type 0)
    (old first second new : List Witness) → IsWhole job → GoOnBy job rounds x P old first
    → GoOnBy job rounds x Q old second → Joins x first second new
    → GoOnBy job rounds x (λ marks. P marks ⊎ Q marks) old new
by-join job Once x P Q old first second new is one two joins =
    come-join job x P Q old first second new one two joins
by-join job Settled x P Q old first second new is one two joins =
    goes-join job x P Q old first second new is one two joins

pub by-behind : (job : Job) (rounds : Rounds) (x : Followed) (P Q : List Mark → Type 0)
    (old mid : List Witness) (r : Result (Vec Witness Global) WitnessStop)
    → GoOnBy job rounds x P old mid → GoesBy job rounds x Q mid r
    → GoesBy job rounds x (Then P Q) old r
by-behind job rounds x P Q old mid (Ok new) one two =
    by-then job rounds x P Q old mid new.items one two
by-behind job rounds x P Q old mid (Err stop) one two =
    come-stop job P Q old mid stop (by-come job rounds x P old mid one) two

pub by-same : (job : Job) (rounds : Rounds) (x : Followed) (P Q : List Mark → Type 0)
    (old : List Witness) (r : Result (Vec Witness Global) WitnessStop) → Same P Q
    → GoesBy job rounds x P old r → GoesBy job rounds x Q old r
by-same job rounds x P Q old (Ok new) same g = by-from job rounds x P Q old new.items same g
by-same job rounds x P Q old (Err stop) same g = goes-stop-from job P Q old stop same.into g

-- what the rest comes to, all comes to
pub record Passed (job : Job) (rounds : Rounds) (x : Followed) (Whole Rest : List Mark → Type 0)
    (first now : List Witness) : Type 0 where
  pub goes_on : (r : Result (Vec Witness Global) WitnessStop) → GoesBy job rounds x Rest now r
      → GoesBy job rounds x Whole first r

pub passed-then : (job : Job) (rounds : Rounds) (x : Followed) (Whole P Q : List Mark → Type 0)
    (first now mid : List Witness) → GoOnBy job rounds x P now mid
    → Passed job rounds x Whole (Then P Q) first now → Passed job rounds x Whole Q first mid
passed-then job rounds x Whole P Q first now mid one passed =
    record { goes_on = λ r g. passed.goes_on r (by-behind job rounds x P Q now mid r one g) }

-- ---- a test and a letter

-- a step and a letter, and what comes behind
pub same-with_letter : (act : Act) (c : ℕ) (Q : List Mark → Type 0)
    → Same (Then (Just (Meets act ∷ [])) (Then (Just (Letter c ∷ [])) Q))
    (Then (Just (Meets act ∷ Letter c ∷ [])) Q)
same-with_letter act c Q =
    record {
      into = λ marks on. into marks on;
      back = λ marks on. (
        Meets act ∷ [],
        Letter c ∷ on.1,
        refl,
        (Letter c ∷ [], on.1, refl, on.3, refl),
        on.4 ∙ ap (λ a. a ++ on.1) on.2,
      );
    }
  where
    into : (marks : List Mark) → Then (Just (Meets act ∷ [])) (Then (Just (Letter c ∷ [])) Q) marks
        → Then (Just (Meets act ∷ Letter c ∷ [])) Q marks
    into marks (a, b, here, (l, d, letter, on, is), all) = (
      Meets act ∷ Letter c ∷ [],
      d,
      refl,
      on,
      all ∙ ap (λ t. t ++ b) here ∙ ap (λ t. Meets act ∷ t) (is ∙ ap (λ t. t ++ d) letter),
    )

-- a step and a letter alone
pub same-last : (act : Act) (c : ℕ)
    → Same (Then (Just (Meets act ∷ [])) (Just (Letter c ∷ []))) (Just (Meets act ∷ Letter c ∷ []))
same-last act c =
    record {
      into = λ marks on. on.4 ∙ ap (λ t. t ++ on.1) on.2 ∙ ap (λ t. Meets act ∷ t) on.3;
      back = λ marks on. (Meets act ∷ [], Letter c ∷ [], refl, refl, on);
    }

same-branch : (test : Act) (Body : List Mark → Type 0)
    → Same (Then (Just (Meets test ∷ []))
    (λ marks. Just (letter_n ∷ []) marks ⊎ Then (Just (letter_y ∷ [])) Body marks))
    (Branch test Body)
same-branch test Body = record {
  into = λ marks on. into marks on;
  back = λ marks on. back marks on;
}
  where
    into : (marks : List Mark)
        → Then (Just (Meets test ∷ []))
        (λ marks. Just (letter_n ∷ []) marks ⊎ Then (Just (letter_y ∷ [])) Body marks) marks
        → Branch test Body marks
    into marks (a, b, here, inl on, all) =
        inr ((same-last test 110).into marks (a, b, here, on, all))
    into marks (a, b, here, inr on, all) =
        inl ((same-with_letter test 121 Body).into marks (a, b, here, on, all))

    back : (marks : List Mark) → Branch test Body marks
        → Then (Just (Meets test ∷ []))
        (λ marks. Just (letter_n ∷ []) marks ⊎ Then (Just (letter_y ∷ [])) Body marks) marks
    back marks (inl on) =
        let there = (same-with_letter test 121 Body).back marks on in
        (there.0, there.1, there.2, inr there.3, there.4)
    back marks (inr on) =
        let there = (same-last test 110).back marks on in
        (there.0, there.1, there.2, inl there.3, there.4)

-- the work is done or not
pub goes-branch : (job : Job) (rounds : Rounds) (x : Followed) (test : Act)
    (Body : List Mark → Type 0) (old tested lent passed taken new : List Witness) → IsWhole job
    → lent ≡ tested → GoOn job x (Just (Meets test ∷ [])) old tested
    → GoOnBy job rounds x (Then (Just (letter_y ∷ [])) Body) lent taken
    → passed ≡ map (with_letter 110) tested → Joins x passed taken new
    → GoOnBy job rounds x (Branch test Body) old new
goes-branch job rounds x test Body old tested lent passed taken new is same test_goes lent_work
    is_passed joins =
    let T = Just (Meets test ∷ []) in
    let N = Just (letter_n ∷ []) in
    let Y = Then (Just (letter_y ∷ [])) Body in
    let work = subst (λ (ways : List Witness). GoOnBy job rounds x Y ways taken) same lent_work in
    let passes : GoOn job x N tested passed =
    subst (λ ways. GoOn job x N tested ways) (sym is_passed) (goes-letter job x 110 tested) in
    by-from job rounds x (Then T (λ marks. N marks ⊎ Y marks)) (Branch test Body) old new
    (same-branch test Body)
    (by-then job rounds x T (λ marks. N marks ⊎ Y marks) old tested new
    (by-weaker job rounds x T old tested test_goes)
    (by-join job rounds x N Y tested passed taken new is
    (by-weaker job rounds x N tested passed passes) work joins))

pub stop-branch-test : (job : Job) (test : Act) (Body : List Mark → Type 0) (old : List Witness)
    (stop : WitnessStop) → Stop job (Just (Meets test ∷ [])) old stop
    → Stop job (Branch test Body) old stop
stop-branch-test job test Body old stop s =
    goes-stop-from job (Then (Just (Meets test ∷ [])) (Just (letter_n ∷ []))) (Branch test Body)
    old stop (λ marks on. inr ((same-last test 110).into marks on))
    (goes-stop-first job (Just (Meets test ∷ [])) (Just (letter_n ∷ [])) old stop
    (letter_n ∷ [], refl) s)

pub stop-branch-work : (job : Job) (x : Followed) (test : Act) (Body : List Mark → Type 0)
    (old tested lent : List Witness) (stop : WitnessStop) → lent ≡ tested
    → GoOn job x (Just (Meets test ∷ [])) old tested
    → Stop job (Then (Just (letter_y ∷ [])) Body) lent stop → Stop job (Branch test Body) old stop
stop-branch-work job x test Body old tested lent stop same test_goes s =
    goes-stop-from job (Then (Just (Meets test ∷ [])) (Then (Just (letter_y ∷ [])) Body))
    (Branch test Body) old stop
    (λ marks on. inl ((same-with_letter test 121 Body).into marks on))
    (goes-stop-second job x (Just (Meets test ∷ [])) (Then (Just (letter_y ∷ [])) Body)
    old tested stop test_goes
    (subst (λ (ways : List Witness). Stop job (Then (Just (letter_y ∷ [])) Body) ways stop) same s))

pub join-some : (x : Followed) (c : ℕ) (tested passed taken new : List Witness)
    → passed ≡ map (with_letter c) tested → Joins x passed taken new → 1 ≤ length tested
    → 1 ≤ length new
join-some x c tested passed taken new is joins some =
    joins-some x passed taken new joins
    (omega (arith, ap length is, length-map tested (with_letter c), some))

-- ---- any number of times

-- so many turns, and then the last marks
abbrev pub Again : (List Mark → Type 0) → (List Mark → Type 0) → ℕ → List Mark → Type 0
Again Turn Last zero = Last
Again Turn Last (suc n) = Then Turn (Again Turn Last n)

abbrev pub AnyTimes : (List Mark → Type 0) → (List Mark → Type 0) → List Mark → Type 0
AnyTimes Turn Last marks = (n : ℕ) × Again Turn Last n marks

-- a way that has come from one of the first: how it goes on or stops, that one does
pub record HasCome (job : Job) (Q : List Mark → Type 0) (first : List Witness)
    (way : Witness) : Type 0 where
  pub from : Witness
  pub among : IsAmong first from
  pub goes : (new : Witness) → GoesOn job Q way new → GoesOn job Q from new
  pub stops : (letters : List ℕ) (need : Need) → StopsAt job Q way letters need
      → StopsAt job Q from letters need

-- the ways of a head have come from the first ones, and the flag is cleared on them where it is on
-- the first ones
pub record IsHead (job : Job) (x : Followed) (Q : List Mark → Type 0)
    (first now : List Witness) : Type 0 where
  pub each : (way : Witness) → IsAmong now way → HasCome job Q first way
  pub cleared : (level : ℕ) → level < 8 → IsClearedOn x first level → IsClearedOn x now level

pub head-first : (job : Job) (x : Followed) (Q : List Mark → Type 0) (first : List Witness)
    → IsHead job x Q first first
head-first job x Q first =
    record {
      each = λ way among. record {
        from = way;
        among = among;
        goes = λ new g. g;
        stops = λ letters need s. s;
      };
      cleared = λ level below cleared. cleared;
    }

turn-more : (Turn Last : List Mark → Type 0) (marks : List Mark)
    → Then Turn (AnyTimes Turn Last) marks → AnyTimes Turn Last marks
turn-more Turn Last marks (a, b, turn, (n, rest), all) = (suc n, (a, b, turn, rest, all))

come-more : (job : Job) (Turn Last : List Mark → Type 0) (first : List Witness) (mid way : Witness)
    → HasCome job (AnyTimes Turn Last) first mid → GoesOn job Turn mid way
    → HasCome job (AnyTimes Turn Last) first way
come-more job Turn Last first mid way come turn =
    let Q = AnyTimes Turn Last in
    record {
      from = come.from;
      among = come.among;
      goes = λ new g. come.goes new
          (goes_on-from job (Then Turn Q) Q mid new (turn-more Turn Last)
          (goes_on-then job Turn Q mid way new turn g));
      stops = λ letters need s.
          come.stops letters need
          (stops-from job (Then Turn Q) Q mid letters need (turn-more Turn Last)
          (stops-behind job Turn Q mid way letters need turn s));
    }

pub head-next : (job : Job) (x : Followed) (Turn Last : List Mark → Type 0)
    (first now turned new : List Witness) → IsHead job x (AnyTimes Turn Last) first now
    → Come job Turn now turned → Joins x now turned new
    → IsHead job x (AnyTimes Turn Last) first new
head-next job x Turn Last first now turned new head turn joins =
    record {
      each = λ way among. by way (joins.among way among);
      cleared = λ level below cleared.
          joins.cleared level below (inl (head.cleared level below cleared));
    }
  where
    by : (way : Witness) → IsAmong now way ⊎ IsAmong turned way
        → HasCome job (AnyTimes Turn Last) first way
    by way (inl among) = head.each way among
    by way (inr among) =
        let mid = turn way among in
        come-more job Turn Last first mid.0 way (head.each mid.0 mid.1) mid.2

pub head-stop : (job : Job) (x : Followed) (Q : List Mark → Type 0) (first now : List Witness)
    (stop : WitnessStop) → IsHead job x Q first now → Stop job Q now stop → Stop job Q first stop
head-stop job x Q first now Memory head s = tt
head-stop job x Q first now (Unset letters unmet) head s =
    let come = head.each s.0 s.1 in
    (come.from, come.among, come.stops letters (seen unmet) s.2)

-- a stop in the last marks
pub stop-last : (job : Job) (x : Followed) (Turn Last : List Mark → Type 0)
    (first now : List Witness) (stop : WitnessStop) → IsHead job x (AnyTimes Turn Last) first now
    → Stop job Last now stop → Stop job (AnyTimes Turn Last) first stop
stop-last job x Turn Last first now stop head s =
    head-stop job x (AnyTimes Turn Last) first now stop head
    (goes-stop-from job Last (AnyTimes Turn Last) now stop (λ marks on. (0, on)) s)

-- a stop in a turn
pub stop-turn : (job : Job) (x : Followed) (Turn Last : List Mark → Type 0)
    (first now : List Witness) (stop : WitnessStop) → ((marks : List Mark) × Last marks)
    → IsHead job x (AnyTimes Turn Last) first now → Stop job Turn now stop
    → Stop job (AnyTimes Turn Last) first stop
stop-turn job x Turn Last first now stop some head s =
    head-stop job x (AnyTimes Turn Last) first now stop head
    (goes-stop-from job (Then Turn Last) (AnyTimes Turn Last) now stop (λ marks on. (1, on))
    (goes-stop-first job Turn Last now stop some s))

-- where a turn shows nothing new of the flag, any number of turns doesn't
record IsSettled (job : Job) (x : Followed) (F : Flags) (new : List Witness)
    (marks : List Mark) : Type 0 where
  met : AreMet (setup_of job) x F marks
  covered : IsCovered job x new (flags_after (setup_of job) F marks)

settled : (job : Job) (x : Followed) (Turn Last : List Mark → Type 0)
    (now turned new : List Witness) → IsWhole job → covers x now turned ≡ true
    → GoOn job x Turn now turned → GoOn job x Last now new → (n : ℕ) (F : Flags) (marks : List Mark)
    → Again Turn Last n marks → IsCovered job x now F → IsSettled job x F new marks
settled job x Turn Last now turned new is covers turn last zero F marks on covered =
    record { met = last.met F marks on covered; covered = last.covered F marks on covered }
settled job x Turn Last now turned new is covers turn last (suc n) F marks (a, b, here, on, all)
    covered =
    let setup = setup_of job in
    let behind = covered-by job x now turned (flags_after setup F a) is covers
    (turn.covered F a here covered) in
    let rest = settled job x Turn Last now turned new is covers turn last n (flags_after setup F a)
    b on behind in
    record {
      met = subst (AreMet setup x F) (sym all)
          (are_met-append setup x F a b (turn.met F a here covered) rest.met);
      covered = subst (IsCovered job x new)
          (sym (ap (flags_after setup F) all ∙ flags_after-append setup F a b)) rest.covered;
    }

pub goes-settled : (job : Job) (x : Followed) (Turn Last : List Mark → Type 0)
    (first now turned new : List Witness) → IsWhole job
    → IsHead job x (AnyTimes Turn Last) first now → covers x now turned ≡ true
    → GoOn job x Turn now turned → GoOn job x Last now new
    → GoOn job x (AnyTimes Turn Last) first new
goes-settled job x Turn Last first now turned new is head covers turn last =
    let more = λ (F : Flags) (covered : IsCovered job x first F).
    covered-more job x first now F is head.cleared covered in
    record {
      each = λ way among.
          let mid = last.each way among in
          let come = head.each mid.0 mid.1 in (
            come.from,
            come.among,
            come.goes way (goes_on-from job Last (AnyTimes Turn Last) mid.0 way
                (λ marks on. (0, on)) mid.2),
          );
      met = λ F marks on covered.
          (settled job x Turn Last now turned new is covers turn last on.0 F marks on.1
          (more F covered)).met;
      covered = λ F marks on covered.
          (settled job x Turn Last now turned new is covers turn last on.0 F marks on.1
          (more F covered)).covered;
    }

-- ---- a WHILE

abbrev pub OneTurn : Act → (List Mark → Type 0) → List Mark → Type 0
OneTurn test Body = Then (Just (Meets test ∷ [])) (Then (Just (letter_w ∷ [])) Body)

abbrev pub LastTest : Act → List Mark → Type 0
LastTest test = Then (Just (Meets test ∷ [])) (Just (letter_x ∷ []))

loop-into : (test : Act) (Body : List Mark → Type 0) (n : ℕ) (marks : List Mark)
    → Again (OneTurn test Body) (LastTest test) n marks → Loop test Body n marks
loop-into test Body zero marks on = (same-last test 120).into marks on
loop-into test Body (suc n) marks (a, b, turn, rest, all) =
    let here = (same-with_letter test 119 Body).into a turn in
    let d = here.1 in (
      Meets test ∷ letter_w ∷ [],
      d ++ b,
      refl,
      (d, b, here.3, loop-into test Body n b rest, refl),
      all ∙ ap (λ t. t ++ b) (here.4 ∙ ap (λ t. t ++ d) here.2),
    )

loop-back : (test : Act) (Body : List Mark → Type 0) (n : ℕ) (marks : List Mark)
    → Loop test Body n marks → Again (OneTurn test Body) (LastTest test) n marks
loop-back test Body zero marks on = (same-last test 120).back marks on
loop-back test Body (suc n) marks (t, r, here, (d, b, body, rest, is), all) = (
  Meets test ∷ letter_w ∷ d,
  b,
  (Meets test ∷ [], letter_w ∷ d, refl, (letter_w ∷ [], d, refl, body, refl), refl),
  loop-back test Body n b rest,
  all ∙ ap (λ l. l ++ r) here ∙ ap (λ l. Meets test ∷ letter_w ∷ l) is,
)

pub same-turning : (test : Act) (Body : List Mark → Type 0)
    → Same (AnyTimes (OneTurn test Body) (LastTest test)) (Turning test Body)
same-turning test Body =
    record {
      into = λ marks on. (on.0, loop-into test Body on.0 marks on.1);
      back = λ marks on. (on.0, loop-back test Body on.0 marks on.1);
    }

-- the ways before a turn
abbrev pub IsHeadOfTurns : Job → Followed → Act → (List Mark → Type 0) → List Witness → List Witness
    → Type 0
IsHeadOfTurns job x test Body = IsHead job x (AnyTimes (OneTurn test Body) (LastTest test))

goes-turn : (job : Job) (x : Followed) (test : Act) (Body : List Mark → Type 0)
    (head lent_head tested lent_tested turned : List Witness) → lent_head ≡ head
    → lent_tested ≡ tested → GoOn job x (Just (Meets test ∷ [])) lent_head tested
    → GoOn job x (Then (Just (letter_w ∷ [])) Body) lent_tested turned
    → GoOn job x (OneTurn test Body) head turned
goes-turn job x test Body head lent_head tested lent_tested turned same same_tested test_goes work =
    let T = Just (Meets test ∷ []) in
    let W = Then (Just (letter_w ∷ [])) Body in
    goes-then job x T W head tested turned
    (subst (λ (ways : List Witness). GoOn job x T ways tested) same test_goes)
    (subst (λ (ways : List Witness). GoOn job x W ways turned) same_tested work)

come-turn : (job : Job) (x : Followed) (test : Act) (Body : List Mark → Type 0)
    (head lent_head tested lent_tested turned : List Witness) → lent_head ≡ head
    → lent_tested ≡ tested → GoOn job x (Just (Meets test ∷ [])) lent_head tested
    → Come job (Then (Just (letter_w ∷ [])) Body) lent_tested turned
    → Come job (OneTurn test Body) head turned
come-turn job x test Body head lent_head tested lent_tested turned same same_tested test_goes work =
    let T = Just (Meets test ∷ []) in
    let W = Then (Just (letter_w ∷ [])) Body in
    come-then job T W head tested turned
    (subst (λ (ways : List Witness). Come job T ways tested) same test_goes.each)
    (subst (λ (ways : List Witness). Come job W ways turned) same_tested work)

pub stop-while-test : (job : Job) (x : Followed) (test : Act) (Body : List Mark → Type 0)
    (first head lent_head : List Witness) (stop : WitnessStop) → lent_head ≡ head
    → IsHeadOfTurns job x test Body first head → Stop job (Just (Meets test ∷ [])) lent_head stop
    → Stop job (Turning test Body) first stop
stop-while-test job x test Body first head lent_head stop same is_head s =
    let T = Just (Meets test ∷ []) in
    let X = Just (letter_x ∷ []) in
    goes-stop-from job (AnyTimes (OneTurn test Body) (LastTest test)) (Turning test Body) first stop
    (same-turning test Body).into
    (stop-last job x (OneTurn test Body) (LastTest test) first head stop is_head
    (goes-stop-first job T X head stop (letter_x ∷ [], refl)
    (subst (λ (ways : List Witness). Stop job T ways stop) same s)))

pub stop-while-work : (job : Job) (x : Followed) (test : Act) (Body : List Mark → Type 0)
    (first head lent_head tested lent_tested : List Witness) (stop : WitnessStop) → lent_head ≡ head
    → lent_tested ≡ tested → IsHeadOfTurns job x test Body first head
    → GoOn job x (Just (Meets test ∷ [])) lent_head tested
    → Stop job (Then (Just (letter_w ∷ [])) Body) lent_tested stop
    → Stop job (Turning test Body) first stop
stop-while-work job x test Body first head lent_head tested lent_tested stop same same_tested
    is_head test_goes s =
    let T = Just (Meets test ∷ []) in
    let W = Then (Just (letter_w ∷ [])) Body in
    goes-stop-from job (AnyTimes (OneTurn test Body) (LastTest test)) (Turning test Body) first stop
    (same-turning test Body).into
    (stop-turn job x (OneTurn test Body) (LastTest test) first head stop
    (Meets test ∷ letter_x ∷ [], (Meets test ∷ [], letter_x ∷ [], refl, refl, refl)) is_head
    (goes-stop-second job x T W head tested stop
    (subst (λ (ways : List Witness). GoOn job x T ways tested) same test_goes)
    (subst (λ (ways : List Witness). Stop job W ways stop) same_tested s)))

pub while-next : (job : Job) (x : Followed) (test : Act) (Body : List Mark → Type 0)
    (first head lent_head tested lent_tested turned new : List Witness) → lent_head ≡ head
    → lent_tested ≡ tested → IsHeadOfTurns job x test Body first head
    → GoOn job x (Just (Meets test ∷ [])) lent_head tested
    → Come job (Then (Just (letter_w ∷ [])) Body) lent_tested turned → Joins x head turned new
    → IsHeadOfTurns job x test Body first new
while-next job x test Body first head lent_head tested lent_tested turned new same same_tested
    is_head test_goes work joins =
    head-next job x (OneTurn test Body) (LastTest test) first head turned new is_head
    (come-turn job x test Body head lent_head tested lent_tested turned same same_tested test_goes
    work) joins

pub while-ends : (job : Job) (x : Followed) (test : Act) (Body : List Mark → Type 0)
    (first head lent_head tested lent_tested turned new : List Witness) → IsWhole job
    → lent_head ≡ head → lent_tested ≡ tested → IsHeadOfTurns job x test Body first head
    → GoOn job x (Just (Meets test ∷ [])) lent_head tested
    → GoOn job x (Then (Just (letter_w ∷ [])) Body) lent_tested turned → covers x head turned ≡ true
    → new ≡ map (with_letter 120) tested → GoOn job x (Turning test Body) first new
while-ends job x test Body first head lent_head tested lent_tested turned new is same same_tested
    is_head test_goes work covers is_new =
    let T = Just (Meets test ∷ []) in
    let X = Just (letter_x ∷ []) in
    let leaves : GoOn job x X tested new =
    subst (λ ways. GoOn job x X tested ways) (sym is_new) (goes-letter job x 120 tested) in
    goes-from job x (AnyTimes (OneTurn test Body) (LastTest test)) (Turning test Body) first new
    (same-turning test Body)
    (goes-settled job x (OneTurn test Body) (LastTest test) first head turned new is is_head covers
    (goes-turn job x test Body head lent_head tested lent_tested turned same same_tested test_goes
    work)
    (goes-then job x T X head tested new
    (subst (λ (ways : List Witness). GoOn job x T ways tested) same test_goes) leaves))

-- no turn or one
pub once-ends : (job : Job) (x : Followed) (test : Act) (Body : List Mark → Type 0)
    (old tested lent_tested turned again left behind new : List Witness) → lent_tested ≡ tested
    → GoOn job x (Just (Meets test ∷ [])) old tested
    → Come job (Then (Just (letter_w ∷ [])) Body) lent_tested turned
    → GoOn job x (Just (Meets test ∷ [])) turned again → left ≡ map (with_letter 120) tested
    → behind ≡ map (with_letter 120) again → Joins x left behind new
    → Come job (Turning test Body) old new
once-ends job x test Body old tested lent_tested turned again left behind new same first_goes work
    again_goes is_left is_behind joins =
    let T = Just (Meets test ∷ []) in
    let X = Just (letter_x ∷ []) in
    let Turn = OneTurn test Body in
    let Last = LastTest test in
    let leaves : Come job X tested left =
    subst (λ ways. Come job X tested ways) (sym is_left) (goes-letter job x 120 tested).each in
    let leaves_behind : Come job X again behind =
    subst (λ ways. Come job X again ways) (sym is_behind) (goes-letter job x 120 again).each in
    let none : Come job Last old left = come-then job T X old tested left first_goes.each leaves in
    let one : Come job (Then Turn Last) old behind =
    come-then job Turn Last old turned behind
    (come-turn job x test Body old old tested lent_tested turned refl same first_goes work)
    (come-then job T X turned again behind again_goes.each leaves_behind)
    in
    come-from job (λ marks. Last marks ⊎ Then Turn Last marks) (Turning test Body) old new
    (λ marks on. into marks on)
    (come-join job x Last (Then Turn Last) old left behind new none one joins)
  where
    into : (marks : List Mark)
        → LastTest test marks ⊎ Then (OneTurn test Body) (LastTest test) marks
        → Turning test Body marks
    into marks (inl on) = (same-turning test Body).into marks (0, on)
    into marks (inr on) = (same-turning test Body).into marks (1, on)

pub stop-once-test : (job : Job) (x : Followed) (test : Act) (Body : List Mark → Type 0)
    (old : List Witness) (stop : WitnessStop) → Stop job (Just (Meets test ∷ [])) old stop
    → Stop job (Turning test Body) old stop
stop-once-test job x test Body old stop s =
    stop-while-test job x test Body old old old stop refl
    (head-first job x (AnyTimes (OneTurn test Body) (LastTest test)) old) s

pub stop-once-work : (job : Job) (x : Followed) (test : Act) (Body : List Mark → Type 0)
    (old tested lent_tested : List Witness) (stop : WitnessStop) → lent_tested ≡ tested
    → GoOn job x (Just (Meets test ∷ [])) old tested
    → Stop job (Then (Just (letter_w ∷ [])) Body) lent_tested stop
    → Stop job (Turning test Body) old stop
stop-once-work job x test Body old tested lent_tested stop same test_goes s =
    stop-while-work job x test Body old old old tested lent_tested stop refl same
    (head-first job x (AnyTimes (OneTurn test Body) (LastTest test)) old) test_goes s

pub stop-once-again : (job : Job) (x : Followed) (test : Act) (Body : List Mark → Type 0)
    (old tested lent_tested turned : List Witness) (stop : WitnessStop) → lent_tested ≡ tested
    → GoOn job x (Just (Meets test ∷ [])) old tested
    → Come job (Then (Just (letter_w ∷ [])) Body) lent_tested turned
    → Stop job (Just (Meets test ∷ [])) turned stop → Stop job (Turning test Body) old stop
stop-once-again job x test Body old tested lent_tested turned stop same test_goes work s =
    let T = Just (Meets test ∷ []) in
    let X = Just (letter_x ∷ []) in
    goes-stop-from job (Then (OneTurn test Body) (LastTest test)) (Turning test Body) old stop
    (λ marks on. (same-turning test Body).into marks (1, on))
    (come-stop job (OneTurn test Body) (LastTest test) old turned stop
    (come-turn job x test Body old old tested lent_tested turned refl same test_goes work)
    (goes-stop-first job T X turned stop (letter_x ∷ [], refl) s))

-- a letter, and what comes of the ways behind it
pub goes-behind-letter : (job : Job) (x : Followed) (c : ℕ) (Q : List Mark → Type 0)
    (old mid : List Witness) (r : Result (Vec Witness Global) WitnessStop)
    → mid ≡ map (with_letter c) old → Goes job x Q mid r
    → Goes job x (Then (Just (Letter c ∷ [])) Q) old r
goes-behind-letter job x c Q old mid r is g =
    goes-behind job x (Just (Letter c ∷ [])) Q old mid r
    (subst (λ ways. GoOn job x (Just (Letter c ∷ [])) old ways) (sym is)
    (goes-letter job x c old)) g

pub by-behind-letter : (job : Job) (rounds : Rounds) (x : Followed) (c : ℕ) (Q : List Mark → Type 0)
    (old mid : List Witness) (r : Result (Vec Witness Global) WitnessStop)
    → mid ≡ map (with_letter c) old → GoesBy job rounds x Q mid r
    → GoesBy job rounds x (Then (Just (Letter c ∷ [])) Q) old r
by-behind-letter job rounds x c Q old mid r is g =
    let L = Just (Letter c ∷ []) in
    by-behind job rounds x L Q old mid r
    (by-weaker job rounds x L old mid
    (subst (λ ways. GoOn job x L old ways) (sym is) (goes-letter job x c old))) g
