-- Ways, one after another and side by side.
use Rattle.std.proofs.Common.{◌≡◌, ℕ, zero, suc, ◌+◌, ◌<◌, ◌≤◌, Bool, true, false, not, ◌&&◌, ◌||◌, refl, sym, ap, subst, ◌∙◌, List, [], ◌∷◌, ◌++◌, map, slice_get, Option, Some, None, ◌⊎◌, inl, inr, append_assoc, arith}
use Rattle.std.specs.List.{list_all, range_with_len}
use Rattle.std.proofs.lemmas.List.{append-nil}
use Rattle.std.proofs.lemmas.List.Elements.{All-get_or}
use Rattle.cx_plan.specs.declared.variable.VarId.{VarId}
use Rattle.cx_plan.specs.declared.variable.VarInfo.{VarInfo}
use Rattle.cx_plan.specs.Lookups.{levels_of, no_variable}
use Rattle.cx_plan.specs.declared.job.Job.{Job}
use Rattle.cx_plan.specs.Setups.{Setup, setup_of}
use Rattle.cx_plan.specs.Regions.{Flags, Need, needs, leaves}
use Rattle.cx_plan.specs.Paths.{Mark, Letter, Meets, Then, Just, or_go_on, first_unmet}
use Rattle.cx_plan.specs.Whole.{IsWhole, IsStored}
use Rattle.cx_region.specs.declared.witness.Witness.{Witness}
use Rattle.cx_region.specs.declared.witness.Followed.{Followed}
use Rattle.cx_region.specs.declared.witness.WitnessStop.{WitnessStop}
use Rattle.cx_region.specs.declared.witness.WitnessStop.TheVariants.{Unset, Memory}
use Rattle.cx_region_flags.specs.Agreeing.{Agrees}
use Rattle.cx_region_flags.specs.Cells.{flags_in}
use Rattle.cx_region_flags.specs.AllPaths.{flags_after}
use Rattle.cx_region_flags.specs.Unmet.{seen, first_unmet_of}
use Rattle.cx_region.specs.Witnesses.{letters_of, GoesOn, StopsAt, with_letter, AreMet, IsAmong, IsClearedOn, IsCovered, is_cleared_on, covers_one, covers, Joins, GoOn, Stop}
use Rattle.cx_region_flags.proofs.RangeLaws.{not_all_of_range}
use Rattle.cx_region_flags.proofs.SureLaws.{flags_after-append}

-- ---- marks, one list after another

pub letters_of-append : (a b : List Mark) → letters_of (a ++ b) ≡ letters_of a ++ letters_of b
letters_of-append [] b = refl
letters_of-append (Letter c ∷ a) b = ap (λ t. c ∷ t) (letters_of-append a b)
letters_of-append (Meets act ∷ a) b = letters_of-append a b

-- where the first part meets set flags alone, the rest tells
pub first_unmet-behind : (setup : Setup) (letters : List ℕ) (F : Flags) (a b : List Mark)
    → first_unmet setup letters F a ≡ None
    → first_unmet setup letters F (a ++ b)
    ≡ first_unmet setup (letters ++ letters_of a) (flags_after setup F a) b
first_unmet-behind setup letters F [] b none =
    ap (λ ls. first_unmet setup ls F b) (sym (append-nil letters))
first_unmet-behind setup letters F (Letter c ∷ a) b none =
    first_unmet-behind setup (letters ++ c ∷ []) F a b none
    ∙ ap (λ ls. first_unmet setup ls (flags_after setup F a) b)
    (append_assoc letters (c ∷ []) (letters_of a))
first_unmet-behind setup letters F (Meets act ∷ a) b none =
    let o = first_unmet_of setup F (needs setup act) in
    by o (first_unmet setup letters (leaves setup act F) a)
    (first_unmet setup letters (leaves setup act F) (a ++ b)) none
    (first_unmet-behind setup letters (leaves setup act F) a b)
  where
    by : (o : Option Need) (here all : Option (List ℕ × Need)) → or_go_on letters o here ≡ None
        → (here ≡ None → all ≡ first_unmet setup (letters ++ letters_of a)
        (flags_after setup (leaves setup act F) a) b)
        → or_go_on letters o all
        ≡ first_unmet setup (letters ++ letters_of a) (flags_after setup (leaves setup act F) a) b
    by None here all none rest = rest none
    by (Some n) here all none rest = absurd (cc)

-- a need of the first part that isn't met is the first of all
pub first_unmet-before : (setup : Setup) (letters : List ℕ) (F : Flags) (a b : List Mark)
    (told : List ℕ × Need) → first_unmet setup letters F a ≡ Some told
    → first_unmet setup letters F (a ++ b) ≡ Some told
first_unmet-before setup letters F [] b told some = absurd (cc)
first_unmet-before setup letters F (Letter c ∷ a) b told some =
    first_unmet-before setup (letters ++ c ∷ []) F a b told some
first_unmet-before setup letters F (Meets act ∷ a) b told some =
    let o = first_unmet_of setup F (needs setup act) in
    by o (first_unmet setup letters (leaves setup act F) a)
    (first_unmet setup letters (leaves setup act F) (a ++ b)) some
    (first_unmet-before setup letters (leaves setup act F) a b told)
  where
    by : (o : Option Need) (here all : Option (List ℕ × Need)) → or_go_on letters o here ≡ Some told
        → (here ≡ Some told → all ≡ Some told) → or_go_on letters o all ≡ Some told
    by None here all some rest = rest some
    by (Some n) here all some rest = some

pub are_met-append : (setup : Setup) (x : Followed) (F : Flags) (a b : List Mark)
    → AreMet setup x F a → AreMet setup x (flags_after setup F a) b → AreMet setup x F (a ++ b)
are_met-append setup x F [] b one two = two
are_met-append setup x F (Letter c ∷ a) b one two = are_met-append setup x F a b one two
are_met-append setup x F (Meets act ∷ a) b one two =
    (one.0, are_met-append setup x (leaves setup act F) a b one.1 two)

-- ---- one way

pub goes_on-then : (job : Job) (P Q : List Mark → Type 0) (old mid new : Witness)
    → GoesOn job P old mid → GoesOn job Q mid new → GoesOn job (Then P Q) old new
goes_on-then job P Q old mid new one two =
    let setup = setup_of job in
    let a = one.marks in
    let b = two.marks in
    record {
      marks = a ++ b;
      on = (a, b, one.on, two.on, refl);
      letters =
          two.letters
          ∙ ap (λ ls. ls ++ letters_of b) one.letters
          ∙ append_assoc old.letters (letters_of a) (letters_of b)
          ∙ ap (λ ls. old.letters ++ ls) (sym (letters_of-append a b));
      flags = λ F agrees.
          subst (Agrees job new.flags) (sym (flags_after-append setup F a b))
          (two.flags (flags_after setup F a) (one.flags F agrees));
      met = λ F agrees.
          first_unmet-behind setup old.letters F a b (one.met F agrees)
          ∙ ap (λ ls. first_unmet setup ls (flags_after setup F a) b) (sym one.letters)
          ∙ two.met (flags_after setup F a) (one.flags F agrees);
    }

pub goes_on-from : (job : Job) (P Q : List Mark → Type 0) (old new : Witness)
    → ((marks : List Mark) → P marks → Q marks) → GoesOn job P old new → GoesOn job Q old new
goes_on-from job P Q old new into g =
    record {
      marks = g.marks;
      on = into g.marks g.on;
      letters = g.letters;
      flags = g.flags;
      met = g.met;
    }

pub goes_on-nothing : (job : Job) (way : Witness) → GoesOn job (Just []) way way
goes_on-nothing job way =
    record {
      marks = [];
      on = refl;
      letters = sym (append-nil way.letters);
      flags = λ F agrees. agrees;
      met = λ F agrees. refl;
    }

pub goes_on-letter : (job : Job) (c : ℕ) (way : Witness)
    → GoesOn job (Just (Letter c ∷ [])) way (with_letter c way)
goes_on-letter job c way =
    record {
      marks = Letter c ∷ [];
      on = refl;
      letters = refl;
      flags = λ F agrees. agrees;
      met = λ F agrees. refl;
    }

pub stops-before : (job : Job) (P Q : List Mark → Type 0) (old : Witness) (letters : List ℕ)
    (need : Need) → ((marks : List Mark) × Q marks) → StopsAt job P old letters need
    → StopsAt job (Then P Q) old letters need
stops-before job P Q old letters need some stops =
    record {
      marks = stops.marks ++ some.0;
      on = (stops.marks, some.0, stops.on, some.1, refl);
      unmet = λ F agrees. first_unmet-before (setup_of job) old.letters F stops.marks some.0
          (letters, need) (stops.unmet F agrees);
    }

pub stops-behind : (job : Job) (P Q : List Mark → Type 0) (old mid : Witness) (letters : List ℕ)
    (need : Need) → GoesOn job P old mid → StopsAt job Q mid letters need
    → StopsAt job (Then P Q) old letters need
stops-behind job P Q old mid letters need one stops =
    let setup = setup_of job in
    record {
      marks = one.marks ++ stops.marks;
      on = (one.marks, stops.marks, one.on, stops.on, refl);
      unmet = λ F agrees.
          first_unmet-behind setup old.letters F one.marks stops.marks (one.met F agrees)
          ∙ ap (λ ls. first_unmet setup ls (flags_after setup F one.marks) stops.marks)
          (sym one.letters)
          ∙ stops.unmet (flags_after setup F one.marks) (one.flags F agrees);
    }

pub stops-from : (job : Job) (P Q : List Mark → Type 0) (old : Witness) (letters : List ℕ)
    (need : Need) → ((marks : List Mark) → P marks → Q marks) → StopsAt job P old letters need
    → StopsAt job Q old letters need
stops-from job P Q old letters need into stops =
    record { marks = stops.marks; on = into stops.marks stops.on; unmet = stops.unmet }

-- ---- several ways

-- marks of one kind are marks of the other
pub record Same (P Q : List Mark → Type 0) : Type 0 where
  pub into : (marks : List Mark) → P marks → Q marks
  pub back : (marks : List Mark) → Q marks → P marks

pub goes-from : (job : Job) (x : Followed) (P Q : List Mark → Type 0) (old new : List Witness)
    → Same P Q → GoOn job x P old new → GoOn job x Q old new
goes-from job x P Q old new same g =
    record {
      each = λ new_way among.
          let from = g.each new_way among in
          (from.0, from.1, goes_on-from job P Q from.0 new_way same.into from.2);
      met = λ F marks on covered. g.met F marks (same.back marks on) covered;
      covered = λ F marks on covered. g.covered F marks (same.back marks on) covered;
    }

pub goes-then : (job : Job) (x : Followed) (P Q : List Mark → Type 0) (old mid new : List Witness)
    → GoOn job x P old mid → GoOn job x Q mid new → GoOn job x (Then P Q) old new
goes-then job x P Q old mid new one two =
    let setup = setup_of job in
    record {
      each = λ new_way among.
          let second = two.each new_way among in
          let first = one.each second.0 second.1 in
          (first.0, first.1, goes_on-then job P Q first.0 second.0 new_way first.2 second.2);
      met = λ F marks on covered.
          let a = on.0 in
          let b = on.1 in
          subst (AreMet setup x F) (sym on.4)
          (are_met-append setup x F a b (one.met F a on.2 covered)
          (two.met (flags_after setup F a) b on.3 (one.covered F a on.2 covered)));
      covered = λ F marks on covered.
          let a = on.0 in
          let b = on.1 in
          subst (IsCovered job x new)
          (sym (ap (flags_after setup F) on.4 ∙ flags_after-append setup F a b))
          (two.covered (flags_after setup F a) b on.3 (one.covered F a on.2 covered));
    }

pub goes-nothing : (job : Job) (x : Followed) (ways : List Witness) → GoOn job x (Just []) ways ways
goes-nothing job x ways =
    record {
      each = λ way among. (way, among, goes_on-nothing job way);
      met = λ F marks on covered. subst (AreMet (setup_of job) x F) (sym on) tt;
      covered = λ F marks on covered.
          subst (λ ms. IsCovered job x ways (flags_after (setup_of job) F ms)) (sym on) covered;
    }

lettered_back : (c : ℕ) (ways : List Witness) (new_way : Witness)
    → IsAmong (map (with_letter c) ways) new_way
    → (way : Witness) × IsAmong ways way × (new_way ≡ with_letter c way)
lettered_back c [] new_way (k, at) = absurd (cc)
lettered_back c (way ∷ ways) new_way (zero, at) = (way, (0, refl), cc)
lettered_back c (way ∷ ways) new_way (suc k, at) =
    let later = lettered_back c ways new_way (k, at) in
    (later.0, (suc later.1.0, later.1.1), later.2)

lettered_on : (c : ℕ) (ways : List Witness) (way : Witness) → IsAmong ways way
    → IsAmong (map (with_letter c) ways) (with_letter c way)
lettered_on c [] way (k, at) = absurd (cc)
lettered_on c (first ∷ ways) way (zero, at) = (0, cc)
lettered_on c (first ∷ ways) way (suc k, at) =
    let later = lettered_on c ways way (k, at) in
    (suc later.0, later.1)

with_letter-covered : (job : Job) (x : Followed) (c : ℕ) (ways : List Witness) (F : Flags)
    → IsCovered job x ways F → IsCovered job x (map (with_letter c) ways) F
with_letter-covered job x c ways F covered = λ level stored cleared.
    let on = covered level stored cleared in
    (with_letter c on.0, lettered_on c ways on.0 on.1, on.2)

pub goes-letter : (job : Job) (x : Followed) (c : ℕ) (ways : List Witness)
    → GoOn job x (Just (Letter c ∷ [])) ways (map (with_letter c) ways)
goes-letter job x c ways =
    record {
      each = λ new_way among.
          let from = lettered_back c ways new_way among in (
            from.0,
            from.1,
            subst (GoesOn job (Just (Letter c ∷ [])) from.0) (sym from.2)
                (goes_on-letter job c from.0),
          );
      met = λ F marks on covered. subst (AreMet (setup_of job) x F) (sym on) tt;
      covered = λ F marks on covered.
          subst (λ ms. IsCovered job x (map (with_letter c) ways) (flags_after (setup_of job) F ms))
          (sym on) (with_letter-covered job x c ways F covered);
    }

pub stored_few : (job : Job) (v : VarId) (level : ℕ) → IsWhole job → IsStored job v level
    → level < 8
stored_few job v level is stored =
    let most : levels_of (setup_of job) v ≤ 8 =
    All-get_or (λ (x : VarInfo). x.levels ≤ 8)
    job.vars v.0 no_variable stored.0 is.levels_limit in
    omega (arith, stored.1, most)

-- ways on which the flag is cleared where it is on old ones cover what those cover
pub covered-more : (job : Job) (x : Followed) (old new : List Witness) (F : Flags) → IsWhole job
    → ((level : ℕ) → level < 8 → IsClearedOn x old level → IsClearedOn x new level)
    → IsCovered job x old F → IsCovered job x new F
covered-more job x old new F is more covered =
    λ level stored cleared.
    more level (stored_few job x.variable level is stored) (covered level stored cleared)

pub goes-join : (job : Job) (x : Followed) (P Q : List Mark → Type 0)
    (old first second new : List Witness) → IsWhole job → GoOn job x P old first
    → GoOn job x Q old second → Joins x first second new
    → GoOn job x (λ marks. P marks ⊎ Q marks) old new
goes-join job x P Q old first second new is one two joins =
    record {
      each = λ new_way among. came new_way (joins.among new_way among);
      met = λ F marks on covered. are_met F marks on covered;
      covered = λ F marks on covered. are_covered F marks on covered;
    }
  where
    came : (new_way : Witness) → IsAmong first new_way ⊎ IsAmong second new_way
        → (way : Witness) × IsAmong old way × GoesOn job (λ marks. P marks ⊎ Q marks) way new_way
    came new_way (inl among) =
        let from = one.each new_way among in (
          from.0,
          from.1,
          goes_on-from job P (λ marks. P marks ⊎ Q marks) from.0 new_way
              (λ marks on. inl on) from.2,
        )
    came new_way (inr among) =
        let from = two.each new_way among in (
          from.0,
          from.1,
          goes_on-from job Q (λ marks. P marks ⊎ Q marks) from.0 new_way
              (λ marks on. inr on) from.2,
        )

    are_met : (F : Flags) (marks : List Mark) → P marks ⊎ Q marks → IsCovered job x old F
        → AreMet (setup_of job) x F marks
    are_met F marks (inl on) covered = one.met F marks on covered
    are_met F marks (inr on) covered = two.met F marks on covered

    are_covered : (F : Flags) (marks : List Mark) → P marks ⊎ Q marks → IsCovered job x old F
        → IsCovered job x new (flags_after (setup_of job) F marks)
    are_covered F marks (inl on) covered =
        covered-more job x first new (flags_after (setup_of job) F marks) is
        (λ level few on. joins.cleared level few (inl on)) (one.covered F marks on covered)
    are_covered F marks (inr on) covered =
        covered-more job x second new (flags_after (setup_of job) F marks) is
        (λ level few on. joins.cleared level few (inr on)) (two.covered F marks on covered)

-- ---- where the flag is cleared

not_true : (t : Bool) → not t ≡ true → t ≡ false
not_true true h = absurd (cc)
not_true false h = refl

pub cleared-from : (x : Followed) (ways : List Witness) (level : ℕ)
    → is_cleared_on x ways level ≡ true → IsClearedOn x ways level
cleared-from x [] level h = absurd (cc)
cleared-from x (way ∷ ways) level h =
    by (flags_in way.flags x.variable level x.flag) refl h (cleared-from x ways level)
  where
    by : (t : Bool) → flags_in way.flags x.variable level x.flag ≡ t
        → (not t || is_cleared_on x ways level) ≡ true
        → (is_cleared_on x ways level ≡ true → IsClearedOn x ways level)
        → IsClearedOn x (way ∷ ways) level
    by false at h rest = (way, (0, refl), at)
    by true at h rest =
        let later = rest h in
        (later.0, (suc later.1.0, later.1.1), later.2)

pub cleared-to : (x : Followed) (ways : List Witness) (level : ℕ) → IsClearedOn x ways level
    → is_cleared_on x ways level ≡ true
cleared-to x [] level (way, (k, at), cleared) = absurd (cc)
cleared-to x (first ∷ ways) level (way, (zero, at), cleared) =
    let same : first ≡ way = cc in
    ap (λ (w : Witness). not (flags_in w.flags x.variable level x.flag)
    || is_cleared_on x ways level) same ∙ ap (λ t. not t || is_cleared_on x ways level) cleared
cleared-to x (first ∷ ways) level (way, (suc k, at), cleared) =
    ap (λ t. not (flags_in first.flags x.variable level x.flag) || t)
    (cleared-to x ways level (way, (k, at), cleared))
    ∙ or-true (not (flags_in first.flags x.variable level x.flag))
  where
    or-true : (t : Bool) → (t || true) ≡ true
    or-true true = refl
    or-true false = refl

at_all : {X : Type 0} (p : X → Bool) (xs : List X) (k : ℕ) (x : X) → list_all p xs ≡ true
    → slice_get xs k ≡ Some x → p x ≡ true
at_all p [] k x all at = absurd (cc)
at_all p (y ∷ ys) zero x all at =
    let same : y ≡ x = cc in
    ap p (sym same) ∙ first_of (p y) (list_all p ys) all
  where
    first_of : (a b : Bool) → (a && b) ≡ true → a ≡ true
    first_of true b h = refl
    first_of false b h = h
at_all p (y ∷ ys) (suc k) x all at = at_all p ys k x (rest_of (p y) (list_all p ys) all) at
  where
    rest_of : (a b : Bool) → (a && b) ≡ true → b ≡ true
    rest_of true b h = h
    rest_of false b h = absurd (cc)

pub covers_one-at : (x : Followed) (ways : List Witness) (way : Witness) (level : ℕ) → level < 8
    → covers_one x ways way ≡ true → flags_in way.flags x.variable level x.flag ≡ false
    → IsClearedOn x ways level
covers_one-at x ways way level few all cleared = by (is_cleared_on x ways level) refl
  where
    by : (t : Bool) → is_cleared_on x ways level ≡ t → IsClearedOn x ways level
    by true on = cleared-from x ways level on
    by false on =
        let here : (flags_in way.flags x.variable level x.flag || is_cleared_on x ways level)
        ≡ false = ap (λ t. t || is_cleared_on x ways level) cleared ∙ on in
        let none : covers_one x ways way ≡ false =
        not_all_of_range (λ level. flags_in way.flags x.variable level x.flag
        || is_cleared_on x ways level) 8 level few here in
        absurd (cc)

pub covers-at : (x : Followed) (first second : List Witness) (level : ℕ) → level < 8
    → covers x first second ≡ true → IsClearedOn x second level → IsClearedOn x first level
covers-at x first second level few all on =
    covers_one-at x first on.0 level few (at_all (covers_one x first) second on.1.0 on.0 all on.1.1)
    on.2

pub covered-by : (job : Job) (x : Followed) (first second : List Witness) (F : Flags) → IsWhole job
    → covers x first second ≡ true → IsCovered job x second F → IsCovered job x first F
covered-by job x first second F is all covered =
    covered-more job x second first F is (λ level few on. covers-at x first second level few all on)
    covered

one_of_range : (p : ℕ → Bool) (n a : ℕ) → list_all p (range_with_len a n) ≡ false
    → (k : ℕ) × (k < a + n) × (p k ≡ false)
one_of_range p zero a none = absurd (cc)
one_of_range p (suc n) a none = by (p a) refl none (one_of_range p n (a + 1))
  where
    by : (t : Bool) → p a ≡ t → (t && list_all p (range_with_len (a + 1) n)) ≡ false
        → (list_all p (range_with_len (a + 1) n) ≡ false
        → (k : ℕ) × (k < a + 1 + n) × (p k ≡ false)) → (k : ℕ) × (k < a + suc n) × (p k ≡ false)
    by false at none rest = (a, omega arith, at)
    by true at none rest =
        let later = rest none in
        let less : later.0 < a + suc n = omega (arith, later.1) in
        (later.0, less, later.2)

-- where the first ways don't cover the second, the flag is cleared at some level on one of the
-- second alone
pub covers-not : (x : Followed) (first second : List Witness) → covers x first second ≡ false
    → (level : ℕ) × (level < 8) × IsClearedOn x second level × (is_cleared_on x first level ≡ false)
covers-not x first [] none = absurd (cc)
covers-not x first (way ∷ ways) none =
    by (covers_one x first way) refl none (covers-not x first ways)
  where
    parts : (a b : Bool) → (a || b) ≡ false → (a ≡ false) × (b ≡ false)
    parts true b h = absurd (cc)
    parts false b h = (refl, h)

    by : (t : Bool) → covers_one x first way ≡ t → (t && covers x first ways) ≡ false
        → (covers x first ways ≡ false
        → (level : ℕ) × (level < 8) × IsClearedOn x ways level
        × (is_cleared_on x first level ≡ false))
        → (level : ℕ) × (level < 8) × IsClearedOn x (way ∷ ways) level
        × (is_cleared_on x first level ≡ false)
    by true at none rest =
        let later = rest none in
        let on = later.2 in
        (later.0, later.1, (on.0, (suc on.1.0, on.1.1), on.2), later.3)
    by false at none rest =
        let one = one_of_range
        (λ level. flags_in way.flags x.variable level x.flag || is_cleared_on x first level)
        8 0 at in
        let both = parts (flags_in way.flags x.variable one.0 x.flag) (is_cleared_on x first one.0)
        one.2 in
        let few : one.0 < 8 = omega (arith, one.1) in
        (one.0, few, (way, (0, refl), both.0), both.1)

-- ---- stops

pub goes-stop-first : (job : Job) (P Q : List Mark → Type 0) (old : List Witness)
    (stop : WitnessStop) → ((marks : List Mark) × Q marks) → Stop job P old stop
    → Stop job (Then P Q) old stop
goes-stop-first job P Q old Memory some stops = tt
goes-stop-first job P Q old (Unset letters unmet) some stops =
    (stops.0, stops.1, stops-before job P Q stops.0 letters (seen unmet) some stops.2)

pub goes-stop-second : (job : Job) (x : Followed) (P Q : List Mark → Type 0)
    (old mid : List Witness) (stop : WitnessStop) → GoOn job x P old mid → Stop job Q mid stop
    → Stop job (Then P Q) old stop
goes-stop-second job x P Q old mid Memory one stops = tt
goes-stop-second job x P Q old mid (Unset letters unmet) one stops =
    let from = one.each stops.0 stops.1 in
    (from.0, from.1, stops-behind job P Q from.0 stops.0 letters (seen unmet) from.2 stops.2)

pub goes-stop-from : (job : Job) (P Q : List Mark → Type 0) (old : List Witness)
    (stop : WitnessStop) → ((marks : List Mark) → P marks → Q marks) → Stop job P old stop
    → Stop job Q old stop
goes-stop-from job P Q old Memory into stops = tt
goes-stop-from job P Q old (Unset letters unmet) into stops =
    (stops.0, stops.1, stops-from job P Q stops.0 letters (seen unmet) into stops.2)
