-- Two tables of flags: what is set in both, and whether one is below the other.
use Rattle.std.proofs.Common.{◌≡◌, ◌≢◌, ℕ, ◌+◌, ◌<◌, ◌≤◌, Bool, true, false, not, ◌&&◌, ◌||◌, refl, sym, ap, subst, ◌∙◌, List, length, get_or, ◌⊎◌, inl, inr, arith}
use Rattle.std.specs.List.{list_all, range_with_len}
use Rattle.std.proofs.Math.ListN.{set, length-set}
use Rattle.std.proofs.lemmas.Bool.{cases_lt}
use Rattle.std.proofs.lemmas.List.{get_or-set_other, get_or_past}
use Rattle.std.proofs.lemmas.List.Folds.{list_all_at}
use Rattle.std.proofs.lemmas.List.FromFn.{get_or-range_with_len, length-range_with_len}
use Rattle.std.proofs.lemmas.Grind.{get_or-set_at}
use Rattle.cx_plan.specs.declared.flag.Flag.{Flag}
use Rattle.cx_plan.specs.declared.flag.Flag.TheVariants.{I, B, G, S}
use Rattle.cx_region_flags.specs.declared.flags.LevelFlags.{LevelFlags}
use Rattle.cx_region_flags.specs.Cells.{none_set, flag_of, cell}
use Rattle.cx_region_flags.specs.AllPaths.{both, is_within, Meet, IsBelow}
use Rattle.cx_region_flags.proofs.TableLaws.{flag-none}

-- ---- what is set in both

-- the cells before a place are met, and those from it on stand as they were
pub record Meeting (a b now : List LevelFlags) (upto : ℕ) : Type 0 where
  pub same_length : length now ≡ length a
  pub before : (k : ℕ) → k < upto → cell now k ≡ both (cell a k) (cell b k)
  pub after : (k : ℕ) → upto ≤ k → cell now k ≡ cell a k

pub meeting-none : (a b : List LevelFlags) → Meeting a b a 0
meeting-none a b = record {
  same_length = refl;
  before = λ k h. absurd (omega arith);
  after = λ k h. refl;
}

pub meeting-next : (a b now new : List LevelFlags) (p : ℕ) (flags : LevelFlags) → p < length a
    → Meeting a b now p → flags ≡ both (cell now p) (cell b p) → new ≡ set now p flags
    → Meeting a b new (p + 1)
meeting-next a b now new p flags below m is put =
    record {
      same_length = ap length put ∙ length-set now p flags ∙ m.same_length;
      before = λ k h. ap (λ cells. cell cells k) put ∙ cases k h (cases_lt k p);
      after = λ k h.
          let other : k ≢ p = omega arith in
          ap (λ cells. cell cells k) put ∙ get_or-set_other now p k flags none_set other
          ∙ m.after k (omega arith);
    }
  where
    cases : (k : ℕ) → k < p + 1 → (k < p) ⊎ (p ≤ k)
        → cell (set now p flags) k ≡ both (cell a k) (cell b k)
    cases k h (inl less) =
        let other : k ≢ p = omega arith in
        get_or-set_other now p k flags none_set other ∙ m.before k less
    cases k h (inr more) =
        let at : k ≡ p = omega arith in
        let there : p < length now = subst (λ n. p < n) (sym m.same_length) below in
        get_or-set_at now p k flags none_set at there ∙ is
        ∙ ap (λ (x : LevelFlags). both x (cell b p)) (m.after p (omega arith))
        ∙ ap (λ n. both (cell a n) (cell b n)) (sym at)

flag-both : (x y : LevelFlags) (f : Flag) → flag_of (both x y) f ≡ (flag_of x f && flag_of y f)
flag-both x y I = refl
flag-both x y B = refl
flag-both x y G = refl
flag-both x y S = refl

pub meeting-all : (a b now : List LevelFlags) (p : ℕ) → length a ≤ p → Meeting a b now p
    → Meet a b now
meeting-all a b now p all m =
    record { same_length = m.same_length; set = λ k f. by k f (cases_lt k p) }
  where
    by : (k : ℕ) (f : Flag) → (k < p) ⊎ (p ≤ k)
        → flag_of (cell now k) f ≡ (flag_of (cell a k) f && flag_of (cell b k) f)
    by k f (inl less) = ap (λ (x : LevelFlags). flag_of x f) (m.before k less)
        ∙ flag-both (cell a k) (cell b k) f
    by k f (inr more) =
        let none : cell a k ≡ none_set = get_or_past a k none_set (omega arith) in
        ap (λ (x : LevelFlags). flag_of x f) (m.after k more ∙ none) ∙ flag-none f
        ∙ sym (ap (λ (x : LevelFlags). flag_of x f && flag_of (cell b k) f) none
        ∙ ap (λ t. t && flag_of (cell b k) f) (flag-none f))

-- ---- below

both-first : (a b : Bool) → (a && b) ≡ true → a ≡ true
both-first true b h = refl
both-first false b h = h

both-second : (a b : Bool) → (a && b) ≡ true → b ≡ true
both-second true b h = h
both-second false b h = absurd (cc)

pub meet-first : (a b m : List LevelFlags) → Meet a b m → IsBelow m a
meet-first a b m meet = record {
  same_length = meet.same_length;
  set = λ k f h. both-first (flag_of (cell a k) f) (flag_of (cell b k) f) (sym (meet.set k f) ∙ h);
}

pub meet-second : (a b m : List LevelFlags) → length b ≡ length a → Meet a b m → IsBelow m b
meet-second a b m same meet =
    record {
      same_length = meet.same_length ∙ sym same;
      set = λ k f h. both-second (flag_of (cell a k) f) (flag_of (cell b k) f)
          (sym (meet.set k f) ∙ h);
    }

pub below-same : (a : List LevelFlags) → IsBelow a a
below-same a = record { same_length = refl; set = λ k f h. h }

pub below-then : (a b c : List LevelFlags) → IsBelow a b → IsBelow b c → IsBelow a c
below-then a b c one two =
    record {
      same_length = one.same_length ∙ two.same_length;
      set = λ k f h. two.set k f (one.set k f h);
    }

implied : (a b : Bool) → (not a || b) ≡ true → a ≡ true → b ≡ true
implied true b h e = h
implied false b h e = absurd (cc)

parts : (i b g s : Bool) → (i && b && g && s) ≡ true
    → (i ≡ true) × (b ≡ true) × (g ≡ true) × (s ≡ true)
parts i b g s h =
    let three = both-first (i && b && g) s h in
    let two = both-first (i && b) g three in (
      both-first i b two,
      both-second i b two,
      both-second (i && b) g three,
      both-second (i && b && g) s h,
    )

within-flag : (x y : LevelFlags) (f : Flag) → is_within x y ≡ true → flag_of x f ≡ true
    → flag_of y f ≡ true
within-flag x y f h = by f
    (parts (not x.interior || y.interior) (not x.boundary || y.boundary) (not x.ghosts || y.ghosts)
    (not x.scalar || y.scalar) h)
  where
    by : (f : Flag) → ((not x.interior || y.interior) ≡ true)
        × ((not x.boundary || y.boundary) ≡ true) × ((not x.ghosts || y.ghosts) ≡ true)
        × ((not x.scalar || y.scalar) ≡ true) → flag_of x f ≡ true → flag_of y f ≡ true
    by I p e = implied x.interior y.interior p.0 e
    by B p e = implied x.boundary y.boundary p.1 e
    by G p e = implied x.ghosts y.ghosts p.2 e
    by S p e = implied x.scalar y.scalar p.3 e

false_true : false ≡ true → ⊥
false_true e = absurd (cc)

each_of : (p : ℕ → Bool) (xs : List ℕ) (i : ℕ) → i < length xs → list_all p xs ≡ true
    → p (get_or xs i 0) ≡ true
each_of p xs i below all = by (p (get_or xs i 0)) refl
  where
    by : (t : Bool) → p (get_or xs i 0) ≡ t → p (get_or xs i 0) ≡ true
    by true e = e
    by false e = absurd (false_true (sym (list_all_at p xs i 0 below e) ∙ all))

pub below-from-test : (low high : List LevelFlags) → length low ≡ length high
    → list_all (λ k. is_within (cell low k) (cell high k)) (range_with_len 0 (length low)) ≡ true
    → IsBelow low high
below-from-test low high same tested =
    record { same_length = same; set = λ k f. by k f (cases_lt k (length low)) }
  where
    by : (k : ℕ) (f : Flag) → (k < length low) ⊎ (length low ≤ k) → flag_of (cell low k) f ≡ true
        → flag_of (cell high k) f ≡ true
    by k f (inl less) h =
        let in_range : k < length (range_with_len 0 (length low)) =
        omega (arith, length-range_with_len 0 (length low)) in
        let at : get_or (range_with_len 0 (length low)) k 0 ≡ k =
        get_or-range_with_len 0 (length low) k 0 less ∙ omega arith in
        let here = each_of (λ k. is_within (cell low k) (cell high k))
        (range_with_len 0 (length low)) k in_range tested in
        within-flag (cell low k) (cell high k) f
        (ap (λ n. is_within (cell low n) (cell high n)) (sym at) ∙ here) h
    by k f (inr past) h =
        absurd
        (false_true
        (sym (ap (λ (x : LevelFlags). flag_of x f) (get_or_past low k none_set past)
        ∙ flag-none f) ∙ h))
