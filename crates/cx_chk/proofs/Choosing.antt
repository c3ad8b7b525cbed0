-- The newest slot, and the one that a save takes, one slot further on.
use Rattle.std.proofs.Common.{◌≡◌, ℕ, zero, suc, ◌+◌, ◌≤◌, ◌<◌, refl, sym, ◌∙◌, ap, subst, arith, Bool, true, false, inl, inr}
use Rattle.std.specs.Prelude.{◌⊎◌, List, Option, Some, None, IfSome, nat_lt, ◌==◌, ◌&&◌, ◌||◌, not, option_map, if◌then◌else◌}
use Rattle.std.proofs.lemmas.Bool.{eqb-true}
use Rattle.std.proofs.lemmas.Bool.{cases_eq}
use Rattle.std.proofs.lemmas.Bool.Decides.{nat_tests}
use Rattle.cx_disk.specs.Disk.{Files}
use Rattle.cx_chk.specs.Slots.{header_of, iteration_of, is_open, is_second, mark_of, goes_before, NewestBelow, newest_below, best_below, place_of, IsNewest, newer, OldestBelow, IsOldest, older, IsNext}

some_same : {a b : ℕ} → Some a ≡ Some b → a ≡ b
some_same e = cc

some_is : {a b : ℕ × Bool} → Some a ≡ Some b → a ≡ b
some_is e = cc

eqb-same : (n : ℕ) → (n == n) ≡ true
eqb-same n = grind (arith, nat_tests)

-- what it means that a slot goes before an earlier one, or doesn't
before_yes : (second was : Bool) (n m : ℕ) → goes_before second was n m ≡ true
    → (m < n) ⊎ ((m ≡ n) × (second ≡ true) × (was ≡ false))
before_yes second was n m e = first (nat_lt m n) refl e
  where
    flags : (a b : Bool) → (a && not b) ≡ true → (a ≡ true) × (b ≡ false)
    flags true false f = (refl, refl)
    flags true true f = absurd cc
    flags false b f = absurd cc

    second_test : (t : Bool) → (m == n) ≡ t → (t && (second && not was)) ≡ true
        → (m < n) ⊎ ((m ≡ n) × (second ≡ true) × (was ≡ false))
    second_test true is f = let w = flags second was f in inr (eqb-true m n is, w.0, w.1)
    second_test false is f = absurd cc

    first : (t : Bool) → nat_lt m n ≡ t → (t || ((m == n) && (second && not was))) ≡ true
        → (m < n) ⊎ ((m ≡ n) × (second ≡ true) × (was ≡ false))
    first true is f = inl (grind (arith, nat_tests))
    first false is f = second_test (m == n) refl f

before_no : (second was : Bool) (n m : ℕ) → goes_before second was n m ≡ false
    → (n ≤ m) × (m ≡ n → second ≡ true → was ≡ true)
before_no second was n m e = first (nat_lt m n) refl e
  where
    flag : (a b : Bool) → (a && not b) ≡ false → a ≡ true → b ≡ true
    flag true true f is = refl
    flag true false f is = absurd cc
    flag false b f is = absurd cc

    second_test : (t : Bool) → (m == n) ≡ t → (t && (second && not was)) ≡ false → m ≡ n
        → second ≡ true → was ≡ true
    second_test true is f same = flag second was f
    second_test false is f same =
        absurd (let yes : (m == n) ≡ true = subst (λ (k : ℕ). (m == k) ≡ true) same (eqb-same m) in
        let bad : true ≡ false = sym yes ∙ is in cc)

    first : (t : Bool) → nat_lt m n ≡ t → (t || ((m == n) && (second && not was))) ≡ false
        → (n ≤ m) × (m ≡ n → second ≡ true → was ≡ true)
    first true is f = absurd cc
    first false is f = (grind (arith, nat_tests), second_test (m == n) refl f)

-- the mark of a slot, and its header
pub mark_header : (bytes : List ℕ)
    → header_of bytes ≡ option_map (λ (m : ℕ × Bool). m.0) (mark_of bytes)
mark_header bytes = by (is_open bytes)
  where
    by : (b : Bool) → (if b then Some (iteration_of bytes) else None)
        ≡ option_map (λ (m : ℕ × Bool). m.0)
        (if b then Some (iteration_of bytes, is_second bytes) else None)
    by true = refl
    by false = refl

pub mark_second : (bytes : List ℕ) (mark : ℕ × Bool) → Some mark ≡ mark_of bytes
    → mark.1 ≡ is_second bytes
mark_second bytes mark is = by (is_open bytes) is
  where
    by : (b : Bool) → Some mark ≡ (if b then Some (iteration_of bytes, is_second bytes) else None)
        → mark.1 ≡ is_second bytes
    by true e = let pair : ℕ × Bool = (iteration_of bytes, is_second bytes) in
        let same : mark ≡ pair = some_is e in ap (λ (m : ℕ × Bool). m.1) same
    by false e = absurd cc

-- the best so far: its place is the newest, and its mark is its own
abbrev pub BestBelow : ℕ → Files → Option (ℕ × ℕ × Bool) → Type 0
BestBelow bound files None = (slot : ℕ) → slot < bound → header_of (files slot) ≡ None
BestBelow bound files (Some best) =
    IsNewest bound files best.0 best.1 × (best.2 ≡ is_second (files best.0))

newest_two : (files : Files) (k n : ℕ) (s : Bool) (f : ℕ × ℕ × Bool) → IsNewest k files f.0 f.1
    → f.2 ≡ is_second (files f.0) → header_of (files k) ≡ Some n → s ≡ is_second (files k)
    → (b : Bool) → goes_before s f.2 n f.1 ≡ b
    → BestBelow (k + 1) files (if b then Some (k, n, s) else Some f)
newest_two files k n s f h own is second true e = (
  record {
    known = omega arith;
    header = is;
    greatest = λ o m bound head. elim (cases_eq o k) as (λ _. m ≤ n) [
      | inl same ↦ let eq : m ≡ n =
          some_same (sym head ∙ ap (λ (j : ℕ). header_of (files j)) same ∙ is) in omega arith
      | inr ne ↦ let le = h.greatest o m (omega arith) head in let more = least in omega arith
    ];
    second_first = λ o bound head yes. elim (cases_eq o k) as (λ _. is_second (files k) ≡ true) [
      | inl same ↦ ap (λ (j : ℕ). is_second (files j)) (sym same) ∙ yes
      | inr ne ↦ let le = h.greatest o n (omega arith) head in sym second ∙ (at_tie le).1
    ];
    least_number = λ o bound head.
        let le = h.greatest o n bound head in
        let tie = at_tie le in (
          sym second ∙ tie.1,
          not_second o bound (head ∙ ap (λ (m : ℕ). Some m) (sym tie.0)) tie.2
              (is_second (files o)) refl,
        );
  },
  second,
)
  where
    cases : (f.1 < n) ⊎ ((f.1 ≡ n) × (s ≡ true) × (f.2 ≡ false))
    cases = before_yes s f.2 n f.1 e

    least : f.1 ≤ n
    least = elim cases as (λ _. f.1 ≤ n)
        [ inl lt ↦ omega arith | inr tie ↦ let same = tie.0 in omega arith ]

    at_tie : n ≤ f.1 → (f.1 ≡ n) × (s ≡ true) × (f.2 ≡ false)
    at_tie le = elim cases as (λ _. (f.1 ≡ n) × (s ≡ true) × (f.2 ≡ false))
        [ inl lt ↦ absurd (omega arith) | inr tie ↦ tie ]

    not_second : (o : ℕ) → o < k → header_of (files o) ≡ Some f.1 → f.2 ≡ false → (b : Bool)
        → is_second (files o) ≡ b → is_second (files o) ≡ false
    not_second o lt head isnt true was =
        absurd (let w : is_second (files f.0) ≡ true = h.second_first o lt head was in
        let bad : true ≡ false = sym w ∙ sym own ∙ isnt in cc)
    not_second o lt head isnt false is_not = is_not
newest_two files k n s f h own is second false e = (
  record {
    known = let lt = h.known in omega arith;
    header = h.header;
    greatest = λ o m bound head. elim (cases_eq o k) as (λ _. m ≤ f.1) [
      | inl same ↦ let eq : m ≡ n =
          some_same (sym head ∙ ap (λ (j : ℕ). header_of (files j)) same ∙ is) in
          let le = after.0 in
          omega arith
      | inr ne ↦ h.greatest o m (omega arith) head
    ];
    second_first = λ o bound head yes. elim (cases_eq o k) as (λ _. is_second (files f.0) ≡ true) [
      | inl same ↦
          let eq : f.1 ≡ n = some_same (sym head ∙ ap (λ (j : ℕ). header_of (files j)) same ∙ is) in
          sym own ∙ after.1 eq (second ∙ ap (λ (j : ℕ). is_second (files j)) (sym same) ∙ yes)
      | inr ne ↦ h.second_first o (omega arith) head yes
    ];
    least_number = h.least_number;
  },
  own,
)
  where
    after : (n ≤ f.1) × (f.1 ≡ n → s ≡ true → f.2 ≡ true)
    after = before_no s f.2 n f.1 e

pub best_more : (files : Files) (k : ℕ) (best : Option (ℕ × ℕ × Bool)) (found : Option (ℕ × Bool))
    → BestBelow k files best → found ≡ mark_of (files k)
    → BestBelow (k + 1) files (newer best k found)
best_more files k None None h is =
    λ s lt. elim (cases_eq s k) as (λ _. header_of (files s) ≡ None) [
      | inl e ↦ ap (λ (j : ℕ). header_of (files j)) e ∙ mark_header (files k)
          ∙ ap (option_map (λ (m : ℕ × Bool). m.0)) (sym is)
      | inr ne ↦ h s (omega arith)
    ]
best_more files k (Some f) None h is = (
  record {
    known = let lt = h.0.known in omega arith;
    header = h.0.header;
    greatest = λ o m bound head. elim (cases_eq o k) as (λ _. m ≤ f.1) [
      | inl same ↦ absurd (let bad : Some m ≡ None =
          sym head ∙ ap (λ (j : ℕ). header_of (files j)) same ∙ shut in cc)
      | inr ne ↦ h.0.greatest o m (omega arith) head
    ];
    second_first = λ o bound head yes. elim (cases_eq o k) as (λ _. is_second (files f.0) ≡ true) [
      | inl same ↦ absurd (let bad : Some f.1 ≡ None =
          sym head ∙ ap (λ (j : ℕ). header_of (files j)) same ∙ shut in cc)
      | inr ne ↦ h.0.second_first o (omega arith) head yes
    ];
    least_number = h.0.least_number;
  },
  h.1,
)
  where
    shut : header_of (files k) ≡ None
    shut = mark_header (files k) ∙ ap (option_map (λ (m : ℕ × Bool). m.0)) (sym is)
best_more files k None (Some mark) h is = (
  record {
    known = omega arith;
    header = open_slot;
    greatest = λ o m bound head. elim (cases_eq o k) as (λ _. m ≤ mark.0) [
      | inl same ↦ let eq : m ≡ mark.0 =
          some_same (sym head ∙ ap (λ (j : ℕ). header_of (files j)) same ∙ open_slot) in omega arith
      | inr ne ↦ absurd (let bad : Some m ≡ None = sym head ∙ h o (omega arith) in cc)
    ];
    second_first = λ o bound head yes. elim (cases_eq o k) as (λ _. is_second (files k) ≡ true) [
      | inl same ↦ ap (λ (j : ℕ). is_second (files j)) (sym same) ∙ yes
      | inr ne ↦ absurd (let bad : Some mark.0 ≡ None = sym head ∙ h o (omega arith) in cc)
    ];
    least_number = λ o bound head.
        absurd (let bad : Some mark.0 ≡ None = sym head ∙ h o bound in cc);
  },
  mark_second (files k) mark is,
)
  where
    open_slot : header_of (files k) ≡ Some mark.0
    open_slot = mark_header (files k) ∙ ap (option_map (λ (m : ℕ × Bool). m.0)) (sym is)
best_more files k (Some f) (Some mark) h is =
    newest_two files k mark.0 mark.1 f h.0 h.1
    (mark_header (files k) ∙ ap (option_map (λ (m : ℕ × Bool). m.0)) (sym is))
    (mark_second (files k) mark is) (goes_before mark.1 f.2 mark.0 f.1) refl

best_law : (k : ℕ) (files : Files) → BestBelow k files (best_below k files)
best_law zero files = λ s lt. absurd (omega arith)
best_law (suc k) files =
    subst (λ (n : ℕ). BestBelow n files (best_below (suc k) files)) one
    (best_more files k (best_below k files) (mark_of (files k)) (best_law k files) refl)
  where
    one : k + 1 ≡ suc k
    one = omega arith

-- what the look through the slots finds is the newest
pub newest_law : (k : ℕ) (files : Files) → NewestBelow k files (newest_below k files)
newest_law k files = by (best_below k files) (best_law k files)
  where
    by : (best : Option (ℕ × ℕ × Bool)) → BestBelow k files best
        → NewestBelow k files (option_map place_of best)
    by None h = h
    by (Some f) h = h.0

pub best_step : (k : ℕ) (files : Files)
    → best_below (k + 1) files ≡ newer (best_below k files) k (mark_of (files k))
best_step k files = let one : k + 1 ≡ suc k = omega arith in ap (λ (n : ℕ). best_below n files) one

oldest_two : (files : Files) (k n : ℕ) (f : ℕ × ℕ) → IsOldest k files f.0 f.1
    → header_of (files k) ≡ Some n → (b : Bool) → nat_lt n f.1 ≡ b
    → OldestBelow (k + 1) files (Some (if b then (k, n) else f))
oldest_two files k n f h is true e =
    let lt : n < f.1 = grind (arith, nat_tests) in
    record {
      known = omega arith;
      header = is;
      all = λ o bound. elim (cases_eq o k) as
          (λ _. (m : ℕ) × (header_of (files o) ≡ Some m) × (n ≤ m)) [
            | inl same ↦ (n, ap (λ (j : ℕ). header_of (files j)) same ∙ is, omega arith)
            | inr ne ↦ let a = h.all o (omega arith) in (a.0, a.1, let le = a.2 in omega arith)
          ];
      least_number = λ o m bound head.
          let a = h.all o bound in
          let eq : m ≡ a.0 = some_same (sym head ∙ a.1) in
          let le = a.2 in omega arith;
    }
oldest_two files k n f h is false e =
    let le : f.1 ≤ n = grind (arith, nat_tests) in
    record {
      known = let lt = h.known in omega arith;
      header = h.header;
      all = λ o bound. elim (cases_eq o k) as
          (λ _. (m : ℕ) × (header_of (files o) ≡ Some m) × (f.1 ≤ m)) [
            | inl same ↦ (n, ap (λ (j : ℕ). header_of (files j)) same ∙ is, le)
            | inr ne ↦ h.all o (omega arith)
          ];
      least_number = h.least_number;
    }

pub oldest_more : (files : Files) (k : ℕ) (best : Option (ℕ × ℕ)) (n : ℕ) → OldestBelow k files best
    → Some n ≡ header_of (files k) → OldestBelow (k + 1) files (Some (older best k n))
oldest_more files k None n h is =
    record {
      known = omega arith;
      header = sym is;
      all = λ o bound. elim (cases_eq o k) as
          (λ _. (m : ℕ) × (header_of (files o) ≡ Some m) × (n ≤ m)) [
            | inl same ↦ (n, ap (λ (j : ℕ). header_of (files j)) same ∙ sym is, omega arith)
            | inr ne ↦ absurd (omega arith)
          ];
      least_number = λ o m bound head. absurd (omega arith);
    }
oldest_more files k (Some f) n h is = oldest_two files k n f h (sym is) (nat_lt n f.1) refl

-- the first slot that isn't open
pub next_closed : (files : Files) (keep k : ℕ) (best : Option (ℕ × ℕ)) → k ≤ keep
    → OldestBelow k files best → None ≡ header_of (files k) → IsNext files keep k
next_closed files keep k None le h is = record {
  known = le;
  closed_first = λ none o lt. absurd (omega arith);
  oldest = λ n head. absurd (let bad : Some n ≡ None = sym head ∙ sym is in cc);
  least_number = λ n head. absurd (let bad : Some n ≡ None = sym head ∙ sym is in cc);
}
next_closed files keep k (Some f) le h is = record {
  known = le;
  closed_first = λ none o lt shut. let a = h.all o lt in
      let bad : Some a.0 ≡ None = sym a.1 ∙ shut in cc;
  oldest = λ n head. absurd (let bad : Some n ≡ None = sym head ∙ sym is in cc);
  least_number = λ n head. absurd (let bad : Some n ≡ None = sym head ∙ sym is in cc);
}

-- the oldest of all
pub next_oldest : (files : Files) (keep k : ℕ) (f : ℕ × ℕ) → k ≡ keep + 1
    → OldestBelow k files (Some f) → IsNext files keep f.0
next_oldest files keep k f all h = record {
  known = let lt = h.known in omega arith;
  closed_first = λ none. absurd (let bad : Some f.1 ≡ None = sym h.header ∙ none in cc);
  oldest = λ n head o le. let a = h.all o (omega arith) in
      let same : n ≡ f.1 = some_same (sym head ∙ h.header) in
      (a.0, a.1, let l = a.2 in omega arith);
  least_number = λ n head o m lt other. let same : n ≡ f.1 = some_same (sym head ∙ h.header) in
      let l = h.least_number o m lt other in omega arith;
}

older_two : (k n : ℕ) (f : ℕ × ℕ) → f.0 < k → (b : Bool) → (if b then (k, n) else f).0 < k + 1
older_two k n f lt true = omega arith
older_two k n f lt false = omega arith

pub older_known : (k : ℕ) (best : Option (ℕ × ℕ)) (n : ℕ) → IfSome best (λ f. f.0 < k)
    → (older best k n).0 < k + 1
older_known k None n known = omega arith
older_known k (Some f) n known = older_two k n f known (nat_lt n f.1)

newer_two : (k n : ℕ) (s : Bool) (f : ℕ × ℕ × Bool) → f.0 < k → (b : Bool)
    → IfSome (if b then Some (k, n, s) else Some f) (λ (g : ℕ × ℕ × Bool). g.0 < k + 1)
newer_two k n s f lt true = omega arith
newer_two k n s f lt false = omega arith

pub newer_known : (k : ℕ) (best : Option (ℕ × ℕ × Bool)) (found : Option (ℕ × Bool))
    → IfSome best (λ f. f.0 < k) → IfSome (newer best k found) (λ (g : ℕ × ℕ × Bool). g.0 < k + 1)
newer_known k None None known = tt
newer_known k (Some f) None known = omega arith
newer_known k None (Some mark) known = omega arith
newer_known k (Some f) (Some mark) known =
    newer_two k mark.0 mark.1 f known (goes_before mark.1 f.2 mark.0 f.1)

pub place_known : (k : ℕ) (best : Option (ℕ × ℕ × Bool)) → IfSome best (λ f. f.0 < k)
    → IfSome (option_map place_of best) (λ (f : ℕ × ℕ). f.0 < k)
place_known k None known = tt
place_known k (Some f) known = known
