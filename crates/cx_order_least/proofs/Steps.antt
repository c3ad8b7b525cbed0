-- The state in which numbers are put in order, and its steps.
use Rattle.std.proofs.Common.{◌≡◌, ◌⊎◌, inl, inr, ℕ, ◌+◌, ◌<◌, Bool, true, false, not, ◌&&◌, ◌||◌, eqb, eq-eqb, ltb, ltb-true, lt-ltb, zero, suc, List, [], ◌∷◌, ◌++◌, length, set, replicate, Some, None, refl, sym, ◌∙◌, ap, subst, arith, append_assoc, append-nil}
use Rattle.std.specs.List.{filter}
use Rattle.std.proofs.lemmas.Bool.{false≢true, and_parts, and_from}
use Rattle.std.proofs.lemmas.List.{length-set, get_or-replicate, length-replicate}
use Rattle.cx_order_least.specs.Orders.{Before, count, numbers, numbers_from, may_follow, IsLeastOrder}
use Rattle.cx_order_least.specs.Links.{has, row, links, is_left, IsBlocked}
use Rattle.cx_order_least.proofs.Counts.{all-from}
use Rattle.cx_order_least.proofs.LeastOrders.{Rises, first-is-least, none-is-least}
use Rattle.cx_order_least.proofs.Rest.{same_or_not, left-marked, left-other, left-below, in-rest, to-rest, rest-rises, Drops, Splits, splits, splits-shorter, some-fails}

-- one number must stand before another, both below a count
abbrev pub inside : Before → ℕ → Before
inside before count a b = before a b && (ltb a count && ltb b count)

-- the numbers without mark, in order
abbrev pub rest : List Bool → ℕ → List ℕ
rest marks count = filter (is_left marks) (numbers count)

-- one without mark must stand before it
abbrev pub Waits : Before → ℕ → List Bool → ℕ → Type 0
Waits before count marks k = (w : ℕ) × (is_left marks w ≡ true) × (inside before count w k ≡ true)

pub record State (before : Before) (count : ℕ) (first after : List (List ℕ)) (marks : List Bool)
    (candidates order : List ℕ) : Type 0 where
  pub marks_length : length marks ≡ count
  pub first_length : length first ≡ count
  pub after_length : length after ≡ count
  pub first_left : (a b : ℕ) → is_left marks a ≡ true → links first b a ≡ inside before count a b
  pub first_sound : (a b : ℕ) → links first b a ≡ true → inside before count a b ≡ true
  pub after_is : (a b : ℕ) → links after a b ≡ inside before count a b
  pub unmarked : (k : ℕ) → has candidates k ≡ true → is_left marks k ≡ true
  pub closed : (a b : ℕ) → inside before count a b ≡ true → is_left marks b ≡ false
      → is_left marks a ≡ false
  pub waits : (k : ℕ) → is_left marks k ≡ true
      → (has candidates k ≡ true) ⊎ Waits before count marks k
  pub completes : (ys : List ℕ) → IsLeastOrder before (rest marks count) ys
      → IsLeastOrder before (numbers count) (order ++ ys)

-- what is known of the number that comes next
pub record Next (first newer : List (List ℕ)) (marks : List Bool) (candidates others : List ℕ)
    (x : ℕ) : Type 0 where
  pub same : length newer ≡ length first
  pub kept : (a b : ℕ) → is_left marks a ≡ true → links newer b a ≡ links first b a
  pub fewer : (a b : ℕ) → links newer b a ≡ true → links first b a ≡ true
  pub found : has candidates x ≡ true
  pub free : (a : ℕ) → links first x a ≡ true → is_left marks a ≡ false
  pub less : (k : ℕ) → has others k ≡ true → has candidates k ≡ true
  pub above : (k : ℕ) → has others k ≡ true → x < k
  pub blocked : (k : ℕ) → has candidates k ≡ true
      → (Some x ≡ Some k) ⊎ ((has others k ≡ true) ⊎ IsBlocked marks first k)

left_or_not : (marks : List Bool) (k : ℕ) → (is_left marks k ≡ true) ⊎ (is_left marks k ≡ false)
left_or_not marks k = by_test (is_left marks k) refl
  where
    by_test : (t : Bool) → is_left marks k ≡ t
        → (is_left marks k ≡ true) ⊎ (is_left marks k ≡ false)
    by_test true e = inl e
    by_test false e = inr e

clash : {A : Type 0} (b : Bool) → b ≡ true → b ≡ false → A
clash b t f = absurd (false≢true (sym f ∙ t))

or_cases : (a b : Bool) → (a || b) ≡ true → (a ≡ true) ⊎ (b ≡ true)
or_cases true b e = inl refl
or_cases false b e = inr e

or_left : (a b : Bool) → a ≡ true → (a || b) ≡ true
or_left a b e = ap (λ t. t || b) e

or_right : (a b : Bool) → b ≡ true → (a || b) ≡ true
or_right true b e = refl
or_right false b e = e

module _ (before : Before) (count : ℕ) (first newer after : List (List ℕ)) (marks : List Bool)
    (candidates others wider order : List ℕ) (x : ℕ)
    (s : State before count first after marks candidates order)
    (n : Next first newer marks candidates others x)
    (widens : (k : ℕ) → has wider k ≡ (has others k || has (row after x) k)) where
  abbrev pub marked : List Bool
  marked = set marks x true

  x_left : is_left marks x ≡ true
  x_left = s.unmarked x n.found

  x_below : x < length marks
  x_below = left-below marks x x_left

  x_done : is_left marked x ≡ false
  x_done = left-marked marks x x_below

  -- what is left now was left, and is another number
  was_left : (k : ℕ) → is_left marked k ≡ true → (is_left marks k ≡ true) × (eqb k x ≡ false)
  was_left k left = elim (same_or_not k x) [
    | inl e ↦ clash (is_left marked k) left (ap (is_left marked) e ∙ x_done)
    | inr other ↦ (sym (left-other marks x k other) ∙ left, other)
  ]

  still_left : (k : ℕ) → is_left marks k ≡ true → eqb k x ≡ false → is_left marked k ≡ true
  still_left k left other = left-other marks x k other ∙ left

  still_marked : (k : ℕ) → is_left marks k ≡ false → is_left marked k ≡ false
  still_marked k gone = elim (same_or_not k x) [
    | inl e ↦ ap (is_left marked) e ∙ x_done
    | inr other ↦ left-other marks x k other ∙ gone
  ]

  -- nothing that is left must stand before the next number
  nothing_before : (a : ℕ) → inside before count a x ≡ true → is_left marks a ≡ false
  nothing_before a h = elim (left_or_not marks a) [
    | inl left ↦ n.free a (s.first_left a x left ∙ h)
    | inr gone ↦ gone
  ]

  not_itself : (k : ℕ) → inside before count x k ≡ true → eqb k x ≡ false
  not_itself k h = elim (same_or_not k x) [
    | inl e ↦ clash (is_left marks x) x_left
        (nothing_before x (let P : ℕ → Type 0 = λ m. inside before count x m ≡ true in subst P e h))
    | inr other ↦ other
  ]

  later_left : (k : ℕ) → inside before count x k ≡ true → is_left marks k ≡ true
  later_left k h = elim (left_or_not marks k) [
    | inl left ↦ left
    | inr gone ↦ clash (is_left marks x) x_left (s.closed x k h gone)
  ]

  -- a number that is left is the next one, among the others, or waits
  cases : (k : ℕ) → is_left marks k ≡ true → eqb k x ≡ false
      → (has others k ≡ true) ⊎ Waits before count marks k
  cases k left other = elim (s.waits k left) [
    | inr waits ↦ inr waits
    | inl candidate ↦ elim (n.blocked k candidate) [
      | inl same ↦ (let e : x ≡ k = cc same in clash (eqb k x) (eq-eqb k x (sym e)) other)
      | inr more ↦ elim more [
        | inl there ↦ inl there
        | inr blocked ↦ inr (blocked.0, blocked.1, s.first_sound blocked.0 k blocked.2)
      ]
    ]
  ]

  drops : Drops (is_left marks) (is_left marked) x
  drops = record { passed = x_left; fails = x_done; others = λ k other. left-other marks x k other }

  x_small : x < 0 + count
  x_small = let e = s.marks_length in let h = x_below in omega (arith, e, h)

  parts : Splits (is_left marks) (is_left marked) x (numbers count)
  parts = splits (is_left marks) (is_left marked) x drops 0 count (omega arith) x_small

  below_count : (k : ℕ) → is_left marks k ≡ true → ltb k count ≡ true
  below_count k left = lt-ltb k count
      (let h = left-below marks k left in let e = s.marks_length in omega (arith, h, e))

  x_free : may_follow before x (rest marks count) ≡ true
  x_free = all-from (λ y. not (before y x)) (rest marks count)
      (λ y there. by_test y (in-rest (is_left marks) 0 count y there).0 (before y x) refl)
    where
      by_test : (y : ℕ) → is_left marks y ≡ true → (t : Bool) → before y x ≡ t
          → not (before y x) ≡ true
      by_test y left false e = ap not e
      by_test y left true e =
          clash (is_left marks y) left
          (nothing_before y (and_from (before y x) (ltb y count && ltb x count) e
          (and_from (ltb y count) (ltb x count) (below_count y left) (below_count x x_left))))

  smaller_blocked : (k : ℕ) → (is_left marks k ≡ true) × (k < x)
      → may_follow before k (rest marks count) ≡ false
  smaller_blocked k h = elim (cases k h.0 (not_x (same_or_not k x))) [
    | inl there ↦ absurd (let up = n.above k there in let down = h.1 in
        let no : ⊥ = omega (arith, up, down) in no)
    | inr waits ↦ some-fails (λ y. not (before y k)) (rest marks count) waits.0
        (to-rest (is_left marks) 0 count waits.0 waits.1 (omega arith)
        (let b = left-below marks waits.0 waits.1 in let e = s.marks_length in
        omega (arith, b, e)))
        (ap not (and_parts (before waits.0 k) (ltb waits.0 count && ltb k count) waits.2).0)
  ]
    where
      not_x : (k ≡ x) ⊎ (eqb k x ≡ false) → eqb k x ≡ false
      not_x (inl e) = absurd (let down = h.1 in let no : ⊥ = omega (arith, e, down) in no)
      not_x (inr other) = other

  pub completes-step : (ys : List ℕ) → IsLeastOrder before (rest marked count) ys
      → IsLeastOrder before (numbers count) ((order ++ x ∷ []) ++ ys)
  completes-step ys least =
      let A : List ℕ → Type 0 = λ r. IsLeastOrder before (numbers count) r in
      let L : List ℕ → Type 0 = λ r. IsLeastOrder before r ys in
      let W : List ℕ → Type 0 = λ r. IsLeastOrder before r (x ∷ ys) in
      let R : List ℕ → Type 0 = λ r. Rises r in
      let F : List ℕ → Type 0 = λ r. may_follow before x r ≡ true in
      let B : List ℕ → Type 0 = λ r. (k : ℕ) → (is_left marks k ≡ true) × (k < x)
      → may_follow before k r ≡ false in
      subst A (sym (append_assoc order (x ∷ []) ys))
      (s.completes (x ∷ ys)
      (subst W (sym parts.whole)
      (first-is-least before parts.front x parts.back ys
      (subst R parts.whole (rest-rises (is_left marks) 0 count))
      (subst F parts.whole x_free)
      (λ k there. subst B parts.whole smaller_blocked k (parts.less k there))
      (subst L parts.without least))))

  pub step : State before count newer after marked wider (order ++ x ∷ [])
  step =
      record {
        marks_length = length-set marks x true ∙ s.marks_length;
        first_length = n.same ∙ s.first_length;
        after_length = s.after_length;
        first_left = λ a b left. n.kept a b (was_left a left).0
            ∙ s.first_left a b (was_left a left).0;
        first_sound = λ a b h. s.first_sound a b (n.fewer a b h);
        after_is = s.after_is;
        unmarked = unmarked;
        closed = closed;
        waits = waits;
        completes = completes-step;
      }
    where
      unmarked : (k : ℕ) → has wider k ≡ true → is_left marked k ≡ true
      unmarked k there = elim
          (or_cases (has others k) (has (row after x) k) (sym (widens k) ∙ there)) [
            | inl other ↦ still_left k (s.unmarked k (n.less k other))
                (apart k (n.above k other) (same_or_not k x))
            | inr later ↦ (let h = sym (s.after_is x k) ∙ later in
                still_left k (later_left k h) (not_itself k h))
          ]
        where
          apart : (m : ℕ) → x < m → (m ≡ x) ⊎ (eqb m x ≡ false) → eqb m x ≡ false
          apart m up (inl e) = absurd (let no : ⊥ = omega (arith, e, up) in no)
          apart m up (inr other) = other

      closed : (a b : ℕ) → inside before count a b ≡ true → is_left marked b ≡ false
          → is_left marked a ≡ false
      closed a b h gone = still_marked a (elim (same_or_not b x) [
        | inl e ↦ nothing_before a
            (let P : ℕ → Type 0 = λ m. inside before count a m ≡ true in subst P e h)
        | inr other ↦ s.closed a b h (sym (left-other marks x b other) ∙ gone)
      ])

      waits : (k : ℕ) → is_left marked k ≡ true → (has wider k ≡ true) ⊎ Waits before count marked k
      waits k left = elim (cases k (was_left k left).0 (was_left k left).1) [
        | inl there ↦ inl (widens k ∙ or_left (has others k) (has (row after x) k) there)
        | inr w ↦ elim (same_or_not w.0 x) [
          | inl e ↦ inl (widens k
              ∙ or_right (has others k) (has (row after x) k)
              (s.after_is x k ∙ (let P : ℕ → Type 0 = λ m. inside before count m k ≡ true in
              subst P e w.2)))
          | inr other ↦ inr (w.0, still_left w.0 w.1 other, w.2)
        ]
      ]

  pub fewer-left : length (rest marked count) < length (rest marks count)
  fewer-left = let e = splits-shorter (is_left marks) (is_left marked) x (numbers count) parts in
      omega (arith, e)

-- ---- the beginning and the end

all-pass : (p : ℕ → Bool) (a n : ℕ) → ((k : ℕ) → k < a + n → p k ≡ true)
    → filter p (numbers_from a n) ≡ numbers_from a n
all-pass p a zero h = refl
all-pass p a (suc n) h =
    rw (h a (omega arith)) (ap (λ r. a ∷ r) (all-pass p (a + 1) n (λ k l. h k (omega (arith, l)))))

fresh-left : (count k : ℕ) → k < count → is_left (replicate count false) k ≡ true
fresh-left count k h = ap not (get_or-replicate count k false true h)

fresh-below : (count k : ℕ) → is_left (replicate count false) k ≡ true → k < count
fresh-below count k left = let h = left-below (replicate count false) k left in
    let e = length-replicate count false in omega (arith, h, e)

pub begin : (before : Before) (count : ℕ) (first after : List (List ℕ)) (marks : List Bool)
    (candidates order : List ℕ) → marks ≡ replicate count false → length first ≡ count
    → length after ≡ count → ((a b : ℕ) → links first b a ≡ inside before count a b)
    → ((a b : ℕ) → links after a b ≡ inside before count a b)
    → ((k : ℕ) → has candidates k ≡ ltb k count) → order ≡ []
    → State before count first after marks candidates order
begin before count first after marks candidates order none first_length after_length first_is
    after_is all empty =
    let S : List Bool → Type 0 = λ m. State before count first after m candidates order in
    subst S (sym none)
    (record {
      marks_length = length-replicate count false;
      first_length = first_length;
      after_length = after_length;
      first_left = λ a b left. first_is a b;
      first_sound = λ a b h. sym (first_is a b) ∙ h;
      after_is = after_is;
      unmarked = λ k there. fresh-left count k (ltb-true k count (sym (all k) ∙ there));
      closed = λ a b h gone. clash (is_left (replicate count false) b)
          (fresh-left count b (ltb-true b count
          (and_parts (ltb a count) (ltb b count)
          (and_parts (before a b) (ltb a count && ltb b count) h).1).1)) gone;
      waits = λ k left. inl (all k ∙ lt-ltb k count (fresh-below count k left));
      completes = λ ys least. completes ys least;
    })
  where
    completes : (ys : List ℕ) → IsLeastOrder before (rest (replicate count false) count) ys
        → IsLeastOrder before (numbers count) (order ++ ys)
    completes ys least =
        let L : List ℕ → Type 0 = λ r. IsLeastOrder before r ys in
        let O : List ℕ → Type 0 = λ o. IsLeastOrder before (numbers count) (o ++ ys) in
        subst O (sym empty) (subst L
        (all-pass (is_left (replicate count false)) 0 count
        (λ k h. fresh-left count k (omega (arith, h)))) least)

none-pass : (p : ℕ → Bool) (a n : ℕ) → ((k : ℕ) → p k ≡ false) → filter p (numbers_from a n) ≡ []
none-pass p a zero h = refl
none-pass p a (suc n) h = rw (h a) (none-pass p (a + 1) n h)

pub finish : (before : Before) (count : ℕ) (first after : List (List ℕ)) (marks : List Bool)
    (candidates order : List ℕ) → State before count first after marks candidates order
    → ((k : ℕ) → is_left marks k ≡ false) → IsLeastOrder before (numbers count) order
finish before count first after marks candidates order s none =
    let L : List ℕ → Type 0 = λ r. IsLeastOrder before r [] in
    let A : List ℕ → Type 0 = λ r. IsLeastOrder before (numbers count) r in
    subst A (append-nil order)
    (s.completes [] (subst L (sym (none-pass (is_left marks) 0 count none))
    (none-is-least before)))

-- where no candidate is left, each number that is left waits
pub stuck : (before : Before) (count : ℕ) (first newer after : List (List ℕ)) (marks : List Bool)
    (candidates order : List ℕ) → State before count first after marks candidates order
    → ((a b : ℕ) → is_left marks a ≡ true → links newer b a ≡ links first b a)
    → ((k : ℕ) → has candidates k ≡ true → IsBlocked marks first k) → (k : ℕ)
    → is_left marks k ≡ true → IsBlocked marks newer k
stuck before count first newer after marks candidates order s kept blocked k left =
    elim (s.waits k left) [
      | inl there ↦ (let b = blocked k there in (b.0, b.1, kept b.0 k b.1 ∙ b.2))
      | inr w ↦ (w.0, w.1, kept w.0 k w.1 ∙ (s.first_left w.0 k w.1 ∙ w.2))
    ]

-- where no number was found, and no candidate is left
pub nowhere : {A : Type 0} (others : List ℕ) (k : ℕ) → others ≡ []
    → (None ≡ Some k) ⊎ ((has others k ≡ true) ⊎ A) → A
nowhere others k empty (inl e) = absurd (cc e)
nowhere others k empty (inr (inl there)) =
    absurd (false≢true (sym (ap (λ l. has l k) empty) ∙ there))
nowhere others k empty (inr (inr a)) = a
