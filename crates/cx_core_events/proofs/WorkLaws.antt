-- The works of places, one after another.
use Rattle.std.proofs.Common.{◌≡◌, ℕ, zero, suc, ◌+◌, ◌-◌, ◌<◌, ◌≤◌, ◌⊎◌, inl, inr, Bool, true, false, ◌||◌, List, [], ◌∷◌, ◌++◌, length, take, Option, Some, None, refl, sym, ap, ◌∙◌, subst, arith, length-append, append_assoc, append-nil}
use Rattle.std.specs.List.{list_any}
use Rattle.std.specs.Option.{option_to_list}
use Rattle.std.proofs.lemmas.Bool.{cases_eq, cases_order}
use Rattle.law_parts.specs.Runs.{Run, Oracle}
use Rattle.cx_core_events.specs.declared.standing.Work.{Work}
use Rattle.cx_core_events.specs.Shows.{work_there, works_before}

module _ (r : Run) (oracle : Oracle) where
  -- the works of so many places from one on
  abbrev pub works_from : ℕ → ℕ → List Work
  works_from m zero = []
  works_from m (suc d) = works_from m d ++ option_to_list (work_there r oracle (m + d))

  pub before_from : (m d : ℕ)
      → works_before r oracle (m + d) ≡ works_before r oracle m ++ works_from m d
  before_from m zero = let e : m + 0 ≡ m = omega arith in
      ap (works_before r oracle) e ∙ sym (append-nil (works_before r oracle m))
  before_from m (suc d) =
      let e : m + suc d ≡ suc (m + d) = omega arith in
      ap (works_before r oracle) e
      ∙ ap (λ xs. xs ++ option_to_list (work_there r oracle (m + d))) (before_from m d)
      ∙ append_assoc (works_before r oracle m) (works_from m d)
      (option_to_list (work_there r oracle (m + d)))

  pub before_upto : (m n : ℕ) → m ≤ n
      → works_before r oracle n ≡ works_before r oracle m ++ works_from m (n - m)
  before_upto m n l = let e : n ≡ m + (n - m) = omega arith in
      ap (works_before r oracle) e ∙ before_from m (n - m)

  pub length_upto : (m n : ℕ) → m ≤ n
      → length (works_before r oracle m) ≤ length (works_before r oracle n)
  length_upto m n l = omega (
    arith,
    ap length (before_upto m n l),
    length-append (works_before r oracle m) (works_from m (n - m)),
  )

-- ---- lists

pub same_tail : {A : Type 0} (xs ys zs : List A) → xs ++ ys ≡ xs ++ zs → ys ≡ zs
same_tail [] ys zs e = e
same_tail (x ∷ xs) ys zs e = same_tail xs ys zs (cons_tail x x (xs ++ ys) (xs ++ zs) e)
  where
    cons_tail : {A : Type 0} (x y : A) (xs ys : List A) → x ∷ xs ≡ y ∷ ys → xs ≡ ys
    cons_tail x y xs ys e = cc

pub take_front : {A : Type 0} (xs ys : List A) (n : ℕ) → n ≡ length xs → take n (xs ++ ys) ≡ xs
take_front [] ys zero e = refl
take_front [] ys (suc n) e = absurd (omega (arith, e))
take_front (x ∷ xs) ys zero e = absurd (omega (arith, e))
take_front (x ∷ xs) ys (suc n) e = ap (λ zs. x ∷ zs) (take_front xs ys n (omega (arith, e)))

or_assoc : (a b c : Bool) → (a || (b || c)) ≡ ((a || b) || c)
or_assoc true b c = refl
or_assoc false b c = refl

any_append : {A : Type 0} (f : A → Bool) (xs ys : List A)
    → list_any f (xs ++ ys) ≡ (list_any f xs || list_any f ys)
any_append f [] ys = refl
any_append f (x ∷ xs) ys =
    ap (λ c. f x || c) (any_append f xs ys) ∙ or_assoc (f x) (list_any f xs) (list_any f ys)

or_parts : (a b : Bool) → (a || b) ≡ true → (a ≡ true) ⊎ (b ≡ true)
or_parts true b e = inl refl
or_parts false b e = inr e

or_left : (a b : Bool) → a ≡ true → (a || b) ≡ true
or_left true b e = refl
or_left false b e = absurd cc

or_right : (a b : Bool) → b ≡ true → (a || b) ≡ true
or_right true b e = refl
or_right false b e = e

-- ---- which works there are

module _ (r : Run) (oracle : Oracle) (f : Work → Bool) where
  -- a place whose work passes
  pub record HasPlace (m n : ℕ) : Type 0 where
    pub place : ℕ
    pub from : m ≤ place
    pub upto : place < n
    pub work : Work
    pub is : work_there r oracle place ≡ Some work
    pub passes : f work ≡ true

  any_one : (o : Option Work) → list_any f (option_to_list o) ≡ true
      → (work : Work) × (o ≡ Some work) × (f work ≡ true)
  any_one None e = absurd cc
  any_one (Some x) e = (x, refl, one (f x) e)
    where
      one : (b : Bool) → (b || false) ≡ true → b ≡ true
      one true e = refl
      one false e = e

  pub any_place : (m d : ℕ) → list_any f (works_from r oracle m d) ≡ true → HasPlace m (m + d)
  any_place m zero e = absurd cc
  any_place m (suc d) e = go
      (or_parts (list_any f (works_from r oracle m d))
      (list_any f (option_to_list (work_there r oracle (m + d))))
      (sym (any_append f (works_from r oracle m d) (option_to_list (work_there r oracle (m + d))))
      ∙ e)) (any_place m d)
    where
      go : (list_any f (works_from r oracle m d) ≡ true)
          ⊎ (list_any f (option_to_list (work_there r oracle (m + d))) ≡ true)
          → (list_any f (works_from r oracle m d) ≡ true → HasPlace m (m + d))
          → HasPlace m (m + suc d)
      go (inl a) more =
          let x = more a in
          record {
            place = x.place;
            from = x.from;
            upto = let u = x.upto in
                omega (arith, u);
            work = x.work;
            is = x.is;
            passes = x.passes;
          }
      go (inr a) more =
          let x = any_one (work_there r oracle (m + d)) a in
          record {
            place = m + d;
            from = omega arith;
            upto = omega arith;
            work = x.0;
            is = x.1;
            passes = x.2;
          }

  one_any : (o : Option Work) (work : Work) → o ≡ Some work → f work ≡ true
      → list_any f (option_to_list o) ≡ true
  one_any o work e h = ap (λ x. list_any f (option_to_list x)) e ∙ ap (λ b. b || false) h

  pub place_any : (m d : ℕ) → HasPlace m (m + d) → list_any f (works_from r oracle m d) ≡ true
  place_any m zero x = let a = x.from in let b = x.upto in absurd (omega (arith, a, b))
  place_any m (suc d) x =
      any_append f (works_from r oracle m d) (option_to_list (work_there r oracle (m + d)))
      ∙ go (cases_eq x.place (m + d)) (place_any m d)
    where
      go : (x.place ≡ m + d) ⊎ (x.place ≡ m + d → ⊥)
          → (HasPlace m (m + d) → list_any f (works_from r oracle m d) ≡ true)
          → (list_any f (works_from r oracle m d)
          || list_any f (option_to_list (work_there r oracle (m + d)))) ≡ true
      go (inl e) more = or_right (list_any f (works_from r oracle m d))
          (list_any f (option_to_list (work_there r oracle (m + d))))
          (one_any (work_there r oracle (m + d)) x.work (ap (work_there r oracle) (sym e) ∙ x.is)
          x.passes)
      go (inr e) more =
          or_left (list_any f (works_from r oracle m d))
          (list_any f (option_to_list (work_there r oracle (m + d))))
          (more
          (record {
            place = x.place;
            from = x.from;
            upto = let u = x.upto in
                omega (arith, u, e);
            work = x.work;
            is = x.is;
            passes = x.passes;
          }))

-- ---- the first work of some places

module _ (r : Run) (oracle : Oracle) where
  pub some_work : (m d i : ℕ) (work : Work) → i < d → work_there r oracle (m + i) ≡ Some work
      → 0 < length (works_from r oracle m d)
  some_work m zero i work l e = absurd (omega (arith, l))
  some_work m (suc d) i work l e = go (cases_eq i d) (some_work m d i work)
    where
      added : length (works_from r oracle m d ++ option_to_list (work_there r oracle (m + d)))
          ≡ length (works_from r oracle m d) + length (option_to_list (work_there r oracle (m + d)))
      added = length-append (works_from r oracle m d) (option_to_list (work_there r oracle (m + d)))

      go : (i ≡ d) ⊎ (i ≡ d → ⊥)
          → (i < d → work_there r oracle (m + i) ≡ Some work → 0 < length (works_from r oracle m d))
          → 0 < length (works_from r oracle m d ++ option_to_list (work_there r oracle (m + d)))
      go (inl s) more =
          let one : length (option_to_list (work_there r oracle (m + d))) ≡ 1 =
          ap (λ j. length (option_to_list (work_there r oracle (m + j)))) (sym s)
          ∙ ap (λ o. length (option_to_list o)) e in
          omega (arith, one, added)
      go (inr s) more = omega (arith, more (omega (arith, l, s)) e, added)

  none_there : (m d : ℕ) → works_from r oracle m d ≡ [] → (n : ℕ) → m ≤ n → n < m + d
      → work_there r oracle n ≡ None
  none_there m d e n a b = go (work_there r oracle n) refl
    where
      go : (o : Option Work) → work_there r oracle n ≡ o → o ≡ None
      go None f = refl
      go (Some work) f =
          let at : m + (n - m) ≡ n = omega (arith, a) in
          absurd
          (omega (
            arith,
            some_work m d (n - m) work (omega (arith, a, b))
                (ap (work_there r oracle) at ∙ f),
            ap length e,
          ))

  -- a place with this work, and none before it
  pub record IsFirst (m n : ℕ) (work : Work) : Type 0 where
    pub from : m ≤ n
    pub is : work_there r oracle n ≡ Some work
    pub none : (i : ℕ) → m ≤ i → i < n → work_there r oracle i ≡ None

  pub first_there : (m d : ℕ) (work : Work) (works : List Work)
      → works_from r oracle m d ≡ work ∷ works → (n : ℕ) × (n < m + d) × IsFirst m n work
  first_there m zero work works e = absurd cc
  first_there m (suc d) work works e = go (works_from r oracle m d) refl (first_there m d)
    where
      one : (o : Option Work) → option_to_list o ≡ work ∷ works → o ≡ Some work
      one None f = absurd cc
      one (Some x) f = ap Some (heads x work [] works f)
        where
          heads : (x y : Work) (xs ys : List Work) → x ∷ xs ≡ y ∷ ys → x ≡ y
          heads x y xs ys f = cc

      go : (xs : List Work) → works_from r oracle m d ≡ xs
          → ((w : Work) (ws : List Work) → works_from r oracle m d ≡ w ∷ ws
          → (n : ℕ) × (n < m + d) × IsFirst m n w) → (n : ℕ) × (n < m + suc d) × IsFirst m n work
      go [] f more = (
        m + d,
        omega arith,
        record {
          from = omega arith;
          is = one (work_there r oracle (m + d))
              (ap (λ xs. xs ++ option_to_list (work_there r oracle (m + d))) (sym f) ∙ e);
          none = λ i a b. none_there m d f i a b;
        },
      )
      go (x ∷ xs) f more =
          let h : x ≡ work = heads x work (xs ++ option_to_list (work_there r oracle (m + d))) works
          (ap (λ ys. ys ++ option_to_list (work_there r oracle (m + d))) (sym f) ∙ e) in
          let u = more x xs f in
          (u.0, (let b = u.1 in omega (arith, b)), subst (IsFirst m u.0) h u.2)
        where
          heads : (x y : Work) (xs ys : List Work) → x ∷ xs ≡ y ∷ ys → x ≡ y
          heads x y xs ys f = cc

  clash : (o : Option Work) (work : Work) → o ≡ None → o ≡ Some work → ⊥
  clash o work e f = none (sym e ∙ f)
    where
      none : None ≡ Some work → ⊥
      none g = cc

  pub one_first : (m n k : ℕ) (x y : Work) → IsFirst m n x → IsFirst m k y → n ≡ k
  one_first m n k x y a b = go (cases_order n k)
    where
      go : (n ≡ k) ⊎ ((n < k) ⊎ (k < n)) → n ≡ k
      go (inl e) = e
      go (inr (inl l)) = absurd (clash (work_there r oracle n) x (b.none n a.from l) a.is)
      go (inr (inr l)) = absurd (clash (work_there r oracle k) y (a.none k b.from l) b.is)
