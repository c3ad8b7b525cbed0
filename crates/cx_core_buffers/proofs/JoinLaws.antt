-- Numbers of one reduction joined, one after another.
use Rattle.std.proofs.Common.{◌≡◌, ℕ, zero, suc, ◌+◌, ◌<◌, ◌≤◌, ◌^◌, arith, refl, sym, ap, ◌∙◌, ℤ, ◌+ℤ◌, List, [], ◌∷◌, ◌++◌, length, map, take, drop, fold}
use Rattle.std.specs.Prelude.{slice_index_or}
use Rattle.std.specs.Int.{int_min, int_max}
use Rattle.std.proofs.lemmas.List.{get_or-map, get_or-take, get_or-drop, length-map, take_more}
use Rattle.cx_plan.specs.declared.item.ItemKind.{ItemKind}
use Rattle.cx_plan.specs.declared.item.ItemKind.TheVariants.{Cell, Scalar, Sum, Least, Greatest, Count}
use Rattle.law_parts.specs.Holding.{joined}
use Rattle.cx_reduce.specs.Partials.{Reduced, IsReduction, joined_by}
use Rattle.cx_reduce.specs.Partials as partials
use Rattle.law_parts.specs.Moves.{Message, Channel, Board, given_number, all_given}
use Rattle.cx_core_buffers.specs.Boards.{Given, front, fronts, no_number, numbers_at, points_of, number_of, kind_of, AreOne, all_joined}

fold_behind : (f : ℤ → ℤ → ℤ) (a : ℤ) (ns : List ℤ) (n : ℤ)
    → fold f a (ns ++ n ∷ []) ≡ f (fold f a ns) n
fold_behind f a [] n = refl
fold_behind f a (m ∷ ns) n = fold_behind f (f a m) ns n

-- one more number
joined_more : (kind : ItemKind) (ns : List ℤ) (n : ℤ) → IsReduction kind → 0 < length ns
    → joined_by kind (joined kind ns) n ≡ joined kind (ns ++ n ∷ [])
joined_more kind [] n r some = absurd (omega (arith, some))
joined_more Sum (m ∷ ns) n r some = sym (fold_behind (λ a b. a +ℤ b) m ns n)
joined_more Count (m ∷ ns) n r some = sym (fold_behind (λ a b. a +ℤ b) m ns n)
joined_more Least (m ∷ ns) n r some = sym (fold_behind int_min m ns n)
joined_more Greatest (m ∷ ns) n r some = sym (fold_behind int_max m ns n)
joined_more Cell (m ∷ ns) n r some = absurd r
joined_more Scalar (m ∷ ns) n r some = absurd r

joined_one : (kind : ItemKind) (n : ℤ) → IsReduction kind → joined kind (n ∷ []) ≡ n
joined_one Sum n r = refl
joined_one Count n r = refl
joined_one Least n r = refl
joined_one Greatest n r = refl
joined_one Cell n r = absurd r
joined_one Scalar n r = absurd r

points_more : (rs : List Reduced) (r : Reduced) → points_of (rs ++ r ∷ []) ≡ points_of rs + r.points
points_more [] r = omega arith
points_more (x ∷ rs) r = let e = points_more rs r in omega (arith, e)

pub points_front : (n : ℕ) (rs : List Reduced) → points_of (take n rs) ≤ points_of rs
points_front zero [] = omega arith
points_front zero (x ∷ rs) = omega arith
points_front (suc n) [] = omega arith
points_front (suc n) (x ∷ rs) = let e = points_front n rs in omega (arith, e)

numbers_more : (rs : List Reduced) (r : Reduced)
    → map number_of (rs ++ r ∷ []) ≡ map number_of rs ++ r.number ∷ []
numbers_more [] r = refl
numbers_more (x ∷ rs) r = ap (λ ns. x.number ∷ ns) (numbers_more rs r)

same : {a b : ItemKind} {m n : ℕ} {x y : ℤ} → a ≡ b → m ≡ n → x ≡ y
    → ◌≡◌ {A = Reduced} record { kind = a; points = m; number = x }
    record { kind = b; points = n; number = y }
same p q r i = record { kind = p i; points = q i; number = r i }

some_front : (n : ℕ) (rs : List Reduced) → 1 ≤ n → 0 < length rs → 0 < length (take n rs)
some_front zero rs h l = absurd (omega (arith, h))
some_front (suc n) [] h l = absurd (omega (arith, l))
some_front (suc n) (x ∷ rs) h l = omega arith

module _ (rs : List Reduced) (one : AreOne rs) where
  kind_front : (n : ℕ) → 1 ≤ n → kind_of (take n rs) ≡ kind_of rs
  kind_front n h = ap (λ (r : Reduced). r.kind) (get_or-take n rs 0 no_number (omega (arith, h)))

  -- the first number alone
  pub first_joined : slice_index_or rs 0 no_number ≡ all_joined (take 1 rs)
  first_joined = go rs one.some one.reduction
    where
      go : (xs : List Reduced) → 0 < length xs → IsReduction (kind_of xs)
          → slice_index_or xs 0 no_number ≡ all_joined (take 1 xs)
      go [] some r = absurd (omega (arith, some))
      go (x ∷ []) some r = same refl (omega arith) (sym (joined_one x.kind x.number r))
      go (x ∷ y ∷ xs) some r = same refl (omega arith) (sym (joined_one x.kind x.number r))

  -- one more
  pub more_joined : (n : ℕ) → 1 ≤ n → n < length rs
      → partials.joined (all_joined (take n rs)) (slice_index_or rs n no_number)
      ≡ all_joined (take (n + 1) rs)
  more_joined n h l =
      let r = slice_index_or rs n no_number in
      let e = take_more rs n no_number l in
      let k = kind_front n h in
      let k2 = kind_front (n + 1) (omega (arith, h)) in
      same (k ∙ sym k2)
      (sym (ap points_of e ∙ points_more (take n rs) r))
      (ap (λ q. joined_by q (joined q (map number_of (take n rs))) r.number) k
      ∙ joined_more (kind_of rs) (map number_of (take n rs)) r.number one.reduction
      (let m = length-map (take n rs) number_of in let s = some_front n rs h one.some in
      omega (arith, m, s))
      ∙ ap (joined (kind_of rs)) (sym (ap (map number_of) e ∙ numbers_more (take n rs) r))
      ∙ ap (λ q. joined q (map number_of (take (n + 1) rs))) (sym k2))

  pub front_kind : (n : ℕ) → 1 ≤ n → n < length rs
      → (slice_index_or rs n no_number).kind ≡ (all_joined (take n rs)).kind
  front_kind n h l = one.kinds n no_number l ∙ sym (kind_front n h)

  pub front_points : (n : ℕ) → 1 ≤ n → n < length rs
      → (all_joined (take n rs)).points + (slice_index_or rs n no_number).points ≤ 2 ^ 24
  front_points n h l =
      let r = slice_index_or rs n no_number in
      let e = ap points_of (take_more rs n no_number l) ∙ points_more (take n rs) r in
      let f = points_front (n + 1) rs in
      let few = one.few in
      omega (arith, e, f, few)

  pub last_joined : (n : ℕ) → length rs ≤ n → all_joined (take n rs) ≡ all_joined rs
  last_joined n l = ap all_joined (whole n rs l)
    where
      whole : (n : ℕ) (xs : List Reduced) → length xs ≤ n → take n xs ≡ xs
      whole zero [] l = refl
      whole zero (x ∷ xs) l = absurd (omega (arith, l))
      whole (suc n) [] l = refl
      whole (suc n) (x ∷ xs) l = ap (λ zs. x ∷ zs) (whole n xs (omega (arith, l)))

-- how many there are
pub numbers_many : (place : ℕ) (given : List (List Reduced))
    → length (numbers_at place given) ≡ length given
numbers_many place given = length-map given (λ row. slice_index_or (drop place row) 0 no_number)

pub number_is : (place : ℕ) (given : List (List Reduced)) (part : ℕ) → part < length given
    → slice_index_or (numbers_at place given) part no_number
    ≡ slice_index_or (slice_index_or given part []) place no_number
number_is place given part l =
    let z : place + 0 ≡ place = omega arith in
    get_or-map (λ row. slice_index_or (drop place row) 0 no_number) given part [] no_number l
    ∙ get_or-drop place (slice_index_or given part []) 0 no_number
    ∙ ap (λ k. slice_index_or (slice_index_or given part []) k no_number) z

-- ---- as messages of boards

take_none : {A : Type 0} (xs : List A) → take 0 xs ≡ []
take_none [] = refl
take_none (x ∷ xs) = refl

-- the numbers of all parts for a reduction are those at the front, where the boards' messages say
-- so
module _ {tells : Type 0} (b : Given) (k : ℕ) (mails : Channel → List (Message tells))
    (shown : (a : ℕ) → a < length b.given → given_number (mails (Board a k)) ≡ (front b a k).number)
  where
    some_given : (n : ℕ) → n ≤ length b.given
        → all_given k mails n ≡ map number_of (take n (fronts b k))
    some_given zero h = sym (ap (map number_of) (take_none (fronts b k)))
    some_given (suc n) h =
        let l : n < length b.given = omega (arith, h) in
        let m : n < length (fronts b k) = let c =
        numbers_many (slice_index_or b.taken k 0) b.given in
        omega (arith, c, l) in
        let e : suc n ≡ n + 1 = omega arith in
        ap (λ ns. ns ++ given_number (mails (Board n k)) ∷ []) (some_given n (omega (arith, h)))
        ∙ ap (λ i. map number_of (take n (fronts b k)) ++ i ∷ [])
        (shown n l
        ∙ sym
        (ap number_of (get_or-map
        (λ row. slice_index_or (drop (slice_index_or b.taken k 0) row) 0 no_number) b.given n []
        no_number l)))
        ∙ sym (numbers_more (take n (fronts b k)) (slice_index_or (fronts b k) n no_number))
        ∙ ap (map number_of) (sym (take_more (fronts b k) n no_number m)
        ∙ ap (λ i. take i (fronts b k)) (sym e))

    pub fronts_given : all_given k mails (length b.given) ≡ map number_of (fronts b k)
    fronts_given =
        some_given (length b.given) (omega arith)
        ∙ ap (map number_of) (whole (length b.given) (fronts b k)
        (let c = numbers_many (slice_index_or b.taken k 0) b.given in omega (arith, c)))
      where
        whole : (n : ℕ) (xs : List Reduced) → length xs ≤ n → take n xs ≡ xs
        whole zero [] l = refl
        whole zero (x ∷ xs) l = absurd (omega (arith, l))
        whole (suc n) [] l = refl
        whole (suc n) (x ∷ xs) l = ap (λ zs. x ∷ zs) (whole n xs (omega (arith, l)))
