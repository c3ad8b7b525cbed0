-- The next group of a name.
use Rattle.std.proofs.Common.{◌≡◌, refl, sym, ◌∙◌, ap, ℕ, zero, suc, ◌+◌, ◌-◌, ◌<◌, ◌≤◌, Bool, true, false, cond, List, [], ◌∷◌, length, drop, get_or, slice_get, Option, Some, None, arith, true≢false}
use Rattle.std.proofs.lemmas.Option.{slice_get_read}
use Rattle.std.specs.List.{position_from}

module _ {X : Type 0} where
  tail_of : (all : List X) (k : ℕ) (x : X) (xs : List X) → drop k all ≡ x ∷ xs
      → drop (k + 1) all ≡ xs
  tail_of [] zero x xs e = absurd cc
  tail_of (y ∷ ys) zero x xs e = cc
  tail_of [] (suc k) x xs e = absurd cc
  tail_of (y ∷ ys) (suc k) x xs e =
      let next : suc k + 1 ≡ suc (k + 1) = omega arith in
      ap (λ i. drop i (y ∷ ys)) next ∙ tail_of ys k x xs e

  within_of : (all : List X) (k : ℕ) (x : X) (xs : List X) → drop k all ≡ x ∷ xs → k < length all
  within_of [] zero x xs e = absurd cc
  within_of (y ∷ ys) zero x xs e = omega arith
  within_of [] (suc k) x xs e = absurd cc
  within_of (y ∷ ys) (suc k) x xs e = let less = within_of ys k x xs e in omega (arith, less)

  read_of : (all : List X) (k : ℕ) (x : X) (xs : List X) → drop k all ≡ x ∷ xs → x ≡ get_or all k x
  read_of [] zero x xs e = absurd cc
  read_of (y ∷ ys) zero x xs e = cc
  read_of [] (suc k) x xs e = absurd cc
  read_of (y ∷ ys) (suc k) x xs e = read_of ys k x xs e

  got_of : (all : List X) (k : ℕ) (x : X) (xs : List X) → drop k all ≡ x ∷ xs
      → slice_get all k ≡ Some x
  got_of all k x xs e = slice_get_read all (length all) k x refl (within_of all k x xs e)
      (read_of all k x xs e)

module _ {X : Type 0} (p n : X → Bool) (fits : (x : X) → p x ≡ true → n x ≡ true) where
  -- the first that passes, from a place on
  abbrev pub from_place : List X → Option ℕ → Option ℕ
  from_place all None = None
  from_place all (Some k) = position_from p k (drop k all)

  no_pass : (b c : Bool) (x : X) → n x ≡ b → b ≡ false → p x ≡ c → c ≡ false
  no_pass b true x e h q = absurd (true≢false (sym (fits x q) ∙ e ∙ h))
  no_pass b false x e h q = refl

  one : (b : Bool) (xs : List X) (k : ℕ) (x : X) (all : List X) → n x ≡ b → drop k all ≡ x ∷ xs
      → position_from p (k + 1) xs ≡ from_place all (position_from n (k + 1) xs)
      → position_from p k (x ∷ xs) ≡ from_place all (cond b (Some k) (position_from n (k + 1) xs))
  one true xs k x all e at rest = ap (λ l. position_from p k l) (sym at)
  one false xs k x all e at rest =
      ap (λ b. cond b (Some k) (position_from p (k + 1) xs)) (no_pass false (p x) x e refl refl)
      ∙ rest

  -- none before the next that has the name passes
  pub skipped : (xs : List X) (k : ℕ) (all : List X) → drop k all ≡ xs
      → position_from p k xs ≡ from_place all (position_from n k xs)
  skipped [] k all at = refl
  skipped (x ∷ xs) k all at =
      one (n x) xs k x all refl at (skipped xs (k + 1) all (tail_of all k x xs at))

module _ {X : Type 0} (n : X → Bool) where
  pub record FoundAt (all : List X) (from k : ℕ) : Type 0 where
    pub element : X
    pub rest : List X
    pub at : drop k all ≡ element ∷ rest
    pub has : n element ≡ true
    pub behind : from ≤ k

  here : (b : Bool) (xs : List X) (j k : ℕ) (x : X) (all : List X) → n x ≡ b → drop j all ≡ x ∷ xs
      → (position_from n (j + 1) xs ≡ Some k → FoundAt all (j + 1) k)
      → cond b (Some j) (position_from n (j + 1) xs) ≡ Some k → FoundAt all j k
  here true xs j k x all e at later h =
      let same : j ≡ k = cc in
      record {
        element = x;
        rest = xs;
        at = ap (λ i. drop i all) (sym same) ∙ at;
        has = e;
        behind = omega (arith, same);
      }
  here false xs j k x all e at later h =
      let found = later h in
      record {
        element = found.element;
        rest = found.rest;
        at = found.at;
        has = found.has;
        behind = (let low = found.behind in omega (arith, low));
      }

  pub placed : (xs : List X) (j k : ℕ) (all : List X) → drop j all ≡ xs
      → position_from n j xs ≡ Some k → FoundAt all j k
  placed [] j k all at h = absurd cc
  placed (x ∷ xs) j k all at h =
      here (n x) xs j k x all refl at (placed xs (j + 1) k all (tail_of all j x xs at)) h

  abbrev pub left : List X → Option ℕ → ℕ
  left all None = 0
  left all (Some k) = length all - k

  less : (all : List X) (k : ℕ) (next : Option ℕ) → k < length all
      → position_from n (k + 1) (drop (k + 1) all) ≡ next → left all next < left all (Some k)
  less all k None within e = omega (arith, within)
  less all k (Some j) within e =
      let found = placed (drop (k + 1) all) (k + 1) j all refl e in
      let low = found.behind in
      omega (arith, within, low)

  -- the search is nearer to its end at the next place
  pub falls : (all : List X) (from k : ℕ) (next : Option ℕ)
      → position_from n from (drop from all) ≡ Some k
      → next ≡ position_from n (k + 1) (drop (k + 1) all) → left all next < left all (Some k)
  falls all from k next is after =
      let found = placed (drop from all) from k all refl is in
      less all k next (within_of all k found.element found.rest found.at) (sym after)

module _ {X : Type 0} (p n : X → Bool) where
  -- Where a search stands: at the first of the name from a place on, before which none passes.
  pub record Ahead (all : List X) (next : Option ℕ) : Type 0 where
    pub from : ℕ
    pub is : position_from n from (drop from all) ≡ next
    pub same : position_from p from (drop from all) ≡ position_from p 0 all

  pub begins : (all : List X) (next : Option ℕ) → next ≡ position_from n 0 all → Ahead all next
  begins all next e = record { from = 0; is = sym e; same = refl }

module _ {X : Type 0} (p n : X → Bool) (fits : (x : X) → p x ≡ true → n x ≡ true) where
  pub ends : (all : List X) → Ahead p n all None → None ≡ position_from p 0 all
  ends all a = ap (λ o. from_place p n fits all o) (sym a.is)
      ∙ sym (skipped p n fits (drop a.from all) a.from all refl) ∙ a.same

  stands : (all : List X) (k : ℕ) (a : Ahead p n all (Some k))
      → position_from p k (drop k all) ≡ position_from p 0 all
  stands all k a = ap (λ o. from_place p n fits all o) (sym a.is)
      ∙ sym (skipped p n fits (drop a.from all) a.from all refl) ∙ a.same

  passes_at : (all : List X) (k : ℕ) (x : X) (xs : List X) → drop k all ≡ x ∷ xs → p x ≡ true
      → Some k ≡ position_from p k (drop k all)
  passes_at all k x xs at h =
      ap (λ b. cond b (Some k) (position_from p (k + 1) xs)) (sym h)
      ∙ ap (λ l. position_from p k l) (sym at)

  fails_at : (all : List X) (k : ℕ) (x : X) (xs : List X) → drop k all ≡ x ∷ xs → p x ≡ false
      → position_from p (k + 1) (drop (k + 1) all) ≡ position_from p k (drop k all)
  fails_at all k x xs at h =
      ap (λ l. position_from p (k + 1) l) (tail_of all k x xs at)
      ∙ ap (λ b. cond b (Some k) (position_from p (k + 1) xs)) (sym h)
      ∙ ap (λ l. position_from p k l) (sym at)

  pub meets : (all : List X) (k : ℕ) → (a : Ahead p n all (Some k))
      → ((x : X) → slice_get all k ≡ Some x → p x ≡ true) → Some k ≡ position_from p 0 all
  meets all k a hit =
      let found = placed n (drop a.from all) a.from k all refl a.is in
      passes_at all k found.element found.rest found.at
      (hit found.element (got_of all k found.element found.rest found.at)) ∙ stands all k a

  pub goes_on : (all : List X) (k : ℕ) (next : Option ℕ) → (a : Ahead p n all (Some k))
      → ((x : X) → slice_get all k ≡ Some x → p x ≡ false)
      → ((x : X) → slice_get all k ≡ Some x → n x ≡ true
      → next ≡ position_from n (k + 1) (drop (k + 1) all)) → Ahead p n all next
  goes_on all k next a miss after =
      let found = placed n (drop a.from all) a.from k all refl a.is in
      let got = got_of all k found.element found.rest found.at in
      record {
        from = k + 1;
        is = sym (after found.element got found.has);
        same = fails_at all k found.element found.rest found.at (miss found.element got)
            ∙ stands all k a;
      }

  pub nearer : (all : List X) (k : ℕ) (next : Option ℕ) → (a : Ahead p n all (Some k))
      → ((x : X) → slice_get all k ≡ Some x → n x ≡ true
      → next ≡ position_from n (k + 1) (drop (k + 1) all)) → left n all next < left n all (Some k)
  nearer all k next a after =
      let found = placed n (drop a.from all) a.from k all refl a.is in
      falls n all a.from k next a.is
      (after found.element (got_of all k found.element found.rest found.at) found.has)
