-- The queues while all parts post, and while all take.
use Rattle.std.proofs.Common.{◌≡◌, ℕ, zero, suc, map, ◌+◌, ◌<◌, ◌≤◌, Bool, true, false, IsTrue, ◌==◌, List, [], length, drop, arith, refl, sym, ap, ◌∙◌, subst, ℤ, ◌⊎◌, inl, inr, append-nil, eq-eqb}
use Rattle.std.specs.Prelude.{if◌then◌else◌, slice_index_or, replicate, nat_lt, ◌&&◌, ◌*◌}
use Rattle.std.proofs.lemmas.Bool.{cases_eq, ne_eqb}
use Rattle.cx_grid.specs.declared.shapes.Side.{Side}
use Rattle.cx_cut.specs.Cuts.{Parts, IsWhole, part_count}
use Rattle.cx_wire.specs.declared.mail.Mail.{Mail}
use Rattle.cx_wire.specs.Messages.{sent}
use Rattle.cx_wire.specs.Memory.{new_wire}
use Rattle.cx_ghost.specs.Posts.{posted_faces, Adds}
use Rattle.cx_ghost.specs.Takes.{needed, BeginsWith, IsReady, TakesNeeded}
use Rattle.cx_ghost.proofs.RoundLaws.{posts_are_needed}
use Rattle.core_tests.specs.Parts.{cell, Told, told_queue, HoldsFaces, Holds, EmptyTo, EmptyFrom}

-- while part k posts
pub posted : (c : Parts) (d k : ℕ) (values : Side → IsTrue true → List ℤ)
    (old new : ℕ → ℕ → List Told) → k < part_count c → Holds c d old → EmptyFrom c k old
    → Adds k (posted_faces c k d cell 0 values) old new → Holds c d new
posted c d k values old new hk holds empty adds a b hb = go (cases_eq a k)
  where
    go : (a ≡ k) ⊎ (a ≡ k → ⊥) → HoldsFaces c d a b (new a b)
    go (inl e) =
        let here : (a == k) ≡ true = eq-eqb a k e in
        let none = empty a b hb (omega (arith, e)) in
        let added = adds a b in
        let is = rw (here, none) at added in
        inr (
          subst (λ i. i < part_count c) (sym e) hk,
          values,
          is ∙ ap (λ i. posted_faces c i d cell 0 values b) (sym e),
        )
    go (inr m) =
        let off : (a == k) ≡ false = ne_eqb a k m in
        let added = adds a b in
        let same = rw off at added in
        subst (λ q. HoldsFaces c d a b q) (sym (same ∙ append-nil (old a b))) (holds a b hb)

pub behind_posted : (c : Parts) (k : ℕ) (sent : ℕ → List Told) (old new : ℕ → ℕ → List Told)
    → EmptyFrom c k old → Adds k sent old new → EmptyFrom c (k + 1) new
behind_posted c k sent old new empty adds a b hb l =
    let off : (a == k) ≡ false = ne_eqb a k (λ e. omega (arith, l, e)) in
    let added = adds a b in
    let same = rw off at added in
    same ∙ append-nil (old a b) ∙ empty a b hb (omega (arith, l))

pub empty_more : (c : Parts) (n m : ℕ) (q : ℕ → ℕ → List Told) → n ≤ m → EmptyFrom c n q
    → EmptyFrom c m q
empty_more c n m q l empty a b hb h = empty a b hb (omega (arith, l, h))

pub empty_holds : (c : Parts) (d : ℕ) (q : ℕ → ℕ → List Told) → EmptyFrom c 0 q → Holds c d q
empty_holds c d q empty a b hb = inl (empty a b hb (omega arith))

-- part k may take
pub ready : (c : Parts) → IsWhole c → (d k : ℕ) → d < c.shape.dims → k < part_count c
    → (q : ℕ → ℕ → List Told) → Holds c d q → IsReady c k d cell q
ready c w d k hd hk q holds a = go (holds a k hk)
  where
    go : HoldsFaces c d a k (q a k) → (q a k ≡ []) ⊎ BeginsWith c a d cell (needed c k d a) (q a k)
    go (inl e) = inl e
    go (inr (ha, values, e)) =
        let meets = posts_are_needed c w d hd a k ha hk cell 0 values [] in
        inr (subst (λ xs. BeginsWith c a d cell (needed c k d a) xs) (append-nil _ ∙ sym e)
        meets.begins)

abbrev nothing : List Told
nothing = []

drop_none : (n : ℕ) → drop n nothing ≡ nothing
drop_none zero = refl
drop_none (suc n) = refl

pub taken : (c : Parts) → IsWhole c → (d k : ℕ) → d < c.shape.dims → k < part_count c
    → (old new : ℕ → ℕ → List Told) → Holds c d old → EmptyTo c k old → TakesNeeded c k d old new
    → EmptyTo c (k + 1) new
taken c w d k hd hk old new holds empty takes a b hb l = go (cases_eq b k)
  where
    gone : HoldsFaces c d a k (old a k) → drop (length (needed c k d a)) (old a k) ≡ []
    gone (inl e) = ap (λ xs. drop (length (needed c k d a)) xs) e
        ∙ drop_none (length (needed c k d a))
    gone (inr (ha, values, e)) =
        let meets = posts_are_needed c w d hd a k ha hk cell 0 values [] in
        ap (λ xs. drop (length (needed c k d a)) xs) (e ∙ sym (append-nil _)) ∙ meets.leaves

    go : (b ≡ k) ⊎ (b ≡ k → ⊥) → new a b ≡ []
    go (inl e) =
        let here : (b == k) ≡ true = eq-eqb b k e in
        let t = takes a b in
        let is = rw (here, e) at t in
        ap (λ i. new a i) e ∙ is ∙ gone (holds a k hk)
    go (inr m) =
        let off : (b == k) ≡ false = ne_eqb b k m in
        let t = takes a b in
        let same = rw off at t in
        same ∙ empty a b hb (omega (arith, l, m))

pub still_holds : (c : Parts) (d k : ℕ) (old new : ℕ → ℕ → List Told) → Holds c d old
    → EmptyTo c (k + 1) new → TakesNeeded c k d old new → Holds c d new
still_holds c d k old new holds empty takes a b hb = go (cases_eq b k)
  where
    go : (b ≡ k) ⊎ (b ≡ k → ⊥) → HoldsFaces c d a b (new a b)
    go (inl e) = inl (empty a b hb (omega (arith, e)))
    go (inr m) =
        let off : (b == k) ≡ false = ne_eqb b k m in
        let t = takes a b in
        let same = rw off at t in
        subst (λ q. HoldsFaces c d a b q) (sym same) (holds a b hb)

-- ---- the start, and the next direction

abbrev no_mail : List Mail
no_mail = []

blank : (m i : ℕ) → slice_index_or (replicate m no_mail) i [] ≡ no_mail
blank zero zero = refl
blank zero (suc i) = refl
blank (suc m) zero = refl
blank (suc m) (suc i) = blank m i

pub empty_wire : (c : Parts) (n : ℕ) → EmptyFrom c 0 (told_queue (new_wire n))
empty_wire c n a b hb l = go (nat_lt a n && nat_lt b n)
  where
    go : (v : Bool) → map sent
        (if v then slice_index_or (replicate (n * n) no_mail) (a * n + b) [] else []) ≡ nothing
    go true = ap (λ xs. map sent xs) (blank (n * n) (a * n + b))
    go false = refl

pub all_empty : (c : Parts) (q : ℕ → ℕ → List Told) → EmptyTo c (part_count c) q → EmptyFrom c 0 q
all_empty c q empty a b hb l = empty a b hb hb
