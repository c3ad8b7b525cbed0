-- Pieces: what a part hands in stands in the writer's buffers, and what stands there stays.
use Rattle.std.proofs.Common.{◌≡◌, ℕ, zero, suc, ◌+◌, ◌-◌, ◌<◌, ◌≤◌, ◌⊎◌, inl, inr, Bool, true, false, not, ◌&&◌, ◌||◌, List, [], ◌∷◌, ◌++◌, length, cond, ltb, take, Some, refl, sym, ap, ◌∙◌, subst, arith, append_assoc, append-nil, length-append, lt-ltb, le-ltb}
use Rattle.std.specs.List.{AllZip, list_any}
use Rattle.std.specs.Option.{option_to_list}
use Rattle.std.proofs.lemmas.Bool.{cases_lt, cases_eq, and_parts}
use Rattle.std.proofs.lemmas.List.{append_cancel_left, take-append-le}
use Rattle.std.proofs.Math.Seq.{take-append-add, take-length}
use Rattle.law_network.proofs.Put.{put_same, put_other}
use Rattle.cx_wire.specs.Messages.{Sent as SentMail}
use Rattle.law_parts.specs.Moves.{Message}
use Rattle.law_parts.specs.Runs.{Run, Oracle, parts_in, next_op}
use Rattle.cx_core_events.specs.declared.standing.Work.{Work}
use Rattle.cx_core_events.specs.Paces.{part_of, op_of}
use Rattle.cx_core_events.specs.Events.{work_of, same_buffer, is_room, has_room, goes_on, is_near, is_ready}
use Rattle.cx_core_events.specs.Steps.{works_after, handed_after}
use Rattle.cx_core_events.specs.Shows.{works_before, work_there}
use Rattle.cx_core.specs.Cores.{Cores}
use Rattle.cx_core.specs.Shows.{HoldsWork}
use Rattle.cx_core.specs.Steps.{Counts}
use Rattle.cx_core.proofs.ZipLaws.{zip_append, zip_into}
use Rattle.cx_core.proofs.MovedStates.{Ready, world, oracle, its, next, network}
use Rattle.cx_core.proofs.QuietMoves.{moved_pace, handed_its, handed_other, works_are, work_is, pieces_after}

-- ---- lists

-- one by one, but for those of which something holds
pub zip_but : {A B : Type 0} (R S : A → B → Type 0) (f : A → Bool)
    → ((x : A) (y : B) → f x ≡ false → R x y → S x y)
    → (xs : List A) (ys : List B) → list_any f xs ≡ false → AllZip R xs ys → AllZip S xs ys
zip_but R S f g [] [] n h = tt
zip_but R S f g [] (y ∷ ys) n h = absurd h
zip_but R S f g (x ∷ xs) [] n h = absurd h
zip_but R S f g (x ∷ xs) (y ∷ ys) n h =
    let both = or_false (f x) (list_any f xs) n in
    (g x y both.0 h.0, zip_but R S f g xs ys both.1 h.1)
  where
    or_false : (a b : Bool) → (a || b) ≡ false → (a ≡ false) × (b ≡ false)
    or_false true b e = absurd cc
    or_false false b e = (refl, e)

-- what stands behind the first h of the second list
take_more : {A : Type 0} (xs ys ps ms : List A) (x : A) (h : ℕ) → xs ++ ys ≡ (ps ++ x ∷ []) ++ ms
    → length ps ≡ length xs + h → take (suc h) ys ≡ take h ys ++ x ∷ []
take_more xs ys ps ms x h e l =
    append_cancel_left xs (take (suc h) ys) (take h ys ++ x ∷ [])
    (sym (take-append-add xs ys (suc h)) ∙ ap (take (length xs + suc h)) e
    ∙ ap (λ n. take n ((ps ++ x ∷ []) ++ ms)) count ∙ front (ps ++ x ∷ []) ms
    ∙ ap (λ zs. zs ++ x ∷ []) (first ∙ ap (λ n. take n (xs ++ ys)) l ∙ take-append-add xs ys h)
    ∙ append_assoc xs (take h ys) (x ∷ []))
  where
    front : {A : Type 0} (us vs : List A) → take (length us) (us ++ vs) ≡ us
    front us vs = take-append-le (length us) us vs (omega arith) ∙ take-length us

    count : length xs + suc h ≡ length (ps ++ x ∷ [])
    count = let n = length-append ps (x ∷ []) in omega (arith, n, l)

    first : ps ≡ take (length ps) (xs ++ ys)
    first = sym (ap (take (length ps)) (e ∙ append_assoc ps (x ∷ []) ms)
        ∙ front ps ((x ∷ []) ++ ms))

works_upto : (r : Run) (o : Oracle) (m d : ℕ)
    → (more : List Work) × (works_before r o (m + d) ≡ works_before r o m ++ more)
works_upto r o m zero = let e : m + 0 ≡ m = omega arith in
    ([], ap (works_before r o) e ∙ sym (append-nil (works_before r o m)))
works_upto r o m (suc d) =
    let before = works_upto r o m d in
    let e : m + suc d ≡ suc (m + d) = omega arith in (
      before.0 ++ option_to_list (work_there r o (m + d)),
      ap (works_before r o) e ∙ ap (λ ws. ws ++ option_to_list (work_there r o (m + d))) before.1
          ∙ append_assoc (works_before r o m) before.0 (option_to_list (work_there r o (m + d))),
    )

works_from : (r : Run) (o : Oracle) (m n : ℕ) → m ≤ n
    → (more : List Work) × (works_before r o n ≡ works_before r o m ++ more)
works_from r o m n l =
    let w = works_upto r o m (n - m) in
    let e : m + (n - m) ≡ n = omega arith in
    (w.0, ap (works_before r o) (sym e) ∙ w.1)

no_less : (a b : ℕ) → a < b → b ≤ a → ⊥
no_less a b l m = omega (arith, l, m)

module _ {tells : Type 0} {r : Run} {first : Counts} {old : Cores}
    {queue : ℕ → ℕ → List (SentMail tells)} {now : Counts} {k : ℕ}
    (s : Ready tells r first old queue now k)
    (work : Work) (its_work : work_of (next s) (its s).control.iteration ≡ Some work) where
  -- ---- the works that each part has handed in

  handed_few : (j : ℕ) → j < parts_in r → (part_of old.pace j).handed ≤ length old.pace.works
  handed_few j l =
      let p = s.at.shows.pace in
      let upto = works_from r (oracle s) ((world s).place j) ((world s).place p.foremost)
      (p.behind j l) in
      let a = p.handed j l in
      let b = ap length p.works in
      let c = ap length upto.1 in
      let d = length-append (works_before r (oracle s) ((world s).place j)) upto.0 in
      let e = length-append (works_before r (oracle s) (world s).wrote) old.pace.works in
      omega (arith, a, b, c, d, e)

  work_at : work_there r (oracle s) ((world s).place k) ≡ Some work
  work_at = ap (λ c. work_of (next_op r c) c.iteration)
      (sym (s.at.reached.woven.agrees k s.part).stands.control) ∙ its_work

  -- where others have handed it in already
  known : (part_of old.pace k).handed < length old.pace.works
      → take (suc (part_of old.pace k).handed) old.pace.works
      ≡ take (part_of old.pace k).handed old.pace.works ++ work ∷ []
  known l =
      let p = s.at.shows.pace in
      let n = (world s).place k in
      let upto = works_from r (oracle s) (suc n) ((world s).place p.foremost)
      (ahead (cases_lt n ((world s).place p.foremost))) in
      take_more (works_before r (oracle s) (world s).wrote) old.pace.works
      (works_before r (oracle s) n) upto.0 work (part_of old.pace k).handed
      (sym p.works ∙ upto.1 ∙ ap (λ o. (works_before r (oracle s) n ++ option_to_list o) ++ upto.0)
      work_at) (p.handed k s.part)
    where
      ahead : ((world s).place k < (world s).place s.at.shows.pace.foremost)
          ⊎ ((world s).place s.at.shows.pace.foremost ≤ (world s).place k)
          → suc ((world s).place k) ≤ (world s).place s.at.shows.pace.foremost
      ahead (inl h) = omega (arith, h)
      ahead (inr h) =
          let p = s.at.shows.pace in
          let upto = works_from r (oracle s) ((world s).place p.foremost) ((world s).place k) h in
          let a = p.handed k s.part in
          let b = ap length p.works in
          let c = ap length upto.1 in
          let d = length-append (works_before r (oracle s) ((world s).place p.foremost)) upto.0 in
          let e = length-append (works_before r (oracle s) (world s).wrote) old.pace.works in
          absurd (omega (arith, a, b, c, d, e, l))

  pub its_works : take (part_of (moved_pace s) k).handed (moved_pace s).works
      ≡ take (part_of old.pace k).handed old.pace.works ++ work ∷ []
  its_works =
      ap (λ n. take n (moved_pace s).works)
      (handed_its s
      ∙ ap (λ o. handed_after o (length old.pace.works) (part_of old.pace k).handed) its_work)
      ∙ ap (take (handed_after (Some work) (length old.pace.works) (part_of old.pace k).handed))
      (works_are s ∙ ap (λ o. works_after o old.pace.works (part_of old.pace k).handed)
      its_work)
      ∙ go (cases_lt (part_of old.pace k).handed (length old.pace.works))
    where
      go : ((part_of old.pace k).handed < length old.pace.works)
          ⊎ (length old.pace.works ≤ (part_of old.pace k).handed)
          → take (handed_after (Some work) (length old.pace.works) (part_of old.pace k).handed)
          (works_after (Some work) old.pace.works (part_of old.pace k).handed)
          ≡ take (part_of old.pace k).handed old.pace.works ++ work ∷ []
      go (inl l) =
          ap (λ b. take (cond b (suc (part_of old.pace k).handed) (suc (length old.pace.works)))
          (cond b old.pace.works (old.pace.works ++ work ∷ [])))
          (lt-ltb (part_of old.pace k).handed (length old.pace.works) l)
          ∙ known l
      go (inr l) =
          let few = handed_few k s.part in
          let e : (part_of old.pace k).handed ≡ length old.pace.works = omega (arith, few, l) in
          let n = length-append old.pace.works (work ∷ []) in
          let m : suc (length old.pace.works) ≡ length (old.pace.works ++ work ∷ []) =
          omega (arith, n) in
          ap (λ b. take (cond b (suc (part_of old.pace k).handed) (suc (length old.pace.works)))
          (cond b old.pace.works (old.pace.works ++ work ∷ [])))
          (le-ltb (part_of old.pace k).handed (length old.pace.works) l)
          ∙ ap (λ i. take i (old.pace.works ++ work ∷ [])) m
          ∙ take-length (old.pace.works ++ work ∷ [])
          ∙ ap (λ ws. ws ++ work ∷ [])
          (sym (take-length old.pace.works) ∙ ap (λ i. take i old.pace.works) (sym e))

  pub other_works : (j : ℕ) → j < parts_in r → (j ≡ k → ⊥)
      → take (part_of (moved_pace s) j).handed (moved_pace s).works
      ≡ take (part_of old.pace j).handed old.pace.works
  other_works j l n =
      ap (λ i. take i (moved_pace s).works) (handed_other s j n)
      ∙ ap (take (part_of old.pace j).handed)
      (works_are s ∙ ap (λ o. works_after o old.pace.works (part_of old.pace k).handed)
      its_work)
      ∙ go (ltb (part_of old.pace k).handed (length old.pace.works))
    where
      go : (b : Bool) → take (part_of old.pace j).handed
          (cond b old.pace.works (old.pace.works ++ work ∷ []))
          ≡ take (part_of old.pace j).handed old.pace.works
      go true = refl
      go false = take-append-le (part_of old.pace j).handed old.pace.works (work ∷ [])
          (handed_few j l)

  -- its own works that aren't written have other buffers
  pub no_other : list_any (λ (w : Work). same_buffer w.var work.var)
      (take (part_of old.pace k).handed old.pace.works) ≡ false
  no_other =
      not_true (list_any (λ (w : Work). same_buffer w.var work.var)
      (take (part_of old.pace k).handed old.pace.works))
      (subst (λ o. is_room o (take (part_of old.pace k).handed old.pace.works) ≡ true)
      (work_is s ∙ its_work)
      (and_parts (not old.pace.over && goes_on old.pace k && is_near old.pace k
      && is_ready old.pace k (op_of old.pace k)) (has_room old.pace k) s.goes).1)
    where
      not_true : (b : Bool) → not b ≡ true → b ≡ false
      not_true true e = absurd cc
      not_true false e = refl

  -- ---- what the buffers hold

  module _ (new : Cores) (pace : new.pace ≡ moved_pace s) (piece : Message tells)
      (hands : (network s).hands k (its s) ≡ piece ∷ [])
      (holds : HoldsWork r new.buffers k work piece)
      (stays : (j : ℕ) (other : Work) (m : Message tells) → j < parts_in r → (j ≡ k → ⊥)
      → HoldsWork r old.buffers j other m → HoldsWork r new.buffers j other m)
      (others : (other : Work) (m : Message tells) → same_buffer other.var work.var ≡ false
      → HoldsWork r old.buffers k other m → HoldsWork r new.buffers k other m) where
    pub pieces_put : (j : ℕ) → j < parts_in r
        → AllZip (HoldsWork r new.buffers j) (take (part_of new.pace j).handed new.pace.works)
        (pieces_after s j)
    pieces_put j l =
        subst (λ p. AllZip (HoldsWork r new.buffers j) (take (part_of p j).handed p.works)
        (pieces_after s j)) (sym pace) (go (cases_eq j k))
      where
        go : (j ≡ k) ⊎ (j ≡ k → ⊥)
            → AllZip (HoldsWork r new.buffers j)
            (take (part_of (moved_pace s) j).handed (moved_pace s).works) (pieces_after s j)
        go (inl e) =
            subst (λ i. AllZip (HoldsWork r new.buffers i)
            (take (part_of (moved_pace s) i).handed (moved_pace s).works) (pieces_after s i))
            (sym e)
            (subst (λ ws. AllZip (HoldsWork r new.buffers k) ws (pieces_after s k)) (sym its_works)
            (subst (λ ms. AllZip (HoldsWork r new.buffers k)
            (take (part_of old.pace k).handed old.pace.works ++ work ∷ []) ms)
            (sym (put_same (world s).pieces k ((world s).pieces k ++ (network s).hands k (its s))
            k refl ∙ ap (λ ms. (world s).pieces k ++ ms) hands))
            (zip_append (HoldsWork r new.buffers k)
            (take (part_of old.pace k).handed old.pace.works) (work ∷ []) ((world s).pieces k)
            (piece ∷ [])
            (zip_but (HoldsWork r old.buffers k) (HoldsWork r new.buffers k)
            (λ (w : Work). same_buffer w.var work.var) others
            (take (part_of old.pace k).handed old.pace.works) ((world s).pieces k) no_other
            (s.at.shows.pieces k s.part))
            (holds, tt))))
        go (inr n) =
            subst (λ ws. AllZip (HoldsWork r new.buffers j) ws (pieces_after s j))
            (sym (other_works j l n))
            (subst (λ ms. AllZip (HoldsWork r new.buffers j)
            (take (part_of old.pace j).handed old.pace.works) ms)
            (sym (put_other (world s).pieces k ((world s).pieces k ++ (network s).hands k (its s))
            j n))
            (zip_into (HoldsWork r old.buffers j) (HoldsWork r new.buffers j)
            (λ w m. stays j w m l n) (take (part_of old.pace j).handed old.pace.works)
            ((world s).pieces j) (s.at.shows.pieces j l)))
