-- The names of entries stand for variables of the job whose levels are stored.
use Rattle.std.proofs.Common.{◌≡◌, ◌≢◌, refl, ap, sym, subst, ◌∙◌, ℕ, zero, suc, ◌≤◌, ◌<◌, nat_lt, ltb-true, ltb-false, Bool, true, false, List, [], ◌∷◌, ◌++◌, map, length, get_or, slice_get, Option, Some, None, Result, Ok, Err, if◌then◌else◌, arith}
use Rattle.std.specs.Prelude.{◌||◌, ◌==◌, All, AllPairs, slice_index_or}
use Rattle.std.specs.List.{list_any}
use Rattle.std.proofs.lemmas.List.Elements.{All-cons, All-map}
use Rattle.std.proofs.lemmas.List.Folds.{list_any-append}
use Rattle.std.proofs.lemmas.List.Kept.{AllPairs-cons}
use Rattle.cx_plan.specs.Lists.{with_next, all_ok, once_behind}
use Rattle.cx_plan.specs.Lookups.{no_variable}
use Rattle.cx_plan.specs.Whole.{IsStored, IsStoredGrid, IsTouch}
use Rattle.cx_plan.specs.declared.item.Region.{Region}
use Rattle.cx_plan.specs.declared.item.Touch.{Touch}
use Rattle.cx_plan.specs.declared.job.Job.{Job}
use Rattle.cx_plan.specs.declared.variable.VarId.{VarId}
use Rattle.cx_plan.specs.declared.variable.VarInfo.{VarInfo}
use Rattle.cx_sched.specs.declared.tree.Ref.{Ref}
use Rattle.cx_bind.specs.Variables.{variable_infos}
use Rattle.cx_scope.specs.declared.fault.ScopeFault.{ScopeFault}
use Rattle.cx_scope.specs.declared.fault.ScopeFault.TheVariants.{NotScalar, NotGrid}
use Rattle.cx_scope.specs.Resolving.{ref_text}
use Rattle.cx_order_entries.specs.Counted.{Entry}
use Rattle.cx_order.specs.Meanings.{World, Levels, scalar_in, is_scalar, meant, one_scalar, tested, all_grid, all_joined, once_each, synced, touch, touches_of, touches, and_then, meaning_or_none, unless_group}
use Rattle.cx_job_values.specs.Stored.{stored_infos}
use Rattle.cx_job.proofs.SupportedLaws.{none_in, first_of, others_of, in_all}
use Rattle.cx_job.proofs.StoredLaws.{as_many_stored, stored_at}
use Rattle.cx_job.proofs.MeantLaws.{IsKept, err_ok, resolved_kept}
use Rattle.cx_job.proofs.TreeLaws.{IsTurn, AreNames}
use Rattle.cx_plan.specs.Regions.{same_variable}

-- ---- lists

first_false : (a b : Bool) → (a || b) ≡ false → a ≡ false
first_false false b e = refl
first_false true b e = e

second_false : (a b : Bool) → (a || b) ≡ false → b ≡ false
second_false false b e = e
second_false true b e = absurd cc

no_pairs : {X : Type 0} (R : X → X → Type 0) → AllPairs R []
no_pairs R = λ i j d order within. absurd (let n : ⊥ = omega (arith, within) in n)

none_any : {X : Type 0} (p : X → Bool) (xs : List X) → list_any p xs ≡ false
    → All (λ x. p x ≡ false) xs
none_any p [] none = none_in (λ x. p x ≡ false)
none_any p (x ∷ xs) none =
    All-cons (λ x. p x ≡ false) x xs (first_false (p x) (list_any p xs) none)
    (none_any p xs (second_false (p x) (list_any p xs) none))

abbrev okay : {X : Type 0} → X → Result X ScopeFault
okay x = Ok x

ok_same : {X : Type 0} {x y : X} → okay x ≡ okay y → x ≡ y
ok_same e = cc

first_ok : {Y : Type 0} (P : Y → Type 0) (ys : List Y) (r : Result Y ScopeFault)
    (s : Result (List Y) ScopeFault) → ((y : Y) → r ≡ Ok y → P y)
    → ((others : List Y) → s ≡ Ok others → All P others) → with_next r s ≡ Ok ys → All P ys
first_ok P ys (Err e) s one more told = err_ok told
first_ok P ys (Ok y) (Err e) one more told = err_ok told
first_ok P ys (Ok y) (Ok others) one more told =
    subst (λ zs. All P zs) (ok_same told) (All-cons P y others (one y refl) (more others refl))

each_ok : {X Y : Type 0} (P : Y → Type 0) (f : X → Result Y ScopeFault)
    → ((x : X) (y : Y) → f x ≡ Ok y → P y) → (xs : List X) (ys : List Y) → all_ok (map f xs) ≡ Ok ys
    → All P ys
each_ok P f each [] ys told = subst (λ zs. All P zs) (ok_same told) (none_in P)
each_ok P f each (x ∷ xs) ys told =
    first_ok P ys (f x) (all_ok (map f xs)) (each x) (each_ok P f each xs) told

each_joined : {Y : Type 0} (P : Y → Type 0) (r : Result (List (List Y)) ScopeFault) (ys : List Y)
    → ((yss : List (List Y)) → r ≡ Ok yss → All (λ us. All P us) yss) → all_joined r ≡ Ok ys
    → All P ys
each_joined P (Err e) ys each told = err_ok told
each_joined P (Ok yss) ys each told =
    subst (λ zs. All P zs) (ok_same told) (in_all P (λ us. us) yss (each yss refl))

past_end : (xs : List ℕ) (k : ℕ) → length xs ≤ k → slice_index_or xs k 0 ≡ 0
past_end [] zero past = refl
past_end [] (suc k) past = refl
past_end (x ∷ xs) zero past = absurd (let n : ⊥ = omega (arith, past) in n)
past_end (x ∷ xs) (suc k) past = past_end xs k (omega (arith, past))

-- ---- each once

once_kept : (P : VarId → Type 0) (before vs : List VarId) → All P vs
    → All P (once_behind same_variable before vs)
once_kept P before [] each = none_in P
once_kept P before (v ∷ vs) each =
    by (once_kept P before vs (others_of P v vs each))
    (once_kept P (before ++ v ∷ []) vs (others_of P v vs each)) (list_any (same_variable v) before)
  where
    by : All P (once_behind same_variable before vs)
        → All P (once_behind same_variable (before ++ v ∷ []) vs) → (b : Bool)
        → All P (if b then once_behind same_variable before vs
        else v ∷ once_behind same_variable (before ++ v ∷ []) vs)
    by same_ more_ true = same_
    by same_ more_ false = All-cons P v (once_behind same_variable (before ++ v ∷ []) vs)
        (first_of P v vs each) more_

abbrev IsNew : List VarId → VarId → Type 0
IsNew before v = list_any (same_variable v) before ≡ false

once_new : (before vs : List VarId) → All (IsNew before) (once_behind same_variable before vs)
once_new before [] = none_in (IsNew before)
once_new before (v ∷ vs) =
    by (once_new before vs) (once_new (before ++ v ∷ []) vs) (list_any (same_variable v) before)
    refl
  where
    by : All (IsNew before) (once_behind same_variable before vs)
        → All (IsNew (before ++ v ∷ [])) (once_behind same_variable (before ++ v ∷ []) vs)
        → (b : Bool) → list_any (same_variable v) before ≡ b
        → All (IsNew before) (if b then once_behind same_variable before vs
        else v ∷ once_behind same_variable (before ++ v ∷ []) vs)
    by same_ more_ true is = same_
    by same_ more_ false is =
        let rest : List VarId = once_behind same_variable (before ++ v ∷ []) vs in
        All-cons (IsNew before) v rest is
        (λ k d within. first_false (list_any (same_variable (get_or rest k d)) before)
        (list_any (same_variable (get_or rest k d)) (v ∷ []))
        (sym (list_any-append (same_variable (get_or rest k d)) before (v ∷ []))
        ∙ more_ k d within))

unlike : (a b : VarId) → same_variable b a ≡ false → a.0 ≢ b.0
unlike a b other same = absurd (let n : ⊥ = by (b.0 == a.0) refl other in n)
  where
    by : (t : Bool) → (b.0 == a.0) ≡ t → t ≡ false → ⊥
    by true e no_ = absurd cc
    by false e no_ = grind (arith, e, same)

once_apart : (before vs : List VarId)
    → AllPairs (λ (a b : VarId). a.0 ≢ b.0) (once_behind same_variable before vs)
once_apart before [] = no_pairs (λ (a b : VarId). a.0 ≢ b.0)
once_apart before (v ∷ vs) =
    by (once_apart before vs) (once_apart (before ++ v ∷ []) vs) (list_any (same_variable v) before)
  where
    by : AllPairs (λ (a b : VarId). a.0 ≢ b.0) (once_behind same_variable before vs)
        → AllPairs (λ (a b : VarId). a.0 ≢ b.0) (once_behind same_variable (before ++ v ∷ []) vs)
        → (b : Bool) → AllPairs (λ (a b : VarId). a.0 ≢ b.0)
        (if b then once_behind same_variable before vs
        else v ∷ once_behind same_variable (before ++ v ∷ []) vs)
    by same_ more_ true = same_
    by same_ more_ false =
        let rest : List VarId = once_behind same_variable (before ++ v ∷ []) vs in
        AllPairs-cons (λ (a b : VarId). a.0 ≢ b.0) v rest
        (λ k d within.
        let u : VarId = get_or rest k d in
        unlike v u (first_false (same_variable u v) false
        (second_false (list_any (same_variable u) before) (list_any (same_variable u) (v ∷ []))
        (sym (list_any-append (same_variable u) before (v ∷ []))
        ∙ once_new (before ++ v ∷ []) vs k d within))))
        more_

-- ---- variables

scalar_at : (infos : List VarInfo) (k : ℕ) (d : VarInfo) → k < length infos
    → scalar_in (slice_get infos k) ≡ (get_or infos k d).scalar
scalar_at [] k d there = absurd (let n : ⊥ = omega (arith, there) in n)
scalar_at (v ∷ vs) zero d there = refl
scalar_at (v ∷ vs) (suc k) d there = scalar_at vs k d (omega (arith, there))

module _ (job : Job) (w : World) (vars : job.vars ≡ stored_infos w.thorns w.storage)
    (long : length w.storage ≡ length (variable_infos w.thorns)) where
  declared : (v : VarId) (l : ℕ) → l < slice_index_or w.storage v.0 0
      → v.0 < length (variable_infos w.thorns)
  declared v l kept = by (nat_lt v.0 (length w.storage)) refl
    where
      by : (b : Bool) → nat_lt v.0 (length w.storage) ≡ b → v.0 < length (variable_infos w.thorns)
      by true e = (let h = ltb-true v.0 (length w.storage) e in omega (arith, h, long))
      by false e =
          let past = ltb-false v.0 (length w.storage) e in
          let nothing = past_end w.storage v.0 past in
          absurd (let n : ⊥ = omega (arith, nothing, kept) in n)

  pub kept_stored : (v : VarId) (l : ℕ) → l < slice_index_or w.storage v.0 0 → IsStored job v l
  kept_stored v l kept =
      let there = declared v l kept in
      let many = as_many_stored w.thorns w.storage in
      let levels = ap (λ (i : VarInfo). i.levels)
      (stored_at w.thorns w.storage v.0 no_variable there) in
      subst (λ (vs : List VarInfo). (v.0 < length vs)
      × (l < (slice_index_or vs v.0 no_variable).levels)) (sym vars)
      (omega (arith, there, many), omega (arith, levels, kept))

  same_kind : (v : VarId) → v.0 < length (variable_infos w.thorns)
      → (slice_index_or job.vars v.0 no_variable).scalar ≡ is_scalar w v
  same_kind v there =
      ap (λ (vs : List VarInfo). (slice_index_or vs v.0 no_variable).scalar) vars
      ∙ ap (λ (i : VarInfo). i.scalar) (stored_at w.thorns w.storage v.0 no_variable there)
      ∙ sym (scalar_at (variable_infos w.thorns) v.0 no_variable there)

  above : (l n : ℕ) → l < n → 0 < n
  above l n h = omega (arith, h)

  turn_of : (thorn : ℕ) (r : Ref) (ls : Result Levels ScopeFault) → meant w thorn r ≡ ls
      → (test : Option VarId) → one_scalar w r ls ≡ Ok test → IsTurn job test
  turn_of thorn r (Err e) is test told = err_ok told
  turn_of thorn r (Ok []) is test told = err_ok told
  turn_of thorn r (Ok (l ∷ m ∷ rest)) is test told = err_ok told
  turn_of thorn r (Ok (l ∷ [])) is test told = by (is_scalar w l.0) refl told
    where
      kept : IsKept w.storage l
      kept = first_of (IsKept w.storage) l []
          (resolved_kept w.thorns w.sight w.storage thorn r (l ∷ []) is)

      by : (b : Bool) → is_scalar w l.0 ≡ b
          → (if b then Ok (Some l.0) else Err (NotScalar (ref_text r))) ≡ Ok test → IsTurn job test
      by false e told = err_ok told
      by true e told =
          subst (λ t. IsTurn job t) (ok_same told) (
            kept_stored l.0 0 (above l.1 (slice_index_or w.storage l.0.0 0) kept),
            same_kind l.0 (declared l.0 l.1 kept) ∙ e,
          )

  turn_whole : (thorn : ℕ) (o : Option Ref) (test : Option VarId) → tested w thorn o ≡ Ok test
      → IsTurn job test
  turn_whole thorn None test told = subst (λ t. IsTurn job t) (ok_same told) tt
  turn_whole thorn (Some r) test told = turn_of thorn r (meant w thorn r) refl test told

  grid_of : (thorn : ℕ) (r : Ref) (ls : Result Levels ScopeFault) → meant w thorn r ≡ ls
      → (vs : List VarId) → all_grid w r ls ≡ Ok vs → All (IsStoredGrid job) vs
  grid_of thorn r (Err e) is vs told = err_ok told
  grid_of thorn r (Ok ls) is vs told = by (list_any (λ l. is_scalar w l.0) ls) refl told
    where
      by : (b : Bool) → list_any (λ l. is_scalar w l.0) ls ≡ b
          → (if b then Err (NotGrid (ref_text r)) else Ok (map (λ l. l.0) ls)) ≡ Ok vs
          → All (IsStoredGrid job) vs
      by true e told = err_ok told
      by false e told =
          subst (λ us. All (IsStoredGrid job) us) (ok_same told)
          (All-map (IsStoredGrid job) (λ l. l.0) ls
          (λ k d within.
          let l : VarId × ℕ = get_or ls k d in
          let kept : IsKept w.storage l =
          resolved_kept w.thorns w.sight w.storage thorn r ls is k d within in (
            kept_stored l.0 0 (above l.1 (slice_index_or w.storage l.0.0 0) kept),
            same_kind l.0 (declared l.0 l.1 kept)
                ∙ none_any (λ l. is_scalar w l.0) ls e k d within,
          )))

  abbrev IsSync : List VarId → Type 0
  IsSync vs = All (IsStoredGrid job) vs × AllPairs (λ (a b : VarId). a.0 ≢ b.0) vs

  sync_whole : (thorn : ℕ) (refs : List Ref) (vs : List VarId) → synced w thorn refs ≡ Ok vs
      → IsSync vs
  sync_whole thorn refs vs told =
      by (all_joined (all_ok (map (λ r. all_grid w r (meant w thorn r)) refs))) refl told
    where
      by : (r : Result (List VarId) ScopeFault)
          → all_joined (all_ok (map (λ r. all_grid w r (meant w thorn r)) refs)) ≡ r
          → once_each r ≡ Ok vs → IsSync vs
      by (Err e) is told = err_ok told
      by (Ok us) is told =
          let each : All (IsStoredGrid job) us =
          each_joined (IsStoredGrid job) (all_ok (map (λ r. all_grid w r (meant w thorn r)) refs))
          us
          (λ yss are. each_ok (λ zs. All (IsStoredGrid job) zs)
          (λ r. all_grid w r (meant w thorn r))
          (λ r zs ok. grid_of thorn r (meant w thorn r) refl zs ok) refs yss are) is in
          subst IsSync (ok_same told) (once_kept (IsStoredGrid job) [] us each, once_apart [] us)

  name_stored : (thorn : ℕ) (region : Region) (r : Ref) (ls : Result Levels ScopeFault)
      → meant w thorn r ≡ ls → (zs : List Touch) → touches_of region ls ≡ Ok zs
      → All (IsTouch job) zs
  name_stored thorn region r (Err e) is zs told = err_ok told
  name_stored thorn region r (Ok ls) is zs told =
      subst (λ us. All (IsTouch job) us) (ok_same told)
      (All-map (IsTouch job) (touch region) ls
      (λ k d within. kept_stored (get_or ls k d).0 (get_or ls k d).1
      (resolved_kept w.thorns w.sight w.storage thorn r ls is k d within)))

  touches_stored : (thorn : ℕ) (refs : List (Ref × Region)) (zs : List Touch)
      → touches w thorn refs ≡ Ok zs → All (IsTouch job) zs
  touches_stored thorn refs zs told =
      each_joined (IsTouch job) (all_ok (map (λ r. touches_of r.1 (meant w thorn r.0)) refs)) zs
      (λ zss are. each_ok (λ us. All (IsTouch job) us) (λ r. touches_of r.1 (meant w thorn r.0))
      (λ r us ok. name_stored thorn r.1 r.0 (meant w thorn r.0) refl us ok) refs zss are)
      told

  abbrev IsTouched : List Touch → Type 0
  IsTouched zs = All (IsTouch job) zs

  abbrev Are : Result (Option VarId) ScopeFault → Result (Option VarId) ScopeFault
      → Result (List VarId) ScopeFault → Result (List Touch) ScopeFault
      → Result (List Touch) ScopeFault → Type 0
  Are a b c r u =
      let m = meaning_or_none
      (and_then a (λ test. and_then b
      (λ turn. and_then c (λ sync.
      and_then r (λ reads. and_then u
      (λ writes.
      Ok (record {
        test = test;
        turn = turn;
        sync = sync;
        reads = reads;
        writes = writes;
      }))))))) in
      IsTurn job m.test × (IsTurn job m.turn
      × (IsSync m.sync × (IsTouched m.reads × IsTouched m.writes)))

  nothing_named : IsTurn job None × (IsTurn job None × (IsSync [] × (IsTouched [] × IsTouched [])))
  nothing_named = (
    tt,
    (
      tt,
      (
        (none_in (IsStoredGrid job), no_pairs (λ (a b : VarId). a.0 ≢ b.0)),
        (none_in (IsTouch job), none_in (IsTouch job)),
      ),
    ),
  )

  by_parts : (a b : Result (Option VarId) ScopeFault) (c : Result (List VarId) ScopeFault)
      (r u : Result (List Touch) ScopeFault) → ((t : Option VarId) → a ≡ Ok t → IsTurn job t)
      → ((t : Option VarId) → b ≡ Ok t → IsTurn job t) → ((vs : List VarId) → c ≡ Ok vs → IsSync vs)
      → ((zs : List Touch) → r ≡ Ok zs → IsTouched zs)
      → ((zs : List Touch) → u ≡ Ok zs → IsTouched zs) → Are a b c r u
  by_parts (Err e) b c r u ha hb hc hr hu = nothing_named
  by_parts (Ok t) (Err e) c r u ha hb hc hr hu = nothing_named
  by_parts (Ok t) (Ok s) (Err e) r u ha hb hc hr hu = nothing_named
  by_parts (Ok t) (Ok s) (Ok vs) (Err e) u ha hb hc hr hu = nothing_named
  by_parts (Ok t) (Ok s) (Ok vs) (Ok rs) (Err e) ha hb hc hr hu = nothing_named
  by_parts (Ok t) (Ok s) (Ok vs) (Ok rs) (Ok us) ha hb hc hr hu =
      (ha t refl, (hb s refl, (hc vs refl, (hr rs refl, hu us refl))))

  pub are_names : (e : Entry) → AreNames job w e
  are_names e =
      let reads : List (Ref × Region) = unless_group e.block e.block.reads in
      let writes : List (Ref × Region) = unless_group e.block e.block.writes in
      let all : Are (tested w e.thorn e.block.test) (tested w e.thorn e.block.turn)
      (synced w e.thorn e.block.sync) (touches w e.thorn reads) (touches w e.thorn writes) =
      by_parts (tested w e.thorn e.block.test) (tested w e.thorn e.block.turn)
      (synced w e.thorn e.block.sync) (touches w e.thorn reads) (touches w e.thorn writes)
      (turn_whole e.thorn e.block.test) (turn_whole e.thorn e.block.turn)
      (sync_whole e.thorn e.block.sync) (touches_stored e.thorn reads)
      (touches_stored e.thorn writes) in
      record {
        test = all.0;
        turn = all.1.0;
        sync = all.1.1.0.0;
        once = all.1.1.0.1;
        reads = all.1.1.1.0;
        writes = all.1.1.1.1;
      }
