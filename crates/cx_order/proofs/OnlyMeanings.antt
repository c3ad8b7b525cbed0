-- Entries of thorns that are there mean the same by each sight that tells them, and so plans of
-- them are the same.
use Rattle.std.proofs.Common.{◌≡◌, refl, ◌∙◌, ap, ℕ, zero, suc, ◌+◌, Bool, true, false, List, [], ◌∷◌, ◌++◌, map, filter, length, Option, Some, None, Result, Ok, Err, if◌then◌else◌}
use Rattle.std.specs.Prelude.{slice_get, codes, nat_lt}
use Rattle.std.specs.List.{All, filter_map, cons_option, flat_map, range_with_len}
use Rattle.std.specs.Option.{option_map}
use Rattle.std.proofs.Math.Path.{fun_ext}
use Rattle.std.proofs.lemmas.List.Elements.{All-head, All-tail}
use Rattle.cx_plan.specs.Lists.{or_else, all_ok, greatest}
use Rattle.cx_plan.specs.declared.variable.VarId.{VarId}
use Rattle.cx_plan.specs.declared.item.Region.{Region}
use Rattle.cx_plan.specs.declared.item.Item.{Item}
use Rattle.cx_plan.specs.declared.item.Touch.{Touch}
use Rattle.cx_plan.specs.declared.tree.Tree.{Tree, Seq}
use Rattle.cx_sched.specs.declared.tree.Ref.{Ref}
use Rattle.cx_bind.specs.declared.thorns.Thorn.{Thorn}
use Rattle.cx_bind.specs.Variables.{variable_infos}
use Rattle.cx_scope.specs.declared.fault.ScopeFault.{ScopeFault}
use Rattle.cx_scope.specs.Sight.{Sight, IsSightOf}
use Rattle.cx_order.specs.declared.fault.OrderFault.TheVariants.{Scope}
use Rattle.cx_order.specs.declared.meaning.Meaning.{Meaning}
use Rattle.cx_order_entries.specs.Counted.{Entry, Line}
use Rattle.cx_order_entries.specs.Entries.{Place, Bin, Group, stands_at, entries_at}
use Rattle.cx_order_entries.specs.PlaceNumbers.{Orders, place_count}
use Rattle.cx_plan.specs.Lookups.{bin_count}
use Rattle.cx_order.specs.Storage.{error_of, line_fault, storage_fault, given, given_by, storage}
use Rattle.cx_order.specs.Files.{thorn_name}
use Rattle.cx_plan.specs.Lookups.{bin_name, run_bin_count}
use Rattle.cx_order.specs.Meanings.{World, Levels, meant, one_scalar, tested, all_grid, all_joined, once_each, synced, touches_of, touches, and_then, unless_group, meaning, meaning_or_none, names_of}
use Rattle.cx_order.specs.Plans.{Forest, Done, Then, in_order, path_of, row_of, contents, bin_forest, forests, forest_fault, entry_fault, item_of, forest_items, calls, sync_tree, call_tree, wrapped, trees, bin_trees}
use Rattle.cx_order.specs.Texts.{line_feed, touches_text, name_text, test_text, sync_text, head_text, text_by, entry_text, blanks, forest_text, bin_text, bins_text, schedule_text}
use Rattle.cx_order.proofs.OnlySights.{Each, IsThere, first-agree, map-agree, same-levels, same-group}

pub each-of : {X : Type 0} (P : X → Type 0) (xs : List X) → All P xs → Each xs P
each-of P [] h = tt
each-of P (x ∷ xs) h = (All-head P x xs h, each-of P xs (All-tail P x xs h))

each-filter : {X : Type 0} (P : X → Type 0) (p : X → Bool) (xs : List X) → Each xs P
    → Each (filter p xs) P
each-filter P p [] h = tt
each-filter {X} P p (x ∷ xs) h = by (p x) (each-filter P p xs h.1)
  where
    by : (t : Bool) → Each (filter p xs) P → Each (if t then x ∷ filter p xs else filter p xs) P
    by true k = (h.0, k)
    by false k = k

each-found : {X : Type 0} (P : X → Type 0) (xs : List X) (k : ℕ) (ys : List X) → Each xs P
    → Each ys P → Each (cons_option (slice_get xs k) ys) P
each-found P [] k ys h all = all
each-found P (x ∷ xs) zero ys h all = (h.0, all)
each-found P (x ∷ xs) (suc k) ys h all = each-found P xs k ys h.1 all

each-picked : {X : Type 0} (P : X → Type 0) (xs : List X) (ks : List ℕ) → Each xs P
    → Each (filter_map (λ k. slice_get xs k) ks) P
each-picked P xs [] h = tt
each-picked P xs (k ∷ ks) h =
    each-found P xs k (filter_map (λ k. slice_get xs k) ks) h (each-picked P xs ks h)

-- ---- forests whose entries pass

abbrev pub Grows : (Entry → Type 0) → Forest → Type 0
Grows P Done = Unit {0}
Grows P (Then e path inside rest) = P e × (Grows P inside × Grows P rest)

module _ (P : Entry → Type 0) (es : List Entry) (orders : Orders) (all : Each es P) where
  row-grows : (inside : Entry → List ℕ → Forest)
      → ((e : Entry) (path : List ℕ) → Grows P (inside e path)) → (path : List ℕ) (row : List Entry)
      → Each row P → Grows P (row_of inside path row)
  row-grows inside grows path [] h = tt
  row-grows inside grows path (e ∷ row) h =
      (h.0, (grows e (path_of path e), row-grows inside grows path row h.1))

  if-grows : (t : Bool) (f : Forest) → Grows P f → Grows P (if t then f else Done)
  if-grows true f h = h
  if-grows false f h = tt

  contents-grow : (n : ℕ) (path : List ℕ) (p : Place) → Grows P (contents n es orders path p)
  contents-grow zero path p = tt
  contents-grow (suc n) path p =
      row-grows (λ e inner. if e.block.group then contents n es orders inner (Group e.block.name)
      else Done) (λ e inner.
      if-grows e.block.group (contents n es orders inner (Group e.block.name))
      (contents-grow n inner (Group e.block.name))) path (in_order es orders p)
      (each-picked P (entries_at es p) (orders p)
      (each-filter P (λ e. stands_at p e.block.spot) es all))

  bins-grow : (bs : List ℕ) → Each (map (bin_forest es orders) bs) (Grows P)
  bins-grow [] = tt
  bins-grow (b ∷ bs) = (contents-grow (place_count es) (bin_name b) (Bin b), bins-grow bs)

  pub forests-grow : Each (forests es orders) (Grows P)
  forests-grow = bins-grow (range_with_len 0 bin_count)

-- ---- two sights

module _ (thorns : List Thorn) (a b : Sight) (stored : List ℕ) where
  abbrev w : World
  w = record { thorns = thorns; sight = a; storage = stored }

  abbrev v : World
  v = record { thorns = thorns; sight = b; storage = stored }

  scalar-same : (r : Ref) (m : Result Levels ScopeFault) → one_scalar w r m ≡ one_scalar v r m
  scalar-same r (Err e) = refl
  scalar-same r (Ok []) = refl
  scalar-same r (Ok (l ∷ [])) = refl
  scalar-same r (Ok (l ∷ m ∷ rest)) = refl

  grid-same : (r : Ref) (m : Result Levels ScopeFault) → all_grid w r m ≡ all_grid v r m
  grid-same r (Err e) = refl
  grid-same r (Ok ls) = refl

  touches-same : (word : List ℕ) (ts : List Touch) → touches_text word w ts ≡ touches_text word v ts
  touches-same word [] = refl
  touches-same word (t ∷ ts) = refl

  test-same : (word : List ℕ) (o : Option VarId) → test_text word w o ≡ test_text word v o
  test-same word None = refl
  test-same word (Some u) = refl

  sync-same : (vs : List VarId) → sync_text w vs ≡ sync_text v vs
  sync-same [] = refl
  sync-same (u ∷ us) = refl

  text-same : (e : Entry) (m : Meaning) → text_by w e m ≡ text_by v e m
  text-same e m =
      let F : List ℕ → List ℕ → List ℕ → List ℕ → List ℕ → List ℕ = λ test turn reads writes sync.
      head_text w e ++ name_text (codes " as ") e.block.alias ++ test ++ turn ++ reads ++ writes
      ++ sync in
      ap (λ x. F x (test_text (codes " while ") w m.turn) (touches_text (codes " reads") w m.reads)
      (touches_text (codes " writes") w m.writes) (sync_text w m.sync))
      (test-same (codes " if ") m.test)
      ∙ ap (λ x. F (test_text (codes " if ") v m.test) x (touches_text (codes " reads") w m.reads)
      (touches_text (codes " writes") w m.writes) (sync_text w m.sync))
      (test-same (codes " while ") m.turn)
      ∙ ap (λ x. F (test_text (codes " if ") v m.test) (test_text (codes " while ") v m.turn) x
      (touches_text (codes " writes") w m.writes) (sync_text w m.sync))
      (touches-same (codes " reads") m.reads)
      ∙ ap (λ x. F (test_text (codes " if ") v m.test) (test_text (codes " while ") v m.turn)
      (touches_text (codes " reads") v m.reads) x (sync_text w m.sync))
      (touches-same (codes " writes") m.writes)
      ∙ ap (λ x. F (test_text (codes " if ") v m.test) (test_text (codes " while ") v m.turn)
      (touches_text (codes " reads") v m.reads) (touches_text (codes " writes") v m.writes) x)
      (sync-same m.sync)

  -- what is made of forests whose entries mean the same
  module _ (P : Entry → Type 0) (agree : (e : Entry) → P e → meaning w e ≡ meaning v e) where
    names-agree : (e : Entry) → P e → names_of w e ≡ names_of v e
    names-agree e h = ap meaning_or_none (agree e h)

    fault-agree : (f : Forest) → Grows P f → forest_fault w f ≡ forest_fault v f
    fault-agree Done h = refl
    fault-agree (Then e path inside rest) h =
        ap (λ (m : Result Meaning ScopeFault).
        or_else (option_map (λ f. Scope path f) (error_of m))
        (or_else (forest_fault w inside) (forest_fault w rest))) (agree e h.0)
        ∙ ap (λ o. or_else (option_map (λ f. Scope path f) (error_of (meaning v e)))
        (or_else o (forest_fault w rest))) (fault-agree inside h.1.0)
        ∙ ap (λ o. or_else (option_map (λ f. Scope path f) (error_of (meaning v e)))
        (or_else (forest_fault v inside) o)) (fault-agree rest h.1.1)

    item-agree : (e : Entry) (path : List ℕ) → P e → item_of w e path ≡ item_of v e path
    item-agree e path h = ap
        (λ (m : Meaning). record (item_of w e path) { reads = m.reads; writes = m.writes })
        (names-agree e h)

    items-agree : (f : Forest) → Grows P f → forest_items w f ≡ forest_items v f
    items-agree Done h = refl
    items-agree (Then e path inside rest) h =
        ap (λ (i : Item). (if e.block.group then forest_items w inside else i ∷ [])
        ++ forest_items w rest) (item-agree e path h.0)
        ∙ ap (λ (is : List Item). (if e.block.group then is else item_of v e path ∷ [])
        ++ forest_items w rest) (items-agree inside h.1.0)
        ∙ ap (λ (is : List Item).
        (if e.block.group then forest_items v inside else item_of v e path ∷ []) ++ is)
        (items-agree rest h.1.1)

    trees-agree : (k : ℕ) (f : Forest) → Grows P f → trees w k f ≡ trees v k f
    trees-agree k Done h = refl
    trees-agree k (Then e path inside rest) h =
        let next : ℕ = k + (if e.block.group then calls inside else 1) in
        let F : Meaning → List Tree → List Tree → List Tree = λ m within more.
        wrapped m path (if e.block.group then Seq (within ++ sync_tree path m.sync)
        else call_tree path m.sync k) ∷ more in
        ap (λ m. F m (trees w k inside) (trees w next rest)) (names-agree e h.0)
        ∙ ap (λ ts. F (names_of v e) ts (trees w next rest)) (trees-agree k inside h.1.0)
        ∙ ap (λ ts. F (names_of v e) (trees v k inside) ts) (trees-agree next rest h.1.1)

    text-agree : (depth : ℕ) (f : Forest) → Grows P f
        → forest_text w depth f ≡ forest_text v depth f
    text-agree depth Done h = refl
    text-agree depth (Then e path inside rest) h =
        let F : List ℕ → List ℕ → List ℕ
        → List ℕ = λ own within more. blanks depth ++ own ++ line_feed ++ within ++ more in
        ap (λ x. F x (forest_text w (suc depth) inside) (forest_text w depth rest))
        (ap (text_by w e) (names-agree e h.0) ∙ text-same e (names_of v e))
        ∙ ap (λ x. F (entry_text v e) x (forest_text w depth rest))
        (text-agree (suc depth) inside h.1.0)
        ∙ ap (λ x. F (entry_text v e) (forest_text v (suc depth) inside) x)
        (text-agree depth rest h.1.1)

    pub same-fault : (fs : List Forest) → Each fs (Grows P) → entry_fault w fs ≡ entry_fault v fs
    same-fault fs h = first-agree fs (forest_fault w) (forest_fault v) (Grows P) fault-agree h

    pub same-items : (fs : List Forest) → Each fs (Grows P)
        → flat_map (forest_items w) fs ≡ flat_map (forest_items v) fs
    same-items [] h = refl
    same-items (f ∷ fs) h =
        ap (λ (is : List Item). is ++ flat_map (forest_items w) fs) (items-agree f h.0)
        ∙ ap (λ (is : List Item). forest_items v f ++ is) (same-items fs h.1)

    pub same-trees : (k : ℕ) (fs : List Forest) → Each fs (Grows P)
        → bin_trees w k fs ≡ bin_trees v k fs
    same-trees k [] h = refl
    same-trees k (f ∷ fs) h =
        ap (λ ts. Seq ts ∷ bin_trees w (k + calls f) fs) (trees-agree k f h.0)
        ∙ ap (λ ts. Seq (trees v k f) ∷ ts) (same-trees (k + calls f) fs h.1)

    bins-text : (n : ℕ) (fs : List Forest) → Each fs (Grows P) → bins_text w n fs ≡ bins_text v n fs
    bins-text n [] h = refl
    bins-text n (f ∷ fs) h =
        ap (λ x. codes "bin " ++ bin_name n
        ++ (if nat_lt n run_bin_count then [] else codes " not run") ++ line_feed ++ x
        ++ bins_text w (suc n) fs) (text-agree 1 f h.0)
        ∙ ap (λ x. bin_text v n f ++ x) (bins-text (suc n) fs h.1)

    pub same-text : (fs : List Forest) → Each fs (Grows P) → schedule_text w fs ≡ schedule_text v fs
    same-text fs h = bins-text 0 fs h

  module _ (told : IsSightOf thorns a) (again : IsSightOf thorns b) where
    module _ (t : ℕ) (there : IsThere thorns t) where
      meant-agree : (r : Ref) → meant w t r ≡ meant v t r
      meant-agree r = same-levels thorns a b told again t there stored r

      tested-agree : (o : Option Ref) → tested w t o ≡ tested v t o
      tested-agree None = refl
      tested-agree (Some r) = ap (one_scalar w r) (meant-agree r) ∙ scalar-same r (meant v t r)

      synced-agree : (refs : List Ref) → synced w t refs ≡ synced v t refs
      synced-agree refs =
          ap (λ (f : Ref → Result (List VarId) ScopeFault).
          once_each (all_joined (all_ok (map f refs))))
          (fun_ext (λ r. ap (all_grid w r) (meant-agree r) ∙ grid-same r (meant v t r)))

      touches-agree : (refs : List (Ref × Region)) → touches w t refs ≡ touches v t refs
      touches-agree refs =
          ap (λ (f : Ref × Region → Result (List Touch) ScopeFault).
          all_joined (all_ok (map f refs)))
          (fun_ext (λ r. ap (touches_of r.1) (meant-agree r.0)))

    pub same-meaning : (e : Entry) → IsThere thorns e.thorn → meaning w e ≡ meaning v e
    same-meaning e h =
        let t = e.thorn in
        let F : Result (Option VarId) ScopeFault → Result (Option VarId) ScopeFault
        → Result (List VarId) ScopeFault → Result (List Touch) ScopeFault
        → Result (List Touch) ScopeFault
        → Result Meaning ScopeFault = λ ifs whiles syncs reading writing.
        and_then ifs (λ test. and_then whiles
        (λ turn. and_then syncs
        (λ sync. and_then reading
        (λ reads. and_then writing
        (λ writes.
        Ok (record {
          test = test;
          turn = turn;
          sync = sync;
          reads = reads;
          writes = writes;
        })))))) in
        let reads = unless_group e.block e.block.reads in
        let writes = unless_group e.block e.block.writes in
        ap (λ x. F x (tested w t e.block.turn) (synced w t e.block.sync) (touches w t reads)
        (touches w t writes)) (tested-agree t h e.block.test)
        ∙ ap (λ x. F (tested v t e.block.test) x (synced w t e.block.sync) (touches w t reads)
        (touches w t writes)) (tested-agree t h e.block.turn)
        ∙ ap (λ x. F (tested v t e.block.test) (tested v t e.block.turn) x (touches w t reads)
        (touches w t writes)) (synced-agree t h e.block.sync)
        ∙ ap (λ x. F (tested v t e.block.test) (tested v t e.block.turn) (synced v t e.block.sync) x
        (touches w t writes)) (touches-agree t h reads)
        ∙ ap (λ x. F (tested v t e.block.test) (tested v t e.block.turn) (synced v t e.block.sync)
        (touches v t reads) x) (touches-agree t h writes)

-- ---- storage

module _ (thorns : List Thorn) (a b : Sight) (told : IsSightOf thorns a)
    (again : IsSightOf thorns b) (lines : List Line)
    (there : Each lines (λ (l : Line). IsThere thorns l.thorn)) where
  pub same-storage : storage thorns a lines ≡ storage thorns b lines
  same-storage =
      ap (λ (f : ℕ → ℕ). map f (range_with_len 0 (length (variable_infos thorns))))
      (fun_ext (λ u. ap greatest
      (map-agree lines (given_by thorns a u) (given_by thorns b u)
      (λ (l : Line). IsThere thorns l.thorn)
      (λ l h. ap (λ (g : Result (List VarId) ScopeFault).
      given (variable_infos thorns) l.levels g u)
      (same-group thorns a b told again l.thorn h l.group)) there)))

  pub same-storage-fault : storage_fault thorns a lines ≡ storage_fault thorns b lines
  same-storage-fault =
      first-agree lines (line_fault thorns a) (line_fault thorns b)
      (λ (l : Line). IsThere thorns l.thorn)
      (λ l h. ap (λ (g : Result (List VarId) ScopeFault).
      option_map (λ e. Scope (thorn_name thorns l.thorn) e) (error_of g))
      (same-group thorns a b told again l.thorn h l.group)) there
