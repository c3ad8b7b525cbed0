-- Some part meets an end at an operation exactly where the undivided run notes one.
use Rattle.std.proofs.Common.{◌≡◌, ℕ, zero, suc, ◌<◌, Bool, true, false, not, ◌&&◌, ◌||◌, List, [], ◌∷◌, ℤ, pos, negsuc, Option, Some, None, is_some, is_none, arith, refl, sym, ap, ◌∙◌}
use Rattle.std.specs.Prelude.{if◌then◌else◌, ◌==◌}
use Rattle.std.specs.List.{list_any, list_all, range_with_len}
use Rattle.std.proofs.lemmas.Bool.{both_ways, and_from}
use Rattle.cx_grid.specs.declared.boxes.Point.{Point}
use Rattle.cx_grid.specs.declared.boxes.Box3.{Box3}
use Rattle.cx_grid.specs.Boxes.{IsIn, has_point, points_in}
use Rattle.cx_grid.specs.Grid.{is_boundary, wrap, whole}
use Rattle.cx_plan.specs.declared.variable.VarId.{VarId}
use Rattle.cx_plan.specs.declared.item.Item.{Item}
use Rattle.cx_plan.specs.declared.item.ItemKind.{ItemKind}
use Rattle.cx_plan.specs.declared.item.ItemKind.TheVariants.{Cell, Scalar, Sum, Least, Greatest, Count}
use Rattle.cx_plan.specs.declared.item.Region.{Region}
use Rattle.cx_plan.specs.declared.item.Region.TheVariants.{Interior, Boundary, Everywhere}
use Rattle.cx_plan.specs.Steering.{item_at}
use Rattle.cx_plan.specs.Regions.{region_of}
use Rattle.cx_rule.specs.States.{State, scalar_of}
use Rattle.cx_model.specs.declared.ends.End.{End}
use Rattle.cx_model.specs.declared.ends.End.TheVariants.{WhileLimit}
use Rattle.cx_model.specs.Traces.{Exchanged, Tested}
use Rattle.cx_model.specs.Turns.{values_of, in_region, swept_at, turn, turn_by, levels_after}
use Rattle.cx_model.specs.Courses.{note, turn_note, limit_note, by_zero}
use Rattle.cx_cut.specs.Cuts.{owned, local}
use Rattle.cx_cut.proofs.Tiled.{tiles}
use Rattle.cx_flat.specs.declared.op.Op.{Op}
use Rattle.cx_flat.specs.declared.op.Op.TheVariants.{Sweep, Apply, Give, Join, Post, Take, Test, Open, Turn, Again, Rotate, Due, Written, Skip, Next, Piece, Save, Halt}
use Rattle.cx_flat.specs.Flats.{Flat, last_turns, notes_at}
use Rattle.law_parts.specs.Ends.{or_end, met_of}
use Rattle.law_parts.specs.Holding.{in_zone}
use Rattle.law_parts.specs.Operations.{NamesWell}
use Rattle.law_parts.specs.Runs.{Run, cut_of, parts_in}
use Rattle.law_parts.specs.Truths.{is_faulty}
use Rattle.law_parts.proofs.FirstLaws.{none_of, some_of}
use Rattle.law_parts.proofs.ListLaws.{not_true}
use Rattle.law_parts.proofs.SeenLaws.{swept_wrapped}
use Rattle.cx_grid.proofs.WrapLaws.{boundary_wrapped}
use Rattle.law_parts.proofs.WholeRun.{IsRun, lies, shape}
use Rattle.law_parts.proofs.ZoneLaws.{in_from, any_is, test_at}

-- ---- tests of all points of a box

all_true : {A : Type 0} (xs : List A) → list_all (λ x. true) xs ≡ true
all_true [] = refl
all_true (x ∷ xs) = all_true xs

any_false : {A : Type 0} (xs : List A) → list_any (λ x. false) xs ≡ false
any_false [] = refl
any_false (x ∷ xs) = any_false xs

not_false : (b : Bool) → not b ≡ false → b ≡ true
not_false true e = refl
not_false false e = absurd cc

none_in : (b : Box3) (f : Point → Bool) → ((p : Point) → IsIn b p → f p ≡ false)
    → list_any f (points_in b) ≡ false
none_in b f h = any_is b f (λ p. true) h ∙ ap not (all_true (points_in b))

all_in : (b : Box3) (g : Point → Bool) → ((p : Point) → IsIn b p → g p ≡ true)
    → list_all g (points_in b) ≡ true
all_in b g h = not_false (list_all g (points_in b))
    (sym (any_is b (λ p. false) g (λ p i. sym (ap not (h p i)))) ∙ any_false (points_in b))

twice_not : (b : Bool) → b ≡ not (not b)
twice_not true = refl
twice_not false = refl

none_at : (b : Box3) (f : Point → Bool) (p : Point) → list_any f (points_in b) ≡ false → IsIn b p
    → f p ≡ false
none_at b f p e inside =
    not_true (f p) (test_at b (λ q. not (f q)) p
    (not_false (list_all (λ q. not (f q)) (points_in b))
    (sym (any_is b f (λ q. not (f q)) (λ q i. twice_not (f q))) ∙ e)) inside)

zone_quiet : (z : Bool) (o : Option (List ℤ)) → (z ≡ true → is_some o ≡ true)
    → (z && is_none o) ≡ false
zone_quiet true (Some ns) h = refl
zone_quiet true None h = absurd (both_ways false refl (h refl))
zone_quiet false o h = refl

some_there : (z : Bool) (o : Option (List ℤ)) → z ≡ true → (z && is_none o) ≡ false
    → is_some o ≡ true
some_there true (Some ns) e h = refl
some_there true None e h = absurd cc
some_there false o e h = absurd cc

passes_by : (z : Bool) (o : Option (List ℤ)) → (z ≡ true → is_some o ≡ true)
    → (not z || is_some o) ≡ true
passes_by true o h = h refl
passes_by false o h = refl

passed_some : (z : Bool) (o : Option (List ℤ)) → (not z || is_some o) ≡ true → z ≡ true
    → is_some o ≡ true
passed_some true o h e = h
passed_some false o h e = absurd cc

and_second : (a b : Bool) → (a && b) ≡ true → b ≡ true
and_second true b e = e
and_second false b e = absurd cc

-- the same for each part
same_for_all : (c : Bool) (n : ℕ) → 0 < n → list_any (λ (k : ℕ). c) (range_with_len 0 n) ≡ c
same_for_all c zero l = absurd (omega (arith, l))
same_for_all true (suc n) l = refl
same_for_all false (suc n) l = any_false (range_with_len 0 (suc n))

-- ---- sweeps

module _ (r : Run) (run : IsRun r) (x : Item) (state : State) (iteration : ℕ) where
  abbrev numbers : Point → Option (List ℤ)
  numbers p = swept_at r.setup r.rules x (values_of r.setup state) iteration p

  abbrev zone : ℕ → Point → Bool
  zone k p = in_zone r.setup (owned (cut_of r) k) (region_of x.writes) p

  abbrev part_faults : ℕ → Bool
  part_faults k = list_any (λ p. zone k p && is_none (numbers p)) (points_in (local (cut_of r) k))

  abbrev whole_passes : Bool
  whole_passes = list_all (λ p. not (in_region r.setup.shape (region_of x.writes) p)
      || is_some (numbers p)) (points_in (whole r.setup.shape))

  region_wrapped : (g : Region) (p : Point)
      → in_region r.setup.shape g (wrap r.setup.shape p) ≡ in_region r.setup.shape g p
  region_wrapped Interior p = ap not (boundary_wrapped r.setup.shape p)
  region_wrapped Boundary p = boundary_wrapped r.setup.shape p
  region_wrapped Everywhere p = refl

  zone_region : (g : Region) (k : ℕ) (p : Point) → in_zone r.setup (owned (cut_of r) k) g p ≡ true
      → in_region r.setup.shape g p ≡ true
  zone_region Interior k p e =
      and_second (has_point (owned (cut_of r) k) p) (not (is_boundary r.setup.shape p)) e
  zone_region Boundary k p e = e
  zone_region Everywhere k p e = refl

  region_zone : (g : Region) (k : ℕ) (p : Point) → IsIn (owned (cut_of r) k) p
      → in_region r.setup.shape g p ≡ true → in_zone r.setup (owned (cut_of r) k) g p ≡ true
  region_zone Interior k p mine e =
      and_from (has_point (owned (cut_of r) k) p) (not (is_boundary r.setup.shape p))
      (in_from (owned (cut_of r) k) p mine) e
  region_zone Boundary k p mine e = e
  region_zone Everywhere k p mine e = refl

  -- a part's zone names points of the region alone
  part_quiet : whole_passes ≡ true → (k : ℕ) → k < parts_in r → part_faults k ≡ false
  part_quiet pass k l = none_in (local (cut_of r) k) (λ p. zone k p && is_none (numbers p))
      (λ p near.
      zone_quiet (zone k p) (numbers p) (λ z.
      let w = wrap r.setup.shape p in
      ap is_some (sym (swept_wrapped r.setup r.rules x state iteration p (shape r run)))
      ∙ passed_some (in_region r.setup.shape (region_of x.writes) w) (numbers w)
      (test_at (whole r.setup.shape)
      (λ q. not (in_region r.setup.shape (region_of x.writes) q) || is_some (numbers q)) w pass
      ((lies r run k l).names p near))
      (region_wrapped (region_of x.writes) p ∙ zone_region (region_of x.writes) k p z)))

  -- and each point of the region is in the zone of the part that owns it
  whole_quiet : ((k : ℕ) → k < parts_in r → part_faults k ≡ false) → whole_passes ≡ true
  whole_quiet none = all_in (whole r.setup.shape)
      (λ p. not (in_region r.setup.shape (region_of x.writes) p) || is_some (numbers p))
      (λ p inside.
      let owner = (tiles (cut_of r) run.cut).each p inside in
      passes_by (in_region r.setup.shape (region_of x.writes) p) (numbers p) (λ e.
      some_there (zone owner.0 p) (numbers p) (region_zone (region_of x.writes) owner.0 p owner.2 e)
      (none_at (local (cut_of r) owner.0) (λ q. zone owner.0 q && is_none (numbers q)) p
      (none owner.0 owner.1) ((lies r run owner.0 owner.1).own p owner.2))))

  pub sweep_tiles : list_any part_faults (range_with_len 0 (parts_in r)) ≡ not whole_passes
  sweep_tiles = go (list_any part_faults (range_with_len 0 (parts_in r))) refl whole_passes refl
    where
      go : (a : Bool) → list_any part_faults (range_with_len 0 (parts_in r)) ≡ a → (b : Bool)
          → whole_passes ≡ b → list_any part_faults (range_with_len 0 (parts_in r))
          ≡ not whole_passes
      go true e false h = e ∙ sym (ap not h)
      go false e true h = e ∙ sym (ap not h)
      go true e true h =
          let k = some_of part_faults 0 (parts_in r) e in
          absurd (both_ways (part_faults k.0) (part_quiet h k.0 (omega (arith, k.1))) k.2)
      go false e false h = absurd
          (both_ways whole_passes h
          (whole_quiet (λ k l. none_of part_faults 0 (parts_in r) k e (omega arith)
          (omega (arith, l)))))

  -- the undivided turn has no state
  none_by : (b : Bool) (s : State) → not b ≡ is_none (if b then Some s else None)
  none_by true s = refl
  none_by false s = refl

  cell_none : (kind : ItemKind) → kind ≡ Cell
      → not whole_passes ≡ is_none (turn_by kind r.setup r.rules x state iteration)
  cell_none Cell e = none_by whole_passes
      (levels_after (whole r.setup.shape) (values_of r.setup state)
      (in_region r.setup.shape (region_of x.writes)) numbers 0 x.writes state)
  cell_none Scalar e = absurd cc
  cell_none Sum e = absurd cc
  cell_none Least e = absurd cc
  cell_none Greatest e = absurd cc
  cell_none Count e = absurd cc

  pub sweep_none : x.kind ≡ Cell
      → list_any part_faults (range_with_len 0 (parts_in r))
      ≡ is_none (turn r.setup r.rules x state iteration)
  sweep_none cell = sweep_tiles ∙ cell_none x.kind cell

-- ---- all operations

module _ (r : Run) (run : IsRun r) (some_part : 0 < parts_in r) where
  abbrev pub some_faulty : Op → Flat → Bool
  some_faulty o g = list_any (λ k. is_faulty r k o g) (range_with_len 0 (parts_in r))

  turn_met : (k iteration : ℕ) (x : Item) (before : State) (o : Option State)
      → is_none o ≡ is_some (met_of (turn_note k x iteration before o ∷ []))
  turn_met k iteration x before None = refl
  turn_met k iteration x before (Some s) = refl

  none_faulty : list_any (λ (k : ℕ). false) (range_with_len 0 (parts_in r)) ≡ false
  none_faulty = any_false (range_with_len 0 (parts_in r))

  zero_met : (n : ℤ) (v : VarId) (path : List ℕ) (limit : End) (s : State) → scalar_of s v ≡ n
      → by_zero n false true ≡ is_some (met_of (limit_note v path limit s ∷ []))
  zero_met (pos zero) v path limit s e =
      sym (ap (λ (n : ℤ). is_some (or_end (by_zero n None (Some limit)) None)) e)
  zero_met (pos (suc n)) v path limit s e =
      sym (ap (λ (n : ℤ). is_some (or_end (by_zero n None (Some limit)) None)) e)
  zero_met (negsuc n) v path limit s e =
      sym (ap (λ (n : ℤ). is_some (or_end (by_zero n None (Some limit)) None)) e)

  -- some part meets an end exactly where one is noted
  pub tiles_meet : (o : Op) (g : Flat) → NamesWell r.setup o
      → some_faulty o g ≡ is_some (met_of (notes_at r.setup r.rules o g.control g.state))
  tiles_meet (Sweep i) g h =
      sweep_none r run (item_at r.setup i g.control.iteration) g.state g.control.iteration h.1
      ∙ turn_met i g.control.iteration (item_at r.setup i g.control.iteration) g.state
      (turn r.setup r.rules (item_at r.setup i g.control.iteration) g.state g.control.iteration)
  tiles_meet (Apply i) g h =
      same_for_all
      (is_none (turn r.setup r.rules (item_at r.setup i g.control.iteration)
      g.state g.control.iteration)) (parts_in r) some_part
      ∙ turn_met i g.control.iteration (item_at r.setup i g.control.iteration) g.state
      (turn r.setup r.rules (item_at r.setup i g.control.iteration) g.state g.control.iteration)
  tiles_meet (Give i) g h = none_faulty
  tiles_meet (Join i) g h =
      same_for_all
      (is_none (turn r.setup r.rules (item_at r.setup i g.control.iteration)
      g.state g.control.iteration)) (parts_in r) some_part
      ∙ turn_met i g.control.iteration (item_at r.setup i g.control.iteration) g.state
      (turn r.setup r.rules (item_at r.setup i g.control.iteration) g.state g.control.iteration)
  tiles_meet (Post d vars) g h = none_faulty
  tiles_meet (Take d vars path) g h = none_faulty ∙ go (suc d == r.setup.shape.dims)
    where
      go : (b : Bool) → false
          ≡ is_some (met_of (if b then note (Exchanged vars path g.state) ∷ [] else []))
      go true = refl
      go false = refl
  tiles_meet (Test v path skip) g h = none_faulty
  tiles_meet Open g h = none_faulty
  tiles_meet (Turn v path skip) g h =
      same_for_all (last_turns g.control.opened == r.setup.while_limit
      && by_zero (scalar_of g.state v) false true) (parts_in r) some_part
      ∙ go (last_turns g.control.opened == r.setup.while_limit)
    where
      go : (b : Bool) → (b && by_zero (scalar_of g.state v) false true)
          ≡ is_some
          (met_of
          ((if b then limit_note v path (WhileLimit g.control.iteration path) g.state
          else note (Tested v path g.state)) ∷ []))
      go true = zero_met (scalar_of g.state v) v path (WhileLimit g.control.iteration path)
          g.state refl
      go false = refl
  tiles_meet (Again back) g h = none_faulty
  tiles_meet Rotate g h = none_faulty
  tiles_meet (Due skip) g h = none_faulty
  tiles_meet (Written skip) g h = none_faulty
  tiles_meet (Skip skip) g h = none_faulty
  tiles_meet (Next back) g h = none_faulty
  tiles_meet (Piece v) g h = none_faulty
  tiles_meet Save g h = none_faulty
  tiles_meet Halt g h = none_faulty
