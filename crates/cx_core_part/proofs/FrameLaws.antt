-- Patches of a job: what an item asks of one, and that the patch at the start has it.
use Rattle.std.proofs.Common.{◌≡◌, ℕ, zero, suc, ◌+◌, ◌-◌, ◌*◌, ◌<◌, ◌≤◌, min, arith, true, refl, sym, ap, ◌∙◌, subst, ◌⊎◌, inl, inr, List, [], ◌∷◌, length, map, replicate, get_or, pos}
use Rattle.std.specs.Prelude.{◌^◌, All, Contains}
use Rattle.std.specs.List.{sum_by}
use Rattle.std.proofs.lemmas.List.{get_or_past, length-replicate}
use Rattle.std.proofs.lemmas.List.Elements.{All-contains, All-get_or}
use Rattle.std.proofs.lemmas.List.Folds.{fold-map}
use Rattle.std.proofs.lemmas.List.Sums.{sum_by-le}
use Rattle.cx_grid.specs.declared.boxes.Box3.{Box3}
use Rattle.cx_grid.specs.declared.shapes.Shape.{Shape}
use Rattle.cx_grid.specs.Boxes.{point_count}
use Rattle.cx_grid.proofs.Reaching.{reach_few}
use Rattle.cx_plan.specs.declared.item.Item.{Item}
use Rattle.cx_plan.specs.declared.item.ItemKind.TheVariants.{Cell, Scalar}
use Rattle.cx_plan.specs.declared.item.Touch.{Touch}
use Rattle.cx_plan.specs.declared.job.Job.{Job}
use Rattle.cx_plan.specs.Setups.{Setup, setup_of}
use Rattle.cx_plan.specs.Steering.{item_at}
use Rattle.cx_plan.specs.Lookups.{item, no_item}
use Rattle.cx_plan.specs.Regions.{has_shape, run_items}
use Rattle.cx_plan.specs.Whole.{IsItem, IsTouch, IsSmall}
use Rattle.cx_rule.specs.Jobs.{FitItem, FitJob, IsRoutineOf}
use Rattle.cx_rule.specs.Seen.{volume_of, volumes}
use Rattle.cx_rule.specs.Sweeps.{reach_of}
use Rattle.cx_rule.specs.declared.spec.Spec.{Spec}
use Rattle.cx_cut.specs.Cuts.{Parts}
use Rattle.cx_cut.specs.Faults.{parts_of}
use Rattle.cx_field.specs.Patches.{PatchValue, IsStored, setup_in, new_patch, value_count, write_count, capped}
use Rattle.cx_plan.specs.Lists.{greatest}
use Rattle.cx_flat.specs.declared.op.Op.{Op}
use Rattle.law_parts.specs.Operations.{NamesWell}
use Rattle.law_parts.proofs.CodeLaws.{op_well}
use Rattle.cx_core_part.specs.Jobs.{IsChecked, IsOperation}
use Rattle.cx_core_part.proofs.CopyLaws.{as_many}
use Rattle.cx_core_part.proofs.Known.{IsKnown}
use Rattle.cx_core_part.proofs.KnownLaws.{op_known}
use Rattle.cx_core_part.specs.Frames.{HasRoomFor, IsPatchFor, IsPatchOf, IsInCut, KeepsFrame}
use Rattle.cx_core_part.specs.Items.{CanTurn}

-- ---- frames

-- a patch by what it knows of its job
pub same_patch : (setup : Setup) (p : PatchValue) → p.shape ≡ setup.shape → p.vars ≡ setup.vars
    → (record p { shape = setup.shape; vars = setup.vars }) ≡ p
same_patch setup p shape vars =
    ap (λ s. record p { shape = s; vars = setup.vars }) (sym shape)
    ∙ ap (λ v. record p { vars = v }) (sym vars)

-- what is kept is the patch of the same part
pub still_of : (setup : Setup) (cut : Parts) (k : ℕ) (old new : PatchValue) → KeepsFrame old new
    → IsPatchOf setup cut k old → IsPatchOf setup cut k new
still_of setup cut k old new same h = record {
  patch = record {
    shape = ap (λ (p : PatchValue). p.shape) same.numbers ∙ h.patch.shape;
    vars = ap (λ (p : PatchValue). p.vars) same.numbers ∙ h.patch.vars;
    rooms = λ i d l.
        let room = h.patch.rooms i d l in
        let few = room.writes in
        let count = same.buffers in
        record {
          writes = omega (arith, few, count);
          values =
              subst (λ n. value_count setup.shape.dims (item setup (get_or (run_items setup) i d))
              ≤ n) (sym (ap (λ (p : PatchValue). p.room) same.numbers)) room.values;
        };
  };
  owned_is = ap (λ (p : PatchValue). p.owned) same.numbers ∙ h.owned_is;
  local_is = ap (λ (p : PatchValue). p.local) same.numbers ∙ h.local_is;
}

-- ---- what an item asks

-- an item in a shape of the table is there
pub is_there : (setup : Setup) (i : ℕ) → has_shape setup (item setup i) ≡ true
    → i < length setup.items
is_there setup i h = go (cases (length setup.items) i)
  where
    cases : (n i : ℕ) → (i < n) ⊎ (n ≤ i)
    cases zero i = inr (omega arith)
    cases (suc n) zero = inl (omega arith)
    cases (suc n) (suc i) = more (cases n i)
      where
        more : (i < n) ⊎ (n ≤ i) → (suc i < suc n) ⊎ (suc n ≤ suc i)
        more (inl l) = inl (omega (arith, l))
        more (inr l) = inr (omega (arith, l))

    go : (i < length setup.items) ⊎ (length setup.items ≤ i) → i < length setup.items
    go (inl l) = l
    go (inr l) =
        let none : has_shape setup no_item ≡ true =
        subst (λ x. has_shape setup x ≡ true) (get_or_past setup.items i no_item l) h in
        absurd cc

module _ (job : Job) (checked : IsChecked job) (p : PatchValue)
    (patch : IsPatchFor (setup_of job) p) where
  abbrev S : Setup
  S = setup_of job

  abbrev cut : Parts
  cut = parts_of job.shape job.cut

  abbrev Stored : Touch → Type 0
  Stored t = IsStored p t.var t.level

  -- a stored level of the job is one of the patch
  pub stored_in : (t : Touch) → IsTouch job t → Stored t
  stored_in t h =
      subst (λ q. IsStored q t.var t.level) (same_patch S p patch.shape patch.vars)
      (record { var = h.0; stored = h.1 })

  pub shape_in : (x : Item) → has_shape S x ≡ true → has_shape (setup_in p) x ≡ true
  shape_in x h = subst (λ q. has_shape (setup_in q) x ≡ true)
      (same_patch S p patch.shape patch.vars) h

  module _ (i : ℕ) (run : Contains (run_items S) i) where
    abbrev it : Item
    it = item S i

    pub shaped : has_shape S it ≡ true
    shaped = All-contains (λ k. has_shape S (item S k) ≡ true) (run_items S) i checked.shapes run

    pub there : i < length S.items
    there = is_there S i shaped

    touches : IsItem job it
    touches = All-get_or (IsItem job) S.items i no_item there checked.whole.items

    pub reads_stored : All Stored it.reads
    reads_stored k d l = stored_in (get_or it.reads k d) (touches.reads k d l)

    pub writes_stored : All Stored it.writes
    writes_stored k d l = stored_in (get_or it.writes k d) (touches.writes k d l)

    small : IsSmall it
    small = All-contains (λ k. IsSmall (item S k)) (run_items S) i checked.whole.run_items run

    room : HasRoomFor S p it
    room = All-contains (λ k. HasRoomFor S p (item S k)) (run_items S) i patch.rooms run

    -- an item that is run can be swept with its routine
    pub can_turn : (specs : List Spec) → FitJob specs job → IsInCut cut p
        → (it.kind ≡ Cell) ⊎ (it.kind ≡ Scalar) → CanTurn specs it p
    can_turn specs fit part kind =
        let has : FitItem specs cut it =
        All-contains (λ k. FitItem specs cut (item S k)) (run_items S) i fit run in
        record {
          routine = has.routine;
          sweep = record {
            routine = has.routine.its;
            kind = kind;
            declared = shape_in it shaped;
            reads = reads_stored;
            writes = writes_stored;
            buffers = room.writes;
            values = subst (λ (s : Shape). value_count s.dims it ≤ p.room) (sym patch.shape)
                room.values;
            params = small.params;
            cap = subst (λ b. point_count b ≤ has.routine.spec.cap) (sym part.local_is)
                (has.parts part.part part.below);
          };
        }

-- also with its parameters in an iteration
pub turns_at : (setup : Setup) (specs : List Spec) (k n : ℕ) (p : PatchValue)
    → CanTurn specs (item setup k) p → CanTurn specs (item_at setup k n) p
turns_at setup specs k n p can =
    record {
      routine = record {
        spec = can.routine.spec;
        object = can.routine.object;
        its = its can.routine.its;
      };
      sweep = record {
        routine = its can.sweep.routine;
        kind = can.sweep.kind;
        declared = can.sweep.declared;
        reads = can.sweep.reads;
        writes = can.sweep.writes;
        buffers = can.sweep.buffers;
        values = can.sweep.values;
        params = subst (λ m. m ≤ 32) (sym count) can.sweep.params;
        cap = can.sweep.cap;
      };
    }
  where
    count : length (item_at setup k n).params ≡ length (item setup k).params
    count = as_many setup.steers k n (item setup k).params

    its : {s : Spec} → IsRoutineOf s (item setup k) → IsRoutineOf s (item_at setup k n)
    its h =
        record {
          thorn = h.thorn;
          name = h.name;
          kind = h.kind;
          reads = h.reads;
          writes = h.writes;
          params = count ∙ h.params;
        }

-- ---- the patch at the start

volumes_few : (dims : ℕ) (reads : List Touch) → All (λ (r : Touch). r.reach < 256) reads
    → volumes dims (map reach_of reads) ≤ length reads * 133432831
volumes_few dims reads h =
    let few = sum_by-le (λ (r : Touch). volume_of dims r.reach) 133432831 reads
    (λ i d l. reach_few dims (get_or reads i d).reach (h i d l)) in
    let sum : volumes dims (map reach_of reads)
    ≡ sum_by (λ (r : Touch). volume_of dims r.reach) reads =
    fold-map (λ a n. a + volume_of dims n) reach_of 0 reads in
    subst (λ n. n ≤ length reads * 133432831) (sym sum) few

capped_values : (n v g : ℕ) → v ≤ n * 133432831 → n ≤ 32 → v ≤ g → v ≤ min g (2 ^ 32 - 1)
capped_values n v g h l m = omega (arith, h, l, m)

capped_writes : (n g : ℕ) → n ≤ 16 → n ≤ g → n ≤ min g (2 ^ 32 - 1)
capped_writes n g l m = omega (arith, l, m)

among_greatest : {X : Type 0} (f : X → ℕ) (xs : List X) (i : ℕ) (d : X) → i < length xs
    → f (get_or xs i d) ≤ greatest (map f xs)
among_greatest f [] i d l = absurd (omega (arith, l))
among_greatest f (x ∷ xs) zero d l = omega arith
among_greatest f (x ∷ xs) (suc i) d l =
    let m = among_greatest f xs i d (omega (arith, l)) in
    omega (arith, m)

-- the farthest reach of all reads is one of 8 bits
abbrev pub AreNear : List Item → ℕ → Type 0
AreNear items most = All (λ (x : Item). All (λ (r : Touch). r.reach ≤ most) x.reads) items

-- a new patch has room for each item that is run
pub new_rooms : (job : Job) → IsChecked job → (most : ℕ) → most < 256 → AreNear job.items most
    → (own near : Box3)
    → IsPatchFor (setup_of job) (new_patch job.shape own near job.vars job.items)
new_rooms job checked most below far own near = record { shape = refl; vars = refl; rooms = rooms }
  where
    rooms : All (λ i. HasRoomFor (setup_of job) (new_patch job.shape own near job.vars job.items)
        (item (setup_of job) i)) (run_items (setup_of job))
    rooms j d l =
        let S = setup_of job in
        let i = get_or (run_items S) j d in
        let small = checked.whole.run_items j d l in
        let at = is_there S i (checked.shapes j d l) in
        let count = length-replicate (capped (greatest (map write_count job.items)))
        (replicate (point_count near) (pos 0)) in
        let writes = capped_writes (length (item S i).writes) (greatest (map write_count job.items))
        small.writes (among_greatest write_count job.items i no_item at) in
        record {
          writes = omega (arith, count, writes);
          values =
              capped_values (length (item S i).reads) (value_count job.shape.dims (item S i))
              (greatest (map (value_count job.shape.dims) job.items))
              (volumes_few job.shape.dims (item S i).reads
              (λ k e m. let near = far i no_item at k e m in omega (arith, near, below)))
              small.reads (among_greatest (value_count job.shape.dims) job.items i no_item at);
        }

-- ---- the items of operations

module _ (job : Job) (checked : IsChecked job) (o : Op) (here : IsOperation (setup_of job) o) where
  pub names_well : NamesWell (setup_of job) o
  names_well = subst (NamesWell (setup_of job)) here.1
      (op_well job checked.whole checked.shapes here.0)

  pub is_known : IsKnown job o
  is_known = subst (IsKnown job) here.1 (op_known job checked.whole here.0)
