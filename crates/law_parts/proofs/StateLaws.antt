-- The states of the undivided run, and of the way of all parts, are whole at all places.
use Rattle.std.proofs.Common.{◌≡◌, ℕ, zero, suc, ◌+◌, Bool, true, not, ◌&&◌, List, [], ◌∷◌, sym, ap, ◌∙◌, subst, ℤ, Option, Some, None}
use Rattle.std.specs.Prelude.{if◌then◌else◌, is_some}
use Rattle.std.specs.List.{list_all}
use Rattle.std.proofs.lemmas.Bool.{and_parts}
use Rattle.std.proofs.lemmas.List.FromFn.{length-map-range_with_len}
use Rattle.cx_grid.specs.declared.boxes.Point.{Point}
use Rattle.cx_grid.specs.Boxes.{point_count, point_in}
use Rattle.cx_grid.specs.Grid.{whole}
use Rattle.cx_plan.specs.declared.job.Job.{Job}
use Rattle.cx_plan.specs.declared.item.Touch.{Touch}
use Rattle.cx_plan.specs.declared.item.Item.{Item}
use Rattle.cx_plan.specs.declared.item.Region.{Region}
use Rattle.cx_plan.specs.declared.item.ItemKind.{ItemKind}
use Rattle.cx_plan.specs.declared.item.ItemKind.TheVariants.{Cell, Scalar, Sum, Least, Greatest, Count}
use Rattle.cx_plan.specs.Setups.{Setup, setup_of}
use Rattle.cx_plan.specs.Lookups.{item, is_scalar}
use Rattle.cx_plan.specs.Steering.{item_at}
use Rattle.cx_plan.specs.Regions.{has_shape, kinds_agree, is_some_list, are_distinct, read_needs, reduces, is_one, same_region, region_of, HasShapes}
use Rattle.cx_plan.specs.Whole.{IsWhole}
use Rattle.cx_rule.specs.Routine.{Rule}
use Rattle.cx_model.specs.States.{State, IsState, with_level}
use Rattle.cx_model.specs.Turns.{Values, values_of, in_region, swept_at, level_after, levels_after, numbers_at, first_point, if_fit, reduced, first_read, scalar_turn, number_or}
use Rattle.cx_model.proofs.StateLaws.{with_level_keeps, scalars_after_keeps, rotate_keeps}
use Rattle.cx_flat.specs.declared.op.Op.{Op}
use Rattle.cx_flat.specs.declared.op.Op.TheVariants.{Sweep, Apply, Give, Join, Post, Take, Test, Open, Turn, Again, Rotate, Due, Written, Skip, Next, Piece, Save, Halt}
use Rattle.cx_flat.specs.Code.{code, op_at}
use Rattle.cx_model.specs.Courses.{state_or, turned_by}
use Rattle.cx_flat.specs.Flats.{state_after}
use Rattle.law_parts.specs.Runs.{Run, Oracle, next_op, undivided, guided, guided_state, joined_at}
use Rattle.law_parts.specs.Operations.{IsRunItem, NamesWell}
use Rattle.law_parts.proofs.CodeLaws.{op_well}
use Rattle.law_parts.proofs.WholeReductions.{shape_reduces}
use Rattle.law_parts.proofs.ListLaws.{not_true}

kinds_of : (setup : Setup) (x : Item) → has_shape setup x ≡ true → kinds_agree setup x x.kind ≡ true
kinds_of setup x h =
    (and_parts (is_some_list x.writes && are_distinct x.writes) (kinds_agree setup x x.kind)
    (and_parts (is_some_list x.writes && are_distinct x.writes && kinds_agree setup x x.kind)
    (list_all (λ r. is_some (read_needs setup x r)) x.reads) h).0).1

-- levels of grid variables with other numbers
levels_keep : (setup : Setup) (region : Region) (values : Values) (zone : Point → Bool)
    (numbers : Point → Option (List ℤ)) (k : ℕ) (ws : List Touch) (state : State)
    → list_all (λ (w : Touch). not (is_scalar setup w.var) && same_region w.region region) ws ≡ true
    → IsState setup state → IsState setup
    (levels_after (whole setup.shape) values zone numbers k ws state)
levels_keep setup region values zone numbers k [] state h is = is
levels_keep setup region values zone numbers k (w ∷ ws) state h is =
    let both = and_parts (not (is_scalar setup w.var) && same_region w.region region)
    (list_all (λ (u : Touch). not (is_scalar setup u.var) && same_region u.region region) ws)
    h in
    let grid = not_true (is_scalar setup w.var)
    (and_parts (not (is_scalar setup w.var)) (same_region w.region region) both.0).0 in
    let old : Point → ℤ = values w.var w.level in
    levels_keep setup region values zone numbers (k + 1) ws
    (with_level state w.var w.level
    (level_after (whole setup.shape) zone numbers k (values w.var w.level))) both.1
    (with_level_keeps setup state w.var w.level
    (level_after (whole setup.shape) zone numbers k (values w.var w.level)) is
    (length-map-range_with_len
    (λ i. if zone (point_in (whole setup.shape) i)
    then number_or (numbers (point_in (whole setup.shape) i)) k
    (old (point_in (whole setup.shape) i)) else old (point_in (whole setup.shape) i)) 0
    (point_count (whole setup.shape))
    ∙ sym (ap (λ (b : Bool). if b then 1 else point_count (whole setup.shape)) grid)))

-- scalars with other numbers, or none
scalars_keep : (setup : Setup) (x : Item) (state : State) (o : Option (List ℤ))
    → list_all (λ (w : Touch). is_scalar setup w.var) x.writes ≡ true → IsState setup state
    → IsState setup (state_or (scalar_turn x state o) state)
scalars_keep setup x state None h is = is
scalars_keep setup x state (Some ns) h is = scalars_after_keeps setup x.writes ns state h is

reduces_writes : (setup : Setup) (x : Item) → reduces setup x ≡ true
    → list_all (λ (w : Touch). is_scalar setup w.var) x.writes ≡ true
reduces_writes setup x h =
    (and_parts (is_one x.reads && is_one x.writes
    && list_all (λ (r : Touch). not (is_scalar setup r.var)) x.reads)
    (list_all (λ (w : Touch). is_scalar setup w.var) x.writes) h).1

turned_keeps : (kind : ItemKind) (setup : Setup) (rules : List Rule) (x : Item) (state : State)
    (iteration : ℕ) → kinds_agree setup x kind ≡ true → IsState setup state
    → IsState setup (turned_by kind setup rules x state iteration)
turned_keeps Cell setup rules x state iteration h is =
    levels_keep setup (region_of x.writes) (values_of setup state)
    (in_region setup.shape (region_of x.writes))
    (swept_at setup rules x (values_of setup state) iteration) 0 x.writes state h is
turned_keeps Scalar setup rules x state iteration h is =
    scalars_keep setup x state
    (numbers_at setup rules x (values_of setup state) iteration first_point first_point)
    (and_parts (list_all (λ (w : Touch). is_scalar setup w.var) x.writes)
    (list_all (λ (r : Touch). is_scalar setup r.var) x.reads) h).0 is
turned_keeps Sum setup rules x state iteration h is =
    scalars_keep setup x state
    (if_fit setup x.writes (Some (reduced x.kind (first_read state x.reads) ∷ [])))
    (reduces_writes setup x h) is
turned_keeps Least setup rules x state iteration h is =
    scalars_keep setup x state
    (if_fit setup x.writes (Some (reduced x.kind (first_read state x.reads) ∷ [])))
    (reduces_writes setup x h) is
turned_keeps Greatest setup rules x state iteration h is =
    scalars_keep setup x state
    (if_fit setup x.writes (Some (reduced x.kind (first_read state x.reads) ∷ [])))
    (reduces_writes setup x h) is
turned_keeps Count setup rules x state iteration h is =
    scalars_keep setup x state
    (if_fit setup x.writes (Some (reduced x.kind (first_read state x.reads) ∷ [])))
    (reduces_writes setup x h) is

item_keeps : (setup : Setup) (rules : List Rule) (k : ℕ) (state : State) (iteration : ℕ)
    → IsRunItem setup k → IsState setup state
    → IsState setup (turned_by (item setup k).kind setup rules (item_at setup k iteration)
    state iteration)
item_keeps setup rules k state iteration h is =
    turned_keeps (item setup k).kind setup rules (item_at setup k iteration) state iteration
    (kinds_of setup (item_at setup k iteration) h.1) is

pub after_keeps : (setup : Setup) (rules : List Rule) (o : Op) (iteration : ℕ) (state : State)
    → NamesWell setup o → IsState setup state
    → IsState setup (state_after setup rules o iteration state)
after_keeps setup rules (Sweep k) iteration state h is =
    item_keeps setup rules k state iteration h.0 is
after_keeps setup rules (Apply k) iteration state h is =
    item_keeps setup rules k state iteration h.0 is
after_keeps setup rules (Give k) iteration state h is = is
after_keeps setup rules (Join k) iteration state h is =
    item_keeps setup rules k state iteration h.0 is
after_keeps setup rules (Post d vars) iteration state h is = is
after_keeps setup rules (Take d vars path) iteration state h is = is
after_keeps setup rules (Test v path skip) iteration state h is = is
after_keeps setup rules Open iteration state h is = is
after_keeps setup rules (Turn v path skip) iteration state h is = is
after_keeps setup rules (Again back) iteration state h is = is
after_keeps setup rules Rotate iteration state h is = rotate_keeps setup state is
after_keeps setup rules (Due skip) iteration state h is = is
after_keeps setup rules (Written skip) iteration state h is = is
after_keeps setup rules (Skip skip) iteration state h is = is
after_keeps setup rules (Next back) iteration state h is = is
after_keeps setup rules (Piece v) iteration state h is = is
after_keeps setup rules Save iteration state h is = is
after_keeps setup rules Halt iteration state h is = is

pub guided_keeps : (r : Run) (oracle : Oracle) (n : ℕ) (o : Op) (iteration : ℕ) (state : State)
    → NamesWell r.setup o → IsState r.setup state
    → IsState r.setup (guided_state r oracle n o iteration state)
guided_keeps r oracle n (Sweep k) iteration state h is =
    item_keeps r.setup r.rules k state iteration h.0 is
guided_keeps r oracle n (Apply k) iteration state h is =
    item_keeps r.setup r.rules k state iteration h.0 is
guided_keeps r oracle n (Give k) iteration state h is = is
guided_keeps r oracle n (Join k) iteration state h is =
    scalars_keep r.setup (item r.setup k) state
    (if_fit r.setup (item r.setup k).writes (Some (joined_at r oracle k n ∷ [])))
    (reduces_writes r.setup (item r.setup k) (shape_reduces r.setup (item r.setup k) h.1 h.0.1)) is
guided_keeps r oracle n (Post d vars) iteration state h is = is
guided_keeps r oracle n (Take d vars path) iteration state h is = is
guided_keeps r oracle n (Test v path skip) iteration state h is = is
guided_keeps r oracle n Open iteration state h is = is
guided_keeps r oracle n (Turn v path skip) iteration state h is = is
guided_keeps r oracle n (Again back) iteration state h is = is
guided_keeps r oracle n Rotate iteration state h is = rotate_keeps r.setup state is
guided_keeps r oracle n (Due skip) iteration state h is = is
guided_keeps r oracle n (Written skip) iteration state h is = is
guided_keeps r oracle n (Skip skip) iteration state h is = is
guided_keeps r oracle n (Next back) iteration state h is = is
guided_keeps r oracle n (Piece v) iteration state h is = is
guided_keeps r oracle n Save iteration state h is = is
guided_keeps r oracle n Halt iteration state h is = is

-- ---- of a whole job

module _ (job : Job) (w : IsWhole job) (shapes : HasShapes (setup_of job)) (r : Run)
    (is : r.setup ≡ setup_of job) (first : IsState r.setup r.first.state) where
  well_at : (pc : ℕ) → NamesWell r.setup (op_at (code r.setup) pc)
  well_at pc = subst (λ s. NamesWell s (op_at (code s) pc)) (sym is) (op_well job w shapes pc)

  pub undivided_states : (n : ℕ) → IsState r.setup (undivided r n).state
  undivided_states zero = first
  undivided_states (suc n) =
      let g = undivided r n in
      after_keeps r.setup r.rules (next_op r g.control) g.control.iteration g.state
      (well_at g.control.pc) (undivided_states n)

  pub guided_states : (oracle : Oracle) (n : ℕ) → IsState r.setup (guided r oracle n).state
  guided_states oracle zero = first
  guided_states oracle (suc n) =
      let g = guided r oracle n in
      guided_keeps r oracle n (next_op r g.control) g.control.iteration g.state
      (well_at g.control.pc) (guided_states oracle n)
