-- The states of runs are whole.
use Rattle.std.proofs.Common.{◌≡◌, ℕ, zero, suc, ◌+◌, ◌<◌, ℤ, pos, negsuc, Bool, true, false, not, ◌||◌, refl, subst, List, [], ◌∷◌, ◌++◌, Option, Some, None, is_some, if◌then◌else◌}
use Rattle.std.specs.List.{All, list_all}
use Rattle.std.proofs.lemmas.Bool.{and_parts}
use Rattle.std.proofs.lemmas.List.Elements.{All-nil, All-cons, All-head, All-tail}
use Rattle.cx_grid.specs.declared.boxes.Point.{Point}
use Rattle.cx_grid.specs.Boxes.{points_in}
use Rattle.cx_grid.specs.Grid.{whole}
use Rattle.cx_plan.specs.declared.variable.VarId.{VarId}
use Rattle.cx_plan.specs.declared.item.Region.{Region}
use Rattle.cx_plan.specs.declared.item.Touch.{Touch}
use Rattle.cx_plan.specs.declared.item.ItemKind.{ItemKind}
use Rattle.cx_plan.specs.declared.item.ItemKind.TheVariants.{Cell, Scalar, Sum, Least, Greatest, Count}
use Rattle.cx_plan.specs.declared.item.Item.{Item}
use Rattle.cx_plan.specs.declared.tree.Tree.{Tree, Seq', Call, Sync, If', While', Row_of-Tree, end_of-Tree, more_of-Tree}
use Rattle.cx_plan.specs.Setups.{Setup}
use Rattle.cx_plan.specs.Lookups.{bin, is_scalar, run_bin_count}
use Rattle.cx_plan.specs.Steering.{item_at}
use Rattle.cx_plan.specs.Regions.{region_of, kinds_agree, reduces}
use Rattle.cx_rule.specs.Routine.{Rule}
use Rattle.cx_rule.specs.States.{State, scalar_of, rotate, with_level}
use Rattle.cx_model.specs.States.{IsState, start}
use Rattle.cx_rule.specs.Sweeps.{Values, in_region, level_after, levels_after, number_or, scalar_turn, first_point}
use Rattle.cx_model.specs.Turns.{values_of, swept_at, numbers_at, reduce_turn, turn_by, turn}
use Rattle.cx_model.specs.declared.ends.End.{End}
use Rattle.cx_model.specs.declared.ends.End.TheVariants.{WhileLimit}
use Rattle.cx_model.specs.Traces.{Entry, Tested, Rotated, Saved, Outcome, Goes, Ends, Trace, stays, ends, does, after, follow, then_go}
use Rattle.cx_model.specs.Trees.{at_zero, test, turn_trace, loop, run_tree, run_row}
use Rattle.cx_model.specs.Stages.{Stage, Bin, Rotate, Save, Write, stages, stages_after}
use Rattle.cx_model.specs.Runs.{run_stage, run_stages, Lengths, no_lengths, lengths_after, passing, stop_or, within_limit, continued_run}
use Rattle.cx_model.specs.Runs.{all_written as texts_of}
use Rattle.cx_model.proofs.StateLaws.{start_is_state, rotate_keeps, with_level_keeps, scalars_after_keeps}
use Rattle.cx_model.specs.Agreement.{IsReady, IsReadyTree, IsReadyRow}
use Rattle.cx_model.specs.Alike.{run_from}
use Rattle.cx_model.specs.Values.{state_before, KeepsStates}
use Rattle.cx_model.proofs.PointLaws.{numbers-count}
use Rattle.cx_model.proofs.WalkLaws.{Each, each-both}
use Rattle.cx_model.proofs.TurnLaws.{declared}
use Rattle.cx_model.proofs.CellLaws.{IsGridWrite, grid-writes}
use Rattle.cx_model.proofs.RunLaws.{EachBin, each-of-stages, each-of-after}
use Rattle.cx_model.proofs.ReadyLaws.{ready-at}

-- ---- turns

abbrev IsStateOr : Setup → Option State → Type 0
IsStateOr setup None = Unit {0}
IsStateOr setup (Some state) = IsState setup state

levels-keep : (setup : Setup) (region : Region) (values : Values) (zone : Point → Bool)
    (numbers : Point → Option (List ℤ)) (k : ℕ) (ws : List Touch) (state : State)
    → All (IsGridWrite setup region) ws → IsState setup state
    → IsState setup (levels_after (whole setup.shape) values zone numbers k ws state)
levels-keep setup region values zone numbers k [] state grid is = is
levels-keep setup region values zone numbers k (w ∷ ws) state grid is =
    let level = level_after (whole setup.shape) zone numbers k (values w.var w.level) in
    let g = All-head (IsGridWrite setup region) w ws grid in
    levels-keep setup region values zone numbers (k + 1) ws (with_level state w.var w.level level)
    (All-tail (IsGridWrite setup region) w ws grid)
    (with_level_keeps setup state w.var w.level level is
    (rw g.0 (numbers-count (whole setup.shape)
    (λ p. if zone p then number_or (numbers p) k (values w.var w.level p)
    else values w.var w.level p))))

if-keeps : (setup : Setup) (b : Bool) (state : State) → IsState setup state
    → IsStateOr setup (if b then Some state else None)
if-keeps setup true state is = is
if-keeps setup false state is = tt

scalar-keeps : (setup : Setup) (x : Item) (state : State) (o : Option (List ℤ))
    → list_all (λ (w : Touch). is_scalar setup w.var) x.writes ≡ true → IsState setup state
    → IsStateOr setup (scalar_turn x state o)
scalar-keeps setup x state None scalars is = tt
scalar-keeps setup x state (Some ns) scalars is =
    scalars_after_keeps setup x.writes ns state scalars is

turn-keeps : (setup : Setup) (rules : List Rule) (x : Item) (state : State) (iteration : ℕ)
    → IsReady setup x → IsState setup state → IsStateOr setup (turn setup rules x state iteration)
turn-keeps setup rules x state iteration ready is = by x.kind refl
  where
    agrees : kinds_agree setup x x.kind ≡ true
    agrees = (declared setup x ready.declared).agree

    reduction : reduces setup x ≡ true → IsStateOr setup (reduce_turn setup x state)
    reduction e = scalar-keeps setup x state _
        (and_parts _ (list_all (λ (w : Touch). is_scalar setup w.var) x.writes) e).1 is

    by : (k : ItemKind) → x.kind ≡ k → IsStateOr setup (turn_by k setup rules x state iteration)
    by Cell e =
        let values = values_of setup state in
        let zone = in_region setup.shape (region_of x.writes) in
        let numbers = swept_at setup rules x values iteration in
        if-keeps setup (list_all (λ p. not (zone p) || is_some (numbers p))
        (points_in (whole setup.shape)))
        (levels_after (whole setup.shape) values zone numbers 0 x.writes state)
        (levels-keep setup (region_of x.writes) values zone numbers 0 x.writes state
        (grid-writes setup (region_of x.writes) x.writes
        (subst (λ k. kinds_agree setup x k ≡ true) e agrees)) is)
    by Scalar e =
        scalar-keeps setup x state
        (numbers_at setup rules x (values_of setup state) iteration first_point first_point)
        (and_parts (list_all (λ (w : Touch). is_scalar setup w.var) x.writes)
        (list_all (λ (r : Touch). is_scalar setup r.var) x.reads)
        (subst (λ k. kinds_agree setup x k ≡ true) e agrees)).0 is
    by Sum e = reduction (subst (λ k. kinds_agree setup x k ≡ true) e agrees)
    by Least e = reduction (subst (λ k. kinds_agree setup x k ≡ true) e agrees)
    by Greatest e = reduction (subst (λ k. kinds_agree setup x k ≡ true) e agrees)
    by Count e = reduction (subst (λ k. kinds_agree setup x k ≡ true) e agrees)

-- ---- traces

abbrev HasState : Setup → Entry → Type 0
HasState setup e = IsState setup (state_before e)

abbrev GoesWhole : Setup → Outcome → Type 0
GoesWhole setup (Goes state) = IsState setup state
GoesWhole setup (Ends end) = Unit {0}

record Keeps (setup : Setup) (t : Trace) : Type 0 where
  entries : Each (HasState setup) t.entries
  outcome : GoesWhole setup t.outcome

abbrev KeepsFrom : Setup → (State → Trace) → Type 0
KeepsFrom setup body = (state : State) → IsState setup state → Keeps setup (body state)

keeps-then : (setup : Setup) (t : Trace) (next : State → Trace) → Keeps setup t
    → KeepsFrom setup next → Keeps setup (then_go t next)
keeps-then setup t next one two = by t.outcome one.outcome
  where
    by : (o : Outcome) → GoesWhole setup o → Keeps setup (after t.entries (follow o next))
    by (Goes state) is = let r = two state is in
        record {
          entries = each-both (HasState setup) t.entries
              (next state).entries one.entries r.entries;
          outcome = r.outcome;
        }
    by (Ends end) is = record {
      entries = each-both (HasState setup) t.entries [] one.entries tt;
      outcome = tt;
    }

keeps-test : (setup : Setup) (v : VarId) (path : List ℕ) (a b : State → Trace) (state : State)
    → IsState setup state → Keeps setup (a state) → Keeps setup (b state)
    → Keeps setup (test v path a b state)
keeps-test setup v path a b state is one two = by (scalar_of state v)
  where
    by : (n : ℤ) → Keeps setup (after (Tested v path state ∷ []) (at_zero n a b state))
    by (pos zero) = record { entries = (is, one.entries); outcome = one.outcome }
    by (pos (suc n)) = record { entries = (is, two.entries); outcome = two.outcome }
    by (negsuc n) = record { entries = (is, two.entries); outcome = two.outcome }

keeps-stays : (setup : Setup) → KeepsFrom setup stays
keeps-stays setup state is = record { entries = tt; outcome = is }

keeps-loop : (setup : Setup) (v : VarId) (path : List ℕ) (limit : End) (body : State → Trace)
    → KeepsFrom setup body → (turns : ℕ) → KeepsFrom setup (loop v path limit body turns)
keeps-loop setup v path limit body each zero state is =
    keeps-test setup v path stays (λ _. ends limit) state is (keeps-stays setup state is)
    (record { entries = tt; outcome = tt })
keeps-loop setup v path limit body each (suc turns) state is =
    let next = loop v path limit body turns in
    keeps-test setup v path stays (λ s. then_go (body s) next) state is (keeps-stays setup state is)
    (keeps-then setup (body state) next (each state is)
    (keeps-loop setup v path limit body each turns))

keeps-turn : (setup : Setup) (k : ℕ) (x : Item) (iteration : ℕ) (state : State) (o : Option State)
    → IsState setup state → IsStateOr setup o → Keeps setup (turn_trace k x iteration state o)
keeps-turn setup k x iteration state None is new = record { entries = (is, tt); outcome = tt }
keeps-turn setup k x iteration state (Some now) is new =
    record { entries = (is, tt); outcome = new }

mutual
  keeps-tree : (setup : Setup) (rules : List Rule) (iteration : ℕ) (tree : Tree)
      → IsReadyTree setup tree → KeepsFrom setup (run_tree setup rules iteration tree)
  keeps-tree setup rules iteration (Seq' shape all) ready =
      keeps-row setup rules iteration all ready
  keeps-tree setup rules iteration (Call k) ready = λ state is.
      keeps-turn setup k (item_at setup k iteration) iteration state
      (turn setup rules (item_at setup k iteration) state iteration) is
      (turn-keeps setup rules (item_at setup k iteration) state iteration
      (ready-at setup k iteration ready) is)
  keeps-tree setup rules iteration (Sync vars path) ready =
      λ state is. record { entries = (is, tt); outcome = is }
  keeps-tree setup rules iteration (If' v path shape one) ready = λ state is.
      keeps-test setup v path stays (run_row setup rules iteration one) state is
      (keeps-stays setup state is) (keeps-row setup rules iteration one ready.1 state is)
  keeps-tree setup rules iteration (While' v path shape one) ready =
      keeps-loop setup v path (WhileLimit iteration path) (run_row setup rules iteration one)
      (keeps-row setup rules iteration one ready.1) setup.while_limit

  keeps-row : {m : _} (setup : Setup) (rules : List Rule) (iteration : ℕ) (row : Row_of-Tree m)
      → IsReadyRow setup row → KeepsFrom setup (run_row setup rules iteration row)
  keeps-row setup rules iteration end_of-Tree ready = keeps-stays setup
  keeps-row setup rules iteration (more_of-Tree tree rest) ready = λ state is.
      keeps-then setup (run_tree setup rules iteration tree state)
      (run_row setup rules iteration rest)
      (keeps-tree setup rules iteration tree ready.0 state is)
      (keeps-row setup rules iteration rest ready.1)

keeps-texts : (setup : Setup) (n : ℕ) (state : State) (vs : List VarId) → IsState setup state
    → Each (HasState setup) (texts_of setup n state vs)
keeps-texts setup n state [] is = tt
keeps-texts setup n state (v ∷ vs) is = (is, keeps-texts setup n state vs is)

keeps-stages : (setup : Setup) (rules : List Rule) (ss : List Stage)
    → ((b : ℕ) → b < run_bin_count → IsReadyTree setup (bin setup b)) → EachBin ss
    → KeepsFrom setup (run_stages setup rules ss)
keeps-stages setup rules [] trees each = keeps-stays setup
keeps-stages setup rules (Bin k n ∷ ss) trees each = λ state is.
    keeps-then setup (run_tree setup rules n (bin setup k) state) (run_stages setup rules ss)
    (keeps-tree setup rules n (bin setup k) (trees k each.0) state is)
    (keeps-stages setup rules ss trees each.1)
keeps-stages setup rules (Rotate ∷ ss) trees each = λ state is.
    keeps-then setup (does (Rotated state) (rotate state)) (run_stages setup rules ss)
    (record { entries = (is, tt); outcome = rotate_keeps setup state is })
    (keeps-stages setup rules ss trees each)
keeps-stages setup rules (Save n ∷ ss) trees each = λ state is.
    keeps-then setup (does (Saved n state) state) (run_stages setup rules ss)
    (record { entries = (is, tt); outcome = is }) (keeps-stages setup rules ss trees each)
keeps-stages setup rules (Write n ∷ ss) trees each = λ state is.
    keeps-then setup (run_stage setup rules (Write n) state) (run_stages setup rules ss)
    (record { entries = keeps-texts setup n state setup.out_vars is; outcome = is })
    (keeps-stages setup rules ss trees each)

each-within : (P : Entry → Type 0) (so_far : Lengths) (es : List Entry) (o : Outcome) → Each P es
    → Each P (within_limit so_far es o).entries
each-within P so_far [] o each = tt
each-within P so_far (e ∷ es) o each =
    by (passing so_far e) (within_limit (lengths_after so_far e) es o)
    (each-within P (lengths_after so_far e) es o each.1)
  where
    by : (p : Option ℕ) (rest : Trace) → Each P rest.entries
        → Each P (stop_or p (after (e ∷ []) rest)).entries
    by None rest others = (each.0, others)
    by (Some n) rest others = tt

all-each : (P : Entry → Type 0) (es : List Entry) → Each P es → All P es
all-each P [] each = All-nil P
all-each P (e ∷ es) each = All-cons P e es each.0 (all-each P es each.1)

each-there : (P : Entry → Type 0) (xs : List Entry) (e : Entry) (ys : List Entry)
    → Each P (xs ++ e ∷ ys) → P e
each-there P [] e ys each = each.0
each-there P (x ∷ xs) e ys each = each-there P xs e ys each.1

pub keeps-states : (setup : Setup) (rules : List Rule)
    → ((b : ℕ) → b < run_bin_count → IsReadyTree setup (bin setup b)) → KeepsStates setup rules
keeps-states setup rules trees =
    record {
      begins = start_is_state setup;
      run = λ first is. all-each P _ (whole_run first is);
      continued = λ c state so_far is. all-each P _ (rest c state so_far is);
      reached = λ c state so_far r.
          each-there P r.earlier (Saved c state) r.later
          (subst (Each P) r.there (whole_run (start setup) (start_is_state setup)));
      reached_later = λ c state so_far d now written is r.
          each-there P r.earlier (Saved d now) r.later
          (subst (Each P) r.there (rest c state so_far is));
    }
  where
    P : Entry → Type 0
    P = HasState setup

    whole_run : (first : State) → IsState setup first → Each P (run_from setup rules first).entries
    whole_run first is =
        let t = run_stages setup rules (stages setup) first in
        each-within P no_lengths t.entries t.outcome
        (keeps-stages setup rules (stages setup) trees (each-of-stages setup) first is).entries

    rest : (c : ℕ) (state : State) (so_far : Lengths) → IsState setup state
        → Each P (continued_run setup rules c state so_far).entries
    rest c state so_far is =
        let t = run_stages setup rules (stages_after setup c) state in
        each-within P so_far t.entries t.outcome
        (keeps-stages setup rules (stages_after setup c) trees (each-of-after setup c)
        state is).entries
