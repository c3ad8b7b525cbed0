use Rattle.std.specs.Prelude.{ℕ, Bool, true, false, ◌≡◌, refl, ℤ, pos, negsuc, List, [], ◌∷◌, ◌++◌, Some, None, replicate, codes}
use Rattle.cx_text.specs.declared.ctype.CType.TheVariants.{Int8}
use Rattle.cx_grid.specs.declared.shapes.Shape.{Shape}
use Rattle.cx_plan.specs.declared.variable.VarId.{VarId}
use Rattle.cx_plan.specs.declared.item.Region.{Region}
use Rattle.cx_plan.specs.declared.item.Region.TheVariants.{Interior, Boundary, Everywhere}
use Rattle.cx_plan.specs.declared.item.Touch.{Touch}
use Rattle.cx_plan.specs.declared.item.ItemKind.TheVariants.{Cell}
use Rattle.cx_plan.specs.declared.item.Item.{Item}
use Rattle.cx_plan.specs.declared.flag.Flag.TheVariants.{I, B, G}
use Rattle.cx_plan.specs.Setups.{Setup}
use Rattle.cx_plan.specs.declared.tree.Tree.{Tree, Seq, Call, Sync, If, While}
use Rattle.cx_plan.specs.Lookups.{is_empty, called, bin, item}
use Rattle.cx_plan.specs.Regions.{Turns, Syncs, Rotates, Outputs, cleared, has_shape}
use Rattle.cx_plan.specs.Paths.{Mark, Meets, letter_i, first_unmet, PathOfJob, IsUnset, Sound}

abbrev phi : VarId
phi = record { 0 = 0 }

abbrev touch : ℕ → Region → ℕ → Touch
touch level region reach = record { var = phi; level = level; region = region; reach = reach }

abbrev cell : List Touch → List Touch → Item
cell reads writes = record {
  thorn = codes "WaveInt";
  name = codes "w";
  path = codes "EVOL/w";
  kind = Cell;
  routine = 0;
  reads = reads;
  writes = writes;
  params = [];
}

abbrev line : Bool → Shape
line periodic = record {
  dims = 1;
  n = record { x = pos 6; y = pos 1; z = pos 1 };
  ghost_ = record { x = pos 1; y = pos 0; z = pos 0 };
  periodic = periodic ∷ false ∷ false ∷ [];
}

abbrev job_of : Bool → ℤ → List Item → Tree → Setup
job_of periodic out_every items evol =
    record {
      shape = line periodic;
      vars = record { full = codes "wave::phi"; ctype = Int8; scalar = false; levels = 3 } ∷ [];
      items = items;
      bins = Seq [] ∷ Seq [] ∷ Seq [] ∷ Seq [] ∷ Seq (Call 0 ∷ []) ∷ Seq [] ∷ Seq [] ∷ evol
          ∷ replicate 9 (Seq []);
      itlast = 1;
      while_limit = 1000;
      out_every = out_every;
      out_vars = phi ∷ [];
      chk_every = negsuc 0;
      on_end = false;
      steers = [];
    }

abbrev items : List Item
items = cell [] (touch 0 Everywhere 0 ∷ touch 1 Everywhere 0 ∷ [])
    ∷ cell (touch 1 Everywhere 1 ∷ touch 2 Interior 0 ∷ []) (touch 0 Interior 0 ∷ [])
    ∷ cell (touch 0 Interior 0 ∷ []) (touch 0 Boundary 0 ∷ []) ∷ []

abbrev sync : Tree
sync = Sync (phi ∷ []) (codes "EVOL/w")

abbrev pub wave : Setup
wave = job_of false (pos 1) items (Seq (Seq (Call 1 ∷ sync ∷ []) ∷ Call 2 ∷ []))

abbrev no_sync : Setup
no_sync = job_of false (pos 1) items (Seq (Call 1 ∷ Call 2 ∷ []))

abbrev one_init : Setup
one_init = job_of false (pos 1)
    (cell [] (touch 0 Everywhere 0 ∷ [])
    ∷ cell (touch 1 Everywhere 1 ∷ touch 2 Interior 0 ∷ []) (touch 0 Interior 0 ∷ []) ∷ [])
    (Seq (Seq (Call 1 ∷ sync ∷ []) ∷ Call 2 ∷ []))

abbrev no_flat : Setup
no_flat = job_of false (negsuc 0) items (Seq (Call 1 ∷ sync ∷ []))

calls : called (bin wave 7) ≡ 1 ∷ 2 ∷ []
unfolding Rattle.cx_plan.specs.declared.tree.Tree.TheBlock.hidden-the_row-Tree-0
    denote.Hole.Carrier.hidden
calls = refl

empties : is_empty (bin wave 9) ≡ true
unfolding Rattle.cx_plan.specs.declared.tree.Tree.TheBlock.hidden-the_row-Tree-0
    denote.Hole.Carrier.hidden
empties = refl

shapes : has_shape wave (item wave 1) ≡ true
shapes = refl

abbrev start : List Mark
start = Meets (Turns 0) ∷ Meets Outputs ∷ []

abbrev turn_with : List Mark → List Mark
turn_with marks = letter_i ∷ Meets Rotates ∷ marks ++ Meets Outputs ∷ []

abbrev step : List Mark
step = Meets (Turns 1) ∷ Meets (Syncs (phi ∷ []) (codes "EVOL/w")) ∷ Meets (Turns 2) ∷ []

sound_here : first_unmet wave [] cleared
    (start ++ turn_with step ++ turn_with step ++ turn_with step) ≡ None
sound_here = refl

row_nine : first_unmet no_sync [] cleared
    (start ++ turn_with (Meets (Turns 1) ∷ Meets (Turns 2) ∷ []))
    ≡ Some (105 ∷ [], record { place = codes "EVOL/w"; var = phi; level = 0; flag = G })
row_nine = refl

row_ten : first_unmet one_init [] cleared (start ++ turn_with step)
    ≡ Some (105 ∷ [], record { place = codes "EVOL/w"; var = phi; level = 2; flag = I })
row_ten = refl

abbrev quiet : List Mark
quiet = letter_i ∷ Meets Rotates ∷ Meets (Turns 1) ∷ Meets (Syncs (phi ∷ []) (codes "EVOL/w")) ∷ []

row_ten_second : first_unmet no_flat [] cleared (Meets (Turns 0) ∷ quiet ++ quiet)
    ≡ Some (105 ∷ 105 ∷ [], record { place = codes "EVOL/w"; var = phi; level = 1; flag = B })
row_ten_second = refl

-- the marks of row nine are a path of its job, so the need is unset on a path
abbrev nine : List Mark
nine =
    (Meets (Turns 0) ∷ Meets Outputs ∷ letter_i ∷ Meets Rotates ∷ Meets (Turns 1) ∷ Meets (Turns 2)
    ∷ Meets Outputs ∷ [])

nine_is_a_path : PathOfJob no_sync nine
unfolding Rattle.cx_plan.specs.declared.tree.Tree.TheBlock.hidden-the_row-Tree-0
    denote.Hole.Carrier.hidden
nine_is_a_path = (
  (Meets (Turns 0) ∷ Meets Outputs ∷ []),
  (letter_i ∷ Meets Rotates ∷ Meets (Turns 1) ∷ Meets (Turns 2) ∷ Meets Outputs ∷ []),
  (
    (Meets (Turns 0) ∷ []),
    (Meets Outputs ∷ []),
    (
      [],
      (Meets (Turns 0) ∷ []),
      refl,
      (
        [],
        (Meets (Turns 0) ∷ []),
        refl,
        (
          [],
          (Meets (Turns 0) ∷ []),
          refl,
          (
            [],
            (Meets (Turns 0) ∷ []),
            refl,
            (
              (Meets (Turns 0) ∷ []),
              [],
              ((Meets (Turns 0) ∷ []), [], refl, refl, refl),
              ([], [], refl, ([], [], refl, refl, refl), refl),
              refl,
            ),
            refl,
          ),
          refl,
        ),
        refl,
      ),
      refl,
    ),
    ([], (Meets Outputs ∷ []), refl, refl, refl),
    refl,
  ),
  (
    (letter_i ∷ Meets Rotates ∷ Meets (Turns 1) ∷ Meets (Turns 2) ∷ Meets Outputs ∷ []),
    [],
    (
      1,
      (
        (letter_i ∷ Meets Rotates ∷ Meets (Turns 1) ∷ Meets (Turns 2) ∷ Meets Outputs ∷ []),
        [],
        (
          (letter_i ∷ Meets Rotates ∷ []),
          (Meets (Turns 1) ∷ Meets (Turns 2) ∷ Meets Outputs ∷ []),
          refl,
          (
            (Meets (Turns 1) ∷ Meets (Turns 2) ∷ []),
            (Meets Outputs ∷ []),
            (
              [],
              (Meets (Turns 1) ∷ Meets (Turns 2) ∷ []),
              refl,
              (
                (Meets (Turns 1) ∷ Meets (Turns 2) ∷ []),
                [],
                (
                  (Meets (Turns 1) ∷ []),
                  (Meets (Turns 2) ∷ []),
                  refl,
                  ((Meets (Turns 2) ∷ []), [], refl, refl, refl),
                  refl,
                ),
                ([], [], refl, refl, refl),
                refl,
              ),
              refl,
            ),
            ([], (Meets Outputs ∷ []), refl, ([], (Meets Outputs ∷ []), refl, refl, refl), refl),
            refl,
          ),
          refl,
        ),
        refl,
        refl,
      ),
    ),
    ([], [], refl, ([], [], refl, refl, refl), refl),
    refl,
  ),
  refl,
)

row_nine_unset : IsUnset no_sync (105 ∷ [])
    (record { place = codes "EVOL/w"; var = phi; level = 0; flag = G })
row_nine_unset = (nine, nine_is_a_path, refl)

-- so the job is not sound
not_sound : Sound no_sync → ⊥
not_sound all = some_is_not_none (all nine nine_is_a_path)
  where
    some_is_not_none : first_unmet no_sync [] cleared nine ≡ None → ⊥
    some_is_not_none e = cc
