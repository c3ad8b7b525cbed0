-- Worked rows of printed schedule files.
use Rattle.std.specs.Prelude.{◌≡◌, refl, true, [], ◌∷◌, ◌++◌, codes, Some, None}
use Rattle.cx_plan.specs.declared.item.Region.TheVariants.{Everywhere}
use Rattle.cx_text.specs.Printing.{printed}
use Rattle.cx_expr.specs.declared.tree.Expr.{Named}
use Rattle.cx_sched.specs.declared.tree.Spot.TheVariants.{At}
use Rattle.cx_sched.specs.declared.tree.Node.{Storage, Cond, Block}
use Rattle.cx_sched.specs.Printed.{file_tokens}

row_block : printed (file_tokens (record {
  items = Block (record {
    group = true;
    name = codes "steps";
    spot = At (codes "EVOL");
    alias = None;
    test = Some (record { owner = Some (codes "w"); name = codes "on"; copy = None });
    turn = None;
    before = [];
    after = codes "early" ∷ codes "late" ∷ [];
    storage = [];
    sync = record { owner = None; name = codes "u"; copy = None } ∷ [];
    reads = (record { owner = None; name = codes "v_p"; copy = None }, Everywhere) ∷ [];
    writes = [];
    rest = [];
    text = codes "one";
  }) ∷ [];
})) ≡ codes
    "schedule GROUP steps AT EVOL IF w :: on AFTER ( early late ) { SYNC : u READS : v_p ( everywhere ) } \"one\"" ++ 10 ∷ []
row_block = refl

-- if ( x ) { STORAGE : u }
row_condition : printed (file_tokens
    (record {
      items = Cond (Named (codes "x") None)
          (Storage ((record { owner = None; name = codes "u"; copy = None }, None) ∷ []) ∷ []) []
          ∷ [];
    }))
    ≡ codes "if ( x ) {" ++ 10 ∷ codes "STORAGE : u" ++ 10 ∷ codes "}" ++ 10 ∷ []
unfolding Rattle.cx_sched.specs.declared.tree.Node.TheBlock.hidden-the_row-Node-0
    denote.Hole.Carrier.hidden
row_condition = refl
