-- Worked rows: the parameters of an item from iteration to iteration.
use Rattle.std.specs.Prelude.{ℕ, ◌≡◌, refl, ℤ, pos, negsuc, [], ◌∷◌, codes}
use Rattle.cx_plan.specs.declared.item.Item.{Item}
use Rattle.cx_plan.specs.declared.item.ItemKind.TheVariants.{Cell}
use Rattle.cx_plan.specs.declared.steered.Steered.{Steered}
use Rattle.cx_plan.specs.Setups.{Setup}
use Rattle.cx_plan.specs.Steering.{item_at}
use Rattle.cx_plan.proofs.Rows.{wave}

abbrev with_two : Item
with_two =
    record {
      thorn = codes "WaveInt";
      name = codes "w";
      path = codes "EVOL/w";
      kind = Cell;
      routine = 0;
      reads = [];
      writes = [];
      params = pos 1 ∷ pos 2 ∷ [];
    }

abbrev steer : (at slot : ℕ) → ℤ → Steered
steer at slot value = record { at = at; item = 1; slot = slot; value = value }

-- the second one counts from iteration 2 on, by the later of two lines, and the first one from 4 on
abbrev setup : Setup
setup =
    record wave {
      items = with_two ∷ with_two ∷ [];
      steers = steer 2 1 (pos 7) ∷ steer 4 0 (negsuc 2) ∷ steer 2 1 (pos 9) ∷ [];
    }

before : (item_at setup 1 1).params ≡ pos 1 ∷ pos 2 ∷ []
before = refl

from_two : (item_at setup 1 2).params ≡ pos 1 ∷ pos 9 ∷ []
from_two = refl

from_four : (item_at setup 1 5).params ≡ negsuc 2 ∷ pos 9 ∷ []
from_four = refl

of_another_item : (item_at setup 0 5).params ≡ pos 1 ∷ pos 2 ∷ []
of_another_item = refl
