-- No operation changes the key of the checkpoints.
use Rattle.std.proofs.Common.{◌≡◌, ℕ, List, Option, ap}
use Rattle.cx_flat.specs.declared.op.Op.{Op}
use Rattle.cx_flat.specs.declared.op.Op.TheVariants as op
use Rattle.cx_flat.specs.Flats.{Control}
use Rattle.law_parts.specs.Runs.{Run}
use Rattle.cx_core.specs.declared.answers.Outcome.{Outcome}
use Rattle.cx_core.specs.Moving.{Holdings, Operates}

abbrev pub key_in : {tells : Type 0} → Holdings tells → List ℕ
key_in h = h.buffers.state.key

module _ {tells : Type 0} (r : Run) (k : ℕ) (c : Control) (count : ℕ) where
  pub key_stays : (o : Op) (was is : Holdings tells) (met : Option Outcome)
      → Operates r k c count o was is met → key_in is ≡ key_in was
  key_stays (op.Sweep i) was is met d = ap key_in d.1.rest
  key_stays (op.Apply i) was is met d = ap key_in d.1.rest
  key_stays (op.Give i) was is met d = ap key_in d.1.rest
  key_stays (op.Join i) was is met d = ap key_in d.1
  key_stays (op.Post d vars) was is met h = ap key_in h.1.rest
  key_stays (op.Take d vars path) was is met h = ap key_in h.1.rest
  key_stays (op.Test v path skip) was is met d = ap key_in d.1
  key_stays op.Open was is met d = ap key_in d.1
  key_stays (op.Turn v path skip) was is met d = ap key_in d.1
  key_stays (op.Again back) was is met d = ap key_in d.1
  key_stays op.Rotate was is met d = ap key_in d.1
  key_stays (op.Due skip) was is met d = ap key_in d.1
  key_stays (op.Written skip) was is met d = ap key_in d.1
  key_stays (op.Skip skip) was is met d = ap key_in d.1
  key_stays (op.Next back) was is met d = ap key_in d.1
  key_stays (op.Piece v) was is met d = ap key_in d.1
  key_stays op.Save was is met d = ap key_in d.1
  key_stays op.Halt was is met d = ap key_in d.1
