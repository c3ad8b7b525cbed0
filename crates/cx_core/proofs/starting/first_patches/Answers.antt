use Rattle.std.proofs.Common.{ap, arith, length, subst, sym, List}
use Rattle.cx_field.specs.Patches.{PatchValue}
use Rattle.std.specs.Option.{option_copied}
use Rattle.std.proofs.lemmas.List.{length_push}
use Rattle.cx_core.specs.Starts.{ArePatches}
use Rattle.cx_core.proofs.PatchLaws.{patch_more}
use Rattle.cx_core.proofs.starting.first_patches.Goals as goal

pub parts-preserved : goal.parts-preserved
parts-preserved c =
    let more = c.in_ok-push.ensures.items in
    let grown = ap length more in
    let one = length_push c.parts.patches.items c.in_ok-first_patch.field-0 in
    record {
      count = omega (arith, grown, one, c.parts.invariant.count);
      patches =
          subst (ArePatches c.args.job.now c.args.cut.now (option_copied c.args.state))
          (sym {A = List PatchValue} more)
          (patch_more c.args.job.now c.args.cut.now (option_copied c.args.state)
          c.parts.patches.items c.parts.k c.in_ok-first_patch.field-0
          c.parts.invariant.count c.parts.invariant.patches c.in_ok-first_patch.ensures);
    }
