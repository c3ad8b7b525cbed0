use Rattle.std.proofs.Common.{◌≡◌, List, ℕ, subst}
use Rattle.std.specs.Prelude.{IfErr, IfOk, Some}
use Rattle.cx_plan.specs.Setups.{setup_of}
use Rattle.cx_outputs.specs.Names.{full_names}
use Rattle.cx_ascii_read.specs.Splitting.{split_of}
use Rattle.cx_keep.specs.Tests.{IsFaultOf, or_damaged}
use Rattle.cx_keep.proofs.Starting.{kept_still}
use Rattle.cx_keep.proofs.Tested.{former_tests}
use Rattle.cx_keep.proofs.splitting.split_former.Goals as goal

pub returns-clause-tests : goal.returns-clause-tests
returns-clause-tests g c = λ tells chk.
    former_tests c.args.job.now (g.D.Disk.view c.args.disk.now).seen c.args.slot c.args.count chk
    c.in_ok-bytes.bytes c.split_bytes.result (c.in_ok-bytes.ensures.read tells)
    (subst (λ (b : List ℕ). IfErr c.split_bytes.result (λ e. IsFaultOf e
    (or_damaged c.args.job.now c.args.slot chk
    (split_of b (full_names (setup_of c.args.job.now)))))) c.as_slice.ensures
    (c.split_bytes.ensures.fault chk))
    (subst (λ (b : List ℕ). IfOk c.split_bytes.result (λ ts.
    split_of b (full_names (setup_of c.args.job.now)) ≡ Some ts)) c.as_slice.ensures
    c.split_bytes.ensures.split)

pub returns-clause-kept : goal.returns-clause-kept
returns-clause-kept g c =
    kept_still g.D.Disk c.args.disk.now c.read_former.new.disk c.read_former.result
    c.split_bytes.result c.read_former.ensures.kept c.split_bytes.ensures.told
