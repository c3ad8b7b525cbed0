-- Where none of the bins has the name, there is none.
use Rattle.std.proofs.Common.{◌∙◌, sym, ap, arith}
use Rattle.cx_text.specs.Lexemes.{same_name}
use Rattle.cx_order_entries.specs.Bins.{plain}
use Rattle.cx_plan.specs.Lookups.{bin_names}
use Rattle.cx_order_entries.proofs.BinLaws.{none-has, one-more}
use Rattle.cx_order_entries.proofs.bins.bin_of.Goals as goal

pub loop-bin-preserved : goal.loop-bin-preserved
loop-bin-preserved c =
    let name = plain c.args.name.now in
    one-more (λ bin. same_name name bin) bin_names c.loop-bin.bin c.loop-bin.invariant
    (ap (λ n. same_name name n) (sym c.bin_name.ensures)
    ∙ ap (λ n. same_name n c.bin_name.result.now) (sym c.plain-plain.ensures)
    ∙ (sym c.same_name.ensures ∙ c.if-same_name.false))

pub returns-clause-bin : goal.returns-clause-bin
returns-clause-bin c = sym
    (none-has (λ bin. same_name (plain c.args.name.now) bin) bin_names
    (λ k h. c.loop-bin.invariant k (let e = c.loop-bin-test.false in omega (arith, h, e))))
