use Rattle.cx_expr.proofs.NumberLaws.{given_most}
use Rattle.cx_sched.proofs.reference.number_up_to.Goals as goal

pub returns-clause-most : goal.returns-clause-most
returns-clause-most c = given_most c.args.high c.args.reader.now.rest.now
    c.number_in.new.self.rest.now c.number_in.result c.number_in.ensures
