use Rattle.std.proofs.Common.{◌∙◌, sym, ap, length}
use Rattle.thorns_tests.proofs.trials.swept_whole.Goals as goal

pub first_item-item-requires : goal.first_item-item-requires
first_item-item-requires g c = ap (λ xs. length xs) c.requires.field.items_are

pub sweep-end-requires : goal.sweep-end-requires
sweep-end-requires g c = rw c.first_item-item.ensures c.in_ok-after.ensures.trial

pub outcome_of-requires-clause-trial : goal.outcome_of-requires-clause-trial
outcome_of-requires-clause-trial g c = rw c.first_item-item.ensures c.in_ok-before.ensures.trial

pub outcome_of-requires-clause-vars : goal.outcome_of-requires-clause-vars
outcome_of-requires-clause-vars g c = c.sweep-end.ensures.vars

pub outcome_of-requires-clause-same : goal.outcome_of-requires-clause-same
outcome_of-requires-clause-same g c =
    c.sweep-end.ensures.local ∙ c.in_ok-after.ensures.local ∙ sym c.in_ok-before.ensures.local

pub returns : goal.returns
returns g c = c.sweep-end.ensures.vars
