use Rattle.std.proofs.Common.{ℕ, ◌<◌, ◌∙◌, sym, ap, subst, map}
use Rattle.std.proofs.lemmas.Result.{err_from_is_err_and}
use Rattle.cx_order_entries.specs.Members.{inside_of}
use Rattle.cx_order_entries.specs.Seen.{seen_entry}
use Rattle.cx_order_entries.proofs.PlacedForms.{nested-by-names}
use Rattle.cx_order_entries.proofs.PlacedLaws.{nesting-fault, order-fault}
use Rattle.cx_order_entries.proofs.placement.place_entries.Goals as goal

pub returns-in_err-nested : goal.returns-in_err-nested
returns-in_err-nested c =
    let p = err_from_is_err_and c.from_residual-in_err-nested.result
    c.from_residual-in_err-nested.ensures.1 in
    rw (p.1, p.2) (nesting-fault (map seen_entry c.args.entries.now)
    c.in_err-nested.field-0.0 c.in_err-nested.ensures)

pub returns-in_err-orders : goal.returns-in_err-orders
returns-in_err-orders c =
    let p = err_from_is_err_and c.from_residual-in_err-orders.result
    c.from_residual-in_err-orders.ensures.1 in
    rw (p.1, p.2) (order-fault (map seen_entry c.args.entries.now)
    c.in_err-orders.field-0.0 c.in_ok-nested.ensures.1 c.in_err-orders.ensures)

pub returns : goal.returns
returns c =
    let es = map seen_entry c.args.entries.now in (
      record {
        member_rows = c.in_ok-members.ensures.count;
        order_rows = c.in_ok-orders.ensures.count;
        members = λ k below. (let P : ℕ → Type 0 = λ n. k < n in
            c.in_ok-members.ensures.entries k (subst P (sym c.in_ok-members.ensures.count) below));
        within = c.in_ok-members.ensures.within;
        inside = c.new.ensures ∙ c.in_ok-inside.ensures
            ∙ ap (λ gs. map (inside_of gs) es) c.in_ok-groups.ensures.names;
        nested = nested-by-names es c.in_ok-nested.nested c.in_ok-nested.ensures.0;
      },
      (c.in_ok-nested.ensures.1, c.in_ok-orders.ensures.least),
    )
