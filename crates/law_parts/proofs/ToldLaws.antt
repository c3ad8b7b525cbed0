-- Where wires tell, what a part gives needs no foretelling: it is the truth.
use Rattle.std.proofs.Common.{◌≡◌, ℕ, suc, ◌<◌, refl, sym, ap, ◌∙◌, subst}
use Rattle.cx_flat.specs.declared.op.Op.TheVariants.{Give}
use Rattle.law_network.specs.Agreement.{Fits}
use Rattle.law_network.proofs.OrderLaws.{all_orders}
use Rattle.law_parts.specs.Holding.{Held}
use Rattle.law_parts.specs.Laws.{EachOrder}
use Rattle.law_parts.specs.Nets.{Nearness, net, within_lead, in_lockstep}
use Rattle.law_parts.specs.Runs.{Run, Oracle, parts_in, next_op, undivided, op_of}
use Rattle.law_parts.specs.Truths.{truth, script, gives_by, Stands, Agrees, GivesAt, Books}
use Rattle.law_parts.proofs.FaultLaws.{told_ends}
use Rattle.law_parts.proofs.FitLaws.{lead_fits, lockstep_fits}
use Rattle.law_parts.proofs.HandLaws.{owns_true}
use Rattle.law_parts.proofs.MoveLaws.{IsTrueOracle, same, moves_on}
use Rattle.law_parts.proofs.NumberLaws.{number_same}
use Rattle.law_parts.proofs.StartLaws.{gives_truth}
use Rattle.law_parts.proofs.WholeRun.{IsRun, names, true_states}

module _ (tells : Type 0) (r : Run) (run : IsRun r) (oracle : Oracle)
    (is_true : IsTrueOracle tells r oracle) where
  -- at its own place a part gives the truth
  pub true_gift : tells → (k n : ℕ) (x : Held) → k < parts_in r → Stands tells r oracle k n x
      → GivesAt r oracle k n x
  true_gift t k n x part a =
      subst (λ o. gives_by r k x o (oracle k n)) (sym here)
      (subst (gives_by r k x (op_of r n)) (sym (is_true t k n part))
      (gives_truth r k x (op_of r n) (undivided r n).state
      (λ i e. number_same r run k x.numbers (undivided r n).state (true_states r run n)
      (owns_true tells r run oracle is_true k n x part a t) i
      (names r run (Give i) (undivided r n).control.pc e))))
    where
      here : next_op r x.control ≡ op_of r n
      here = ap (next_op r) a.control
          ∙ ap (λ g. next_op r g.control) (same tells r run oracle is_true t n)

  pub told_fits : (Near : Nearness) → tells
      → Fits (net tells Near r oracle) (script tells r oracle) (Agrees tells r oracle)
      (GivesAt r oracle) (Books tells r)
      → Fits (net tells Near r oracle) (script tells r oracle) (Agrees tells r oracle)
      (λ k n x. Unit {0}) (Books tells r)
  told_fits Near t fits = record {
    some_part = fits.some_part;
    among = fits.among;
    within_most = fits.within_most;
    goes_on = fits.goes_on;
    halted = fits.halted;
    nears = fits.nears;
    first = fits.first;
    pairs = fits.pairs;
    starts = fits.starts;
    looks = fits.looks;
    posts = fits.posts;
    hands = fits.hands;
    moves = λ k n x mails part l a mailed y h gives.
        let stands = moves_on tells r run oracle is_true Near k n x mails part l a.stands mailed y
        h in
        record { stands = stands; gives = true_gift t k (suc n) y part stands };
    piece = fits.piece;
    no_piece = fits.no_piece;
    books_start = fits.books_start;
    books_stay = fits.books_stay;
    books = fits.books;
  }

module _ (r : Run) (run : IsRun r) where
  pub is_truth : IsTrueOracle (Unit {0}) r (truth r)
  is_truth t k n l = refl

  pub lead_orders : EachOrder within_lead r
  lead_orders = all_orders (net (Unit {0}) within_lead r (truth r)) (script (Unit {0}) r (truth r))
      (Agrees (Unit {0}) r (truth r)) (λ k n x. Unit {0}) (Books (Unit {0}) r)
      (told_fits (Unit {0}) r run (truth r) is_truth within_lead tt
      (lead_fits (Unit {0}) r run (truth r) is_truth (λ k l. refl)))
      (told_ends (Unit {0}) r run (truth r) is_truth tt within_lead)

  pub lockstep_orders : EachOrder in_lockstep r
  lockstep_orders = all_orders (net (Unit {0}) in_lockstep r (truth r))
      (script (Unit {0}) r (truth r)) (Agrees (Unit {0}) r (truth r)) (λ k n x. Unit {0})
      (Books (Unit {0}) r)
      (told_fits (Unit {0}) r run (truth r) is_truth in_lockstep tt
      (lockstep_fits (Unit {0}) r run (truth r) is_truth (λ k l. refl)))
      (told_ends (Unit {0}) r run (truth r) is_truth tt in_lockstep)
