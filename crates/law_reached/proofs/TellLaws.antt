-- Where wires tell, all parts go the way of the undivided run, and it ends where that run does.
use Rattle.std.proofs.Common.{◌≡◌, ℕ, ◌+◌, ◌<◌, ◌≤◌, false, sym, ap, ◌∙◌, arith}
use Rattle.std.proofs.Math.Path.{fun_ext}
use Rattle.cx_model.specs.Traces.{Trace}
use Rattle.cx_flat.specs.Laws.{RunsAs}
use Rattle.law_network.specs.Machine.{World, IsNext}
use Rattle.law_network.specs.Agreement.{Fits, Ends}
use Rattle.cx_model.specs.Runs.{Lengths}
use Rattle.law_parts.specs.Holding.{Held}
use Rattle.law_parts.specs.Laws.{IsOracle, IsReachedState}
use Rattle.law_parts.specs.Moves.{Message, Channel}
use Rattle.law_parts.specs.Nets.{net, within_lead}
use Rattle.law_parts.specs.Runs.{Run, Oracle, undivided, guided, halts, first_from, last_of}
use Rattle.law_parts.specs.Truths.{truth, script, ends_at, Agrees, GivesAt, Books}
use Rattle.law_parts.proofs.DoneTotals.{last_is}
use Rattle.law_parts.proofs.FaultLaws.{told_ends}
use Rattle.law_parts.proofs.FirstLaws.{first_within, first_before}
use Rattle.law_parts.proofs.FitLaws.{lead_fits}
use Rattle.law_parts.proofs.MoveLaws.{same}
use Rattle.law_parts.proofs.TruthLaws.{guided_truth}
use Rattle.law_parts.proofs.WholeRun.{IsRun, all_folds}
use Rattle.law_reached.proofs.NetLaws.{wrote_within, next_within, next_inside}

up_to : (e l c : ℕ) → e ≤ 0 + l → l ≡ c → e ≤ c
up_to e l c h q = omega (arith, h, q)

pub through : (a b c : ℕ) → a ≤ b → b ≤ c → a ≤ c
through a b c h q = omega (arith, h, q)

before_both : (j a b : ℕ) → j < a → a ≤ b → j < b
before_both j a b h q = omega (arith, h, q)

from_zero : (j : ℕ) → 0 ≤ j
from_zero j = omega arith

module _ (tells : Type 0) (r : Run) (run : IsRun r) (o : Oracle) (is : IsOracle tells r o)
    (t : tells) where
  pub fits : Fits (net tells within_lead r o) (script tells r o) (Agrees tells r o) (GivesAt r o)
      (Books tells r)
  fits = lead_fits tells r run o is.told is.first

  pub ends : Ends (net tells within_lead r o) (script tells r o) (Agrees tells r o) (Books tells r)
  ends = told_ends tells r run o is.told t within_lead

  pub way : (n : ℕ) → guided r o n ≡ undivided r n
  way = same tells r run o is.told t

  pub last_true : last_of r o ≡ last_of r (truth r)
  last_true = ap (first_from r.most 0)
      (fun_ext (λ n. ap (λ g. halts r g.control)
      (way n ∙ sym (guided_truth r (all_folds r run) n))))

  abbrev pub end_place : ℕ
  end_place = first_from (last_of r o) 0 (ends_at r)

  pub before_end : (j : ℕ) → j < end_place → ends_at r j ≡ false
  before_end j l = first_before (last_of r o) 0 j (ends_at r) (from_zero j) l

  module _ (trace : Trace) (runs : RunsAs r.setup r.rules r.first r.so_far trace) where
    pub count_is : last_of r o ≡ runs.count
    count_is = last_true ∙ last_is r run trace runs

    pub end_within : end_place ≤ runs.count
    end_within = up_to end_place (last_of r o) runs.count (first_within (last_of r o) 0 (ends_at r))
        count_is

module _ (tells : Type 0) (r : Run) (run : IsRun r) (o : Oracle)
    (w : World Held (Message tells) Channel Lengths) (st : IsReachedState tells r o w) (t : tells)
  where
    pub wrote_before : w.wrote ≤ end_place tells r run o st.oracle_is t
    wrote_before =
        wrote_within (net tells within_lead r o) (script tells r o) (Agrees tells r o) (GivesAt r o)
        (Books tells r) (fits tells r run o st.oracle_is t) w st.woven
        (ends tells r run o st.oracle_is t) (st.ended t)

    pub quiet_before : (j : ℕ) → j < w.wrote → ends_at r j ≡ false
    quiet_before j l = before_end tells r run o st.oracle_is t j
        (before_both j w.wrote (end_place tells r run o st.oracle_is t) l wrote_before)

    pub next_before : (n : ℕ) → IsNext (net tells within_lead r o) w n
        → n ≤ end_place tells r run o st.oracle_is t
    next_before =
        next_within (net tells within_lead r o) (script tells r o) (Agrees tells r o) (GivesAt r o)
        (Books tells r) (fits tells r run o st.oracle_is t) w st.woven
        (ends tells r run o st.oracle_is t) (st.ended t)

    pub quiet_next : (n : ℕ) → IsNext (net tells within_lead r o) w n → (j : ℕ) → j < n
        → ends_at r j ≡ false
    quiet_next n nx j l = before_end tells r run o st.oracle_is t j
        (before_both j n (end_place tells r run o st.oracle_is t) l (next_before n nx))

    pub next_place : (n : ℕ) → IsNext (net tells within_lead r o) w n → n < last_of r o
    next_place = next_inside (net tells within_lead r o) (script tells r o) (Agrees tells r o)
        (GivesAt r o) (Books tells r) (fits tells r run o st.oracle_is t) w st.woven
