-- The ends of runs, as a core and as the undivided run have them.
use Rattle.std.proofs.Common.{◌≡◌, ◌≢◌, ◌∙◌, ℕ, List, ◌++◌, refl, sym, ap}
use Rattle.cx_model.specs.declared.ends.End.{End}
use Rattle.cx_model.specs.declared.ends.End.TheVariants as ends
use Rattle.cx_model.specs.Runs.{end_by}
use Rattle.cx_model.specs.Traces.{Outcome as TraceOutcome, Goes, Ends}
use Rattle.cx_core.specs.Hands.{ended_as}
use Rattle.cx_core.specs.declared.answers.Outcome.{Outcome}
use Rattle.cx_core.specs.declared.answers.Outcome.TheVariants as outcomes
use Rattle.cx_run.specs.Answers.{end_in}

pub end_of_ended : (o : TraceOutcome) → end_in (ended_as o) ≡ end_by o
end_of_ended (Goes state) = refl
end_of_ended (Ends ends.Done) = refl
end_of_ended (Ends (ends.Overflow iteration path)) = refl
end_of_ended (Ends (ends.WhileLimit iteration path)) = refl
end_of_ended (Ends (ends.OutputLimit iteration)) = refl

-- a core that has ended so, and its end
pub end_with : (o : Outcome) (t : TraceOutcome) (end : End) → o ≡ ended_as t → end_in o ≡ end
    → end_by t ≡ end
end_with o t end same is = sym (end_of_ended t) ∙ ap end_in (sym same) ∙ is

pub done_is : (o : Outcome) → o ≢ outcomes.Going → end_in o ≡ ends.Done → o ≡ outcomes.Done
done_is outcomes.Going over is = absurd (over refl)
done_is outcomes.Done over is = refl
done_is (outcomes.Overflow iteration path) over is = absurd cc
done_is (outcomes.WhileLimit iteration path) over is = absurd cc
done_is (outcomes.OutputLimit iteration) over is = absurd cc

-- ---- the text of one that was made

pub joined : (text first line done sum : List ℕ) → text ≡ first ++ line → first ≡ done → line ≡ sum
    → text ≡ done ++ sum
joined text first line done sum whole a b =
    whole ∙ ap (λ (l : List ℕ). l ++ line) a ∙ ap (λ (l : List ℕ). done ++ l) b
