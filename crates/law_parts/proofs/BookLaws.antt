-- The writer's book is the length of the undivided run's output, and a work passes the limit
-- exactly where its text does.
use Rattle.std.proofs.Common.{◌≡◌, ℕ, suc, ◌+◌, ◌<◌, ◌≤◌, true, false, ltb, List, length, Option, Some, None, arith, refl, sym, ap, ◌∙◌, MatchOption}
use Rattle.std.proofs.lemmas.Bool.{lt-ltb, le-ltb}
use Rattle.cx_plan.specs.declared.variable.VarId.{VarId}
use Rattle.cx_rule.specs.States.{State}
use Rattle.cx_model.specs.Runs.{Lengths, grown_by, text_of, greatest_output}
use Rattle.cx_flat.specs.declared.op.Op.{Op}
use Rattle.cx_flat.specs.declared.op.Op.TheVariants.{Sweep, Apply, Give, Join, Post, Take, Test, Open, Turn, Again, Rotate, Due, Written, Skip, Next, Piece, Save, Halt}
use Rattle.law_parts.specs.Moves.{Message, buffer_of}
use Rattle.law_parts.specs.Nets.{WritesAt}
use Rattle.law_parts.specs.Runs.{Run, Oracle, parts_in, undivided, guided}
use Rattle.law_parts.specs.Truths.{piece_at, lengths_before, passes_limit}
use Rattle.law_parts.proofs.EndNotes.{grown_there}
use Rattle.law_parts.proofs.MoveLaws.{IsTrueOracle}
use Rattle.law_parts.proofs.Places.{guided_op}
use Rattle.law_parts.proofs.TextLaws.{text_is, grew, stays}
use Rattle.law_parts.proofs.WholeRun.{IsRun}

over_is : (limit b text before after : ℕ) → limit < b + text → b ≡ before → after ≡ before + text
    → ltb limit after ≡ true
over_is limit b text before after l e f = lt-ltb limit after (omega (arith, l, e, f))

under_is : (limit b text before after : ℕ) → b + text ≤ limit → b ≡ before → after ≡ before + text
    → ltb limit after ≡ false
under_is limit b text before after l e f = le-ltb limit after (omega (arith, l, e, f))

no_buffer : (b : ℕ) → ◌≡◌ {A = Option ℕ} None (Some b) → ⊥
no_buffer b e = absurd cc

module _ (tells : Type 0) (r : Run) (run : IsRun r) (oracle : Oracle)
    (is_true : IsTrueOracle tells r oracle) (some_part : 0 < parts_in r) (n : ℕ) (t : tells)
    (pieces : ℕ → List (Message tells))
    (given : (k : ℕ) → k < parts_in r → pieces k ≡ piece_at tells r oracle k n) where
  abbrev now : State
  now = (undivided r n).state

  abbrev iteration_there : ℕ
  iteration_there = (guided r oracle n).control.iteration

  same_some : (a b : Lengths) → Some a ≡ Some b → a ≡ b
  same_some a b e = cc

  pub kept_by : (o : Op) → guided_op r oracle n ≡ o → (buffer : ℕ) (b c : Lengths)
      → buffer_of r o ≡ Some buffer → b ≡ lengths_before r n
      → WritesAt tells r o iteration_there pieces b (Some c)
      → c ≡ lengths_before r (suc n)
  kept_by (Piece v) e buffer b c some old w =
      let made =
      (w t (text_of r.setup iteration_there now v)
      (text_is tells r run oracle is_true some_part n t pieces given v e iteration_there)).1 in
      made ∙ ap (λ (m : Lengths). grown_by m v (length (text_of r.setup iteration_there now v))) old
      ∙ sym (grew tells r run oracle is_true some_part n t pieces given v e)
  kept_by Save e buffer b c some old w =
      same_some c b w ∙ old ∙ sym (stays tells r run oracle is_true some_part n t pieces given e)
  kept_by (Sweep i) e buffer b c some old w = absurd (no_buffer buffer some)
  kept_by (Apply i) e buffer b c some old w = absurd (no_buffer buffer some)
  kept_by (Give i) e buffer b c some old w = absurd (no_buffer buffer some)
  kept_by (Join i) e buffer b c some old w = absurd (no_buffer buffer some)
  kept_by (Post d vars) e buffer b c some old w = absurd (no_buffer buffer some)
  kept_by (Take d vars path) e buffer b c some old w = absurd (no_buffer buffer some)
  kept_by (Test v path skip) e buffer b c some old w = absurd (no_buffer buffer some)
  kept_by Open e buffer b c some old w = absurd (no_buffer buffer some)
  kept_by (Turn v path skip) e buffer b c some old w = absurd (no_buffer buffer some)
  kept_by (Again back) e buffer b c some old w = absurd (no_buffer buffer some)
  kept_by Rotate e buffer b c some old w = absurd (no_buffer buffer some)
  kept_by (Due skip) e buffer b c some old w = absurd (no_buffer buffer some)
  kept_by (Written skip) e buffer b c some old w = absurd (no_buffer buffer some)
  kept_by (Skip skip) e buffer b c some old w = absurd (no_buffer buffer some)
  kept_by (Next back) e buffer b c some old w = absurd (no_buffer buffer some)
  kept_by Halt e buffer b c some old w = absurd (no_buffer buffer some)

  -- the limit is passed exactly where the undivided run passes it
  passed : (v : VarId) → guided_op r oracle n ≡ Piece v → (b : Lengths) (o : Option Lengths)
      → b ≡ lengths_before r n → WritesAt tells r (Piece v) iteration_there pieces b o
      → MatchOption o (passes_limit r n (Piece v) ≡ true) (λ c. passes_limit r n (Piece v) ≡ false)
  passed v e b None old w =
      over_is greatest_output (b v.0) (length (text_of r.setup iteration_there now v))
      (lengths_before r n v.0) (lengths_before r (suc n) v.0)
      (w t (text_of r.setup iteration_there now v)
      (text_is tells r run oracle is_true some_part n t pieces given v e iteration_there))
      (ap (λ (m : Lengths). m v.0) old)
      (ap (λ (m : Lengths). m v.0) (grew tells r run oracle is_true some_part n t pieces given v e)
      ∙ grown_there (lengths_before r n) v (length (text_of r.setup iteration_there now v)))
  passed v e b (Some c) old w =
      under_is greatest_output (b v.0) (length (text_of r.setup iteration_there now v))
      (lengths_before r n v.0) (lengths_before r (suc n) v.0)
      (w t (text_of r.setup iteration_there now v)
      (text_is tells r run oracle is_true some_part n t pieces given v e iteration_there)).0
      (ap (λ (m : Lengths). m v.0) old)
      (ap (λ (m : Lengths). m v.0) (grew tells r run oracle is_true some_part n t pieces given v e)
      ∙ grown_there (lengths_before r n) v (length (text_of r.setup iteration_there now v)))

  saved : (b : Lengths) (o : Option Lengths) → WritesAt tells r Save iteration_there pieces b o
      → MatchOption o (false ≡ true) (λ c. false ≡ false)
  saved b None w = absurd cc
  saved b (Some c) w = refl

  pub burst_by : (o : Op) → guided_op r oracle n ≡ o
      → (buffer : ℕ) (b : Lengths) (out : Option Lengths) → buffer_of r o ≡ Some buffer
      → b ≡ lengths_before r n → WritesAt tells r o iteration_there pieces b out
      → MatchOption out (passes_limit r n o ≡ true) (λ c. passes_limit r n o ≡ false)
  burst_by (Piece v) e buffer b out some old w = passed v e b out old w
  burst_by Save e buffer b out some old w = saved b out w
  burst_by (Sweep i) e buffer b out some old w = absurd (no_buffer buffer some)
  burst_by (Apply i) e buffer b out some old w = absurd (no_buffer buffer some)
  burst_by (Give i) e buffer b out some old w = absurd (no_buffer buffer some)
  burst_by (Join i) e buffer b out some old w = absurd (no_buffer buffer some)
  burst_by (Post d vars) e buffer b out some old w = absurd (no_buffer buffer some)
  burst_by (Take d vars path) e buffer b out some old w = absurd (no_buffer buffer some)
  burst_by (Test v path skip) e buffer b out some old w = absurd (no_buffer buffer some)
  burst_by Open e buffer b out some old w = absurd (no_buffer buffer some)
  burst_by (Turn v path skip) e buffer b out some old w = absurd (no_buffer buffer some)
  burst_by (Again back) e buffer b out some old w = absurd (no_buffer buffer some)
  burst_by Rotate e buffer b out some old w = absurd (no_buffer buffer some)
  burst_by (Due skip) e buffer b out some old w = absurd (no_buffer buffer some)
  burst_by (Written skip) e buffer b out some old w = absurd (no_buffer buffer some)
  burst_by (Skip skip) e buffer b out some old w = absurd (no_buffer buffer some)
  burst_by (Next back) e buffer b out some old w = absurd (no_buffer buffer some)
  burst_by Halt e buffer b out some old w = absurd (no_buffer buffer some)
