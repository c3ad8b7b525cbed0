use Rattle.std.proofs.Common.{◌≡◌, ◌≤◌, ℕ, true, false, arith, refl, sym, ◌∙◌, subst}
use Rattle.std.proofs.lemmas.Result.{err_from_is_err_and}
use Rattle.std.specs.Prelude.{Err, IsTrue}
use Rattle.cx_core.specs.Steps.{stands_at}
use Rattle.cx_run_loop.specs.Advances.{FitsOutcome, place_of, run_state}
use Rattle.cx_run_loop.specs.declared.turn.Advance.{Advance}
use Rattle.cx_run_loop.proofs.AdvanceLaws.{can_again, keeps_more, keeps_none, leads_more, leads_none, leads_stop}
use Rattle.cx_run_loop.proofs.CoreTurns.{cut_is, still_below, still_more, still_none, still_over, waits_for}
use Rattle.cx_run_loop.proofs.StartLaws.{some_before}
use Rattle.cx_run_loop.proofs.StopLaws.{count, stopped_first, stopped_after}
use Rattle.cx_run_loop.proofs.TurnLaws.{moves_none, moves_more, on_err_fact}
use Rattle.cx_run_loop.proofs.WaitMore.{below_there, driven_below}
use Rattle.cx_run_loop.proofs.driving.run_core.Goals as goal

pub turns-init : goal.turns-init
turns-init g c =
    let before = some_before g.W.Wire.tells c.args.job.now _
    (stands_at c.args.run.now.core (g.W.Wire.queue c.args.wire.now) c.args.meter.now
    (g.W.Wire.received c.args.wire.now) (g.W.Wire.sum c.args.wire.now))
    c.core_stands.ensures c.requires.able.going.running c.requires.outcome in
    let was = run_state c.args.run.now c.args.disk.now c.args.wire.now c.args.meter.now in
    record {
      moves = moves_none _ (place_of g.D.Disk g.W.Wire c.args.job.now _ was);
      lead = leads_none g.D.Disk g.W.Wire c.args.job.now _ g.T.Turns was c.args.turns.now;
      able = c.requires.able;
      keeps = keeps_none g.D.Disk g.W.Wire c.args.job.now _
          (c.drive_laws.ensures g.W.Wire.tells _) was c.requires.able;
      still = λ same. still_none c.args.next _ (place_of g.D.Disk g.W.Wire c.args.job.now _ was);
      below = λ same. still_below c.args.next _
          (place_of g.D.Disk g.W.Wire c.args.job.now _ was)
          (place_of g.D.Disk g.W.Wire c.args.job.now _ was) _
          (still_none c.args.next _ (place_of g.D.Disk g.W.Wire c.args.job.now _ was))
          (driven_below _ (place_of g.D.Disk g.W.Wire c.args.job.now _ was) _
          (below_there (IsTrue g.W.Wire.tells) c.args.job.now _
          (c.cores_wait.ensures g.W.Wire.tells _)
          (stands_at c.args.run.now.core (g.W.Wire.queue c.args.wire.now) c.args.meter.now
          (g.W.Wire.received c.args.wire.now) (g.W.Wire.sum c.args.wire.now)) before.0 before.2));
      begun = refl;
      disk_later = omega arith;
      wire_later = omega arith;
    }

pub turns-preserved : goal.turns-preserved
turns-preserved g c =
    let was = run_state c.args.run.now c.args.disk.now c.args.wire.now c.args.meter.now in
    let mid = run_state c.turns.run c.turns.disk c.turns.wire c.turns.meter in
    let is = run_state c.advance.new.self c.advance.new.disk c.advance.new.wire
    c.advance.new.meter in
    let a : g.D.Disk.faults c.args.disk.now ≤ g.D.Disk.faults c.turns.disk =
    c.turns.invariant.disk_later in
    let b : g.D.Disk.faults c.turns.disk ≤ g.D.Disk.faults c.advance.new.disk =
    c.in_ok-came.ensures.stops.disk_later in
    let e : g.W.Wire.faults c.args.wire.now ≤ g.W.Wire.faults c.turns.wire =
    c.turns.invariant.wire_later in
    let f : g.W.Wire.faults c.turns.wire ≤ g.W.Wire.faults c.advance.new.wire =
    c.in_ok-came.ensures.stops.wire_later in
    record {
      moves = moves_more _ (place_of g.D.Disk g.W.Wire c.args.job.now _ was)
          (place_of g.D.Disk g.W.Wire c.args.job.now _ mid)
          (place_of g.D.Disk g.W.Wire c.args.job.now _ is) c.turns.invariant.moves
          c.in_ok-came.ensures.advances.moves;
      lead = leads_more g.D.Disk g.W.Wire c.args.job.now _ g.T.Turns _ was mid is
          c.args.turns.now c.turns.turns c.advance.new.turns _ c.turns.invariant.lead
          c.in_ok-came.ensures.advances;
      able = can_again g.D.Disk g.W.Wire c.args.job.now _ mid is c.turns.invariant.able
          c.in_ok-came.ensures.keeps c.in_ok-came.ensures.advances.going;
      keeps = keeps_more g.D.Disk g.W.Wire c.args.job.now _ was mid c.advance.new.disk
          c.advance.new.wire c.advance.new.meter c.turns.invariant.moves c.turns.invariant.keeps
          c.in_ok-came.ensures.keeps;
      still = λ same. still_more c.args.next _ (place_of g.D.Disk g.W.Wire c.args.job.now _ was)
          (place_of g.D.Disk g.W.Wire c.args.job.now _ mid)
          (place_of g.D.Disk g.W.Wire c.args.job.now _ is) c.in_ok-came.came
          (c.turns.invariant.still same) (c.in_ok-came.ensures.waits same) same
          (sym c.is_cut_anew.ensures ∙ c.if-is_cut_anew.false);
      below = λ same. still_below c.args.next _
          (place_of g.D.Disk g.W.Wire c.args.job.now _ was)
          (place_of g.D.Disk g.W.Wire c.args.job.now _ mid) _ (c.turns.invariant.still same)
          (c.in_ok-came.ensures.below same);
      begun = c.in_ok-came.ensures.begun ∙ c.turns.invariant.begun;
      disk_later = omega arith;
      wire_later = omega arith;
    }

pub turns-smaller : goal.turns-smaller
turns-smaller g c = c.in_ok-came.ensures.advances.less

pub advance-requires-clause-outcome : goal.advance-requires-clause-outcome
advance-requires-clause-outcome g c = c.goes_on.ensures.0 c.turns-test.true

pub returns-in_err-came-clause-keeps : goal.returns-in_err-came-clause-keeps
returns-in_err-came-clause-keeps g c =
    keeps_more g.D.Disk g.W.Wire c.args.job.now _
    (run_state c.args.run.now c.args.disk.now c.args.wire.now c.args.meter.now)
    (run_state c.turns.run c.turns.disk c.turns.wire c.turns.meter) c.advance.new.disk
    c.advance.new.wire c.advance.new.meter c.turns.invariant.moves c.turns.invariant.keeps
    c.in_err-came.ensures.keeps

-- a checkpoint at which it is cut anew, and the end

pub returns-then-is_cut_anew-clause-runs : goal.returns-then-is_cut_anew-clause-runs
returns-then-is_cut_anew-clause-runs g c =
    let was = run_state c.args.run.now c.args.disk.now c.args.wire.now c.args.meter.now in
    let mid = run_state c.turns.run c.turns.disk c.turns.wire c.turns.meter in
    let is = run_state c.advance.new.self c.advance.new.disk c.advance.new.wire
    c.advance.new.meter in
    let cut = cut_is c.args.job.now c.args.next c.in_ok-came.came is.run.core
    (sym c.is_cut_anew.ensures ∙ c.if-is_cut_anew.true) in
    record {
      able = can_again g.D.Disk g.W.Wire c.args.job.now _ mid is c.turns.invariant.able
          c.in_ok-came.ensures.keeps c.in_ok-came.ensures.advances.going;
      stops = record {
        going = subst (λ (a : Advance). FitsOutcome a is.run.core.outcome) cut.saved
            c.in_ok-came.ensures.advances.over;
        balance = cut.balance;
        holds = c.in_ok-came.ensures.holds cut.saved;
        least = cut.least;
        most = cut.most;
      };
      lead = leads_more g.D.Disk g.W.Wire c.args.job.now _ g.T.Turns _ was mid is
          c.args.turns.now c.turns.turns c.advance.new.turns _ c.turns.invariant.lead
          c.in_ok-came.ensures.advances;
      moves = moves_more _ (place_of g.D.Disk g.W.Wire c.args.job.now _ was)
          (place_of g.D.Disk g.W.Wire c.args.job.now _ mid)
          (place_of g.D.Disk g.W.Wire c.args.job.now _ is) c.turns.invariant.moves
          c.in_ok-came.ensures.advances.moves;
      waits = λ same. waits_for c.args.next _ (place_of g.D.Disk g.W.Wire c.args.job.now _ was)
          (place_of g.D.Disk g.W.Wire c.args.job.now _ mid)
          (place_of g.D.Disk g.W.Wire c.args.job.now _ is) c.in_ok-came.came
          (c.turns.invariant.still same) (c.in_ok-came.ensures.waits same) cut.saved;
    }

pub returns-then-is_cut_anew-clause-keeps : goal.returns-then-is_cut_anew-clause-keeps
returns-then-is_cut_anew-clause-keeps g c =
    keeps_more g.D.Disk g.W.Wire c.args.job.now _
    (run_state c.args.run.now c.args.disk.now c.args.wire.now c.args.meter.now)
    (run_state c.turns.run c.turns.disk c.turns.wire c.turns.meter) c.advance.new.disk
    c.advance.new.wire c.advance.new.meter c.turns.invariant.moves c.turns.invariant.keeps
    c.in_ok-came.ensures.keeps

pub returns-then-is_cut_anew-clause-below : goal.returns-then-is_cut_anew-clause-below
returns-then-is_cut_anew-clause-below g c = λ same.
    still_below c.args.next _
    (place_of g.D.Disk g.W.Wire c.args.job.now _
    (run_state c.args.run.now c.args.disk.now c.args.wire.now c.args.meter.now))
    (place_of g.D.Disk g.W.Wire c.args.job.now _
    (run_state c.turns.run c.turns.disk c.turns.wire c.turns.meter))
    _ (c.turns.invariant.still same) (c.in_ok-came.ensures.below same)

pub returns-in_err-came-clause-below : goal.returns-in_err-came-clause-below
returns-in_err-came-clause-below g c = λ same.
    still_below c.args.next _
    (place_of g.D.Disk g.W.Wire c.args.job.now _
    (run_state c.args.run.now c.args.disk.now c.args.wire.now c.args.meter.now))
    (place_of g.D.Disk g.W.Wire c.args.job.now _
    (run_state c.turns.run c.turns.disk c.turns.wire c.turns.meter))
    _ (c.turns.invariant.still same) (c.in_err-came.ensures.below same)

pub returns-clause-runs : goal.returns-clause-runs
returns-clause-runs g c =
    let was = run_state c.args.run.now c.args.disk.now c.args.wire.now c.args.meter.now in
    let mid = run_state c.turns.run c.turns.disk c.turns.wire c.turns.meter in
    record {
      able = c.turns.invariant.able;
      stops = λ same. let holds : c.goes_on.result ≡ true = c.goes_on.ensures.1 same in
          let fails : c.goes_on.result ≡ false = c.turns-test.false in
          let both : false ≡ true = sym fails ∙ holds in absurd (let bad : ⊥ = cc in bad);
      lead = c.turns.invariant.lead;
      moves = c.turns.invariant.moves;
      waits = λ same. still_over c.args.next _
          (place_of g.D.Disk g.W.Wire c.args.job.now _ was)
          (place_of g.D.Disk g.W.Wire c.args.job.now _ mid) (c.turns.invariant.still same);
    }

pub returns-clause-keeps : goal.returns-clause-keeps
returns-clause-keeps g c = c.turns.invariant.keeps

pub returns-clause-below : goal.returns-clause-below
returns-clause-below g c = c.turns.invariant.below

pub returns-in_err-came-clause-picked : goal.returns-in_err-came-clause-picked
returns-in_err-came-clause-picked g c =
    on_err_fact _ c.from_residual.result
    (leads_stop g.D.Disk g.W.Wire c.args.job.now _ g.T.Turns
    (run_state c.args.run.now c.args.disk.now c.args.wire.now c.args.meter.now)
    (run_state c.turns.run c.turns.disk c.turns.wire c.turns.meter) c.args.turns.now
    c.turns.turns c.advance.new.turns c.turns.invariant.lead c.in_err-came.ensures.picked)

pub returns-in_err-came-clause-stops : goal.returns-in_err-came-clause-stops
returns-in_err-came-clause-stops g c =
    let p = err_from_is_err_and c.from_residual.result c.from_residual.ensures.1 in
    let a : ℕ = g.D.Disk.faults c.args.disk.now in
    let b : ℕ = g.D.Disk.faults c.turns.disk in
    let d : ℕ = g.D.Disk.faults c.advance.new.disk in
    let v : ℕ = g.W.Wire.faults c.args.wire.now in
    let w : ℕ = g.W.Wire.faults c.turns.wire in
    let x : ℕ = g.W.Wire.faults c.advance.new.wire in
    let disk : a ≤ b = c.turns.invariant.disk_later in
    let wire : v ≤ w = c.turns.invariant.wire_later in
    rw (p.1, p.2) (stopped_after _ (count b d) (count w x) (count a d) (count v x)
    (Err c.in_err-came.field-0.0) (omega arith) (omega arith) (omega arith) (omega arith)
    (stopped_first _ _ (count b d) (count w x) (count b d) (count w x)
    c.in_err-came.field-0.0 refl (omega arith) refl (omega arith)
    c.in_err-came.ensures.stops))
