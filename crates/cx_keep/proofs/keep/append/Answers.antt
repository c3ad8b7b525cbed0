use Rattle.std.proofs.Common.{ℕ, subst, length}
use Rattle.std.proofs.lemmas.Result.{on_ok_weaker}
use Rattle.cx_disk.specs.Disk.{Changes, OthersSame, Torn, Holds, Passes}
use Rattle.cx_disk.proofs.Moments.{started, goes_on}
use Rattle.cx_keep.specs.Trails.{IsTrailOf, file_of_output}
use Rattle.cx_keep.proofs.Appends.{written_end, append_trail, append_stands}
use Rattle.cx_keep.proofs.keep.append.Goals as goal

pub returns-clause-moments : goal.returns-clause-moments
returns-clause-moments g c = λ tells course newest next can.
    let passes =
    subst (λ (f : ℕ). Passes (Changes
    (Torn (length ((g.D.Disk.view c.args.disk.now).seen (file_of_output c.args.place)))
    (length c.args.piece.now)) f) (g.D.Disk.view c.args.disk.now)
    (g.D.Disk.view c.write_at.new.self)) c.named_output.ensures
    (subst (λ (a : ℕ). Passes (Changes (Torn a (length c.args.piece.now)) c.named_output.result)
    (g.D.Disk.view c.args.disk.now) (g.D.Disk.view c.write_at.new.self))
    (c.requires.end tells) (c.write_at.ensures.after tells)) in
    goes_on (IsTrailOf course newest next)
    (started (g.D.Disk.view c.args.disk.now) (IsTrailOf course newest next)) passes
    (append_trail course newest next c.args.place c.args.piece.now
    (g.D.Disk.view c.args.disk.now) (g.D.Disk.view c.write_at.new.self)
    (g.met.D.Disk.sound c.args.disk.now tells) can.stands can.piece passes)

pub returns-clause-appended : goal.returns-clause-appended
returns-clause-appended g c = λ tells.
    let passes =
    subst (λ (f : ℕ). Passes (Changes
    (Torn (length ((g.D.Disk.view c.args.disk.now).seen (file_of_output c.args.place)))
    (length c.args.piece.now)) f) (g.D.Disk.view c.args.disk.now)
    (g.D.Disk.view c.write_at.new.self)) c.named_output.ensures
    (subst (λ (a : ℕ). Passes (Changes (Torn a (length c.args.piece.now)) c.named_output.result)
    (g.D.Disk.view c.args.disk.now) (g.D.Disk.view c.write_at.new.self))
    (c.requires.end tells) (c.write_at.ensures.after tells)) in
    let others = subst (λ (f : ℕ). OthersSame f (g.D.Disk.view c.args.disk.now).seen
    (g.D.Disk.view c.write_at.new.self).seen) c.named_output.ensures
    (c.write_at.ensures.others tells) in
    on_ok_weaker c.write_at.result (λ written.
    let holds =
    subst (λ (f : ℕ). Holds (length ((g.D.Disk.view c.args.disk.now).seen
    (file_of_output c.args.place))) c.args.piece.now
    ((g.D.Disk.view c.args.disk.now).seen f) ((g.D.Disk.view c.write_at.new.self).seen f))
    c.named_output.ensures
    (subst (λ (a : ℕ). Holds a c.args.piece.now
    ((g.D.Disk.view c.args.disk.now).seen c.named_output.result)
    ((g.D.Disk.view c.write_at.new.self).seen c.named_output.result))
    (c.requires.end tells) written) in
    record {
      bytes = record {
        this = written_end c.args.piece.now
            ((g.D.Disk.view c.args.disk.now).seen (file_of_output c.args.place))
            ((g.D.Disk.view c.write_at.new.self).seen (file_of_output c.args.place)) holds;
        others = others;
      };
      stands = λ course newest next can.
          append_stands course newest next c.args.place c.args.piece.now
          (g.D.Disk.view c.args.disk.now) (g.D.Disk.view c.write_at.new.self)
          (g.met.D.Disk.sound c.args.disk.now tells) can.stands can.piece passes others holds;
    }) (c.write_at.ensures.written tells)
