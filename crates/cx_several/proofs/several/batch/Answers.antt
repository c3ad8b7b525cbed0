use Rattle.std.proofs.Common.{[], refl, sym, arith}
use Rattle.cx_several.proofs.ClauseLaws.{comes, files_are, owes, wrong_use}
use Rattle.cx_several.proofs.CountLaws.{counts_all}
use Rattle.cx_several.proofs.MakingLaws.{kept_still}
use Rattle.cx_several.proofs.several.batch.Goals as goal

pub reply_for-reply-requires-clause-files : goal.reply_for-reply-requires-clause-files
reply_for-reply-requires-clause-files g c =
    files_are c.args.words.now c.in-Some.files.now (sym c.in-Some.ensures)

pub returns-in-Some : goal.returns-in-Some
returns-in-Some g c =
    let come = comes c.args.words.now _ c.in-Some.files.now c.reply_for-reply.result _ c.say.result
    (sym c.in-Some.ensures) c.reply_for-reply.ensures.replies c.say.ensures.put in
    record {
      comes = come;
      counted = counts_all c.args.words.now _ _ c.say.result come;
      owed = owes c.args.words.now _ _ c.say.result come;
      kept = record {
        shelf = c.reply_for-reply.ensures.kept;
        sink_ = c.say.ensures.later;
        points = c.reply_for-reply.ensures.points;
      };
    }

pub returns-in-None : goal.returns-in-None
returns-in-None g c =
    let come = wrong_use c.args.words.now _ c.usage.result _ c.say-in-None.result
    (sym c.in-None.ensures) refl (record { disks = refl; wires = refl; meter = refl; turns = refl })
    c.usage.ensures c.say-in-None.ensures.put in
    record {
      comes = come;
      counted = counts_all c.args.words.now _ _ c.say-in-None.result come;
      owed = owes c.args.words.now _ _ c.say-in-None.result come;
      kept = record {
        shelf = kept_still g.H.Shelf [] c.args.shelf.now;
        sink_ = c.say-in-None.ensures.later;
        points = omega arith;
      };
    }
