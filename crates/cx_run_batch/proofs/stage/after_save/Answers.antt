use Rattle.std.proofs.Common.{◌∙◌, inr, refl, sym}
use Rattle.cx_run_batch.proofs.stage.after_save.Goals as goal

pub cut_anew-requires-clause-anew : goal.cut_anew-requires-clause-anew
cut_anew-requires-clause-anew g c = sym c.is_cut_anew.ensures ∙ c.if-is_cut_anew.true

pub returns-else-is_cut_anew : goal.returns-else-is_cut_anew
returns-else-is_cut_anew g c = record {
  goes = inr (record {
    stays = sym c.is_cut_anew.ensures ∙ c.if-is_cut_anew.false;
    same = refl;
    job_is = refl;
  });
}
