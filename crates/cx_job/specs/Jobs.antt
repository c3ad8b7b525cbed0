-- The job of bound thorns, by the values of their parameters, their plan, the items, the variables
-- that are written, and the steps of parameters.
use Rattle.std.specs.Prelude.{ℕ, List, [], ◌++◌}
use Rattle.cx_plan.specs.declared.variable.VarId.{VarId}
use Rattle.cx_plan.specs.declared.item.Item.{Item}
use Rattle.cx_plan.specs.declared.job.Job.{Job}
use Rattle.cx_bind.specs.declared.thorns.Thorn.{Thorn}
use Rattle.cx_bind.specs.declared.thorns.Param.{Param}
use Rattle.cx_values.specs.declared.steering.SteerStep.{SteerStep}
use Rattle.cx_values.specs.declared.values.Values.{Values}
use Rattle.cx_order.specs.declared.ordered.Ordered.{Ordered}
use Rattle.cx_job.specs.declared.job.Run.{Run}
use Rattle.cx_job.specs.declared.job.Layout.{Layout}
use Rattle.cx_job.specs.declared.job.Texts.{Texts}
use Rattle.cx_job.specs.declared.job.Parts.{Parts}
use Rattle.cx_job_values.specs.Grids.{shape_of, cuts_of}
use Rattle.cx_rule.specs.declared.spec.Spec.{Spec}
use Rattle.cx_job_items.specs.Steered.{steers_of}
use Rattle.cx_job.specs.Keys.{key, starred_lines, step_lines}
use Rattle.cx_job.specs.LocalCells.{items_run}
use Rattle.cx_job.specs.Weights.{weight_of}
use Rattle.cx_job_values.specs.RunNumbers.{itlast, while_limit, lead, balance, weight_factor, out_every, checkpoint_every, keep, on_end, out_dir, checkpoint_dir, recover_of}
use Rattle.cx_job_values.specs.Stored.{stored_infos}

-- the numbers, the flags and the texts of a run
abbrev pub run_of : Values → Run
run_of v =
    record {
      itlast = itlast v;
      while_limit = while_limit v;
      lead = lead v;
      balance = balance v;
      weight_factor = weight_factor v;
      out_every = out_every v;
      checkpoint_every = checkpoint_every v;
      keep = keep v;
      on_end = on_end v;
      recover = recover_of v;
      out_dir = out_dir v;
      checkpoint_dir = checkpoint_dir v;
    }

-- the grid, how it is cut, the variables with their stored levels, and the one that weighs
abbrev pub layout_of : List Thorn → Values → List ℕ → Layout
layout_of thorns values storage =
    record {
      shape = shape_of thorns values;
      cut = cuts_of thorns values;
      vars = stored_infos thorns storage;
      weight = weight_of thorns values;
    }

abbrev pub texts_of : List Thorn → Values → Layout → List ℕ → Texts
texts_of thorns values layout plan_text =
    record {
      key = key layout.shape thorns values layout.vars plan_text;
      starred = starred_lines thorns values;
    }

abbrev pub parts_of : List Thorn → Values → List ℕ → List ℕ → Parts
parts_of thorns values storage plan_text =
    record {
      run = run_of values;
      layout = layout_of thorns values storage;
      texts = texts_of thorns values (layout_of thorns values storage) plan_text;
    }

-- with the plan, the items and the variables that are written
abbrev pub job_with : Parts → Ordered → List Item → List VarId → Job
job_with parts ordered items out_vars =
    record {
      shape = parts.layout.shape;
      vars = parts.layout.vars;
      items = items;
      steers = [];
      plan = ordered.plan;
      cut = parts.layout.cut;
      itlast = parts.run.itlast;
      while_limit = parts.run.while_limit;
      lead = parts.run.lead;
      balance = parts.run.balance;
      weight = parts.layout.weight;
      weight_factor = parts.run.weight_factor;
      out_every = parts.run.out_every;
      out_vars = out_vars;
      chk_every = parts.run.checkpoint_every;
      keep = parts.run.keep;
      on_end = parts.run.on_end;
      recover = parts.run.recover;
      out_dir = parts.run.out_dir;
      chk_dir = parts.run.checkpoint_dir;
      key = parts.texts.key;
      plan_text = ordered.text;
      starred = parts.texts.starred;
    }

abbrev pub job_of : List Thorn → Values → Ordered → List Item → List VarId → Job
job_of thorns values ordered items out_vars =
    job_with (parts_of thorns values ordered.storage ordered.text) ordered items out_vars

-- a job with the steps of a steer file: its items of the bins that are run are steered by them, and
-- its key ends with their lines
abbrev pub steered_job : List Spec → List Param → List SteerStep → Job → Job
steered_job specs params steps job =
    record job {
      steers = steers_of specs params (items_run job) steps;
      key = job.key ++ step_lines params steps;
    }
