-- What a job is made of whose only thorn has these files.
use Rattle.std.proofs.Common.{◌≡◌, refl, sym, ap, subst, ◌∙◌, ℕ, true, List, [], ◌∷◌, map, Some, Ok}
use Rattle.std.specs.Option.{option_map}
use Rattle.cx_text.specs.Lexemes.{same_name}
use Rattle.cx_expr.specs.Known.{Names}
use Rattle.cx_iface.proofs.FileLaws.{AfterFile, file_good}
use Rattle.cx_iface.proofs.GroupLaws.{at_end}
use Rattle.cx_iface.specs.File.{file, interface}
use Rattle.cx_iface.specs.declared.tree.Interface.{Interface}
use Rattle.cx_param.proofs.ParamLaws.{AfterEntries, params_good, file_ends}
use Rattle.cx_param.specs.Params.{params}
use Rattle.cx_param.specs.declared.declarations.ParamDecl.{ParamDecl}
use Rattle.cx_conf.specs.declared.configuration.Configuration.{Configuration}
use Rattle.cx_sched.proofs.NodeLaws as nodes
use Rattle.cx_sched.specs.Nodes.{schedule}
use Rattle.cx_sched.specs.declared.tree.ScheduleFile.{ScheduleFile}
use Rattle.cx_bind.specs.Selecting.{Place}
use Rattle.cx_bind.specs.declared.thorns.Thorn.{Thorn}
use Rattle.cx_values.specs.Assigned.{assigned}
use Rattle.cx_values.specs.declared.values.Values.{Values}
use Rattle.cx_order.specs.Files.{thorn_names}
use Rattle.cx_order.specs.Storage.{storage}
use Rattle.cx_order.specs.declared.ordered.Ordered.{Ordered}
use Rattle.cx_order_entries.specs.Counted.{Line}
use Rattle.cx_scope.specs.Sight.{Sight}
use Rattle.cx_plan.specs.declared.job.Job.{Job}
use Rattle.cx_rule.specs.declared.spec.Spec.{Spec}
use Rattle.cx_job_files.proofs.OnlyFiles.{configures_settled}
use Rattle.cx_job_files.specs.Configuring.{Configures}
use Rattle.cx_job_files.specs.Reading.{file_names}
use Rattle.cx_job_files.specs.Shelf.{Held}
use Rattle.cx_job_files.specs.Stages.{Raised}
use Rattle.cx_job_files.specs.declared.configuring.Configured.{Configured}
use Rattle.cx_job_files.specs.declared.reading.ThornFiles.{ThornFiles}
use Rattle.cx_job.specs.Faults.{config_fault}
use Rattle.cx_job.specs.Making.{Made, MadeOf}
use Rattle.law_physics_job.specs.Alone.{IsAlone, place_of}
use Rattle.law_physics_job.proofs.Matched.{some_same}
use Rattle.law_physics_job.proofs.Pieces.{tree_of, computed}
use Rattle.law_physics_job.proofs.Stages.{IsMadeOf, made_of}
use Rattle.law_physics_job.proofs.Thorn.{then_ok, file_said, SaysThorn, HasOne, has_one}
use Rattle.law_physics_job.proofs.Trees.{thorn_of, are_quiet, lines_of, lines_in}

-- a job of one thorn that has these variables, whose slots no steer fills, and that stores this
pub record IsOfThorn (named_so : List ℕ) (tree : Interface) (slots : List (List ℕ))
    (stored : List ℕ) (specs : List Spec) (job : Job) : Type 0 where
  pub place : Place
  pub named : same_name place.1 named_so ≡ true
  pub params : List ParamDecl
  pub conf : Configuration
  pub quiet : are_quiet slots (thorn_of place tree params conf) ≡ true
  pub schedule : ScheduleFile
  pub values : Values
  pub made : IsMadeOf specs (thorn_of place tree params conf ∷ []) (schedule ∷ []) values job
  pub storage_is : made.ordered.storage ≡ stored

-- ---- what the three files say

module _ (files : Held) (place : Place) (t : ThornFiles) (says : SaysThorn place files t) where
  module _ (text : List ℕ) (held : files (file_names place).interface ≡ Some text)
      (tree : Interface)
      (row : option_map (λ s. s.tree) (tree_of file.reads text) ≡ Some tree) where
    interface_said : says.interface ≡ tree
    interface_said =
        let said = file_said interface (file_names place).interface text files says.interface
        says.says_interface held in
        let s = said.2 in
        s.3 ∙ computed file.reads file.derives AfterFile file_good.law (refl, at_end)
        (λ s. s.tree) text tree row said.0 s.0 said.1 s.1

  module _ {C : Type 0} (F : List ParamDecl → C) (c : C) (text : List ℕ)
      (held : files (file_names place).params ≡ Some text)
      (row : option_map F (tree_of params.reads text) ≡ Some c) where
    params_said : F says.params ≡ c
    params_said =
        let said = file_said params.derives (file_names place).params text files says.params
        says.says_params held in
        computed params.reads params.derives AfterEntries params_good.law file_ends F text c row
        said.0 says.params said.1 said.2

  module _ {C : Type 0} (F : ScheduleFile → C) (c : C) (text : List ℕ)
      (held : files (file_names place).schedule ≡ Some text)
      (row : option_map F (tree_of schedule.reads text) ≡ Some c) where
    schedule_said : F says.schedule ≡ c
    schedule_said =
        let said = file_said schedule.derives (file_names place).schedule text files says.schedule
        says.says_schedule held in
        computed schedule.reads schedule.derives nodes.AfterNodes nodes.file_good.law nodes.file_end
        F text c row said.0 says.schedule said.1 said.2

-- ---- the job

module _ (named_so interface_text params_text schedule_text name : List ℕ) (files : Held)
    (tree : Interface) (slots : List (List ℕ)) (lines : List Line) (stored : List ℕ)
    (says_tree : option_map (λ s. s.tree) (tree_of file.reads interface_text) ≡ Some tree)
    (says_quiet : (place : Place) (conf : Configuration)
    → option_map (λ ps. are_quiet slots (thorn_of place tree ps conf))
    (tree_of params.reads params_text) ≡ Some true)
    (says_lines : (names : ℕ → Names) (t : Thorn)
    → option_map (lines_in names t) (tree_of schedule.reads schedule_text) ≡ Some (Some lines))
    (stores : (place : Place) (ps : List ParamDecl) (conf : Configuration) (sight : Sight)
    → storage (thorn_of place tree ps conf ∷ []) sight lines ≡ stored) where
  module _ (specs : List Spec) (job : Job) where
    storage_of : (place : Place) (ps : List ParamDecl) (conf : Configuration) (s : ScheduleFile)
        (values : Values)
        (m : IsMadeOf specs (thorn_of place tree ps conf ∷ []) (s ∷ []) values job)
        → lines_in (thorn_names values) (thorn_of place tree ps conf) s ≡ Some lines
        → m.ordered.storage ≡ stored
    storage_of place ps conf s values m has =
        let t = thorn_of place tree ps conf in
        let p = m.plan in
        let same : p.c.lines ≡ lines =
        some_same (sym (ap lines_of p.are_orders.are_entries.counted) ∙ has) in
        ap (λ (o : Ordered). o.storage) p.is_planned
        ∙ ap (storage (t ∷ []) p.sight) same ∙ stores place ps conf p.sight

    with_thorn : (c : Configured) (place : Place) → same_name place.1 named_so ≡ true
        → (h : HasOne place files c)
        → files (file_names place).interface ≡ Some interface_text
        → files (file_names place).params ≡ Some params_text
        → files (file_names place).schedule ≡ Some schedule_text
        → MadeOf specs files c (Ok job) → IsOfThorn named_so tree slots stored specs job
    with_thorn c place named h held_interface held_params held_schedule made =
        let says = h.says in
        let is_tree = interface_said files place h.t says interface_text held_interface tree
        says_tree in
        let t = thorn_of place tree says.params says.conf in
        let thorn_is : h.t.thorn ≡ t =
        ap (λ (f : ThornFiles). f.thorn) says.is
        ∙ ap (λ (i : Interface). thorn_of place i says.params says.conf) is_tree in
        let values = assigned c.thorns c.settings.list in
        let m : IsMadeOf specs (t ∷ []) (says.schedule ∷ []) values job =
        subst (λ (ts : List Thorn). IsMadeOf specs ts (says.schedule ∷ []) values job)
        (h.thorns ∙ ap (λ u. u ∷ []) thorn_is)
        (subst (λ (ss : List ScheduleFile). IsMadeOf specs c.thorns ss values job)
        (h.schedules ∙ ap (λ (f : ThornFiles). f.schedule ∷ []) says.is)
        (made_of specs files job c made)) in
        record {
          place = place;
          named = named;
          params = says.params;
          conf = says.conf;
          quiet =
              params_said files place h.t says
              (λ ps. are_quiet slots (thorn_of place tree ps says.conf)) true params_text
              held_params (says_quiet place says.conf);
          schedule = says.schedule;
          values = values;
          made = m;
          storage_is =
              storage_of place says.params says.conf says.schedule values m
              (schedule_said files place h.t says (lines_in (thorn_names values) t) (Some lines)
              schedule_text held_schedule (says_lines (thorn_names values) t));
        }

    pub is_of_thorn : IsAlone named_so interface_text params_text schedule_text name files
        → Made name specs files (Ok job) → IsOfThorn named_so tree slots stored specs job
    is_of_thorn alone made =
        let found = then_ok (Raised config_fault (Configures name files)) (MadeOf specs files) job
        made in
        let same : found.0 ≡ alone.configured =
        (let e = (configures_settled files name).one alone.configured (Ok found.0) alone.says
        found.1 in cc) in
        let only = ap (λ (c : Configured). map place_of c.thorns) same ∙ alone.only in
        with_thorn found.0 alone.place alone.named
        (has_one name files found.0 alone.place found.1 only)
        alone.interface_is alone.params_are alone.schedule_is found.2
