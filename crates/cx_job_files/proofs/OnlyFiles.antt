-- Files say one thing, or they have one fault.
use Rattle.std.proofs.Common.{◌≡◌, ◌∙◌, sym, ap, refl, ℕ, Bool, true, false, not, List, [], ◌∷◌, codes, Option, Some, None, Result, Ok, Err, inl, inr}
use Rattle.std.specs.Prelude.{◌≢◌, ◌⊎◌}
use Rattle.cx_text.specs.declared.token.Token.{Token}
use Rattle.cx_text.specs.declared.token.Style.{Style}
use Rattle.cx_text.specs.declared.token.Style.TheVariants.{Ccl, Par, Thorns}
use Rattle.cx_text.specs.Grammar.{Grammar, clean, Spells, IsFault}
use Rattle.cx_text.specs.declared.fault.CclFault.{CclFault}
use Rattle.cx_text.specs.declared.fault.CclFault.TheVariants as trees
use Rattle.cx_text.specs.declared.fault.TextFault.TheVariants as texts
use Rattle.cx_text.specs.Reading.{Read, read_whole}
use Rattle.cx_text.specs.Rules.{Rule}
use Rattle.cx_text.proofs.Laws.{Reads, ok_is}
use Rattle.cx_text.proofs.Checked.{checked_only}
use Rattle.cx_text.proofs.CutLaws.{spelled_one}
use Rattle.cx_text.proofs.Exclusive.{one_spelled, no_fault_spelled, no_cause_spelled, one_cause}
use Rattle.cx_text.proofs.FirstFault.{one_fault}
use Rattle.cx_text.proofs.Whole.{judges_whole}
use Rattle.cx_text.proofs.RuleLaws.{Good}
use Rattle.cx_conf.specs.Conf.{configuration, no_configuration}
use Rattle.cx_conf.specs.Thorns.{thorn_list}
use Rattle.cx_conf.specs.declared.thorn_list.ThornList.{ThornList}
use Rattle.cx_conf.proofs.ConfLaws.{configuration_good}
use Rattle.cx_conf.proofs.ThornLaws.{thorn_list_good}
use Rattle.cx_parfile.specs.ParFile.{parameter_file}
use Rattle.cx_parfile.specs.SteerFile.{steer_file}
use Rattle.cx_parfile.specs.Values.{base_of, is_empty}
use Rattle.cx_parfile.specs.declared.settings.Settings.{Settings}
use Rattle.cx_parfile.proofs.ParLaws.{parameter_file_good}
use Rattle.cx_parfile.proofs.SteerLaws.{steer_file_good}
use Rattle.cx_param.specs.Params.{params}
use Rattle.cx_param.specs.declared.declarations.ParamDecl.{ParamDecl}
use Rattle.cx_param.proofs.ParamLaws.{params_good, file_ends}
use Rattle.cx_sched.specs.Nodes.{schedule}
use Rattle.cx_sched.proofs.NodeLaws as nodes
use Rattle.cx_iface.specs.File.{file, interface}
use Rattle.cx_iface.specs.declared.tree.Interface.{Interface}
use Rattle.cx_iface.proofs.FileLaws.{file_good}
use Rattle.cx_iface.proofs.Header.{read_tree, judges_interface}
use Rattle.cx_iface.proofs.GroupLaws.{at_end}
use Rattle.cx_bind.specs.Selecting.{select}
use Rattle.cx_job_files.specs.declared.fault.ConfigFault.{ConfigFault}
use Rattle.cx_job_files.specs.declared.fault.ConfigFault.TheVariants as faults
use Rattle.cx_job_files.specs.declared.reading.FileNames.{FileNames}
use Rattle.cx_job_files.specs.declared.reading.ThornFiles.{ThornFiles}
use Rattle.cx_job_files.specs.declared.reading.Trees.{Trees}
use Rattle.cx_job_files.specs.Shelf.{Held}
use Rattle.cx_text.specs.Telling.{Stage, Then}
use Rattle.cx_job_files.specs.Stages.{Is, or_fault}
use Rattle.cx_job_files.specs.Reading.{TextTokens, Tokens, TokensIfAny, Tree, TreeIfAny, File, FileOr, ConfAnd, ScheduleAnd, ParamsAnd, ThornSays, file_names, SaysConfiguration, SaysSteersIf, SaysSteers, files_of}
use Rattle.cx_job_files.specs.Configuring.{configuration_of, ThornsSay, ThornsAnd, PlacesAnd, ListAnd, Configures}
use Rattle.cx_job_files.proofs.Settled as settled

-- a stage that gives one value or one fault
abbrev pub Settled : {A : Type 0} → Stage A ConfigFault → Type 0
Settled p = settled.Settled (λ (e : ConfigFault). e) p

settled_is : {A : Type 0} (told : Result A ConfigFault) → Settled (Is told)
settled_is told = settled.settled_is (λ (e : ConfigFault). e) told

then_settled : {A B : Type 0} (p : Stage A ConfigFault) (q : A → Stage B ConfigFault) → Settled p
    → ((x : A) → Settled (q x)) → Settled (Then p q)
then_settled p q first each = settled.then_settled (λ (e : ConfigFault). e) p q first each

-- ---- one tree

-- a list of tokens spells one tree, and has one fault beside want of memory
record Clear {A : Type 0} (S : Grammar A) : Type 0 where
  unique : (ts : List Token) (x y : A) → Spells S ts x → Spells S ts y → y ≡ x
  fault : (ts : List Token) (a b : CclFault) → IsFault S ts a → IsFault S ts b
      → (a ≡ trees.Memory) ⊎ (b ≡ trees.Memory) ⊎ (a ≡ b)

clear : {A : Type 0} {r : Rule A} {G : Option Token → Type 0} → Good r G → G None → Clear r.derives
clear {A} {r} {G} good none = record {
  unique = λ ts x y s t. one_spelled r.reads r.derives G good.law none ts y x t s;
  fault = one_fault (read_whole r.reads) r.derives (judges_whole r.reads r.derives G good.law none);
}

-- a tree that a whole list's value holds, where that passes a test
unique_held : {X A : Type 0} (p : Read X) (S : Grammar X) (G : Option Token → Type 0) → Reads p S G
    → G None → (has : X → Bool) (tree : X → A) (ts : List Token) (x y : A)
    → ((s : X) × S s (clean ts) None × (has s ≡ true) × (x ≡ tree s))
    → ((s : X) × S s (clean ts) None × (has s ≡ true) × (y ≡ tree s)) → y ≡ x
unique_held p S G r none has tree ts x y (s, d, h, e) (v, k, j, f) =
    let same = ok_is v s [] []
    (sym (checked_only p S G r none has ts v (k, j))
    ∙ checked_only p S G r none has ts s (d, h)) in
    f ∙ ap tree same.0 ∙ sym e

interface_clear : Clear interface
interface_clear = record {
  unique = λ ts x y s t. unique_held file.reads file.derives _ file_good.law (refl, at_end)
      (λ s. s.implements) (λ s. s.tree) ts x y s t;
  fault = one_fault read_tree interface judges_interface;
}

-- ---- one file

-- of two faults, neither of which is want of memory
neither : {F : Type 0} (memory a b : F) → (a ≢ memory) → (b ≢ memory)
    → (a ≡ memory) ⊎ (b ≡ memory) ⊎ (a ≡ b) → a ≡ b
neither memory a b n o (inl e) = absurd (n e)
neither memory a b n o (inr (inl e)) = absurd (o e)
neither memory a b n o (inr (inr e)) = e

text_one : (style : Style) (name bytes : List ℕ) (x : List Token)
    (r : Result (List Token) ConfigFault) → TextTokens style name bytes (Ok x)
    → TextTokens style name bytes r → r ≡ Ok x
text_one style name bytes x (Ok y) s t =
    ap (λ (ts : List Token). Ok ts) (spelled_one bytes style x y s.1 t.1)
text_one style name bytes x (Err e) s (fault, is, other, cause) =
    absurd (other (no_cause_spelled bytes style x fault s.0 s.1 cause))

text_settled : (style : Style) (name bytes : List ℕ) → Settled (TextTokens style name bytes)
text_settled style name bytes = record {
  one = text_one style name bytes;
  alike = λ e f (a, is, other, cause) (b, is2, other2, cause2).
      (is ∙ ap (faults.Text name)
      (neither texts.Memory a b other other2 (one_cause bytes style a b cause cause2)) ∙ sym is2);
}

tree_one : {A : Type 0} (S : Grammar A) (name : List ℕ) (ts : List Token) → Clear S
    → (x : A) (r : Result A ConfigFault) → Tree S name ts (Ok x) → Tree S name ts r → r ≡ Ok x
tree_one {A} S name ts c x (Ok y) s t = ap (λ (v : A). Ok v) (c.unique ts x y s t)
tree_one S name ts c x (Err e) s (fault, is, other, told) =
    absurd (other (no_fault_spelled S ts x fault s told))

tree_settled : {A : Type 0} (S : Grammar A) (name : List ℕ) (ts : List Token) → Clear S
    → Settled (Tree S name ts)
tree_settled S name ts c = record {
  one = tree_one S name ts c;
  alike = λ e f (a, is, other, told) (b, is2, other2, told2).
      (is ∙ ap (faults.Ccl name) (neither trees.Memory a b other other2 (c.fault ts a b told told2))
      ∙ sym is2);
}

tokens_settled : (style : Style) (name : List ℕ) (o : Option (List ℕ))
    → Settled (Tokens style name o)
tokens_settled style name None = settled_is (Err (faults.NoFile name))
tokens_settled style name (Some bytes) = text_settled style name bytes

any_settled : (style : Style) (name : List ℕ) (o : Option (List ℕ))
    → Settled (TokensIfAny style name o)
any_settled style name None = settled_is (Ok None)
any_settled style name (Some bytes) =
    then_settled (TextTokens style name bytes) (λ tokens. Is (Ok (Some tokens)))
    (text_settled style name bytes) (λ tokens. settled_is (Ok (Some tokens)))

tree_any_settled : {A : Type 0} (absent : A) (S : Grammar A) (name : List ℕ) → Clear S
    → (o : Option (List Token)) → Settled (TreeIfAny absent S name o)
tree_any_settled absent S name one None = settled_is (Ok absent)
tree_any_settled absent S name one (Some tokens) = tree_settled S name tokens one

module _ (files : Held) where
  file_settled : {A : Type 0} (style : Style) (S : Grammar A) (name : List ℕ) → Clear S
      → Settled (File style S name files)
  file_settled style S name one =
      then_settled (Tokens style name (files name)) (Tree S name)
      (tokens_settled style name (files name)) (λ ts. tree_settled S name ts one)

  file_or_settled : {A : Type 0} (absent : A) (style : Style) (S : Grammar A) (name : List ℕ)
      → Clear S → Settled (FileOr absent style S name files)
  file_or_settled absent style S name one =
      then_settled (TokensIfAny style name (files name)) (TreeIfAny absent S name)
      (any_settled style name (files name)) (tree_any_settled absent S name one)

  -- ---- a thorn

  conf_settled : (place : List ℕ × List ℕ) (names : FileNames) (trees : Trees)
      → Settled (ConfAnd place names trees files)
  conf_settled place names trees =
      then_settled (SaysConfiguration names.conf files)
      (λ conf. Is (Ok (files_of place trees conf)))
      (file_or_settled no_configuration Ccl configuration.derives names.conf
      (clear configuration_good (refl, refl)))
      (λ conf. settled_is (Ok (files_of place trees conf)))

  schedule_settled : (place : List ℕ × List ℕ) (names : FileNames) (i : Interface)
      (ps : List ParamDecl) → Settled (ScheduleAnd place names i ps files)
  schedule_settled place names i ps =
      then_settled (File Ccl schedule.derives names.schedule files)
      (λ s. ConfAnd place names (record { interface = i; params = ps; schedule = s }) files)
      (file_settled Ccl schedule.derives names.schedule (clear nodes.file_good nodes.file_end))
      (λ s. conf_settled place names (record { interface = i; params = ps; schedule = s }))

  params_settled : (place : List ℕ × List ℕ) (names : FileNames) (i : Interface)
      → Settled (ParamsAnd place names i files)
  params_settled place names i =
      then_settled (File Ccl params.derives names.params files)
      (λ ps. ScheduleAnd place names i ps files)
      (file_settled Ccl params.derives names.params (clear params_good file_ends))
      (schedule_settled place names i)

  thorn_settled : (place : List ℕ × List ℕ) (names : FileNames)
      → Settled (ThornSays place names files)
  thorn_settled place names =
      then_settled (File Ccl interface names.interface files) (λ i. ParamsAnd place names i files)
      (file_settled Ccl interface names.interface interface_clear) (params_settled place names)

  -- ---- a configuration

  more_settled : (places : List (List ℕ × List ℕ)) (t : ThornFiles)
      → Settled (ThornsSay places files)
      → Settled (Then (ThornsSay places files) (λ ts. Is (Ok (t ∷ ts))))
  more_settled places t one =
      then_settled (ThornsSay places files) (λ ts. Is (Ok (t ∷ ts))) one
      (λ ts. settled_is (Ok (t ∷ ts)))

  thorns_settled : (places : List (List ℕ × List ℕ)) → Settled (ThornsSay places files)
  thorns_settled [] = settled_is (Ok [])
  thorns_settled (place ∷ places) =
      then_settled (ThornSays place (file_names place) files)
      (λ t. Then (ThornsSay places files) (λ ts. Is (Ok (t ∷ ts))))
      (thorn_settled place (file_names place)) (λ t. more_settled places t (thorns_settled places))

  thorns_and_settled : (settings : Settings) (places : List (List ℕ × List ℕ))
      → Settled (ThornsAnd settings places files)
  thorns_and_settled settings places =
      then_settled (ThornsSay places files) (λ ts. Is (Ok (configuration_of settings ts)))
      (thorns_settled places) (λ ts. settled_is (Ok (configuration_of settings ts)))

  places_settled : (settings : Settings) (list : ThornList)
      → Settled (PlacesAnd settings list files)
  places_settled settings list =
      let told : Result (List (List ℕ × List ℕ)) ConfigFault =
      or_fault faults.Bind (select list settings.active) in
      then_settled (Is told) (λ places. ThornsAnd settings places files) (settled_is told)
      (thorns_and_settled settings)

  list_settled : (settings : Settings) → Settled (ListAnd settings files)
  list_settled settings =
      then_settled (File Thorns thorn_list.derives (codes "ThornList") files)
      (λ list. PlacesAnd settings list files)
      (file_settled Thorns thorn_list.derives (codes "ThornList") (clear thorn_list_good refl))
      (places_settled settings)

  pub configures_settled : (name : List ℕ) → Settled (Configures name files)
  configures_settled name =
      then_settled (File Par (parameter_file (base_of name)).derives name files)
      (λ settings. ListAnd settings files)
      (file_settled Par (parameter_file (base_of name)).derives name
      (clear (parameter_file_good (base_of name)) refl)) list_settled

  -- ---- the steer file

  steers_settled_if : (named : Bool) (name : List ℕ) → Settled (SaysSteersIf named name files)
  steers_settled_if true name =
      file_settled Par steer_file.derives name (clear steer_file_good refl)
  steers_settled_if false name = settled_is (Ok [])

  pub steers_settled : (name : List ℕ) → Settled (SaysSteers name files)
  steers_settled name = steers_settled_if (not (is_empty name)) name
