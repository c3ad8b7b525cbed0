-- What the same files say is the same.
use Rattle.std.proofs.Common.{◌≡◌, sym, ◌∙◌, ap, subst, ℕ, List, [], ◌∷◌, codes, Option, Result, Ok, inr}
use Rattle.cx_text.specs.declared.token.Style.TheVariants.{Ccl, Thorns}
use Rattle.cx_text.specs.Telling.{Stage, Then}
use Rattle.cx_conf.specs.Conf.{configuration, no_configuration}
use Rattle.cx_conf.specs.Thorns.{thorn_list}
use Rattle.cx_conf.specs.declared.thorn_list.ThornList.{ThornList}
use Rattle.cx_iface.specs.File.{interface}
use Rattle.cx_param.specs.Params.{params}
use Rattle.cx_sched.specs.Nodes.{schedule}
use Rattle.cx_parfile.specs.declared.settings.Settings.{Settings}
use Rattle.cx_bind.specs.Selecting.{select}
use Rattle.cx_job_files.specs.declared.fault.ConfigFault.{ConfigFault}
use Rattle.cx_job_files.specs.declared.fault.ConfigFault.TheVariants as faults
use Rattle.cx_job_files.specs.declared.reading.ThornFiles.{ThornFiles}
use Rattle.cx_job_files.specs.declared.configuring.Configured.{Configured}
use Rattle.cx_job_files.specs.Shelf.{Held}
use Rattle.cx_job_files.specs.Stages.{Is, or_fault}
use Rattle.cx_job_files.specs.Reading.{Tokens, TokensIfAny, Tree, TreeIfAny, files_of, thorn_file, file_names, ThornSays, SaysSettings, SaysThornList}
use Rattle.cx_job_files.specs.Configuring.{ThornsSay, configuration_of, ThornsAnd, PlacesAnd, ListAnd, Configures}
use Rattle.cx_job_files.proofs.OnlyFiles.{configures_settled}
use Rattle.law_restarts.proofs.StageLaws.{then_ok}

-- what a thorn's four files say
abbrev thorn_says : List ℕ × List ℕ → Option (List ℕ) → Option (List ℕ) → Option (List ℕ)
    → Option (List ℕ) → Stage ThornFiles ConfigFault
thorn_says place one two three four =
    Then (Then (Tokens Ccl (file_names place).interface one)
    (Tree interface (file_names place).interface))
    (λ i. Then (Then (Tokens Ccl (file_names place).params two)
    (Tree params.derives (file_names place).params))
    (λ ps. Then (Then (Tokens Ccl (file_names place).schedule three)
    (Tree schedule.derives (file_names place).schedule))
    (λ s. Then (Then (TokensIfAny Ccl (file_names place).conf four)
    (TreeIfAny no_configuration configuration.derives (file_names place).conf))
    (λ conf. Is (Ok (files_of place (record { interface = i; params = ps; schedule = s }) conf))))))

abbrev okay : Configured → Result Configured ConfigFault
okay c = Ok c

one_value : (x y : Configured) → okay x ≡ okay y → x ≡ y
one_value x y e = cc

pub settings_of : (s : Settings) (files : Held) (z : Configured) → ListAnd s files (Ok z)
    → z.settings ≡ s
settings_of s files z says =
    let listed = then_ok (SaysThornList (codes "ThornList") files) (λ l. PlacesAnd s l files)
    z says in
    let placed = then_ok (Is (or_fault faults.Bind (select listed.0 s.active)))
    (λ places. ThornsAnd s places files) z listed.2 in
    let read = then_ok (ThornsSay placed.0 files) (λ ts. Is (Ok (configuration_of s ts)))
    z placed.2 in
    ap (λ (c : Configured). c.settings) (one_value z (configuration_of s read.0) read.2)

module _ (a b : Held) (list : a (codes "ThornList") ≡ b (codes "ThornList"))
    (thorns : (place : List ℕ × List ℕ) (file : List ℕ)
    → a (thorn_file place file) ≡ b (thorn_file place file)) where
  thorn_same : (place : List ℕ × List ℕ) (r : Result ThornFiles ConfigFault)
      → ThornSays place (file_names place) a r → ThornSays place (file_names place) b r
  thorn_same place r says =
      let i : List ℕ = (file_names place).interface in
      let p : List ℕ = (file_names place).params in
      let s : List ℕ = (file_names place).schedule in
      let c : List ℕ = (file_names place).conf in
      subst (λ o. thorn_says place (b i) (b p) (b s) o r) (thorns place (codes "configuration.ccl"))
      (subst (λ o. thorn_says place (b i) (b p) o (a c) r) (thorns place (codes "schedule.ccl"))
      (subst (λ o. thorn_says place (b i) o (a s) (a c) r) (thorns place (codes "param.ccl"))
      (subst (λ o. thorn_says place o (a p) (a s) (a c) r) (thorns place (codes "interface.ccl"))
      says)))

  thorns_same : (places : List (List ℕ × List ℕ)) (ts : List ThornFiles)
      → ThornsSay places a (Ok ts) → ThornsSay places b (Ok ts)
  thorns_same [] ts says = says
  thorns_same (place ∷ places) ts says =
      let first = then_ok (ThornSays place (file_names place) a)
      (λ t. Then (ThornsSay places a) (λ ts. Is (Ok (t ∷ ts)))) ts says in
      let rest = then_ok (ThornsSay places a) (λ ts. Is (Ok (first.0 ∷ ts))) ts first.2 in
      inr (
        first.0,
        thorn_same place (Ok first.0) first.1,
        inr (rest.0, thorns_same places rest.0 rest.1, rest.2),
      )

  list_same : (l : ThornList) → SaysThornList (codes "ThornList") a (Ok l)
      → SaysThornList (codes "ThornList") b (Ok l)
  list_same l says = subst
      (λ o. Then (Tokens Thorns (codes "ThornList") o) (Tree thorn_list.derives (codes "ThornList"))
      (Ok l)) list says

  -- what is configured with other settings of the same active thorns
  abbrev with_settings : Settings → Configured → Configured
  with_settings s x = record { settings = s; thorns = x.thorns; schedules = x.schedules }

  others_same : (s t : Settings) (x : Configured) → s.active ≡ t.active → ListAnd s a (Ok x)
      → ListAnd t b (Ok (with_settings t x))
  others_same s t x active says =
      let listed = then_ok (SaysThornList (codes "ThornList") a) (λ l. PlacesAnd s l a) x says in
      let placed = then_ok (Is (or_fault faults.Bind (select listed.0 s.active)))
      (λ places. ThornsAnd s places a) x listed.2 in
      let read = then_ok (ThornsSay placed.0 a) (λ ts. Is (Ok (configuration_of s ts)))
      x placed.2 in
      let same : x ≡ configuration_of s read.0 = one_value x (configuration_of s read.0) read.2 in
      let is : okay (with_settings t x) ≡ okay (configuration_of t read.0) =
      ap (λ (c : Configured). okay (with_settings t c)) same in
      inr (
        listed.0,
        list_same listed.0 listed.1,
        inr (
          placed.0,
          placed.1
              ∙ ap (λ names. or_fault faults.Bind (select listed.0 names)) active,
          inr (read.0, thorns_same placed.0 read.0 read.1, is),
        ),
      )

  -- the same thorns and schedules
  pub configured_same : (name_a name_b : List ℕ) (x y : Configured) → Configures name_a a (Ok x)
      → Configures name_b b (Ok y) → x.settings.active ≡ y.settings.active
      → (x.thorns ≡ y.thorns) × (x.schedules ≡ y.schedules)
  configured_same name_a name_b x y says other active =
      let one = then_ok (SaysSettings name_a a) (λ s. ListAnd s a) x says in
      let two = then_ok (SaysSettings name_b b) (λ s. ListAnd s b) y other in
      let at : one.0.active ≡ two.0.active =
      ap (λ (s : Settings). s.active) (sym (settings_of one.0 a x one.2)) ∙ active
      ∙ ap (λ (s : Settings). s.active) (settings_of two.0 b y two.2) in
      let moved : Configures name_b b (Ok (with_settings two.0 x)) =
      inr (two.0, two.1, others_same one.0 two.0 x at one.2) in
      let same : y ≡ with_settings two.0 x =
      one_value y (with_settings two.0 x)
      ((configures_settled b name_b).one (with_settings two.0 x) (Ok y) moved other) in (
        sym (ap (λ (c : Configured). c.thorns) same),
        sym (ap (λ (c : Configured). c.schedules) same),
      )
