-- A configuration of one thorn, by what its files say.
use Rattle.std.proofs.Common.{◌≡◌, refl, sym, ap, subst, ◌∙◌, ℕ, List, [], ◌∷◌, map, Option, Some, Result, Ok, inl, inr, codes}
use Rattle.cx_text.specs.declared.token.Token.{Token}
use Rattle.cx_text.specs.declared.token.Style.TheVariants.{Ccl}
use Rattle.cx_text.specs.Grammar.{Grammar, Spells}
use Rattle.cx_text.specs.Pieces.{Spelled}
use Rattle.cx_text.specs.Telling.{Stage, Then}
use Rattle.cx_iface.specs.declared.tree.Interface.{Interface}
use Rattle.cx_param.specs.declared.declarations.ParamDecl.{ParamDecl}
use Rattle.cx_sched.specs.declared.tree.ScheduleFile.{ScheduleFile}
use Rattle.cx_conf.specs.declared.configuration.Configuration.{Configuration}
use Rattle.cx_parfile.specs.declared.settings.Settings.{Settings}
use Rattle.cx_bind.specs.Selecting.{Place, select}
use Rattle.cx_job_files.specs.declared.fault.ConfigFault.{ConfigFault}
use Rattle.cx_job_files.specs.declared.fault.ConfigFault.TheVariants as faults
use Rattle.cx_job_files.specs.declared.reading.ThornFiles.{ThornFiles}
use Rattle.cx_job_files.specs.declared.configuring.Configured.{Configured}
use Rattle.cx_job_files.specs.Configuring.{Configures, ListAnd, PlacesAnd, ThornsAnd, ThornsSay, configuration_of}
use Rattle.cx_job_files.specs.Reading.{Tokens, Tree, File, SaysInterface, SaysParams, SaysSchedule, SaysConfiguration, SaysSettings, SaysThornList, ThornSays, ParamsAnd, ScheduleAnd, ConfAnd, file_names, files_of}
use Rattle.cx_job_files.specs.Shelf.{Held}
use Rattle.cx_job_files.specs.Stages.{Is, or_fault}
use Rattle.law_physics_job.specs.Alone.{place_of}

-- a value that two stages come to
pub then_ok : {A B F : Type 0} (p : Stage A F) (q : A → Stage B F) (y : B) → Then p q (Ok y)
    → (x : A) × p (Ok x) × q x (Ok y)
then_ok p q y (inl (e, s, never)) = absurd cc
then_ok p q y (inr t) = t

abbrev okay : {A : Type 0} → A → Result A ConfigFault
okay x = Ok x

ok_same : {A : Type 0} {x y : A} → okay x ≡ okay y → x ≡ y
ok_same e = cc

-- ---- a file

-- what a file says, from the bytes that are held under its name
pub file_said : {A : Type 0} (S : Grammar A) (name text : List ℕ) (files : Held) (x : A)
    → File Ccl S name files (Ok x) → files name ≡ Some text
    → (ts : List Token) × Spelled text Ccl ts × Spells S ts x
file_said S name text files x says held =
    let read = then_ok (Tokens Ccl name (files name)) (Tree S name) x says in
    let tokens =
    subst (λ (o : Option (List ℕ)). Tokens Ccl name o (okay read.0)) held read.1 in
    (read.0, tokens.1, read.2)

-- ---- a thorn

pub record SaysThorn (place : Place) (files : Held) (t : ThornFiles) : Type 0 where
  pub interface : Interface
  pub params : List ParamDecl
  pub schedule : ScheduleFile
  pub conf : Configuration
  pub says_interface : SaysInterface (file_names place).interface files (Ok interface)
  pub says_params : SaysParams (file_names place).params files (Ok params)
  pub says_schedule : SaysSchedule (file_names place).schedule files (Ok schedule)
  pub is : t ≡ files_of place
      (record { interface = interface; params = params; schedule = schedule }) conf

said : (place : Place) (files : Held) (t : ThornFiles)
    → ThornSays place (file_names place) files (Ok t) → SaysThorn place files t
said place files t says =
    let names = file_names place in
    let i = then_ok (SaysInterface names.interface files)
    (λ i. ParamsAnd place names i files) t says in
    let p = then_ok (SaysParams names.params files)
    (λ ps. ScheduleAnd place names i.0 ps files) t i.2 in
    let s = then_ok (SaysSchedule names.schedule files)
    (λ s. ConfAnd place names (record { interface = i.0; params = p.0; schedule = s }) files)
    t p.2 in
    let c = then_ok (SaysConfiguration names.conf files)
    (λ conf. Is (Ok (files_of place
    (record { interface = i.0; params = p.0; schedule = s.0 }) conf))) t s.2 in
    record {
      interface = i.0;
      params = p.0;
      schedule = s.0;
      conf = c.0;
      says_interface = i.1;
      says_params = p.1;
      says_schedule = s.1;
      is = ok_same c.2;
    }

-- ---- one thorn

pub record IsOnly (place : Place) (files : Held) (ts : List ThornFiles) : Type 0 where
  pub t : ThornFiles
  pub says : SaysThorn place files t
  pub are : ts ≡ t ∷ []

abbrev places_in : List ThornFiles → List Place
places_in ts = map place_of (map (λ t. t.thorn) ts)

first_place : (p q : Place) (ps qs : List Place) → p ∷ ps ≡ q ∷ qs → p ≡ q
first_place p q ps qs e = cc

other_places : (p q : Place) (ps qs : List Place) → p ∷ ps ≡ q ∷ qs → ps ≡ qs
other_places p q ps qs e = cc

none_left : (us : List ThornFiles) → places_in us ≡ [] → us ≡ []
none_left [] e = refl
none_left (u ∷ us) e = absurd cc

only_said : (places : List Place) (files : Held) (ts : List ThornFiles) (place : Place)
    → ThornsSay places files (Ok ts) → places_in ts ≡ place ∷ [] → IsOnly place files ts
only_said [] files ts place says only =
    let none : ts ≡ [] = ok_same says in
    absurd (let no : [] ≡ place ∷ [] = sym (ap places_in none) ∙ only in cc)
only_said (p ∷ places) files ts place says only =
    let first = then_ok (ThornSays p (file_names p) files)
    (λ t. Then (ThornsSay places files) (λ us. Is (Ok (t ∷ us)))) ts says in
    let others = then_ok (ThornsSay places files) (λ us. Is (Ok (first.0 ∷ us))) ts first.2 in
    let is : ts ≡ first.0 ∷ others.0 = ok_same others.2 in
    let s = said p files first.0 first.1 in
    let names : places_in (first.0 ∷ others.0) ≡ place ∷ [] = sym (ap places_in is) ∙ only in
    let here : place_of first.0.thorn ≡ place =
    first_place (place_of first.0.thorn) place (places_in others.0) [] names in
    let same : p ≡ place = sym (ap (λ (t : ThornFiles). place_of t.thorn) s.is) ∙ here in
    let none : others.0 ≡ [] =
    none_left others.0 (other_places (place_of first.0.thorn) place (places_in others.0) [] names)
    in
    record {
      t = first.0;
      says = subst (λ (q : Place). SaysThorn q files first.0) same s;
      are = is ∙ ap (λ us. first.0 ∷ us) none;
    }

-- ---- a configuration

pub record HasOne (place : Place) (files : Held) (c : Configured) : Type 0 where
  pub t : ThornFiles
  pub says : SaysThorn place files t
  pub thorns : c.thorns ≡ t.thorn ∷ []
  pub schedules : c.schedules ≡ t.schedule ∷ []

-- of the thorns at these places
of_places : (c : Configured) (settings : Settings) (ts : List ThornFiles) (places : List Place)
    (files : Held) (place : Place) → c ≡ configuration_of settings ts
    → ThornsSay places files (Ok ts) → map place_of c.thorns ≡ place ∷ [] → HasOne place files c
of_places c settings ts places files place is says only =
    let one = only_said places files ts place says
    (sym (ap (λ (d : Configured). map place_of d.thorns) is) ∙ only) in
    record {
      t = one.t;
      says = one.says;
      thorns = ap (λ (d : Configured). d.thorns) is
          ∙ ap (λ (us : List ThornFiles). map (λ t. t.thorn) us) one.are;
      schedules = ap (λ (d : Configured). d.schedules) is
          ∙ ap (λ (us : List ThornFiles). map (λ t. t.schedule) us) one.are;
    }

pub has_one : (name : List ℕ) (files : Held) (c : Configured) (place : Place)
    → Configures name files (Ok c) → map place_of c.thorns ≡ place ∷ [] → HasOne place files c
has_one name files c place says only =
    let settings = then_ok (SaysSettings name files) (λ s. ListAnd s files) c says in
    let list = then_ok (SaysThornList (codes "ThornList") files)
    (λ l. PlacesAnd settings.0 l files) c settings.2 in
    let places = then_ok (Is (or_fault faults.Bind (select list.0 settings.0.active)))
    (λ ps. ThornsAnd settings.0 ps files) c list.2 in
    let all = then_ok (ThornsSay places.0 files)
    (λ ts. Is (Ok (configuration_of settings.0 ts))) c places.2 in
    of_places c settings.0 all.0 places.0 files place (ok_same all.2) all.1 only
