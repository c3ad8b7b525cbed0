-- The full names of the parameters of thorns that were read have no line feed.
use Rattle.std.proofs.Common.{◌≡◌, inl, inr, refl, sym, ap, subst, ℕ, ◌+◌, ◌≤◌, Bool, true, false, ◌==◌, cond, List, [], ◌∷◌, ◌++◌, length, map, codes, Option, Some, None, Result, Ok, Err, arith}
use Rattle.std.specs.Prelude.{All}
use Rattle.std.specs.List.{flat_map, enumerate_from, list_all, AllByRecursion}
use Rattle.std.proofs.lemmas.Bool.{and_parts, ne_eqb}
use Rattle.std.proofs.lemmas.List.Elements.{All-head, All-tail}
use Rattle.cx_text.specs.declared.token.Style.{Style}
use Rattle.cx_text.specs.declared.token.Style.TheVariants.{Ccl, Thorns}
use Rattle.cx_text.specs.declared.token.Token.{Token}
use Rattle.cx_text.specs.Pieces.{Spelled}
use Rattle.cx_plan.specs.Whole.{IsName}
use Rattle.cx_conf.specs.Thorns.{thorn_list}
use Rattle.cx_iface.specs.File.{interface}
use Rattle.cx_param.specs.Params.{params}
use Rattle.cx_param.specs.declared.declarations.ParamDecl.{ParamDecl}
use Rattle.cx_param.specs.declared.declarations.Scope.{Scope}
use Rattle.cx_param.specs.declared.declarations.Scope.TheVariants.{Private, Restricted, Global, Uses, Extends}
use Rattle.cx_param.proofs.DeclAgain.{DeclFits}
use Rattle.cx_param.proofs.Fair.{spelled_keeps}
use Rattle.cx_param.proofs.FitLaws.{params_keeps}
use Rattle.cx_bind.specs.BuiltIn.{table}
use Rattle.cx_bind.specs.Parameters.{is_declaration, owner_by, parameter_of, declared_as, declared_by, extended, extensions, parameters}
use Rattle.cx_bind.specs.Selecting.{select}
use Rattle.cx_bind.specs.declared.thorns.BindFault.{BindFault}
use Rattle.cx_bind.specs.declared.thorns.Param.{Param}
use Rattle.cx_bind.specs.declared.thorns.Thorn.{Thorn}
use Rattle.cx_job_files.specs.declared.fault.ConfigFault.{ConfigFault}
use Rattle.cx_job_files.specs.declared.fault.ConfigFault.TheVariants as faults
use Rattle.cx_job_files.specs.declared.reading.ThornFiles.{ThornFiles}
use Rattle.cx_job_files.specs.declared.configuring.Configured.{Configured}
use Rattle.cx_job_files.specs.Shelf.{Held}
use Rattle.cx_job_files.specs.Stages.{Is, or_fault}
use Rattle.cx_job_files.specs.Reading.{Tokens, Tree, files_of, file_names, ThornSays, ParamsAnd, ScheduleAnd, ConfAnd, SaysInterface, SaysParams, SaysSchedule, SaysConfiguration, SaysSettings, SaysThornList}
use Rattle.cx_job_files.specs.Configuring.{ThornsSay, configuration_of, ThornsAnd, PlacesAnd, ListAnd, Configures}
use Rattle.cx_job_files.proofs.ReadNames.{IsNamedPlace, interface_named, places_named, selected_too}
use Rattle.cx_job_files.proofs.WordLaws.{IsNameByte, printed_named}
use Rattle.cx_text.specs.Telling.{Then}
use Rattle.law_restarts.proofs.ListLaws.{Each, each_both, each_mapped}
use Rattle.law_restarts.proofs.SteerKeyLaws.{Lacks, lacks_more}
use Rattle.law_restarts.proofs.StageLaws.{then_ok}

-- ---- names

bytes_lack : (n : List ℕ) → All IsNameByte n → Lacks 10 n
bytes_lack [] h = tt
bytes_lack (b ∷ n) h =
    let k = All-head IsNameByte b n h in
    let low : 33 ≤ b = k.0 in
    (ne_eqb b 10 (λ e. absurd (omega (arith, e, low))), bytes_lack n (All-tail IsNameByte b n h))

name_lacks : (n : List ℕ) → IsName n → Lacks 10 n
name_lacks n h = bytes_lack n h.1

abbrev HasName : ParamDecl → Type 0
HasName d = Lacks 10 d.name

decl_named : (d : ParamDecl) → DeclFits d → HasName d
decl_named d (inl f) = name_lacks d.name (printed_named d.name f.head.named.1)
decl_named d (inr f) = name_lacks d.name (printed_named d.name f.head.named.1)

decls_named : (ds : List ParamDecl) → AllByRecursion DeclFits ds → Each HasName ds
decls_named [] h = tt
decls_named (d ∷ ds) h = (decl_named d h.0, decls_named ds h.1)

-- ---- thorns that were read

record IsNamedThorn (t : Thorn) : Type 0 where
  name : Lacks 10 t.name
  implements : Lacks 10 t.interface.implements
  params : Each HasName t.params

-- the tokens are those of a text
text_of : (style : Style) (name : List ℕ) (o : Option (List ℕ)) (ts : List Token)
    → Tokens style name o (Ok ts) → (bytes : List ℕ) × Spelled bytes style ts
text_of style name None ts e = absurd cc
text_of style name (Some bytes) ts e = (bytes, e.1)

abbrev files_okay : ThornFiles → Result ThornFiles ConfigFault
files_okay t = Ok t

one_files : (x y : ThornFiles) → files_okay x ≡ files_okay y → x ≡ y
one_files x y e = cc

thorn_named : (place : List ℕ × List ℕ) (files : Held) (t : ThornFiles) → IsNamedPlace place
    → ThornSays place (file_names place) files (Ok t) → IsNamedThorn t.thorn
thorn_named place files t named says =
    let names = file_names place in
    let i = then_ok (SaysInterface names.interface files)
    (λ i. ParamsAnd place names i files) t says in
    let p = then_ok (SaysParams names.params files)
    (λ ps. ScheduleAnd place names i.0 ps files) t i.2 in
    let s = then_ok (SaysSchedule names.schedule files)
    (λ s. ConfAnd place names (record { interface = i.0; params = p.0; schedule = s }) files) t
    p.2 in
    let c = then_ok (SaysConfiguration names.conf files)
    (λ conf. Is (Ok (files_of place
    (record { interface = i.0; params = p.0; schedule = s.0 }) conf))) t s.2 in
    let read_i = then_ok (Tokens Ccl names.interface (files names.interface))
    (Tree interface names.interface) i.0 i.1 in
    let read_p = then_ok (Tokens Ccl names.params (files names.params))
    (Tree params.derives names.params) p.0 p.1 in
    let text_p = text_of Ccl names.params (files names.params) read_p.0 read_p.1 in
    let whole = interface_named read_i.0 i.0
    (text_of Ccl names.interface (files names.interface) read_i.0 read_i.1) read_i.2 in
    let fits = spelled_keeps params_keeps text_p.0 read_p.0 p.0 text_p.1 read_p.2 in
    subst (λ (f : ThornFiles). IsNamedThorn f.thorn)
    (sym (one_files t (files_of place
    (record { interface = i.0; params = p.0; schedule = s.0 }) c.0) c.2))
    (record {
      name = name_lacks place.1 named;
      implements = name_lacks i.0.implements whole.implements;
      params = decls_named p.0 fits.0;
    })

abbrev all_okay : List ThornFiles → Result (List ThornFiles) ConfigFault
all_okay ts = Ok ts

one_all : (xs ys : List ThornFiles) → all_okay xs ≡ all_okay ys → xs ≡ ys
one_all xs ys e = cc

thorns_named : (places : List (List ℕ × List ℕ)) (files : Held) (ts : List ThornFiles)
    → All IsNamedPlace places → ThornsSay places files (Ok ts)
    → Each (λ (f : ThornFiles). IsNamedThorn f.thorn) ts
thorns_named [] files ts named says =
    subst (Each (λ (f : ThornFiles). IsNamedThorn f.thorn)) (sym (one_all ts [] says)) tt
thorns_named (place ∷ places) files ts named says =
    let first = then_ok (ThornSays place (file_names place) files)
    (λ t. Then (ThornsSay places files) (λ ts. Is (Ok (t ∷ ts)))) ts says in
    let rest = then_ok (ThornsSay places files) (λ ts. Is (Ok (first.0 ∷ ts))) ts first.2 in
    subst (Each (λ (f : ThornFiles). IsNamedThorn f.thorn))
    (sym (one_all ts (first.0 ∷ rest.0) rest.2)) (
      thorn_named place files first.0 (All-head IsNamedPlace place places named) first.1,
      thorns_named places files rest.0 (All-tail IsNamedPlace place places named) rest.1,
    )

selected : (r : Result (List (List ℕ × List ℕ)) BindFault) (found : List (List ℕ × List ℕ))
    → Ok found ≡ or_fault faults.Bind r → r ≡ Ok found
selected (Ok other) found e = (let same : found ≡ other = cc in ap (λ ps. Ok ps) (sym same))
selected (Err f) found e = absurd cc

abbrev okay : Configured → Result Configured ConfigFault
okay c = Ok c

one_value : (x y : Configured) → okay x ≡ okay y → x ≡ y
one_value x y e = cc

thorns_read : (name : List ℕ) (files : Held) (x : Configured) → Configures name files (Ok x)
    → Each IsNamedThorn x.thorns
thorns_read name files x says =
    let one = then_ok (SaysSettings name files) (λ s. ListAnd s files) x says in
    let listed = then_ok (SaysThornList (codes "ThornList") files)
    (λ l. PlacesAnd one.0 l files) x one.2 in
    let placed = then_ok (Is (or_fault faults.Bind (select listed.0 one.0.active)))
    (λ places. ThornsAnd one.0 places files) x listed.2 in
    let read = then_ok (ThornsSay placed.0 files) (λ ts. Is (Ok (configuration_of one.0 ts)))
    x placed.2 in
    let list_read = then_ok
    (Tokens Thorns (codes "ThornList") (files (codes "ThornList")))
    (Tree thorn_list.derives (codes "ThornList")) listed.0 listed.1 in
    let places = places_named list_read.0 listed.0
    (text_of Thorns (codes "ThornList") (files (codes "ThornList")) list_read.0 list_read.1)
    list_read.2 in
    let chosen = selected_too IsNamedPlace listed.0 one.0.active placed.0 places
    (selected (select listed.0 one.0.active) placed.0 placed.1) in
    subst (λ (c : Configured). Each IsNamedThorn c.thorns)
    (sym (one_value x (configuration_of one.0 read.0) read.2))
    (each_mapped (λ (f : ThornFiles). IsNamedThorn f.thorn) IsNamedThorn
    (λ (f : ThornFiles). f.thorn) (λ f h. h) read.0
    (thorns_named placed.0 files read.0 chosen read.1))

-- ---- their parameters

abbrev pub IsOneLine : Param → Type 0
IsOneLine p = Lacks 10 p.full

owner_lacks : (s : Scope) (t : Thorn) → IsNamedThorn t → Lacks 10 (owner_by s t)
owner_lacks Private t h = h.name
owner_lacks Restricted t h = h.implements
owner_lacks Global t h = h.implements
owner_lacks (Uses i) t h = h.implements
owner_lacks (Extends i) t h = h.implements

declared_one : (number : ℕ) (t : Thorn) → IsNamedThorn t → (d : ParamDecl) → HasName d
    → Each IsOneLine (declared_as number t d)
declared_one number t h d named = by (is_declaration d.scope)
  where
    by : (b : Bool) → Each IsOneLine (cond b (parameter_of number t d ∷ []) [])
    by true = (
      lacks_more 10 (owner_by d.scope t ++ codes "::") d.name
          (lacks_more 10 (owner_by d.scope t) (codes "::") (owner_lacks d.scope t h)
          (refl, (refl, tt))) named,
      tt,
    )
    by false = tt

declared_all : (number : ℕ) (t : Thorn) → IsNamedThorn t → (ds : List ParamDecl)
    → Each HasName ds → Each IsOneLine (flat_map (declared_as number t) ds)
declared_all number t h [] named = tt
declared_all number t h (d ∷ ds) named =
    each_both IsOneLine (declared_as number t d) (flat_map (declared_as number t) ds)
    (declared_one number t h d named.0) (declared_all number t h ds named.1)

of_thorns : (k : ℕ) (thorns : List Thorn) → Each IsNamedThorn thorns
    → Each IsOneLine (flat_map declared_by (enumerate_from k thorns))
of_thorns k [] h = tt
of_thorns k (t ∷ ts) h =
    each_both IsOneLine (declared_by (k, t)) (flat_map declared_by (enumerate_from (k + 1) ts))
    (declared_all k t h.0 t.params h.0.params) (of_thorns (k + 1) ts h.1)

-- the table of built-in parameters, by computation
abbrev lacks : List ℕ → Bool
lacks [] = true
lacks (b ∷ text) = cond (b == 10) false (lacks text)

lacks_is : (text : List ℕ) → lacks text ≡ true → Lacks 10 text
lacks_is [] e = tt
lacks_is (b ∷ text) e = by (b == 10) refl e (λ f. lacks_is text f)
  where
    by : (c : Bool) → (b == 10) ≡ c → cond c false (lacks text) ≡ true
        → (lacks text ≡ true → Lacks 10 text) → ((b == 10) ≡ false) × Lacks 10 text
    by true is bad rest = absurd cc
    by false is more rest = (is, rest more)

table_is : (ps : List Param) → list_all (λ (p : Param). lacks p.full) ps ≡ true → Each IsOneLine ps
table_is [] e = tt
table_is (p ∷ ps) e =
    let k = and_parts (lacks p.full) (list_all (λ (q : Param). lacks q.full) ps) e in
    (lacks_is p.full k.0, table_is ps k.1)

table_named : (n : ℕ) → Each IsOneLine (table n)
table_named n = table_is (table n) refl

pub parameters_named : (name : List ℕ) (files : Held) (x : Configured)
    → Configures name files (Ok x) → Each IsOneLine (parameters x.thorns)
parameters_named name files x says =
    each_both IsOneLine (table (length x.thorns))
    (map (extended (extensions x.thorns)) (flat_map declared_by (enumerate_from 0 x.thorns)))
    (table_named (length x.thorns))
    (each_mapped IsOneLine IsOneLine (extended (extensions x.thorns)) (λ p h. h)
    (flat_map declared_by (enumerate_from 0 x.thorns))
    (of_thorns 0 x.thorns (thorns_read name files x says)))
