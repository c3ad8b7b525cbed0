-- The files of several thorns, read one thorn after another.
use Rattle.std.proofs.Common.{◌≡◌, ◌∙◌, sym, ap, subst, refl, ◌<◌, ◌≤◌, ◌+◌, ◌⊎◌, inl, inr, ℕ, List, [], ◌∷◌, ◌++◌, length, drop, get_or, zero, suc, arith, Result, Ok, Err, IfOk}
use Rattle.std.proofs.lemmas.List.{append_assoc, append-nil, drop_more, length-map}
use Rattle.cx_parfile.specs.declared.settings.Settings.{Settings}
use Rattle.cx_job_files.specs.declared.fault.ConfigFault.{ConfigFault}
use Rattle.cx_job_files.specs.declared.fault.ConfigFault.TheVariants as faults
use Rattle.cx_job_files.specs.declared.reading.ThornFiles.{ThornFiles}
use Rattle.cx_job_files.specs.declared.configuring.Configured.{Configured}
use Rattle.cx_job_files.specs.Shelf.{Held}
use Rattle.cx_text.specs.Telling.{Stage, Then}
use Rattle.cx_job_files.specs.Stages.{Is}
use Rattle.cx_job_files.specs.Reading.{ThornSays, file_names, Comes, Follows}
use Rattle.cx_job_files.specs.Configuring.{ThornsSay, configuration_of}
use Rattle.cx_job_files.proofs.ReadingLaws.{passed, halted, came}

abbrev err : (A : Type 0) → ConfigFault → Result A ConfigFault
err A e = Err e

-- ---- what is left of a list

left_over : {X : Type 0} (xs : List X) (k : ℕ) (x : X) → k < length xs → x ≡ get_or xs k x
    → drop k xs ≡ x ∷ drop (k + 1) xs
left_over xs k x within at = drop_more xs k x within ∙ ap (λ u. u ∷ drop (k + 1) xs) (sym at)

pub nothing_left : {X : Type 0} (xs : List X) (k : ℕ) → length xs ≤ k → drop k xs ≡ []
nothing_left [] zero h = refl
nothing_left [] (suc k) h = refl
nothing_left (x ∷ xs) zero h = absurd (let no : ⊥ = omega (arith, h) in no)
nothing_left (x ∷ xs) (suc k) h = nothing_left xs k (omega (arith, h))

-- where two stages come to the same
pub same_stage : {A : Type 0} (tells : Type 0) (p q : Held → Stage A ConfigFault) (h0 h1 : Held)
    (f0 f1 : ℕ) (r : Result A ConfigFault) → ((h : Held) (s : Result A ConfigFault) → p h s → q h s)
    → Follows tells p h0 h1 f0 f1 r → Follows tells q h0 h1 f0 f1 r
same_stage {A} tells p q h0 h1 f0 f1 r to a = record {
  answers = λ t. onward (a.answers t);
  same = a.same;
  cause = a.cause;
}
  where
    onward : (r ≡ err A faults.Memory) ⊎ (r ≡ err A faults.Shelf) ⊎ p h0 r
        → (r ≡ err A faults.Memory) ⊎ (r ≡ err A faults.Shelf) ⊎ q h0 r
    onward (inl m) = inl m
    onward (inr (inl m)) = inr (inl m)
    onward (inr (inr s)) = inr (inr (to h0 r s))

-- what is made with no more reading
pub came_of : {A : Type 0} (tells : Type 0) (p : Held → Stage A ConfigFault) (h : Held) (f : ℕ)
    (r : Result A ConfigFault) → Comes (p h) r → Follows tells p h h f f r
came_of tells p h f r c = let a = came tells (p h) h f r c in
    record { answers = a.answers; same = a.same; cause = a.cause }

-- want of memory
pub forgot : {A : Type 0} (tells : Type 0) (p : Held → Stage A ConfigFault) (h : Held) (f : ℕ)
    → Follows tells p h h f f (err A faults.Memory)
forgot {A} tells p h f =
    came_of tells p h f (err A faults.Memory)
    (record { answers = inl refl; no_shelf = λ z. absurd cc })

-- ---- some thorns' files, with others behind them

module _ {A : Type 0} (p : Stage A ConfigFault) (q : Stage (List A) ConfigFault) (said : List A)
  where
    abbrev pub One : Stage (List A) ConfigFault
    One = Then p (λ t. Then q (λ more. Is (Ok ((said ++ t ∷ []) ++ more))))

    abbrev pub All : Stage (List A) ConfigFault
    All = Then (Then p (λ t. Then q (λ ts. Is (Ok (t ∷ ts))))) (λ more. Is (Ok (said ++ more)))

    okay : List A → Result (List A) ConfigFault
    okay xs = Ok xs

    pub grouped : (r : Result (List A) ConfigFault) → One r → All r
    grouped r (inl (e, s, z)) = inl (e, inl (e, s, refl), z)
    grouped r (inr (t, s, inl (e, u, z))) = inl (e, inr (t, s, inl (e, u, refl)), z)
    grouped r (inr (t, s, inr (more, u, z))) =
        inr (
          t ∷ more,
          inr (t, s, inr (more, u, refl)),
          z ∙ ap (λ (xs : List A). Ok xs) (append_assoc said (t ∷ []) more),
        )

-- what the thorns at these places say, behind what others said
abbrev pub Rest : List ThornFiles → List (List ℕ × List ℕ) → Held
    → Stage (List ThornFiles) ConfigFault
Rest said places files = Then (ThornsSay places files) (λ more. Is (Ok (said ++ more)))

none_before : (p : Stage (List ThornFiles) ConfigFault) (r : Result (List ThornFiles) ConfigFault)
    → Then p (λ more. Is (Ok ([] ++ more))) r → p r
none_before p r (inl (e, s, z)) =
    subst (λ (v : Result (List ThornFiles) ConfigFault). p v) (sym z) s
none_before p r (inr (x, s, z)) =
    subst (λ (v : Result (List ThornFiles) ConfigFault). p v) (sym z) s

-- What was said and what is still to come is what all comes to.
abbrev pub Leads : Type 0 → List (List ℕ × List ℕ) → Held → ℕ → List ThornFiles
    → List (List ℕ × List ℕ) → Held → ℕ → Type 0
Leads tells places h0 f0 said left h1 f1 =
    (h2 : Held) (f2 : ℕ) (r : Result (List ThornFiles) ConfigFault)
    → Follows tells (Rest said left) h1 h2 f1 f2 r
    → Follows tells (ThornsSay places) h0 h2 f0 f2 r

module _ (tells : Type 0) (places : List (List ℕ × List ℕ)) (h0 : Held) (f0 : ℕ) where
  none_said : Leads tells places h0 f0 [] places h0 f0
  none_said h2 f2 r a = same_stage tells (Rest [] places) (ThornsSay places) h0 h2 f0 f2 r
      (λ h s. none_before (ThornsSay places h) s) a

  leads_more : (place : List ℕ × List ℕ) (rest : List (List ℕ × List ℕ)) (said : List ThornFiles)
      (t : ThornFiles) (h1 h2 : Held) (f1 f2 : ℕ)
      → Follows tells (ThornSays place (file_names place)) h1 h2 f1 f2 (Ok t)
      → Leads tells places h0 f0 said (place ∷ rest) h1 f1
      → Leads tells places h0 f0 (said ++ t ∷ []) rest h2 f2
  leads_more place rest said t h1 h2 f1 f2 read before h3 f3 r a =
      let both = passed tells (ThornSays place (file_names place))
      (λ h t. Rest (said ++ t ∷ []) rest h) h1 h2 h3 f1 f2 f3 t r read a in
      before h3 f3 r (same_stage tells
      (λ h. One (ThornSays place (file_names place) h) (ThornsSay rest h) said)
      (Rest said (place ∷ rest)) h1 h3 f1 f3 r
      (λ h s. grouped (ThornSays place (file_names place) h) (ThornsSay rest h) said s) both)

  leads_halt : (place : List ℕ × List ℕ) (rest : List (List ℕ × List ℕ)) (said : List ThornFiles)
      (e : ConfigFault) (h1 h2 : Held) (f1 f2 : ℕ)
      → Follows tells (ThornSays place (file_names place)) h1 h2 f1 f2 (Err e)
      → Leads tells places h0 f0 said (place ∷ rest) h1 f1
      → Follows tells (ThornsSay places) h0 h2 f0 f2 (err (List ThornFiles) e)
  leads_halt place rest said e h1 h2 f1 f2 read before =
      let both = halted {B = List ThornFiles} tells (ThornSays place (file_names place))
      (λ h t. Rest (said ++ t ∷ []) rest h) h1 h2 f1 f2 e read in
      before h2 f2 (Err e) (same_stage tells
      (λ h. One (ThornSays place (file_names place) h) (ThornsSay rest h) said)
      (Rest said (place ∷ rest)) h1 h2 f1 f2 (Err e)
      (λ h s. grouped (ThornSays place (file_names place) h) (ThornsSay rest h) said s) both)

  -- ---- the places that are left

  abbrev pub LeadsAt : List ThornFiles → ℕ → Held → ℕ → Type 0
  LeadsAt said k h1 f1 = Leads tells places h0 f0 said (drop k places) h1 f1

  pub leads_none : (said : List ThornFiles) → said ≡ [] → LeadsAt said 0 h0 f0
  leads_none said none = subst (λ xs. LeadsAt xs 0 h0 f0) (sym none) none_said

  pub leads_one : (k : ℕ) (place : List ℕ × List ℕ) (said said2 : List ThornFiles) (t : ThornFiles)
      (h1 h2 : Held) (f1 f2 : ℕ) → k < length places → place ≡ get_or places k place
      → Follows tells (ThornSays place (file_names place)) h1 h2 f1 f2 (Ok t) → LeadsAt said k h1 f1
      → said2 ≡ said ++ t ∷ [] → LeadsAt said2 (k + 1) h2 f2
  leads_one k place said said2 t h1 h2 f1 f2 within at read before after =
      subst (λ xs. LeadsAt xs (k + 1) h2 f2) (sym after)
      (leads_more place (drop (k + 1) places) said t h1 h2 f1 f2 read
      (subst (λ left. Leads tells places h0 f0 said left h1 f1)
      (left_over places k place within at) before))

  pub leads_fault : (k : ℕ) (place : List ℕ × List ℕ) (said : List ThornFiles) (e : ConfigFault)
      (h1 h2 : Held) (f1 f2 : ℕ) → k < length places → place ≡ get_or places k place
      → Follows tells (ThornSays place (file_names place)) h1 h2 f1 f2 (Err e)
      → LeadsAt said k h1 f1 → Follows tells (ThornsSay places) h0 h2 f0 f2
      (err (List ThornFiles) e)
  leads_fault k place said e h1 h2 f1 f2 within at read before =
      leads_halt place (drop (k + 1) places) said e h1 h2 f1 f2 read
      (subst (λ left. Leads tells places h0 f0 said left h1 f1)
      (left_over places k place within at) before)

  -- want of memory behind a thorn's files
  pub leads_memory : (k : ℕ) (place : List ℕ × List ℕ) (said : List ThornFiles) (t : ThornFiles)
      (h1 h2 : Held) (f1 f2 : ℕ) → k < length places → place ≡ get_or places k place
      → Follows tells (ThornSays place (file_names place)) h1 h2 f1 f2 (Ok t) → LeadsAt said k h1 f1
      → Follows tells (ThornsSay places) h0 h2 f0 f2 (err (List ThornFiles) faults.Memory)
  leads_memory k place said t h1 h2 f1 f2 within at read before =
      leads_one k place said (said ++ t ∷ []) t h1 h2 f1 f2 within at read before refl h2 f2
      (Err faults.Memory) (forgot tells (Rest (said ++ t ∷ []) (drop (k + 1) places)) h2 f2)

  at_end : (said : List ThornFiles) (h1 : Held) → Comes (Rest said [] h1) (Ok said)
  at_end said h1 = record {
    answers = inr (inr ([], refl, ap (λ (xs : List ThornFiles). Ok xs) (sym (append-nil said))));
    no_shelf = λ z. absurd cc;
  }

  pub leads_all : (k : ℕ) (said : List ThornFiles) (h1 : Held) (f1 : ℕ) → length places ≤ k
      → LeadsAt said k h1 f1 → Follows tells (ThornsSay places) h0 h1 f0 f1 (Ok said)
  leads_all k said h1 f1 past before =
      subst (λ left. Leads tells places h0 f0 said left h1 f1) (nothing_left places k past)
      before h1 f1 (Ok said) (came_of tells (Rest said []) h1 f1 (Ok said) (at_end said h1))

-- ---- the configuration

pub as_many : (settings : Settings) (ts : List ThornFiles) (c : Configured)
    → c ≡ configuration_of settings ts → length c.schedules ≡ length c.thorns
as_many settings ts c same =
    ap (λ (d : Configured). length d.schedules) same
    ∙ length-map ts (λ (t : ThornFiles). t.schedule)
    ∙ sym (length-map ts (λ (t : ThornFiles). t.thorn))
    ∙ ap (λ (d : Configured). length d.thorns) (sym same)

-- what holds of a configuration where more is asked
pub read_too : (P Q : Type 0) (R : Configured → Type 0) (r : Result Configured ConfigFault)
    → (P → Q) → IfOk r (λ c. Q → R c) → IfOk r (λ c. P → R c)
read_too P Q R (Ok c) to read = λ p. read (to p)
read_too P Q R (Err e) to read = tt
