-- How calls that change one file go on.
use Rattle.std.specs.Prelude.{ℕ, ◌≡◌, List}
use Rattle.std.proofs.Common.{◌∙◌, refl, sym, subst}
use Rattle.cx_disk.specs.Disk.{Files, View, IsSettled}
use Rattle.cx_disk.specs.Moments.{Stepped, After, IsQuiet}
use Rattle.cx_disk.proofs.Moments.{joins, weaker}
use Rattle.cx_chk.specs.Steps.{IsBut, Step}

-- calls that change no byte leave a settled file as it was read
pub quiet_was : {file : ℕ} {old new : View} → IsQuiet old new → IsSettled old file → (c : Files)
    → new.images c → c file ≡ old.seen file
quiet_was {file} {old} {new} quiet settled c now = let d = quiet.crash c now in
    d.2 file ∙ settled d.0 d.1

-- an old image is one but for the file
pub but_same : {file : ℕ} {Q : List ℕ → Type 0} {old : View} (c : Files) → old.images c → Q (c file)
    → IsBut file Q old c
but_same c was has = record { before = c; was = was; others = λ g ne. refl; this = has }

-- a change of the file, where each outcome has Q
pub step_stepped : {step : List ℕ → List ℕ → Type 0} {file : ℕ} {old new : View}
    (Q : List ℕ → Type 0) → Stepped step file old new
    → ((d c : Files) → old.images d → step (d file) (c file) → Q (c file)) → Step file Q old new
step_stepped {step} {file} {old} {new} Q s has =
    let but : (c : Files) → After step file old c → IsBut file Q old c = λ c from.
    record {
      before = from.0;
      was = from.1;
      others = from.2.others;
      this = has from.0 c from.1 from.2.this;
    } in
    record {
      crash = λ c now. but c (s.crash c now);
      moments = weaker (IsBut file Q old) s.moments but;
      others = s.others;
    }

-- what comes after an earlier step
pub step_more : {file : ℕ} {Q R : List ℕ → Type 0} {old mid new : View} (S : List ℕ → Type 0)
    → Step file Q old mid → Step file R mid new → ((bytes : List ℕ) → Q bytes → S bytes)
    → ((bytes : List ℕ) → R bytes → S bytes) → Step file S old new
step_more {file} {Q} {R} {old} {mid} {new} S first second before then =
    let one : (c : Files) → IsBut file Q old c
    → IsBut file S old c =
    λ c but. record {
      before = but.before;
      was = but.was;
      others = but.others;
      this = before (c file) but.this;
    } in
    let two : (c : Files) → IsBut file R mid c → IsBut file S old c = λ c but.
    let o = first.crash but.before but.was in
    record {
      before = o.before;
      was = o.was;
      others = λ g ne. but.others g ne ∙ o.others g ne;
      this = then (c file) but.this;
    } in
    record {
      crash = λ c now. two c (second.crash c now);
      moments = joins (IsBut file S old) (weaker (IsBut file S old) first.moments one)
          second.moments two;
      others = λ g ne. second.others g ne ∙ first.others g ne;
    }

pub step_weaker : {file : ℕ} {Q : List ℕ → Type 0} {old new : View} (S : List ℕ → Type 0)
    → Step file Q old new → ((bytes : List ℕ) → Q bytes → S bytes) → Step file S old new
step_weaker {file} {Q} {old} {new} S first before =
    let one : (c : Files) → IsBut file Q old c
    → IsBut file S old c =
    λ c but. record {
      before = but.before;
      was = but.was;
      others = but.others;
      this = before (c file) but.this;
    } in
    record {
      crash = λ c now. one c (first.crash c now);
      moments = weaker (IsBut file S old) first.moments one;
      others = first.others;
    }

-- calls that change nothing, where each old image has Q
pub step_quiet : {file : ℕ} {old new : View} (Q : List ℕ → Type 0) → IsQuiet old new
    → ((c : Files) → old.images c → Q (c file)) → Step file Q old new
step_quiet {file} {old} {new} Q quiet has =
    let but : (c : Files) → ((d : Files) × old.images d × ((g : ℕ) → c g ≡ d g))
    → IsBut file Q old c = λ c from.
    record {
      before = from.0;
      was = from.1;
      others = λ g ne. from.2 g;
      this = subst Q (sym (from.2 file)) (has from.0 from.1);
    } in
    record {
      crash = λ c now. but c (quiet.crash c now);
      moments = weaker (IsBut file Q old) quiet.moments but;
      others = λ g ne. quiet.same g;
    }
