-- How what holds at each moment goes on over calls.
use Rattle.std.specs.Prelude.{ℕ, ◌≤◌, ◌⊎◌, List}
use Rattle.std.proofs.Common.{◌∙◌, inl, inr, refl, sym, subst, arith}
use Rattle.cx_disk.specs.Disk.{Files, SameFiles, OthersSame, Changes, View, Passes, LeavesOnly, IsSettled}
use Rattle.cx_disk.specs.Moments.{After, IsQuiet, Stepped, IsDone}

-- at the start
pub started : (v : View) (P : Files → Type 0) → LeavesOnly v v P
started v P = record { later = omega arith; each = λ t c le left. inl left }

-- one call more, if each image then has P
pub goes_on : {step : Files → Files → Type 0} {old mid new : View} (P : Files → Type 0)
    → LeavesOnly old mid P → Passes step mid new → ((c : Files) → new.images c → P c)
    → LeavesOnly old new P
goes_on {step} {old} {mid} {new} P so_far passes now =
    let first : old.moment ≤ mid.moment = so_far.later in
    let second : mid.moment ≤ new.moment = passes.later in
    record {
      later = omega arith;
      each = λ t c le left.
          let le_mid : t ≤ mid.moment = omega arith in
          elim (passes.nothing_else t c le_mid left) as (λ _. old.left_since t c ⊎ P c)
          [ inl past ↦ so_far.each t c le past | inr then ↦ inr (now c then) ];
    }

-- a run of calls more, if what each leaves has P
pub joins : {old mid new : View} {Q : Files → Type 0} (P : Files → Type 0) → LeavesOnly old mid P
    → LeavesOnly mid new Q → ((c : Files) → Q c → P c) → LeavesOnly old new P
joins {old} {mid} {new} {Q} P so_far more has =
    let first : old.moment ≤ mid.moment = so_far.later in
    let second : mid.moment ≤ new.moment = more.later in
    record {
      later = omega arith;
      each = λ t c le left.
          let le_mid : t ≤ mid.moment = omega arith in
          elim (more.each t c le_mid left) as (λ _. old.left_since t c ⊎ P c)
          [ inl past ↦ so_far.each t c le past | inr then ↦ inr (has c then) ];
    }

-- a run of calls, if what each leaves has P
pub weaker : {old new : View} {Q : Files → Type 0} (P : Files → Type 0) → LeavesOnly old new Q
    → ((c : Files) → Q c → P c) → LeavesOnly old new P
weaker {old} {new} {Q} P leaves has = joins P (started old P) leaves has

-- no call
pub quiet_at_start : (v : View) → IsQuiet v v
quiet_at_start v = record {
  same = λ f. refl;
  crash = λ c now. (c, now, λ f. refl);
  moments = started v _;
}

-- one call
pub quiet_call : {old new : View} → SameFiles old.seen new.seen → Passes SameFiles old new
    → IsQuiet old new
quiet_call {old} {new} same passes =
    record {
      same = same;
      crash = passes.crash;
      moments = goes_on _ (started old _) passes passes.crash;
    }

-- more calls
pub quiet_more : {old mid new : View} → IsQuiet old mid → IsQuiet mid new → IsQuiet old new
quiet_more {old} {mid} {new} first second =
    let back : (c : Files) → ((d : Files) × mid.images d × SameFiles d c)
    → (d : Files) × old.images d × SameFiles d c = λ c from.
    let o = first.crash from.0 from.1 in (o.0, o.1, λ f. from.2 f ∙ o.2 f) in
    record {
      same = λ f. second.same f ∙ first.same f;
      crash = λ c now. back c (second.crash c now);
      moments = joins _ first.moments second.moments back;
    }

-- calls that change no byte leave a settled file settled
pub settled_quiet : {file : ℕ} {old new : View} → IsQuiet old new → IsSettled old file
    → IsSettled new file
settled_quiet {file} {old} {new} quiet settled c now = let d = quiet.crash c now in
    d.2 file ∙ settled d.0 d.1 ∙ sym (quiet.same file)

-- one call that changes a file
pub stepped_call : {step : List ℕ → List ℕ → Type 0} {file : ℕ} {old new : View}
    → OthersSame file old.seen new.seen → Passes (Changes step file) old new
    → Stepped step file old new
stepped_call {step} {file} {old} {new} others passes =
    record {
      crash = passes.crash;
      moments = goes_on (After step file old) (started old (After step file old))
          passes passes.crash;
      others = others;
    }

-- and a call that changes no byte
pub stepped_quiet : {step : List ℕ → List ℕ → Type 0} {file : ℕ} {old mid new : View}
    → Stepped step file old mid → SameFiles mid.seen new.seen → Passes SameFiles mid new
    → Stepped step file old new
stepped_quiet {step} {file} {old} {mid} {new} first same passes =
    let now : (c : Files) → new.images c → After step file old c = λ c is.
    let d = passes.crash c is in
    let o = first.crash d.0 d.1 in (
      o.0,
      o.1,
      record {
        this = subst (λ (b : List ℕ). step (o.0 file) b) (sym (d.2 file)) o.2.this;
        others = λ g ne. d.2 g ∙ o.2.others g ne;
      },
    ) in
    record {
      crash = now;
      moments = goes_on (After step file old) first.moments passes now;
      others = λ g ne. same g ∙ first.others g ne;
    }

-- no call
pub stepped_at_start : {step : List ℕ → List ℕ → Type 0} {file : ℕ} (v : View)
    → ((bytes : List ℕ) → step bytes bytes) → Stepped step file v v
stepped_at_start {step} {file} v none =
    record {
      crash = λ c now. (c, now, record { this = none (c file); others = λ g ne. refl });
      moments = started v (After step file v);
      others = λ g ne. refl;
    }

-- and a call that changes the file in another way, if both together are such a change
pub stepped_more : {step more : List ℕ → List ℕ → Type 0} {file : ℕ} {old mid new : View}
    → ((a b c : List ℕ) → step a b → more b c → step a c)
    → Stepped step file old mid → OthersSame file mid.seen new.seen
    → Passes (Changes more file) mid new → Stepped step file old new
stepped_more {step} {more} {file} {old} {mid} {new} both first others passes =
    let now : (c : Files) → new.images c → After step file old c = λ c is.
    let d = passes.crash c is in
    let o = first.crash d.0 d.1 in (
      o.0,
      o.1,
      record {
        this = both (o.0 file) (d.0 file) (c file) o.2.this d.2.this;
        others = λ g ne. d.2.others g ne ∙ o.2.others g ne;
      },
    ) in
    record {
      crash = now;
      moments = goes_on (After step file old) first.moments passes now;
      others = λ g ne. others g ne ∙ first.others g ne;
    }

-- an exact change, and the sync that settles it
pub done_sync : {exact : List ℕ → List ℕ → Type 0} {file : ℕ} {mid : Files} {old new : View}
    → exact (old.seen file) (mid file) → SameFiles mid new.seen → IsSettled new file
    → IsDone exact file old new
done_sync {exact} {file} {mid} {old} {new} changes same settled =
    record {
      changed = subst (λ (b : List ℕ). exact (old.seen file) b) (sym (same file)) changes;
      settled = settled;
    }
