-- Ways, one after another, side by side, and again and again.
use Rattle.std.proofs.Common.{◌≡◌, ℕ, zero, suc, refl, sym, ap, subst, ◌∙◌, List, [], ◌∷◌, None, Result, Ok, Err, OnOk, ◌⊎◌, inl, inr}
use Rattle.cx_plan.specs.declared.job.Job.{Job}
use Rattle.cx_plan.specs.Setups.{setup_of}
use Rattle.cx_plan.specs.Regions.{Flags, Act, needs, leaves}
use Rattle.cx_plan.specs.Paths.{Mark, Letter, Meets, letter_y, letter_n, letter_w, Then, Just, Loop, or_go_on, first_unmet}
use Rattle.cx_plan.specs.Whole.{IsWhole}
use Rattle.cx_region_flags.specs.declared.flags.LevelFlags.{LevelFlags}
use Rattle.cx_region_flags.specs.Cells.{place, flags_in, Holds}
use Rattle.cx_region_flags.specs.Unmet.{first_unmet_of}
use Rattle.cx_region_flags.specs.Agreeing.{IsAct}
use Rattle.cx_region_flags.specs.AllPaths.{Meet, IsBelow, flags_after, IsSure, Leads, Branch, Turning}
use Rattle.cx_region_flags.proofs.MeetLaws.{meet-first, meet-second}
use Rattle.cx_region_flags.proofs.SureLaws.{sure-leaves, sure-met, flags_after-append, first_unmet-append}

-- cells with less set are sure too
sure-lower : (job : Job) (low high : List LevelFlags) (F : Flags) → IsBelow low high
    → IsSure job high F → IsSure job low F
sure-lower job low high F below sure =
    record {
      size = below.same_length ∙ sure.size;
      set = λ v level f stored h. sure.set v level f stored (below.set (place v level) f h);
    }

pub leads-lower : (job : Job) (P : List Mark → Type 0) (old high new : List LevelFlags)
    → IsBelow new high → Leads job P old high → Leads job P old new
leads-lower job P old high new below l =
    record {
      same_length = below.same_length ∙ l.same_length;
      passes = l.passes;
      ends = λ marks F way sure.
          sure-lower job new high (flags_after (setup_of job) F marks) below
          (l.ends marks F way sure);
    }

pub leads-higher : (job : Job) (P : List Mark → Type 0) (old low new : List LevelFlags)
    → IsBelow low old → Leads job P low new → Leads job P old new
leads-higher job P old low new below l =
    record {
      same_length = l.same_length ∙ below.same_length;
      passes = λ marks F letters way sure.
          l.passes marks F letters way (sure-lower job low old F below sure);
      ends = λ marks F way sure. l.ends marks F way (sure-lower job low old F below sure);
    }

pub leads-from : (job : Job) (P Q : List Mark → Type 0) (old new : List LevelFlags)
    → ((marks : List Mark) → P marks → Q marks) → Leads job Q old new → Leads job P old new
leads-from job P Q old new into l =
    record {
      same_length = l.same_length;
      passes = λ marks F letters way sure. l.passes marks F letters (into marks way) sure;
      ends = λ marks F way sure. l.ends marks F (into marks way) sure;
    }

pub leads-nothing : (job : Job) (old : List LevelFlags) → Leads job (Just []) old old
leads-nothing job old =
    record {
      same_length = refl;
      passes = λ marks F letters way sure. ap (first_unmet (setup_of job) letters F) way;
      ends = λ marks F way sure.
          subst (λ ms. IsSure job old (flags_after (setup_of job) F ms)) (sym way) sure;
    }

pub leads-letter : (job : Job) (c : ℕ) (old : List LevelFlags)
    → Leads job (Just (Letter c ∷ [])) old old
leads-letter job c old =
    record {
      same_length = refl;
      passes = λ marks F letters way sure. ap (first_unmet (setup_of job) letters F) way;
      ends = λ marks F way sure.
          subst (λ ms. IsSure job old (flags_after (setup_of job) F ms)) (sym way) sure;
    }

pub leads-act : (job : Job) (act : Act) (old new : List LevelFlags) → IsWhole job → IsAct job act
    → first_unmet_of (setup_of job) (flags_in old) (needs (setup_of job) act) ≡ None
    → Holds old new (leaves (setup_of job) act (flags_in old))
    → Leads job (Just (Meets act ∷ [])) old new
leads-act job act old new is there none holds =
    record {
      same_length = holds.same_length;
      passes = λ marks F letters way sure.
          ap (first_unmet (setup_of job) letters F) way
          ∙ ap (λ o. or_go_on letters o None) (sure-met job act old F is there sure none);
      ends = λ marks F way sure.
          subst (λ ms. IsSure job new (flags_after (setup_of job) F ms)) (sym way)
          (sure-leaves job act old new F is sure holds);
    }

-- a step that leaves the flags as they are
pub leads-still : (job : Job) (act : Act) (old : List LevelFlags) → IsWhole job → IsAct job act
    → first_unmet_of (setup_of job) (flags_in old) (needs (setup_of job) act) ≡ None
    → ((F : Flags) → leaves (setup_of job) act F ≡ F) → Leads job (Just (Meets act ∷ [])) old old
leads-still job act old is there none still =
    leads-act job act old old is there none
    (record {
      same_length = refl;
      same_flags = λ v level f kept. ap (λ (G : Flags). G v level f) (sym (still (flags_in old)));
    })

pub on_ok : {X E : Type 0} (r : Result X E) (P Q : Type 0) → (P → Q) → OnOk r P → OnOk r Q
on_ok (Ok x) P Q into p = into p
on_ok (Err e) P Q into p = p

pub leads-then : (job : Job) (P Q : List Mark → Type 0) (old mid new : List LevelFlags)
    → Leads job P old mid → Leads job Q mid new → Leads job (Then P Q) old new
leads-then job P Q old mid new one two =
    let setup = setup_of job in
    record {
      same_length = two.same_length ∙ one.same_length;
      passes = λ marks F letters way sure.
          let a = way.0 in
          let b = way.1 in
          let rest : (letters : List ℕ)
          → first_unmet setup letters (flags_after setup F a) b ≡ None =
          λ letters. two.passes b (flags_after setup F a) letters way.3
          (one.ends a F way.2 sure) in
          ap (first_unmet setup letters F) way.4
          ∙ first_unmet-append setup letters F a b (one.passes a F letters way.2 sure) rest;
      ends = λ marks F way sure.
          let a = way.0 in
          let b = way.1 in
          subst (IsSure job new)
          (sym (ap (flags_after setup F) way.4 ∙ flags_after-append setup F a b))
          (two.ends b (flags_after setup F a) way.3 (one.ends a F way.2 sure));
    }

pub leads-either : (job : Job) (P Q : List Mark → Type 0) (old new : List LevelFlags)
    → Leads job P old new → Leads job Q old new → Leads job (λ marks. P marks ⊎ Q marks) old new
leads-either job P Q old new one two =
    record {
      same_length = one.same_length;
      passes = λ marks F letters way sure. passed marks F letters way sure;
      ends = λ marks F way sure. ended marks F way sure;
    }
  where
    passed : (marks : List Mark) (F : Flags) (letters : List ℕ) → P marks ⊎ Q marks
        → IsSure job old F → first_unmet (setup_of job) letters F marks ≡ None
    passed marks F letters (inl way) sure = one.passes marks F letters way sure
    passed marks F letters (inr way) sure = two.passes marks F letters way sure

    ended : (marks : List Mark) (F : Flags) → P marks ⊎ Q marks → IsSure job old F
        → IsSure job new (flags_after (setup_of job) F marks)
    ended marks F (inl way) sure = one.ends marks F way sure
    ended marks F (inr way) sure = two.ends marks F way sure

-- a step, and the letter behind it
leads-lettered : (job : Job) (act : Act) (c : ℕ) (old new : List LevelFlags)
    → Leads job (Just (Meets act ∷ [])) old new
    → Leads job (Just (Meets act ∷ Letter c ∷ [])) old new
leads-lettered job act c old new l =
    leads-from job (Just (Meets act ∷ Letter c ∷ []))
    (Then (Just (Meets act ∷ [])) (Just (Letter c ∷ []))) old new
    (λ marks way. (Meets act ∷ [], Letter c ∷ [], refl, refl, way))
    (leads-then job (Just (Meets act ∷ [])) (Just (Letter c ∷ [])) old new new l
    (leads-letter job c new))

-- a letter, and the step behind it
pub leads-behind : (job : Job) (act : Act) (c : ℕ) (old new : List LevelFlags)
    → Leads job (Just (Meets act ∷ [])) old new
    → Leads job (Just (Letter c ∷ Meets act ∷ [])) old new
leads-behind job act c old new l =
    leads-from job (Just (Letter c ∷ Meets act ∷ []))
    (Then (Just (Letter c ∷ [])) (Just (Meets act ∷ []))) old new
    (λ marks way. (Letter c ∷ [], Meets act ∷ [], refl, refl, way))
    (leads-then job (Just (Letter c ∷ [])) (Just (Meets act ∷ [])) old old new
    (leads-letter job c old) l)

pub leads-branch : (job : Job) (test : Act) (Body : List Mark → Type 0)
    (old taken new : List LevelFlags) → Leads job (Just (Meets test ∷ [])) old old
    → Leads job Body old taken → Meet old taken new → Leads job (Branch test Body) old new
leads-branch job test Body old taken new tested body meet =
    let way = leads-then job (Just (Meets test ∷ letter_y ∷ [])) Body old old taken
    (leads-lettered job test 121 old old tested) body in
    leads-either job (Then (Just (Meets test ∷ letter_y ∷ [])) Body)
    (Just (Meets test ∷ letter_n ∷ [])) old new
    (leads-lower job (Then (Just (Meets test ∷ letter_y ∷ [])) Body) old taken new
    (meet-second old taken new body.same_length meet) way)
    (leads-lower job (Just (Meets test ∷ letter_n ∷ [])) old old new (meet-first old taken new meet)
    (leads-lettered job test 110 old old tested))

leads-turns : (job : Job) (test : Act) (Body : List Mark → Type 0) (old : List LevelFlags)
    → Leads job (Just (Meets test ∷ [])) old old → Leads job Body old old → (turns : ℕ)
    → Leads job (Loop test Body turns) old old
leads-turns job test Body old tested body zero = leads-lettered job test 120 old old tested
leads-turns job test Body old tested body (suc turns) =
    leads-then job (Just (Meets test ∷ letter_w ∷ [])) (Then Body (Loop test Body turns))
    old old old (leads-lettered job test 119 old old tested)
    (leads-then job Body (Loop test Body turns) old old old body
    (leads-turns job test Body old tested body turns))

-- any of several ways
pub leads-any : (job : Job) (P : ℕ → List Mark → Type 0) (old new : List LevelFlags)
    → ((n : ℕ) → Leads job (P n) old new) → Leads job (λ marks. (n : ℕ) × P n marks) old new
leads-any job P old new each =
    record {
      same_length = (each 0).same_length;
      passes = λ marks F letters way sure. (each way.0).passes marks F letters way.1 sure;
      ends = λ marks F way sure. (each way.0).ends marks F way.1 sure;
    }

-- where a turn from these cells sets no less, any number of turns leads from them to them
pub leads-turning : (job : Job) (test : Act) (Body : List Mark → Type 0)
    (first old after : List LevelFlags) → IsBelow old first → IsBelow old after
    → Leads job (Just (Meets test ∷ [])) old old → Leads job Body old after
    → Leads job (Turning test Body) first old
leads-turning job test Body first old after below still tested body =
    leads-higher job (Turning test Body) first old old below
    (leads-any job (Loop test Body) old old
    (leads-turns job test Body old tested (leads-lower job Body old after old still body)))
