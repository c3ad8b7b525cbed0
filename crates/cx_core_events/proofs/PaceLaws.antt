-- A part that can go has an operation.
use Rattle.std.specs.Prelude.{replicate, slice_set}
use Rattle.std.proofs.Common.{◌≡◌, ℕ, zero, suc, ◌+◌, ℤ, Option, None, ◌++◌, ◌<◌, ◌≤◌, ◌⊎◌, inl, inr, true, false, not, ◌&&◌, List, [], ◌∷◌, length, get_or, refl, sym, ap, ◌∙◌, arith}
use Rattle.std.proofs.lemmas.Bool.{cases_lt, both_ways, and_parts}
use Rattle.cx_flat.specs.declared.op.Op.{Op}
use Rattle.cx_flat.specs.declared.op.Op.TheVariants as op
use Rattle.cx_flat.specs.Code.{op_at}
use Rattle.cx_flat.specs.Flats.{Control, is_halt}
use Rattle.law_parts.proofs.ListLaws.{not_true}
use Rattle.cx_plan.specs.declared.variable.VarId.{VarId}
use Rattle.cx_plan.specs.Setups.{Setup}
use Rattle.cx_cut.specs.Cuts.{Parts, part_count}
use Rattle.cx_core_events.specs.declared.standing.Standing.{Standing}
use Rattle.cx_core_events.specs.declared.standing.Work.{Work}
use Rattle.cx_core_events.specs.Paces.{Paces, part_of, op_of, iteration_of}
use Rattle.cx_core_events.specs.Events.{is_ahead, goes_on, is_near, is_ready, work_of, has_room, can_go}
use Rattle.cx_core_events.specs.Steps.{standing_at, all_at, handed_after, works_after, advanced, gone_on}

past_halts : (ops : List Op) (n : ℕ) → length ops ≤ n → op_at ops n ≡ op.Halt
past_halts [] n l = refl
past_halts (o ∷ os) zero l = absurd (omega (arith, l))
past_halts (o ∷ os) (suc n) l = past_halts os n (omega (arith, l))

pub can_goes : (p : Paces) (k : ℕ) → can_go p k ≡ true → goes_on p k ≡ true
can_goes p k e =
    (and_parts (not p.over) (goes_on p k)
    (and_parts (not p.over && goes_on p k) (is_near p k)
    (and_parts (not p.over && goes_on p k && is_near p k) (is_ready p k (op_of p k))
    (and_parts (not p.over && goes_on p k && is_near p k && is_ready p k (op_of p k)) (has_room p k)
    e).0).0).0).1

pub going_place : (p : Paces) (k : ℕ) → can_go p k ≡ true → (part_of p k).place.pc < length p.ops
going_place p k e = go (cases_lt (part_of p k).place.pc (length p.ops))
  where
    go : ((part_of p k).place.pc < length p.ops) ⊎ (length p.ops ≤ (part_of p k).place.pc)
        → (part_of p k).place.pc < length p.ops
    go (inl l) = l
    go (inr l) =
        absurd (both_ways (is_halt (op_of p k))
        (not_true (is_halt (op_of p k))
        (and_parts (not (is_halt (op_of p k))) (is_ahead p.parts p.stopped k)
        (can_goes p k e)).0)
        (ap is_halt (past_halts p.ops (part_of p k).place.pc l)))

pub get_at : {A : Type 0} (xs : List A) (k : ℕ) (x d : A) → k < length xs → x ≡ get_or xs k x
    → x ≡ get_or xs k d
get_at [] k x d l e = absurd (omega (arith, l))
get_at (y ∷ ys) zero x d l e = e
get_at (y ∷ ys) (suc k) x d l e = get_at ys k x d (omega (arith, l)) e

-- ---- one operation

replicate_end : {A : Type 0} (n : ℕ) (x : A) → replicate n x ++ x ∷ [] ≡ replicate (suc n) x
replicate_end zero x = refl
replicate_end (suc n) x = ap (λ xs. x ∷ xs) (replicate_end n x)

pub replicate_more : {A : Type 0} (n : ℕ) (x y : A) (xs ys : List A) → xs ≡ replicate n x
    → ys ≡ xs ++ y ∷ [] → y ≡ x → ys ≡ replicate (n + 1) x
replicate_more n x y xs ys a b c =
    let e : n + 1 ≡ suc n = omega arith in
    b ∙ ap (λ zs. zs ++ y ∷ []) a ∙ ap (λ z. replicate n x ++ z ∷ []) c ∙ replicate_end n x
    ∙ ap (λ m. replicate m x) (sym e)

pub made_on : (setup : Setup) (p : Paces) (k : ℕ) (scalars : VarId → ℤ) (s old : Standing)
    (ws : List Work) (o : Op) (work : Option Work) (before handed : ℕ)
    → work ≡ work_of (op_of p k) (iteration_of p k) → before ≡ (part_of p k).handed
    → handed ≡ handed_after work (length p.works) before
    → ws ≡ works_after work p.works before → o ≡ op_of p k → old ≡ part_of p k
    → s ≡ advanced setup o scalars handed old
    → record p { parts = slice_set p.parts k s; works = ws } ≡ gone_on setup p k scalars
made_on setup p k scalars s old ws o work before handed a b c d e f g =
    let h : handed ≡ handed_after (work_of (op_of p k) (iteration_of p k)) (length p.works)
    (part_of p k).handed =
    c ∙ ap (λ x. handed_after x (length p.works) before) a
    ∙ ap (handed_after (work_of (op_of p k) (iteration_of p k)) (length p.works)) b in
    let i : ws ≡ works_after (work_of (op_of p k) (iteration_of p k)) p.works (part_of p k).handed =
    d ∙ ap (λ x. works_after x p.works before) a
    ∙ ap (works_after (work_of (op_of p k) (iteration_of p k)) p.works) b in
    let t : s ≡ advanced setup (op_of p k) scalars
    (handed_after (work_of (op_of p k) (iteration_of p k)) (length p.works)
    (part_of p k).handed) (part_of p k) =
    g ∙ ap (λ x. advanced setup x scalars handed old) e
    ∙ ap (λ x. advanced setup (op_of p k) scalars x old) h
    ∙ ap (advanced setup (op_of p k) scalars
    (handed_after (work_of (op_of p k) (iteration_of p k)) (length p.works)
    (part_of p k).handed)) f in
    ap (λ x. record p { parts = slice_set p.parts k x; works = ws }) t
    ∙ ap (λ x. record (gone_on setup p k scalars) { works = x }) i

abbrev standing : ℕ → ℕ → Control → Standing
standing count handed place = record { place = place; count = count; handed = handed }

pub placed : (a b : Control) (count handed : ℕ) → a ≡ b
    → standing count handed a ≡ standing count handed b
placed a b count handed e = ap (standing count handed) e

abbrev paces : Parts → List Op → ℕ → List Standing → List Work → Paces
paces cut ops lead parts works =
    record {
      cut = cut;
      ops = ops;
      lead = lead;
      parts = parts;
      works = works;
      stopped = None;
      over = false;
      hind = 0;
    }

pub made_first : (cut : Parts) (ops : List Op) (lead n : ℕ) (place : Control)
    (parts : List Standing) (works : List Work) → parts ≡ replicate n (standing_at place)
    → n ≡ part_count cut → works ≡ [] → paces cut ops lead parts works ≡ all_at cut ops lead place
made_first cut ops lead n place parts works a b c =
    ap (λ ws. paces cut ops lead parts ws) c
    ∙ ap (λ ps. paces cut ops lead ps []) (a ∙ ap (λ m. replicate m (standing_at place)) b)
