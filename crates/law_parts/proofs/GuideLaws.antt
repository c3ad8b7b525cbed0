-- The way up to a place depends on what the parts give before the place before it alone.
use Rattle.std.proofs.Common.{◌≡◌, ℕ, zero, suc, ◌<◌, ℤ, pos, List, map, refl, ap, ◌∙◌, arith}
use Rattle.std.specs.List.{range_with_len}
use Rattle.std.proofs.lemmas.List.FromFn.{fill_by_all, length-map-range_with_len, get_or-map-range_with_len}
use Rattle.cx_plan.specs.Lookups.{item}
use Rattle.cx_model.specs.States.{State}
use Rattle.cx_flat.specs.declared.op.Op.{Op}
use Rattle.cx_flat.specs.declared.op.Op.TheVariants.{Sweep, Apply, Give, Join, Post, Take, Test, Open, Turn, Again, Rotate, Due, Written, Skip, Next, Piece, Save, Halt}
use Rattle.cx_model.specs.Courses.{state_or}
use Rattle.law_parts.specs.Holding.{joined, join_turn}
use Rattle.law_parts.specs.Runs.{Run, Oracle, next_op, given_before, joined_at, guided_state, guided_step, guided, parts_in}

-- two oracles agree before a place, on the parts that there are
abbrev pub AgreeBefore : Run → Oracle → Oracle → ℕ → Type 0
AgreeBefore r o p n = (a i : ℕ) → a < parts_in r → suc i < n → p a i ≡ o a i

given_same : (r : Run) (o p : Oracle) (n a : ℕ) → a < parts_in r → AgreeBefore r o p (suc n)
    → given_before p n a ≡ given_before o n a
given_same r o p zero a l h = refl
given_same r o p (suc n) a l h = h a n l (omega arith)

pub joined_same : (r : Run) (o p : Oracle) (k n : ℕ) → AgreeBefore r o p (suc n)
    → joined_at r p k n ≡ joined_at r o k n
joined_same r o p k n h =
    ap (λ (numbers : List ℤ). joined (item r.setup k).kind numbers)
    (fill_by_all (given_before o n) (map (given_before p n) (range_with_len 0 (parts_in r)))
    (parts_in r) (pos 0) (length-map-range_with_len (given_before p n) 0 (parts_in r))
    (λ i l. get_or-map-range_with_len (given_before p n) 0 (parts_in r) i i (pos 0) l (omega arith)
    ∙ given_same r o p n i l h))

step_same : (r : Run) (o p : Oracle) (n : ℕ) (x : Op) (iteration : ℕ) (state : State)
    → AgreeBefore r o p (suc n)
    → guided_state r p n x iteration state ≡ guided_state r o n x iteration state
step_same r o p n (Join k) iteration state h =
    ap (λ z. state_or (join_turn r.setup (item r.setup k) state z) state) (joined_same r o p k n h)
step_same r o p n (Sweep k) iteration state h = refl
step_same r o p n (Apply k) iteration state h = refl
step_same r o p n (Give k) iteration state h = refl
step_same r o p n (Post d vars) iteration state h = refl
step_same r o p n (Take d vars path) iteration state h = refl
step_same r o p n (Test v path skip) iteration state h = refl
step_same r o p n Open iteration state h = refl
step_same r o p n (Turn v path skip) iteration state h = refl
step_same r o p n (Again back) iteration state h = refl
step_same r o p n Rotate iteration state h = refl
step_same r o p n (Due skip) iteration state h = refl
step_same r o p n (Written skip) iteration state h = refl
step_same r o p n (Skip skip) iteration state h = refl
step_same r o p n (Next back) iteration state h = refl
step_same r o p n (Piece v) iteration state h = refl
step_same r o p n Save iteration state h = refl
step_same r o p n Halt iteration state h = refl

-- what a part gives at a place shows behind the next one at the earliest
pub guided_same : (r : Run) (o p : Oracle) (n : ℕ) → AgreeBefore r o p n
    → guided r p n ≡ guided r o n
guided_same r o p zero h = refl
guided_same r o p (suc n) h =
    let e : guided r p n ≡ guided r o n = guided_same r o p n (λ a i m l. h a i m (omega arith)) in
    ap (λ g. guided_step r p n (next_op r g.control) g) e
    ∙ ap (λ s. record {
      control =
          (guided_step r o n (next_op r (guided r o n).control) (guided r o n)).control;
      state = s;
    })
    (step_same r o p n (next_op r (guided r o n).control) (guided r o n).control.iteration
    (guided r o n).state h)
