-- Which operations note works: a piece of output and a checkpoint place, and no other.
use Rattle.std.proofs.Common.{◌≡◌, ℕ, zero, suc, ◌<◌, ◌≤◌, ◌⊎◌, inl, inr, Bool, true, false, List, [], ◌∷◌, ◌++◌, length, Option, Some, None, refl, sym, ap, ◌∙◌, arith}
use Rattle.std.specs.Prelude.{if◌then◌else◌, ◌==◌}
use Rattle.std.proofs.lemmas.List.{append-nil}
use Rattle.std.proofs.lemmas.Bool.{cases_lt}
use Rattle.cx_plan.specs.Steering.{item_at}
use Rattle.cx_rule.specs.States.{State}
use Rattle.cx_model.specs.declared.ends.End.TheVariants.{WhileLimit}
use Rattle.cx_model.specs.Courses.{note, turn_note, limit_note}
use Rattle.cx_model.specs.Runs.{Lengths, grown_by, lengths_after, lengths_behind}
use Rattle.cx_model.specs.Traces.{Entry, Turned, Overflowed, Exchanged, Tested, Rotated, Wrote, Saved}
use Rattle.cx_model.specs.Turns.{turn}
use Rattle.cx_flat.specs.declared.op.Op.{Op}
use Rattle.cx_flat.specs.declared.op.Op.TheVariants.{Sweep, Apply, Give, Join, Post, Take, Test, Open, Turn, Again, Rotate, Due, Written, Skip, Next, Piece, Save, Halt}
use Rattle.cx_flat.specs.Flats.{Control, last_turns, notes_at}
use Rattle.law_parts.specs.Ends.{noted}
use Rattle.law_parts.specs.Moves.{buffer_of}
use Rattle.law_parts.specs.Runs.{Run, op_of, notes_of, undivided}
use Rattle.law_parts.specs.Truths.{entries_of, lengths_before}
use Rattle.law_parts.proofs.TraceTotals.{entries_both}
use Rattle.law_reached.specs.Works.{works_of}

-- ---- lists

pub works_both : (a b : List Entry) → works_of (a ++ b) ≡ works_of a ++ works_of b
works_both [] b = refl
works_both (Wrote v iteration text state ∷ es) b =
    ap (λ xs. Wrote v iteration text state ∷ xs) (works_both es b)
works_both (Saved iteration state ∷ es) b = ap (λ xs. Saved iteration state ∷ xs) (works_both es b)
works_both (Turned k iteration state ∷ es) b = works_both es b
works_both (Overflowed k iteration state ∷ es) b = works_both es b
works_both (Exchanged vars path state ∷ es) b = works_both es b
works_both (Tested v path state ∷ es) b = works_both es b
works_both (Rotated state ∷ es) b = works_both es b

-- only works have texts
pub lengths_same : (so_far : Lengths) (es : List Entry)
    → lengths_behind so_far (works_of es) ≡ lengths_behind so_far es
lengths_same so_far [] = refl
lengths_same so_far (Wrote v iteration text state ∷ es) =
    lengths_same (grown_by so_far v (length text)) es
lengths_same so_far (Saved iteration state ∷ es) = lengths_same so_far es
lengths_same so_far (Turned k iteration state ∷ es) = lengths_same so_far es
lengths_same so_far (Overflowed k iteration state ∷ es) = lengths_same so_far es
lengths_same so_far (Exchanged vars path state ∷ es) = lengths_same so_far es
lengths_same so_far (Tested v path state ∷ es) = lengths_same so_far es
lengths_same so_far (Rotated state ∷ es) = lengths_same so_far es

lengths_both : (so_far : Lengths) (a b : List Entry)
    → lengths_behind so_far (a ++ b) ≡ lengths_behind (lengths_behind so_far a) b
lengths_both so_far [] b = refl
lengths_both so_far (e ∷ es) b = lengths_both (lengths_after so_far e) es b

-- ---- single operations

not_some : {b : ℕ} → ◌≡◌ {A = Option ℕ} None (Some b) → ⊥
not_some e = cc

not_none : {b : ℕ} → ◌≡◌ {A = Option ℕ} (Some b) None → ⊥
not_none e = cc

module _ (r : Run) where
  turn_silent : (k iteration : ℕ) (s : State) (o : Option State)
      → works_of (entries_of (turn_note k (item_at r.setup k iteration) iteration s o ∷ [])) ≡ []
  turn_silent k iteration s None = refl
  turn_silent k iteration s (Some t) = refl

  -- one that hands nothing in notes no work
  pub silent : (o : Op) (c : Control) (s : State) → buffer_of r o ≡ None
      → works_of (entries_of (notes_at r.setup r.rules o c s)) ≡ []
  silent (Sweep i) c s h =
      turn_silent i c.iteration s
      (turn r.setup r.rules (item_at r.setup i c.iteration) s c.iteration)
  silent (Apply i) c s h =
      turn_silent i c.iteration s
      (turn r.setup r.rules (item_at r.setup i c.iteration) s c.iteration)
  silent (Join i) c s h = turn_silent i c.iteration s
      (turn r.setup r.rules (item_at r.setup i c.iteration) s c.iteration)
  silent (Take d vars path) c s h = go (suc d == r.setup.shape.dims)
    where
      go : (b : Bool) → works_of (entries_of (if b then note (Exchanged vars path s) ∷ [] else []))
          ≡ []
      go true = refl
      go false = refl
  silent (Turn v path skip) c s h = go (last_turns c.opened == r.setup.while_limit)
    where
      go : (b : Bool) → works_of
          (entries_of
          ((if b then limit_note v path (WhileLimit c.iteration path) s else note (Tested v path s))
          ∷ [])) ≡ []
      go true = refl
      go false = refl
  silent (Piece v) c s h = absurd (not_none h)
  silent Save c s h = absurd (not_none h)
  silent (Give i) c s h = refl
  silent (Post d vars) c s h = refl
  silent (Test v path skip) c s h = refl
  silent Open c s h = refl
  silent (Again back) c s h = refl
  silent Rotate c s h = refl
  silent (Due skip) c s h = refl
  silent (Written skip) c s h = refl
  silent (Skip skip) c s h = refl
  silent (Next back) c s h = refl
  silent Halt c s h = refl

  -- one that hands a piece in notes one work
  pub one_work : (o : Op) (c : Control) (s : State) (b : ℕ) → buffer_of r o ≡ Some b
      → works_of (entries_of (notes_at r.setup r.rules o c s))
      ≡ entries_of (notes_at r.setup r.rules o c s)
  one_work (Piece v) c s b h = refl
  one_work Save c s b h = refl
  one_work (Sweep i) c s b h = absurd (not_some h)
  one_work (Apply i) c s b h = absurd (not_some h)
  one_work (Join i) c s b h = absurd (not_some h)
  one_work (Take d vars path) c s b h = absurd (not_some h)
  one_work (Turn v path skip) c s b h = absurd (not_some h)
  one_work (Give i) c s b h = absurd (not_some h)
  one_work (Post d vars) c s b h = absurd (not_some h)
  one_work (Test v path skip) c s b h = absurd (not_some h)
  one_work Open c s b h = absurd (not_some h)
  one_work (Again back) c s b h = absurd (not_some h)
  one_work Rotate c s b h = absurd (not_some h)
  one_work (Due skip) c s b h = absurd (not_some h)
  one_work (Written skip) c s b h = absurd (not_some h)
  one_work (Skip skip) c s b h = absurd (not_some h)
  one_work (Next back) c s b h = absurd (not_some h)
  one_work Halt c s b h = absurd (not_some h)

  -- ---- by places

  abbrev pub works_before : ℕ → List Entry
  works_before n = works_of (entries_of (noted r n))

  pub works_next : (n : ℕ)
      → works_before (suc n) ≡ works_before n ++ works_of (entries_of (notes_of r n))
  works_next n = ap works_of (entries_both (noted r n) (notes_of r n))
      ∙ works_both (entries_of (noted r n)) (entries_of (notes_of r n))

  -- where nothing is handed in there are no works
  pub works_still : (a b : ℕ) → a ≤ b → ((m : ℕ) → a ≤ m → m < b → buffer_of r (op_of r m) ≡ None)
      → works_before b ≡ works_before a
  works_still a zero l none = let e : a ≡ 0 = omega arith in ap works_before (sym e)
  works_still a (suc b) l none = go (works_still a b) (cases_lt b a)
    where
      go : (a ≤ b → ((m : ℕ) → a ≤ m → m < b → buffer_of r (op_of r m) ≡ None)
          → works_before b ≡ works_before a) → (b < a) ⊎ (a ≤ b)
          → works_before (suc b) ≡ works_before a
      go more (inl h) = let e : a ≡ suc b = omega arith in ap works_before (sym e)
      go more (inr h) =
          works_next b ∙ ap (λ xs. works_before b ++ xs)
          (silent (op_of r b) (undivided r b).control (undivided r b).state
          (none b h (omega arith)))
          ∙ append-nil (works_before b) ∙ more h (λ m x y. none m x (omega (arith, y)))

  -- ---- the lengths of the outputs

  pub lengths_are : (n : ℕ) → lengths_before r n ≡ lengths_behind r.so_far (entries_of (noted r n))
  lengths_are zero = refl
  lengths_are (suc n) =
      ap (λ (m : Lengths). lengths_behind m (entries_of (notes_of r n))) (lengths_are n)
      ∙ sym (lengths_both r.so_far (entries_of (noted r n)) (entries_of (notes_of r n)))
      ∙ sym (ap (lengths_behind r.so_far) (entries_both (noted r n) (notes_of r n)))
