-- What a wire that alters a value does, by what the wire within does.
use Rattle.std.proofs.Common.{◌≡◌, ℕ, Bool, true, false, ◌||◌, ◌==◌, ℤ, pos, refl, ap, subst, ◌∙◌, Some, None, Result, Ok, Err, OnOk, OnErr}
use Rattle.std.specs.Prelude.{if◌then◌else◌, slice_get}
use Rattle.std.specs.Int.{w64, int_wrapping_add}
use Rattle.cx_grid.specs.declared.shapes.Side.{Side}
use Rattle.cx_grid.specs.declared.shapes.Side.TheVariants.{Low, High}
use Rattle.cx_wire.specs.declared.mail.Mail.{Mail}
use Rattle.cx_wire.specs.Messages.{sent}
use Rattle.cx_wire.specs.Queues.{Gains, SameQueues}
use Rattle.cx_wire.specs.Memory.{told_queue, queue_of}
use Rattle.cx_wire.specs.Altering.{Altering, first_low, due, is_due, one_added, with_first, Alters}
use Rattle.cx_wire.proofs.Untold.{mails_gain, mails_stay}

or_false : (b : Bool) → b ≡ (b || false)
or_false true = refl
or_false false = refl

or_true : (b : Bool) → true ≡ (b || true)
or_true true = refl
or_true false = refl

pub due_first : (w : Altering) (f : ℕ) (m : Mail) (x : ℤ) → due w f m ≡ Some x
    → slice_get m.values 0 ≡ Some x
due_first w f m x e = go w.altered (f == 0) m.head.side e
  where
    go : (a b : Bool) (s : Side)
        → (if a then None else (if b then first_low s m.values else None)) ≡ Some x
        → slice_get m.values 0 ≡ Some x
    go true b s h = absurd cc
    go false false s h = absurd cc
    go false true Low h = h
    go false true High h = absurd cc

-- of a wire that stands as `self`
module _ (self old new : Altering) (is : self ≡ old) (f o : ℕ) (m : Mail) where
  pub alters_err : SameQueues (told_queue self.wire) (told_queue new.wire)
      → new.altered ≡ self.altered
      → SameQueues (queue_of old.wire) (queue_of new.wire) × (new.altered ≡ old.altered)
  alters_err same flag = (
    subst (λ (w : Altering). SameQueues (queue_of w.wire) (queue_of new.wire)) is
        (mails_stay (queue_of self.wire) (queue_of new.wire) same),
    flag ∙ ap (λ (w : Altering). w.altered) is,
  )

  pub alters_none : {T F : Type 0} (r : Result T F) → due old f m ≡ None
      → OnOk r (Gains (told_queue self.wire) (told_queue new.wire) f o (sent m))
      → OnErr r (SameQueues (told_queue self.wire) (told_queue new.wire))
      → new.altered ≡ self.altered → Alters old new f o m r
  alters_none (Ok x) e gains same flag =
      rw e (
        subst (λ (w : Altering). Gains (queue_of w.wire) (queue_of new.wire) f o m) is
            (mails_gain (queue_of self.wire) (queue_of new.wire) f o m gains),
        flag ∙ ap (λ (w : Altering). w.altered) is ∙ or_false old.altered,
      )
  alters_none (Err x) e gains same flag = alters_err same flag

  pub alters_some : (first : ℤ) (n : Mail) → due old f m ≡ Some first
      → n ≡ with_first m (int_wrapping_add w64 first (pos 1))
      → Gains (told_queue self.wire) (told_queue new.wire) f o (sent n) → new.altered ≡ true
      → Gains (queue_of old.wire) (queue_of new.wire) f o (one_added (due old f m) m)
      × (new.altered ≡ (old.altered || is_due (due old f m)))
  alters_some first n e n_is gains flag =
      rw e (
        subst (λ (w : Altering).
            Gains (queue_of w.wire) (queue_of new.wire) f o
            (with_first m (int_wrapping_add w64 first (pos 1)))) is
            (subst (Gains (queue_of self.wire) (queue_of new.wire) f o) n_is
            (mails_gain (queue_of self.wire) (queue_of new.wire) f o n gains)),
        flag ∙ or_true old.altered,
      )
