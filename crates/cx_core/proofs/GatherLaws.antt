-- Cores gather at checkpoint places.
use Rattle.std.proofs.Common.{◌≡◌, ℕ, zero, suc, ◌<◌, ◌≤◌, ◌⊎◌, inl, inr, Bool, true, false, cond, arith, refl, sym, ap, subst, ◌∙◌, List, [], ◌∷◌, Option, Some, None}
use Rattle.std.specs.Prelude.{slice_get, All}
use Rattle.std.proofs.lemmas.Bool.{cases_lt}
use Rattle.std.proofs.lemmas.List.Elements.{All-head, All-tail}
use Rattle.cx_model.specs.Traces.{Trace}
use Rattle.cx_model.specs.Runs.{Lengths}
use Rattle.law_network.specs.Machine.{World, Can, CanMove, IsNext, After, IsWork, begun, wrote_at, over_at}
use Rattle.law_network.specs.Machine as network
use Rattle.law_network.specs.Together.{Marks, AreWorks, IsNextMark, AreTogether, Waits, PartsGather}
use Rattle.law_network.proofs.TogetherLaws.{parts_gather}
use Rattle.cx_wire.specs.Messages.{Sent as SentMail}
use Rattle.cx_flat.specs.declared.op.Op.{Op}
use Rattle.cx_flat.specs.declared.op.Op.TheVariants.{Sweep, Apply, Give, Join, Post, Take, Test, Open, Turn, Again, Rotate, Due, Written, Skip, Next, Piece, Save, Halt}
use Rattle.law_parts.specs.Holding.{Held}
use Rattle.law_parts.specs.Laws.{IsReachedState}
use Rattle.law_parts.specs.Moves.{Message, Channel, Wire, op_posts, faces_by, is_there, sender, buffer_of}
use Rattle.law_parts.specs.Nets.{net, within_lead}
use Rattle.law_parts.specs.Runs.{Run, Oracle, parts_in, next_op, guided, undivided}
use Rattle.law_parts.specs.Truths.{truth, script, mail_at, Agrees, Books}
use Rattle.cx_model.specs.Turns.{values_of}
use Rattle.cx_core_part.specs.Exchanges.{ShowsQueue}
use Rattle.cx_core_events.specs.Shows.{IsNextSave}
use Rattle.cx_core.specs.declared.answers.Event.{Event}
use Rattle.cx_core.specs.declared.answers.Event.TheVariants as events
use Rattle.cx_core.specs.Hands.{StepsTo, LiesAhead}
use Rattle.cx_core.specs.Steps.{Counts, Standing, IsAt, Answers, AnswersWork, work_event}
use Rattle.cx_core.specs.Gathered.{is_save, saves, CoresGather}

save_is : (o : Op) → is_save o ≡ true → o ≡ Save
save_is Save e = refl
save_is (Sweep k) e = absurd cc
save_is (Apply k) e = absurd cc
save_is (Give k) e = absurd cc
save_is (Join k) e = absurd cc
save_is (Post d vars) e = absurd cc
save_is (Take d vars path) e = absurd cc
save_is (Test v path skip) e = absurd cc
save_is Open e = absurd cc
save_is (Turn v path skip) e = absurd cc
save_is (Again back) e = absurd cc
save_is Rotate e = absurd cc
save_is (Due skip) e = absurd cc
save_is (Written skip) e = absurd cc
save_is (Skip skip) e = absurd cc
save_is (Next back) e = absurd cc
save_is (Piece v) e = absurd cc
save_is Halt e = absurd cc

-- what is answered as a checkpoint is the work of a Save
work_saves : (o : Op) (iteration c : ℕ) → events.Save c ≡ work_event o iteration → is_save o ≡ true
work_saves Save iteration c e = refl
work_saves (Sweep k) iteration c e = absurd cc
work_saves (Apply k) iteration c e = absurd cc
work_saves (Give k) iteration c e = absurd cc
work_saves (Join k) iteration c e = absurd cc
work_saves (Post d vars) iteration c e = absurd cc
work_saves (Take d vars path) iteration c e = absurd cc
work_saves (Test v path skip) iteration c e = absurd cc
work_saves Open iteration c e = absurd cc
work_saves (Turn v path skip) iteration c e = absurd cc
work_saves (Again back) iteration c e = absurd cc
work_saves Rotate iteration c e = absurd cc
work_saves (Due skip) iteration c e = absurd cc
work_saves (Written skip) iteration c e = absurd cc
work_saves (Skip skip) iteration c e = absurd cc
work_saves (Next back) iteration c e = absurd cc
work_saves (Piece v) iteration c e = absurd cc
work_saves Halt iteration c e = absurd cc

nth : {A : Type 0} (P : A → Type 0) (xs : List A) (k : ℕ) (x : A) → All P xs
    → slice_get xs k ≡ Some x → P x
nth P [] k x all e = absurd cc
nth P (y ∷ ys) zero x all e = subst P (some_is y x e) (All-head P y ys all)
  where
    some_is : {A : Type 0} (a b : A) → Some a ≡ Some b → a ≡ b
    some_is a b q = cc
nth P (y ∷ ys) (suc k) x all e = nth P ys k x (All-tail P y ys all) e

module _ (tells : Type 0) (r : Run) (trace : Trace) where
  works : (o : Oracle) → AreWorks (net tells within_lead r o) (saves r o)
  works o n e = (_, ap (buffer_of r) (save_is (next_op r (guided r o n).control) e))

  next_save : (o : Oracle) (wrote n : ℕ) → IsNextMark (saves r o) wrote n → IsNextSave r o wrote n
  next_save o wrote n next =
      record {
        from = next.from;
        save = save_is (next_op r (guided r o n).control) next.marked;
        none_before = λ m a b e. next.none_before m a b (ap is_save e);
      }

  waits : (o : Oracle) (w : World Held (Message tells) Channel Lengths) (e : network.Event)
      → (LiesAhead r o w (Some e) → ⊥) → Waits (saves r o) w e
  waits o w (network.Part j) not_ahead = λ n next. go n next (cases_lt n (w.place j))
    where
      go : (n : ℕ) → IsNextMark (saves r o) w.wrote n → (n < w.place j) ⊎ (w.place j ≤ n)
          → w.place j ≤ n
      go n next (inl l) = absurd (not_ahead (n, next_save o w.wrote n next, l))
      go n next (inr l) = l
  waits o w (network.Write n) not_ahead = tt
  waits o w network.End not_ahead = tt

  laws : (o : Oracle) → PartsGather (net tells within_lead r o) (script tells r o)
      (Agrees tells r o) (Books tells r)
  laws o = parts_gather (net tells within_lead r o) (script tells r o) (Agrees tells r o)
      (Books tells r)

  -- for the network of another oracle, which has as many parts and places
  for_other : (o p : Oracle) (marks : Marks) (w : World Held (Message tells) Channel Lengths)
      → AreTogether (net tells within_lead r o) marks w
      → AreTogether (net tells within_lead r p) marks w
  for_other o p marks w t =
      record { places = λ n k next l. t.places n k next l; stops = λ n next. t.stops n next }

  keeps : (first : Counts) (k : ℕ) (was is : Standing tells)
      (at : IsAt tells r first was.core was.queue was.now) (event : Event)
      (s : StepsTo tells r trace first k was is at event)
      → AreTogether (net tells within_lead r at.oracle) (saves r at.oracle) at.world
      → (LiesAhead r at.oracle at.world (Some s.does.which) → ⊥)
      → AreTogether (net tells within_lead r s.there.oracle) (saves r s.there.oracle) s.there.world
  keeps first k was is at event s together not_ahead =
      (laws s.there.oracle).other (saves r at.oracle) (saves r s.there.oracle)
      s.there.world s.there.reached.woven
      (λ j m l b. ap (λ g. is_save (next_op r g.control)) (s.same_way j m l (omega (arith, b))))
      (for_other at.oracle s.there.oracle (saves r at.oracle) s.there.world
      ((laws at.oracle).keeps (saves r at.oracle) (works at.oracle)
      at.world s.there.world s.does.which together
      (nth (λ (e : network.Event). Can (net tells within_lead r at.oracle) at.world e)
      s.does.events k s.does.which s.does.enabled.each s.does.kth)
      (waits at.oracle at.world s.does.which not_ahead) s.does.after))

  quiet : (o : Oracle) (n : ℕ) → next_op r (guided r o n).control ≡ Save → (c : Channel)
      → mail_at tells r o c n ≡ []
  quiet o n e c =
      ap (λ (q : Op). cond (is_there r c)
      (op_posts r q n (faces_by r (sender c) (values_of r.setup (undivided r n).state))
      (λ i. o (sender c) n) c) []) e
      ∙ nothing (is_there r c)
    where
      nothing : (b : Bool) → cond {A = List (Message tells)} b [] [] ≡ []
      nothing true = refl
      nothing false = refl

  -- no message is shown by an empty queue alone
  none_shown : (q : List (SentMail tells)) (ms : List (Message tells)) → ShowsQueue q ms → ms ≡ []
      → q ≡ []
  none_shown [] ms shows e = refl
  none_shown (x ∷ q) [] shows e = absurd shows
  none_shown (x ∷ q) (m ∷ ms) shows e = absurd cc

  -- the writer's work at a Save finds all queues empty, and leaves them so
  gathered : (o : Oracle) (w v : World Held (Message tells) Channel Lengths) (n : ℕ)
      → IsReachedState tells r o w → AreTogether (net tells within_lead r o) (saves r o) w
      → IsNext (net tells within_lead r o) w n → is_save (next_op r (guided r o n).control) ≡ true
      → v.queue ≡ w.queue
      → (a b : ℕ) → a < parts_in r → b < parts_in r → v.queue (Wire a b) ≡ []
  gathered o w v n reached together next save same a b l m =
      ap (λ f. f (Wire a b)) same
      ∙ ((laws o).gathers (saves r o) (works o) w n reached.woven together next save).queues
      (Wire a b) l m
      (quiet o n (save_is (next_op r (guided r o n).control) save) (Wire a b))

  none_left : (first : Counts) (k c : ℕ) (was is : Standing tells)
      (at : IsAt tells r first was.core was.queue was.now)
      → StepsTo tells r trace first k was is at (events.Save c)
      → AreTogether (net tells within_lead r at.oracle) (saves r at.oracle) at.world
      → (a b : ℕ) → is.queue a b ≡ []
  none_left first k c was is at s together a b =
      by s.does.which
      (nth (λ (e : network.Event). Can (net tells within_lead r at.oracle) at.world e)
      s.does.events k s.does.which s.does.enabled.each s.does.kth)
      s.does.after s.does.answers (cases_lt a (parts_in r)) (cases_lt b (parts_in r))
    where
      inside : (n : ℕ) → IsNext (net tells within_lead r at.oracle) at.world n
          → is_save (next_op r (guided r at.oracle n).control) ≡ true
          → s.there.world.queue ≡ at.world.queue → a < parts_in r → b < parts_in r
          → is.queue a b ≡ []
      inside n next save same l m =
          none_shown (is.queue a b) (s.there.world.queue (Wire a b)) (s.there.shows.wires a b l m)
          (gathered at.oracle at.world s.there.world n at.reached together next save same a b l m)

      answered : (n : ℕ) (over : Option ℕ) → AnswersWork r at.oracle n over (events.Save c)
          → is_save (next_op r (guided r at.oracle n).control) ≡ true
      answered n None e = work_saves (next_op r (guided r at.oracle n).control)
          (guided r at.oracle n).control.iteration c e
      answered n (Some m) e = absurd cc

      kept : (n : ℕ) → After (net tells within_lead r at.oracle) at.world (network.Write n)
          s.there.world → s.there.world.queue ≡ at.world.queue
      kept n (inl (book, writes, e)) =
          ap (λ (w : World Held (Message tells) Channel Lengths). w.queue) e
      kept n (inr (writes, e)) = ap (λ (w : World Held (Message tells) Channel Lengths). w.queue) e

      by : (e : network.Event) → Can (net tells within_lead r at.oracle) at.world e
          → After (net tells within_lead r at.oracle) at.world e s.there.world
          → Answers r at.oracle e s.there.world (events.Save c)
          → (a < parts_in r) ⊎ (parts_in r ≤ a) → (b < parts_in r) ⊎ (parts_in r ≤ b)
          → is.queue a b ≡ []
      by e can after answers (inr l) q = s.there.shows.others a b (λ m n. omega (arith, l, m))
      by e can after answers (inl l) (inr m) = s.there.shows.others a b (λ n o. omega (arith, m, o))
      by (network.Part j) can after answers (inl l) (inl m) = absurd cc
      by (network.Write n) can after answers (inl l) (inl m) =
          inside n can (answered n s.there.world.over answers) (kept n after) l m
      by network.End can after answers (inl l) (inl m) = absurd cc

  pub cores_gather : CoresGather tells r trace
  cores_gather =
      record {
        begins = λ first core queue b. starts b.at.oracle b.at.world b.nothing_done;
        keeps = keeps;
        none_left = none_left;
      }
    where
      starts : (o : Oracle) (w : World Held (Message tells) Channel Lengths)
          → w ≡ begun (net tells within_lead r (truth r))
          → AreTogether (net tells within_lead r o) (saves r o) w
      starts o w e =
          subst (AreTogether (net tells within_lead r o) (saves r o)) (sym e)
          ((laws o).begins (saves r o) (begun (net tells within_lead r (truth r))) (λ k. refl) refl)
