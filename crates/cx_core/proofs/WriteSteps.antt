-- The writer's work as the code does it, by the first work that isn't done.
use Rattle.std.proofs.Common.{◌≡◌, ℕ, Bool, true, false, List, [], ◌∷◌, length, slice_get, Option, Some, None, refl, sym, ap, ◌∙◌, subst}
use Rattle.std.specs.Prelude.{nat_lt, if◌then◌else◌}
use Rattle.std.specs.List.{list_all}
use Rattle.std.proofs.lemmas.Bool.{and_parts, leb-true, leb-false}
use Rattle.cx_plan.specs.declared.variable.VarId.{VarId}
use Rattle.cx_plan.specs.Setups.{Setup}
use Rattle.cx_model.specs.Runs.{greatest_output}
use Rattle.cx_model.specs.Traces.{Trace}
use Rattle.cx_wire.specs.Messages.{Sent as SentMail}
use Rattle.cx_core_events.specs.declared.standing.Standing.{Standing}
use Rattle.cx_core_events.specs.declared.standing.Work.{Work}
use Rattle.cx_core_events.specs.declared.standing.Next.TheVariants as next
use Rattle.cx_core_events.specs.Events.{events, all_in, all_stand, is_some_work}
use Rattle.law_parts.specs.Runs.{Run}
use Rattle.cx_core.specs.declared.answers.Event.{Event}
use Rattle.cx_core.specs.declared.answers.Event.TheVariants as event
use Rattle.cx_core.specs.Cores.{Cores}
use Rattle.cx_core.specs.Hands.{StepsTo}
use Rattle.cx_core.specs.Laws.{RunLaws}
use Rattle.cx_core.specs.Steps.{Counts, Standing as Place, IsAt}
use Rattle.cx_core.specs.Writes.{HasBuffer, CanWrite, Writes, WritesTo, length_behind, has_space, text_written, limit_met, piece_event}
use Rattle.cx_core.proofs.LengthLaws.{lengths_count}
use Rattle.cx_core.proofs.WriterLaws.{is_write, in_front_by, has_piece, has_place, text_step, limit_step, save_step}

some_first : (works : List Work) → is_some_work works ≡ true
    → (work : Work) × (slice_get works 0 ≡ Some work)
some_first [] e = absurd (none_there e)
  where
    none_there : false ≡ true → ⊥
    none_there h = cc
some_first (w ∷ ws) e = (w, refl)

module _ (tells : Type 0) (r : Run) (trace : Trace) (laws : RunLaws tells r trace) (first : Counts)
    (core : Cores) (queue : ℕ → ℕ → List (SentMail tells)) (now : Counts)
    (at : IsAt tells r first core queue now) (k : ℕ)
    (kth : slice_get (events core.pace) k ≡ Some next.Write) where
  abbrev was : Place tells
  was = record { core = core; queue = queue; now = now }

  abbrev behind : Cores → Place tells
  behind new = record { core = new; queue = queue; now = now }

  first_is : (work : Work) × (slice_get core.pace.works 0 ≡ Some work)
  first_is =
      some_first core.pace.works
      (and_parts (is_some_work core.pace.works)
      (list_all (λ (s : Standing). nat_lt 0 s.handed) core.pace.parts)
      (in_front_by core.pace.over (all_in core.pace) (all_stand core.pace)
      (is_write tells r trace laws first core queue now at k kth))).0

  abbrev work : Work
  work = first_is.0

  by_var : (var : Option VarId) → work.var ≡ var
      → work ≡ record { var = var; iteration = work.iteration }
  by_var var e = ap (λ (x : Option VarId). record { var = x; iteration = work.iteration }) e

  -- ---- what the code asks for

  buffer : (var : Option VarId) → work.var ≡ var → HasBuffer r.setup core var
  buffer None e =
      at.shows.room.lengths
      ∙ sym (ap length at.shows.book ∙ lengths_count r.setup.out_vars at.world.book)
  buffer (Some v) e = (
    has_piece tells r trace laws first core queue now at k kth work first_is.1 v
        work.iteration (by_var (Some v) e),
    has_place tells r trace laws first core queue now at k kth work first_is.1 v
        work.iteration (by_var (Some v) e),
  )

  pub can_write : (setup : Setup) → r.setup ≡ setup
      → CanWrite setup core (slice_get core.pace.works 0)
  can_write setup same =
      subst (CanWrite setup core) (sym first_is.1)
      (subst (λ (s : Setup). HasBuffer s core work.var) same (buffer work.var refl))

  -- ---- what it does

  by_text : (v : VarId) → work.var ≡ Some v → (b : Bool)
      → has_space r.setup v work.iteration core ≡ b
      → StepsTo tells r trace first k was
      (behind (if b then text_written r.setup v work.iteration core
      else limit_met work.iteration core)) at
      (if b then event.Section v work.iteration else event.End)
  by_text v e true h =
      text_step tells r trace laws first core queue now at k kth work first_is.1 v work.iteration
      (by_var (Some v) e)
      (leb-true (length_behind r.setup v work.iteration core) greatest_output h)
  by_text v e false h =
      limit_step tells r trace laws first core queue now at k kth work first_is.1 v work.iteration
      (by_var (Some v) e)
      (leb-false (length_behind r.setup v work.iteration core) greatest_output h)

  by_work : (new : Cores) (e : Event) (var : Option VarId) → work.var ≡ var
      → WritesTo r.setup var work.iteration core new e
      → StepsTo tells r trace first k was (behind new) at e
  by_work new e None is h =
      subst (λ (x : Event). StepsTo tells r trace first k was (behind new) at x) (sym h.1)
      (subst (λ (c : Cores). StepsTo tells r trace first k was (behind c) at
      (event.Save work.iteration)) (sym h.0)
      (save_step tells r trace laws first core queue now at k kth work first_is.1 work.iteration
      (by_var None is)))
  by_work new e (Some v) is h =
      subst (λ (x : Event). StepsTo tells r trace first k was (behind new) at x) (sym h.1)
      (subst (λ (c : Cores). StepsTo tells r trace first k was (behind c) at
      (piece_event r.setup v work.iteration core)) (sym h.0)
      (by_text v is (has_space r.setup v work.iteration core) refl))

  pub write_step : (setup : Setup) → r.setup ≡ setup → (new : Cores) (e : Event)
      → Writes setup (slice_get core.pace.works 0) core new e
      → StepsTo tells r trace first k was (behind new) at e
  write_step setup same new e h =
      by_work new e work.var refl
      (subst (λ (s : Setup). WritesTo s work.var work.iteration core new e) (sym same)
      (subst (λ (x : Option Work). Writes setup x core new e) first_is.1 h))
