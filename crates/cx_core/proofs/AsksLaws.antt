-- What the operation of a part that can go asks for is there.
use Rattle.std.proofs.Common.{◌≡◌, ℕ, ◌<◌, ◌≤◌, ◌^◌, true, List, [], length, drop, get_or, Some, refl, sym, ap, ◌∙◌, subst, arith, length-drop}
use Rattle.std.specs.Prelude.{slice_get}
use Rattle.cx_grid.specs.Boxes.{point_count}
use Rattle.cx_plan.specs.declared.job.Job.{Job}
use Rattle.cx_plan.specs.declared.item.ItemKind.{ItemKind}
use Rattle.cx_plan.specs.declared.item.ItemKind.TheVariants.{Cell, Scalar, Sum, Least, Greatest, Count}
use Rattle.cx_plan.specs.Setups.{Setup, setup_of}
use Rattle.cx_plan.specs.Lookups.{item}
use Rattle.cx_reduce.specs.Partials.{IsReduction}
use Rattle.cx_cut.specs.Cuts.{owned, part_count}
use Rattle.cx_field.specs.Patches.{PatchValue}
use Rattle.cx_flat.specs.declared.op.Op.{Op}
use Rattle.cx_flat.specs.declared.op.Op.TheVariants as op
use Rattle.cx_flat.specs.Code.{op_at, code}
use Rattle.cx_ghost.specs.Takes.{needed, BeginsWith}
use Rattle.cx_wire.specs.Messages.{Sent as SentMail}
use Rattle.law_parts.specs.Operations.{NamesWell, is_reduction}
use Rattle.law_parts.specs.Runs.{Run, parts_in, cut_of}
use Rattle.law_parts.proofs.CountLaws.{sum_same}
use Rattle.law_parts.proofs.WholeRun.{names_at}
use Rattle.cx_core_part.specs.Frames.{IsPatchOf}
use Rattle.cx_core_part.specs.Jobs.{IsChecked, IsCutOf, IsOperation}
use Rattle.cx_core_part.proofs.OwnedLaws.{owned_few}
use Rattle.cx_core_buffers.specs.Boards.{front}
use Rattle.cx_core_buffers.specs.Checkpoints.{HoldsState}
use Rattle.cx_core_buffers.specs.Gathering.{HasPiece}
use Rattle.cx_core_events.specs.Paces.{op_of}
use Rattle.cx_core.specs.Cores.{Cores}
use Rattle.cx_core.specs.Moving.{Holdings, HasFronts, Asks, CanOperate}
use Rattle.cx_core.specs.Steps.{Counts}
use Rattle.cx_core.proofs.MovedStates.{Ready, world, oracle, its, next}
use Rattle.cx_core.proofs.TakeMoves.{begins_with}
use Rattle.cx_core.proofs.JoinMoves.{some_front, front_kind, front_count}
use Rattle.cx_core.proofs.PieceMoves.{has_piece}

reduction_is : (kind : ItemKind) → is_reduction kind ≡ true → IsReduction kind
reduction_is Cell e = absurd cc
reduction_is Scalar e = absurd cc
reduction_is Sum e = tt
reduction_is Least e = tt
reduction_is Greatest e = tt
reduction_is Count e = tt

dropped_some : {A : Type 0} (n : ℕ) (xs : List A) → 0 < length (drop n xs) → n < length xs
dropped_some n xs l = let e = length-drop n xs in omega (arith, l, e)

module _ {tells : Type 0} {r : Run} {first : Counts} {old : Cores}
    {queue : ℕ → ℕ → List (SentMail tells)} {now : Counts} {k : ℕ}
    (s : Ready tells r first old queue now k)
    (job : Job) (setup : r.setup ≡ setup_of job) (was : PatchValue) where
  abbrev holding : Holdings tells
  holding = record {
    patch = was;
    given = old.given;
    buffers = old.buffers;
    queue = queue;
    now = now;
  }

  cut_is : old.pace.cut ≡ cut_of r
  cut_is = s.at.shows.pace.cut

  names : (o : Op) → next s ≡ o → NamesWell (setup_of job) o
  names o e = subst (λ x. NamesWell x o) setup
      (subst (NamesWell r.setup) e (names_at r s.run (its s).control.pc))

  count_is : part_count old.pace.cut ≡ parts_in r
  count_is = ap part_count cut_is

  module _ (whole : IsCutOf job old.pace.cut) where
    fronts : (i : ℕ) → next s ≡ op.Join i → HasFronts job old.pace.cut k i old.given
    fronts i e =
        let n = names (op.Join i) e in
        let c = s.at.shows.senders in
        let kind = front_kind s i e 0 (let l = s.part in omega (arith, l))
        ∙ ap (λ (x : Setup). (item x i).kind) setup in
        record {
          there = n.0.0;
          kind = kind;
          fronts = record {
            senders = c ∙ sym count_is;
            ready = λ a l. dropped_some (get_or old.given.taken k 0) (get_or old.given.given a [])
                (some_front s i e a (omega (arith, c, l)));
            reduction = subst IsReduction (sym kind)
                (reduction_is (item (setup_of job) i).kind n.1);
            kinds = λ a l. front_kind s i e a (let q = count_is in omega (arith, q, l))
                ∙ ap (λ (x : Setup). (item x i).kind) setup ∙ sym kind;
            few = subst (λ n. n ≤ 2 ^ 24)
                (sym (sum_same (part_count old.pace.cut) (λ a. (front old.given a k).points)
                (λ a. point_count (owned old.pace.cut a))
                (λ a l. front_count s i e a (let q = count_is in omega (arith, q, l))
                ∙ ap (λ c. point_count (owned c a)) (sym cut_is))))
                (owned_few old.pace.cut whole.whole);
          };
        }

    pub asks : (o : Op) → next s ≡ o → Asks job old.pace.cut k o holding
    asks (op.Sweep i) e = let n = names (op.Sweep i) e in n.0.0
    asks (op.Apply i) e = let n = names (op.Apply i) e in n.0.0
    asks (op.Give i) e = s.at.shows.senders ∙ sym count_is
    asks (op.Join i) e = fronts i e
    asks (op.Post d vars) e = tt
    asks (op.Take d vars path) e =
        λ a l. subst (λ c. BeginsWith c a d vars (needed c k d a) (queue a k)) (sym cut_is)
        (begins_with s d vars path e a (let q = count_is in omega (arith, q, l)))
    asks (op.Test v path skip) e = tt
    asks op.Open e = tt
    asks (op.Turn v path skip) e = tt
    asks (op.Again back) e = tt
    asks op.Rotate e = tt
    asks (op.Due skip) e = tt
    asks (op.Written skip) e = tt
    asks (op.Skip skip) e = tt
    asks (op.Next back) e = tt
    asks (op.Piece v) e = (
      names (op.Piece v) e,
      subst (λ x. HasPiece x old.buffers v) setup (has_piece s v e),
    )
    asks op.Save e = subst (λ x. HoldsState x old.buffers.state) setup s.at.shows.room.state
    asks op.Halt e = tt

    -- all that it asks for
    pub can_operate : IsChecked job → slice_get old.patches k ≡ Some was
        → CanOperate job old.pace.cut k (op_of old.pace k) holding
    can_operate checked here =
        let e : op_of old.pace k ≡ next s =
        (s.tell.events (oracle s) (world s) old.pace s.at.reached s.at.shows.pace).op k
        s.part in
        record {
          checked = checked;
          cut_is = whole;
          part = let q = count_is in let l = s.part in omega (arith, q, l);
          patch = subst (λ c. IsPatchOf (setup_of job) c k was) (sym cut_is)
              (subst (λ x. IsPatchOf x (cut_of r) k was) setup
              (s.at.shows.patches k was here).frame);
          operation = subst (λ o. IsOperation (setup_of job) o) (sym e) (
            (its s).control.pc,
            ap (λ (x : Setup). op_at (code x) (its s).control.pc)
                (sym setup),
          );
          asks = subst (λ o. Asks job old.pace.cut k o holding) (sym e) (asks (next s) refl);
        }
