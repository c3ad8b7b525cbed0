-- What a part posts at a place where it agrees is what the script says.
use Rattle.std.proofs.Common.{◌≡◌, ℕ, ◌<◌, ◌≤◌, Bool, true, false, List, [], ◌∷◌, arith, refl, sym, ap, ◌∙◌, subst}
use Rattle.std.specs.Prelude.{cond}
use Rattle.std.proofs.Math.Path.{fun_ext}
use Rattle.cx_grid.specs.declared.boxes.Point.{Point}
use Rattle.cx_grid.specs.Boxes.{numbers_in}
use Rattle.cx_plan.specs.declared.variable.VarId.{VarId}
use Rattle.cx_plan.specs.Lookups.{is_scalar}
use Rattle.cx_model.specs.States.{State, level_of}
use Rattle.cx_model.specs.Turns.{values_of}
use Rattle.cx_grid.specs.Grid.{at}
use Rattle.cx_flat.specs.declared.op.Op.{Op}
use Rattle.cx_flat.specs.declared.op.Op.TheVariants.{Sweep, Apply, Give, Join, Post, Take, Test, Open, Turn, Again, Rotate, Due, Written, Skip, Next, Piece, Save, Halt}
use Rattle.cx_grid.specs.declared.shapes.Side.{Side}
use Rattle.cx_cut.specs.Cuts.{face_of, IsReached}
use Rattle.law_parts.specs.Holding.{Held}
use Rattle.law_parts.specs.Runs.{Run, Oracle, next_op, undivided, op_of, last_of, synced, flags_at, done_directions, parts_in, cut_of}
use Rattle.law_parts.specs.Moves.{Message, Given, Channel, Wire, Board, sender, is_there, op_posts, posted_faces, faces_by, number_by, held_values}
use Rattle.law_parts.specs.Truths.{script, Agrees, gives_by}
use Rattle.law_parts.specs.Nets.{Nearness, net}
use Rattle.cx_plan.specs.declared.flag.Flag.TheVariants.{G}
use Rattle.cx_cut.specs.Neighbours.{Neighbours}
use Rattle.law_parts.proofs.Places.{guided_op, Exchanges}
use Rattle.law_parts.specs.Operations.{IsExchange}
use Rattle.law_parts.proofs.ListLaws.{at_among, pieces_same, numbers_same}
use Rattle.cx_rule.specs.Faces.{variable_at}

-- of a grid variable
pub grid_value : (r : Run) (state : State) (v : VarId) (level : ℕ) → is_scalar r.setup v ≡ false
    → values_of r.setup state v level ≡ at r.setup.shape (level_of state v level)
grid_value r state v level h = fun_ext (λ p. rw h refl)

-- where wires tell, the operation is the undivided run's
pub op_true : (tells : Type 0) (r : Run) (oracle : Oracle) → Exchanges tells r oracle → tells
    → (n : ℕ) → n ≤ last_of r oracle → (o : Op) → guided_op r oracle n ≡ o → op_of r n ≡ o
op_true tells r oracle ex t n l o e = ap (next_op r) (sym (ex.true_control t n)) ∙ e

-- a level is true in as many directions as its operation says, whatever its flags are
pub reached_at : (r : Run) (n k d : ℕ) (v : VarId) (p : Point) → done_directions (op_of r n) v 0 ≡ d
    → IsReached (cut_of r) k d p → IsReached (cut_of r) k (synced r n v 0) p
reached_at r n k d v p e h = go (flags_at r n v 0 G)
  where
    go : (b : Bool) → IsReached (cut_of r) k (cond b 3 (done_directions (op_of r n) v 0)) p
    go true = record {
      inside = h.inside;
      own = λ u from below. absurd (omega (arith, from, below));
    }
    go false = rw e h

module _ (tells : Type 0) (Near : Nearness) (r : Run) (oracle : Oracle)
    (law : Neighbours (cut_of r)) (ex : Exchanges tells r oracle) (n : ℕ) (l : n < last_of r oracle)
  where
    -- the values of a face
    own_true : (k : ℕ) (x : Held) → k < parts_in r → Agrees tells r oracle k n x
        → (d : ℕ) (vars : List VarId) → guided_op r oracle n ≡ Post d vars
        → (side : Side) (t : tells)
        → faces_by r k (held_values r k x.numbers) d vars side t
        ≡ faces_by r k (values_of r.setup (undivided r n).state) d vars side t
    own_true k x part a d vars e side t =
        pieces_same (λ v. numbers_in (face_of (cut_of r) k d side) (held_values r k x.numbers v 0))
        (λ v. numbers_in (face_of (cut_of r) k d side)
        (values_of r.setup (undivided r n).state v 0)) vars (λ i h.
        let v = variable_at vars i in
        let grid = exchange.grid i h in
        let current = exchange.current i h in
        let done : done_directions (op_of r n) v 0 ≡ d =
        ap (λ o. done_directions o v 0) op_is ∙ (rw (at_among vars i h) refl) in
        numbers_same (face_of (cut_of r) k d side) (held_values r k x.numbers v 0)
        (values_of r.setup (undivided r n).state v 0) (λ p q.
        a.stands.numbers t v 0 p grid current.0 current.1
        (reached_at r n k d v p done (law.face_reached k d side p part below q))
        ∙ ap (λ f. f p) (sym (grid_value r (undivided r n).state v 0 grid))))
      where
        op_is : op_of r n ≡ Post d vars
        op_is = op_true tells r oracle ex t n (omega (arith, l)) (Post d vars) e

        exchange : IsExchange r.setup d vars
        exchange = ex.posts n d vars e

        below : d < 3
        below = omega (arith, exchange.direction, ex.few)

    by_op : (c : Channel) (x : Held) → sender c < parts_in r → Agrees tells r oracle (sender c) n x
        → (o : Op) → guided_op r oracle n ≡ o
        → ◌≡◌ {A = List (Message tells)}
        (op_posts r o n (faces_by r (sender c) (held_values r (sender c) x.numbers))
        (number_by r (sender c) (held_values r (sender c) x.numbers)) c)
        (op_posts r o n (faces_by {tells = tells} r (sender c)
        (values_of r.setup (undivided r n).state)) (λ i. oracle (sender c) n) c)
    by_op (Wire j k) x part a (Post d vars) e =
        ap (λ f. posted_faces r n j f d vars k)
        (fun_ext (λ side. fun_ext (λ t. own_true j x part a d vars e side t)))
    by_op (Board j k) x part a (Post d vars) e = refl
    by_op (Wire j k) x part a (Give i) e = refl
    by_op (Board j k) x part a (Give i) e =
        let same : next_op r x.control ≡ Give i = ap (next_op r) a.stands.control ∙ e in
        let number : number_by r j (held_values r j x.numbers) i ≡ oracle j n =
        subst (λ o. gives_by r j x o (oracle j n)) same a.gives in
        ap (λ z. Given z ∷ []) number
    by_op c x part a (Sweep i) e = refl
    by_op c x part a (Apply i) e = refl
    by_op c x part a (Join i) e = refl
    by_op c x part a (Take d vars path) e = refl
    by_op c x part a (Test v path skip) e = refl
    by_op c x part a Open e = refl
    by_op c x part a (Turn v path skip) e = refl
    by_op c x part a (Again back) e = refl
    by_op c x part a Rotate e = refl
    by_op c x part a (Due skip) e = refl
    by_op c x part a (Written skip) e = refl
    by_op c x part a (Skip skip) e = refl
    by_op c x part a (Next back) e = refl
    by_op c x part a (Piece v) e = refl
    by_op c x part a Save e = refl
    by_op c x part a Halt e = refl

    -- the field posts of Fits
    pub posts_are : (c : Channel) (x : Held) → sender c < parts_in r
        → Agrees tells r oracle (sender c) n x
        → (net tells Near r oracle).posts c x ≡ (script tells r oracle).mail c n
    posts_are c x part a =
        ap (λ (ms : List (Message tells)). cond (is_there r c) ms []) (
        ap (λ q. op_posts r (next_op r q) x.count
        (faces_by r (sender c) (held_values r (sender c) x.numbers))
        (number_by r (sender c) (held_values r (sender c) x.numbers)) c) a.stands.control
        ∙ ap (λ m. op_posts r (guided_op r oracle n) m
        (faces_by r (sender c) (held_values r (sender c) x.numbers))
        (number_by r (sender c) (held_values r (sender c) x.numbers)) c) a.stands.count
        ∙ by_op c x part a (guided_op r oracle n) refl)
