-- Giving: a part's number for a reduction stands at the ends of its boards.
use Rattle.std.proofs.Common.{◌≡◌, ℕ, suc, ◌<◌, ◌⊎◌, inl, inr, Bool, true, false, List, [], ◌∷◌, ◌++◌, map, cond, eqb, Some, refl, sym, ap, ◌∙◌, subst, arith, eq-eqb, append_assoc, append-nil}
use Rattle.std.specs.List.{AllZip}
use Rattle.std.proofs.lemmas.Bool.{cases_eq, ne_eqb}
use Rattle.cx_grid.specs.Boxes.{point_count}
use Rattle.cx_plan.specs.Lookups.{item}
use Rattle.cx_rule.specs.States.{scalar_of}
use Rattle.cx_reduce.specs.Partials.{Reduced}
use Rattle.cx_cut.specs.Cuts.{owned}
use Rattle.cx_flat.specs.declared.op.Op.TheVariants as op
use Rattle.cx_flat.specs.Flats.{control_after}
use Rattle.law_network.specs.Machine.{taken_now, queue_after}
use Rattle.law_network.proofs.Put.{put_same, put_other}
use Rattle.cx_wire.specs.Messages.{Sent as SentMail}
use Rattle.law_parts.specs.Moves.{Given, Wire, Board, op_wants, op_posts, faces_by, number_by, held_values, Moves}
use Rattle.law_parts.specs.Nets.{points_of, values_of_op}
use Rattle.law_parts.specs.Runs.{Run, parts_in, cut_of}
use Rattle.cx_core_events.specs.Events.{work_of}
use Rattle.cx_core_buffers.specs.Boards.{queue as waiting, Gives}
use Rattle.cx_core_buffers.specs.Gathering.{HasRoom}
use Rattle.cx_core.specs.Cores.{Cores}
use Rattle.cx_core.specs.Shows.{ShowsGiven, kinds_by, kinds_given, kinds_joined, kind_of}
use Rattle.cx_core.specs.Steps.{Counts}
use Rattle.cx_core.proofs.ZipLaws.{zip_append}
use Rattle.cx_core.proofs.MovedStates.{LedTo, Ready, world, oracle, its, next, network, places, moved_at}
use Rattle.cx_core.proofs.QuietMoves.{wires_kept, others_kept, pieces_kept, hands_by, values_none, sum_none, op_is, joined_kept}
use Rattle.cx_core.proofs.QuietOperations.{held_with}
use Rattle.cx_core.proofs.PostMoves.{LeavesPart, still_shown, shown_with, patches_set, points_none, queue_grown, posts_there}

map_more : {A B : Type 0} (f : A → B) (xs : List A) (y : A)
    → map f (xs ++ y ∷ []) ≡ map f xs ++ f y ∷ []
map_more f [] y = refl
map_more f (x ∷ xs) y = ap (λ zs. f x ∷ zs) (map_more f xs y)

module _ {tells : Type 0} {r : Run} {first : Counts} {old : Cores}
    {queue : ℕ → ℕ → List (SentMail tells)} {now : Counts} {k : ℕ}
    (s : Ready tells r first old queue now k)
    (i : ℕ) (is : next s ≡ op.Give i) (new : Cores) (after : ℕ → ℕ → List (SentMail tells))
    (later : Counts) (l : LeavesPart s new later)
    (x : Reduced) (kind : x.kind ≡ (item r.setup i).kind)
    (points : x.points ≡ point_count (owned (cut_of r) k))
    (number : x.number ≡ number_by r k (held_values r k l.patch.numbers) i)
    (given : Gives old.given k x new.given) where
  gives : (a b : ℕ) → a < parts_in r → b < parts_in r
      → waiting new.given a b ≡ waiting old.given a b ++ cond (eqb a k) (x ∷ []) []
  gives a b l m = given.queues a b (let c = s.at.shows.senders in omega (arith, c, l))
      (let c = s.at.shows.senders in omega (arith, c, m))

  -- its own number
  gift : (a b : ℕ) → a ≡ k → a < parts_in r → b < parts_in r
      → (network s).posts (Board a b) (its s) ≡ Given x.number ∷ []
  gift a b e m j =
      posts_there s (Board a b) m j
      ∙ ap (λ o. op_posts r o (its s).count (faces_by r a (held_values r a (its s).numbers))
      (number_by r a (held_values r a (its s).numbers)) (Board a b)) is
      ∙ ap (λ z. Given (number_by r z (held_values r z (its s).numbers) i) ∷ []) e
      ∙ ap (λ numbers. Given (number_by r k (held_values r k numbers) i) ∷ [])
      (sym (still_shown s new later l).numbers)
      ∙ ap (λ n. Given n ∷ []) (sym number)

  added : (a b : ℕ) → a < parts_in r → b < parts_in r → (a ≡ k) ⊎ (a ≡ k → ⊥)
      → AllZip (ShowsGiven r a) (cond (eqb a k) (x ∷ []) [])
      (cond (eqb a k) ((network s).posts (Board a b) (its s)) [])
  added a b m j (inl e) =
      subst (λ c. AllZip (ShowsGiven r a) (cond c (x ∷ []) [])
      (cond c ((network s).posts (Board a b) (its s)) [])) (sym (eq-eqb a k e))
      (subst (λ ms. AllZip (ShowsGiven r a) (x ∷ []) ms) (sym (gift a b e m j))
      ((refl, points ∙ ap (λ z. point_count (owned (cut_of r) z)) (sym e)), tt))
  added a b m j (inr n) = subst
      (λ c. AllZip (ShowsGiven r a) (cond c (x ∷ []) [])
      (cond c ((network s).posts (Board a b) (its s)) [])) (sym (ne_eqb a k n)) tt

  boards : (a b : ℕ) → a < parts_in r → b < parts_in r
      → AllZip (ShowsGiven r a) (waiting new.given a b)
      (queue_after (network s) (world s) k (Board a b))
  boards a b m j =
      subst (λ q. AllZip (ShowsGiven r a) (waiting new.given a b) q)
      (sym (queue_grown s (Board a b) (ap (λ o. op_wants r o (Board a b)) is)))
      (subst (λ q. AllZip (ShowsGiven r a) q
      ((world s).queue (Board a b)
      ++ cond (eqb a k) ((network s).posts (Board a b) (its s)) [])) (sym (gives a b m j))
      (zip_append (ShowsGiven r a) (waiting old.given a b) (cond (eqb a k) (x ∷ []) [])
      ((world s).queue (Board a b)) (cond (eqb a k) ((network s).posts (Board a b) (its s)) [])
      (s.at.shows.boards a b m j) (added a b m j (cases_eq a k))))

  -- ---- kinds

  no_join : (j : ℕ) → next s ≡ op.Join j → ⊥
  no_join j e = no_join_here j (sym is ∙ e)
    where
      no_join_here : (j : ℕ) → op.Give i ≡ op.Join j → ⊥
      no_join_here j e = absurd cc

  kinds_more : (a : ℕ) → (a ≡ k) ⊎ (a ≡ k → ⊥)
      → kinds_given r (oracle s) (places s a)
      ≡ kinds_given r (oracle s) ((world s).place a) ++ map kind_of (cond (eqb a k) (x ∷ []) [])
  kinds_more a (inl e) =
      ap (kinds_given r (oracle s)) (put_same (world s).place k (suc ((world s).place k)) a e)
      ∙ ap (λ o. kinds_given r (oracle s) ((world s).place k) ++ kinds_by r o) (op_is s ∙ is)
      ∙ ap (λ z. kinds_given r (oracle s) ((world s).place k) ++ z ∷ []) (sym kind)
      ∙ ap (λ z. kinds_given r (oracle s) ((world s).place z) ++ map kind_of (x ∷ [])) (sym e)
      ∙ ap (λ c. kinds_given r (oracle s) ((world s).place a) ++ map kind_of (cond c (x ∷ []) []))
      (sym (eq-eqb a k e))
  kinds_more a (inr n) =
      ap (kinds_given r (oracle s)) (put_other (world s).place k (suc ((world s).place k)) a n)
      ∙ sym (append-nil (kinds_given r (oracle s) ((world s).place a)))
      ∙ ap (λ c. kinds_given r (oracle s) ((world s).place a) ++ map kind_of (cond c (x ∷ []) []))
      (sym (ne_eqb a k n))

  map_both : (xs : List Reduced) (c : Bool)
      → map kind_of xs ++ map kind_of (cond c (x ∷ []) []) ≡ map kind_of (xs ++ cond c (x ∷ []) [])
  map_both xs true = sym (map_more kind_of xs x)
  map_both xs false = append-nil (map kind_of xs) ∙ ap (map kind_of) (sym (append-nil xs))

  kinds : (a b : ℕ) → a < parts_in r → b < parts_in r
      → kinds_given r (oracle s) (places s a)
      ≡ kinds_joined r (oracle s) (places s b) ++ map kind_of (waiting new.given a b)
  kinds a b m j =
      kinds_more a (cases_eq a k)
      ∙ ap (λ ks. ks ++ map kind_of (cond (eqb a k) (x ∷ []) [])) (s.at.shows.kinds a b m j)
      ∙ append_assoc (kinds_joined r (oracle s) ((world s).place b))
      (map kind_of (waiting old.given a b)) (map kind_of (cond (eqb a k) (x ∷ []) []))
      ∙ ap (λ ks. kinds_joined r (oracle s) ((world s).place b) ++ ks)
      (map_both (waiting old.given a b) (eqb a k))
      ∙ ap (λ ks. ks ++ map kind_of (waiting old.given a b ++ cond (eqb a k) (x ∷ []) []))
      (sym (joined_kept s no_join b))
      ∙ ap (λ xs. kinds_joined r (oracle s) (places s b) ++ map kind_of xs) (sym (gives a b m j))

  pub give_goes : new.buffers ≡ old.buffers → ((a b : ℕ) → after a b ≡ queue a b)
      → LedTo s.at k new after later
  give_goes buffers same = moved_at s new after later (held_with s (its s).numbers) (record {
    move =
        subst (λ p. Moves tells r k (its s) (taken_now (network s) (world s) k) p
        (Some (held_with s (its s).numbers))) (sym is) (
          record {
            count = refl;
            control = ap (λ p. control_after r.setup p (scalar_of (its s).numbers) (its s).control)
                is;
          },
          refl,
        );
    pace_is = l.pace_is;
    patch = l.patch;
    patches_are = patches_set s new later l;
    shown = shown_with s new later l;
    wires = wires_kept s after same (λ a b. ap (λ o. op_wants r o (Wire a b)) is)
        (λ a b n faces number. ap (λ o. op_posts r o n faces number (Wire a b)) is);
    others = others_kept s after same;
    senders = given.parts;
    boards = boards;
    kinds = kinds;
    pieces = pieces_kept s new l.pace_is buffers (ap (λ o. work_of o (its s).control.iteration) is)
        (hands_by s (op.Give i) is (λ n piece all. refl));
    room = subst (HasRoom r.setup) (sym buffers) s.at.shows.room;
    lengths_are = l.lengths_are;
    met_is = l.met_is;
    outcome_is = l.outcome_is;
    points = points_none s new later l (ap (points_of r k) is);
    values = values_none s later l.values_are (ap (values_of_op r k) is);
    sum = sum_none s later l.sum_is (λ a. ap (λ o. op_wants r o (Wire a k)) is);
  })
