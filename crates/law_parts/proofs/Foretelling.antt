-- What a part will give can be chosen until it stands where it gives it: nothing that was posted,
-- taken or decided before rests on it.
use Rattle.cx_model.specs.Turns.{values_of}
use Rattle.std.proofs.Common.{◌≡◌, ℕ, suc, ◌≤◌, ◌<◌, ◌⊎◌, inl, inr, Bool, true, false, ltb, [], length, refl, sym, ap, ◌∙◌, subst, arith, cond}
use Rattle.std.proofs.lemmas.Bool.{cases_lt, and_from, and_parts, ltb-true, lt-ltb, both_ways}
use Rattle.cx_model.specs.States.{scalar_of}
use Rattle.cx_flat.specs.declared.op.Op.{Op}
use Rattle.cx_flat.specs.Ways.{WayEnds}
use Rattle.law_network.specs.Machine.{World}
use Rattle.law_network.specs.Agreement.{Woven}
use Rattle.law_network.proofs.Prefix.{Frees, oracle_kept}
use Rattle.cx_model.specs.Runs.{Lengths}
use Rattle.law_parts.specs.Holding.{Held}
use Rattle.law_parts.specs.Runs.{Run, Oracle, next_op, undivided, guided, halts, last_of, parts_in}
use Rattle.law_parts.specs.Moves.{Message, Channel, Board, sender, receiver, is_there, op_posts, op_hands, faces_by, piece_by, state_by}
use Rattle.law_parts.specs.Truths.{mail_at, script, Agrees, gives_by, Books}
use Rattle.law_parts.specs.Nets.{Nearness, net}
use Rattle.law_parts.proofs.Ways.{scalars_at, op_there, goes_on, halted}
use Rattle.cx_flat.specs.declared.op.Op.TheVariants as op
use Rattle.law_parts.proofs.GuideLaws as ways

module _ (r : Run) (oracle other : Oracle) where
  module _ (k p : ℕ) (same : (j n : ℕ) → (j ≡ k → n ≡ p → ⊥) → other j n ≡ oracle j n)
      (ends : WayEnds r.setup r.first.control r.most (scalars_at r oracle))
      (others : WayEnds r.setup r.first.control r.most (scalars_at r other)) where
    -- the way is the same until all that was given there is joined
    pub guided_same : (m : ℕ) → m ≤ suc p → guided r other m ≡ guided r oracle m
    guided_same m l = ways.guided_same r oracle other m (λ a i h j. same a i (λ e f. omega arith))

    pub control_same : (m : ℕ) → m ≤ suc p
        → (guided r other m).control ≡ (guided r oracle m).control
    control_same m l = ap (λ g. g.control) (guided_same m l)

    not_before : (x : ℕ) → x ≤ suc p → x < last_of r oracle → last_of r other ≤ x → ⊥
    not_before x l a b =
        both_ways (halts r (guided r oracle (last_of r other)).control)
        (goes_on r oracle ends (last_of r other) (omega arith))
        (ap (halts r) (sym (control_same (last_of r other) (omega arith))) ∙ halted r other others)

    module _ (tells : Type 0) (Near : Nearness) (item_there : ℕ) (k_part : k < parts_in r)
        (gives_there : op_there r oracle p ≡ op.Give item_there) where
      mails_same : (c : Channel) (m : ℕ) → (sender c ≡ k → m ≡ p → ⊥) → m ≤ suc p
          → mail_at tells r other c m ≡ mail_at tells r oracle c m
      mails_same c m h l =
          ap (λ q. cond (is_there r c)
          (op_posts r (next_op r q) m
          (faces_by {tells = tells} r (sender c) (values_of r.setup (undivided r m).state))
          (λ i. other (sender c) m) c) []) (control_same m l)
          ∙ ap (λ z. cond (is_there r c)
          (op_posts r (op_there r oracle m) m
          (faces_by {tells = tells} r (sender c) (values_of r.setup (undivided r m).state))
          (λ i. z) c) []) (same (sender c) m h)

      -- on a channel without two parts there is nothing
      nothing : (o : Oracle) (c : Channel) (m : ℕ)
          → (sender c < parts_in r → ⊥) ⊎ (receiver c < parts_in r → ⊥) → mail_at tells r o c m ≡ []
      nothing o c m out = go (is_there r c) refl
        where
          go : (b : Bool) → is_there r c ≡ b → mail_at tells r o c m ≡ []
          go false e =
              ap (λ b. cond b (op_posts r (op_there r o m) m
              (faces_by {tells = tells} r (sender c) (values_of r.setup (undivided r m).state))
              (λ i. o (sender c) m) c) []) e
          go true e = absurd (clash out)
            where
              clash : (sender c < parts_in r → ⊥) ⊎ (receiver c < parts_in r → ⊥) → ⊥
              clash (inl f) =
                  f (ltb-true (sender c) (parts_in r)
                  (and_parts (ltb (sender c) (parts_in r)) (ltb (receiver c) (parts_in r)) e).0)
              clash (inr f) =
                  f (ltb-true (receiver c) (parts_in r)
                  (and_parts (ltb (sender c) (parts_in r)) (ltb (receiver c) (parts_in r)) e).1)

      gives_same : (o : Op) (j m : ℕ) (x : Held) → other j m ≡ oracle j m
          → gives_by r j x o (oracle j m) → gives_by r j x o (other j m)
      gives_same o j m x e g = subst (gives_by r j x o) (sym e) g

      to_all : (j : ℕ) → j < parts_in r
          → (c : Channel) × (sender c ≡ k) × (receiver c ≡ j)
          × (0 < length (mail_at tells r oracle c p))
      to_all j l =
          let e : is_there r (Board k j) ≡ true =
          and_from (ltb k (parts_in r)) (ltb j (parts_in r)) (lt-ltb k (parts_in r) k_part)
          (lt-ltb j (parts_in r) l) in
          let z : length (mail_at tells r oracle (Board k j) p) ≡ 1 =
          ap (λ b. length (cond b
          (op_posts {tells = tells} r (op_there r oracle p) p
          (faces_by {tells = tells} r k (values_of r.setup (undivided r p).state))
          (λ i. oracle k p) (Board k j)) [])) e
          ∙ ap (λ o. length (op_posts {tells = tells} r o p
          (faces_by {tells = tells} r k (values_of r.setup (undivided r p).state))
          (λ i. oracle k p) (Board k j))) gives_there in
          (Board k j, refl, refl, omega arith)

      pub frees : Frees (net tells Near r oracle) (script tells r oracle) (Agrees tells r oracle)
          (Books tells r) (λ n. (guided r other n).control) (last_of r other) (script tells r other)
          (Agrees tells r other) (Books tells r) k p
      frees = record {
        ways = control_same;
        lasts = λ m l h. lasts m l h (cases_lt (last_of r other) m);
        inner = λ m l h. inner m l h (cases_lt m (last_of r other));
        mails = mails_same;
        others = λ c m out. nothing other c m out ∙ sym (nothing oracle c m out);
        pieces =
            λ j m l. ap (λ q. op_hands r (next_op r q) m
            (piece_by {tells = tells} r j (values_of r.setup (undivided r m).state))
            (state_by {tells = tells} r j (values_of r.setup (undivided r m).state)
            (undivided r m).state)) (control_same m l);
        agrees = λ j m x h l a. record {
          stands = record {
            count = a.stands.count;
            control = a.stands.control ∙ sym (control_same m l);
            scalars = λ v e. a.stands.scalars v e
                ∙ ap (λ g. scalar_of g.state v) (sym (guided_same m l));
            sized = a.stands.sized;
            numbers = a.stands.numbers;
          };
          gives = gives_same (next_op r x.control) j m x (same j m h) a.gives;
        };
        books = λ m b l h. h;
        to_all = to_all;
      }
        where
          lasts : (m : ℕ) → m ≤ suc p → m ≤ last_of r oracle
              → (last_of r other < m) ⊎ (m ≤ last_of r other) → m ≤ last_of r other
          lasts m l h (inr q) = q
          lasts m l h (inl q) = absurd
              (not_before (last_of r other) (omega arith) (omega arith) (omega arith))

          inner : (m : ℕ) → m ≤ suc p → m < last_of r oracle
              → (m < last_of r other) ⊎ (last_of r other ≤ m) → m < last_of r other
          inner m l h (inl q) = q
          inner m l h (inr q) = absurd (not_before m l h q)

      -- what holds by one oracle holds by the other
      pub woven_other : (w : World Held (Message tells) Channel Lengths)
          → Woven (net tells Near r oracle) (script tells r oracle) (Agrees tells r oracle)
          (Books tells r) w → w.place k < p
          → Woven (net tells Near r other) (script tells r other) (Agrees tells r other)
          (Books tells r) w
      woven_other w inv l =
          let v = oracle_kept (net tells Near r oracle) (script tells r oracle)
          (Agrees tells r oracle) (Books tells r) (λ n. (guided r other n).control)
          (last_of r other) (script tells r other) (Agrees tells r other) (Books tells r)
          k p frees w inv k_part l in
          record {
            agrees = v.agrees;
            queues = v.queues;
            pieces = v.pieces;
            within = v.within;
            stop_within = v.stop_within;
            stopped = v.stopped;
            behind = v.behind;
            one_work = v.one_work;
            book = v.book;
            meter = v.meter;
          }
