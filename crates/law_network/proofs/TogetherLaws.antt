-- Parts that never go past the next mark are together at it.
use Rattle.std.proofs.Common.{◌≡◌, ℕ, zero, suc, ◌<◌, ◌≤◌, ◌⊎◌, inl, inr, Bool, true, false, eqb, cond, arith, refl, sym, ap, subst, ◌∙◌, List, [], ◌∷◌, ◌++◌, append-nil}
use Rattle.std.proofs.lemmas.Bool.{cases_lt, cases_order, false≢true}
use Rattle.law_network.specs.Machine.{Net, World, Event, Part, Write, End, IsNext, Can, After, put, sum_below}
use Rattle.law_network.specs.Agreement.{Script, Woven, posted, taken, spent}
use Rattle.law_network.specs.Together.{Marks, AreWorks, IsNextMark, AreTogether, Waits, SameMarks, IsGathered, PartsGather}

-- ---- functions

put_place : (f : ℕ → ℕ) (k v j n : ℕ) → v ≤ n → f j ≤ n → put f k v j ≤ n
put_place f k v j n a b = go (eqb j k)
  where
    go : (x : Bool) → cond x v (f j) ≤ n
    go true = a
    go false = b

sums : (n : ℕ) (f g : ℕ → ℕ) → ((k : ℕ) → k < n → f k ≡ g k) → sum_below n f ≡ sum_below n g
sums zero f g e = refl
sums (suc n) f g e =
    let a = sums n f g (λ k l. e k (omega (arith, l))) in
    let b = e n (omega arith) in
    omega (arith, a, b)

tail_is : {A : Type 0} (x : A) (xs ys : List A) → x ∷ xs ≡ x ∷ ys → xs ≡ ys
tail_is x xs ys e = cc

nothing_more : {A : Type 0} (xs ys : List A) → xs ≡ xs ++ ys → ys ≡ []
nothing_more [] ys e = sym e
nothing_more (x ∷ xs) ys e = nothing_more xs ys (tail_is x xs (xs ++ ys) e)

module _ {L M C K B : Type 0} (N : Net L M C K B) (S : Script M C) where
  begins : (marks : Marks) (w : World L M C B) → ((k : ℕ) → w.place k ≡ 0) → w.stop ≡ N.most
      → AreTogether N marks w
  begins marks w p s = record {
    places = λ n k next l. let e = p k in
        omega (arith, e);
    stops = λ n next. inl s;
  }

  -- the next mark after the writer's work was the next one before it, or comes after the work's own
  next_before : (marks : Marks) → AreWorks N marks → (w : World L M C B) (m n : ℕ) → IsNext N w m
      → IsNextMark marks (suc m) n
      → IsNextMark marks w.wrote n ⊎ IsNextMark marks w.wrote m
  next_before marks works w m n is next = go (marks m) refl
    where
      early : (i : ℕ) → w.wrote ≤ i → i < m → marks i ≡ true → ⊥
      early i a b t = is.none_before i a b (works i t)

      none : marks m ≡ false → (i : ℕ) → w.wrote ≤ i → i < n → marks i ≡ true → ⊥
      none f i a b t = at (cases_order i m)
        where
          at : (i ≡ m) ⊎ ((i < m) ⊎ (m < i)) → ⊥
          at (inr (inl l)) = early i a l t
          at (inl e) = false≢true (sym f ∙ ap marks (sym e) ∙ t)
          at (inr (inr l)) = next.none_before i (omega (arith, l)) b t

      go : (b : Bool) → marks m ≡ b → IsNextMark marks w.wrote n ⊎ IsNextMark marks w.wrote m
      go true t = inr (record { from = is.after_wrote; marked = t; none_before = early })
      go false f =
          inl (record {
            from = (let a = is.after_wrote in let b = next.from in omega (arith, a, b));
            marked = next.marked;
            none_before = none f;
          })

  wrote_keeps : (marks : Marks) → AreWorks N marks → (w : World L M C B) (m : ℕ) (b : B)
      → AreTogether N marks w → IsNext N w m
      → (n : ℕ) → IsNextMark marks (suc m) n
      → ((k : ℕ) → k < N.parts → w.place k ≤ suc n) × ((w.stop ≡ N.most) ⊎ (w.stop ≤ n))
  wrote_keeps marks works w m b t is n next = go (next_before marks works w m n is next)
    where
      behind : m < n
      behind = let l = next.from in omega (arith, l)

      go : IsNextMark marks w.wrote n ⊎ IsNextMark marks w.wrote m
          → ((k : ℕ) → k < N.parts → w.place k ≤ suc n) × ((w.stop ≡ N.most) ⊎ (w.stop ≤ n))
      go (inl x) = (λ k l. t.places n k x l, t.stops n x)
      go (inr x) = (
        λ k l. let a = t.places m k x l in let c = behind in
            omega (arith, a, c),
        stop (t.stops m x),
      )
        where
          stop : (w.stop ≡ N.most) ⊎ (w.stop ≤ m) → (w.stop ≡ N.most) ⊎ (w.stop ≤ n)
          stop (inl e) = inl e
          stop (inr l) = inr (let c = behind in omega (arith, l, c))

  keeps : (marks : Marks) → AreWorks N marks → (w v : World L M C B) (e : Event)
      → AreTogether N marks w → Can N w e → Waits marks w e → After N w e v → AreTogether N marks v
  keeps marks works w v (Part k) t can waits (inl (y, m, is)) =
      subst (AreTogether N marks) (sym is)
      (record {
        places = λ n j next l.
            put_place w.place k (suc (w.place k)) j (suc n)
            (let a = waits n next in omega (arith, a)) (t.places n j next l);
        stops = λ n next. t.stops n next;
      })
  keeps marks works w v (Part k) t can waits (inr (meter, m, is)) =
      subst (AreTogether N marks) (sym is)
      (record { places = λ n j next l. t.places n j next l; stops = λ n next. inr (waits n next) })
  keeps marks works w v (Write m) t can waits (inl (b, writes, is)) =
      subst (AreTogether N marks) (sym is)
      (record {
        places = λ n j next l. (wrote_keeps marks works w m b t can n next).0 j l;
        stops = λ n next. (wrote_keeps marks works w m b t can n next).1;
      })
  keeps marks works w v (Write m) t can waits (inr (writes, is)) =
      subst (AreTogether N marks) (sym is)
      (record { places = λ n j next l. t.places n j next l; stops = λ n next. t.stops n next })
  keeps marks works w v End t can waits is =
      subst (AreTogether N marks) (sym is)
      (record { places = λ n j next l. t.places n j next l; stops = λ n next. t.stops n next })

  module _ (Agrees : ℕ → ℕ → L → Type 0) (Books : ℕ → B → Type 0) (w : World L M C B)
      (woven : Woven N S Agrees Books w) where
    -- where some part has been past a mark of another way, it is the next one by this way too
    same_next : (marks other : Marks) → SameMarks N marks other w → (n j : ℕ) → j < N.parts
        → n < w.place j → IsNextMark other w.wrote n → IsNextMark marks w.wrote n
    same_next marks other same n j l b next =
        record {
          from = next.from;
          marked = sym (same j n l b) ∙ next.marked;
          none_before = λ m a c t. next.none_before m a c (same j m l (omega (arith, b, c)) ∙ t);
        }

    by_other : (marks other : Marks) → SameMarks N marks other w → AreTogether N marks w
        → AreTogether N other w
    by_other marks other same t =
        record { places = places; stops = λ n next. stops n next woven.stopped }
      where
        places : (n k : ℕ) → IsNextMark other w.wrote n → k < N.parts → w.place k ≤ suc n
        places n k next l = go (cases_lt n (w.place k))
          where
            go : (n < w.place k) ⊎ (w.place k ≤ n) → w.place k ≤ suc n
            go (inl b) = t.places n k (same_next marks other same n k l b next) l
            go (inr b) = omega (arith, b)

        stops : (n : ℕ) → IsNextMark other w.wrote n
            → (w.stop ≡ N.most) ⊎ ((k : ℕ) × (k < N.parts) × (w.place k ≡ w.stop)
            × (w.stop < N.last)) → (w.stop ≡ N.most) ⊎ (w.stop ≤ n)
        stops n next (inl e) = inl e
        stops n next (inr (k, l, e, b)) = go (cases_lt n (w.place k))
          where
            go : (n < w.place k) ⊎ (w.place k ≤ n) → (w.stop ≡ N.most) ⊎ (w.stop ≤ n)
            go (inl b) = t.stops n (same_next marks other same n k l b next)
            go (inr b) = inr (omega (arith, b, e))

    gathers : (marks : Marks) → AreWorks N marks → AreTogether N marks w → (n : ℕ) → IsNext N w n
        → marks n ≡ true → IsGathered N S w n
    gathers marks works t n is marked =
        record {
          places = places;
          stop = stop (t.stops n next);
          queues = λ c a b quiet.
              queue c quiet (woven.queues c) (places (N.sender c) a) (places (N.receiver c) b);
          meter = λ i. woven.meter i (stop (t.stops n next))
              ∙ sums N.parts (λ k. spent N i k (w.place k)) (λ k. spent N i k (suc n))
              (λ k l. ap (spent N i k) (places k l));
        }
      where
        next : IsNextMark marks w.wrote n
        next = record {
          from = is.after_wrote;
          marked = marked;
          none_before = λ m a b t. is.none_before m a b (works m t);
        }

        places : (k : ℕ) → k < N.parts → w.place k ≡ suc n
        places k l = let a = is.all_in k l in let b = t.places n k next l in omega (arith, a, b)

        stop : (w.stop ≡ N.most) ⊎ (w.stop ≤ n) → w.stop ≡ N.most
        stop (inl e) = e
        stop (inr l) = let b = is.before in absurd (omega (arith, l, b))

        queue : (c : C) → S.mail c n ≡ []
            → posted S c (w.place (N.sender c)) ≡ taken S c (w.place (N.receiver c)) ++ w.queue c
            → w.place (N.sender c) ≡ suc n → w.place (N.receiver c) ≡ suc n → w.queue c ≡ []
        queue c quiet all a b =
            nothing_more (posted S c n) (w.queue c)
            (sym (append-nil (posted S c n)) ∙ ap (λ ms. posted S c n ++ ms) (sym quiet)
            ∙ ap (posted S c) (sym a) ∙ all ∙ ap (λ p. taken S c p ++ w.queue c) b)

  pub parts_gather : (Agrees : ℕ → ℕ → L → Type 0) (Books : ℕ → B → Type 0)
      → PartsGather N S Agrees Books
  parts_gather Agrees Books =
      record {
        begins = begins;
        keeps = keeps;
        other = λ marks other w woven same t. by_other Agrees Books w woven marks other same t;
        gathers = λ marks works w n woven t is marked.
            gathers Agrees Books w woven marks works t n is marked;
      }
