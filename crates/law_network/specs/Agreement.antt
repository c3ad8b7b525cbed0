-- The undivided run beside a network: what it says of each part at each place, what has to be shown
-- of one operation of one part, and what then holds in every state that is reached.
use Rattle.std.specs.Prelude.{◌≡◌, ℕ, zero, suc, ◌<◌, ◌≤◌, ◌⊎◌, Bool, true, false, List, [], ◌++◌, length, Option, Some, None, MatchOption}
use Rattle.law_network.specs.Machine.{Net, World, IsWork, sum_below}

-- what the undivided run has at each place: what is posted on a channel, the piece that a part
-- hands in, and whether a part meets an end there; and the place where the run ends
pub record Script (M C : Type 0) : Type 0 where
  pub mail : C → ℕ → List M
  pub piece : ℕ → ℕ → List M
  pub faulty : ℕ → ℕ → Bool
  -- whether the writer's work at a place passes a limit
  pub full : ℕ → Bool
  pub ends : ℕ

-- all that is posted on a channel before place n
abbrev pub posted : {M C : Type 0} → Script M C → C → ℕ → List M
posted S c zero = []
posted S c (suc n) = posted S c n ++ S.mail c n

-- an operation takes what was posted at the place before it
abbrev pub takes : {M C : Type 0} → Script M C → C → ℕ → List M
takes S c zero = []
takes S c (suc n) = S.mail c n

-- all that is taken of a channel before place n
abbrev pub taken : {M C : Type 0} → Script M C → C → ℕ → List M
taken S c zero = []
taken S c (suc n) = posted S c n

-- the pieces, as a script of one channel for each part
abbrev pub to_writer : {M C : Type 0} → Script M C → Script M ℕ
to_writer S = record {
  mail = S.piece;
  piece = S.piece;
  faulty = S.faulty;
  full = S.full;
  ends = S.ends;
}

-- all pieces that part k hands in before place n
abbrev pub handed : {M C : Type 0} → Script M C → ℕ → ℕ → List M
handed S k n = posted (to_writer S) k n

-- what part k counts on meter i before place n
abbrev pub spent : {L M C K B : Type 0} → Net L M C K B → ℕ → ℕ → ℕ → ℕ
spent N i k n = sum_below n (λ m. N.cost i k (N.way m))

-- What is shown of one operation of one part, with nothing said of other orders.
-- Agrees k n x: x, which part k holds, is what the undivided run has for it at place n. Gives k n
-- y: what part k will give at place n is as foretold, where that isn't known beforehand. Books n b:
-- b, which the writer keeps, is that of all works before place n.
pub record Fits {L M C K B : Type 0} (N : Net L M C K B) (S : Script M C)
    (Agrees Gives : ℕ → ℕ → L → Type 0) (Books : ℕ → B → Type 0) : Type 0 where
  pub some_part : 0 < N.parts
  pub among : (c : C) (n : ℕ) → 0 < length (S.mail c n)
      → (N.sender c < N.parts) × (N.receiver c < N.parts)
  -- the way goes on up to its last place, and the hindmost part is never too far ahead
  pub within_most : N.last ≤ N.most
  pub goes_on : (n : ℕ) → n < N.last → N.halts (N.way n) ≡ false
  pub halted : N.halts (N.way N.last) ≡ true
  pub nears : (place : ℕ → ℕ) (look : ℕ → K) (wrote k : ℕ) → k < N.parts
      → ((j : ℕ) → j < N.parts → look j ≡ N.way (place j))
      → ((j : ℕ) → j < N.parts → place k ≤ place j)
      → ((m : ℕ) → wrote ≤ m → m < place k → IsWork N m → ⊥) → N.Near place look wrote k
  -- what is taken of a channel was posted on it at the place before
  pub first : (c : C) → N.wants c (N.way 0) ≡ 0
  pub pairs : (c : C) (n : ℕ) → N.wants c (N.way (suc n)) ≡ length (S.mail c n)
  -- one operation of a part that agrees: what decides, what it posts and hands in, and that the
  -- part agrees after it
  pub starts : (k : ℕ) → k < N.parts → Agrees k 0 (N.start k)
  pub looks : (k n : ℕ) (x : L) → k < N.parts → Agrees k n x → N.look x ≡ N.way n
  pub posts : (c : C) (n : ℕ) (x : L) → N.sender c < N.parts → n < N.last → Agrees (N.sender c) n x
      → N.posts c x ≡ S.mail c n
  pub hands : (k n : ℕ) (x : L) → k < N.parts → Agrees k n x → N.hands k x ≡ S.piece k n
  pub moves : (k n : ℕ) (x : L) (mails : C → List M) → k < N.parts → n < N.last → Agrees k n x
      → ((c : C) → N.receiver c ≡ k → mails c ≡ takes S c n) → (y : L) → N.Move k x mails (Some y)
      → Gives k (suc n) y
      → Agrees k (suc n) y
  -- a piece is handed in exactly where there is a buffer for it
  pub piece : (k n b : ℕ) → N.buffer (N.way n) ≡ Some b → length (S.piece k n) ≡ 1
  pub no_piece : (k n : ℕ) → N.buffer (N.way n) ≡ None → S.piece k n ≡ []
  -- the writer's work keeps its book right
  pub books_start : Books 0 N.first_book
  pub books_stay : (n : ℕ) (b : B) → N.buffer (N.way n) ≡ None → Books n b → Books (suc n) b
  pub books : (n : ℕ) (b c : B) (pieces : ℕ → List M) → IsWork N n → n < N.last → Books n b
      → ((k : ℕ) → k < N.parts → pieces k ≡ S.piece k n) → N.Writes n pieces b (Some c)
      → Books (suc n) c

-- what is shown of the run's end, beside that
pub record Ends {L M C K B : Type 0} (N : Net L M C K B) (S : Script M C)
    (Agrees : ℕ → ℕ → L → Type 0) (Books : ℕ → B → Type 0) : Type 0 where
  -- a part meets an end exactly where it is faulty
  pub faults : (k n : ℕ) (x : L) (mails : C → List M) → k < N.parts → n < N.last → Agrees k n x
      → ((c : C) → N.receiver c ≡ k → mails c ≡ takes S c n) → (o : Option L) → N.Move k x mails o
      → MatchOption o (S.faulty k n ≡ true) (λ y. S.faulty k n ≡ false)
  pub bursts : (n : ℕ) (b : B) (pieces : ℕ → List M) → IsWork N n → n < N.last → Books n b
      → ((k : ℕ) → k < N.parts → pieces k ≡ S.piece k n) → (o : Option B) → N.Writes n pieces b o
      → MatchOption o (S.full n ≡ true) (λ c. S.full n ≡ false)
  -- the run's end is the first place where a part meets an end or a work passes the limit, or the
  -- last place
  pub within : S.ends ≤ N.last
  pub quiet : (k n : ℕ) → k < N.parts → n < S.ends → S.faulty k n ≡ false
  pub fitting : (n : ℕ) → n < S.ends → IsWork N n → S.full n ≡ false
  pub cause : (S.ends ≡ N.last)
      ⊎ (((k : ℕ) × (k < N.parts) × (S.faulty k S.ends ≡ true))
      ⊎ (IsWork N S.ends × (S.full S.ends ≡ true)))

-- what holds in every state that is reached
pub record Woven {L M C K B : Type 0} (N : Net L M C K B) (S : Script M C)
    (Agrees : ℕ → ℕ → L → Type 0) (Books : ℕ → B → Type 0) (w : World L M C B) : Type 0 where
  -- each part agrees with the undivided run at its own place, also beyond an end that another part
  -- meets
  pub agrees : (k : ℕ) → k < N.parts → Agrees k (w.place k) (w.held k)
  -- each queue holds exactly what was posted and not taken, in order
  pub queues : (c : C) → posted S c (w.place (N.sender c))
      ≡ taken S c (w.place (N.receiver c)) ++ w.queue c
  pub pieces : (k : ℕ) → k < N.parts → handed S k (w.place k) ≡ handed S k w.wrote ++ w.pieces k
  pub within : (k : ℕ) → k < N.parts → w.place k ≤ N.last
  pub stop_within : w.stop ≤ N.most
  -- the part that met the end stands there
  pub stopped : (w.stop ≡ N.most)
      ⊎ ((k : ℕ) × (k < N.parts) × (w.place k ≡ w.stop) × (w.stop < N.last))
  pub behind : (k : ℕ) → k < N.parts → w.wrote ≤ w.place k
  -- a buffer holds pieces of one work alone
  pub one_work : (k m n b : ℕ) → k < N.parts → m < n → n < w.place k → N.buffer (N.way m) ≡ Some b
      → N.buffer (N.way n) ≡ Some b → m < w.wrote
  pub book : Books w.wrote w.book
  -- unless an end was met
  pub meter : (i : ℕ) → w.stop ≡ N.most
      → w.meter i ≡ sum_below N.parts (λ k. spent N i k (w.place k))

-- what holds of ends in every state that is reached
pub record Ended {L M C K B : Type 0} (N : Net L M C K B) (S : Script M C)
    (w : World L M C B) : Type 0 where
  pub passed : (k n : ℕ) → k < N.parts → n < w.place k → S.faulty k n ≡ false
  pub cause : (w.stop ≡ N.most) ⊎ ((k : ℕ) × (k < N.parts) × (S.faulty k w.stop ≡ true))
  pub fitting : (n : ℕ) → n < w.wrote → IsWork N n → S.full n ≡ false
  -- the end that is reported is the undivided run's, all that precedes it was written, and at the
  -- last place all parts are done
  pub ended : (n : ℕ) → w.over ≡ Some n
      → (n ≡ S.ends) × ((m : ℕ) → m < n → IsWork N m → m < w.wrote)
      × (n ≡ N.last → (k : ℕ) → k < N.parts → w.place k ≡ N.last)
