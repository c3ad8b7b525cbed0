-- Marked places among the writer's works, and orders of events in which no part goes past the next
-- one.
use Rattle.std.specs.Prelude.{◌≡◌, ℕ, suc, ◌<◌, ◌≤◌, ◌⊎◌, Bool, true, []}
use Rattle.law_network.specs.Machine.{Net, World, Event, Part, Write, End, IsWork, IsNext, Can, After, sum_below}
use Rattle.law_network.specs.Agreement.{Script, Woven, spent}

-- places that are marked; each is one of a work
abbrev pub Marks : Type 0
Marks = ℕ → Bool

abbrev pub AreWorks : {L M C K B : Type 0} → Net L M C K B → Marks → Type 0
AreWorks N marks = (n : ℕ) → marks n ≡ true → IsWork N n

-- the first mark from the writer's place on
pub record IsNextMark (marks : Marks) (wrote n : ℕ) : Type 0 where
  pub from : wrote ≤ n
  pub marked : marks n ≡ true
  pub none_before : (m : ℕ) → wrote ≤ m → m < n → marks m ≡ true → ⊥

-- no part is more than one place past it, and none has met an end past it
pub record AreTogether {L M C K B : Type 0} (N : Net L M C K B) (marks : Marks)
    (w : World L M C B) : Type 0 where
  pub places : (n k : ℕ) → IsNextMark marks w.wrote n → k < N.parts → w.place k ≤ suc n
  pub stops : (n : ℕ) → IsNextMark marks w.wrote n → (w.stop ≡ N.most) ⊎ (w.stop ≤ n)

-- an event isn't the operation of a part that is past the next mark
abbrev pub Waits : {L M C B : Type 0} → Marks → World L M C B → Event → Type 0
Waits marks w (Part k) = (n : ℕ) → IsNextMark marks w.wrote n → w.place k ≤ n
Waits marks w (Write n) = Unit {0}
Waits marks w End = Unit {0}

-- the marks of two ways are the same wherever parts have been
abbrev pub SameMarks : {L M C K B : Type 0} → Net L M C K B → (marks other : Marks) → World L M C B
    → Type 0
SameMarks N marks other w = (j m : ℕ) → j < N.parts → m < w.place j → other m ≡ marks m

-- All parts have done the operation of a mark and none after it: no message is left, and what was
-- counted is what all operations up to it count.
pub record IsGathered {L M C K B : Type 0} (N : Net L M C K B) (S : Script M C) (w : World L M C B)
    (n : ℕ) : Type 0 where
  pub places : (k : ℕ) → k < N.parts → w.place k ≡ suc n
  pub stop : w.stop ≡ N.most
  pub queues : (c : C) → N.sender c < N.parts → N.receiver c < N.parts → S.mail c n ≡ []
      → w.queue c ≡ []
  pub meter : (i : ℕ) → w.meter i ≡ sum_below N.parts (λ k. spent N i k (suc n))

-- Orders of events that wait lead to a gathering at each mark.
pub record PartsGather {L M C K B : Type 0} (N : Net L M C K B) (S : Script M C)
    (Agrees : ℕ → ℕ → L → Type 0) (Books : ℕ → B → Type 0) : Type 0 where
  -- nobody has done anything
  pub begins : (marks : Marks) (w : World L M C B) → ((k : ℕ) → w.place k ≡ 0) → w.stop ≡ N.most
      → AreTogether N marks w
  -- an event that waits keeps them together
  pub keeps : (marks : Marks) → AreWorks N marks → (w v : World L M C B) (e : Event)
      → AreTogether N marks w → Can N w e → Waits marks w e → After N w e v → AreTogether N marks v
  -- also by the marks of another way that is the same where parts have been
  pub other : (marks other : Marks) (w : World L M C B) → Woven N S Agrees Books w
      → SameMarks N marks other w → AreTogether N marks w → AreTogether N other w
  -- the writer's work at a mark finds all parts there
  pub gathers : (marks : Marks) → AreWorks N marks → (w : World L M C B) (n : ℕ)
      → Woven N S Agrees Books w
      → AreTogether N marks w → IsNext N w n → marks n ≡ true → IsGathered N S w n
