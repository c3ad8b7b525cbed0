-- Fronts of a piece, added to what was written.
use Rattle.std.proofs.Common.{◌≡◌, ◌∙◌, ℕ, List, [], ◌++◌, take, drop, sym, refl, take-append-drop}
use Rattle.std.proofs.lemmas.List.{append-nil}
use Rattle.cx_run.specs.Sink.{AddsFront}

pub front_taken : (bytes old new : List ℕ) (n : ℕ) → new ≡ old ++ take n bytes
    → AddsFront bytes old new
front_taken bytes old new n e =
    record {
      front = take n bytes;
      rest = drop n bytes;
      whole = take-append-drop n bytes;
      added = e;
    }

pub front_none : (bytes old new : List ℕ) → new ≡ old → AddsFront bytes old new
front_none bytes old new e =
    record { front = []; rest = bytes; whole = refl; added = e ∙ sym (append-nil old) }
