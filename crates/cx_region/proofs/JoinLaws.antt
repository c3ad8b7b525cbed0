-- Some of the ways of two lists, gathered one by one.
use Rattle.std.proofs.Common.{◌≡◌, ℕ, zero, suc, ◌<◌, ◌≤◌, true, refl, sym, ap, subst, ◌∙◌, List, [], ◌∷◌, ◌++◌, length, slice_get, ◌⊎◌, inl, inr, append_assoc, arith}
use Rattle.std.proofs.lemmas.List.{append-nil}
use Rattle.cx_region.specs.declared.witness.Witness.{Witness}
use Rattle.cx_region.specs.declared.witness.Followed.{Followed}
use Rattle.cx_region.specs.Witnesses.{IsAmong, IsClearedOn, covers_one, Joins}
use Rattle.cx_region.proofs.WitnessLaws.{covers_one-at}

-- ---- what is among lists

among-first : (a b : List Witness) (way : Witness) → IsAmong a way → IsAmong (a ++ b) way
among-first [] b way (k, at) = absurd (cc)
among-first (x ∷ a) b way (zero, at) = (0, at)
among-first (x ∷ a) b way (suc k, at) =
    let later = among-first a b way (k, at) in
    (suc later.0, later.1)

among-second : (a b : List Witness) (way : Witness) → IsAmong b way → IsAmong (a ++ b) way
among-second [] b way among = among
among-second (x ∷ a) b way among =
    let later = among-second a b way among in
    (suc later.0, later.1)

among-either : (a b : List Witness) (way : Witness) → IsAmong (a ++ b) way
    → IsAmong a way ⊎ IsAmong b way
among-either [] b way among = inr among
among-either (x ∷ a) b way (zero, at) = inl (0, at)
among-either (x ∷ a) b way (suc k, at) = by (among-either a b way (k, at))
  where
    by : IsAmong a way ⊎ IsAmong b way → IsAmong (x ∷ a) way ⊎ IsAmong b way
    by (inl one) = inl (suc one.0, one.1)
    by (inr one) = inr one

on-first : (x : Followed) (a b : List Witness) (level : ℕ) → IsClearedOn x a level
    → IsClearedOn x (a ++ b) level
on-first x a b level on = (on.0, among-first a b on.0 on.1, on.2)

on-second : (x : Followed) (a b : List Witness) (level : ℕ) → IsClearedOn x b level
    → IsClearedOn x (a ++ b) level
on-second x a b level on = (on.0, among-second a b on.0 on.1, on.2)

on-either : (x : Followed) (a b : List Witness) (level : ℕ) → IsClearedOn x (a ++ b) level
    → IsClearedOn x a level ⊎ IsClearedOn x b level
on-either x a b level on = by (among-either a b on.0 on.1)
  where
    by : IsAmong a on.0 ⊎ IsAmong b on.0 → IsClearedOn x a level ⊎ IsClearedOn x b level
    by (inl among) = inl (on.0, among, on.2)
    by (inr among) = inr (on.0, among, on.2)

on-none : (x : Followed) (level : ℕ) → IsClearedOn x [] level → ⊥
on-none x level (way, (k, at), cleared) = absurd (cc)

-- lists that begin alike do so with the same list behind
begins-append : (a b c : List Witness) → slice_get a 0 ≡ slice_get b 0
    → slice_get (a ++ c) 0 ≡ slice_get (b ++ c) 0
begins-append [] [] c same = refl
begins-append [] (y ∷ b) c same = absurd (cc)
begins-append (x ∷ a) [] c same = absurd (cc)
begins-append (x ∷ a) (y ∷ b) c same = same

-- a list that begins like one that isn't empty begins like it with a list behind
begins-before : (a b c : List Witness) → 1 ≤ length a → slice_get a 0 ≡ slice_get b 0
    → slice_get a 0 ≡ slice_get (b ++ c) 0
begins-before [] b c some same = absurd (omega arith)
begins-before (x ∷ a) [] c some same = absurd (cc)
begins-before (x ∷ a) (y ∷ b) c some same = same

-- ---- one by one

pub joins-none : (x : Followed) (old : List Witness) → Joins x old [] old
joins-none x old =
    record {
      among = λ way among. inl among;
      stays = ap (λ (ways : List Witness). slice_get ways 0) (sym (append-nil old));
      cleared = λ level few on. by level on;
    }
  where
    by : (level : ℕ) → IsClearedOn x old level ⊎ IsClearedOn x [] level → IsClearedOn x old level
    by level (inl on) = on
    by level (inr on) = absurd (on-none x level on)

pub joins-kept : (x : Followed) (old ways now : List Witness) (way : Witness) → Joins x old ways now
    → Joins x old (ways ++ way ∷ []) (now ++ way ∷ [])
joins-kept x old ways now way joins =
    record {
      among = λ w among. came w (among-either now (way ∷ []) w among);
      stays = begins-append now (old ++ ways) (way ∷ []) joins.stays
          ∙ ap (λ (ws : List Witness). slice_get ws 0) (append_assoc old ways (way ∷ []));
      cleared = λ level few on. by level few on;
    }
  where
    old_one : (w : Witness) → IsAmong old w ⊎ IsAmong ways w
        → IsAmong old w ⊎ IsAmong (ways ++ way ∷ []) w
    old_one w (inl one) = inl one
    old_one w (inr one) = inr (among-first ways (way ∷ []) w one)

    came : (w : Witness) → IsAmong now w ⊎ IsAmong (way ∷ []) w
        → IsAmong old w ⊎ IsAmong (ways ++ way ∷ []) w
    came w (inl one) = old_one w (joins.among w one)
    came w (inr one) = inr (among-second ways (way ∷ []) w one)

    of_ways : (level : ℕ) → level < 8 → IsClearedOn x ways level ⊎ IsClearedOn x (way ∷ []) level
        → IsClearedOn x (now ++ way ∷ []) level
    of_ways level few (inl on) = on-first x now (way ∷ []) level (joins.cleared level few (inr on))
    of_ways level few (inr on) = on-second x now (way ∷ []) level on

    by : (level : ℕ) → level < 8 → IsClearedOn x old level ⊎ IsClearedOn x (ways ++ way ∷ []) level
        → IsClearedOn x (now ++ way ∷ []) level
    by level few (inl on) = on-first x now (way ∷ []) level (joins.cleared level few (inl on))
    by level few (inr on) = of_ways level few (on-either x ways (way ∷ []) level on)

pub joins-left : (x : Followed) (old ways now : List Witness) (way : Witness) → 1 ≤ length now
    → covers_one x now way ≡ true → Joins x old ways now → Joins x old (ways ++ way ∷ []) now
joins-left x old ways now way some covers joins =
    record {
      among = λ w among. came w (joins.among w among);
      stays = begins-before now (old ++ ways) (way ∷ []) some joins.stays
          ∙ ap (λ (ws : List Witness). slice_get ws 0) (append_assoc old ways (way ∷ []));
      cleared = λ level few on. by level few on;
    }
  where
    came : (w : Witness) → IsAmong old w ⊎ IsAmong ways w
        → IsAmong old w ⊎ IsAmong (ways ++ way ∷ []) w
    came w (inl one) = inl one
    came w (inr one) = inr (among-first ways (way ∷ []) w one)

    on_way : (level : ℕ) → level < 8 → IsClearedOn x (way ∷ []) level → IsClearedOn x now level
    on_way level few (w, (zero, at), cleared) =
        let same : way ≡ w = cc in
        covers_one-at x now w level few (subst (λ v. covers_one x now v ≡ true) same covers) cleared
    on_way level few (w, (suc k, at), cleared) = absurd (cc)

    of_ways : (level : ℕ) → level < 8 → IsClearedOn x ways level ⊎ IsClearedOn x (way ∷ []) level
        → IsClearedOn x now level
    of_ways level few (inl on) = joins.cleared level few (inr on)
    of_ways level few (inr on) = on_way level few on

    by : (level : ℕ) → level < 8 → IsClearedOn x old level ⊎ IsClearedOn x (ways ++ way ∷ []) level
        → IsClearedOn x now level
    by level few (inl on) = joins.cleared level few (inl on)
    by level few (inr on) = of_ways level few (on-either x ways (way ∷ []) level on)

-- the first list gathered, and then the second
pub joins-both : (x : Followed) (first second mid new : List Witness) → Joins x [] first mid
    → Joins x mid second new → Joins x first second new
joins-both x first second mid new one two =
    record {
      among = λ w among. came w (two.among w among);
      stays = two.stays ∙ begins-append mid first second one.stays;
      cleared = λ level few on. by level few on;
    }
  where
    from_mid : (w : Witness) → IsAmong [] w ⊎ IsAmong first w → IsAmong first w ⊎ IsAmong second w
    from_mid w (inl (k, at)) = absurd (cc)
    from_mid w (inr among) = inl among

    came : (w : Witness) → IsAmong mid w ⊎ IsAmong second w → IsAmong first w ⊎ IsAmong second w
    came w (inl among) = from_mid w (one.among w among)
    came w (inr among) = inr among

    by : (level : ℕ) → level < 8 → IsClearedOn x first level ⊎ IsClearedOn x second level
        → IsClearedOn x new level
    by level few (inl on) = two.cleared level few (inl (one.cleared level few (inr on)))
    by level few (inr on) = two.cleared level few (inr on)

-- where the first list has a way, the new one has
pub joins-some : (x : Followed) (first second new : List Witness) → Joins x first second new
    → 1 ≤ length first → 1 ≤ length new
joins-some x first second new joins some = by first new joins.stays some
  where
    by : (first new : List Witness) → slice_get new 0 ≡ slice_get (first ++ second) 0
        → 1 ≤ length first → 1 ≤ length new
    by [] new stays some = absurd (omega arith)
    by (way ∷ ways) [] stays some = absurd (cc)
    by (way ∷ ways) (new ∷ news) stays some = omega arith
