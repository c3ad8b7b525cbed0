-- How turns join.
use Rattle.std.proofs.Common.{◌≡◌, ◌≢◌, ◌∙◌, ℕ, ◌+◌, ◌≤◌, List, [], ◌∷◌, map, sum, refl, sym}
use Rattle.std.proofs.Common.{ap, subst, arith}
use Rattle.std.proofs.lemmas.List.Sums.{sum_by-cons}
use Rattle.cx_batch.specs.declared.task.Task.{Ghosts}
use Rattle.cx_batch.specs.Turns.{IsElsewhere, AreSound, Turned}

total-cons : (n : ℕ) (ns : List ℕ) → sum (n ∷ ns) ≡ n + sum ns
total-cons n ns = sum_by-cons (λ x. x) n ns

module _ {X K : Type 0} (m : Ghosts K X) where
  -- no turn
  pub unturned : (tasks : List K) (x : X) → AreSound m x tasks → Turned m tasks tasks x x
  unturned tasks x sound =
      record {
        places = refl;
        sound = sound;
        rises = omega arith;
        counts = refl;
        fixed = refl;
        others = λ other away so. so;
      }

  -- one turn
  pub one_turned : (was is : K) (x y : X) → m.place is ≡ m.place was → m.work was ≤ m.work is
      → m.count y + m.work was ≡ m.count x + m.work is → m.fixed y ≡ m.fixed x → m.sound is y
      → ((other : K) → m.place other ≢ m.place was → m.sound other x → m.sound other y)
      → Turned m (was ∷ []) (is ∷ []) x y
  one_turned was is x y place rises counts fixed sound others =
      record {
        places = ap (λ (p : ℕ). p ∷ []) place;
        sound = (sound, tt);
        rises = omega (arith, rises);
        counts = omega (arith, counts);
        fixed = fixed;
        others = λ other away so. others other away.0 so;
      }

  -- a task's turn leaves tasks at other places sound
  pub still_sound : (was is : K) (x y : X) → Turned m (was ∷ []) (is ∷ []) x y → (tasks : List K)
      → IsElsewhere (m.place was) (map m.place tasks) → AreSound m x tasks → AreSound m y tasks
  still_sound was is x y t [] away so = tt
  still_sound was is x y t (task ∷ tasks) away so = (
    t.others task ((λ e. away.0 (sym e)), tt) so.0,
    still_sound was is x y t tasks away.1 so.1,
  )

  -- a turn of the first task, and then turns of the others
  pub beside : (was is : K) (olds news : List K) (x y z : X)
      → IsElsewhere (m.place was) (map m.place olds) → Turned m (was ∷ []) (is ∷ []) x y
      → Turned m olds news y z → Turned m (was ∷ olds) (is ∷ news) x z
  beside was is olds news x y z away a b =
      let same : m.place is ≡ m.place was = first_is (m.place is) (m.place was) a.places in
      let away_now = subst (λ (p : ℕ). IsElsewhere p (map m.place olds)) (sym same) away in
      let old_one = total-cons (m.work was) [] in
      let new_one = total-cons (m.work is) [] in
      let old_all = total-cons (m.work was) (map m.work olds) in
      let new_all = total-cons (m.work is) (map m.work news) in
      record {
        places = ap (λ (p : ℕ). p ∷ map m.place news) same
            ∙ ap (λ (ps : List ℕ). m.place was ∷ ps) b.places;
        sound = (b.others is away_now a.sound.0, b.sound);
        rises = omega (arith, a.rises, b.rises, old_one, new_one, old_all, new_all);
        counts = omega (arith, a.counts, b.counts, old_one, new_one, old_all, new_all);
        fixed = b.fixed ∙ a.fixed;
        others = λ other off so. b.others other off.1 (a.others other (off.0, tt) so);
      }
    where
      first_is : (p q : ℕ) → p ∷ [] ≡ q ∷ [] → p ≡ q
      first_is p q e = cc
