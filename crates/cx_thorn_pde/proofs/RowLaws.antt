-- Rows that grow by one number, and rows of numbers that a rule sees.
use Rattle.std.proofs.Common.{◌≡◌, ◌≢◌, ℕ, ◌+◌, ◌<◌, ◌≤◌, arith, refl, sym, ap, ◌∙◌, subst, ◌⊎◌, inl, inr, ℤ, pos, negsuc, ◌+ℤ◌, ◌-ℤ◌, ◌*ℤ◌, List, length, drop, slice_set, Option, Some, Bool, true, false, nat_lt}
use Rattle.std.specs.Prelude.{if◌then◌else◌}
use Rattle.std.proofs.lemmas.Bool.{cases_eq}
use Rattle.std.proofs.lemmas.Int.{ints}
use Rattle.std.proofs.lemmas.List.{get_or-set_same, get_or-set_other}
use Rattle.std.proofs.lemmas.Grind.{get_or_after_one}
use Rattle.cx_rule.specs.Place.{param_of}
use Rattle.cx_rule.specs.Rows.{SeenRow, ShowsAlong, GivesRow, LacksOne, reach_at, offset_from}
use Rattle.cx_rule.specs.Seen.{Seen, value_of}
use Rattle.cx_rule.specs.Single.{here, one_number}
use Rattle.cx_thorn_pde.specs.Around.{bend, bend_if, lap}
use Rattle.cx_thorn_pde.specs.Exact.{in_64_bits, scaled}
use Rattle.cx_thorn_pde.specs.Rows.{number_at, bend_of, lap_of, star_at, next_at, AreBy, LacksIn, RowValues, ShowsRows, if_has}
use Rattle.cx_thorn_pde.specs.Heat.{diff_step_rule}
use Rattle.cx_thorn_pde.specs.Wave.{wave_step_rule, next_wave}

pub one_more : (f : ℕ → Option ℤ) (ns : List ℤ) (k : ℕ) (n : ℤ) → k < length ns → Some n ≡ f k
    → AreBy f ns k → AreBy f (slice_set ns k n) (k + 1)
one_more f ns k n room is before i l = go (cases_eq i k)
  where
    go : (i ≡ k) ⊎ (i ≢ k) → f i ≡ Some (number_at (slice_set ns k n) i)
    go (inl same) =
        subst (λ j. f j ≡ Some (number_at (slice_set ns k n) j)) (sym same)
        (sym is ∙ ap Some (sym (get_or-set_same ns k n (pos 0) room)))
    go (inr other) = before i (omega (arith, other))
        ∙ ap Some (sym (get_or-set_other ns k i n (pos 0) other))

pub lacks_later : (f : ℕ → Option ℤ) (n m : ℕ) → n ≤ m → LacksIn f n → LacksIn f m
lacks_later f n m later (i, l, none) = (i, omega (arith, later, l), none)

-- ---- what a row shows

abbrev FirstReach : SeenRow → Type 0
FirstReach r = reach_at r 0 ≡ 1

shown_at : (r : SeenRow) (y z : ℤ) (ns : List ℤ) (i j : ℕ) → FirstReach r → ShowsAlong r 0 y z ns
    → i < r.count → j ≤ 2 → number_at ns (i + j) ≡ value_of (r.seen i) 0 (offset_from 1 y z j)
shown_at r y z ns i j reach shows l h =
    subst (λ k. number_at ns (i + j) ≡ value_of (r.seen i) 0 (offset_from k y z j)) reach
    (shows.each i j l (rw reach h))

first_shown : (r : SeenRow) (y z : ℤ) (ns : List ℤ) (i : ℕ) → FirstReach r → ShowsAlong r 0 y z ns
    → i < r.count → number_at ns i ≡ value_of (r.seen i) 0 (offset_from 1 y z 0)
first_shown r y z ns i reach shows l =
    let none : i ≡ i + 0 = omega arith in
    ap (number_at ns) none ∙ shown_at r y z ns i 0 reach shows l (omega arith)

-- ---- bends

same_bend : (u v d e h i : ℤ) → u ≡ v → d ≡ e → h ≡ i → bend_of u d h ≡ bend_of v e i
same_bend u v d e h i p q r = rw (p, q, r) refl

no_bend : (h : ℤ) → bend_of h h h ≡ pos 0
no_bend h = omega (arith, ints)

bend_y : (w : Seen) (has : Bool) (up down n : ℤ)
    → up ≡ value_of w 0 (offset_from 1 (if_has has (pos 1)) (pos 0) 1)
    → down ≡ value_of w 0 (offset_from 1 (if_has has (negsuc 0)) (pos 0) 1)
    → n ≡ value_of w 0 here → bend_of up down n ≡ if has then bend w 1 else pos 0
bend_y w true up down n p q r = same_bend _ _ _ _ _ _ p q r
bend_y w false up down n p q r = same_bend _ _ _ _ _ _ p q r ∙ no_bend (value_of w 0 here)

bend_z : (w : Seen) (has : Bool) (up down n : ℤ)
    → up ≡ value_of w 0 (offset_from 1 (pos 0) (if_has has (pos 1)) 1)
    → down ≡ value_of w 0 (offset_from 1 (pos 0) (if_has has (negsuc 0)) 1)
    → n ≡ value_of w 0 here → bend_of up down n ≡ if has then bend w 2 else pos 0
bend_z w true up down n p q r = same_bend _ _ _ _ _ _ p q r
bend_z w false up down n p q r = same_bend _ _ _ _ _ _ p q r ∙ no_bend (value_of w 0 here)

same_sum : (a b c d e f : ℤ) → a ≡ b → c ≡ d → e ≡ f → a +ℤ c +ℤ e ≡ b +ℤ d +ℤ f
same_sum a b c d e f p q r = rw (p, q, r) refl

-- the rows around a row of a rule's first read
pub record ShowsAround (r : SeenRow) (v : RowValues) : Type 0 where
  pub some : 1 ≤ r.dims
  pub dims : (i : ℕ) → (r.seen i).dims ≡ r.dims
  pub reach : reach_at r 0 ≡ 1
  pub rows : ShowsRows r v

is_some : (n d : ℕ) → n ≡ d → 1 ≤ d → nat_lt 0 n ≡ true
is_some n d e h = grind (arith, e, h)

around_lap : (r : SeenRow) (v : RowValues) (i : ℕ) → ShowsAround r v → i < r.count
    → lap_of (star_at v i) ≡ lap (r.seen i)
around_lap r v i a l =
    let w = r.seen i in
    let one : 1 ≤ 2 = omega arith in
    let middle = shown_at r (pos 0) (pos 0) v.row i 1 a.reach a.rows.row l one in
    let right = shown_at r (pos 0) (pos 0) v.row i 2 a.reach a.rows.row l (omega arith) in
    let left = first_shown r (pos 0) (pos 0) v.row i a.reach a.rows.row l in
    let up = shown_at r _ _ v.above i 1 a.reach a.rows.above l one in
    let down = shown_at r _ _ v.below i 1 a.reach a.rows.below l one in
    let far = shown_at r _ _ v.over i 1 a.reach a.rows.over l one in
    let near = shown_at r _ _ v.under i 1 a.reach a.rows.under l one in
    let x : bend_of (number_at v.row (i + 2)) (number_at v.row i) (number_at v.row (i + 1))
    ≡ bend_if w 0 =
    same_bend _ _ _ _ _ _ right left middle
    ∙ ap (λ b. if b then bend w 0 else pos 0) (sym (is_some _ _ (a.dims i) a.some)) in
    let y : bend_of (number_at v.above (i + 1)) (number_at v.below (i + 1))
    (number_at v.row (i + 1)) ≡ bend_if w 1 =
    bend_y w (nat_lt 1 r.dims) _ _ _ up down middle
    ∙ ap (λ k. if nat_lt 1 k then bend w 1 else pos 0) (sym (a.dims i)) in
    let z : bend_of (number_at v.over (i + 1)) (number_at v.under (i + 1)) (number_at v.row (i + 1))
    ≡ bend_if w 2 =
    bend_z w (nat_lt 2 r.dims) _ _ _ far near middle
    ∙ ap (λ k. if nat_lt 2 k then bend w 2 else pos 0) (sym (a.dims i)) in
    same_sum _ _ _ _ _ _ x y z

here_shown : (r : SeenRow) (v : RowValues) (i : ℕ) → ShowsAround r v → i < r.count
    → number_at v.row (i + 1) ≡ value_of (r.seen i) 0 here
here_shown r v i a l = shown_at r (pos 0) (pos 0) v.row i 1 a.reach a.rows.row l (omega arith)

-- ---- the rules along a row

same_wave : (f g h i b c l m : ℤ) → f ≡ g → h ≡ i → b ≡ c → l ≡ m
    → pos 2 *ℤ h -ℤ b +ℤ scaled f l ≡ pos 2 *ℤ i -ℤ c +ℤ scaled g m
same_wave f g h i b c l m p q r s = rw (p, q, r, s) refl

pub alone_shown : (r : SeenRow) (k : ℕ) (ns : List ℤ) (i : ℕ) → reach_at r k ≡ 0
    → ShowsAlong r k (pos 0) (pos 0) ns
    → i < r.count → number_at ns i ≡ value_of (r.seen i) k here
alone_shown r k ns i reach shows l =
    let none : i ≡ i + 0 = omega arith in
    ap (number_at ns) none
    ∙ subst (λ m. number_at ns (i + 0) ≡ value_of (r.seen i) k (offset_from m (pos 0) (pos 0) 0))
    reach
    (shows.each i 0 l (omega arith))

wave_at : (r : SeenRow) (factor : ℤ) (v : RowValues) (i : ℕ)
    → ShowsAround r v → reach_at r 1 ≡ 0 → ShowsAlong r 1 (pos 0) (pos 0) v.before
    → ((i : ℕ) → factor ≡ param_of (r.place i) 0) → i < r.count
    → in_64_bits (next_wave (r.seen i) (param_of (r.place i) 0)) ≡ next_at factor v i
wave_at r factor v i a reach shows same l =
    ap in_64_bits (sym (same_wave _ _ _ _ _ _ _ _ (same i) (here_shown r v i a l)
    (alone_shown r 1 v.before i reach shows l) (around_lap r v i a l)))

pub wave_row : (r : SeenRow) (factor : ℤ) (v : RowValues) (next : List ℤ) (n : ℕ)
    → ShowsAround r v → reach_at r 1 ≡ 0 → ShowsAlong r 1 (pos 0) (pos 0) v.before
    → ((i : ℕ) → factor ≡ param_of (r.place i) 0) → n ≡ r.count
    → AreBy (next_at factor v) next n → GivesRow wave_step_rule r next
wave_row r factor v next n a reach shows same count are i l =
    ap one_number (wave_at r factor v i a reach shows same l ∙ are i (omega (arith, l, count)))

pub wave_lacks : (r : SeenRow) (factor : ℤ) (v : RowValues) (n : ℕ)
    → ShowsAround r v → reach_at r 1 ≡ 0 → ShowsAlong r 1 (pos 0) (pos 0) v.before
    → ((i : ℕ) → factor ≡ param_of (r.place i) 0) → n ≡ r.count
    → LacksIn (next_at factor v) n → LacksOne wave_step_rule r
wave_lacks r factor v n a reach shows same count (i, l, none) =
    let near : i < r.count = omega (arith, l, count) in
    (i, near, ap one_number (wave_at r factor v i a reach shows same near ∙ none))

once : (u s : ℤ) → u +ℤ s ≡ pos 2 *ℤ u -ℤ u +ℤ s
once u s = omega (arith, ints)

inner_shown : (r : SeenRow) (before center : List ℤ) (i : ℕ) → FirstReach r
    → ShowsAlong r 0 (pos 0) (pos 0) center
    → before ≡ drop 1 center → i < r.count → number_at before i ≡ value_of (r.seen i) 0 here
inner_shown r before center i reach shows own l =
    let same : 1 + i ≡ i + 1 = omega arith in
    ap (λ ns. number_at ns i) own ∙ get_or_after_one center i (pos 0) ∙ ap (number_at center) same
    ∙ shown_at r (pos 0) (pos 0) center i 1 reach shows l (omega arith)

-- the numbers before are those of the row itself, without its first one
pub record ShowsItself (r : SeenRow) (before : List ℤ) : Type 0 where
  pub center : List ℤ
  pub shows : ShowsAlong r 0 (pos 0) (pos 0) center
  pub own : before ≡ drop 1 center

heat_at : (r : SeenRow) (factor : ℤ) (v : RowValues) (i : ℕ)
    → ShowsAround r v → ShowsItself r v.before → ((i : ℕ) → factor ≡ param_of (r.place i) 0)
    → i < r.count
    → in_64_bits (value_of (r.seen i) 0 here +ℤ scaled (param_of (r.place i) 0) (lap (r.seen i)))
    ≡ next_at factor v i
heat_at r factor v i a itself same l =
    ap in_64_bits (once (value_of (r.seen i) 0 here)
    (scaled (param_of (r.place i) 0) (lap (r.seen i)))
    ∙ sym (same_wave _ _ _ _ _ _ _ _ (same i) (here_shown r v i a l)
    (inner_shown r v.before itself.center i a.reach itself.shows itself.own l)
    (around_lap r v i a l)))

pub heat_row : (r : SeenRow) (factor : ℤ) (v : RowValues) (next : List ℤ) (n : ℕ)
    → ShowsAround r v → ShowsItself r v.before → ((i : ℕ) → factor ≡ param_of (r.place i) 0)
    → n ≡ r.count
    → AreBy (next_at factor v) next n → GivesRow diff_step_rule r next
heat_row r factor v next n a itself same count are i l =
    let near : i < n = omega (arith, l, count) in
    ap one_number (heat_at r factor v i a itself same l ∙ are i near)

pub heat_lacks : (r : SeenRow) (factor : ℤ) (v : RowValues) (n : ℕ)
    → ShowsAround r v → ShowsItself r v.before → ((i : ℕ) → factor ≡ param_of (r.place i) 0)
    → n ≡ r.count
    → LacksIn (next_at factor v) n → LacksOne diff_step_rule r
heat_lacks r factor v n a itself same count (i, l, none) =
    let near : i < r.count = omega (arith, l, count) in
    (i, near, ap one_number (heat_at r factor v i a itself same near ∙ none))
