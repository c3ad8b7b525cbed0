-- What is staged, set write by write.
use Rattle.std.proofs.Common.{◌≡◌, ℕ, zero, suc, ◌+◌, ◌<◌, ◌≤◌, Bool, true, false, not, ◌||◌, arith, refl, sym, ap, ◌∙◌, ℤ, pos, List, [], ◌∷◌, length, drop, get_or, Some, None, is_some}
use Rattle.std.proofs.Math.Path.{fun_ext}
use Rattle.std.specs.Prelude.{slice_index_or}
use Rattle.std.specs.List.{list_all}
use Rattle.std.proofs.lemmas.List.{drop_more}
use Rattle.std.proofs.lemmas.List.FromFn.{get_or-map-range_with_len, length-map-range_with_len}
use Rattle.cx_grid.specs.declared.boxes.Point.{Point}
use Rattle.cx_grid.specs.Boxes.{point_count, point_in, points_in, numbers_in, index_in}
use Rattle.cx_plan.specs.declared.variable.VarId.{VarId}
use Rattle.cx_plan.specs.declared.item.Touch.{Touch}
use Rattle.cx_plan.specs.declared.item.Region.TheVariants.{Interior}
use Rattle.cx_plan.specs.declared.item.Item.{Item}
use Rattle.cx_plan.specs.declared.item.ItemKind.{ItemKind}
use Rattle.cx_plan.specs.declared.item.ItemKind.TheVariants.{Cell, Scalar, Sum, Least, Greatest, Count}
use Rattle.cx_plan.specs.Regions.{are_distinct}
use Rattle.cx_rule.specs.States.{State, level_of, with_level, with_scalar}
use Rattle.cx_rule.specs.Sweeps.{all_fit, level_after, scalars_after}
use Rattle.cx_rule.specs.Patches.{PatchValue, IsPatch, IsGridLevel, IsScalar, HasBuffers, setup_in, values_in, with_numbers, with_buffers}
use Rattle.cx_rule.specs.Staging.{mixed_at, numbers_staged, staged_numbers, does_fit, levels_put, fitting_at, committed_by}
use Rattle.cx_rule.specs.Zones.{in_zone}
use Rattle.cx_rule.specs.declared.zone.Zone.{Zone}
use Rattle.cx_rule.proofs.NumberLaws.{level_other, var_below, stored_grid}
use Rattle.cx_rule.proofs.CommitLaws.{put_is_after, distinct_at}
use Rattle.cx_rule.proofs.CommitSteps.{levels_cong, some_fit, if_true, all_points}

abbrev pub no_touch : Touch
no_touch = record { var = record { 0 = 0 }; level = 0; region = Interior; reach = 0 }

abbrev pub IsFramed : PatchValue → PatchValue → Type 0
IsFramed old new = with_numbers new old.numbers ≡ old

setup_is : (p q : PatchValue) → IsFramed p q → setup_in q ≡ setup_in p
setup_is p q e = ap (λ (r : PatchValue). setup_in r) e

pub grid_framed : (p q : PatchValue) → IsFramed p q → (v : VarId) (l : ℕ) → IsGridLevel p v l
    → IsGridLevel q v l
grid_framed p q e v l g =
    let vars : length q.vars ≡ length p.vars = ap (λ (r : PatchValue). length r.vars) e in
    record {
      var = omega (arith, vars, g.var);
      stored = rw (setup_is p q e) g.stored;
      grid = rw (setup_is p q e) g.grid;
    }

pub scalar_framed : (p q : PatchValue) → IsFramed p q → (v : VarId) → IsScalar p v → IsScalar q v
scalar_framed p q e v g =
    let vars : length q.vars ≡ length p.vars = ap (λ (r : PatchValue). length r.vars) e in
    record {
      var = omega (arith, vars, g.var);
      stored = rw (setup_is p q e) g.stored;
      scalar = rw (setup_is p q e) g.scalar;
    }

-- ---- levels

pub record PutTo (old cur : PatchValue) (zone : Zone) (buffers : List (List ℤ)) (ws : List Touch)
    (k : ℕ) : Type 0 where
  pub frame : IsFramed old cur
  pub rest : levels_put old zone buffers (length ws) k (drop k ws) cur.numbers
      ≡ levels_put old zone buffers (length ws) 0 ws old.numbers
  pub kept : (j : ℕ) → k ≤ j → j < length ws
      → level_of cur.numbers (get_or ws j no_touch).var (get_or ws j no_touch).level
      ≡ level_of old.numbers (get_or ws j no_touch).var (get_or ws j no_touch).level

pub put_none : (p : PatchValue) (zone : Zone) (buffers : List (List ℤ)) (ws : List Touch)
    → PutTo p p zone buffers ws 0
put_none p zone buffers ws = record { frame = refl; rest = refl; kept = λ j h l. refl }

module _ (old cur new : PatchValue) (zone : Zone) (buffers : List (List ℤ)) (ws : List Touch)
    (k : ℕ) (below : k < length ws)
    (count : length ws ≤ length buffers) (distinct : are_distinct ws ≡ true) (s : IsPatch cur)
    (g : IsGridLevel old (get_or ws k no_touch).var (get_or ws k no_touch).level)
    (f : PutTo old cur zone buffers ws k) where
  abbrev w : Touch
  w = get_or ws k no_touch

  abbrev written : List ℤ
  written = numbers_in cur.local
      (mixed_at cur.local zone (slice_index_or buffers k []) (level_of cur.numbers w.var w.level))

  box : cur.local ≡ old.local
  box = ap (λ (r : PatchValue). r.local) f.frame

  is_after : written ≡ level_after old.local (in_zone zone)
      (λ y. Some (numbers_staged buffers (length ws) (index_in old.local y))) k
      (values_in old w.var w.level)
  is_after =
      rw box (put_is_after old zone buffers (length ws) k w (level_of cur.numbers w.var w.level)
      g below count (f.kept k (omega arith) below))

  pub put_more : new ≡ with_numbers cur (with_level cur.numbers w.var w.level written)
      → PutTo old new zone buffers ws (k + 1)
  put_more e = record {
    frame = ap (λ (t : PatchValue). with_numbers t old.numbers) e ∙ f.frame;
    rest =
        ap (λ (t : PatchValue).
        levels_put old zone buffers (length ws) (k + 1) (drop (k + 1) ws) t.numbers) e
        ∙ ap (λ ns. levels_put old zone buffers (length ws) (k + 1) (drop (k + 1) ws)
        (with_level cur.numbers w.var w.level ns)) is_after
        ∙ sym (ap (λ us. levels_put old zone buffers (length ws) k us cur.numbers)
        (drop_more ws k no_touch below))
        ∙ f.rest;
    kept = λ j h l.
        ap (λ (t : PatchValue).
        level_of t.numbers (get_or ws j no_touch).var (get_or ws j no_touch).level) e
        ∙ level_other cur.numbers w.var w.level written
        (var_below cur s w.var w.level
        (stored_grid cur w.var w.level (grid_framed old cur f.frame w.var w.level g)))
        (get_or ws j no_touch).var (get_or ws j no_touch).level
        (distinct_at ws no_touch distinct k j (omega (arith, h)) l)
        ∙ f.kept j (omega (arith, h)) l;
  }

pub put_all : (old cur : PatchValue) (zone : Zone) (buffers : List (List ℤ)) (ws : List Touch)
    (k : ℕ) → length ws ≤ k → PutTo old cur zone buffers ws k
    → cur ≡ with_numbers old (levels_put old zone buffers (length ws) 0 ws old.numbers)
put_all old cur zone buffers ws k h f =
    let e : drop k ws ≡ [] = none ws k h in
    let r : cur.numbers ≡ levels_put old zone buffers (length ws) 0 ws old.numbers =
    sym (ap (λ us. levels_put old zone buffers (length ws) k us cur.numbers) e) ∙ f.rest in
    ap (λ (t : PatchValue). with_numbers t cur.numbers) f.frame ∙ ap (with_numbers old) r
  where
    none : (us : List Touch) (n : ℕ) → length us ≤ n → drop n us ≡ []
    none [] zero h = refl
    none [] (suc n) h = refl
    none (u ∷ us) zero h = absurd (omega (arith, h))
    none (u ∷ us) (suc n) h = none us n (omega (arith, h))

-- ---- scalars

pub record ScalarsTo (old cur : PatchValue) (ws : List Touch) (ns : List ℤ) (k : ℕ) : Type 0 where
  pub frame : IsFramed old cur
  pub rest : scalars_after (drop k ws) (drop k ns) cur.numbers ≡ scalars_after ws ns old.numbers

pub scalars_none : (p : PatchValue) (ws : List Touch) (ns : List ℤ) → ScalarsTo p p ws ns 0
scalars_none p ws ns = record { frame = refl; rest = refl }

pub scalars_more : (old cur new : PatchValue) (ws : List Touch) (ns : List ℤ) (k : ℕ)
    → k < length ws → k < length ns → ScalarsTo old cur ws ns k
    → new ≡ with_numbers cur
    (with_scalar cur.numbers (get_or ws k no_touch).var (get_or ns k (pos 0)))
    → ScalarsTo old new ws ns (k + 1)
scalars_more old cur new ws ns k h l f e = record {
  frame = ap (λ (t : PatchValue). with_numbers t old.numbers) e ∙ f.frame;
  rest =
      ap (λ (t : PatchValue). scalars_after (drop (k + 1) ws) (drop (k + 1) ns) t.numbers) e
      ∙ sym (ap (λ us. scalars_after us (drop k ns) cur.numbers) (drop_more ws k no_touch h)
      ∙ ap (λ ms. scalars_after (get_or ws k no_touch ∷ drop (k + 1) ws) ms cur.numbers)
      (drop_more ns k (pos 0) l))
      ∙ f.rest;
}

pub scalars_all : (old cur : PatchValue) (ws : List Touch) (ns : List ℤ) (k : ℕ) → length ws ≤ k
    → ScalarsTo old cur ws ns k
    → cur ≡ with_numbers old (scalars_after ws ns old.numbers)
scalars_all old cur ws ns k h f =
    let e : drop k ws ≡ [] = none ws k h in
    let r : cur.numbers ≡ scalars_after ws ns old.numbers =
    sym (ap (λ us. scalars_after us (drop k ns) cur.numbers) e) ∙ f.rest in
    ap (λ (t : PatchValue). with_numbers t cur.numbers) f.frame ∙ ap (with_numbers old) r
  where
    none : (us : List Touch) (n : ℕ) → length us ≤ n → drop n us ≡ []
    none [] zero h = refl
    none [] (suc n) h = refl
    none (u ∷ us) zero h = absurd (omega (arith, h))
    none (u ∷ us) (suc n) h = none us n (omega (arith, h))

-- ---- the whole commit

module _ (p : PatchValue) (x : Item) (zone : Zone) where
  test : Point → Bool
  test = does_fit (setup_in p) p.local zone x.writes p.staged

  same_test : (λ y. not (in_zone zone y) || is_some (fitting_at p x y))
      ≡ does_fit (setup_in p) p.local zone x.writes p.staged
  same_test =
      fun_ext (λ y. ap (λ t. not (in_zone zone y) || t)
      (some_fit (all_fit (setup_in p) x.writes (staged_numbers p (length x.writes) y))
      (staged_numbers p (length x.writes) y)))

  pub levels_none : false ≡ list_all (does_fit (setup_in p) p.local zone x.writes p.staged)
      (points_in p.local) → committed_by Cell p x zone ≡ None
  levels_none e = rw (ap (λ t. list_all t (points_in p.local)) same_test ∙ sym e) refl

  fitting : (i : ℕ) → i < point_count p.local
      → list_all (does_fit (setup_in p) p.local zone x.writes p.staged) (points_in p.local) ≡ true
      → in_zone zone (point_in p.local i) ≡ true
      → fitting_at p x (point_in p.local i)
      ≡ Some (staged_numbers p (length x.writes) (point_in p.local i))
  fitting i l e z =
      let z0 : 0 + i ≡ i = omega arith in
      let long : i < length (points_in p.local) =
      let n : length (points_in p.local) ≡ point_count p.local =
      length-map-range_with_len (point_in p.local) 0 (point_count p.local) in
      omega (arith, n, l) in
      let at : get_or (points_in p.local) i (point_in p.local i) ≡ point_in p.local i =
      get_or-map-range_with_len (point_in p.local) 0 (point_count p.local) i i
      (point_in p.local i) l z0 in
      let t = all_points (does_fit (setup_in p) p.local zone x.writes p.staged) (points_in p.local)
      i (point_in p.local i) long e in
      let u : does_fit (setup_in p) p.local zone x.writes p.staged (point_in p.local i) ≡ true =
      ap (does_fit (setup_in p) p.local zone x.writes p.staged) (sym at) ∙ t in
      let v : all_fit (setup_in p) x.writes
      (staged_numbers p (length x.writes) (point_in p.local i)) ≡ true = rw z at u in
      if_true _ _ v

  pub levels_some : true ≡ list_all (does_fit (setup_in p) p.local zone x.writes p.staged)
      (points_in p.local)
      → committed_by Cell p x zone
      ≡ Some (levels_put p zone p.staged (length x.writes) 0 x.writes p.numbers)
  levels_some e =
      rw (ap (λ t. list_all t (points_in p.local)) same_test ∙ sym e)
      (ap Some (levels_cong p.local (values_in p) (in_zone zone) (fitting_at p x)
      (λ y. Some (staged_numbers p (length x.writes) y)) 0 x.writes p.numbers
      (λ i l z. fitting i l (sym e) z)))

-- the window's room plays no part
pub room_free : (kind : ItemKind) (p : PatchValue) (staged : List (List ℤ)) (a b : ℕ) (x : Item)
    (zone : Zone)
    → committed_by kind (with_buffers p staged a) x zone
    ≡ committed_by kind (with_buffers p staged b) x zone
room_free Cell p staged a b x zone = refl
room_free Scalar p staged a b x zone = refl
room_free Sum p staged a b x zone = refl
room_free Least p staged a b x zone = refl
room_free Greatest p staged a b x zone = refl
room_free Count p staged a b x zone = refl

pub buffers_moved : (p : PatchValue) (state : State) (staged cells : List (List ℤ))
    → HasBuffers p staged cells → HasBuffers (with_numbers p state) staged cells
buffers_moved p state staged cells h = record { buffers = h.buffers; counts = h.counts }
