-- The full name of a starred parameter names it, whatever thorns there are.
use Rattle.std.proofs.Common.{◌≡◌, refl, sym, ◌∙◌, ap, ℕ, ◌+◌, ◌<◌, Bool, true, false, true≢false, not, ◌||◌, List, [], ◌∷◌, ◌++◌, map, filter, find, length, get_or, codes, slice_get, Option, Some, None, Ok, arith, if◌then◌else◌}
use Rattle.std.specs.List.{flat_map, list_any, enumerate_from}
use Rattle.std.specs.Option.{option_map, is_some}
use Rattle.std.proofs.lemmas.List.Folds.{list_any-append}
use Rattle.cx_text.specs.Lexemes.{same_name, among}
use Rattle.cx_parfile.specs.declared.settings.Setting.{Setting}
use Rattle.cx_parfile.specs.declared.settings.Settings.{Settings}
use Rattle.cx_bind.specs.declared.thorns.Thorn.{Thorn}
use Rattle.cx_bind.specs.declared.thorns.Param.{Param}
use Rattle.cx_bind.specs.BuiltIn.{table, starred, recover_parameter}
use Rattle.cx_bind.specs.Parameters.{thorn_parameters, extensions, parameters}
use Rattle.cx_job_files.specs.declared.configuring.Configured.{Configured}
use Rattle.cx_job_files.specs.Shelf.{Held}
use Rattle.cx_job_files.specs.Reading.{SaysSettings}
use Rattle.cx_job_files.specs.Configuring.{ListAnd, Configures}
use Rattle.cx_values.specs.Naming.{Naming, named_in, names}
use Rattle.cx_order_entries.proofs.OnceLaws.{name_same}
use Rattle.law_restarts.specs.Settings.{is_starred, is_starred_at, sets_starred, names_starred, other_settings, unnamed_settings}
use Rattle.law_restarts.specs.Chains.{DifferInStarred, AreChained, AreChainedByNames}
use Rattle.law_restarts.proofs.ListLaws.{none_of, both_false}
use Rattle.law_restarts.proofs.GivenLaws.{starred_alike}
use Rattle.law_restarts.proofs.SightLaws.{by_full, has_name, full_named}
use Rattle.law_restarts.proofs.StageLaws.{then_ok}
use Rattle.law_restarts.proofs.FileLaws.{settings_of}
use Rattle.cx_parfile.specs.Printed.{without_line}
use Rattle.cx_plan.specs.Names.{with_owner}

-- ---- the table has all starred names

module _ (n : ℕ) (full : List ℕ) (none : list_any (has_name full) (table n) ≡ false) where
  is_other : (p : Param) (j : ℕ) → j < 37 → same_name full (get_or (table n) j p).full ≡ false
  is_other p j within = name_same.turn full (get_or (table n) j p).full
      ∙ none_of (has_name full) (table n) j p none within

  either : (name : List ℕ) (b : Bool) → same_name full name ≡ false → b ≡ false
      → (same_name full name || b) ≡ false
  either name b e h = both_false (same_name full name) b e h

  not_starred : Param → among starred full ≡ false
  not_starred p =
      (either (codes "driver::parts_x") _ (is_other p 15 (omega arith))
      (either (codes "driver::parts_y") _ (is_other p 16 (omega arith))
      (either (codes "driver::parts_z") _ (is_other p 17 (omega arith))
      (either (codes "driver::widths_x") _ (is_other p 18 (omega arith))
      (either (codes "driver::widths_y") _ (is_other p 19 (omega arith))
      (either (codes "driver::widths_z") _ (is_other p 20 (omega arith))
      (either (codes "driver::lead") _ (is_other p 21 (omega arith))
      (either (codes "driver::balance") _ (is_other p 34 (omega arith))
      (either (codes "driver::weight") _ (is_other p 35 (omega arith))
      (either (codes "driver::weight_factor") _ (is_other p 36 (omega arith))
      (either (codes "IO::out_dir") _ (is_other p 23 (omega arith))
      (either (codes "IO::checkpoint_dir") _ (is_other p 29 (omega arith))
      (either (codes "IO::recover_dir") _ (is_other p 30 (omega arith))
      (either (codes "IO::recover") _ (is_other p 31 (omega arith))
      (either (codes "IO::steer_file") _ (is_other p 33 (omega arith)) refl)))))))))))))))

module _ (full : List ℕ) (star : among starred full ≡ true) (thorns : List Thorn) where
  abbrev ps : List Param
  ps = parameters thorns

  there : list_any (has_name full) ps ≡ true
  there = by (list_any (has_name full) (table (length thorns))) refl
    where
      by : (b : Bool) → list_any (has_name full) (table (length thorns)) ≡ b
          → list_any (has_name full) ps ≡ true
      by true e = list_any-append (has_name full) (table (length thorns))
          (thorn_parameters (extensions thorns) thorns)
          ∙ ap (λ b. b || list_any (has_name full) (thorn_parameters (extensions thorns) thorns)) e
      by false e =
          absurd (true≢false (sym star ∙ not_starred (length thorns) full e (recover_parameter 0)))

  named : (k : ℕ) (qs : List Param) (more : List Naming) → list_any (has_name full) qs ≡ true
      → is_some (named_in (flat_map by_full (enumerate_from k qs) ++ more) full) ≡ true
  named k [] more none = absurd (true≢false (sym none))
  named k (p ∷ qs) more has = by (has_name full p) has (named (k + 1) qs more)
    where
      rest : List Naming
      rest = flat_map by_full (enumerate_from (k + 1) qs) ++ more

      by : (b : Bool) → (b || list_any (has_name full) qs) ≡ true
          → (list_any (has_name full) qs ≡ true → is_some (named_in rest full) ≡ true)
          → is_some (option_map (λ n. n.1)
          (if b then Some (p.full, k) else find (λ n. same_name n.0 full) rest)) ≡ true
      by true has later = refl
      by false has later = later has

  names_it : is_starred_at ps (names thorns full) ≡ true
  unfolding names
  names_it = by (names thorns full) refl
    where
      by : (o : Option ℕ) → names thorns full ≡ o → is_starred_at ps o ≡ true
      by None e = absurd (true≢false (sym (named 0 ps _ there) ∙ ap is_some e))
      by (Some n) e =
          let at = full_named full 0 ps _ n there e in
          let number : n ≡ 0 + at.0 = at.2 in
          let place : n ≡ at.0 = omega (arith, number) in
          ap (λ m. is_starred (slice_get ps m)) place ∙ ap is_starred at.3
          ∙ starred_alike at.1.full full at.4 ∙ star

-- ---- so what is left out by full names is left out

module _ (thorns : List Thorn) where
  abbrev kept : Setting → Bool
  kept s = not (sets_starred thorns s)

  one_more : (s : Setting) (rest : List Setting) (more : List Setting) (b : Bool)
      → names_starred s ≡ b → (c : Bool) → sets_starred thorns s ≡ c
      → filter kept (map without_line more) ≡ map without_line rest
      → filter kept (map without_line (if not b then s ∷ more else more))
      ≡ map without_line (if not c then s ∷ rest else rest)
  one_more s rest more true e true f later = later
  one_more s rest more true e false f later =
      absurd (true≢false (sym (names_it (with_owner s.owner s.name) e thorns) ∙ f))
  one_more s rest more false e c f later = rw f (by c later)
    where
      by : (c : Bool) → filter kept (map without_line more) ≡ map without_line rest
          → (if not c then without_line s ∷ filter kept (map without_line more)
          else filter kept (map without_line more))
          ≡ map without_line (if not c then s ∷ rest else rest)
      by true later = later
      by false later = ap (λ ss. without_line s ∷ ss) later

  left_out : (settings : List Setting)
      → filter kept (unnamed_settings settings) ≡ other_settings thorns settings
  left_out [] = refl
  left_out (s ∷ rest) = one_more s (filter kept rest) (filter (λ s. not (names_starred s)) rest)
      (names_starred s) refl (sets_starred thorns s) refl (left_out rest)

  pub others_same : (one other : List Setting) → unnamed_settings one ≡ unnamed_settings other
      → other_settings thorns one ≡ other_settings thorns other
  others_same one other same = sym (left_out one) ∙ ap (filter kept) same ∙ left_out other

pub chained : (name_a name_b : List ℕ) (a b : Held) → AreChainedByNames name_a name_b a b
    → AreChained name_a name_b a b
chained name_a name_b a b by_names = record { files = by_names.files; settings = settings }
  where
    settings : (x y : Configured) → Configures name_a a (Ok x) → Configures name_b b (Ok y)
        → DifferInStarred x y
    settings x y first second =
        let one = then_ok (SaysSettings name_a a) (λ s. ListAnd s a) x first in
        let two = then_ok (SaysSettings name_b b) (λ s. ListAnd s b) y second in
        let is_one : x.settings ≡ one.0 = settings_of one.0 a x one.2 in
        let is_two : y.settings ≡ two.0 = settings_of two.0 b y two.2 in
        let alike = by_names.settings one.0 two.0 one.1 two.1 in
        record {
          active = ap (λ (s : Settings). s.active) is_one ∙ alike.active
              ∙ ap (λ (s : Settings). s.active) (sym is_two);
          others = others_same x.thorns x.settings.list y.settings.list
              (ap (λ (s : Settings). unnamed_settings s.list) is_one ∙ alike.others
              ∙ ap (λ (s : Settings). unnamed_settings s.list) (sym is_two));
        }
