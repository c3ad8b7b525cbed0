-- What the theorem of networks asks of one operation of one part, of a whole job's run in parts.
use Rattle.std.proofs.Common.{◌≡◌, ℕ, suc, ◌<◌, ◌≤◌, ℤ, pos, ◌≤ℤ◌, true, List, [], ◌∷◌, length, Option, None, Some, arith, refl, sym, ap, ◌∙◌}
use Rattle.std.specs.Prelude.{is_some}
use Rattle.std.proofs.lemmas.Int.{ints}
use Rattle.cx_model.specs.Runs.{Lengths}
use Rattle.cx_cut.specs.Axis.{IsAxisCut}
use Rattle.cx_cut.specs.Cuts.{parts_along, part_count}
use Rattle.cx_cut.proofs.Boxed.{by_direction, part_below}
use Rattle.cx_flat.specs.Flats.{Control}
use Rattle.cx_flat.specs.Ways.{WayEnds}
use Rattle.law_network.specs.Machine.{IsWork}
use Rattle.law_network.specs.Agreement.{Fits}
use Rattle.law_parts.specs.Moves.{buffer_of}
use Rattle.law_parts.specs.Nets.{Nearness, net, within_lead, in_lockstep}
use Rattle.law_parts.specs.Runs.{Run, Oracle, cut_of, parts_in, next_op, undivided, op_of, guided}
use Rattle.law_parts.specs.Truths.{truth, script, lengths_before, Agrees, GivesAt, Books}
use Rattle.law_parts.proofs.BookLaws.{kept_by}
use Rattle.law_parts.proofs.HandLaws.{hands_on}
use Rattle.law_parts.proofs.MoveLaws.{IsTrueOracle, same, exchanges, moves_on}
use Rattle.law_parts.proofs.MutualLaws.{partners_mutual}
use Rattle.law_parts.proofs.NetWays.{fits_among, fits_first, fits_pairs, fits_piece, fits_no_piece, fits_lead}
use Rattle.law_parts.proofs.Places.{guided_op}
use Rattle.law_parts.proofs.PostLaws.{posts_are}
use Rattle.law_parts.proofs.SilentLaws.{op_silent}
use Rattle.law_parts.proofs.StartLaws.{starts_on}
use Rattle.law_parts.proofs.Ways.{scalars_at, within_most, goes_on, halted}
use Rattle.law_parts.proofs.WholeRun.{IsRun, shape, law, names_at}

-- ---- there is a part

some_width : (n g : ℤ) (ws : List ℕ) → IsAxisCut n g ws → pos 1 ≤ℤ n → 0 < length ws
some_width n g [] w l = let e = w.total in absurd (omega (arith, ints, e, l))
some_width n g (x ∷ ws) w l = omega arith

pub some_part : (r : Run) → IsRun r → 0 < parts_in r
some_part r run =
    let s = shape r run in
    let c = cut_of r in
    let below = part_below c (λ d. 0) (by_direction (λ d. 0 < parts_along c d)
    (some_width c.shape.n.x c.shape.ghost_.x c.x run.cut.x s.x.some)
    (some_width c.shape.n.y c.shape.ghost_.y c.y run.cut.y s.y.some)
    (some_width c.shape.n.z c.shape.ghost_.z c.z run.cut.z s.z.some)) in
    positive (part_count c) below
  where
    positive : (n : ℕ) {m : ℕ} → m < n → 0 < n
    positive n l = omega (arith, l)

-- ---- all fields

-- what the parts give at the first place of all is what they hold there
abbrev pub BeginsTrue : Run → Oracle → Type 0
BeginsTrue r oracle = (k : ℕ) → k < parts_in r → oracle k 0 ≡ truth r k 0

-- the hindmost part is never too far ahead
abbrev pub Nears : Type 0 → Nearness → Run → Oracle → Type 0
Nears tells Near r oracle = (place : ℕ → ℕ) (look : ℕ → Control) (wrote k : ℕ) → k < parts_in r
    → ((j : ℕ) → j < parts_in r → look j ≡ (guided r oracle (place j)).control)
    → ((j : ℕ) → j < parts_in r → place k ≤ place j)
    → ((m : ℕ) → wrote ≤ m → m < place k → IsWork (net tells Near r oracle) m → ⊥)
    → Near r oracle place look wrote k

module _ (tells : Type 0) (r : Run) (run : IsRun r) (oracle : Oracle)
    (is_true : IsTrueOracle tells r oracle) (begins : BeginsTrue r oracle) where
  abbrev ways : WayEnds r.setup r.first.control r.most (scalars_at r oracle)
  ways = run.ways (scalars_at r oracle)

  pub all_fits : (Near : Nearness) → Nears tells Near r oracle
      → Fits (net tells Near r oracle) (script tells r oracle) (Agrees tells r oracle)
      (GivesAt r oracle) (Books tells r)
  all_fits Near nears = record {
    some_part = some_part r run;
    among = fits_among tells Near r oracle ways;
    within_most = within_most r oracle ways;
    goes_on = goes_on r oracle ways;
    halted = halted r oracle ways;
    nears = nears;
    first = fits_first tells Near r oracle ways;
    pairs = fits_pairs tells Near r oracle ways (partners_mutual r (law r run)) (shape r run).most
        (λ n. names_at r run (guided r oracle n).control.pc);
    starts = λ k l. starts_on tells Near r run oracle k l (begins k l);
    looks = λ k n x l a. a.stands.control;
    posts = λ c n x part l a.
        posts_are tells Near r oracle (law r run) (exchanges tells r run oracle is_true)
        n l c x part a;
    hands = λ k n x part a. hands_on tells r run oracle is_true k n x part a.stands Near;
    moves = λ k n x mails part l a mailed y h gives.
        record {
          stands = moves_on tells r run oracle is_true Near k n x mails part l a.stands
              mailed y h;
          gives = gives;
        };
    piece = fits_piece tells Near r oracle ways;
    no_piece = fits_no_piece tells Near r oracle ways;
    books_start = λ t. refl;
    books_stay = stay Near;
    books = λ n b c pieces work l old given w t.
        kept_by tells r run oracle is_true (some_part r run) n t pieces given (guided_op r oracle n)
        refl work.0 b c work.1 (old t) w;
  }
    where
      stay : (Near : Nearness) (n : ℕ) (b : Lengths)
          → (net tells Near r oracle).buffer ((net tells Near r oracle).way n) ≡ None
          → Books tells r n b → Books tells r (suc n) b
      stay Near n b e old t =
          let q : buffer_of r (op_of r n) ≡ None =
          ap (λ g. buffer_of r (next_op r g.control))
          (sym (same tells r run oracle is_true t n)) ∙ e in
          old t
          ∙ sym (op_silent r (op_of r n) (undivided r n).control (undivided r n).state q
          (lengths_before r n))

  -- by the lead, and in lockstep
  pub lead_fits : Fits (net tells within_lead r oracle) (script tells r oracle)
      (Agrees tells r oracle) (GivesAt r oracle) (Books tells r)
  lead_fits = all_fits within_lead
      (λ place look wrote k l looks hind none.
      fits_lead tells within_lead r oracle ways place look wrote k l looks hind)

  pub lockstep_fits : Fits (net tells in_lockstep r oracle) (script tells r oracle)
      (Agrees tells r oracle) (GivesAt r oracle) (Books tells r)
  lockstep_fits = all_fits in_lockstep
      (λ place look wrote k l looks hind none. (hind, (λ m a b w. none m a b (some_work m w))))
    where
      some_work : (m : ℕ) → is_some (buffer_of r (guided_op r oracle m)) ≡ true
          → IsWork (net tells in_lockstep r oracle) m
      some_work m = go (buffer_of r (guided_op r oracle m)) refl
        where
          go : (o : Option ℕ) → buffer_of r (guided_op r oracle m) ≡ o → is_some o ≡ true
              → IsWork (net tells in_lockstep r oracle) m
          go None e q = absurd cc
          go (Some b) e q = (b, e)
