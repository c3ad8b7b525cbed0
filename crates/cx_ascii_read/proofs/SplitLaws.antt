-- What the bytes spell is read and split, and what is split was spelled.
use Rattle.std.proofs.Common.{◌≡◌, ℕ, zero, suc, ◌-◌, ◌≤◌, ◌<◌, Bool, true, false, ◌+◌, eqb, List, [], ◌∷◌, ◌++◌, length, take, Option, Some, None, refl, sym, ap, subst, ◌∙◌, arith}
use Rattle.std.specs.Prelude.{bytes_eq, if◌then◌else◌}
use Rattle.std.specs.List.{flat_map, list_all, AllByRecursion}
use Rattle.std.proofs.lemmas.Bool.{and_parts, and_from, eqb-true}
use Rattle.std.proofs.lemmas.List.{append-nil, length-append, take_at}
use Rattle.std.proofs.lemmas.List.Concat.{flat_map-cons}
use Rattle.std.proofs.lemmas.Grind.{flat_map-append}
use Rattle.cx_ascii_read.specs.declared.record.Record.{Record}
use Rattle.cx_ascii_read.specs.declared.words.Stop.{Stop}
use Rattle.cx_ascii_read.specs.declared.words.Stop.TheVariants as stops
use Rattle.cx_ascii_read.specs.Records.{IsRecord, record_text, Spells}
use Rattle.cx_ascii_read.specs.Reading.{◌>>=◌, Stops, record_at}
use Rattle.cx_ascii_read.specs.Splitting.{records_at, all_records, is_named, text_named, texts_named, split_of, appended, next_of}
use Rattle.cx_ascii_read.proofs.WordLaws.{bind_some, goes_where, some_is}
use Rattle.cx_ascii_read.proofs.RecordLaws.{record_field, no_record}
use Rattle.cx_ascii_read.proofs.EntryLaws.{AreRead, no_text, goes_on, one_more, gets_shorter, fails}

-- a text is there
some_text : (r : Record) → IsRecord r → (b : ℕ) × (bs : List ℕ) × (record_text r ≡ b ∷ bs)
some_text r is = by (record_text r) refl
  where
    by : (t : List ℕ) → record_text r ≡ t → (b : ℕ) × (bs : List ℕ) × (record_text r ≡ b ∷ bs)
    by [] none =
        absurd (no_text record_text record_at IsRecord record_field no_record r [] is
        (ap (λ (s : List ℕ). s ++ []) none))
    by (b ∷ bs) some = (b, bs, some)

-- a step that reads a record
step : (count b : ℕ) (bytes : List ℕ) (r : Record) (after : List ℕ) (rs : List Record)
    → record_at (b ∷ bytes) ≡ Some (r, after) → records_at count after ≡ Some rs
    → records_at (suc count) (b ∷ bytes) ≡ Some (r ∷ rs)
unfolding records_at
step count b bytes r after rs first others =
    ap (λ (o : Option (Record × List ℕ)). o >>= λ f. records_at count f.1 >>= λ os. Some (f.0 ∷ os))
    first ∙ ap (λ (o : Option (List Record)). o >>= λ os. Some (r ∷ os)) others

nothing_at : (count : ℕ) → records_at count [] ≡ Some []
unfolding records_at
nothing_at zero = refl
nothing_at (suc count) = refl

pub read_by : (rs : List Record) (count : ℕ) → AllByRecursion IsRecord rs → length rs ≤ count
    → records_at count (flat_map record_text rs) ≡ Some rs
read_by [] count all le = nothing_at count
read_by (r ∷ rs) zero all le = absurd (omega arith)
read_by (r ∷ rs) (suc count) all le =
    let t = some_text r all.0 in
    let whole : flat_map record_text (r ∷ rs) ≡ t.0 ∷ (t.1 ++ flat_map record_text rs) =
    flat_map-cons record_text r rs ∙ ap (λ (s : List ℕ). s ++ flat_map record_text rs) t.2 in
    let first : record_at (t.0 ∷ (t.1 ++ flat_map record_text rs))
    ≡ Some (r, flat_map record_text rs) =
    ap record_at (sym whole ∙ flat_map-cons record_text r rs)
    ∙ record_field.again r (flat_map record_text rs) all.0 in
    ap (records_at (suc count)) whole
    ∙ step count t.0 (t.1 ++ flat_map record_text rs) r (flat_map record_text rs) rs first
    (read_by rs count all.1 (omega arith))

-- there are no more records than bytes
few_records : (rs : List Record) → AllByRecursion IsRecord rs
    → length rs ≤ length (flat_map record_text rs)
few_records [] all = omega arith
few_records (r ∷ rs) all =
    let t = some_text r all.0 in
    let rest = few_records rs all.1 in
    let size : length (flat_map record_text (r ∷ rs))
    ≡ length (record_text r) + length (flat_map record_text rs) =
    ap length (flat_map-cons record_text r rs)
    ∙ length-append (record_text r) (flat_map record_text rs) in
    let long : length (record_text r) ≡ suc (length t.1) = ap length t.2 in
    omega arith

pub spelled_read : (bytes : List ℕ) (rs : List Record) → Spells bytes rs
    → all_records bytes ≡ Some rs
spelled_read bytes rs spells =
    ap all_records spells.spelled
    ∙ read_by rs (length (flat_map record_text rs)) spells.in_range
    (few_records rs spells.in_range)

-- ---- and split

pub spelled_split : (bytes : List ℕ) (names : List (List ℕ)) (rs : List Record) → Spells bytes rs
    → list_all (is_named names) rs ≡ true → split_of bytes names ≡ Some (texts_named names rs)
unfolding split_of
spelled_split bytes names rs spells all =
    ap (λ (o : Option (List Record)). o
    >>= λ records. if list_all (is_named names) records then Some (texts_named names records)
    else None) (spelled_read bytes rs spells)
    ∙ ap (λ (b : Bool). if b then Some (texts_named names rs) else None) all

-- ---- what is split was spelled

records_spelled : (count : ℕ) (bytes : List ℕ) (rs : List Record) → records_at count bytes ≡ Some rs
    → Spells bytes rs
unfolding records_at
records_spelled zero [] rs h =
    subst (Spells []) (some_is [] rs h) (record { in_range = tt; spelled = refl })
records_spelled (suc count) [] rs h =
    subst (Spells []) (some_is [] rs h) (record { in_range = tt; spelled = refl })
records_spelled zero (b ∷ bytes) rs h = absurd cc
records_spelled (suc count) (b ∷ bytes) rs h =
    let a = bind_some (record_at (b ∷ bytes)) _ rs h in
    let d = bind_some (records_at count a.0.1) _ rs a.2 in
    let t = record_field.takes (b ∷ bytes) a.0 a.1 in
    let others = records_spelled count a.0.1 d.0 d.1 in
    subst (Spells (b ∷ bytes)) (some_is (a.0.0 ∷ d.0) rs d.2) (record {
      in_range = (t.1, others.in_range);
      spelled = t.0 ∙ ap (λ (s : List ℕ). record_text a.0.0 ++ s) others.spelled
          ∙ sym (flat_map-cons record_text a.0.0 d.0);
    })

pub split_spelled : (bytes : List ℕ) (names texts : List (List ℕ))
    → split_of bytes names ≡ Some texts
    → (rs : List Record) × Spells bytes rs × (list_all (is_named names) rs ≡ true)
    × (texts ≡ texts_named names rs)
unfolding split_of
split_spelled bytes names texts h =
    let a = bind_some (all_records bytes) _ texts h in
    let g = goes_where (list_all (is_named names) a.0) (texts_named names a.0) texts a.2 in
    (a.0, records_spelled (length bytes) bytes a.0 a.1, g.0, sym g.1)

none_split : (bytes : List ℕ) (names : List (List ℕ))
    → ((rs : List Record) → Spells bytes rs → list_all (is_named names) rs ≡ true → ⊥)
    → split_of bytes names ≡ None
none_split bytes names none = by (split_of bytes names) refl
  where
    by : (o : Option (List (List ℕ))) → split_of bytes names ≡ o → o ≡ None
    by None is = refl
    by (Some texts) is = absurd (let s = split_spelled bytes names texts is in none s.0 s.1 s.2)

-- ---- one record after another

pub front_is : (bytes : List ℕ) (r : Record) (rest : List ℕ) → record_at bytes ≡ Some (r, rest)
    → take (length bytes - length rest) bytes ≡ record_text r
front_is bytes r rest h =
    let t = record_field.takes bytes (r, rest) h in
    let size : length bytes ≡ length (record_text r) + length rest =
    ap length t.0 ∙ length-append (record_text r) rest in
    ap (λ (s : List ℕ). take (length bytes - length rest) s) t.0
    ∙ take_at (record_text r) rest (length bytes - length rest) (omega (arith, size))

-- some records are read and split, and the rest isn't
pub record AreSplit (bytes : List ℕ) (names texts : List (List ℕ)) (rest : List ℕ) : Type 0 where
  pub records : List Record
  pub read : AreRead record_text IsRecord bytes records rest
  pub named : list_all (is_named names) records ≡ true
  pub texts_are : texts ≡ texts_named names records

pub none_yet : (bytes : List ℕ) (names texts : List (List ℕ)) → texts ≡ texts_named names []
    → AreSplit bytes names texts bytes
none_yet bytes names texts are =
    record {
      records = [];
      read = record { spelled = refl; fits = tt };
      named = refl;
      texts_are = are;
    }

one_appended : (its : Bool) (text more : List ℕ)
    → (if its then text ++ more else text) ≡ text ++ (if its then more else [])
one_appended true text more = refl
one_appended false text more = sym (append-nil text)

name_appended : (name : List ℕ) (rs : List Record) (r : Record)
    → (if bytes_eq r.full name then flat_map (text_named name) rs ++ record_text r
    else flat_map (text_named name) rs) ≡ flat_map (text_named name) (rs ++ r ∷ [])
name_appended name rs r =
    one_appended (bytes_eq r.full name) (flat_map (text_named name) rs) (record_text r)
    ∙ ap (λ (t : List ℕ). flat_map (text_named name) rs ++ t)
    (sym (flat_map-cons (text_named name) r [] ∙ append-nil (text_named name r)))
    ∙ sym (flat_map-append (text_named name) rs (r ∷ []))

texts_appended : (names : List (List ℕ)) (rs : List Record) (r : Record)
    → appended r.full (record_text r) names (texts_named names rs)
    ≡ texts_named names (rs ++ r ∷ [])
texts_appended [] rs r = refl
texts_appended (name ∷ names) rs r =
    ap (λ (t : List ℕ). t ∷ appended r.full (record_text r) names (texts_named names rs))
    (name_appended name rs r)
    ∙ ap (λ (ts : List (List ℕ)). flat_map (text_named name) (rs ++ r ∷ []) ∷ ts)
    (texts_appended names rs r)

all_more : (f : Record → Bool) (rs : List Record) (r : Record) → list_all f rs ≡ true → f r ≡ true
    → list_all f (rs ++ r ∷ []) ≡ true
all_more f [] r all last = and_from (f r) true last refl
all_more f (s ∷ rs) r all last =
    let p = and_parts (f s) (list_all f rs) all in
    and_from (f s) (list_all f (rs ++ r ∷ [])) p.0 (all_more f rs r p.1 last)

-- the last one of some, where all of more than these are so
last_of : (f : Record → Bool) (rs : List Record) (r : Record) (more : List Record)
    → list_all f ((rs ++ r ∷ []) ++ more) ≡ true → f r ≡ true
last_of f [] r more all = (and_parts (f r) (list_all f more) all).0
last_of f (s ∷ rs) r more all =
    last_of f rs r more (and_parts (f s) (list_all f ((rs ++ r ∷ []) ++ more)) all).1

one_read : (bytes : List ℕ) (front : List Record) (rest : List ℕ) (r : Record) (after : List ℕ)
    → AreRead record_text IsRecord bytes front rest → record_at rest ≡ Some (r, after)
    → AreRead record_text IsRecord bytes (front ++ r ∷ []) after
one_read = one_more record_text record_at IsRecord record_field no_record

pub one_split : (bytes : List ℕ) (names texts : List (List ℕ)) (rest : List ℕ)
    (grown : List (List ℕ)) (after : List ℕ) → AreSplit bytes names texts rest
    → next_of names texts rest ≡ Some (grown, after)
    → AreSplit bytes names grown after
unfolding next_of
one_split bytes names texts rest grown after so_far h =
    let a = bind_some (record_at rest) _ (grown, after) h in
    let g = goes_where (is_named names a.0.0)
    (appended a.0.0.full (record_text a.0.0) names texts, a.0.1) (grown, after) a.2 in
    subst (λ (x : List (List ℕ) × List ℕ). AreSplit bytes names x.0 x.1) g.1 (record {
      records = so_far.records ++ a.0.0 ∷ [];
      read = one_read bytes so_far.records rest a.0.0 a.0.1 so_far.read a.1;
      named = all_more (is_named names) so_far.records a.0.0 so_far.named g.0;
      texts_are = ap (appended a.0.0.full (record_text a.0.0) names) so_far.texts_are
          ∙ texts_appended names so_far.records a.0.0;
    })

pub less_left : (names texts : List (List ℕ)) (rest : List ℕ) (grown : List (List ℕ))
    (after : List ℕ) → next_of names texts rest ≡ Some (grown, after) → length after < length rest
unfolding next_of
less_left names texts rest grown after h =
    let a = bind_some (record_at rest) _ (grown, after) h in
    let g = goes_where (is_named names a.0.0)
    (appended a.0.0.full (record_text a.0.0) names texts, a.0.1) (grown, after) a.2 in
    let same : a.0.1 ≡ after = ap (λ (x : List (List ℕ) × List ℕ). x.1) g.1 in
    subst (λ (s : List ℕ). length s < length rest) same
    (gets_shorter record_text record_at IsRecord record_field no_record rest a.0.0 a.0.1 a.1)

-- a record of another name
strange : (bytes : List ℕ) (names : List (List ℕ)) (front : List Record) (rest : List ℕ)
    (r : Record) (after : List ℕ) → AreRead record_text IsRecord bytes front rest
    → record_at rest ≡ Some (r, after) → is_named names r ≡ false
    → (rs : List Record) → Spells bytes rs → list_all (is_named names) rs ≡ true → ⊥
strange bytes names front rest r after so_far read other rs spells all =
    let more = one_read bytes front rest r after so_far read in
    let m = goes_on record_text record_at IsRecord record_field no_record (front ++ r ∷ [])
    rs after more.fits spells.in_range (sym more.spelled ∙ spells.spelled) in
    let bad : true ≡ false =
    sym (last_of (is_named names) front r m.0 (ap (list_all (is_named names)) (sym m.1) ∙ all))
    ∙ other in
    absurd cc

other_name : (b : Bool) (x : List (List ℕ) × List ℕ) → (if b then Some x else None) ≡ None
    → b ≡ false
other_name true x h = absurd cc
other_name false x h = refl

abbrev after_first : List (List ℕ) → List (List ℕ) → Record × List ℕ
    → Option (List (List ℕ) × List ℕ)
after_first names texts first =
    if is_named names first.0
    then Some (appended first.0.full (record_text first.0) names texts, first.1) else None

pub split_stops : (bytes : List ℕ) (names texts : List (List ℕ)) (rest : List ℕ) (e : Stop)
    → AreSplit bytes names texts rest → (rest ≡ [] → ⊥) → Stops e (next_of names texts rest)
    → Stops e (split_of bytes names)
unfolding next_of
split_stops bytes names texts rest stops.Memory so_far some h = tt
split_stops bytes names texts rest stops.Other so_far some h =
    none_split bytes names (by (record_at rest) refl h)
  where
    by : (o : Option (Record × List ℕ)) → record_at rest ≡ o
        → (o >>= after_first names texts) ≡ None
        → (rs : List Record) → Spells bytes rs → list_all (is_named names) rs ≡ true → ⊥
    by None is stop rs spells all =
        fails record_text record_at IsRecord record_field no_record bytes so_far.records rest
        stops.Other so_far.read some is rs spells
    by (Some x) is stop rs spells all =
        strange bytes names so_far.records rest x.0 x.1 so_far.read is
        (other_name (is_named names x.0) (appended x.0.full (record_text x.0) names texts, x.1)
        stop) rs spells all

pub all_split : (bytes : List ℕ) (names texts : List (List ℕ)) (rest : List ℕ)
    → AreSplit bytes names texts rest → rest ≡ [] → split_of bytes names ≡ Some texts
all_split bytes names texts rest so_far none =
    let spells : Spells bytes so_far.records = record {
      in_range = so_far.read.fits;
      spelled = so_far.read.spelled
          ∙ ap (λ (s : List ℕ). flat_map record_text so_far.records ++ s) none
          ∙ append-nil (flat_map record_text so_far.records);
    } in
    spelled_split bytes names so_far.records spells so_far.named
    ∙ ap (λ (ts : List (List ℕ)). Some ts) (sym so_far.texts_are)

pub none_left : (rest : List ℕ) (empty : Bool) → empty ≡ eqb (length rest) 0 → empty ≡ true
    → rest ≡ []
none_left [] empty is none = refl
none_left (b ∷ rest) empty is none =
    absurd (omega (arith, eqb-true (length (b ∷ rest)) 0 (sym is ∙ none)))
