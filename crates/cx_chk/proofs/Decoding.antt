-- The two laws: what is read is spelled so, and what is spelled so is read.
use Rattle.std.proofs.Common.{◌≡◌, ◌⊎◌, ℕ, suc, ◌^◌, Bool, true, false, cond, eqb, List, [], ◌∷◌, ◌++◌, length, drop, Option, Some, None, refl, sym, ap, subst, ◌∙◌, append_assoc}
use Rattle.std.specs.Prelude.{nat_eq}
use Rattle.std.specs.List.{starts_with}
use Rattle.std.specs.Int.{w32, w64}
use Rattle.std.specs.Int.RustNames.{FitsSigned}
use Rattle.std.proofs.lemmas.Bool.{eqb-true}
use Rattle.std.proofs.lemmas.Bool.Decides.{Decides-eqb}
use Rattle.std.proofs.lemmas.Slice.Eq.{starts_is}
use Rattle.std.proofs.lemmas.List.{append-nil, nil_from_length}
use Rattle.cx_chk.specs.declared.checkpoint.Checkpoint.{Checkpoint}
use Rattle.cx_chk.specs.Encoding.{word, value, level, counted, string, outputs, slot_bytes, IsCheckpoint, SpellsSlot, Decodes, AreCounted, IsLevel}
use Rattle.cx_chk.specs.Reading.{◌>>=◌, number_at, value_at, string_at, counted_at, level_at, outputs_at, version_at, head, behind_head, fields_at, decoded}
use Rattle.cx_chk.proofs.Fields.{IsBytes, IsBytes-drop, bind_some, some_is, Takes, Takes-then, IsField, word_field, value_field, string_field, counted_field, level_field, wide32}
use Rattle.cx_chk.proofs.Outputs.{outputs_take, outputs_again, version_takes, version_again, version_known}

-- what stands behind the version
abbrev pub fields : Checkpoint → List ℕ
fields c = word c.iteration
    ++ (string c.key ++ (outputs c.version c.names c.lengths
    ++ (counted w32 value c.scalars ++ counted w32 level c.levels)))

scalars_field : IsField (counted w32 value) (counted_at w32 value_at)
    (AreCounted (2 ^ 32) (FitsSigned w64))
scalars_field = counted_field value value_at (FitsSigned w64) value_field w32 (2 ^ 32) wide32

levels_field : IsField (counted w32 level) (counted_at w32 level_at) (AreCounted (2 ^ 32) IsLevel)
levels_field = counted_field level level_at IsLevel level_field w32 (2 ^ 32) wide32

fields_take : (version : ℕ) → (version ≡ 1) ⊎ (version ≡ 2)
    → (bytes : List ℕ) (x : Checkpoint × List ℕ) → IsBytes bytes → fields_at version bytes ≡ Some x
    → Takes bytes (fields x.0) x.1 × IsCheckpoint x.0 × (x.0.version ≡ version)
unfolding fields_at
fields_take version known bytes x fits e =
    let a = bind_some (number_at w64 bytes) _ x e in
    let b = bind_some (string_at a.0.1) _ x a.2 in
    let d = bind_some (outputs_at version b.0.1) _ x b.2 in
    let f = bind_some (counted_at w32 value_at d.0.1) _ x d.2 in
    let h = bind_some (counted_at w32 level_at f.0.1) _ x f.2 in
    let t0 = word_field.takes bytes a.0 fits a.1 in
    let t1 = string_field.takes a.0.1 b.0 t0.0.rest_fits b.1 in
    let t2 = outputs_take version known b.0.1 d.0 t1.0.rest_fits d.1 in
    let t3 = scalars_field.takes d.0.1 f.0 t2.0.rest_fits f.1 in
    let t4 = levels_field.takes f.0.1 h.0 t3.0.rest_fits h.1 in
    let files = outputs version d.0.0.0 d.0.0.1 in
    let e34 = Takes-then d.0.1 (counted w32 value f.0.0) f.0.1 (counted w32 level h.0.0)
    h.0.1 t3.0 t4.0 in
    let e24 = Takes-then b.0.1 files d.0.1 (counted w32 value f.0.0 ++ counted w32 level h.0.0)
    h.0.1 t2.0 e34 in
    let e14 = Takes-then a.0.1 (string b.0.0) b.0.1
    (files ++ (counted w32 value f.0.0 ++ counted w32 level h.0.0)) h.0.1 t1.0 e24 in
    let e04 = Takes-then bytes (word a.0.0) a.0.1
    (string b.0.0 ++ (files ++ (counted w32 value f.0.0 ++ counted w32 level h.0.0)))
    h.0.1 t0.0 e14 in
    let made : Checkpoint × List ℕ = (
      record {
        version = version;
        iteration = a.0.0;
        key = b.0.0;
        names = d.0.0.0;
        lengths = d.0.0.1;
        scalars = f.0.0;
        levels = h.0.0;
      },
      h.0.1,
    ) in
    subst (λ (y : Checkpoint × List ℕ). Takes bytes (fields y.0) y.1 × IsCheckpoint y.0
    × (y.0.version ≡ version)) (some_is made x h.2) (
      e04,
      record {
        version = t2.1.0;
        iteration = t0.1;
        key = t1.1;
        lengths = t2.1.1;
        scalars = t3.1;
        levels = t4.1;
      },
      refl,
    )

regroup : (a b c d e rest : List ℕ)
    → (a ++ (b ++ (c ++ (d ++ e)))) ++ rest ≡ a ++ (b ++ (c ++ (d ++ (e ++ rest))))
regroup a b c d e rest = simp append_assoc

fields_again : (c : Checkpoint) (rest : List ℕ) → IsCheckpoint c
    → fields_at c.version (fields c ++ rest) ≡ Some (c, rest)
unfolding fields_at
fields_again c rest fits =
    let files = outputs c.version c.names c.lengths in
    let again = regroup (word c.iteration) (string c.key) files (counted w32 value c.scalars)
    (counted w32 level c.levels) rest in
    ap (fields_at c.version) again ∙ rw (
      word_field.again c.iteration
          (string c.key ++ (files
          ++ (counted w32 value c.scalars ++ (counted w32 level c.levels ++ rest)))) fits.iteration,
      string_field.again c.key
          (files ++ (counted w32 value c.scalars ++ (counted w32 level c.levels ++ rest))) fits.key,
      outputs_again c.version c.names c.lengths
          (counted w32 value c.scalars ++ (counted w32 level c.levels ++ rest))
          fits.version fits.lengths,
      scalars_field.again c.scalars (counted w32 level c.levels ++ rest) fits.scalars,
      levels_field.again c.levels rest fits.levels,
    ) refl

-- ---- the head

guard_started : {A : Type 0} (b : Bool) (x y : A) → cond b (Some x) None ≡ Some y
    → (b ≡ true) × (x ≡ y)
guard_started true x y e = (refl, cc)
guard_started false x y e = absurd cc

head_takes : (bytes rest : List ℕ) → behind_head bytes ≡ Some rest
    → (bytes ≡ head ++ rest) × (rest ≡ drop 8 bytes)
head_takes bytes rest e =
    let g = guard_started (starts_with nat_eq bytes head) (drop 8 bytes) rest e in
    let law = starts_is Decides-eqb bytes head (starts_with nat_eq bytes head) refl in
    (law.0 g.0 ∙ ap (λ (r : List ℕ). head ++ r) g.1, sym g.1)

head_again : (rest : List ℕ) → behind_head (head ++ rest) ≡ Some rest
head_again rest = refl

-- ---- the whole

pub decoded_spells : (bytes : List ℕ) (c : Checkpoint) → IsBytes bytes → decoded bytes ≡ Some c
    → SpellsSlot bytes c
unfolding decoded
decoded_spells bytes c fits e =
    let a = bind_some (behind_head bytes) _ c e in
    let v = bind_some (version_at a.0) _ c a.2 in
    let b = bind_some (fields_at v.0.0 v.0.1) _ c v.2 in
    let g = guard_started (eqb (length b.0.1) 0) b.0.0 c b.2 in
    let h = head_takes bytes a.0 a.1 in
    let w = version_takes a.0 v.0 v.1 in
    let rest_fits : IsBytes a.0 = subst IsBytes (sym h.1) (IsBytes-drop 8 bytes fits) in
    let tail_fits : IsBytes v.0.1 = λ i. subst IsBytes w.0 rest_fits (suc i) in
    let t = fields_take v.0.0 w.1 v.0.1 b.0 tail_fits b.1 in
    let nothing : b.0.1 ≡ [] = nil_from_length b.0.1 (eqb-true _ _ g.0) in
    let tail : v.0.1 ≡ fields b.0.0 =
    t.0.parts ∙ ap (λ (r : List ℕ). fields b.0.0 ++ r) nothing ∙ append-nil (fields b.0.0) in
    let behind : a.0 ≡ b.0.0.version ∷ fields b.0.0 =
    w.0 ∙ ap (λ (r : List ℕ). v.0.0 ∷ r) tail ∙ ap (λ (n : ℕ). n ∷ fields b.0.0) (sym t.2) in
    let whole : bytes ≡ head ++ (b.0.0.version ∷ fields b.0.0) =
    h.0 ∙ ap (λ (r : List ℕ). head ++ r) behind in
    subst (λ (x : Checkpoint). SpellsSlot bytes x) g.1 (record { in_range = t.1; spelled = whole })

-- what is read behind the head, and behind the version
abbrev behind_fields : Option (Checkpoint × List ℕ) → Option Checkpoint
behind_fields o = o >>= λ f. cond (eqb (length f.1) 0) (Some f.0) None

abbrev behind_version : Option (ℕ × List ℕ) → Option Checkpoint
behind_version o = o >>= λ v. behind_fields (fields_at v.0 v.1)

pub decoded_again : (bytes : List ℕ) (c : Checkpoint) → SpellsSlot bytes c → decoded bytes ≡ Some c
unfolding decoded
decoded_again bytes c spells =
    let rest : fields_at c.version (fields c) ≡ Some (c, []) =
    ap (fields_at c.version) (sym (append-nil (fields c)))
    ∙ fields_again c [] spells.in_range in
    let front : behind_head (slot_bytes c) ≡ Some (c.version ∷ fields c) =
    head_again (c.version ∷ fields c) in
    let known : version_at (c.version ∷ fields c) ≡ Some (c.version, fields c) =
    version_again c.version (fields c)
    (version_known c.version c.names c.lengths spells.in_range.version) in
    ap decoded spells.spelled
    ∙ ap (λ (o : Option (List ℕ)). o >>= λ r. behind_version (version_at r)) front
    ∙ ap behind_version known
    ∙ ap behind_fields rest

-- a slot's bytes spell one checkpoint at most
pub spells_one : (bytes : List ℕ) (c d : Checkpoint) → SpellsSlot bytes c → SpellsSlot bytes d
    → c ≡ d
spells_one bytes c d one two =
    some_is c d (sym (decoded_again bytes c one) ∙ decoded_again bytes d two)

pub decodes_some : (bytes : List ℕ) (c : Checkpoint) → IsBytes bytes → decoded bytes ≡ Some c
    → Decodes bytes (Some c)
decodes_some bytes c fits e = decoded_spells bytes c fits e

pub decodes_none : (bytes : List ℕ) → decoded bytes ≡ None → Decodes bytes None
decodes_none bytes e = λ c spells.
    absurd (let bad : None ≡ Some c = sym e ∙ decoded_again bytes c spells in cc)
