-- What is met by some flags is met by more.
use Rattle.std.proofs.Common.{◌≡◌, ℕ, zero, suc, Bool, true, false, not, ◌&&◌, ◌||◌, ◌==◌, nat_lt, refl, List, [], ◌∷◌, if◌then◌else◌}
use Rattle.std.proofs.lemmas.Bool.{false≢true}
use Rattle.std.proofs.lemmas.List.Elements.{All-nil, All-cons, All-head, All-tail}
use Rattle.cx_plan.specs.declared.variable.VarId.{VarId}
use Rattle.cx_plan.specs.declared.item.Region.{Region}
use Rattle.cx_plan.specs.declared.item.Region.TheVariants.{Interior, Boundary, Everywhere}
use Rattle.cx_plan.specs.declared.item.Touch.{Touch}
use Rattle.cx_plan.specs.declared.flag.Flag.{Flag}
use Rattle.cx_plan.specs.declared.flag.Flag.TheVariants.{I, B, G, S}
use Rattle.cx_plan.specs.Setups.{Setup}
use Rattle.cx_plan.specs.Lookups.{item, is_scalar, levels_of}
use Rattle.cx_plan.specs.Regions.{Flags, Need, Act, Turns, Syncs, Tests, Rotates, Outputs, is_among, is_G, is_B, has_boundary, after_write, after_scalar, written, all_written, newer_level, needs, leaves, is_met, same_variable}
use Rattle.cx_plan.specs.Paths.{Mark, Letter, Meets}
use Rattle.cx_model.specs.Agreement.{Met}
use Rattle.cx_model.proofs.Guides.{PathMet}

-- each flag of the first is set in the second
abbrev pub IsWithin : Flags → Flags → Type 0
IsWithin f g = (v : VarId) (level : ℕ) (x : Flag) → f v level x ≡ true → g v level x ≡ true

met-more : (setup : Setup) (f g : Flags) (ns : List Need) → IsWithin f g → Met setup f ns
    → Met setup g ns
met-more setup f g [] less met = All-nil (λ need. is_met setup g need ≡ true)
met-more setup f g (n ∷ ns) less met =
    All-cons (λ need. is_met setup g need ≡ true) n ns
    (by (f n.var n.level n.flag) (g n.var n.level n.flag) (less n.var n.level n.flag)
    (All-head (λ need. is_met setup f need ≡ true) n ns met))
    (met-more setup f g ns less (All-tail (λ need. is_met setup f need ≡ true) n ns met))
  where
    by : (a b : Bool) → (a ≡ true → b ≡ true)
        → (a || (is_B n.flag && not (has_boundary setup.shape))) ≡ true
        → (b || (is_B n.flag && not (has_boundary setup.shape))) ≡ true
    by a true less e = refl
    by true false less e = absurd (false≢true (less refl))
    by false false less e = e

write-more : (region : Region) (x : Flag) (a b : Bool) → (a ≡ true → b ≡ true)
    → after_write region x a ≡ true → after_write region x b ≡ true
write-more Interior I a b less e = refl
write-more Interior B a b less e = absurd (false≢true e)
write-more Interior G a b less e = absurd (false≢true e)
write-more Interior S a b less e = less e
write-more Everywhere I a b less e = refl
write-more Everywhere B a b less e = refl
write-more Everywhere G a b less e = refl
write-more Everywhere S a b less e = less e
write-more Boundary I a b less e = less e
write-more Boundary B a b less e = refl
write-more Boundary G a b less e = less e
write-more Boundary S a b less e = less e

scalar-more : (x : Flag) (a b : Bool) → (a ≡ true → b ≡ true) → after_scalar x a ≡ true
    → after_scalar x b ≡ true
scalar-more S a b less e = refl
scalar-more I a b less e = less e
scalar-more B a b less e = less e
scalar-more G a b less e = less e

written-more : (setup : Setup) (f g : Flags) (w : Touch) → IsWithin f g
    → IsWithin (written setup f w) (written setup g w)
written-more setup f g w less v level x e =
    by (same_variable v w.var && level == w.level) (is_scalar setup v) e
  where
    by : (here scalar : Bool)
        → (if here then (if scalar then after_scalar x (f v level x)
        else after_write w.region x (f v level x)) else f v level x) ≡ true
        → (if here then (if scalar then after_scalar x (g v level x)
        else after_write w.region x (g v level x)) else g v level x) ≡ true
    by true true e = scalar-more x (f v level x) (g v level x) (less v level x) e
    by true false e = write-more w.region x (f v level x) (g v level x) (less v level x) e
    by false scalar e = less v level x e

all-written-more : (setup : Setup) (ws : List Touch) (f g : Flags) → IsWithin f g
    → IsWithin (all_written setup ws f) (all_written setup ws g)
all-written-more setup [] f g less = less
all-written-more setup (w ∷ ws) f g less =
    all-written-more setup ws (written setup f w) (written setup g w)
    (written-more setup f g w less)

or-more : (c a b : Bool) → (a ≡ true → b ≡ true) → (c || a) ≡ true → (c || b) ≡ true
or-more true a b less e = refl
or-more false a b less e = less e

newer-more : (f g : Flags) (v : VarId) (level : ℕ) (x : Flag) → IsWithin f g
    → newer_level f v level x ≡ true → newer_level g v level x ≡ true
newer-more f g v zero x less e = absurd (false≢true e)
newer-more f g v (suc level) x less e = less v level x e

leaves-more : (setup : Setup) (act : Act) (f g : Flags) → IsWithin f g
    → IsWithin (leaves setup act f) (leaves setup act g)
leaves-more setup (Turns k) f g less = all-written-more setup (item setup k).writes f g less
leaves-more setup (Syncs vars path) f g less =
    λ v level x e. or-more (is_among v vars && level == 0 && is_G x) (f v level x) (g v level x)
    (less v level x) e
leaves-more setup (Tests v path) f g less = less
leaves-more setup Rotates f g less = λ v level x e. by v level x (nat_lt 1 (levels_of setup v)) e
  where
    by : (v : VarId) (level : ℕ) (x : Flag) (many : Bool)
        → (if many then newer_level f v level x else f v level x) ≡ true
        → (if many then newer_level g v level x else g v level x) ≡ true
    by v level x true e = newer-more f g v level x less e
    by v level x false e = less v level x e
leaves-more setup Outputs f g less = less

pub path-more : (setup : Setup) (marks : List Mark) (f g : Flags) → IsWithin f g
    → PathMet setup f marks → PathMet setup g marks
path-more setup [] f g less met = tt
path-more setup (Letter c ∷ marks) f g less met = path-more setup marks f g less met
path-more setup (Meets act ∷ marks) f g less met = (
  met-more setup f g (needs setup act) less met.0,
  path-more setup marks (leaves setup act f) (leaves setup act g)
      (leaves-more setup act f g less) met.1,
)
