-- Parts of lists, and two places of one list.
use Rattle.std.proofs.Common.{◌≡◌, ℕ, zero, suc, ◌<◌, refl, ap, sym, ◌∙◌, List, [], ◌∷◌, ◌++◌, length, get_or, ◌⊎◌, inl, inr, arith}
use Rattle.std.specs.List.{All, flat_map}
use Rattle.std.proofs.lemmas.List.Elements.{All-nil, All-cons, All-head, All-tail}

-- ---- what holds of all elements

pub all-left : {X : Type 0} (P : X → Type 0) (xs ys : List X) → All P (xs ++ ys) → All P xs
all-left P [] ys each = All-nil P
all-left P (x ∷ xs) ys each =
    All-cons P x xs (All-head P x (xs ++ ys) each) (all-left P xs ys (All-tail P x (xs ++ ys) each))

pub all-right : {X : Type 0} (P : X → Type 0) (xs ys : List X) → All P (xs ++ ys) → All P ys
all-right P [] ys each = each
all-right P (x ∷ xs) ys each = all-right P xs ys (All-tail P x (xs ++ ys) each)

-- what holds of all lists that are joined holds of each
pub all-of-one : {X Y : Type 0} (P : X → Type 0) (f : Y → List X) (ys : List Y) (i : ℕ) (d : Y)
    → i < length ys → All P (flat_map f ys) → All P (f (get_or ys i d))
all-of-one P f [] i d below each = absurd (omega (arith, below))
all-of-one P f (y ∷ ys) zero d below each = all-left P (f y) (flat_map f ys) each
all-of-one P f (y ∷ ys) (suc i) d below each =
    all-of-one P f ys i d (omega (arith, below)) (all-right P (f y) (flat_map f ys) each)

-- ---- two places

abbrev head_or : {X : Type 0} → X → List X → X
head_or d [] = d
head_or d (x ∷ xs) = x

abbrev tail_of : {X : Type 0} → List X → List X
tail_of [] = []
tail_of (x ∷ xs) = xs

pub heads : {X : Type 0} (x y : X) (xs ys : List X) → x ∷ xs ≡ y ∷ ys → x ≡ y
heads x y xs ys e = ap (head_or x) e

pub tails : {X : Type 0} (x y : X) (xs ys : List X) → x ∷ xs ≡ y ∷ ys → xs ≡ ys
tails x y xs ys e = ap tail_of e

-- the second place is behind the first one
pub record Further {X : Type 0} (a : List X) (x : X) (xs b : List X) (y : X)
    (ys : List X) : Type 0 where
  pub between : List X
  pub is : b ≡ a ++ x ∷ between
  pub rest : xs ≡ between ++ y ∷ ys

pub record Same {X : Type 0} (a : List X) (x : X) (b : List X) (y : X) : Type 0 where
  pub before : a ≡ b
  pub here : x ≡ y

longer : {X : Type 0} (e : X) (a : List X) (x : X) (xs b : List X) (y : X) (ys : List X)
    → Further a x xs b y ys → Further (e ∷ a) x xs (e ∷ b) y ys
longer e a x xs b y ys f = record { between = f.between; is = ap (λ l. e ∷ l) f.is; rest = f.rest }

pub two_places : {X : Type 0} (a : List X) (x : X) (xs b : List X) (y : X) (ys : List X)
    → a ++ x ∷ xs ≡ b ++ y ∷ ys
    → Same a x b y ⊎ (Further a x xs b y ys ⊎ Further b y ys a x xs)
two_places [] x xs [] y ys e = inl (record { before = refl; here = heads x y xs ys e })
two_places [] x xs (f ∷ b) y ys e =
    inr (inl
    (record {
      between = b;
      is = ap (λ g. g ∷ b) (sym (heads x f xs (b ++ y ∷ ys) e));
      rest = tails x f xs (b ++ y ∷ ys) e;
    }))
two_places (f ∷ a) x xs [] y ys e =
    inr (inr
    (record {
      between = a;
      is = ap (λ g. g ∷ a) (heads f y (a ++ x ∷ xs) ys e);
      rest = sym (tails f y (a ++ x ∷ xs) ys e);
    }))
two_places {X} (f ∷ a) x xs (g ∷ b) y ys e =
    by (two_places a x xs b y ys (tails f g (a ++ x ∷ xs) (b ++ y ∷ ys) e))
  where
    first : f ≡ g
    first = heads f g (a ++ x ∷ xs) (b ++ y ∷ ys) e

    by : Same a x b y ⊎ (Further a x xs b y ys ⊎ Further b y ys a x xs)
        → Same (f ∷ a) x (g ∷ b) y
        ⊎ (Further (f ∷ a) x xs (g ∷ b) y ys ⊎ Further (g ∷ b) y ys (f ∷ a) x xs)
    by (inl s) =
        inl (record { before = ap (λ h. h ∷ a) first ∙ ap (λ l. g ∷ l) s.before; here = s.here })
    by (inr (inl s)) =
        inr (inl
        (record {
          between = s.between;
          is = ap (λ h. h ∷ b) (sym first) ∙ ap (λ l. f ∷ l) s.is;
          rest = s.rest;
        }))
    by (inr (inr s)) =
        inr (inr
        (record {
          between = s.between;
          is = ap (λ h. h ∷ a) first ∙ ap (λ l. g ∷ l) s.is;
          rest = s.rest;
        }))

pub nothing_there : {X : Type 0} (a : List X) (x : X) (xs : List X) → [] ≡ a ++ x ∷ xs → ⊥
nothing_there [] x xs e = absurd cc
nothing_there (y ∷ a) x xs e = absurd cc
