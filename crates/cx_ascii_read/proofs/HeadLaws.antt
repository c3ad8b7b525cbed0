-- What sections and lines begin with.
use Rattle.std.proofs.Common.{◌≡◌, ℕ, ◌-◌, ◌^◌, ◌≤◌, ◌<◌, IsTrue, List, [], ◌∷◌, ◌++◌, codes, Some, refl, ap, subst, ◌∙◌, append_assoc, arith}
use Rattle.std.specs.Fmt.{decimal}
use Rattle.cx_ascii_read.specs.Spelling.{IsField}
use Rattle.cx_ascii_read.specs.Records.{is_name}
use Rattle.cx_ascii_read.specs.Reading.{skip_text, number_of, name_of, name_at, number_at, head_at}
use Rattle.cx_ascii_read.proofs.WordLaws.{bind_some, some_is, text_takes, field_of_word}
use Rattle.cx_ascii_read.proofs.NumberLaws.{number_word, name_word}

name_field : IsField (λ t. t ++ 32 ∷ []) name_at (λ t. IsTrue (is_name t))
name_field = field_of_word (λ t. t) name_of (λ t. IsTrue (is_name t)) name_word 32 refl

pub number_field : (high : ℕ) → high < 2 ^ 64
    → IsField (λ n. decimal n ++ 32 ∷ []) (number_at high) (λ n. n ≤ high)
number_field high small =
    field_of_word decimal (number_of high) (λ n. n ≤ high) (number_word high small) 32 refl

-- what stands before a size, a value or a part
abbrev pub front_text : List ℕ → ℕ → List ℕ → List ℕ
front_text name iteration body =
    codes "# " ++ ((name ++ 32 ∷ [])
    ++ (codes "iteration " ++ ((decimal iteration ++ 32 ∷ []) ++ body)))

pub front-cut : (name dec blank it more : List ℕ)
    → (codes "# " ++ name ++ (blank ++ it) ++ dec) ++ (blank ++ more)
    ≡ codes "# " ++ ((name ++ blank) ++ (it ++ ((dec ++ blank) ++ more)))
front-cut name dec blank it more = simp append_assoc

abbrev iteration_field : IsField (λ n. decimal n ++ 32 ∷ []) (number_at (2 ^ 64 - 1))
    (λ n. n ≤ 2 ^ 64 - 1)
iteration_field = number_field (2 ^ 64 - 1) (omega arith)

pub head_again : (name : List ℕ) (iteration : ℕ) (body : List ℕ) → IsTrue (is_name name)
    → iteration < 2 ^ 64 → head_at (front_text name iteration body) ≡ Some ((name, iteration), body)
unfolding head_at
head_again name iteration body named small =
    rw (
      name_field.again name (codes "iteration " ++ ((decimal iteration ++ 32 ∷ []) ++ body))
          named,
      iteration_field.again iteration body (omega (arith, small)),
    ) refl

pub record IsHeadRead (bytes : List ℕ) (x : (List ℕ × ℕ) × List ℕ) : Type 0 where
  pub spelled : bytes ≡ front_text x.0.0 x.0.1 x.1
  pub named : IsTrue (is_name x.0.0)
  pub small : x.0.1 < 2 ^ 64

pub head_takes : (bytes : List ℕ) (x : (List ℕ × ℕ) × List ℕ) → head_at bytes ≡ Some x
    → IsHeadRead bytes x
unfolding head_at
head_takes bytes x h =
    let a = bind_some (skip_text (codes "# ") bytes) _ x h in
    let b = bind_some (name_at a.0) _ x a.2 in
    let d = bind_some (skip_text (codes "iteration ") b.0.1) _ x b.2 in
    let f = bind_some (number_at (2 ^ 64 - 1) d.0) _ x d.2 in
    let t = name_field.takes a.0 b.0 b.1 in
    let u = iteration_field.takes d.0 f.0 f.1 in
    subst (IsHeadRead bytes) (some_is _ x f.2) (record {
      spelled = text_takes (codes "# ") bytes a.0 a.1
          ∙ ap (λ (r : List ℕ). codes "# " ++ r)
          (t.0 ∙ ap (λ (r : List ℕ). (b.0.0 ++ 32 ∷ []) ++ r)
          (text_takes (codes "iteration ") b.0.1 d.0 d.1
          ∙ ap (λ (r : List ℕ). codes "iteration " ++ r) u.0));
      named = t.1;
      small = omega (arith, u.1);
    })
