-- What a part posts, as it is sent.
use Rattle.std.proofs.Common.{◌≡◌, ℕ, ◌<◌, ◌^◌, Bool, true, false, List, [], ◌∷◌, ◌++◌, length, arith, refl, ap, ◌∙◌, Option, Some, None, ◌==◌, append-nil, Result, Ok, Err, OnOk, OnErr}
use Rattle.std.specs.Prelude.{if◌then◌else◌}
use Rattle.std.proofs.lemmas.List.{append_assoc}
use Rattle.cx_grid.specs.declared.boxes.Box3.{Box3}
use Rattle.cx_grid.specs.declared.shapes.Side.{Side}
use Rattle.cx_grid.specs.declared.shapes.Side.TheVariants.{Low, High}
use Rattle.cx_grid.specs.Boxes.{point_count, numbers_in}
use Rattle.cx_plan.specs.declared.variable.VarId.{VarId}
use Rattle.cx_cut.specs.Cuts.{Parts, face_of, halo_of}
use Rattle.cx_cut.specs.Neighbours.{partner}
use Rattle.cx_field.specs.Patches.{PatchValue, values_in}
use Rattle.cx_field.specs.Faces.{face_in, halo_in, box_numbers}
use Rattle.cx_wire.specs.declared.mail.Mail.{Mail}
use Rattle.cx_ghost.specs.Posts.{CanExchange, face_count, face_head, posted_face, posted_faces, own_faces, Adds, AddsSome, face_mail, mail_to, sent_to}
use Rattle.cx_ghost.proofs.Pieces.{pieces_length, numbers_length}
use Rattle.cx_plan.specs.Lists.{only, is_at}

module _ (c : Parts) (k d : ℕ) (vars : List VarId) (p : PatchValue) (can : CanExchange c k d vars p)
  where
    pub face_is : (side : Side) → face_in p d side ≡ face_of c k d side
    face_is side = rw (can.shape_is, can.owned_is, can.local_is) refl

    pub halo_is : (side : Side) → halo_in p d side ≡ halo_of c k d side
    halo_is side = rw (can.shape_is, can.owned_is, can.local_is) refl

    pub count_is : (side : Side)
        → length (box_numbers p (face_of c k d side) vars) ≡ face_count c k d vars side
    count_is side = pieces_length (λ v. numbers_in (face_of c k d side) (values_in p v 0))
        (point_count (face_of c k d side))
        (λ v. numbers_length (face_of c k d side) (values_in p v 0)) vars

    pub few_values : (side : Side) → length (box_numbers p (face_in p d side) vars) < 2 ^ 32
    few_values side =
        let count = ap (λ (b : Box3). length (box_numbers p b vars)) (face_is side)
        ∙ count_is side in
        let few = can.few side in
        omega (arith, count, few)

    -- what is sent is what is posted
    pub sent_face : (tells : Type 0) (op : ℕ) (side : Side) (to : Option ℕ)
        → to ≡ partner c k d side
        → (b : ℕ)
        → sent_to {tells = tells}
        (mail_to to (face_mail op d side (box_numbers p (face_in p d side) vars))) b
        ≡ posted_face c k d vars op (own_faces c k d vars p) b side
    sent_face tells op side to e b =
        ap (λ (face : Box3). sent_to {tells = tells}
        (mail_to to (face_mail op d side (box_numbers p face vars))) b) (face_is side)
        ∙ go to
        ∙ ap (λ o. only (is_at o b)
        (record {
          head = face_head c k d vars op side;
          values = own_faces {tells = tells} c k d vars p side;
        } ∷ [])) e
      where
        go : (o : Option ℕ) → sent_to {tells = tells}
            (mail_to o (face_mail op d side (box_numbers p (face_of c k d side) vars))) b
            ≡ only (is_at o b)
            (record {
              head = face_head c k d vars op side;
              values = own_faces {tells = tells} c k d vars p side;
            } ∷ [])
        go None = refl
        go (Some j) =
            ap (λ n. only (j == b)
            (record {
              head = record { op = op; dir = d; side = side; count = n };
              values = own_faces {tells = tells} c k d vars p side;
            } ∷ [])) (count_is side)

    module _ (tells : Type 0) (op : ℕ) (o_low o_high : Option ℕ) (low high : Option (ℕ × Mail))
        (is_low : o_low ≡ partner c k d Low) (is_high : o_high ≡ partner c k d High)
        (low_mail : low ≡ mail_to o_low (face_mail op d Low (box_numbers p (face_in p d Low) vars)))
        (high_mail : high ≡ mail_to o_high
        (face_mail op d High (box_numbers p (face_in p d High) vars))) (b : ℕ) where
      pub low_sent : sent_to {tells = tells} low b
          ≡ posted_face c k d vars op (own_faces c k d vars p) b Low
      low_sent = ap (λ m. sent_to {tells = tells} m b) low_mail
          ∙ sent_face tells op Low o_low is_low b

      high_sent : sent_to {tells = tells} high b
          ≡ posted_face c k d vars op (own_faces c k d vars p) b High
      high_sent = ap (λ m. sent_to {tells = tells} m b) high_mail
          ∙ sent_face tells op High o_high is_high b

      pub both_sent : sent_to {tells = tells} low b ++ sent_to high b
          ≡ posted_faces c k d vars op (own_faces c k d vars p) b
      both_sent = ap (λ q. q ++ sent_to {tells = tells} high b) low_sent
          ∙ ap (λ q. posted_face {tells = tells} c k d vars op (own_faces c k d vars p) b Low ++ q)
          high_sent

-- ---- queues

pub adds_twice : {M : Type 0} (k : ℕ) (f g h : ℕ → List M) (old mid new : ℕ → ℕ → List M)
    → Adds k f old mid → Adds k g mid new → ((b : ℕ) → f b ++ g b ≡ h b) → Adds k h old new
adds_twice k f g h old mid new first second same a b =
    second a b ∙ ap (λ q. q ++ (if a == k then g b else [])) (first a b) ∙ go (a == k)
  where
    go : (v : Bool) → (old a b ++ (if v then f b else [])) ++ (if v then g b else [])
        ≡ old a b ++ (if v then h b else [])
    go true = append_assoc (old a b) (f b) (g b) ∙ ap (λ q. old a b ++ q) (same b)
    go false = append-nil (old a b ++ [])

pub adds_by : {M : Type 0} (k : ℕ) (f g : ℕ → List M) (old new : ℕ → ℕ → List M)
    → ((b : ℕ) → f b ≡ g b) → Adds k f old new → Adds k g old new
adds_by k f g old new same adds a b =
    adds a b ∙ ap (λ q. old a b ++ (if a == k then q else [])) (same b)

pub adds_first : {M : Type 0} (k : ℕ) (f : ℕ → List M) (old mid new : ℕ → ℕ → List M)
    → Adds k f old mid → ((a b : ℕ) → new a b ≡ mid a b) → AddsSome k f old new
adds_first k f old mid new adds same = (true, λ a b. same a b ∙ adds a b)

pub on_ok : {T E : Type 0} (r : Result T E) {P Q : Type 0} → (P → Q) → OnOk r P → OnOk r Q
on_ok (Ok x) f h = f h
on_ok (Err e) f h = h

pub on_err : {T E : Type 0} (r : Result T E) {P Q : Type 0} → (P → Q) → OnErr r P → OnErr r Q
on_err (Ok x) f h = h
on_err (Err e) f h = f h
