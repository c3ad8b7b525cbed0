-- Worked rows of visibility.
use Rattle.std.specs.Prelude.{◌≡◌, refl, ℕ, ◌==◌, nat_lt, ◌&&◌, ◌||◌, Bool, List, [], ◌∷◌, codes, Some, None, Ok, Err}
use Rattle.cx_iface.specs.declared.tree.Access.TheVariants.{Public, Protected, Private}
use Rattle.cx_sched.specs.declared.tree.Ref.{Ref}
use Rattle.cx_bind.specs.declared.thorns.Thorn.{Thorn}
use Rattle.cx_bind.proofs.Samples.{thorn, scalar_group, grid_group}
use Rattle.cx_scope.specs.declared.fault.ScopeFault.TheVariants.{NotFound, Hidden, NoStorage, NoLevel}
use Rattle.cx_scope.specs.Relations.{Ancestor, inherited, through, Friend, line, back, onward}
use Rattle.cx_scope.specs.Sight.{Sight}
use Rattle.cx_scope.specs.Resolving.{var_id, resolve, group_of}

abbrev with_friends : Thorn → List (List ℕ) → Thorn
with_friends t friends = record t { interface = record t.interface { friends = friends } }

-- a inherits from b, b from c; c has a public and a private group; d is a friend of a and of e
abbrev thorn_a : Thorn
thorn_a = thorn (codes "A") (codes "a") (codes "b" ∷ [])
    (record (grid_group Public (codes "waves") 3 (codes "phi" ∷ [])) { levels = 2 } ∷ []) []

abbrev thorns : List Thorn
thorns =
    thorn_a
    ∷ thorn (codes "B") (codes "b") (codes "c" ∷ []) [] []
    ∷ thorn (codes "C") (codes "c") []
    (scalar_group Public (codes "shown") (codes "s" ∷ [])
    ∷ scalar_group Private (codes "kept") (codes "p" ∷ []) ∷ []) []
    ∷ with_friends (thorn (codes "D") (codes "d") [] [] [])
    (codes "A" ∷ codes "e" ∷ codes "absent" ∷ [])
    ∷ thorn (codes "E") (codes "e") [] (scalar_group Protected (codes "ours") (codes "o" ∷ []) ∷ [])
    []
    ∷ []

-- an ancestor's ancestor
row_ancestor : Ancestor thorns thorn_a (codes "c")
row_ancestor = through (codes "b") (codes "c") (inherited (codes "b") refl) refl

-- a and e are friends through d, whose friend line names a in another case
row_friend : Friend thorns (codes "a") (codes "e")
row_friend = onward (codes "a") (codes "d") (codes "e")
    (back (codes "d") (codes "a") (line (codes "d") (codes "a") refl refl))
    (line (codes "d") (codes "e") refl refl)

-- what these thorns see: the first two have ancestors, and the first one and the last two are
-- friends
abbrev is_friendly : ℕ → Bool
is_friendly t = t == 0 || nat_lt 2 t

abbrev sight : Sight
sight =
    record {
      is_ancestor = λ t u. nat_lt t u && nat_lt u 3;
      is_friend = λ t u. is_friendly t && is_friendly u;
    }

abbrev bare : List ℕ → Ref
bare name = record { owner = None; name = name; copy = None }

-- the stored levels of phi, s, p and o
abbrev storage : List ℕ
storage = 1 ∷ 1 ∷ 0 ∷ 1 ∷ []

-- a public variable of an ancestor's ancestor
row_found : resolve thorns sight storage 0 (bare (codes "s")) ≡ Ok ((var_id 1, 0) ∷ [])
row_found = refl

-- a protected one of a friend's friend
row_friends : resolve thorns sight storage 0 (bare (codes "O")) ≡ Ok ((var_id 3, 0) ∷ [])
row_friends = refl

-- a private one of another thorn
row_hidden : resolve thorns sight storage 0 (bare (codes "p")) ≡ Err (Hidden (codes "p"))
row_hidden = refl

row_not_found : resolve thorns sight storage 0 (bare (codes "q")) ≡ Err (NotFound (codes "q"))
row_not_found = refl

row_no_storage : resolve thorns sight storage 2 (bare (codes "p")) ≡ Err (NoStorage (codes "p"))
row_no_storage = refl

-- one level is stored
row_no_level : resolve thorns sight storage 0 (bare (codes "phi_p")) ≡ Err (NoLevel (codes "phi_p"))
row_no_level = refl

row_stored : resolve thorns sight (2 ∷ 1 ∷ 0 ∷ 1 ∷ []) 0 (bare (codes "phi_p"))
    ≡ Ok ((var_id 0, 1) ∷ [])
row_stored = refl

-- a group that nobody has
row_no_group : group_of thorns sight 0 (bare (codes "phi")) ≡ Err (NotFound (codes "phi"))
row_no_group = refl

row_group : group_of thorns sight 0 (bare (codes "WAVES")) ≡ Ok (var_id 0 ∷ [])
row_group = refl

row_owner : resolve thorns sight storage 2
    (record { owner = Some (codes "C"); name = codes "P"; copy = None })
    ≡ Err (NoStorage (codes "C::P"))
row_owner = refl
