-- Worked rows of configuration files and of thorn lists.
use Rattle.std.specs.Prelude.{◌≡◌, refl, codes, [], ◌∷◌, Ok, Err}
use Rattle.cx_text.specs.declared.stop.Why.TheVariants.{Unexpected}
use Rattle.cx_text.specs.Reading.{read_many, read_up_to}
use Rattle.cx_text.specs.Written.{word, sign, line_end}
use Rattle.cx_conf.specs.Conf.{PROVIDES, REQUIRES, THORNS, configuration}
use Rattle.cx_conf.specs.Thorns.{thorn_list}

-- REQUIRES THORNS A
row_no_colon : configuration.reads (word REQUIRES ∷ word THORNS ∷ word (codes "A") ∷ line_end ∷ [])
    ≡ Err (Unexpected, word (codes "A") ∷ line_end ∷ [])
unfolding read_many read_up_to
row_no_colon = refl

-- REQUIRES, and no capability
row_nothing_required : configuration.reads (word REQUIRES ∷ line_end ∷ []) ≡ Err (Unexpected, [])
unfolding read_many read_up_to
row_nothing_required = refl

-- PROVIDES MPI { LANG } and REQUIRES THORNS: PUGH, IOUtil and REQUIRES THORNS:
row_entries : configuration.reads
    (word PROVIDES ∷ word (codes "MPI") ∷ sign 123 ∷ word (codes "LANG") ∷ sign 125 ∷ line_end
    ∷ word REQUIRES ∷ word THORNS ∷ sign 58 ∷ word (codes "PUGH") ∷ sign 44 ∷ line_end
    ∷ word (codes "IOUtil") ∷ line_end ∷ word REQUIRES ∷ word THORNS ∷ sign 58 ∷ line_end ∷ [])
    ≡ Ok (
      record {
        provides = codes "MPI" ∷ [];
        requires_ = [];
        thorns = codes "PUGH" ∷ codes "IOUtil" ∷ [];
        optional = [];
      },
      [],
    )
unfolding read_many read_up_to
row_entries = refl

-- Integer ElemCA
row_no_slash : thorn_list.reads (word (codes "Integer") ∷ word (codes "ElemCA") ∷ line_end ∷ [])
    ≡ Err (Unexpected, word (codes "Integer") ∷ word (codes "ElemCA") ∷ line_end ∷ [])
unfolding read_many read_up_to
row_no_slash = refl

-- Integer/ElemCA and CactusBase/IOUtil
row_places : thorn_list.reads
    (word (codes "Integer/ElemCA") ∷ line_end ∷ word (codes "CactusBase/IOUtil") ∷ line_end ∷ [])
    ≡ Ok (
      record {
        places =
            (codes "Integer", codes "ElemCA") ∷ (codes "CactusBase", codes "IOUtil") ∷ [];
      },
      [],
    )
unfolding read_many read_up_to
row_places = refl
