-- A new wire carries nothing.
use Rattle.std.proofs.Common.{◌≡◌, ℕ, zero, suc, ◌+◌, ◌*◌, map, List, [], Bool, true, false, refl, ap, subst, sym}
use Rattle.std.specs.Prelude.{if◌then◌else◌, slice_index_or, replicate, nat_lt, ◌&&◌}
use Rattle.cx_wire.specs.declared.mail.Mail.{Mail}
use Rattle.cx_wire.specs.Messages.{sent}
use Rattle.cx_wire.specs.Memory.{Carried, new_wire, sent_queue}

abbrev no_mail : List Mail
no_mail = []

blank : (m i : ℕ) → slice_index_or (replicate m no_mail) i no_mail ≡ no_mail
blank zero zero = refl
blank zero (suc i) = refl
blank (suc m) zero = refl
blank (suc m) (suc i) = blank m i

-- the queue of a pair, which is there or not
blank_queue : (tells : Type 0) (n i : ℕ) (there : Bool)
    → map (sent {tells = tells})
    (if there then slice_index_or (replicate (n * n) no_mail) i no_mail else no_mail) ≡ []
blank_queue tells n i true =
    ap (λ (mails : List Mail). map (sent {tells = tells}) mails) (blank (n * n) i)
blank_queue tells n i false = refl

-- whether the wire tells its values or not
pub new_is_empty : (tells : Type 0) (n : ℕ) (w : Carried) → w ≡ new_wire n → (a b : ℕ)
    → sent_queue {tells = tells} w a b ≡ []
new_is_empty tells n w is a b =
    subst (λ (v : Carried). sent_queue {tells = tells} v a b ≡ []) (sym is)
    (blank_queue tells n (a * n + b) (nat_lt a n && nat_lt b n))
