use Rattle.std.proofs.Common.{◌≡◌, ◌-◌, ◌⊎◌, inr, ℕ, List, ◌∷◌, take, drop, ◌∙◌, ap, subst, arith, length}
use Rattle.std.specs.Prelude.{None, OnOk}
use Rattle.std.proofs.lemmas.Result.{on_ok_weaker}
use Rattle.std.proofs.lemmas.List.{take_rest}
use Rattle.cx_chk.specs.Encoding.{body_bytes}
use Rattle.cx_chk.specs.Slots.{header_of, SlotsSettled}
use Rattle.cx_chk.specs.Steps.{Step}
use Rattle.cx_chk.proofs.Saving.{saves, all_settled, slots_quiet, on_ok_both}
use Rattle.cx_chk.proofs.slots.Slots.save.Goals as goal

pub returns-clause-moments : goal.returns-clause-moments
returns-clause-moments g c = λ tells.
    let body : take (length c.as_slice.result.now - 1) (drop 1 c.as_slice.result.now)
    ≡ body_bytes c.args.c.now =
    take_rest c.as_slice.result.now 1
    ∙ ap (λ (l : List ℕ). drop 1 l) (c.as_slice.ensures ∙ c.in-Ok.ensures) in
    let slot = c.in_ok-slot.slot in
    let after : Step slot (λ bytes. (bytes ≡ (g.D.Disk.view c.next.new.disk).seen slot)
    ⊎ (header_of bytes ≡ None) ⊎ (bytes ≡ 1 ∷ body_bytes c.args.c.now))
    (g.D.Disk.view c.next.new.disk) (g.D.Disk.view c.save_in.new.disk)
    = subst (λ (b : List ℕ).
    Step slot (λ bytes. (bytes ≡ (g.D.Disk.view c.next.new.disk).seen slot)
    ⊎ (header_of bytes ≡ None) ⊎ (bytes ≡ 1 ∷ b)) (g.D.Disk.view c.next.new.disk)
    (g.D.Disk.view c.save_in.new.disk)) body (c.save_in.ensures.after tells) in
    inr (
      slot,
      c.in_ok-slot.ensures.next tells,
      saves slot c.args.c.now c.requires.fits (g.D.Disk.view c.args.disk.now)
          (g.D.Disk.view c.next.new.disk) (g.D.Disk.view c.save_in.new.disk)
          (c.next.ensures.quiet tells) (c.requires.settled tells)
          (let k = c.requires.keep.1 in let s = c.in_ok-slot.ensures.known in omega arith) after,
    )

pub returns-clause-saved : goal.returns-clause-saved
returns-clause-saved g c = λ tells.
    let body : take (length c.as_slice.result.now - 1) (drop 1 c.as_slice.result.now)
    ≡ body_bytes c.args.c.now =
    take_rest c.as_slice.result.now 1
    ∙ ap (λ (l : List ℕ). drop 1 l) (c.as_slice.ensures ∙ c.in-Ok.ensures) in
    let slot = c.in_ok-slot.slot in
    let after : Step slot (λ bytes. (bytes ≡ (g.D.Disk.view c.next.new.disk).seen slot)
    ⊎ (header_of bytes ≡ None) ⊎ (bytes ≡ 1 ∷ body_bytes c.args.c.now))
    (g.D.Disk.view c.next.new.disk) (g.D.Disk.view c.save_in.new.disk)
    = subst (λ (b : List ℕ).
    Step slot (λ bytes. (bytes ≡ (g.D.Disk.view c.next.new.disk).seen slot)
    ⊎ (header_of bytes ≡ None) ⊎ (bytes ≡ 1 ∷ b)) (g.D.Disk.view c.next.new.disk)
    (g.D.Disk.view c.save_in.new.disk)) body (c.save_in.ensures.after tells) in
    let step = saves slot c.args.c.now c.requires.fits (g.D.Disk.view c.args.disk.now)
    (g.D.Disk.view c.next.new.disk) (g.D.Disk.view c.save_in.new.disk)
    (c.next.ensures.quiet tells) (c.requires.settled tells)
    (let k = c.requires.keep.1 in let s = c.in_ok-slot.ensures.known in omega arith) after in
    let settled : OnOk c.save_in.result (SlotsSettled (g.D.Disk.view c.save_in.new.disk)) =
    on_ok_weaker c.save_in.result
    (λ own. all_settled slot (g.D.Disk.view c.next.new.disk) (g.D.Disk.view c.save_in.new.disk)
    (slots_quiet (c.next.ensures.quiet tells) (c.requires.settled tells)) after own)
    (c.save_in.ensures.settled tells) in
    on_ok_both c.save_in.result (λ seen all. record {
      slot = slot;
      next = c.in_ok-slot.ensures.next tells;
      step = step;
      spells = record {
        in_range = c.requires.fits;
        spelled = seen ∙ ap (λ (l : List ℕ). 1 ∷ l) body;
      };
      settled = all;
    }) (c.save_in.ensures.seen tells) settled

pub encode-requires-clause-key : goal.encode-requires-clause-key
encode-requires-clause-key g c = c.requires.fits.key

pub encode-requires-clause-lengths : goal.encode-requires-clause-lengths
encode-requires-clause-lengths g c = c.requires.fits.lengths.0

pub encode-requires-clause-scalars : goal.encode-requires-clause-scalars
encode-requires-clause-scalars g c = c.requires.fits.scalars.0

pub encode-requires-clause-levels : goal.encode-requires-clause-levels
encode-requires-clause-levels g c = c.requires.fits.levels.0
