-- Words of several parts put into one list, one part after another.
use Prim.Native.Nat.{ℕ, ◌-◌}
use mathlib.Core.Path.{◌≡◌, sym, ◌∙◌, ap}
use mathlib.Core.List.{List, ◌++◌, append-nil, append_assoc}
use native.Mathlib.Omega.{arith}
use lib.ListN.{length, drop, length-append, length-drop, drop_of_length-le}
use borrow.Rule.Slice.PartMut.{put_mid}
use Rattle.std.proofs.lemmas.List.{take_at, drop_at}
use Rattle.isa.specs.Bounds.{scalar_registers}
use Rattle.layout.specs.Words.{flat_count, moving_count, fixed_count, moving_start, fixed_start, state_words}

-- the next part put after the first k words, which are p
part_put : (p r a : List ℕ) (k n : ℕ) → length p ≡ k → put_mid k n (p ++ r) a ≡ p ++ a ++ drop n r
part_put p r a k n e = rw (take_at p r k e, drop_at p r k e) (sym (append_assoc p a (drop n r)))

pub four_put : (x s h g t u : List ℕ) (n : ℕ) → length x ≡ scalar_registers → length s ≡ flat_count → length h ≡ moving_count → length g ≡ fixed_count → length t ≡ state_words → n ≡ scalar_registers
    → u ≡ put_mid moving_start moving_count (put_mid scalar_registers flat_count (x ++ drop n t) s) h
    → put_mid fixed_start (length u - fixed_start) u g ≡ x ++ s ++ h ++ g
four_put x s h g t u n lx ls lh lg lt en eu =
    let r = drop moving_count (drop flat_count (drop n t)) in
    let e : u ≡ x ++ s ++ h ++ r =
    eu ∙ ap (λ (v : List ℕ). put_mid moving_start moving_count v h) (part_put x (drop n t) s scalar_registers flat_count lx)
    ∙ part_put (x ++ s) (drop flat_count (drop n t)) h moving_start moving_count (simp length-append (omega arith)) in
    let lr : length r ≡ fixed_count = simp length-drop (omega arith) in
    let lu : length u ≡ state_words = ap length e ∙ simp length-append (omega arith) in
    rw (lu, e)
    (part_put (x ++ s ++ h) r g fixed_start fixed_count (simp length-append (omega arith))
    ∙ rw (drop_of_length-le r {i = fixed_count} (omega arith)) (append-nil _))
