use mathlib.Core.Path.{◌≡◌, sym, ◌∙◌, ap}
use Prim.Native.Nat.{ℕ, ◌-◌, ◌*◌}
use native.Mathlib.Omega.{arith}
use lib.Bits.{bit_or}
use lib.Dec.{eqb}
use lib.ListN.{length, drop, length-drop}
use lib.Seq.{take_all}
use borrow.Author.Rules.{rules}
use Rattle.std.proofs.lemmas.Iterator.{YieldsList-from_slice}
use Rattle.std.proofs.lemmas.Iterator.Consumers.{fold_from_yields_List}
use Rattle.layout.specs.Words.{split_size, flat_count}
use Rattle.formed.proofs.Formed.{unused_zeros, gathered}
use Rattle.formed.proofs.unused_ok.Goals as goal

pub returns : goal.returns
returns c =
    let s = c.args.s.now in
    let i : ℕ = c.args.depth * split_size in
    let long : length s ≡ flat_count = search rules in
    ap (λ (n : ℕ). eqb n 0) (fold_from_yields_List _ bit_or 0 _ c.fold.ensures.ran (YieldsList-from_slice (drop i s) (c.iter.ensures.rest ∙ take_all (flat_count - i) (drop i s) (simp length-drop (omega (arith, long))))) (λ a x b q k. search rules))
    ∙ gathered (flat_count - i) s 0 i (omega (arith, long, c.requires))
    ∙ sym (unused_zeros s c.args.depth (search rules))
