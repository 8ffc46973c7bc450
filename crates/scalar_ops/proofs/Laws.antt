-- From what the callees do with the lent words to what the definition says of a row of scalar operations.
use Prim.Native.Nat.{ℕ}
use mathlib.Core.Path.{◌≡◌, refl, sym, ap}
use mathlib.Core.List.{List}
use lib.ListN.{length, get_or}
use Rattle.word.specs.declared.Op.{Op}
use Rattle.word.specs.Word.{apply_of, extend_of}
use Rattle.isa.specs.declared.Instr.TheVariants as I
use Rattle.isa.specs.Fields.{fields_of, x as x_of}
use Rattle.isa.specs.Prefix.{on_fields}
use Rattle.isa.specs.Wide.{numbers_in, xd_in, xs1_in, xs2_in, wide_of}
use Rattle.isa.specs.Scalar.{op_as}
use Rattle.isa.specs.Kinds.{row_of}
use Rattle.layout.specs.Words.{flat_count, warp_of}
use Rattle.running.specs.Goes.{Goes}
use Rattle.definition.specs.Refuse.{refusals_of}
use Rattle.memory.specs.Memories.{Contents}
use Rattle.definition.specs.Exec.{goes, effect_of}
use Rattle.definition.specs.Step.{exec_of}
use Rattle.handlers.specs.Handles.{lists, Handles, puts_in}
use Rattle.handlers.proofs.Laws.{given, told}

module _ (k w : ℕ) (o : Op) where
  pub reg_arm :
      (y : ℕ) (h x h' x' : List ℕ) → row_of k (fields_of w) ≡ op_as o (fields_of w)
      → y ≡ apply_of o (get_or x (xs1_in w).0 0) (get_or x (xs2_in w).0 0)
      → ((g s : List ℕ) → length s ≡ flat_count → Goes (puts_in (xd_in w) y) g h x s h' x' s)
      → (g s v : List ℕ) (d : Contents) → length s ≡ flat_count → Handles (exec_of (wide_of k w)) 0 (lists g h x s v d) (lists g h' x' s v d)
  unfolding warp_of effect_of refusals_of
  reg_arm y h x h' x' e ey q g s v d n =
      told (ap (on_fields (numbers_in w)) e) (given (I.OpReg o (xd_in w) (xs1_in w) (xs2_in w)) (xd_in w) y 0 g h x s v d h' x' refl (q g s n) refl
      (ap (λ (z : ℕ). goes (puts_in (xd_in w) z (warp_of g h x s))) (sym ey)))

  pub imm_arm :
      (m y : ℕ) (h x h' x' : List ℕ) → row_of k (fields_of w) ≡ I.OpImm o (x_of (fields_of w).rd) (x_of (fields_of w).rs1) m
      → y ≡ apply_of o (get_or x (xs1_in w).0 0) (extend_of 12 m)
      → ((g s : List ℕ) → length s ≡ flat_count → Goes (puts_in (xd_in w) y) g h x s h' x' s)
      → (g s v : List ℕ) (d : Contents) → length s ≡ flat_count → Handles (exec_of (wide_of k w)) 0 (lists g h x s v d) (lists g h' x' s v d)
  unfolding warp_of effect_of refusals_of
  imm_arm m y h x h' x' e ey q g s v d n =
      told (ap (on_fields (numbers_in w)) e) (given (I.OpImm o (xd_in w) (xs1_in w) m) (xd_in w) y 0 g h x s v d h' x' refl (q g s n) refl
      (ap (λ (z : ℕ). goes (puts_in (xd_in w) z (warp_of g h x s))) (sym ey)))
