-- An instruction's tests and its target look at no pending prefix: they are the same where it is used up.
use Prim.Native.Nat.{ℕ}
use mathlib.Core.Path.{◌≡◌, refl}
use mathlib.Core.List.{List}
use lib.Dec.{eqb}
use Rattle.answer.specs.Rows.{first}
use Rattle.isa.specs.declared.Instr.{Instr}
use Rattle.isa.specs.declared.Instr.TheVariants as I
use Rattle.definition.specs.State.{State, instr_at, used_up}
use Rattle.definition.specs.Refuse.{refusals_of, tests_of}
use Rattle.definition.specs.Step.{carried_out, step_of}
use Rattle.definition.proofs.Target.{Target, target_of, Within, within, same}
use Rattle.warp.proofs.SplitLaws.{by_cond}

module _ (m : State) where
  pub tests_used : (i : Instr) → refusals_of i (used_up m) ≡ refusals_of i m
  unfolding refusals_of
  tests_used I.Refused = refl
  tests_used (I.Lui r n) = refl
  tests_used (I.Auipc r n) = refl
  tests_used (I.Jal r n) = refl
  tests_used (I.Jalr r a n) = refl
  tests_used (I.Branch c a b n) = refl
  tests_used (I.Load k r a n) = refl
  tests_used (I.Store k a b n) = refl
  tests_used (I.OpImm o r a n) = refl
  tests_used (I.OpReg o r a b) = refl
  tests_used (I.Fence r a n) = refl
  tests_used (I.Csr o r a n) = refl
  tests_used (I.CsrImm o r i n) = refl
  tests_used (I.Vector o a) = refl
  tests_used (I.VMove r s) = refl
  tests_used (I.VMerge r b s) = refl
  tests_used (I.VMoveXS r b) = refl
  tests_used (I.VMoveSX r a) = refl
  tests_used (I.Vid t r) = refl
  tests_used (I.VBranch c a b n) = refl
  tests_used I.Join = refl
  tests_used (I.SetRpc r a n) = refl
  tests_used I.EndPrg = refl
  tests_used (I.Barrier n) = refl
  tests_used (I.VLoad s k r a n) = refl
  tests_used (I.VStore s k a b n) = refl
  tests_used (I.RegExt n) = refl
  tests_used (I.RegExtI n) = refl

  pub target_used : (i : Instr) → target_of i (used_up m) ≡ target_of i m
  unfolding target_of
  target_used I.Refused = refl
  target_used (I.Lui r n) = refl
  target_used (I.Auipc r n) = refl
  target_used (I.Jal r n) = refl
  target_used (I.Jalr r a n) = refl
  target_used (I.Branch c a b n) = refl
  target_used (I.Load k r a n) = refl
  target_used (I.Store k a b n) = refl
  target_used (I.OpImm o r a n) = refl
  target_used (I.OpReg o r a b) = refl
  target_used (I.Fence r a n) = refl
  target_used (I.Csr o r a n) = refl
  target_used (I.CsrImm o r i n) = refl
  target_used (I.Vector o a) = refl
  target_used (I.VMove r s) = refl
  target_used (I.VMerge r b s) = refl
  target_used (I.VMoveXS r b) = refl
  target_used (I.VMoveSX r a) = refl
  target_used (I.Vid t r) = refl
  target_used (I.VBranch c a b n) = refl
  target_used I.Join = refl
  target_used (I.SetRpc r a n) = refl
  target_used I.EndPrg = refl
  target_used (I.Barrier n) = refl
  target_used (I.VLoad s k r a n) = refl
  target_used (I.VStore s k a b n) = refl
  target_used (I.RegExt n) = refl
  target_used (I.RegExtI n) = refl

  -- what stays from there on stays from m on
  pub within_used : (t : Target) (n : State) → Within (used_up m) t n → Within m t n
  within_used t n q =
      record { x = q.x; splits = q.splits; vector = q.vector; memory = q.memory; fixed = q.fixed; scalars = q.scalars; records = q.records; words = q.words; size = q.size }

  pub carried_within : (i : Instr) → Within m (target_of i m) (carried_out i (used_up m))
  carried_within i = within_used (target_of i m) (carried_out i (used_up m)) (rw (← target_used i) (within (used_up m) i))

-- A step, refused or not, changes nothing outside the target of the instruction at the PC.
pub step_within : (k : List ℕ) (m : State) → Within m (target_of (instr_at k m) m) (step_of k m).left
unfolding step_of
step_within k m = by_cond (Within m (target_of (instr_at k m) m)) (eqb (first (tests_of k m)) 0) _ _ (λ z. carried_within m (instr_at k m)) (λ z. same m _)
