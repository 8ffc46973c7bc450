-- A group of one warp steps as a single warp does, and is released from a BARRIER by the very step that waits.
use Rattle.std.specs.Prelude.{ℕ, ◌≡◌, true, false, List, [], ◌∷◌}
use Rattle.answer.specs.Rows.{Iff}
use Rattle.memory.specs.Memories.{Contents}
use Rattle.warp.specs.declared.Warp.{Warp}
use Rattle.warp.specs.WellFormed.{well_formed_of}
use Rattle.definition.specs.State.{State, state, outcome}
use Rattle.definition.specs.Refuse.{runs_ok_of}
use Rattle.definition.specs.Step.{step_of}
use Rattle.group.specs.Group.{group, freed}
use Rattle.group.specs.GroupCalls.{group_outcome, group_step_of}
use Rattle.group_promises.specs.Runs.{group_tested}

-- warp w alone in its group, with the turn t, its vector file v and the memories c
pub record Lone (k : List ℕ) (t : ℕ) (w : Warp) (v : List ℕ) (c : Contents) : Type 0 where
  -- its step is taken where the single warp's is, and leaves the same, but that a warp that waits is released
  pub taken : (s : State) → step_of k (state w v c) ≡ outcome 0 s → group_step_of k (group t (w ∷ []) v c) ≡ group_outcome 0 0 (group 0 (freed s.warp ∷ []) s.vector s.bytes)
  -- else it is refused with the same number, 3 too; no other warp than 0 could have stopped it
  pub refused : ((step_of k (state w v c)).code ≡ 0 → ⊥) → group_step_of k (group t (w ∷ []) v c) ≡ group_outcome (step_of k (state w v c)).code 0 (group t (w ∷ []) v c)

-- what 1 and 2 ask of such a group: what they ask of the single warp, its place, and that the turn is its own and it doesn't wait, unless it has ended
pub record LoneFits (k : List ℕ) (t : ℕ) (w : Warp) (v : List ℕ) (c : Contents) : Type 0 where
  pub sizes : runs_ok_of w.fixed k v c ≡ true
  pub formed : well_formed_of w ≡ true
  pub wid : w.fixed.wid ≡ 0
  pub numw : w.fixed.numw ≡ 1
  pub goes : w.ended ≡ false → (t ≡ 0) × (w.waiting ≡ false)

-- ---- promises

abbrev pub OneWarpTests : Type 0
OneWarpTests = (k : List ℕ) (t : ℕ) (w : Warp) (v : List ℕ) (c : Contents) → Iff (group_tested k (group t (w ∷ []) v c) ≡ 0) (LoneFits k t w v c)

abbrev pub OneWarpGroup : Type 0
OneWarpGroup = (k : List ℕ) (t : ℕ) (w : Warp) (v : List ℕ) (c : Contents) → group_tested k (group t (w ∷ []) v c) ≡ 0 → Lone k t w v c
