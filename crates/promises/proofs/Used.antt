-- What a store touches, what a byte becomes and what a lane is given look at no pending prefix.
use Prim.Native.Nat.{ℕ}
use mathlib.Core.Path.{◌≡◌, refl}
use Rattle.isa.specs.declared.Instr.{Instr}
use Rattle.isa.specs.declared.Prefix.{Prefix}
use Rattle.isa.specs.declared.Source.{Source}
use Rattle.isa.specs.declared.Source.TheVariants as From
use Rattle.isa.specs.declared.VReg.{VReg}
use Rattle.word.specs.Word.{extend_of}
use Rattle.lanes.specs.declared.Lane.{Lane}
use Rattle.warp.specs.Warp.{with_prefix}
use Rattle.definition.specs.State.{State, state}
use Rattle.definition.specs.Exec.{immediate_of, source_of}
use Rattle.promises.specs.Lanes as L
use Rattle.promises.specs.Lanes.{Touches}
use Rattle.promises.specs.Written as W
use Rattle.promises.specs.Written.{Becomes, Gives}

module _ (q : Prefix) (m : State) where
  abbrev pub other : State
  other = state (with_prefix q m.warp) m.vector m.bytes

  source_other : (f : ℕ → ℕ → ℕ) (e : Source) → source_of f e m ≡ source_of f e other
  source_other f (From.V r) = refl
  source_other f (From.X r) = refl
  source_other f (From.I i) = refl
  source_other f (From.Long i) = refl

  pub touches_other : {a : ℕ} {i : Instr} → Touches m a i → Touches other a i
  touches_other (L.scalar k x y n h) = L.scalar k x y n h
  touches_other (L.lane s k x y n l t h) = L.lane s k x y n l t h

  pub gives_other : {l : Lane} {i : Instr} {r : VReg} {y : ℕ} → Gives m l i r y → Gives other l i r y
  gives_other {l = l} (W.operation o a c) =
      rw (source_other (immediate_of o) a.src) (W.operation o a c)
  gives_other {l = l} (W.move r s) = rw (source_other extend_of s) (W.move r s)
  gives_other {l = l} (W.merge_operand r b s c) = rw (source_other extend_of s) (W.merge_operand r b s c)
  gives_other (W.merge_other r b s c) = W.merge_other r b s c
  gives_other (W.scalar r a) = W.scalar r a
  gives_other (W.number t r c) = W.number t r c
  gives_other (W.load s k r a n) = W.load s k r a n

-- back to m, whose prefix is p
module _ (q : Prefix) (m : State) where
  pub becomes_back : {a old new : ℕ} {i : Instr} → Becomes (other q m) a old new i → Becomes m a old new i
  becomes_back (W.stays t e) = W.stays (λ x. t (touches_other q m x)) e
  becomes_back (W.by_scalar k x y n h e) = W.by_scalar k x y n h e
  becomes_back (W.by_lanes s k x y n l t h e) = W.by_lanes s k x y n l t h e

  pub gives_back : {l : Lane} {i : Instr} {r : VReg} {y : ℕ} → Gives (other q m) l i r y → Gives m l i r y
  gives_back g = gives_other m.warp.prefix (other q m) g
