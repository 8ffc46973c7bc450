-- What a step that was taken leaves in each byte, and in each lane's registers; vmv.x.s.
use Prim.Native.Nat.{ℕ, ◌≤◌, ◌<◌}
use mathlib.Core.Path.{◌≡◌, refl, sym, ap, ◌∙◌, subst}
use mathlib.Core.Bool.{Bool, true, false, not, true≢false}
use mathlib.Core.List.{List, [], ◌∷◌}
use native.Mathlib.Nat.{lt_of_lt_of_le}
use native.Mathlib.Omega.{arith}
use lib.ListN.{length, get_or}
use lib.Seq.{get_or-set_same}
use borrow.Author.Tests.{ne_eqb, not-false}
use Rattle.answer.specs.Rows.{◌⇒◌, first, Iff}
use Rattle.answer.proofs.Rows.{both, first_silent, zero_silent}
use Rattle.isa.specs.declared.Instr.{Instr}
use Rattle.isa.specs.declared.Instr.TheVariants as I
use Rattle.isa.specs.declared.XReg.{XReg}
use Rattle.isa.specs.declared.VReg.{VReg}
use Rattle.lanes.specs.declared.Lane.{Lane}
use Rattle.isa.specs.Bounds.{vector_registers}
use Rattle.memory.specs.Memories.{Region, bytes_at}
use Rattle.lanes.specs.Lanes.{lanes_max, file_words, lane_of, write_lanes, value_of, uniform_of}
use Rattle.lanes.proofs.Laws.{write_at, write_apart, write_unwritten, uniform_at, uniform_when}
use Rattle.warp.specs.declared.Warp.{Warp}
use Rattle.warp.specs.Warp.{read_x}
use Rattle.warp.specs.WellFormed.{fixed_ok_of, well_formed_of}
use Rattle.warp.specs.Facts.{FixedOk}
use Rattle.warp.proofs.Formed.{fixed_ok}
use Rattle.definition.specs.State.{State, fixed_of, active, instr_at, used_up}
use Rattle.definition.specs.Refuse.{mixed, refusals_of, step_tests}
use Rattle.definition.specs.Exec.{Effect, goes, writes, stores, effect, effect_of}
use Rattle.definition.specs.Step.{carried_out, step_of}
use Rattle.isa.specs.Prefix.{no_prefix}
use Rattle.definition.proofs.Used.{tests_used}
use Rattle.definition.proofs.Sizes.{sizes}
use Rattle.definition.proofs.Sound.{step_clear, step_taken}
use Rattle.definition.proofs.Tests.{step_rows}
use Rattle.promises.specs.Lanes.{is_active, address_in, Touches, scalar, lane}
use Rattle.promises.specs.Written as W
use Rattle.promises.specs.Written.{Becomes, stays, Gives, Written, LaneWords, OneValue, MoveShares}
use Rattle.promises.proofs.Stores.{Apart, active_of, active_below}
use Rattle.promises.proofs.Used.{becomes_back, gives_other, gives_back}
use Rattle.promises.proofs.Twins.{in_v0_true, in_v0_written, Twin, moves, gives, stores_both, compared}

-- ---- each byte

abbrev is_store : Effect → Bool
is_store (goes u) = false
is_store (writes on r f) = false
is_store (stores e) = true

touches_store : (m : State) (a : ℕ) (i : Instr) → Touches m a i → is_store (effect_of i m) ≡ true
unfolding effect_of
touches_store m a i (scalar k x y n h) = refl
touches_store m a i (lane s k x y n l t h) = refl

written_by : (m : State) (u : List ℕ) (i : Instr) (a b : Effect) → effect_of i m ≡ a → Apart m → first (refusals_of i m) ≡ 0 → Twin m u i a b
    → (r : Region) (j : ℕ) → j < length (bytes_at r m.bytes) → Becomes m (address_in r j m) (get_or (bytes_at r m.bytes) j 0) (get_or (bytes_at r (effect a m).bytes) j 0) i
written_by m u i a b q p z (moves e) r j h = stays (λ t. true≢false (sym (touches_store m _ i t) ∙ ap is_store q)) refl
written_by m u i a b q p z (gives w e) r j h = stays (λ t. true≢false (sym (touches_store m _ i t) ∙ ap is_store q)) refl
written_by m u i a b q p z (stores_both t e) r j h = t p z r j h

pub written : Written
written k m z r j h =
    let i : Instr = instr_at k m in
    let c = step_clear k m z in
    subst (λ (n : State). Becomes m (address_in r j m) (get_or (bytes_at r m.bytes) j 0) (get_or (bytes_at r n.bytes) j 0) i) (sym (step_taken k m z))
    (becomes_back no_prefix m
    (written_by (used_up m) m.vector _ _ _ refl (sizes (fixed_of m) k m.vector m.bytes c.runs).apart (rw (tests_used m i) c.rest) (compared (used_up m) m.vector i).twin r j h))

-- ---- an active lane's words

pub fixed_of_lem : (w : Warp) → well_formed_of w ≡ true → FixedOk w.fixed
unfolding well_formed_of
fixed_of_lem w e = fixed_ok w.fixed (both (fixed_ok_of w.fixed) _ e).0

-- the effect of an instruction that gives register r words in the lanes that `on` picks, lane l among them where it is active
record Filled (m : State) (l : Lane) (i : Instr) (r : VReg) (y : ℕ) : Type 0 where
  on : Lane → Bool
  words : Lane → ℕ
  is : effect_of i m ≡ writes on r words
  picks : active m l ≡ true → on l ≡ true
  at : words l ≡ y

filled : (m : State) (l : Lane) (i : Instr) (r : VReg) (y : ℕ) → Gives m l i r y → Filled m l i r y
unfolding effect_of
filled m l i r y (W.operation o a c) = record { on = _; words = _; is = refl; picks = in_v0_written m l a.masked c; at = refl }
filled m l i r y (W.move c s) = record { on = _; words = _; is = refl; picks = λ a. a; at = refl }
filled m l i r y (W.merge_operand c b s h) = record { on = _; words = _; is = refl; picks = λ a. a; at = rw (in_v0_true m l h) }
filled m l i r y (W.merge_other c b s h) = record { on = _; words = _; is = refl; picks = λ a. a; at = rw (ne_eqb _ 1 h) }
filled m l i r y (W.scalar c a) = record { on = _; words = _; is = refl; picks = λ a. a; at = refl }
filled m l i r y (W.number t c h) = record { on = _; words = _; is = refl; picks = in_v0_written m l t h; at = refl }
filled m l i r y (W.load s k c a n) = record { on = _; words = _; is = refl; picks = λ a. a; at = refl }

others_by : (m : State) (u : List ℕ) (i : Instr) (a b : Effect) → (fixed_of m).numt ≤ lanes_max → (l : Lane) → l.0 < lanes_max → Twin m u i a b
    → (r : VReg) → ((y : ℕ) → Gives m l i r y → ⊥) → lane_of (effect a m).vector r l ≡ lane_of m.vector r l
others_by m u i a b n l h (moves e) r o = refl
others_by m u i a b n l h (gives {on = on} {r = c} {f = f} w e) r o = by (on l) refl
  where
    by : (t : Bool) → on l ≡ t → lane_of (write_lanes (fixed_of m).numt on c f m.vector) r l ≡ lane_of m.vector r l
    by true t = write_apart on c f m.vector (fixed_of m).numt n r l h (λ q. o (f l) (subst (λ (x : ℕ). Gives m l i (record { 0 = x }) (f l)) (sym q) (w l t).1))
    by false t = write_unwritten on c f m.vector (fixed_of m).numt n r l h (λ b. t)
others_by m u i a b n l h (stores_both t e) r o = refl

pub lane_words : LaneWords
lane_words k m z l a = record { given = given; others = λ r o. rw (step_taken k m z) (others_by (used_up m) m.vector _ _ _ lanes l below (compared (used_up m) m.vector (instr_at k m)).twin r (λ y g. o y (gives_back no_prefix m g))) }
  where
    lanes : (fixed_of m).numt ≤ lanes_max
    lanes = (fixed_of_lem m.warp (step_clear k m z).formed).lanes.1

    below : l.0 < lanes_max
    below = lt_of_lt_of_le (active_below m l a).0 lanes

    long : length m.vector ≡ file_words
    long = (sizes (fixed_of m) k m.vector m.bytes (step_clear k m z).runs).file_is

    given : (r : VReg) (y : ℕ) → r.0 < vector_registers → Gives m l (instr_at k m) r y → lane_of (step_of k m).left.vector r l ≡ y
    given r y b g =
        let f = filled (used_up m) l (instr_at k m) r y (gives_other no_prefix m g) in
        rw (step_taken k m z, f.is) (write_at f.on r f.words m.vector (fixed_of m).numt l (active_below m l a).0 lanes (f.picks (active_below m l a).1) (omega (arith, long, below)) ∙ f.at)

-- ---- one value

pub one_value : OneValue
one_value m f = record {
  equal = (
    λ u l h a b. shared u l a ∙ sym (shared u h b),
    λ e. ap not (sym (uniform_when (fixed_of m).numt (active m) f (λ l h p q a b. e l h (active_of m l p a) (active_of m h q b)))),
  );
  value = λ u l a. sym (shared u l a);
}
  where
    shared : not (uniform_of (fixed_of m).numt (active m) f) ≡ false → (l : Lane) → is_active m l ≡ true → f l ≡ value_of (fixed_of m).numt (active m) f
    shared u l a = let p = active_below m l a in uniform_at (fixed_of m).numt (active m) f (sym (not-false _ u)) l p.0 p.1

-- the row of vmv.x.s
silent_ten : (t : Bool) → Iff (first (10 ⇒ t ∷ []) ≡ 0) (t ≡ false)
silent_ten true = (λ e. absurd (omega arith), λ e. absurd (true≢false e))
silent_ten false = (λ e. refl, λ e. refl)

module _ (k : List ℕ) (m : State) (r : XReg) (b : VReg) (is : instr_at k m ≡ I.VMoveXS r b) where
  abbrev words : Lane → ℕ
  words = lane_of m.vector b

  own : first (refusals_of (instr_at k m) m) ≡ first (10 ⇒ mixed words m ∷ [])
  unfolding refusals_of
  own = ap (λ (i : Instr). first (refusals_of i m)) is

  answer : first (step_tests k m) ≡ 0 → (step_of k m).code ≡ first (10 ⇒ mixed words m ∷ [])
  answer z = step_rows k m ∙ first_silent (step_tests k m) (refusals_of (instr_at k m) m) (zero_silent (step_tests k m) refl z) ∙ own

  moved : (r.0 ≡ 0 → ⊥) → r.0 < length m.warp.x → read_x r (carried_out (I.VMoveXS r b) (used_up m)).warp ≡ value_of (fixed_of m).numt (active m) words
  unfolding effect_of
  moved n h = rw (ne_eqb r.0 0 n) (get_or-set_same m.warp.x r.0 (value_of (fixed_of m).numt (active m) words) 0 h)

  taken_one : (step_of k m).code ≡ 0 → mixed words m ≡ false
  taken_one z = (silent_ten (mixed words m)).0 (sym own ∙ (step_clear k m z).rest)

pub move_shares : MoveShares
move_shares k m r b is =
    let o = one_value m (lane_of m.vector b) in
    record {
      taken = λ z. (
        λ c. o.equal.0 ((silent_ten _).0 (sym (answer k m r b is z) ∙ c)),
        λ e. answer k m r b is z ∙ (silent_ten _).1 (o.equal.1 e),
      );
      value = λ z n h l a. rw (step_taken k m z, is) (moved k m r b is n h) ∙ o.value (taken_one k m r b is z) l a;
    }
