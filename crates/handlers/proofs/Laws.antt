-- From what the callees do with the lent words to what the definition says of the state that they stand for.
use Prim.Native.Nat.{ℕ, ◌%◌, ◌<◌, ◌≤◌}
use mathlib.Core.Path.{◌≡◌, refl, sym, ap, ap₂, ◌∙◌}
use mathlib.Core.Bool.{Bool, true, false, not, ◌&&◌, ◌||◌, cond, or-true, true≢false}
use mathlib.Core.List.{List, [], ◌∷◌}
use mathlib.Core.Logic.{⊎_elim}
use native.Mathlib.Nat.{eq-or-lt_of_le}
use native.Mathlib.Omega.{arith}
use lib.Dec.{leb}
use lib.ListN.{length, get_or}
use borrow.Author.Tests.{eq-eqb, ne_eqb, le-leb, leb-true, lt-leb, not-true, not-false}
use Rattle.answer.specs.Rows.{◌⇒◌, first}
use Rattle.isa.specs.declared.CsrOp.{CsrOp}
use Rattle.isa.specs.declared.Instr.{Instr}
use Rattle.isa.specs.declared.Instr.TheVariants as I
use Rattle.isa.specs.declared.XReg.{XReg}
use Rattle.isa.specs.declared.LoadOp.{LoadOp}
use Rattle.isa.specs.declared.VReg.{VReg}
use Rattle.lanes.specs.declared.Lane.{Lane}
use Rattle.lanes.specs.Lanes.{write_lanes}
use Rattle.std.specs.Prelude.{Some, None}
use Rattle.memory.specs.Memory.{size_of}
use Rattle.memory.specs.Memories.{Contents, Memories, inside_one, load_from}
use Rattle.memory.proofs.Laws.{found_inside, outside_is}
use Rattle.warp.specs.declared.Warp.{Warp}
use Rattle.warp.specs.Warp.{next}
use Rattle.warp.specs.Csr.{is_print, is_rpc, writes_of, csr_done}
use Rattle.layout.specs.Words.{moving_count, flat_count, fixed_in, warp_of}
use Rattle.running.specs.Goes.{next_in, Goes}
use Rattle.running.proofs.Goes.{next_goes}
use Rattle.definition.specs.State.{state, outcome}
use Rattle.definition.specs.Refuse.{no_csr, astray, refusals_of}
use Rattle.definition.specs.Exec.{Effect, goes, writes, stores, effect, effect_of}
use Rattle.definition.specs.Step.{exec_of}
use Rattle.definition.proofs.Tests.{exec_refused, exec_taken}
use Rattle.handlers.specs.Handles.{lists, Handles, puts_in, Lists, lent_state}

-- ---- an instruction, refused or taken

-- a refusal leaves the lists as they are
pub refused : (i : Instr) (n : ℕ) (a : Lists) → (n ≡ 0 → ⊥) → length a.moving ≡ moving_count → length a.splits ≡ flat_count → first (refusals_of i (lent_state a)) ≡ n → Handles (exec_of i) n a a
refused i n a z l r e = record { long = l; room = r; sound = λ o. o; goes = sym (exec_refused i (lent_state a) n z e) }

-- the warp alone goes on
pub moved : (i : Instr) (f : Warp → Warp) (g h x s v : List ℕ) (d : Contents) (h' x' s' : List ℕ) → Goes f g h x s h' x' s' → first (refusals_of i (state (warp_of g h x s) v d)) ≡ 0
    → effect_of i (state (warp_of g h x s) v d) ≡ goes (f (warp_of g h x s)) → Handles (exec_of i) 0 (lists g h x s v d) (lists g h' x' s' v d)
moved i f g h x s v d h' x' s' q e k =
    record {
      long = q.long;
      room = q.room;
      sound = q.sound;
      goes = ap (λ (u : Warp). outcome 0 (state u v d)) q.goes ∙ sym (exec_taken i (state (warp_of g h x s) v d) e ∙ ap (λ (y : Effect). outcome 0 (effect y (state (warp_of g h x s) v d))) k);
    }

-- a value goes to rd
pub given : (i : Instr) (r : XReg) (y c : ℕ) (g h x s v : List ℕ) (d : Contents) (h' x' : List ℕ) → c ≡ 0 → Goes (puts_in r y) g h x s h' x' s → first (refusals_of i (state (warp_of g h x s) v d)) ≡ 0
    → effect_of i (state (warp_of g h x s) v d) ≡ goes (puts_in r y (warp_of g h x s)) → Handles (exec_of i) c (lists g h x s v d) (lists g h' x' s v d)
given i r y c g h x s v d h' x' z q e k = rw z (moved i (puts_in r y) g h x s v d h' x' s q e k)

-- the vector file or a memory changes, and the PC goes to PC + 4
module _ (i : Instr) (g h x s v : List ℕ) (d : Contents) (h' : List ℕ) (z : length h ≡ moving_count) (n : length s ≡ flat_count) (eh : h' ≡ next_in h) (e : first (refusals_of i (state (warp_of g h x s) v d)) ≡ 0) where
  on_goes : Goes next g h x s h' x s
  on_goes = next_goes g h x s z n h' x next eh refl

  pub file_written : (on : Lane → Bool) (r : VReg) (f : Lane → ℕ) (v' : List ℕ) → effect_of i (state (warp_of g h x s) v d) ≡ writes on r f → v' ≡ write_lanes (fixed_in g).numt on r f v
      → Handles (exec_of i) 0 (lists g h x s v d) (lists g h' x s v' d)
  unfolding warp_of
  file_written on r f v' k ev =
      record {
        long = on_goes.long;
        room = on_goes.room;
        sound = on_goes.sound;
        goes = ap₂ (λ (u : Warp) (y : List ℕ). outcome 0 (state u y d)) on_goes.goes ev
            ∙ sym (exec_taken i (state (warp_of g h x s) v d) e ∙ ap (λ (y : Effect). outcome 0 (effect y (state (warp_of g h x s) v d))) k);
      }

  pub data_stored : (d' : Contents) → effect_of i (state (warp_of g h x s) v d) ≡ stores d' → Handles (exec_of i) 0 (lists g h x s v d) (lists g h' x s v d')
  data_stored d' k =
      record {
        long = on_goes.long;
        room = on_goes.room;
        sound = on_goes.sound;
        goes = ap (λ (u : Warp). outcome 0 (state u v d')) on_goes.goes
            ∙ sym (exec_taken i (state (warp_of g h x s) v d) e ∙ ap (λ (y : Effect). outcome 0 (effect y (state (warp_of g h x s) v d))) k);
      }

-- the instruction that a match found
pub told : {i j : Instr} {c : ℕ} {a b : Lists} → i ≡ j → Handles (exec_of j) c a b → Handles (exec_of i) c a b
told e q = rw e q

-- PC + 4 after a move f
pub on_after : (f : Warp → Warp) (g h x s h' x' s' h'' : List ℕ) → Goes f g h x s h' x' s' → h'' ≡ next_in h' → Goes (λ w. next (f w)) g h x s h'' x' s'
on_after f g h x s h' x' s' h'' q e =
    let p = next_goes g h' x' s' q.long q.room h'' x' next e refl in
    record { long = p.long; room = p.room; sound = λ o. p.sound (q.sound o); goes = p.goes ∙ ap next q.goes }

-- ---- a table of one row

module _ (n : ℕ) (t : Bool) where
  pub row_holds : t ≡ true → first (n ⇒ t ∷ []) ≡ n
  row_holds e = rw e

  pub row_silent : t ≡ false → first (n ⇒ t ∷ []) ≡ 0
  row_silent e = rw e

  pub row_fails : t ≡ false → first (n ⇒ not t ∷ []) ≡ n
  row_fails e = rw e

  pub row_passes : t ≡ true → first (n ⇒ not t ∷ []) ≡ 0
  row_passes e = rw e

-- where a jump goes: p is the definition's, q the code's
module _ (p q : ℕ) (e : q ≡ p) where
  pub astray_so : (q % 4 ≡ 0 → ⊥) → astray p ≡ true
  astray_so n = rw (← e, ne_eqb _ _ n)

  pub astray_not : q % 4 ≡ 0 → astray p ≡ false
  astray_not n = rw (← e, eq-eqb _ _ n)

pub both_so : (a b : Bool) → a ≡ true → b ≡ true → (a && b) ≡ true
both_so a b p q = rw (p, q)

pub second_not : (a b : Bool) → b ≡ false → (a && b) ≡ false
second_not true b e = e
second_not false b e = refl

pub first_not : (a b : Bool) → a ≡ false → (a && b) ≡ false
first_not a b e = rw e

-- ---- accesses

-- what a scalar load finds at p, the definition's a
module _ (k : LoadOp) (m : Memories) (p a : ℕ) (e : p ≡ a) where
  pub load_inside : (y : ℕ) → Some y ≡ cond (inside_one m (size_of k) p) (Some (load_from k m p)) None → (inside_one m (size_of k) a ≡ true) × (load_from k m a ≡ y)
  load_inside y q = rw (← e) (let z = found_inside (inside_one m (size_of k) p) y (load_from k m p) q in (z.0, sym z.1))

  pub load_outside : None ≡ cond (inside_one m (size_of k) p) (Some (load_from k m p)) None → inside_one m (size_of k) a ≡ false
  load_outside q = rw (← e) (outside_is (inside_one m (size_of k) p) (load_from k m p) q)

-- ---- 7: which CSR

module _ (o : CsrOp) (n rs1 : ℕ) where
  pub csr_low : n < 0x800 → false ≡ not (no_csr o n rs1)
  csr_low l = rw (lt-leb _ _ l)

  module _ (l : 0x800 ≤ n) where
    pub csr_high : 0x80c < n → false ≡ not (no_csr o n rs1)
    csr_high h = rw (le-leb _ _ l, lt-leb _ _ h)

    module _ (h : n ≤ 0x80c) where
      pub csr_free : 0x80b ≤ n → true ≡ not (no_csr o n rs1)
      csr_free f = rw (le-leb _ _ l, le-leb _ _ h, last_two) (either (writes_of o rs1))
        where
          last_two : (is_print n || is_rpc n) ≡ true
          last_two = ⊎_elim (λ e. rw (eq-eqb _ _ (sym e))) (λ k. rw (eq-eqb n 0x80c (omega arith), or-true)) (eq-or-lt_of_le f)

          either : (b : Bool) → true ≡ not (b && false)
          either true = refl
          either false = refl

      pub csr_fixed : n < 0x80b → (t : Bool) → t ≡ writes_of o rs1 → not t ≡ not (no_csr o n rs1)
      csr_fixed f t e = rw (le-leb _ _ l, le-leb _ _ h, ne_eqb n 0x80b (omega arith), ne_eqb n 0x80c (omega arith), ← e) (both t)
        where
          both : (t : Bool) → not t ≡ not (t && true)
          both true = refl
          both false = refl

-- a CSR that may be read or written is one of the thirteen
pub csr_range : (o : CsrOp) (n rs1 : ℕ) → true ≡ not (no_csr o n rs1) → (0x800 ≤ n) × (n ≤ 0x80c)
csr_range o n rs1 e = go (leb 0x800 n) (leb n 0x80c) refl refl e
  where
    go : (a b : Bool) → leb 0x800 n ≡ a → leb n 0x80c ≡ b → true ≡ not (not (a && b) || (writes_of o rs1 && not (is_print n || is_rpc n))) → (0x800 ≤ n) × (n ≤ 0x80c)
    go true true p q z = (leb-true _ _ p, leb-true _ _ q)
    go true false p q z = absurd (true≢false z)
    go false b p q z = absurd (true≢false z)

-- a CSR word, of either form: by the register a, or by the field i
pub csr_word_lem :
    (b : Bool) (o : CsrOp) (r a : XReg) (i n y : ℕ) (g h x s v : List ℕ) (d : Contents) (h' x' : List ℕ) → true ≡ not (no_csr o n (cond b a.0 i)) → y ≡ cond b (get_or x a.0 0) i
    → Goes (csr_done o n r (cond b a.0 i) y) g h x s h' x' s → Handles (exec_of (cond b (I.Csr o r a n) (I.CsrImm o r i n))) 0 (lists g h x s v d) (lists g h' x' s v d)
unfolding warp_of effect_of refusals_of
csr_word_lem true o r a i n y g h x s v d h' x' t ey q =
    moved (I.Csr o r a n) (csr_done o n r a.0 y) g h x s v d h' x' s q (rw (not-true (no_csr o n a.0) (sym t))) (ap (λ (z : ℕ). goes (csr_done o n r a.0 z (warp_of g h x s))) (sym ey))
csr_word_lem false o r a i n y g h x s v d h' x' t ey q =
    moved (I.CsrImm o r i n) (csr_done o n r i y) g h x s v d h' x' s q (rw (not-true (no_csr o n i) (sym t))) (ap (λ (z : ℕ). goes (csr_done o n r i z (warp_of g h x s))) (sym ey))

pub csr_refused :
    (b : Bool) (o : CsrOp) (r a : XReg) (i n : ℕ) (l : Lists) → length l.moving ≡ moving_count → length l.splits ≡ flat_count → false ≡ not (no_csr o n (cond b a.0 i))
    → Handles (exec_of (cond b (I.Csr o r a n) (I.CsrImm o r i n))) 7 l l
unfolding refusals_of
csr_refused true o r a i n l z m t = refused (I.Csr o r a n) 7 l (λ e. omega arith) z m (rw (not-false (no_csr o n a.0) (sym t)))
csr_refused false o r a i n l z m t = refused (I.CsrImm o r i n) 7 l (λ e. omega arith) z m (rw (not-false (no_csr o n i) (sym t)))
