-- What changes of the words do to the warp that they stand for.
use Prim.Native.Nat.{ℕ}
use mathlib.Core.Path.{◌≡◌, refl, ◌∙◌, ap}
use mathlib.Core.Bool.{Bool, true, false, cond}
use mathlib.Core.List.{List}
use lib.ListN.{get_or, set, length, length-set}
use Rattle.isa.specs.declared.CsrOp.{CsrOp}
use Rattle.isa.specs.declared.XReg.{XReg}
use Rattle.isa.specs.Prefix.{prefix}
use Rattle.warp.specs.declared.Warp.{Warp}
use Rattle.warp.specs.Warp.{set_x, with_pc, with_rpc, with_print, with_stop, with_prefix, write_x, next, linked}
use Rattle.warp.specs.Splits.{set_rpc_of}
use Rattle.warp.specs.Csr.{is_print, csr_at, csr_new, csr_done, with_csr, writes_of}
use Rattle.warp.proofs.CsrLaws.{csr_reads, csr_writes}
use Rattle.word.specs.Word.{add_of, extend_of, flag_of}
use Rattle.layout.specs.Words.{moving_count, flat_count, rpc_at, print_at, ended_at, waiting_at, prefix_at, bits_at, pc_in, depth_in, ended_in, waiting_in, warp_of, sound_of}
use Rattle.running.specs.Goes.{go_in, next_in, csr_in, Goes}
use Rattle.layout.proofs.Lists.{moving_cells}
use Rattle.layout.proofs.Splits.{flag_bit, flag_is}
use Rattle.layout.proofs.Words.{sound_parts, sound_whole}

-- ---- one after another

pub goes_then : (f f' : Warp → Warp) (g h x s h' x' s' h'' x'' s'' : List ℕ) → Goes f g h x s h' x' s' → Goes f' g h' x' s' h'' x'' s'' → Goes (λ w. f' (f w)) g h x s h'' x'' s''
goes_then f f' g h x s h' x' s' h'' x'' s'' a b = record { long = b.long; room = b.room; goes = b.goes ∙ ap f' a.goes; sound = λ o. b.sound (a.sound o) }

pub x_warp : (g h x s : List ℕ) (r : XReg) (y : ℕ) → warp_of g h (set_x r y x) s ≡ write_x r y (warp_of g h x s)
unfolding warp_of
x_warp g h x s r y = refl

module _ (g h x s : List ℕ) (z : length h ≡ moving_count) where
  pub go_warp : (p : ℕ) → warp_of g (go_in p h) x s ≡ with_pc p (warp_of g h x s)
  unfolding warp_of
  go_warp p = rw (moving_cells h z)

  pub next_warp : warp_of g (next_in h) x s ≡ next (warp_of g h x s)
  unfolding warp_of
  next_warp = rw (moving_cells h z)

-- ---- PRINT or RPC

csr_warp : (n y : ℕ) (g h x s : List ℕ) → length h ≡ moving_count → warp_of g (csr_in n y h) x s ≡ with_csr n y (warp_of g h x s)
unfolding warp_of
csr_warp n y g h x s z = go (is_print n)
  where
    go : (b : Bool) → warp_of g (cond b (set h print_at y) (set h rpc_at y)) x s ≡ cond b (with_print y (warp_of g h x s)) (with_rpc y (warp_of g h x s))
    go true = rw (moving_cells h z)
    go false = rw (moving_cells h z)

-- the other words are as they were
abbrev Unmoved : List ℕ → List ℕ → Type 0
Unmoved h h' = (length h' ≡ moving_count) × (depth_in h' ≡ depth_in h) × (ended_in h' ≡ ended_in h) × (waiting_in h' ≡ waiting_in h)

csr_keeps : (n y : ℕ) (h : List ℕ) → length h ≡ moving_count → Unmoved h (csr_in n y h)
csr_keeps n y h z = go (is_print n)
  where
    go : (b : Bool) → Unmoved h (cond b (set h print_at y) (set h rpc_at y))
    go true = (simp length-set z, rw (moving_cells h z), rw (moving_cells h z), rw (moving_cells h z))
    go false = (simp length-set z, rw (moving_cells h z), rw (moving_cells h z), rw (moving_cells h z))

csr_last : (n y : ℕ) (r : XReg) (o : ℕ) (w : Warp) → with_csr n y (next (write_x r o w)) ≡ next (write_x r o (with_csr n y w))
csr_last n y r o w = go (is_print n)
  where
    go : (b : Bool) → cond b (with_print y (next (write_x r o w))) (with_rpc y (next (write_x r o w))) ≡ next (write_x r o (cond b (with_print y w) (with_rpc y w)))
    go true = refl
    go false = refl

-- ---- what leaves the splits alone

module _ (g h x s : List ℕ) (z : length h ≡ moving_count) (n : length s ≡ flat_count) (h' x' : List ℕ) where
  -- splits and flags are as they were
  pub still_goes : (f : Warp → Warp) → length h' ≡ moving_count → depth_in h' ≡ depth_in h → ended_in h' ≡ ended_in h → waiting_in h' ≡ waiting_in h
      → warp_of g h' x' s ≡ f (warp_of g h x s) → Goes f g h x s h' x' s
  unfolding sound_of
  still_goes f l d e w o = record { long = l; room = n; goes = o; sound = λ a. rw (d, e, w) a }

  pub go_goes : (f : Warp → Warp) (p : ℕ) → h' ≡ go_in p h → with_pc p (warp_of g h x' s) ≡ f (warp_of g h x s) → Goes f g h x s h' x' s
  go_goes f p eh o = still_goes f (simp (eh, length-set) z) (rw (eh, moving_cells h z)) (rw (eh, moving_cells h z)) (rw (eh, moving_cells h z)) (rw (eh, go_warp g h x' s z p) o)

  pub next_goes : (f : Warp → Warp) → h' ≡ next_in h → next (warp_of g h x' s) ≡ f (warp_of g h x s) → Goes f g h x s h' x' s
  unfolding warp_of
  next_goes f eh o = go_goes f (add_of (pc_in h) 4) eh o

  pub link_goes : (rd : XReg) (p q : ℕ) → q ≡ add_of (pc_in h) 4 → x' ≡ set_x rd q x → h' ≡ go_in p h → Goes (linked rd p) g h x s h' x' s
  unfolding warp_of
  link_goes rd p q eq ex eh = go_goes (linked rd p) p eh (rw (ex, eq))

  -- ---- ENDPRG and BARRIER

  pub stop_goes : (e b : Bool) → h' ≡ set (set h ended_at (flag_of e)) waiting_at (flag_of b) → Goes (with_stop e b) g h x s h' x s
  unfolding warp_of
  stop_goes e b eh =
      record {
        long = simp (eh, length-set) z;
        room = n;
        goes = rw (eh, moving_cells h z, flag_bit e, flag_bit b);
        sound = λ o. let p = sound_parts h s o in
            sound_whole h' s (record { deep = rw (eh, moving_cells h z) p.deep; ended = rw (eh, moving_cells h z) (flag_is e); waiting = rw (eh, moving_cells h z) (flag_is b); phases = p.phases });
      }

  -- ---- SETRPC and CSRs

  pub setrpc_goes : (rd rs1 : XReg) (i y a b : ℕ) → a ≡ get_or x rs1.0 0 → b ≡ extend_of 12 i → y ≡ add_of a b → x' ≡ set_x rd y x → h' ≡ next_in (set h rpc_at y)
      → Goes (set_rpc_of rd rs1 i) g h x s h' x' s
  unfolding warp_of set_rpc_of
  setrpc_goes rd rs1 i y a b ea eb ey ex eh =
      still_goes (set_rpc_of rd rs1 i) (simp (eh, length-set) z) (rw (eh, moving_cells h z)) (rw (eh, moving_cells h z)) (rw (eh, moving_cells h z)) (rw (eh, ex, ey, ea, eb, moving_cells h z))

  module _ (op : CsrOp) (c : ℕ) (rd : XReg) (rs1 y old : ℕ) (eo : old ≡ csr_at c (warp_of g h x s)) (ex : x' ≡ set_x rd old x) where
    pub csr_goes_read : writes_of op rs1 ≡ false → h' ≡ next_in h → Goes (csr_done op c rd rs1 y) g h x s h' x' s
    csr_goes_read t eh =
        next_goes (csr_done op c rd rs1 y) eh (rw (ex, x_warp g h x s rd old, eo) (csr_reads op c rd rs1 y (warp_of g h x s) t))

    pub csr_goes_write : (m : ℕ) (h₁ : List ℕ) → writes_of op rs1 ≡ true → m ≡ csr_new op old y → h₁ ≡ next_in h → h' ≡ csr_in c m h₁ → Goes (csr_done op c rd rs1 y) g h x s h' x' s
    csr_goes_write m h₁ t em e₁ eh =
        let z₁ : length (next_in h) ≡ moving_count = simp length-set z in
        let k = csr_keeps c m (next_in h) z₁ in
        still_goes (csr_done op c rd rs1 y) (rw (eh, e₁) k.0) (rw (eh, e₁, k.1, moving_cells h z)) (rw (eh, e₁, k.2, moving_cells h z)) (rw (eh, e₁, k.3, moving_cells h z))
        (rw (eh, e₁, csr_warp c m g (next_in h) x' s z₁, next_warp g h x' s z, ex, x_warp g h x s rd old, csr_last c m rd old (warp_of g h x s), em, eo) (csr_writes op c rd rs1 y (warp_of g h x s) t))

-- ---- the pending prefix

pub prefix_goes : (g h x s : List ℕ) → length h ≡ moving_count → length s ≡ flat_count → (h' : List ℕ) (k b : ℕ) → h' ≡ set (set h prefix_at k) bits_at b → Goes (with_prefix (prefix k b)) g h x s h' x s
unfolding warp_of
prefix_goes g h x s z n h' k b eh =
    still_goes g h x s z n h' x (with_prefix (prefix k b)) (simp (eh, length-set) z) (rw (eh, moving_cells h z)) (rw (eh, moving_cells h z)) (rw (eh, moving_cells h z)) (rw (eh, moving_cells h z))
