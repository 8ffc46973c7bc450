-- What the functions that move a warp's words do.
use Rattle.std.specs.Prelude.{ℕ, ◌≡◌, true, cond, List, set, length}
use Rattle.warp.specs.declared.Warp.{Warp}
use Rattle.warp.specs.Csr.{is_print}
use Rattle.word.specs.Word.{add_of}
use Rattle.layout.specs.Words.{flat_count, moving_count, depth_at, pc_at, mask_at, rpc_at, print_at, pc_in, warp_of, sound_of}

abbrev pub go_in : ℕ → List ℕ → List ℕ
go_in p h = set h pc_at p

abbrev pub next_in : List ℕ → List ℕ
next_in h = go_in (add_of (pc_in h) 4) h

-- the moving words with d open splits, the mask m and the PC p
abbrev pub resume_in : ℕ → ℕ → ℕ → List ℕ → List ℕ
resume_in d m p h = go_in p (set (set h depth_at d) mask_at m)

-- the moving words with y in CSR n, which is PRINT or RPC
abbrev pub csr_in : ℕ → ℕ → List ℕ → List ℕ
csr_in n y h = cond (is_print n) (set h print_at y) (set h rpc_at y)

-- The words h, x and s become h', x' and s', and the warp that they stand for goes as f says; a warp's words stay a warp's.
pub record Goes (f : Warp → Warp) (g h x s h' x' s' : List ℕ) : Type 0 where
  pub long : length h' ≡ moving_count
  pub room : length s' ≡ flat_count
  pub goes : warp_of g h' x' s' ≡ f (warp_of g h x s)
  pub sound : sound_of h s ≡ true → sound_of h' s' ≡ true
