-- A warp as words: x the scalar registers, s the split records, h what moves, g what a launch fixed. A saved state has them in this order.
use Rattle.std.specs.Prelude.{ℕ, zero, suc, ◌+◌, ◌*◌, Bool, true, not, ◌&&◌, List, [], ◌∷◌, ◌++◌, eqb, leb, length, get_or, take, drop}
use Rattle.answer.specs.Rows.{every}
use Rattle.word.specs.Word.{flag_of}
use Rattle.warp.specs.declared.Split.{Split}
use Rattle.warp.specs.declared.Fixed.{Fixed}
use Rattle.warp.specs.declared.Warp.{Warp}
use Rattle.isa.specs.Bounds.{scalar_registers}
use Rattle.isa.specs.declared.Prefix.{Prefix}
use Rattle.isa.specs.Prefix.{prefix}
use Rattle.warp.specs.Warp.{split_count}

-- ---- how many words

-- a split record, and all of them
abbrev pub split_size : ℕ
split_size = 5

abbrev pub flat_count : ℕ
flat_count = split_count * split_size

abbrev pub moving_count : ℕ
moving_count = 9

abbrev pub fixed_count : ℕ
fixed_count = 13

-- where the last two parts of a saved state begin, and where it ends
abbrev pub moving_start : ℕ
moving_start = scalar_registers + flat_count

abbrev pub fixed_start : ℕ
fixed_start = moving_start + moving_count

abbrev pub state_words : ℕ
state_words = fixed_start + fixed_count

-- a run has the length of a state
abbrev pub is_state : List ℕ → Bool
is_state t = eqb (length t) state_words

-- ---- the warp that words stand for

-- ended, waiting and a phase as words: whether one is set, and whether it is 0 or 1 at all
abbrev pub is_set : ℕ → Bool
is_set n = not (eqb n 0)

abbrev pub is_flag : ℕ → Bool
is_flag n = leb n 1

-- the places of the moving words
abbrev pub depth_at : ℕ
depth_at = 0

abbrev pub pc_at : ℕ
pc_at = 1

abbrev pub mask_at : ℕ
mask_at = 2

abbrev pub rpc_at : ℕ
rpc_at = 3

abbrev pub print_at : ℕ
print_at = 4

abbrev pub ended_at : ℕ
ended_at = 5

abbrev pub waiting_at : ℕ
waiting_at = 6

abbrev pub prefix_at : ℕ
prefix_at = 7

abbrev pub bits_at : ℕ
bits_at = 8

abbrev pub depth_in : List ℕ → ℕ
depth_in h = get_or h depth_at 0

abbrev pub pc_in : List ℕ → ℕ
pc_in h = get_or h pc_at 0

abbrev pub mask_in : List ℕ → ℕ
mask_in h = get_or h mask_at 0

abbrev pub rpc_in : List ℕ → ℕ
rpc_in h = get_or h rpc_at 0

abbrev pub print_in : List ℕ → ℕ
print_in h = get_or h print_at 0

abbrev pub ended_in : List ℕ → ℕ
ended_in h = get_or h ended_at 0

abbrev pub waiting_in : List ℕ → ℕ
waiting_in h = get_or h waiting_at 0

abbrev pub prefix_in : List ℕ → Prefix
prefix_in h = prefix (get_or h prefix_at 0) (get_or h bits_at 0)

abbrev pub fixed_in : List ℕ → Fixed
fixed_in g =
    record {
      numt = get_or g 0 0;
      numw = get_or g 1 0;
      wid = get_or g 2 0;
      launchMask = get_or g 3 0;
      codeBase = get_or g 4 0;
      dataBase = get_or g 5 0;
      knl = get_or g 6 0;
      wgid = get_or g 7 0;
      lds = get_or g 8 0;
      pds = get_or g 9 0;
      gidx = get_or g 10 0;
      gidy = get_or g 11 0;
      gidz = get_or g 12 0;
    }

-- split k's phase: 0 one, 1 two
abbrev pub phase_at : List ℕ → ℕ → ℕ
phase_at s k = get_or s (k * split_size + 4) 0

abbrev pub split_at : List ℕ → ℕ → Split
split_at s k =
    record {
      rpc = get_or s (k * split_size) 0;
      full = get_or s (k * split_size + 1) 0;
      elseMask = get_or s (k * split_size + 2) 0;
      elsePc = get_or s (k * split_size + 3) 0;
      phaseTwo = is_set (phase_at s k);
    }

-- the first n splits
unfoldable pub splits_of : ℕ → List ℕ → List Split
splits_of zero s = []
splits_of (suc n) s = split_at s 0 ∷ splits_of n (drop split_size s)

abbrev pub splits_in : List ℕ → List Split
splits_in s = splits_of split_count s

unfoldable pub warp_of : List ℕ → List ℕ → List ℕ → List ℕ → Warp
warp_of g h x s =
    record {
      x = x;
      splits = splits_in s;
      depth = depth_in h;
      pc = pc_in h;
      mask = mask_in h;
      rpc = rpc_in h;
      print = print_in h;
      ended = is_set (ended_in h);
      waiting = is_set (waiting_in h);
      prefix = prefix_in h;
      fixed = fixed_in g;
    }

-- the phases of the first n splits are 0 or 1
unfoldable pub phases_ok_of : ℕ → List ℕ → Bool
phases_ok_of zero s = true
phases_ok_of (suc n) s = is_flag (phase_at s n) && phases_ok_of n s

-- words that stand for a warp and are its words: flags and phases are 0 or 1, and there is room for the open splits
unfoldable pub sound_of : List ℕ → List ℕ → Bool
sound_of h s = every (leb (depth_in h) split_count ∷ is_flag (ended_in h) ∷ is_flag (waiting_in h) ∷ phases_ok_of split_count s ∷ [])

-- ---- a warp's words

abbrev pub split_words : Split → List ℕ
split_words q = q.rpc ∷ q.full ∷ q.elseMask ∷ q.elsePc ∷ flag_of q.phaseTwo ∷ []

unfoldable pub splits_words : List Split → List ℕ
splits_words [] = []
splits_words (q ∷ qs) = split_words q ++ splits_words qs

abbrev pub moving_words : Warp → List ℕ
moving_words w = w.depth ∷ w.pc ∷ w.mask ∷ w.rpc ∷ w.print ∷ flag_of w.ended ∷ flag_of w.waiting ∷ w.prefix.kind ∷ w.prefix.bits ∷ []

abbrev pub fixed_words : Fixed → List ℕ
fixed_words f =
    f.numt ∷ f.numw ∷ f.wid ∷ f.launchMask ∷ f.codeBase ∷ f.dataBase ∷ f.knl ∷ f.wgid ∷ f.lds ∷ f.pds ∷ f.gidx ∷ f.gidy ∷ f.gidz ∷ []

-- ---- a saved state

unfoldable pub words_of : Warp → List ℕ
words_of w = w.x ++ splits_words w.splits ++ moving_words w ++ fixed_words w.fixed

abbrev pub scalar_part : List ℕ → List ℕ
scalar_part t = take scalar_registers t

abbrev pub split_part : List ℕ → List ℕ
split_part t = take flat_count (drop scalar_registers t)

abbrev pub moving_part : List ℕ → List ℕ
moving_part t = take moving_count (drop moving_start t)

abbrev pub fixed_part : List ℕ → List ℕ
fixed_part t = take fixed_count (drop fixed_start t)

abbrev pub warp_in : List ℕ → Warp
warp_in t = warp_of (fixed_part t) (moving_part t) (scalar_part t) (split_part t)

abbrev pub sound_in : List ℕ → Bool
sound_in t = sound_of (moving_part t) (split_part t)
