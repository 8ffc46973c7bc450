-- What the words do at a split, and the warp that they stand for.
use Prim.Native.Nat.{ℕ, ◌+◌, ◌-◌, ◌<◌, ◌≤◌}
use mathlib.Core.Path.{◌≡◌, sym, ◌∙◌, ap}
use mathlib.Core.Bool.{true, false}
use mathlib.Core.List.{List}
use native.Mathlib.Omega.{arith}
use lib.ListN.{set, length, length-set}
use lib.Bits.{bit_and, and_le_r}
use lib.Count.{ones}
use Rattle.warp.specs.declared.Split.{Split}
use Rattle.warp.specs.declared.Warp.{Warp}
use Rattle.lanes.specs.Lanes.{lanes_max}
use Rattle.warp.specs.Warp.{split_count, zero_split, with_pc, with_splits}
use Rattle.warp.specs.Splits.{opened, open_of, parted, last_split, turned, turn_of, close_of, join_of}
use Rattle.warp.proofs.SplitLaws.{join_none, join_off, join_turn, join_close, parted_none, parted_all, parted_opens}
use Rattle.warp.proofs.Moves.{cut_two}
use Rattle.word.specs.Word.{add_of}
use Rattle.layout.specs.Words.{moving_count, flat_count, pc_in, mask_in, rpc_in, depth_in, split_at, warp_of}
use Rattle.running.specs.Goes.{go_in, next_in, resume_in, Goes}
use Rattle.layout.specs.Lent.{put_split}
use Rattle.layout.proofs.Lists.{moving_cells}
use Rattle.layout.proofs.Splits.{splits_get, splits_set, phases_put}
use Rattle.layout.proofs.Words.{sound_parts, sound_whole}
use Rattle.running.proofs.Goes.{go_goes, next_goes}

-- ---- splits

-- the split records with q at k, and other splits, mask and PC
module _ (g h x s : List ℕ) (z : length h ≡ moving_count) (n : length s ≡ flat_count) (h' s' : List ℕ) (d m p : ℕ) (eh : h' ≡ resume_in d m p h) (le : d ≤ split_count)
    (k : ℕ) (q : Split) (es : s' ≡ put_split s k q) (lt : k < split_count) where
  put_goes : (f : Warp → Warp) → with_pc p (with_splits (set (warp_of g h x s).splits k q) d m (warp_of g h x s)) ≡ f (warp_of g h x s) → Goes f g h x s h' x s'
  unfolding warp_of
  put_goes f o =
      record {
        long = simp (eh, length-set) z;
        room = ap length es ∙ simp length-set n;
        goes = rw (es, splits_set s k q lt n, eh, moving_cells h z) o;
        sound = λ a. let c = sound_parts h s a in
            sound_whole h' s' (record { deep = rw (eh, moving_cells h z) le; ended = rw (eh, moving_cells h z) c.ended; waiting = rw (eh, moving_cells h z) c.waiting; phases = rw es (phases_put s k q lt n c.phases) });
      }

module _ (g h x s : List ℕ) (z : length h ≡ moving_count) (n : length s ≡ flat_count) (h' : List ℕ) where
  pub open_goes : (s' : List ℕ) (e p q : ℕ) → depth_in h < split_count → h' ≡ resume_in (depth_in h + 1) (mask_in h - e) q h → q ≡ add_of (pc_in h) 4
      → s' ≡ put_split s (depth_in h) (record { rpc = rpc_in h; full = mask_in h; elseMask = e; elsePc = p; phaseTwo = false })
      → Goes (open_of e p) g h x s h' x s'
  unfolding warp_of open_of
  open_goes s' e p q d eh eq es =
      put_goes g h x s z n h' s' (depth_in h + 1) (mask_in h - e) q eh (omega arith) (depth_in h) (opened e p (warp_of g h x s)) es d (open_of e p) (rw eq)

  -- JOIN at the last split, q
  module _ (d : depth_in h ≤ split_count) (o : depth_in h ≡ 0 → ⊥) (q : Split) (is : q ≡ split_at s (depth_in h - 1)) where
    last_is : last_split (warp_of g h x s) ≡ q
    unfolding warp_of
    last_is = splits_get s (depth_in h - 1) (omega arith) ∙ sym is

    pub join_goes_off : (pc_in h ≡ q.rpc → ⊥) → h' ≡ next_in h → Goes join_of g h x s h' x s
    unfolding warp_of
    join_goes_off p eh = next_goes g h x s z n h' x join_of eh (join_off (warp_of g h x s) o (λ e. p (e ∙ ap (λ (q : Split). q.rpc) last_is)))

    module _ (p : pc_in h ≡ q.rpc) (s' : List ℕ) where
      at_rpc : pc_in h ≡ (last_split (warp_of g h x s)).rpc
      at_rpc = p ∙ sym (ap (λ (q : Split). q.rpc) last_is)

      pub join_goes_close : q.phaseTwo ≡ true → h' ≡ resume_in (depth_in h - 1) q.full (pc_in h) h → s' ≡ put_split s (depth_in h - 1) zero_split → Goes join_of g h x s h' x s'
      unfolding warp_of
      join_goes_close y eh es =
          let w : Warp = warp_of g h x s in
          put_goes g h x s z n h' s' (depth_in h - 1) q.full (pc_in h) eh (omega arith) (depth_in h - 1) zero_split es (omega arith) join_of
          (ap (λ (q : Split). close_of q w) (sym last_is) ∙ join_close w o at_rpc (ap (λ (q : Split). q.phaseTwo) last_is ∙ y))

      pub join_goes_turn : q.phaseTwo ≡ false → h' ≡ resume_in (depth_in h) q.elseMask q.elsePc h → s' ≡ put_split s (depth_in h - 1) (turned q) → Goes join_of g h x s h' x s'
      unfolding warp_of
      join_goes_turn y eh es =
          let w : Warp = warp_of g h x s in
          put_goes g h x s z n h' s' (depth_in h) q.elseMask q.elsePc eh d (depth_in h - 1) (turned q) es (omega arith) join_of
          (ap (λ (q : Split). turn_of q w) (sym last_is) ∙ join_turn w o at_rpc (ap (λ (q : Split). q.phaseTwo) last_is ∙ y))

pub join_goes_none : (g h x s : List ℕ) → length h ≡ moving_count → length s ≡ flat_count → (h' : List ℕ) → depth_in h ≡ 0 → h' ≡ next_in h → Goes join_of g h x s h' x s
unfolding warp_of
join_goes_none g h x s z n h' d eh = next_goes g h x s z n h' x join_of eh (join_none (warp_of g h x s) d)

-- ---- VBRANCH

-- two lanes at least disagree, so that there is room for a split
pub part_fits : (h : List ℕ) (e : ℕ) → depth_in h + ones (mask_in h) ≤ lanes_max → bit_and e (mask_in h) ≡ e → (e ≡ 0 → ⊥) → (e ≡ mask_in h → ⊥)
    → (depth_in h < split_count) × (e ≤ mask_in h)
part_fits h e r i z m = (omega (arith, cut_two e (mask_in h) i z m), omega (arith, and_le_r e (mask_in h)))

module _ (g h x s : List ℕ) (z : length h ≡ moving_count) (n : length s ≡ flat_count) (h' : List ℕ) (e p : ℕ) where
  pub part_goes_none : e ≡ 0 → h' ≡ next_in h → Goes (parted e p) g h x s h' x s
  part_goes_none o eh = next_goes g h x s z n h' x (parted e p) eh (parted_none e p (warp_of g h x s) o)

  pub part_goes_all : (e ≡ 0 → ⊥) → e ≡ mask_in h → h' ≡ go_in p h → Goes (parted e p) g h x s h' x s
  unfolding warp_of
  part_goes_all o m eh = go_goes g h x s z n h' x (parted e p) p eh (parted_all e p (warp_of g h x s) o m)

  pub part_goes_open : (s' : List ℕ) → (e ≡ 0 → ⊥) → (e ≡ mask_in h → ⊥) → Goes (open_of e p) g h x s h' x s' → Goes (parted e p) g h x s h' x s'
  unfolding warp_of
  part_goes_open s' o m k = record { long = k.long; room = k.room; goes = k.goes ∙ parted_opens e p (warp_of g h x s) o m; sound = k.sound }
