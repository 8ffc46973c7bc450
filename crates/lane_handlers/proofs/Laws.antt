-- From what the callees do with the lent words to what the definition says of the state that they stand for.
use Prim.Native.Nat.{ℕ, ◌%◌, ◌^◌, ◌<◌, ◌≤◌}
use mathlib.Core.Path.{◌≡◌, refl, sym, ap, ap₂, ◌∙◌}
use mathlib.Core.Bool.{Bool, true, false, not, ◌&&◌, cond}
use mathlib.Core.List.{List, [], ◌∷◌}
use native.Mathlib.Omega.{arith}
use lib.Dec.{eqb}
use lib.ListN.{length}
use borrow.Author.Tests.{eqb-true, eqb-false, not-false}
use Rattle.answer.specs.Rows.{Row, ◌⇒◌, first}
use Rattle.isa.specs.declared.Instr.{Instr}
use Rattle.isa.specs.declared.Instr.TheVariants as I
use Rattle.isa.specs.declared.LoadOp.{LoadOp}
use Rattle.isa.specs.declared.StoreOp.{StoreOp}
use Rattle.isa.specs.declared.VReg.{VReg}
use Rattle.isa.specs.declared.Space.{Space}
use Rattle.isa.specs.Fields.{Fields, fields_of}
use Rattle.isa.specs.Wide.{vd_in, vs1_in, vs2_in}
use Rattle.isa.specs.Kinds.{load_op_of, lane_store_op_of}
use Rattle.lanes.specs.declared.Lane.{Lane}
use Rattle.lanes.specs.Mask.{bit}
use Rattle.lanes.specs.Lanes.{lanes_max, lane_of, write_lanes, mask_of}
use Rattle.lanes.proofs.MaskLaws.{mask_lt, each_mask}
use Rattle.lanes.specs.Rows.{RowOf, at}
use Rattle.memory.specs.declared.Private.{Private}
use Rattle.memory.specs.Address.{lane_address}
use Rattle.memory.specs.Memory.{size_of, width_of}
use Rattle.memory.specs.Memories.{Contents, Memories, inside_one, load_from}
use Rattle.memory.specs.LaneAccess.{all_inside, all_in_word, all_agree}
use Rattle.memory.proofs.Agree.{agree_only}
use Rattle.memory.proofs.Laws.{inside_only, load_only, store_only}
use Rattle.lane_memory.specs.Stores.{Stored}
use Rattle.layout.specs.Words.{moving_count, flat_count, mask_in, fixed_in, warp_of}
use Rattle.running.specs.Goes.{next_in}
use Rattle.definition.specs.State.{State, state, memories_in, private_in, lane_at}
use Rattle.definition.proofs.Tests.{crosses_first, crosses_not}
use Rattle.definition.specs.Refuse.{astray, some_clash, refusals_of}
use Rattle.definition.specs.Exec.{effect_of}
use Rattle.definition.specs.Step.{exec_of}
use Rattle.handlers.specs.Handles.{Lists, lists, lent_state, Handles}
use Rattle.lane_handlers.specs.Lanes.{LanesAt, LaneLoad, LaneStore, address_at, in_words, Tested}
use Rattle.handlers.proofs.Laws.{refused, file_written, data_stored}

-- VBRANCH's test, of the code's e and p
pub split_test : (e e' p p' : ℕ) (t : Bool) → e ≡ e' → p ≡ p' → (not (eqb e 0) && not (eqb (p % 4) 0)) ≡ t → (not (eqb e' 0) && astray p') ≡ t
split_test e e' p p' t a b h = rw (← a, ← b) h

-- ---- the lanes

-- the code counts n threads: the mask's lanes are among them
pub lanes_fit : {n mask : ℕ} {g v : List ℕ} → LanesAt mask g v → n ≡ (fixed_in g).numt → (n ≤ lanes_max) × (mask < 2 ^ n)
lanes_fit r e = (omega (arith, e, r.fixed.lanes.1), rw e r.below)

-- a lane writer that was given the mask of the lanes that `on` picks writes those lanes
pub by_mask : (on : Lane → Bool) (n n' m : ℕ) (d d' : VReg) (f : Lane → ℕ) (v : List ℕ) → n ≡ n' → m ≡ mask_of n' on → d ≡ d' → write_lanes n (bit m) d f v ≡ write_lanes n' on d' f v
by_mask on n n' m d d' f v p q r = rw (p, q, r) (each_mask on _ v n')

pub mask_fits : (on : Lane → Bool) (n n' m : ℕ) → n ≡ n' → m ≡ mask_of n' on → m < 2 ^ n
mask_fits on n n' m p q = rw (p, q) (mask_lt on n')

-- the one row of a masked word
pub mask_refuses : (t : Bool) → t ≡ true → first (6 ⇒ t ∷ []) ≡ 6
mask_refuses t e = rw e

pub mask_passes : (t : Bool) → t ≡ false → first (6 ⇒ t ∷ []) ≡ 0
mask_passes t e = rw e

-- ---- accesses

-- the code's threads n, register b and launch values p are those of the word and the fixed words, so the callees' contracts speak of these
module _ (s : Space) (off w : ℕ) (g v : List ℕ) {n : ℕ} {b : VReg} (en : n ≡ (fixed_in g).numt) (eb : b ≡ vs1_in w) where
  pub words_told : (mask size : ℕ) → all_in_word n (bit mask) s size (lane_of v b) off ≡ in_words s size off mask w g v
  words_told mask size = rw (en, eb)

  pub row_told : {p : Private} (o : List ℕ) → p ≡ private_in (fixed_in g) → RowOf n (lane_address s p v b off) o → RowOf (fixed_in g).numt (address_at s off w g v) o
  row_told o ep r = rw (en, ep, eb) at r

-- the boundary test t of an access of z bytes
module _ (s : Space) (size off mask w : ℕ) (g v : List ℕ) (d : Contents) {z : ℕ} {t : Bool} (ez : z ≡ size) (q : t ≡ not (in_words s z off mask w g v)) where
  pub crossed : (more : State → List (Row Bool)) → t ≡ true → Tested more 14 s size off mask w g v d
  unfolding warp_of
  crossed more e h x r eh = let m = state (warp_of g h x r) v d in sym (crosses_first s size (vs1_in w) off m (more m) (rw (eh, ← ez) (sym q ∙ e)))

  pub not_crossed : t ≡ false → in_words s size off mask w g v ≡ true
  not_crossed e = rw (← ez) (not-false (in_words s z off mask w g v) (sym q ∙ e))

-- what is written where the access is made
made_so : {A : Type 0} (t : Bool) (c : ℕ) (new old u : A) → c ≡ first (9 ⇒ not t ∷ []) → u ≡ cond t new old → u ≡ cond (eqb c 0) new old
made_so true c new old u k e = rw k e
made_so false c new old u k e = rw k e

-- no access crosses, and the addresses stand in a row o; the code has n threads
module _ (s : Space) (off mask w : ℕ) (g v : List ℕ) (d : Contents) (o : List ℕ) {n : ℕ} (en : n ≡ (fixed_in g).numt) (r : RowOf (fixed_in g).numt (address_at s off w g v) o) where
  abbrev Both : Memories
  Both = memories_in (fixed_in g) d

  abbrev At : Lane → ℕ
  At = address_at s off w g v

  there : (l : Lane) → l.0 < n → bit mask l ≡ true → at o l ≡ At l
  there l h i = r.1 l (rw en at h)

  -- what the tests of the row are to the definition, whose mask is the same
  inside_told : (size m : ℕ) → m ≡ mask → all_inside n (bit mask) (inside_one Both size) (at o) ≡ all_inside (fixed_in g).numt (bit m) (inside_one Both size) At
  inside_told size m e = inside_only n (bit mask) Both (at o) At there size ∙ ap₂ (λ (j k : ℕ). all_inside j (bit k) (inside_one Both size) At) en (sym e)

  agree_told : (k : StoreOp) (rs : VReg) (m : ℕ) → m ≡ mask → all_agree n (bit mask) k (at o) (lane_of v rs) ≡ all_agree (fixed_in g).numt (bit m) k At (lane_of v rs)
  agree_told k rs m e = agree_only n (bit mask) k (at o) At (lane_of v rs) (lane_of v rs) there (λ l h i. refl) ∙ ap₂ (λ (j b : ℕ). all_agree j (bit b) k At (lane_of v rs)) en (sym e)

  pub loaded_row : {k : LoadOp} {rd : VReg} {v' : List ℕ} {t : Bool} {c : ℕ} → c ≡ first (9 ⇒ not t ∷ []) → k ≡ load_op_of (fields_of w) → rd ≡ vd_in w → in_words s (size_of k) off mask w g v ≡ true
      → (t ≡ all_inside n (bit mask) (inside_one Both (size_of k)) (at o)) × (v' ≡ cond t (write_lanes n (bit mask) rd (λ l. load_from k Both (at o l)) v) v) → LaneLoad c s off mask w g v d v'
  unfolding warp_of
  loaded_row {k} {rd} {v'} {t} {c} m ek ed e q =
      record {
        code = rw ek at tested;
        file = made_so t c _ v _ m (rw (en, ek, ed) at (q.1 ∙ ap (λ (u : List ℕ). cond t u v) (load_only n (bit mask) Both (at o) At there k rd v)));
      }
    where
      tested : Tested (λ m. []) c s (size_of k) off mask w g v d
      tested h x y eh =
          m ∙ ap (λ (b : Bool). first (9 ⇒ not b ∷ [])) (q.0 ∙ inside_told (size_of k) (mask_in h) eh)
          ∙ sym (crosses_not s (size_of k) (vs1_in w) off (state (warp_of g h x y) v d) [] (rw (eh, e)))

  pub stored_row : {k : StoreOp} {rs : VReg} {d' : Contents} {c : ℕ} → k ≡ lane_store_op_of (fields_of w) → rs ≡ vs2_in w → in_words s (width_of k) off mask w g v ≡ true
      → Stored c n mask k (at o) (lane_of v rs) Both d' → LaneStore c s off mask w g v d d'
  unfolding warp_of
  stored_row {k} {rs} {d'} {c} ek es e q =
      record {
        code = rw (ek, es) at tested;
        bytes = rw (en, ek, es) at (q.bytes ∙ ap (λ (u : Contents). cond (eqb c 0) u d) (store_only n (bit mask) Both (at o) At there k (lane_of v rs) (lane_of v rs) (λ l h i. refl)));
      }
    where
      tested : Tested (λ m. 15 ⇒ some_clash k (lane_at s (vs1_in w) off m) rs m ∷ []) c s (width_of k) off mask w g v d
      tested h x y eh =
          q.code ∙ ap₂ (λ (b f : Bool). first (9 ⇒ not b ∷ 15 ⇒ not f ∷ [])) (inside_told (width_of k) (mask_in h) eh) (agree_told k rs (mask_in h) eh)
          ∙ sym (crosses_not s (width_of k) (vs1_in w) off (state (warp_of g h x y) v d) (15 ⇒ some_clash k At rs (state (warp_of g h x y) v d) ∷ []) (rw (eh, e)))

-- an access by lanes is refused or done: c is its answer, and `put` takes the moving words and what it changes
module _ {A : Type 0} (i : Instr) (put : List ℕ → A → Lists) (c : ℕ) (h h' : List ℕ) (new old u : A) (z : length (put h old).moving ≡ moving_count) (n : length (put h old).splits ≡ flat_count) where
  lane_arm : (a : ℕ) → a ≡ first (refusals_of i (lent_state (put h old))) → (c ≡ a) × (h' ≡ cond (eqb a 0) (next_in h) h) → u ≡ cond (eqb a 0) new old
      → (first (refusals_of i (lent_state (put h old))) ≡ 0 → Handles (exec_of i) 0 (put h old) (put (next_in h) new)) → Handles (exec_of i) c (put h old) (put h' u)
  lane_arm a rows o eu done = go (eqb a 0) refl o.1 eu
    where
      go : (t : Bool) → eqb a 0 ≡ t → h' ≡ cond t (next_in h) h → u ≡ cond t new old → Handles (exec_of i) c (put h old) (put h' u)
      go true e eh e' = rw (o.0, eqb-true a 0 e, eh, e') (done (sym rows ∙ eqb-true a 0 e))
      go false e eh e' = rw (o.0, eh, e') (refused i a (put h old) (eqb-false a 0 e) z n (sym rows))

module _ (a : ℕ) (s : Space) (off w c : ℕ) (g h x r v : List ℕ) (d : Contents) (h' : List ℕ) (z : length h ≡ moving_count) (n : length r ≡ flat_count)
    (o : (c ≡ a) × (h' ≡ cond (eqb a 0) (next_in h) h)) where
  abbrev F : Fields
  F = fields_of w

  pub lane_load_arm : (v' : List ℕ) → LaneLoad a s off (mask_in h) w g v d v'
      → Handles (exec_of (I.VLoad s (load_op_of F) (vd_in w) (vs1_in w) off)) c (lists g h x r v d) (lists g h' x r v' d)
  unfolding warp_of effect_of refusals_of
  lane_load_arm v' q =
      let i = I.VLoad s (load_op_of F) (vd_in w) (vs1_in w) off in
      lane_arm i (λ h v. lists g h x r v d) c h h' _ v v' z n a (q.code h x r refl) o q.file
      (λ e. file_written i g h x r v d (next_in h) z n refl e (bit (mask_in h)) (vd_in w) _ _ refl refl)

  pub lane_store_arm : (d' : Contents) → LaneStore a s off (mask_in h) w g v d d'
      → Handles (exec_of (I.VStore s (lane_store_op_of F) (vs1_in w) (vs2_in w) off)) c (lists g h x r v d) (lists g h' x r v d')
  unfolding warp_of effect_of refusals_of
  lane_store_arm d' q =
      let i = I.VStore s (lane_store_op_of F) (vs1_in w) (vs2_in w) off in
      lane_arm i (λ h d. lists g h x r v d) c h h' _ d d' z n a (q.code h x r refl) o q.bytes
      (λ e. data_stored i g h x r v d (next_in h) z n refl e _ refl)
