-- What a handler of lanes asks of the lent words, and what an access by lanes does to them.
use Rattle.std.specs.Prelude.{ℕ, ◌^◌, ◌<◌, ◌≡◌, Bool, cond, List, [], ◌∷◌, ◌++◌, eqb, length}
use Rattle.answer.specs.Rows.{Row, ◌⇒◌, first}
use Rattle.isa.specs.declared.Space.{Space}
use Rattle.isa.specs.Fields.{fields_of}
use Rattle.isa.specs.Wide.{vd_in, vs1_in, vs2_in}
use Rattle.isa.specs.Kinds.{load_op_of, lane_store_op_of}
use Rattle.lanes.specs.declared.Lane.{Lane}
use Rattle.lanes.specs.Mask.{bit}
use Rattle.lanes.specs.Lanes.{file_words, lane_of, write_lanes}
use Rattle.memory.specs.Memory.{size_of, width_of}
use Rattle.memory.specs.Memories.{Contents, load_from}
use Rattle.memory.specs.Address.{lane_address}
use Rattle.memory.specs.LaneAccess.{all_in_word, store_lanes}
use Rattle.warp.specs.Facts.{FixedOk}
use Rattle.layout.specs.Words.{moving_count, mask_in, fixed_in, warp_of}
use Rattle.definition.specs.State.{State, state, memories_in, private_in, lane_at}
use Rattle.definition.specs.Refuse.{access_tests, some_clash}

-- ---- what a handler of lanes asks

-- the lanes of the mask are among the warp's, and the file has its size
pub record LanesAt (mask : ℕ) (g v : List ℕ) : Type 0 where
  pub file : length v ≡ file_words
  pub fixed : FixedOk (fixed_in g)
  pub below : mask < 2 ^ (fixed_in g).numt

pub record Lanes (g h v : List ℕ) : Type 0 where
  pub long : length h ≡ moving_count
  pub at : LanesAt (mask_in h) g v

-- ---- lane accesses: what refuses them, and what is written where nothing does

-- the address of lane l's access by the word w
abbrev pub address_at : Space → ℕ → ℕ → List ℕ → List ℕ → Lane → ℕ
address_at s off w g v = lane_address s (private_in (fixed_in g)) v (vs1_in w) off

-- no active lane's access of n bytes crosses a word boundary
abbrev pub in_words : Space → ℕ → ℕ → ℕ → ℕ → List ℕ → List ℕ → Bool
in_words s n off mask w g v = all_in_word (fixed_in g).numt (bit mask) s n (lane_of v (vs1_in w)) off

-- c is the number of the definition's tests of an access of n bytes, `more` among them, whatever the warp is beside its fixed values and its mask
abbrev pub Tested : (State → List (Row Bool)) → ℕ → Space → ℕ → ℕ → ℕ → ℕ → List ℕ → List ℕ → Contents → Type 0
Tested more c s n off mask w g v d =
    (h x r : List ℕ) → mask_in h ≡ mask → c ≡ first (access_tests s n (vs1_in w) off (state (warp_of g h x r) v d) ++ more (state (warp_of g h x r) v d))

pub record LaneLoad (c : ℕ) (s : Space) (off mask w : ℕ) (g v : List ℕ) (d : Contents) (v' : List ℕ) : Type 0 where
  pub code : Tested (λ m. []) c s (size_of (load_op_of (fields_of w))) off mask w g v d
  pub file : v' ≡ cond (eqb c 0) (write_lanes (fixed_in g).numt (bit mask) (vd_in w) (λ l. load_from (load_op_of (fields_of w)) (memories_in (fixed_in g) d) (address_at s off w g v l)) v) v

-- 15: two lanes clash
abbrev pub clash_row : Space → ℕ → ℕ → State → List (Row Bool)
clash_row s off w m = 15 ⇒ some_clash (lane_store_op_of (fields_of w)) (lane_at s (vs1_in w) off m) (vs2_in w) m ∷ []

pub record LaneStore (c : ℕ) (s : Space) (off mask w : ℕ) (g v : List ℕ) (d d' : Contents) : Type 0 where
  pub code : Tested (clash_row s off w) c s (width_of (lane_store_op_of (fields_of w))) off mask w g v d
  pub bytes : d' ≡ cond (eqb c 0) (store_lanes (fixed_in g).numt (bit mask) (lane_store_op_of (fields_of w)) (address_at s off w g v) (lane_of v (vs2_in w)) (memories_in (fixed_in g) d)) d
