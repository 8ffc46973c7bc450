-- Accesses by the lanes below n that `on` picks; lane l's is at the address that `at` gives it.
use Rattle.std.specs.Prelude.{Bool, ℕ, ◌+◌, eqb}
use Rattle.isa.specs.declared.Space.{Space}
use Rattle.isa.specs.declared.StoreOp.{StoreOp}
use Rattle.lanes.specs.declared.Lane.{Lane}
use Rattle.lanes.specs.Lanes.{each_lane, all_below, all_lanes, ok_if}
use Rattle.memory.specs.Memory.{width_of, has_of, byte_at}
use Rattle.memory.specs.Memories.{Contents, Memories, memories, store_to}
use Rattle.memory.specs.Address.{in_word}

-- lane l makes no access, or one that lies inside: `inside` tells of an address
abbrev pub lane_inside : (Lane → Bool) → (ℕ → Bool) → (Lane → ℕ) → Lane → Bool
lane_inside on inside at l = ok_if (on l) (inside (at l))

-- every active lane's access lies inside
abbrev pub all_inside : ℕ → (Lane → Bool) → (ℕ → Bool) → (Lane → ℕ) → Bool
all_inside n on inside at = all_lanes n (lane_inside on inside at)

-- no active lane's access of w bytes crosses a word boundary of the lane; xs are the lanes' words, to which the offset is added
abbrev pub all_in_word : ℕ → (Lane → Bool) → Space → ℕ → (Lane → ℕ) → ℕ → Bool
all_in_word n on s w xs off = all_lanes n (λ l. ok_if (on l) (in_word s w (xs l) off))

-- two stores, of x at the address a and of y at b, agree: each byte i of the first is the second's, where that has its address too
abbrev pub agree_at : StoreOp → ℕ → ℕ → ℕ → ℕ → ℕ → Bool
agree_at k a x b y i = ok_if (has_of (width_of k) b (a + i)) (eqb (byte_at k a x (a + i)) (byte_at k b y (a + i)))

unfoldable pub agree_of : StoreOp → ℕ → ℕ → ℕ → ℕ → Bool
agree_of k a x b y = all_below (width_of k) (agree_at k a x b y)

-- no two active lanes store different values to one byte: each one's store of its word of xs agrees with each one's
abbrev pub all_agree : ℕ → (Lane → Bool) → StoreOp → (Lane → ℕ) → (Lane → ℕ) → Bool
all_agree n on k at xs = all_lanes n (λ l. ok_if (on l) (all_lanes n (λ h. ok_if (on h) (agree_of k (at l) (xs l) (at h) (xs h)))))

-- the bytes after a store of the words xs, one lane's after another's; where all agree, their order makes no difference
abbrev pub store_lanes : ℕ → (Lane → Bool) → StoreOp → (Lane → ℕ) → (Lane → ℕ) → Memories → Contents
store_lanes n on k at xs m = each_lane n on (λ l e. store_to k (at l) (xs l) (memories m.dataBase m.lds e)) m.bytes
