-- A group by value: room for 32 warps, of which the first `count` are the group's.
use Rattle.std.specs.Prelude.{ℕ, ◌<◌, ◌≡◌, Bool, false, cond, List, [], leb, length, get_or, take, drop}
use Rattle.isa.specs.Prefix.{no_prefix}
use Rattle.memory.specs.Memories.{Contents}
use Rattle.warp.specs.declared.Warp.{Warp}
use Rattle.warp.specs.Warp.{split_count, zero_fixed}
use Rattle.layout.specs.declared.WarpWords.{WarpWords}
use Rattle.layout.specs.Words.{fixed_words}
use Rattle.layout.specs.Parts.{parts_of}
use Rattle.group.specs.Group.{group}
use Rattle.group.specs.Group as G
use Rattle.group.specs.GroupRefuse.{warps_limit}
use Rattle.group.specs.GroupCalls.{GroupOutcome, group_outcome, group_step_of, GroupRan, group_ran, group_run_of}
use Rattle.group_words.specs.Row.{words_at}
use Rattle.group_machine.specs.declared.Group.{Group}

-- the definition's group that g stands for, with the lent runs
abbrev pub held : Group → List ℕ → Contents → G.Group
held g v c = group g.turn (take g.count g.warps) v c

-- a step and a run are the definition's; a count that there is no room for is refused
unfoldable pub held_step_of : List ℕ → Group → List ℕ → Contents → GroupOutcome
held_step_of k g v c = cond (leb g.count warps_limit) (group_step_of k (held g v c)) (group_outcome 1 0 (held g v c))

unfoldable pub held_run_of : List ℕ → ℕ → Group → List ℕ → Contents → GroupRan
held_run_of k b g v c = cond (leb g.count warps_limit) (group_run_of k b (held g v c)) (group_ran 0 (group_outcome 1 0 (held g v c)))

-- what no call changes: how many warps there are, and those past the count
pub record Kept (g g' : Group) : Type 0 where
  pub count : g'.count ≡ g.count
  pub room : length g'.warps ≡ length g.warps
  pub rest : drop g.count g'.warps ≡ drop g.count g.warps

-- ---- the warps' words

-- what get_or gives past the end of a list, spelled as the prover spells it (an array is [] there)
abbrev pub no_warp : Warp
no_warp =
    record { x = []; splits = []; depth = 0; pc = 0; mask = 0; rpc = 0; print = 0; ended = false; waiting = false; prefix = no_prefix; fixed = zero_fixed }

-- there is room for its open splits
abbrev pub is_shallow : Warp → Bool
is_shallow w = leb w.depth split_count

-- the fixed words of the first n warps
abbrev pub Fixeds : ℕ → List Warp → List WarpWords → Type 0
Fixeds n us ws = (i : ℕ) → i < n → (words_at ws i).fixed ≡ fixed_words (get_or us i no_warp).fixed

-- the words of a warp
pub record ApartAt (u : Warp) (w : WarpWords) : Type 0 where
  pub words : w ≡ parts_of u
  pub long : length u.splits ≡ split_count

-- and of the first n warps
abbrev pub Apart : ℕ → List Warp → List WarpWords → Type 0
Apart n us ws = (i : ℕ) → i < n → ApartAt (get_or us i no_warp) (words_at ws i)
