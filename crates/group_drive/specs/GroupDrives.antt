-- Steps and runs of a group on its words.
use Rattle.std.specs.Prelude.{ℕ, ◌<◌, ◌≡◌, true, false, cond, List, eqb, length}
use Rattle.memory.specs.Memories.{Region, Contents, bytes_at}
use Rattle.layout.specs.declared.WarpWords.{WarpWords}
use Rattle.handlers.specs.Handles.{Lists, lists}
use Rattle.group.specs.Group.{Group, file_at, next_of}
use Rattle.group.specs.GroupRefuse.{sizes_ok_of}
use Rattle.group.specs.GroupCalls.{group_outcome, group_step_of, GroupRan, group_ran, group_steps_of, group_run_of}
use Rattle.group_words.specs.Row.{words_at, group_in, fixeds_in, Rooms, Warps, Ready, FixedKept, all_sound}

-- warp i's words, its vector file and the memories
abbrev pub lists_at : ℕ → List WarpWords → List ℕ → Contents → Lists
lists_at i ws v c = let w : WarpWords = words_at ws i in lists w.fixed w.moving w.scalars w.splits (file_at i v) c

-- of n warps, the turn after a step of number c by warp i, and the warp that stopped the group
abbrev pub turn_after : ℕ → ℕ → ℕ → ℕ → ℕ
turn_after n t c i = cond (eqb c 0) (next_of n i) t

abbrev pub stopped_by : ℕ → ℕ → ℕ
stopped_by c i = cond (eqb c 0) 0 i

-- a step of a group, from the words ws, the vector files v and the memories' bytes d on
pub record Turns (k : List ℕ) (t c i : ℕ) (ws : List WarpWords) (v : List ℕ) (d : Contents) (ws' : List WarpWords) (v' : List ℕ) (d' : Contents) : Type 0 where
  pub below : i < length ws
  pub count : length ws' ≡ length ws
  pub fixed : FixedKept ws ws'
  pub words : length v' ≡ length v
  pub size : (r : Region) → length (bytes_at r d') ≡ length (bytes_at r d)
  pub ready : Ready k (turn_after (length ws) t c i) ws' v' d'
  pub goes : group_outcome c (stopped_by c i) (group_in (turn_after (length ws) t c i) ws' v' d') ≡ group_step_of k (group_in t ws v d)

-- at most b steps of a group: u are taken, the last one's number is c, w is the warp that stopped the group and t' the turn
pub record GroupDrives (k : List ℕ) (t b c w u t' : ℕ) (ws : List WarpWords) (v : List ℕ) (d : Contents) (ws' : List WarpWords) (v' : List ℕ) (d' : Contents) : Type 0 where
  pub warps : Warps ws'
  pub here : t' < length ws
  pub count : length ws' ≡ length ws
  pub fixed : FixedKept ws ws'
  pub words : length v' ≡ length v
  pub size : (r : Region) → length (bytes_at r d') ≡ length (bytes_at r d)
  pub drives : group_ran u (group_outcome c w (group_in t' ws' v' d')) ≡ group_steps_of k b 0 (group_in t ws v d)

-- a run of any words: those that aren't warps' are refused, after the test of the sizes
unfoldable pub group_words_run_of : List ℕ → ℕ → ℕ → List WarpWords → List ℕ → Contents → GroupRan
group_words_run_of k t b ws v d =
    let m : Group = group_in t ws v d in
    cond (all_sound ws) (group_run_of k b m) (group_ran 0 (group_outcome (cond (sizes_ok_of k (fixeds_in ws) v d) 2 1) 0 m))

-- warps' words stay so, others are left as they are
pub record GroupRuns (k : List ℕ) (t b c w u t' : ℕ) (ws : List WarpWords) (v : List ℕ) (d : Contents) (ws' : List WarpWords) (v' : List ℕ) (d' : Contents) : Type 0 where
  pub rooms : Rooms ws'
  pub count : length ws' ≡ length ws
  pub fixed : FixedKept ws ws'
  pub sound : all_sound ws ≡ true → all_sound ws' ≡ true
  pub kept : all_sound ws ≡ false → (ws' ≡ ws) × (t' ≡ t) × (v' ≡ v) × (d' ≡ d)
  pub turn : (t' < length ws → ⊥) → t' ≡ t
  pub words : length v' ≡ length v
  pub size : (r : Region) → length (bytes_at r d') ≡ length (bytes_at r d)
  pub runs : group_ran u (group_outcome c w (group_in t' ws' v' d')) ≡ group_words_run_of k t b ws v d
