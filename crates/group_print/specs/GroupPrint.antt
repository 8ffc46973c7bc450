-- The printout of a group: the code line alone after a refused launch; else four lines, and a line a warp.
use Rattle.std.specs.Prelude.{ℕ, ◌*◌, ◌%◌, Bool, true, not, cond, List, [], ◌∷◌, eqb, leb, length, get_or, take, replicate}
use Rattle.answer.specs.Rows.{◌⇒◌, first, every}
use Rattle.memory.specs.Memories.{Contents, contents}
use Rattle.card.specs.Card.{card_size}
use Rattle.lanes.specs.Lanes.{file_words}
use Rattle.group.specs.GroupRefuse.{warps_limit}
use Rattle.group_words.specs.StateWords.{group_words}
use Rattle.group_launch.specs.GroupLaunchCall.{cards_in, none_is, GroupLaunchCalled, group_launch_call_of}
use Rattle.group_state.specs.GroupState.{GroupCalled, group_run_call_of}
use Rattle.launch_files.specs.LaunchFiles.{kernel_words_of, kernel_bytes, data_bytes}
use Rattle.lines.specs.Lines.{code_line}
use Rattle.lines.specs.GroupLines.{group_lines}

-- ---- cards, kernel and memories in, lines out

abbrev pub budget : ℕ
budget = 65536

-- after a run
abbrev pub ran_lines : ℕ → GroupCalled → List ℕ
ran_lines n r = group_lines n r.number (get_or r.told 1 0) (get_or r.told 0 0) r.state

-- after a launch of n cards
abbrev pub launch_lines : ℕ → List ℕ → Contents → GroupLaunchCalled → List ℕ
launch_lines n k c l = cond (eqb l.number 0) (ran_lines n (group_run_call_of l.state k budget l.vector c (0 ∷ 0 ∷ []))) (code_line l.number)

-- n cards cs, the kernel's words k, the vector files v, the memories c, the group's words s
unfoldable pub launched_lines : ℕ → List ℕ → List ℕ → List ℕ → Contents → List ℕ → List ℕ
launched_lines n cs k v c s = launch_lines n k c (group_launch_call_of cs k v c s)

-- ---- the four files

-- no more than 32 cards
abbrev pub cards_bytes : ℕ
cards_bytes = warps_limit * card_size

-- a kernel file of whole words, and the three within the limits
unfoldable pub group_files_ok : List ℕ → List ℕ → List ℕ → Bool
group_files_ok k d l = every (eqb (length k % 4) 0 ∷ leb (length k) kernel_bytes ∷ leb (length d) data_bytes ∷ leb (length l) data_bytes ∷ [])

-- where they are not: a malformed card comes first
unfoldable pub cards_code : List ℕ → ℕ
cards_code cs = first (13 ⇒ not (eqb (length cs % card_size) 0) ∷ 13 ⇒ not (none_is 13 (cards_in cs) cs) ∷ 1 ⇒ true ∷ [])

-- the files' lines: the vector files of as many warps as there are cards, and their words, are zeros
unfoldable pub group_print_of : List ℕ → List ℕ → List ℕ → List ℕ → List ℕ
group_print_of cs k d l =
    let n : ℕ = cards_in cs in
    cond (leb (length cs) cards_bytes)
    (cond (group_files_ok k d l) (launched_lines n cs (kernel_words_of k) (take (n * file_words) (replicate (warps_limit * file_words) 0)) (contents d l) (take (group_words n) (replicate (group_words warps_limit) 0))) (code_line (cards_code cs)))
    (code_line 1)
