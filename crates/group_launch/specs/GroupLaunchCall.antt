-- A group launched from its cards, which stand one after another; its state is the turn, then each warp's 241 words.
use Rattle.std.specs.Prelude.{ℕ, ◌*◌, ◌/◌, ◌%◌, Bool, not, cond, List, [], ◌∷◌, eqb, length, take, drop, replicate}
use Rattle.answer.specs.Rows.{◌⇒◌, first}
use Rattle.memory.specs.Memories.{Contents}
use Rattle.warp.specs.declared.Launch.{Launch}
use Rattle.card.specs.Card.{card_size, Reading, read_card_of}
use Rattle.lanes.specs.Lanes.{all_below}
use Rattle.group.specs.GroupCalls.{GroupOutcome, group_launch_of}
use Rattle.group_words.specs.Row.{tabulate}
use Rattle.group_words.specs.StateWords.{group_words, state_words_of}

-- ---- cards

-- how many whole cards
abbrev pub cards_in : List ℕ → ℕ
cards_in cs = length cs / card_size

abbrev pub card_at : List ℕ → ℕ → List ℕ
card_at cs i = take card_size (drop (i * card_size) cs)

abbrev pub reading_at : List ℕ → ℕ → Reading
reading_at cs i = read_card_of (card_at cs i)

-- none of the first n cards is refused with r
abbrev pub none_is : ℕ → ℕ → List ℕ → Bool
none_is r n cs = all_below n (λ i. not (eqb (reading_at cs i).number r))

-- the launches on the first n cards
abbrev pub launches_of : ℕ → List ℕ → List Launch
launches_of n cs = tabulate n (λ i. (reading_at cs i).launch)

-- ---- a group's state

abbrev pub is_group_state : ℕ → List ℕ → Bool
is_group_state n s = eqb (length s) (group_words n)

-- ---- the launch

-- what it leaves: its number, the state and the vector files
pub record GroupLaunchCalled : Type 0 where
  pub number : ℕ
  pub state : List ℕ
  pub vector : List ℕ

abbrev pub group_launch_called : ℕ → List ℕ → List ℕ → GroupLaunchCalled
group_launch_called r s v = record { number = r; state = s; vector = v }

-- what the definition leaves, of the launches on all whole cards
abbrev pub cards_launch_of : List ℕ → List ℕ → List ℕ → Contents → GroupOutcome
cards_launch_of cs k v c = group_launch_of k (launches_of (cards_in cs) cs) v c

-- a malformed card is 13 before any 1
unfoldable pub group_launch_number : List ℕ → List ℕ → List ℕ → Contents → List ℕ → ℕ
group_launch_number cs k v c s =
    let n : ℕ = cards_in cs in
    let o : ℕ = (cards_launch_of cs k v c).code in
    first
    (13 ⇒ not (eqb (length cs % card_size) 0)
    ∷ 13 ⇒ not (none_is 13 n cs)
    ∷ 1 ⇒ not (none_is 1 n cs)
    ∷ 1 ⇒ not (is_group_state n s)
    ∷ o ⇒ not (eqb o 0)
    ∷ [])

-- a refused launch of n cards leaves a state of n warps all zeros, and one of another length as it was
abbrev pub group_blank_of : ℕ → List ℕ → List ℕ
group_blank_of n s = cond (is_group_state n s) (replicate (length s) 0) s

unfoldable pub group_launch_call_of : List ℕ → List ℕ → List ℕ → Contents → List ℕ → GroupLaunchCalled
group_launch_call_of cs k v c s =
    let r : ℕ = group_launch_number cs k v c s in
    let o : GroupOutcome = cards_launch_of cs k v c in
    cond (eqb r 0) (group_launch_called 0 (state_words_of o.left) o.left.vector) (group_launch_called r (group_blank_of (cards_in cs) s) v)
