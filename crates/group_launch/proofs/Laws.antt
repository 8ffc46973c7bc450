-- Cards one after another, a group's state part by part, and its launch by cases.
use Prim.Native.Nat.{ℕ, zero, suc, ◌+◌, ◌-◌, ◌/◌, ◌%◌, ◌≤◌, ◌<◌}
use mathlib.Core.Path.{◌≡◌, refl, sym, ap, ap₂, ◌∙◌, subst}
use mathlib.Core.Bool.{Bool, true, false, not, cond, ◌&&◌}
use mathlib.Core.List.{List, [], ◌∷◌, ◌++◌, map}
use native.Mathlib.Numerals.{add-one}
use native.Mathlib.Omega.{arith}
use lib.Dec.{eqb}
use lib.ListN.{length, get_or, take, drop, set, replicate, length-append, length-drop, length-map}
use lib.Seq.{take-append-add, take_at, take-suc-set, length-take-le, get_or-set_same, get_or-set_other}
use borrow.Author.Tests.{eq-eqb, ne_eqb, eqb-true, eqb-false, not-true}
use Rattle.std.specs.Prelude.{Result}
use Rattle.std.specs.Result.{result_unwrap_or}
use Rattle.answer.specs.declared.Refusal.{Refusal}
use Rattle.answer.specs.Rows.{Row, ◌⇒◌, first}
use Rattle.answer.proofs.Rows.{passed}
use Rattle.memory.specs.Memories.{Contents}
use Rattle.warp.specs.declared.Fixed.{Fixed}
use Rattle.warp.specs.declared.Launch.{Launch}
use Rattle.warp.specs.declared.Warp.{Warp}
use Rattle.warp.specs.Warp.{zero_fixed, zero_launch, zero_warp}
use Rattle.warp.specs.WellFormed.{launch_ok_of}
use Rattle.layout.specs.Words.{state_words, fixed_in, splits_words, fixed_words, words_of}
use Rattle.layout.specs.declared.WarpWords.{WarpWords}
use Rattle.layout.specs.Parts.{no_words}
use Rattle.definition.specs.Calls.{launched_of}
use Rattle.card.specs.Card.{card_size, head_ok_at, launch_at, Reading, reading_of, read_card_of}
use Rattle.card.proofs.CardLaws.{read_number, read_done, Readable, accepted}
use Rattle.saved.specs.Saved.{Saving, saving, save_of}
use Rattle.saved.proofs.SaveLaws.{save_done}
use Rattle.group.specs.Group.{Group, group, file_start}
use Rattle.lanes.specs.Lanes.{all_below}
use Rattle.lanes.proofs.Laws.{below_at, below_all}
use Rattle.group.specs.GroupRefuse.{warps_limit, sizes_ok_of, placed_of}
use Rattle.group.specs.GroupCalls.{GroupOutcome, group_launch_of}
use Rattle.group.proofs.GroupLaws.{by_test, by_equal, get_d_map_in}
use Rattle.group.proofs.GroupFacts.{GroupSizes, group_sizes}
use Rattle.group_words.specs.Row.{words_at, tabulate, fixeds_in}
use Rattle.group_words.proofs.Tabulate.{tab_length, tab_at, tab_is, tab_map}
use Rattle.group_launch.specs.GroupLaunchCall.{cards_in, card_at, reading_at, none_is, launches_of, is_group_state, group_launch_called, cards_launch_of, group_launch_number, group_blank_of, group_launch_call_of}
use Rattle.group_words.specs.StateWords.{joined, state_words_of, group_words}
use Rattle.group_words.proofs.StateWords.{joined_same}

-- ---- a state of n warps

-- its length by a division
pub state_is : (m n : ℕ) → (eqb (m % 241) 1 && eqb (m / 241) n) ≡ eqb m (group_words n)
state_is m n =
    by_equal m (group_words n)
    (λ e. let a : m % 241 ≡ 1 = omega arith in let b : m / 241 ≡ n = omega arith in rw (eq-eqb _ _ e, eq-eqb _ _ a, eq-eqb _ _ b))
    (λ e.
    by_equal (m % 241) 1 (λ a. by_equal (m / 241) n (λ b. absurd (e (omega arith))) (λ b. rw (eq-eqb _ _ a, ne_eqb _ _ b, ne_eqb _ _ e)))
    (λ a. rw (ne_eqb _ _ a, ne_eqb _ _ e)))

-- ---- a card's launch

pub launch_is : (r : Result Launch Refusal) (cs : List ℕ) (i : ℕ) (l : Launch) → reading_of r ≡ reading_at cs i → l ≡ result_unwrap_or r zero_launch → l ≡ (reading_at cs i).launch
launch_is r cs i l er el = el ∙ ap (λ (x : Reading). x.launch) er

-- ---- the words of a launched warp

pub launched_long : (l : Launch) → length (words_of (launched_of l)) ≡ state_words
unfolding words_of splits_words
launched_long l = refl

pub put_is : (l : Launch) (cs : List ℕ) (i : ℕ) (w : Warp) (a : ℕ) (p p' : List ℕ) → l ≡ (reading_at cs i).launch → w ≡ launched_of l → length p ≡ state_words
    → saving a p' ≡ save_of w p → p' ≡ words_of (launched_of (reading_at cs i).launch)
put_is l cs i w a p p' el ew h es =
    let u : Warp = launched_of (reading_at cs i).launch in
    let e : w ≡ u = ew ∙ ap launched_of el in
    ap (λ (t : Saving). t.state) es ∙ ap (λ (x : Warp). (save_of x p).state) e ∙ ap (λ (t : Saving). t.state) (sym (save_done u p h (omega arith)))

-- ---- one part after another

pub joined_none : (s : List ℕ) (f : ℕ → List ℕ) → 0 < length s → take 1 (set s 0 0) ≡ 0 ∷ joined 0 f
unfolding joined
joined_none s f h = take-suc-set s 0 0 h

module _ (s : List ℕ) where
  -- the part of 241 words from a on
  pub part_long : (a : ℕ) → a + 241 ≤ length s → length (take (a + 241 - a) (drop a s)) ≡ 241
  part_long a h = let e : a + 241 - a ≡ 241 = omega arith in rw e (length-take-le 241 (drop a s) (simp length-drop (omega arith)))

  -- put back, it keeps the length of all
  pub put_long : (p : List ℕ) (a : ℕ) → a + 241 ≤ length s → length p ≡ 241 → length (take a s ++ (p ++ drop (a + 241 - a) (drop a s))) ≡ length s
  put_long p a h e =
      let f : length (take a s) ≡ a = length-take-le a s (omega arith) in
      simp (length-append, f, e, length-drop) (omega arith)

-- the words p put after the first a, which are those of the turn and the first i warps
pub joined_more : (s p q : List ℕ) (f : ℕ → List ℕ) (i a b : ℕ) → a + length p ≡ b → a ≤ length s → p ≡ f i → take a s ≡ 0 ∷ joined i f → take b (take a s ++ (p ++ q)) ≡ 0 ∷ joined (i + 1) f
unfolding joined
joined_more s p q f i a b e h ep et =
    let n : length (take a s) + length p ≡ b = ap (λ (x : ℕ). x + length p) (length-take-le a s h) ∙ e in
    subst (λ (x : ℕ). take x (take a s ++ (p ++ q)) ≡ 0 ∷ joined (i + 1) f) n
    (take-append-add (take a s) (p ++ q) (length p) ∙ ap (λ (x : List ℕ). take a s ++ x) (take_at p q (length p) refl) ∙ rw (et, ep, add-one i))

-- ---- what the cards fix

-- the fixed words of the first i of ws are what the first i cards fix
abbrev pub Fixing : ℕ → List WarpWords → List ℕ → Type 0
Fixing i ws cs = (j : ℕ) → j < i → (words_at ws j).fixed ≡ fixed_words (reading_at cs j).launch.fixed

pub fixing_none : (ws : List WarpWords) (cs : List ℕ) → Fixing 0 ws cs
fixing_none ws cs j h = absurd (omega arith)

pub fixing_more : (i : ℕ) (ws : List WarpWords) (cs : List ℕ) (l : Launch) (w : WarpWords) → i < length ws → Fixing i ws cs → l ≡ (reading_at cs i).launch → w.fixed ≡ fixed_words l.fixed → Fixing (i + 1) (set ws i w) cs
fixing_more i ws cs l w h f el eg j b =
    by_equal j i
    (λ q.
    subst (λ (k : ℕ). (words_at (set ws i w) k).fixed ≡ fixed_words (reading_at cs k).launch.fixed) (sym q)
    (rw (get_or-set_same ws i w no_words h) (eg ∙ ap (λ (x : Launch). fixed_words x.fixed) el)))
    (λ q. rw (get_or-set_other ws i j w no_words q) (f j (omega arith)))

pub fixing_all : (n : ℕ) (ws : List WarpWords) (cs : List ℕ) → length ws ≡ n → Fixing n ws cs → fixeds_in ws ≡ tabulate n (λ i. (reading_at cs i).launch.fixed)
fixing_all n ws cs e f =
    tab_is n (λ i. (reading_at cs i).launch.fixed) zero_fixed (fixeds_in ws) (length-map ws (λ (w : WarpWords). fixed_in w.fixed) ∙ e)
    (λ i h. get_d_map_in (λ (w : WarpWords). fixed_in w.fixed) ws i no_words zero_fixed (rw e h) ∙ ap fixed_in (f i h))

-- ---- a refused launch's state

pub blank_not : (n : ℕ) (s : List ℕ) → is_group_state n s ≡ false → s ≡ group_blank_of n s
blank_not n s e = rw e

pub blank_is : (n : ℕ) (s : List ℕ) → is_group_state n s ≡ true → replicate (length s) 0 ≡ group_blank_of n s
blank_is n s e = rw e

-- ---- a card that is read

number_zero : (d : List ℕ) → ((read_card_of d).number ≡ 13 → ⊥) → ((read_card_of d).number ≡ 1 → ⊥) → (read_card_of d).number ≡ 0
number_zero d p q =
    read_number d ∙ go (eqb (length d) card_size) (head_ok_at d) (launch_ok_of (launch_at d)) (λ e. p (read_number d ∙ e)) (λ e. q (read_number d ∙ e))
  where
    go : (a b c : Bool) → (first (13 ⇒ not a ∷ 13 ⇒ not b ∷ 1 ⇒ not c ∷ []) ≡ 13 → ⊥) → (first (13 ⇒ not a ∷ 13 ⇒ not b ∷ 1 ⇒ not c ∷ []) ≡ 1 → ⊥) → first (13 ⇒ not a ∷ 13 ⇒ not b ∷ 1 ⇒ not c ∷ []) ≡ 0
    go false b c p q = absurd (p refl)
    go true false c p q = absurd (p refl)
    go true true false p q = absurd (q refl)
    go true true true p q = refl

card_ok : (d : List ℕ) → (read_card_of d).number ≡ 0 → launch_ok_of (read_card_of d).launch ≡ true
card_ok d z =
    let q : Readable d = accepted d z in
    ap (λ (x : Reading). launch_ok_of x.launch) (sym (read_done d q.size q.head q.range)) ∙ q.range

-- ---- the launch by cases

-- what the cards fix
abbrev pub fixeds_on : ℕ → List ℕ → List Fixed
fixeds_on n cs = tabulate n (λ i. (reading_at cs i).launch.fixed)

module _ (n : ℕ) (cs : List ℕ) where
  launches_long : length (launches_of n cs) ≡ n
  launches_long = tab_length n (λ i. (reading_at cs i).launch)

  fixeds_are : map (λ l. l.fixed) (launches_of n cs) ≡ fixeds_on n cs
  fixeds_are = tab_map n (λ i. (reading_at cs i).launch) (λ l. l.fixed) zero_launch

  launches_ok : none_is 13 n cs ≡ true → none_is 1 n cs ≡ true → all_below (length (launches_of n cs)) (λ i. launch_ok_of (get_or (launches_of n cs) i zero_launch)) ≡ true
  launches_ok a b =
      below_all (length (launches_of n cs)) (λ i. launch_ok_of (get_or (launches_of n cs) i zero_launch))
      (λ i h.
      let l : i < n = subst (λ (m : ℕ). i < m) launches_long h in
      let p : eqb (reading_at cs i).number 13 ≡ false = not-true _ (below_at n (λ j. not (eqb (reading_at cs j).number 13)) a i l) in
      let q : eqb (reading_at cs i).number 1 ≡ false = not-true _ (below_at n (λ j. not (eqb (reading_at cs j).number 1)) b i l) in
      ap launch_ok_of (tab_at n (λ j. (reading_at cs j).launch) zero_launch i l) ∙ card_ok (card_at cs i) (number_zero (card_at cs i) (eqb-false _ _ p) (eqb-false _ _ q)))

  -- the words of the launched warps
  words_are : joined (length (map launched_of (launches_of n cs))) (λ i. words_of (get_or (map launched_of (launches_of n cs)) i zero_warp)) ≡ joined n (λ i. words_of (launched_of (reading_at cs i).launch))
  words_are =
      let f : ℕ → Warp = λ i. launched_of (reading_at cs i).launch in
      ap (λ (ws : List Warp). joined (length ws) (λ i. words_of (get_or ws i zero_warp))) (tab_map n (λ i. (reading_at cs i).launch) launched_of zero_launch)
      ∙ ap (λ (m : ℕ). joined m (λ i. words_of (get_or (tabulate n f) i zero_warp))) (tab_length n f)
      ∙ joined_same n (λ i. words_of (get_or (tabulate n f) i zero_warp)) (λ i. words_of (f i)) (λ i b. ap words_of (tab_at n f zero_warp i b))

pub not_none : (n : ℕ) → (n ≡ 0 → ⊥) → 1 ≤ n
not_none zero h = absurd (h refl)
not_none (suc n) h = omega arith

three : (a p : Bool) → first (1 ⇒ not a ∷ 1 ⇒ not true ∷ 1 ⇒ not p ∷ []) ≡ cond (a && p) 0 1
three true true = refl
three true false = refl
three false p = refl

-- a launch's own number, once the cards are read
module _ (n : ℕ) (cs k v : List ℕ) (c : Contents) (a : none_is 13 n cs ≡ true) (b : none_is 1 n cs ≡ true) where
  code_is : (group_launch_of k (launches_of n cs) v c).code ≡ cond (sizes_ok_of k (fixeds_on n cs) v c && placed_of (fixeds_on n cs)) 0 1
  unfolding group_launch_of
  code_is =
      let L : Bool = all_below (length (launches_of n cs)) (λ i. launch_ok_of (get_or (launches_of n cs) i zero_launch)) in
      ap (λ (fs : List Fixed). first (1 ⇒ not (sizes_ok_of k fs v c) ∷ 1 ⇒ not L ∷ 1 ⇒ not (placed_of fs) ∷ [])) (fixeds_are n cs)
      ∙ ap (λ (l : Bool). first (1 ⇒ not (sizes_ok_of k (fixeds_on n cs) v c) ∷ 1 ⇒ not l ∷ 1 ⇒ not (placed_of (fixeds_on n cs)) ∷ [])) (launches_ok n cs a b)
      ∙ three (sizes_ok_of k (fixeds_on n cs) v c) (placed_of (fixeds_on n cs))

  fixeds_long : length (fixeds_on n cs) ≡ n
  fixeds_long = tab_length n (λ i. (reading_at cs i).launch.fixed)

  pub code_not : (sizes_ok_of k (fixeds_on n cs) v c && placed_of (fixeds_on n cs)) ≡ false → (group_launch_of k (launches_of n cs) v c).code ≡ 1
  code_not e = code_is ∙ rw e

  pub code_done : (sizes_ok_of k (fixeds_on n cs) v c && placed_of (fixeds_on n cs)) ≡ true → (group_launch_of k (launches_of n cs) v c).code ≡ 0
  code_done e = code_is ∙ rw e

  -- a number of warps that no group has
  pub code_count : (1 ≤ n → n ≤ warps_limit → ⊥) → (group_launch_of k (launches_of n cs) v c).code ≡ 1
  code_count o =
      let z : sizes_ok_of k (fixeds_on n cs) v c ≡ false =
      by_test (sizes_ok_of k (fixeds_on n cs) v c) (λ e. let g : GroupSizes k (fixeds_on n cs) v c = group_sizes k (fixeds_on n cs) v c e in absurd (o (rw fixeds_long at g.some) (rw fixeds_long at g.most))) (λ e. e) in
      code_not (rw z)

-- what an accepted launch says, and leaves
pub record Launches (k : List ℕ) (n : ℕ) (cs v : List ℕ) (c : Contents) : Type 0 where
  pub most : n ≤ warps_limit
  pub files : replicate (length v) 0 ≡ (group_launch_of k (launches_of n cs) v c).left.vector
  pub words : 0 ∷ joined n (λ i. words_of (launched_of (reading_at cs i).launch)) ≡ state_words_of (group_launch_of k (launches_of n cs) v c).left

pub launches : (k : List ℕ) (n : ℕ) (cs v : List ℕ) (c : Contents) → (group_launch_of k (launches_of n cs) v c).code ≡ 0 → Launches k n cs v c
unfolding group_launch_of
launches k n cs v c z =
    let ls : List Launch = launches_of n cs in
    let fs : List Fixed = map (λ l. l.fixed) ls in
    let long : length fs ≡ n = length-map ls (λ l. l.fixed) ∙ launches_long n cs in
    let ok : Row Bool = 1 ⇒ not (all_below (length ls) (λ i. launch_ok_of (get_or ls i zero_launch))) in
    let g : GroupSizes k fs v c = group_sizes k fs v c (passed [] (ok ∷ 1 ⇒ not (placed_of fs) ∷ []) 1 (sizes_ok_of k fs v c) refl z) in
    let L : Group = group 0 (map launched_of ls) (replicate (file_start (length ls)) 0) c in
    let R : Group = group 0 (replicate (length ls) zero_warp) v c in
    let e : L ≡ (group_launch_of k ls v c).left = ap (λ (m : ℕ). cond (eqb m 0) L R) (sym z) in
    record {
      most = subst (λ (m : ℕ). m ≤ warps_limit) long g.most;
      files = ap (λ (m : ℕ). replicate m 0) (g.files ∙ ap file_start (length-map ls (λ l. l.fixed))) ∙ ap (λ (m : Group). m.vector) e;
      words = ap (λ (t : List ℕ). 0 ∷ t) (sym (words_are n cs)) ∙ ap state_words_of e;
    }

module _ (cs k v : List ℕ) (c : Contents) (s : List ℕ) where
  abbrev N : ℕ
  N = cards_in cs

  pub number_rest : (length cs % card_size ≡ 0 → ⊥) → 13 ≡ group_launch_number cs k v c s
  unfolding group_launch_number
  number_rest h = rw (ne_eqb _ _ h)

  module _ (r : length cs % card_size ≡ 0) where
    pub number_card : none_is 13 N cs ≡ false → 13 ≡ group_launch_number cs k v c s
    unfolding group_launch_number
    number_card a = rw (eq-eqb _ _ r, a)

    module _ (a : none_is 13 N cs ≡ true) where
      pub number_range : none_is 1 N cs ≡ false → 1 ≡ group_launch_number cs k v c s
      unfolding group_launch_number
      number_range b = rw (eq-eqb _ _ r, a, b)

      module _ (b : none_is 1 N cs ≡ true) where
        pub number_state : is_group_state N s ≡ false → 1 ≡ group_launch_number cs k v c s
        unfolding group_launch_number
        number_state t = rw (eq-eqb _ _ r, a, b, t)

        pub number_own : is_group_state N s ≡ true → (m : ℕ) → (cards_launch_of cs k v c).code ≡ m → m ≡ group_launch_number cs k v c s
        unfolding group_launch_number
        number_own t m e = rw (eq-eqb _ _ r, a, b, t, e) (by_test (eqb m 0) (λ z. rw z (eqb-true _ _ z)) (λ z. rw z))

  -- what the number 0 says
  pub number_none : 0 ≡ group_launch_number cs k v c s → (is_group_state N s ≡ true) × ((cards_launch_of cs k v c).code ≡ 0)
  unfolding group_launch_number
  number_none z = go (eqb (length cs % card_size) 0) (none_is 13 N cs) (none_is 1 N cs) (is_group_state N s) (cards_launch_of cs k v c).code (sym z)
    where
      go : (a b d e : Bool) (o : ℕ) → first (13 ⇒ not a ∷ 13 ⇒ not b ∷ 1 ⇒ not d ∷ 1 ⇒ not e ∷ o ⇒ not (eqb o 0) ∷ []) ≡ 0 → (e ≡ true) × (o ≡ 0)
      go false b d e o h = absurd (omega (arith, h))
      go true false d e o h = absurd (omega (arith, h))
      go true true false e o h = absurd (omega (arith, h))
      go true true true false o h = absurd (omega (arith, h))
      go true true true true o h = (refl, by_equal o 0 (λ q. q) (λ q. absurd (q (rw (ne_eqb _ _ q) at h))))

  pub call_refused : (r : ℕ) → r ≡ group_launch_number cs k v c s → (r ≡ 0 → ⊥) → group_launch_called r (group_blank_of N s) v ≡ group_launch_call_of cs k v c s
  unfolding group_launch_call_of
  call_refused r e h = rw (← e, ne_eqb _ _ h)

  module _ (z : 0 ≡ group_launch_number cs k v c s) where
    pub taken : Launches k N cs v c
    taken = launches k N cs v c (number_none z).1

    pub taken_state : length s ≡ group_words N
    taken_state = eqb-true _ _ (number_none z).0

    pub call_done : (s' v' : List ℕ) → s' ≡ 0 ∷ joined N (λ i. words_of (launched_of (reading_at cs i).launch)) → v' ≡ replicate (length v) 0 → group_launch_called 0 s' v' ≡ group_launch_call_of cs k v c s
    unfolding group_launch_call_of
    call_done s' v' es ev =
        let o : GroupOutcome = cards_launch_of cs k v c in
        ap₂ (λ (t u : List ℕ). group_launch_called 0 t u) (es ∙ taken.words) (ev ∙ taken.files)
        ∙ ap (λ (r : ℕ). cond (eqb r 0) (group_launch_called 0 (state_words_of o.left) o.left.vector) (group_launch_called r (group_blank_of N s) v)) z
