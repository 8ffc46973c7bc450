-- Laws of a group's parts: tests over all warps, vector files, who runs, whose turn it is.
use Prim.Native.Nat.{ℕ, zero, suc, ◌+◌, ◌-◌, ◌%◌, ◌≤◌, ◌<◌}
use mathlib.Core.Path.{◌≡◌, refl, sym, ◌∙◌, ap}
use mathlib.Core.Bool.{Bool, true, false, not, cond, ◌||◌, or-true, true≢false}
use mathlib.Core.List.{List, [], ◌∷◌, ◌++◌, map}
use native.Mathlib.Omega.{arith}
use native.Mathlib.Nat.{add-zero, mod-lt, mod-eq_of_lt, mod-add-mod, add-mod_right}
use lib.Dec.{eqb, leb, ltb}
use lib.ListN.{length, get_or, set, take, drop, replicate, length-append, length-take, length-drop, length-map, get_or-append}
use lib.Seq.{get_or-take, get_or-drop, get_or-append-add, take_at, drop_at, length-take-le, ext_get_or}
use borrow.Author.Tests.{eqb-true, eqb-false, leb-true, leb-false, ltb-true, ltb-false}
use Rattle.answer.proofs.Rows.{both}
use Rattle.lanes.specs.Lanes.{file_words}
use Rattle.warp.specs.declared.Warp.{Warp}
use Rattle.warp.specs.Warp.{zero_warp, zero_fixed, with_stop}
use Rattle.definition.specs.State.{State}
use Rattle.group.specs.Group.{Group, group, count_of, warp_at, fixeds_of, file_start, file_at, with_file_at, runs, some_runs, all_ended, next_of, first_from, pick_of, freed, settled, gone_on}
use Rattle.group.specs.GroupRefuse.{fixed_at}

-- ---- by cases

pub by_test : {A : Type 0} (t : Bool) → (t ≡ true → A) → (t ≡ false → A) → A
by_test true f g = f refl
by_test false f g = g refl

pub by_equal : {A : Type 0} (i j : ℕ) → (i ≡ j → A) → ((i ≡ j → ⊥) → A) → A
by_equal i j f g = by_test (eqb i j) (λ e. f (eqb-true i j e)) (λ e. g (eqb-false i j e))

-- a test that isn't both
pub refute : {A : Type 0} {t : Bool} → t ≡ true → t ≡ false → A
refute p q = absurd (true≢false (sym p ∙ q))

-- ---- elements of lists

pub get_d_map_in : {A B : Type 0} (f : A → B) (l : List A) (i : ℕ) (d : A) (e : B) → i < length l → get_or (map f l) i e ≡ f (get_or l i d)
get_d_map_in f [] i d e h = absurd (omega arith)
get_d_map_in f (a ∷ l) zero d e h = refl
get_d_map_in f (a ∷ l) (suc i) d e h = get_d_map_in f l i d e (omega arith)

pub drop_replicate : {A : Type 0} (i n : ℕ) (a : A) → i ≤ n → drop i (replicate n a) ≡ replicate (n - i) a
drop_replicate zero n a h = let e : n - 0 ≡ n = omega arith in rw e
drop_replicate (suc i) zero a h = absurd (omega arith)
drop_replicate (suc i) (suc n) a h = let e : suc n - suc i ≡ n - i = omega arith in rw e (drop_replicate i n a (omega arith))

pub take_replicate : {A : Type 0} (i n : ℕ) (a : A) → i ≤ n → take i (replicate n a) ≡ replicate i a
take_replicate zero n a h = refl
take_replicate (suc i) zero a h = absurd (omega arith)
take_replicate (suc i) (suc n) a h = ap (λ (l : List _). a ∷ l) (take_replicate i n a (omega arith))

-- what the launch fixed of warp i
pub fixed_at_lem : (m : Group) (i : ℕ) → i < count_of m → fixed_at (fixeds_of m) i ≡ (warp_at i m).fixed
fixed_at_lem m i h = get_d_map_in (λ (w : Warp). w.fixed) m.warps i zero_warp zero_fixed h

-- ---- vector files

-- n words of v from place a on become f
abbrev put_at : ℕ → ℕ → List ℕ → List ℕ → List ℕ
put_at a n f v = take a v ++ (f ++ drop n (drop a v))

module _ (a n : ℕ) (f v : List ℕ) (h : a + n ≤ length v) (e : length f ≡ n) where
  front : length (take a v) ≡ a
  front = length-take-le a v (omega arith)

  put_there : take n (drop a (put_at a n f v)) ≡ f
  put_there = rw (drop_at (take a v) (f ++ drop n (drop a v)) a front) (take_at f (drop n (drop a v)) n e)

  put_length : length (put_at a n f v) ≡ length v
  put_length = simp (length-append, front, e, length-drop) (omega arith)

  word_before : (x : ℕ) → x < a → get_or (put_at a n f v) x 0 ≡ get_or v x 0
  word_before x l = get_or-append (take a v) _ 0 x (omega (arith, front)) ∙ get_or-take a v x 0 l

  word_after : (x : ℕ) → a + n ≤ x → get_or (put_at a n f v) x 0 ≡ get_or v x 0
  word_after x l =
      let p : x ≡ length (take a v) + (length f + (x - (a + n))) = omega (arith, front, e) in
      let q : a + (n + (x - (a + n))) ≡ x = omega arith in
      ap (λ (y : ℕ). get_or (put_at a n f v) y 0) p ∙ get_or-append-add (take a v) _ _ 0 ∙ get_or-append-add f _ _ 0 ∙ get_or-drop n (drop a v) _ 0 ∙ get_or-drop a v _ 0 ∙ ap (λ (y : ℕ). get_or v y 0) q

  word_other : (x : ℕ) → (a ≤ x → x < a + n → ⊥) → get_or (put_at a n f v) x 0 ≡ get_or v x 0
  word_other x o = by_test (ltb x a) (λ t. word_before x (ltb-true x a t)) (λ t. word_after x (beyond (ltb-false x a t)))
    where
      beyond : a ≤ x → a + n ≤ x
      beyond l = by_test (ltb x (a + n)) (λ t. absurd (o l (ltb-true x (a + n) t))) (λ t. ltb-false x (a + n) t)

  -- c words from place b on that have none of them
  part_other : (b c : ℕ) → ((x : ℕ) → b ≤ x → x < b + c → a ≤ x → x < a + n → ⊥) → take c (drop b (put_at a n f v)) ≡ take c (drop b v)
  part_other b c o =
      ext_get_or 0 _ _ (simp (length-take, length-drop, put_length) refl)
      (λ x l. let s : x < c = omega (arith, simp length-take at l) in get_or-take c (drop b (put_at a n f v)) x 0 s ∙ get_or-drop b (put_at a n f v) x 0 ∙ word_other (b + x) (o (b + x) (omega arith) (omega arith)) ∙ sym (get_or-drop b v x 0) ∙ sym (get_or-take c (drop b v) x 0 s))

-- where n files stand one after another, file i below n lies inside
pub file_inside : (n i : ℕ) (v : List ℕ) → length v ≡ file_start n → i < n → file_start i + file_words ≤ length v
file_inside n i v e h = omega arith

module _ (i : ℕ) (v : List ℕ) (h : file_start i + file_words ≤ length v) where
  pub length_file : length (file_at i v) ≡ file_words
  length_file = length-take-le file_words (drop (file_start i) v) (simp length-drop (omega arith))

  module _ (f : List ℕ) (e : length f ≡ file_words) where
    -- the file that was put is there, no other one changes, nor does the length of all
    pub file_put : file_at i (with_file_at i f v) ≡ f
    file_put = put_there (file_start i) file_words f v h e

    pub file_other : (j : ℕ) → (j ≡ i → ⊥) → file_at j (with_file_at i f v) ≡ file_at j v
    file_other j o = part_other (file_start i) file_words f v h e (file_start j) file_words (λ x a b c d. o (omega arith))

    pub length_put : length (with_file_at i f v) ≡ length v
    length_put = put_length (file_start i) file_words f v h e

-- a file of another run of the same length has the same length
pub length_file_kept : (i : ℕ) (v u : List ℕ) → length u ≡ length v → length (file_at i u) ≡ length (file_at i v)
length_file_kept i v u e = simp (length-take, length-drop, e)

-- a file of zeros
pub file_zeros : (n i : ℕ) → i < n → file_at i (replicate (file_start n) 0) ≡ replicate file_words 0
file_zeros n i h = rw (drop_replicate {A = ℕ} (file_start i) (file_start n) 0 (omega arith)) (take_replicate {A = ℕ} file_words (file_start n - file_start i) 0 (omega arith))

-- ---- who runs

pub some_runs_lem : (ws : List Warp) (i : ℕ) → i < length ws → runs (get_or ws i zero_warp) ≡ true → some_runs ws ≡ true
unfolding some_runs
some_runs_lem [] i h e = absurd (omega arith)
some_runs_lem (w ∷ ws) zero h e = rw e
some_runs_lem (w ∷ ws) (suc i) h e = rw (some_runs_lem ws i (omega arith) e, or-true)

pub record Running (ws : List Warp) : Type 0 where
  pub which : ℕ
  pub below : which < length ws
  pub running : runs (get_or ws which zero_warp) ≡ true

pub who_runs : (ws : List Warp) → some_runs ws ≡ true → Running ws
unfolding some_runs
who_runs [] e = absurd (true≢false (sym e))
who_runs (w ∷ ws) e =
    by_test (runs w) (λ t. record { which = 0; below = omega arith; running = t })
    (λ t. let r : Running ws = who_runs ws (rw t at e) in record { which = suc r.which; below = omega arith; running = r.running })

pub none_runs : (ws : List Warp) → some_runs ws ≡ false → (i : ℕ) → i < length ws → runs (get_or ws i zero_warp) ≡ false
none_runs ws e i h = by_test (runs (get_or ws i zero_warp)) (λ t. refute (some_runs_lem ws i h t) e) (λ t. t)

pub all_stopped : (ws : List Warp) → ((i : ℕ) → i < length ws → runs (get_or ws i zero_warp) ≡ false) → some_runs ws ≡ false
all_stopped ws f = by_test (some_runs ws) (λ t. let r : Running ws = who_runs ws t in refute r.running (f r.which r.below)) (λ t. t)

-- ---- who has ended

pub ended_at_lem : (ws : List Warp) → all_ended ws ≡ true → (i : ℕ) → i < length ws → (get_or ws i zero_warp).ended ≡ true
unfolding all_ended
ended_at_lem [] e i h = absurd (omega arith)
ended_at_lem (w ∷ ws) e zero h = (both w.ended (all_ended ws) e).0
ended_at_lem (w ∷ ws) e (suc i) h = ended_at_lem ws (both w.ended (all_ended ws) e).1 i (omega arith)

pub ended_all : (ws : List Warp) → ((i : ℕ) → i < length ws → (get_or ws i zero_warp).ended ≡ true) → all_ended ws ≡ true
unfolding all_ended
ended_all [] f = refl
ended_all (w ∷ ws) f = rw (f 0 (omega arith), ended_all ws (λ i h. f (suc i) (omega arith)))

pub not_ended : (ws : List Warp) (i : ℕ) → i < length ws → (get_or ws i zero_warp).ended ≡ false → all_ended ws ≡ false
not_ended ws i h e = by_test (all_ended ws) (λ t. refute (ended_at_lem ws t i h) e) (λ t. t)

-- one that has not
pub record Lasting (ws : List Warp) : Type 0 where
  pub which : ℕ
  pub below : which < length ws
  pub lasts : (get_or ws which zero_warp).ended ≡ false

pub who_lasts : (ws : List Warp) → all_ended ws ≡ false → Lasting ws
unfolding all_ended
who_lasts [] e = absurd (true≢false e)
who_lasts (w ∷ ws) e =
    by_test w.ended (λ t. let r : Lasting ws = who_lasts ws (rw t at e) in record { which = suc r.which; below = omega arith; lasts = r.lasts })
    (λ t. record { which = 0; below = omega arith; lasts = t })

-- neither waits nor has ended
pub runs_is : (w : Warp) → runs w ≡ true → (w.ended ≡ false) × (w.waiting ≡ false)
runs_is w e = go w.ended w.waiting e
  where
    go : (a b : Bool) → not (a || b) ≡ true → (a ≡ false) × (b ≡ false)
    go true b e = absurd (true≢false (sym e))
    go false true e = absurd (true≢false (sym e))
    go false false e = (refl, refl)

pub runs_if : (w : Warp) → w.ended ≡ false → w.waiting ≡ false → runs w ≡ true
runs_if w a b = rw (a, b)

-- ---- the first that runs, from the turn on

-- the number d places after t, of n, cyclically
abbrev pub after : ℕ → ℕ → ℕ → ℕ
after n t d = (t + d) % n

pub after_none : (n t : ℕ) → t < n → after n t 0 ≡ t
after_none n t h = rw add-zero (mod-eq_of_lt h)

pub after_next : (n t d : ℕ) → after n (next_of n t) d ≡ after n t (suc d)
after_next n t d = let e : t + 1 + d ≡ t + suc d = omega arith in mod-add-mod (t + 1) n d ∙ ap (λ (x : ℕ). x % n) e

-- past a, what is d places after t is as many places fewer after the number that follows
pub after_pass : (n t a d : ℕ) → a < d → after n (next_of n (after n t a)) (d - a - 1) ≡ after n t d
after_pass n t a d h =
    let e : t + a + suc (d - a - 1) ≡ t + d = omega arith in
    after_next n (after n t a) (d - a - 1) ∙ mod-add-mod (t + a) n (suc (d - a - 1)) ∙ ap (λ (x : ℕ). x % n) e

pub next_below : (n i : ℕ) → 0 < n → next_of n i < n
next_below n i h = mod-lt (i + 1) h

-- every number below n comes within n places
pub record Within (n t i : ℕ) : Type 0 where
  pub far : ℕ
  pub short : far < n
  pub there : after n t far ≡ i

pub within : (n t i : ℕ) → t < n → i < n → Within n t i
within n t i a b =
    by_test (leb t i)
    (λ e. let l = leb-true t i e in let q : t + (i - t) ≡ i = omega arith in record { far = i - t; short = omega arith; there = rw q (mod-eq_of_lt b) })
    (λ e. let l = leb-false t i e in let q : t + (i + n - t) ≡ i + n = omega arith in record { far = i + n - t; short = omega arith; there = rw q (add-mod_right i n ∙ mod-eq_of_lt b) })

pub first_end : (i : ℕ) (ws : List Warp) → first_from 0 i ws ≡ i
unfolding first_from
first_end i ws = refl

pub first_here : (t i : ℕ) (ws : List Warp) → runs (get_or ws i zero_warp) ≡ true → first_from (suc t) i ws ≡ i
unfolding first_from
first_here t i ws e = rw e

pub first_on : (t i : ℕ) (ws : List Warp) → runs (get_or ws i zero_warp) ≡ false → first_from (suc t) i ws ≡ first_from t (next_of (length ws) i) ws
unfolding first_from
first_on t i ws e = rw e

-- warp d places after i
abbrev pub warp_after : List Warp → ℕ → ℕ → Warp
warp_after ws i d = get_or ws (after (length ws) i d) zero_warp

-- d places after i stands the first that runs
pub record FirstAt (ws : List Warp) (i d : ℕ) : Type 0 where
  pub running : runs (warp_after ws i d) ≡ true
  pub skipped : (j : ℕ) → j < d → runs (warp_after ws i j) ≡ false

-- it is the one that is picked
pub first_is : (t i d : ℕ) (ws : List Warp) → i < length ws → d < t → FirstAt ws i d → first_from t i ws ≡ after (length ws) i d
first_is zero i d ws h l f = absurd (omega arith)
first_is (suc t) i zero ws h l f = let z = after_none (length ws) i h in first_here t i ws (rw z at f.running) ∙ sym z
first_is (suc t) i (suc d) ws h l f =
    let n : ℕ = length ws in
    let z = after_none n i h in
    let on : (j : ℕ) → warp_after ws (next_of n i) j ≡ warp_after ws i (suc j) = λ j. ap (λ (x : ℕ). get_or ws x zero_warp) (after_next n i j) in
    first_on t i ws (rw z at (f.skipped 0 (omega arith)))
    ∙ first_is t (next_of n i) d ws (next_below n i (omega arith)) (omega arith)
    (record { running = rw (on d) f.running; skipped = λ j k. rw (on j) (f.skipped (suc j) (omega arith)) })
    ∙ after_next n i d

-- where a warp runs d places after i, there is a first one at most as far
pub record FirstWithin (ws : List Warp) (i d : ℕ) : Type 0 where
  pub far : ℕ
  pub most : far ≤ d
  pub first : FirstAt ws i far

-- none of the first d runs, or there is one of them
seek : (ws : List Warp) (i d c : ℕ) → c ≤ d → runs (warp_after ws i d) ≡ true → ((j : ℕ) → j < d - c → runs (warp_after ws i j) ≡ false) → FirstWithin ws i d
seek ws i d zero h e f = record { far = d; most = omega arith; first = record { running = e; skipped = λ j l. f j (omega arith) } }
seek ws i d (suc c) h e f =
    by_test (runs (warp_after ws i (d - suc c))) (λ t. record { far = d - suc c; most = omega arith; first = record { running = t; skipped = f } })
    (λ t. seek ws i d c (omega arith) e (λ j l. by_equal j (d - suc c) (λ z. rw z t) (λ z. f j (omega arith))))

pub first_within : (ws : List Warp) (i d : ℕ) → runs (warp_after ws i d) ≡ true → FirstWithin ws i d
first_within ws i d e = seek ws i d d (omega arith) e (λ j l. absurd (omega arith))

-- who is picked: a warp that runs, the first from the turn on
pub record Pick (m : Group) : Type 0 where
  pub far : ℕ
  pub short : far < count_of m
  pub first : FirstAt m.warps m.turn far
  pub is : pick_of m ≡ after (count_of m) m.turn far
  pub below : pick_of m < count_of m
  pub running : runs (warp_at (pick_of m) m) ≡ true

-- where warp i runs, it is at most as far as warp i
pub picked_before : (m : Group) (d : ℕ) → m.turn < count_of m → d < count_of m → runs (warp_after m.warps m.turn d) ≡ true → FirstWithin m.warps m.turn d × Pick m
picked_before m d t l e =
    let n : ℕ = count_of m in
    let f : FirstWithin m.warps m.turn d = first_within m.warps m.turn d e in
    let z : pick_of m ≡ after n m.turn f.far = first_is n m.turn f.far m.warps t (omega arith) f.first in
    (f, record { far = f.far; short = omega arith; first = f.first; is = z; below = rw z (mod-lt (m.turn + f.far) (omega arith)); running = rw z f.first.running })

pub picked : (m : Group) → m.turn < count_of m → some_runs m.warps ≡ true → Pick m
picked m t e =
    let r : Running m.warps = who_runs m.warps e in
    let w : Within (count_of m) m.turn r.which = within (count_of m) m.turn r.which t r.below in
    (picked_before m w.far t w.short (rw w.there r.running)).1

-- ---- a release

pub freed_runs : (w : Warp) → w.waiting ≡ false → freed w ≡ w
freed_runs w e = rw e

pub freed_waits : (w : Warp) → w.waiting ≡ true → freed w ≡ with_stop false false w
freed_waits w e = rw e

pub freed_fixed : (w : Warp) → (freed w).fixed ≡ w.fixed
freed_fixed w = by_test w.waiting (λ e. rw e) (λ e. rw e)

pub settled_on : (ws : List Warp) → some_runs ws ≡ true → settled ws ≡ ws
unfolding settled
settled_on ws e = rw e

pub settled_off : (ws : List Warp) → some_runs ws ≡ false → settled ws ≡ map freed ws
unfolding settled
settled_off ws e = rw e

pub length_settled : (ws : List Warp) → length (settled ws) ≡ length ws
length_settled ws = by_test (some_runs ws) (λ e. rw (settled_on ws e)) (λ e. rw (settled_off ws e) (length-map ws freed))

-- warp i of a settled row: as it was, or where none runs released
pub settled_at : (ws : List Warp) (i : ℕ) → i < length ws → get_or (settled ws) i zero_warp ≡ cond (some_runs ws) (get_or ws i zero_warp) (freed (get_or ws i zero_warp))
settled_at ws i h =
    by_test (some_runs ws) (λ e. rw (settled_on ws e, e)) (λ e. rw (settled_off ws e, e) (get_d_map_in freed ws i zero_warp zero_warp h))

-- a warp that has not ended runs once it is released
pub freed_goes : (w : Warp) → (freed w).ended ≡ false → runs (freed w) ≡ true
freed_goes w = by_test w.waiting (λ e. rw (freed_waits w e) (λ z. refl)) (λ e. rw (freed_runs w e) (λ z. runs_if w z e))

-- in a settled row some warp runs, or all have ended
pub settled_goes : (ws : List Warp) → all_ended (settled ws) ≡ false → some_runs (settled ws) ≡ true
settled_goes ws =
    by_test (some_runs ws) (λ e. rw (settled_on ws e) (λ z. e))
    (λ e. rw (settled_off ws e) (λ z. let l : Lasting (map freed ws) = who_lasts (map freed ws) z in
    let b : l.which < length ws = omega (arith, length-map ws freed) in
    let q = get_d_map_in freed ws l.which zero_warp zero_warp b in
    some_runs_lem (map freed ws) l.which l.below (rw q (freed_goes (get_or ws l.which zero_warp) (rw q at l.lasts)))))

-- what the launch fixed stays
pub settled_fixed : (ws : List Warp) → map (λ (w : Warp). w.fixed) (settled ws) ≡ map (λ (w : Warp). w.fixed) ws
settled_fixed ws = by_test (some_runs ws) (λ e. rw (settled_on ws e)) (λ e. rw (settled_off ws e) (all ws))
  where
    all : (us : List Warp) → map (λ (w : Warp). w.fixed) (map freed us) ≡ map (λ (w : Warp). w.fixed) us
    all [] = refl
    all (u ∷ us) = rw (freed_fixed u, all us)

-- ---- what a taken step leaves, part by part

pub gone_on_lem : (i : ℕ) (s : State) (m : Group)
    → gone_on i s m ≡ group (next_of (count_of m) i) (settled (set m.warps i s.warp)) (with_file_at i s.vector m.vector) s.bytes
unfolding gone_on
gone_on_lem i s m = refl
