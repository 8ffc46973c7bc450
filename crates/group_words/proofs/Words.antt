-- From the words of a group's warps to the group.
use Rattle.std.specs.Prelude.{Option, Some, None, is_some}
use Prim.Native.Nat.{ℕ, ◌+◌, ◌<◌, ◌≤◌}
use mathlib.Core.Path.{◌≡◌, refl, sym, ap, ◌∙◌, subst}
use mathlib.Core.Bool.{Bool, true, false, not, ◌&&◌, ◌||◌}
use mathlib.Core.List.{List, map}
use native.Mathlib.Nat.{le_refl}
use native.Mathlib.Omega.{arith}
use lib.Dec.{eqb}
use lib.ListN.{length, get_or, set, length-set, length-map}
use lib.Seq.{get_or-set_same, get_or-set_other, ext_get_or}
use borrow.Author.Tests.{eq-eqb, ne_eqb}
use Rattle.layout.specs.declared.WarpWords.{WarpWords}
use Rattle.layout.specs.Words.{moving_count, flat_count, is_set, ended_at, waiting_at, waiting_in, warp_of}
use Rattle.layout.specs.Parts.{no_words, warp_from}
use Rattle.warp.specs.declared.Warp.{Warp}
use Rattle.warp.specs.Warp.{zero_warp}
use Rattle.running.specs.Goes.{Goes}
use Rattle.running.proofs.Goes.{stop_goes}
use Rattle.group.specs.Group.{some_runs, runs, freed, settled}
use Rattle.group.proofs.GroupLaws.{by_equal, get_d_map_in, some_runs_lem, freed_runs, freed_waits, settled_on, settled_off}
use Rattle.group_words.specs.Row.{words_at, warps_in, runs_in, Rooms, MovingOnly, Moves, Picked}

-- the code's test of the two words
pub none_set : (a b : ℕ) → (eqb a 0 && eqb b 0) ≡ not (is_set a || is_set b)
none_set a b = go (eqb a 0) (eqb b 0)
  where
    go : (p q : Bool) → (p && q) ≡ not (not p || not q)
    go true true = refl
    go true false = refl
    go false q = refl

-- ---- the warps that words stand for

pub warps_long : (ws : List WarpWords) → length (warps_in ws) ≡ length ws
warps_long ws = length-map ws warp_from

pub warp_is : (ws : List WarpWords) (i : ℕ) → i < length ws → get_or (warps_in ws) i zero_warp ≡ warp_from (words_at ws i)
warp_is ws i h = get_d_map_in warp_from ws i no_words zero_warp h

-- warp i runs by its moving words
pub runs_at : (ws : List WarpWords) (i : ℕ) → i < length ws → runs (get_or (warps_in ws) i zero_warp) ≡ runs_in (words_at ws i).moving
unfolding warp_of
runs_at ws i h = ap runs (warp_is ws i h)

pub picked_is : (t : ℕ) (ws : List WarpWords) (o : Option ℕ) → Picked t ws o → is_some o ≡ some_runs (warps_in ws)
picked_is t ws None p = sym p
picked_is t ws (Some r) p = sym (some_runs_lem (warps_in ws) r (rw (warps_long ws) p.0) p.1.running)

-- warps that go by f one by one
pub warps_go : (f : Warp → Warp) (ws ws' : List WarpWords) → length ws' ≡ length ws → ((i : ℕ) → i < length ws → warp_from (words_at ws' i) ≡ f (warp_from (words_at ws i))) → warps_in ws' ≡ map f (warps_in ws)
warps_go f ws ws' e h =
    ext_get_or zero_warp (warps_in ws') (map f (warps_in ws)) (warps_long ws' ∙ e ∙ sym (warps_long ws) ∙ sym (length-map (warps_in ws) f))
    (λ i b.
    let b' : i < length ws' = rw (warps_long ws') at b in
    let b'' : i < length ws = rw e at b' in
    warp_is ws' i b' ∙ h i b'' ∙ ap f (sym (warp_is ws i b'')) ∙ sym (get_d_map_in f (warps_in ws) i zero_warp zero_warp (rw (warps_long ws) b'')))

-- ---- a release

module _ (g h x s : List ℕ) (z : length h ≡ moving_count) (n : length s ≡ flat_count) where
  -- a warp that doesn't wait stays as it is
  pub free_not : waiting_in h ≡ 0 → Goes freed g h x s h x s
  unfolding warp_of
  free_not e = record { long = z; room = n; sound = λ o. o; goes = sym (freed_runs (warp_of g h x s) (rw (eq-eqb _ _ e))) }

  pub free_waits : (waiting_in h ≡ 0 → ⊥) → Goes freed g h x s (set (set h ended_at 0) waiting_at 0) x s
  unfolding warp_of
  free_waits e =
      let p = stop_goes g h x s z n (set (set h ended_at 0) waiting_at 0) x false false refl in
      record { long = p.long; room = p.room; sound = p.sound; goes = p.goes ∙ sym (freed_waits (warp_of g h x s) (rw (ne_eqb _ _ e))) }

abbrev pub Freed : WarpWords → WarpWords → Type 0
Freed w w' = Goes freed w.fixed w.moving w.scalars w.splits w'.moving w.scalars w.splits

-- the first i warps are released
pub record Releasing (i : ℕ) (ws ws' : List WarpWords) : Type 0 where
  pub count : length ws' ≡ length ws
  pub only : (j : ℕ) → MovingOnly (words_at ws j) (words_at ws' j)
  pub done : (j : ℕ) → j < i → j < length ws → Freed (words_at ws j) (words_at ws' j)
  pub rest : (j : ℕ) → i ≤ j → words_at ws' j ≡ words_at ws j

pub releasing_start : (ws : List WarpWords) → Releasing 0 ws ws
releasing_start ws =
    record {
      count = refl;
      only = λ j. record { fixed = refl; scalars = refl; splits = refl };
      done = λ j h l. absurd (omega arith);
      rest = λ j h. refl;
    }

-- the moving words of w become h
abbrev pub moved : List ℕ → WarpWords → WarpWords
moved h w = record { moving = h; fixed = w.fixed; scalars = w.scalars; splits = w.splits }

module _ (ws : List WarpWords) (r : Rooms ws) where
  module _ (i : ℕ) (ws' : List WarpWords) (q : Releasing i ws ws') (b : i < length ws) (h : List ℕ) where
    abbrev w : WarpWords
    w = moved h (words_at ws' i)

    abbrev ws'' : List WarpWords
    ws'' = set ws' i w

    here : words_at ws'' i ≡ w
    here = get_or-set_same ws' i w no_words (omega (arith, q.count))

    there : (j : ℕ) → (j ≡ i → ⊥) → words_at ws'' j ≡ words_at ws' j
    there j e = get_or-set_other ws' i j w no_words e

    pub releasing_on : ((g x s : List ℕ) → length s ≡ flat_count → Goes freed g (words_at ws' i).moving x s h x s) → Releasing (i + 1) ws ws''
    releasing_on o =
        record {
          count = length-set ws' i w ∙ q.count;
          only = λ j.
              by_equal j i
              (λ e. subst (λ (k : ℕ). MovingOnly (words_at ws k) (words_at ws'' k)) (sym e) (rw here (record { fixed = (q.only i).fixed; scalars = (q.only i).scalars; splits = (q.only i).splits })))
              (λ e. rw (there j e) (q.only j));
          done = λ j l m. by_equal j i (λ e. subst (λ (k : ℕ). Freed (words_at ws k) (words_at ws'' k)) (sym e) (rw here now)) (λ e. rw (there j e) (q.done j (omega arith) m));
          rest = λ j l. there j (λ e. omega arith) ∙ q.rest j (omega arith);
        }
      where
        now : Freed (words_at ws i) w
        now =
            subst (λ (v : WarpWords). Goes freed (words_at ws i).fixed v.moving (words_at ws i).scalars (words_at ws i).splits h (words_at ws i).scalars (words_at ws i).splits) (q.rest i (le_refl i))
            (o (words_at ws i).fixed (words_at ws i).scalars (words_at ws i).splits (r.room i b))

  pub released_all : (ws' : List WarpWords) → Releasing (length ws) ws ws' → Moves (map freed) ws ws'
  released_all ws' q =
      record {
        count = q.count;
        only = q.only;
        long = λ i h. (q.done i h h).long;
        goes = warps_go freed ws ws' q.count (λ i h. let o = q.only i in rw (o.fixed, o.scalars, o.splits) (q.done i h h).goes);
        sound = λ o i h. let p = q.only i in rw p.splits ((q.done i h h).sound (o i h));
      }

  -- ---- what a step leaves, settled

  same : (f : List Warp → List Warp) → f (warps_in ws) ≡ warps_in ws → Moves f ws ws
  same f e =
      record {
        count = refl;
        only = λ i. record { fixed = refl; scalars = refl; splits = refl };
        long = r.long;
        goes = sym e;
        sound = λ o. o;
      }

  -- a warp runs: nothing is released
  pub settled_some : some_runs (warps_in ws) ≡ true → Moves settled ws ws
  settled_some z = same settled (settled_on (warps_in ws) z)

  pub settled_run : (i : ℕ) → i < length ws → runs_in (words_at ws i).moving ≡ true → Moves settled ws ws
  settled_run i h e = settled_some (some_runs_lem (warps_in ws) i (rw (warps_long ws) h) (runs_at ws i h ∙ e))

  pub settled_none : some_runs (warps_in ws) ≡ false → (ws' : List WarpWords) → Moves (map freed) ws ws' → Moves settled ws ws'
  settled_none z ws' q = record { count = q.count; only = q.only; long = q.long; goes = q.goes ∙ sym (settled_off (warps_in ws) z); sound = q.sound }
