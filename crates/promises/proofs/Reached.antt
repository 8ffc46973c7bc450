-- Every reached state is sound.
use Prim.Native.Nat.{ℕ}
use mathlib.Core.Path.{◌≡◌, refl, sym, ◌∙◌, ap, subst}
use mathlib.Core.Bool.{Bool, true, false, not, true≢false}
use mathlib.Core.List.{List}
use native.Mathlib.Omega.{arith}
use lib.Dec.{ltb}
use lib.ListN.{length, replicate}
use borrow.Author.Tests.{eq-eqb, eqb-true, ltb-false}
use Rattle.answer.proofs.Rows.{both}
use Rattle.lanes.specs.Lanes.{file_words}
use Rattle.memory.specs.Memories.{Region, Contents, bytes_at}
use Rattle.warp.specs.declared.Launch.{Launch}
use Rattle.warp.specs.declared.Warp.{Warp}
use Rattle.warp.specs.Warp.{aligned, split_count, Answered}
use Rattle.warp.specs.WellFormed.{fixed_ok_of, launch_ok_of, chain_of, all_zero, prefix_ok_of, well_formed_of}
use Rattle.warp.proofs.Moves.{Moves, leaves}
use Rattle.warp.specs.Facts.{Formed}
use Rattle.warp.proofs.Formed.{stopped_none, formed, well, formed_stop, waiting_free}
use Rattle.definition.specs.State.{State, state, Outcome, outcome, fixed_of}
use Rattle.definition.specs.Refuse.{runs_ok_of}
use Rattle.definition.specs.Step.{step_of}
use Rattle.definition.specs.Calls.{launched_of, launch_of}
use Rattle.definition.proofs.Sizes.{sizes, sizes_kept}
use Rattle.definition.proofs.Sound.{step_sound}
use Rattle.definition.proofs.Used.{step_within}
use Rattle.promises.specs.Reached.{GoesOn, steps, releases, changes, launched, goes, Sound, ReachedSound, NeverMalformed}
use Rattle.promises.proofs.Refusals.{step_refusals, launch_refusals, release_refusals}

-- what neither 1 nor 2 refuses
pub record Fit (k : List ℕ) (s : State) : Type 0 where
  pub formed : well_formed_of s.warp ≡ true
  pub splits : length s.warp.splits ≡ split_count
  pub runs : runs_ok_of (fixed_of s) k s.vector s.bytes ≡ true

pub fit : (k : List ℕ) (l : Launch) (s : State) → Sound k l s → Fit k s
fit k l s g = record { formed = g.formed; splits = g.splits; runs = g.runs }

-- ---- from state to state

pub record Carried (s t : State) : Type 0 where
  pub formed : Formed t.warp
  pub moves : Moves s.warp t.warp
  pub fixed : fixed_of t ≡ fixed_of s
  pub registers : length t.warp.x ≡ length s.warp.x
  pub words : length t.vector ≡ length s.vector
  pub size : (r : Region) → length (bytes_at r t.bytes) ≡ length (bytes_at r s.bytes)

-- a waiting warp has no split open
shut : (w : Warp) → Formed w → w.waiting ≡ true → w.depth ≡ 0
shut w f b = let z : ltb 0 w.depth ≡ false = stopped_none w.ended w.waiting (ltb 0 w.depth) f.quiet b in omega (arith, ltb-false 0 w.depth z)

pub carried : (k : List ℕ) (s t : State) → Fit k s → GoesOn k s t → Carried s t
carried k s t g (steps q) =
    let z : (step_of k s).code ≡ 0 = ap (λ (o : Outcome). o.code) q in
    let n = step_within k s in
    subst (Carried s) (ap (λ (o : Outcome). o.left) q)
    (record {
      formed = (step_sound k s z g.splits).formed;
      moves = (step_sound k s z g.splits).moves;
      fixed = n.fixed;
      registers = n.scalars;
      words = n.words;
      size = n.size;
    })
carried k s t g (releases q) =
    let r = release_refusals s.warp in
    let z = ap (λ (a : Answered). a.code) q in
    let f : Formed s.warp = formed s.warp g.splits g.formed in
    subst (λ (u : Warp). Carried s (state u s.vector s.bytes)) (ap (λ (a : Answered). a.warp) (sym (r.gives z) ∙ q))
    (record {
      formed = formed_stop s.warp f false false refl (shut s.warp f (r.row0.0 z).1) (waiting_free s.warp f (r.row0.0 z).1);
      moves = leaves (record { splits = refl; depth = refl; mask = refl; fixed = refl });
      fixed = refl;
      registers = refl;
      words = refl;
      size = λ r. refl;
    })
carried k s t g (changes v c) =
    record {
      formed = formed s.warp g.splits g.formed;
      moves = leaves (record { splits = refl; depth = refl; mask = refl; fixed = refl });
      fixed = refl;
      registers = refl;
      words = v;
      size = c;
    }

pub goes_fit : (k : List ℕ) (s t : State) → Fit k s → GoesOn k s t → Fit k t
goes_fit k s t g n =
    let c = carried k s t g n in
    record { formed = well t.warp c.formed; splits = c.formed.long; runs = rw c.fixed (sizes_kept (fixed_of s) k s.vector s.bytes t.vector t.bytes c.words c.size ∙ g.runs) }

pub goes_sound : (k : List ℕ) (l : Launch) (s t : State) → Sound k l s → GoesOn k s t → Sound k l t
goes_sound k l s t g n =
    let c = carried k s t (fit k l s g) n in
    let f = goes_fit k s t (fit k l s g) n in
    record { formed = f.formed; splits = f.splits; registers = c.registers ∙ g.registers; runs = f.runs; fixed = c.fixed ∙ g.fixed }

-- ---- the launch

formed_launch : (l : Launch) → launch_ok_of l ≡ true → Formed (launched_of l)
unfolding all_zero chain_of prefix_ok_of
formed_launch l e =
    let p = both (fixed_ok_of l.fixed) (aligned l.entry) e in
    record {
      long = refl;
      fixed = p.0;
      pc = eqb-true _ _ p.1;
      x0 = refl;
      deep = omega arith;
      unused = refl;
      one = refl;
      chain = eq-eqb l.fixed.launchMask _ refl;
      quiet = refl;
      prefix = refl;
      free = refl;
    }

launch_sound : (k : List ℕ) (l : Launch) (s : State) (v : List ℕ) (c : Contents) → launch_of k l v c ≡ outcome 0 s → Sound k l s
launch_sound k l s v c q =
    let r = launch_refusals k l v c in
    let z : (launch_of k l v c).code ≡ 0 = ap (λ (o : Outcome). o.code) q in
    let p = both (runs_ok_of l.fixed k v c) (launch_ok_of l) (r.row0.0 z) in
    subst (Sound k l) (ap (λ (o : Outcome). o.left) (sym (r.gives z) ∙ q))
    (record {
      formed = well (launched_of l) (formed_launch l p.1);
      splits = refl;
      registers = refl;
      runs = sizes_kept l.fixed k v c (replicate file_words 0) c (sym (sizes l.fixed k v c p.0).file_is) (λ r. refl) ∙ p.0;
      fixed = refl;
    })

-- ---- promises

pub reached_sound : ReachedSound
reached_sound k l s (launched v c q) = launch_sound k l s v c q
reached_sound k l s (goes {s = r} h n) = goes_sound k l r s (reached_sound k l r h) n

-- a test that holds is not refused
refuted : (t : Bool) → t ≡ true → not t ≡ true → ⊥
refuted true e n = true≢false (sym n)
refuted false e n = true≢false (sym e)

pub unrefused : (k : List ℕ) (s : State) → Fit k s → ((step_of k s).code ≡ 1 → ⊥) × ((step_of k s).code ≡ 2 → ⊥)
unrefused k s f =
    let t = step_refusals k s in
    (λ e. refuted _ f.runs (t.row1.0 e).1, λ e. refuted _ f.formed (t.row2.0 e).1)

pub never_malformed : NeverMalformed
never_malformed k l s r =
    let g : Sound k l s = reached_sound k l s r in
    let u = unrefused k s (fit k l s g) in
    record { step1 = u.0; step2 = u.1; release2 = λ e. true≢false (sym g.formed ∙ (release_refusals s.warp).row2.0 e) }
