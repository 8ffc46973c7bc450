-- From what the callees do with the lent words to what the definition says of the state that they stand for.
use Prim.Native.Nat.{ℕ, ◌+◌, ◌-◌, ◌*◌, ◌/◌, ◌^◌, ◌<◌, ◌≤◌}
use mathlib.Core.Path.{◌≡◌, refl, sym, ap, ◌∙◌}
use mathlib.Core.Bool.{Bool, true, false, not, ◌&&◌, ◌||◌, cond}
use mathlib.Core.List.{List, [], ◌∷◌}
use native.Mathlib.Omega.{arith}
use lib.Bits.{bit_or, or_zero_l, or_add_and, and_le_r}
use lib.Dec.{eqb, leb, ltb}
use lib.ListN.{length, get_or}
use borrow.Author.Tests.{eq-eqb, ne_eqb, eqb-true, leb-true, leb-false, ltb-true, lt-ltb, le-ltb}
use Rattle.answer.specs.Rows.{◌⇒◌, first}
use Rattle.answer.proofs.Rows.{every_at}
use Rattle.word.specs.Word.{sub_of}
use Rattle.isa.specs.declared.Instr.{Instr}
use Rattle.isa.specs.declared.Instr.TheVariants as I
use Rattle.isa.specs.declared.Prefix.{Prefix}
use Rattle.isa.specs.Kinds.{instr_of}
use Rattle.isa.specs.Decode.{decode_of}
use Rattle.isa.specs.Prefix.{reg_ext_i, no_prefix, pending, prefixed}
use Rattle.isa.specs.Wide.{plain_wide, widened, wide_of, Judged}
use Rattle.isa.proofs.Decoded.{decoded}
use Rattle.isa.proofs.Digits.{fits_low, scalars_taken}
use Rattle.isa.proofs.Numbers.{read_plain, read_widened}
use Rattle.warp.specs.declared.Warp.{Warp}
use Rattle.warp.specs.Warp.{with_prefix, pends}
use Rattle.warp.specs.WellFormed.{prefix_ok_of, well_formed_of}
use Rattle.warp.specs.Facts.{FixedOk}
use Rattle.warp.proofs.Formed.{fixed_ok, mask_small, formed_unprefixed, none_pending, well}
use Rattle.layout.specs.Words.{flat_count, moving_count, is_set, prefix_at, pc_in, ended_in, waiting_in, prefix_in, fixed_in, warp_of}
use Rattle.running.specs.Goes.{Goes}
use Rattle.definition.specs.State.{State, state, Outcome, outcome, place_of, used_up}
use Rattle.definition.specs.Refuse.{runs_ok_of, on_kernel, refusals_of}
use Rattle.definition.specs.Exec.{goes, effect_of}
use Rattle.definition.specs.Step.{exec_of, step_of, Fetched, fetched, fetch_of}
use Rattle.definition.proofs.Sizes.{sizes}
use Rattle.definition.proofs.Tests.{keeping, step_unfetched, step_fetched, exec_refused}
use Rattle.memory.specs.Memories.{Contents}
use Rattle.handlers.specs.Handles.{lists, Handles}
use Rattle.handlers.proofs.Laws.{moved}
use Rattle.lane_handlers.specs.Lanes.{Lanes}
use Rattle.exec.specs.Ready.{Ready, Started, Lies, Widens}

-- ---- what a well-formed warp's words give the handlers

module _ (g h x s v : List ℕ) (d : Contents) (r : Ready (lists g h x s v d)) where
  pub ready_fixed : FixedOk (fixed_in g)
  unfolding warp_of
  ready_fixed = fixed_ok (fixed_in g) r.lent.formed.fixed

  pub ready_lanes : Lanes g h v
  unfolding warp_of
  ready_lanes =
      record { long = r.lent.long; at = record { file = r.file; fixed = ready_fixed; below = mask_small (warp_of g h x s) r.lent.formed } }

-- ---- 3 to 5, and the word

-- where none of two numbers is set their bits together are 0, and the reverse
pub or_none : (a b : ℕ) → bit_or a b ≡ 0 → (a ≡ 0) × (b ≡ 0)
or_none a b e =
    let p : a ≡ 0 = omega (arith, or_add_and a b, and_le_r a b) in
    (p, sym (or_zero_l b) ∙ ap (λ (x : ℕ). bit_or x b) (sym p) ∙ e)

pub or_some : (a b : ℕ) → (bit_or a b ≡ 0 → ⊥) → a ≡ 0 → b ≡ 0 → ⊥
or_some a b n p q = n (omega (arith, or_add_and a b))

-- which of 3 and 4
module _ (e b : ℕ) where
  pub number_ended : (e ≡ 0 → ⊥) → 3 ≡ first (3 ⇒ is_set e ∷ 4 ⇒ is_set b ∷ [])
  number_ended n = rw (ne_eqb e 0 n)

  pub number_waits : e ≡ 0 → (b ≡ 0 → ⊥) → 4 ≡ first (3 ⇒ is_set e ∷ 4 ⇒ is_set b ∷ [])
  number_waits z n = rw (eq-eqb e 0 z, ne_eqb b 0 n)

pub place_lies : (pc base : ℕ) → pc < 2 ^ 32 → (r : ℕ) → r ≡ sub_of pc base / 4 → Lies pc base r
place_lies pc base h r e = record { on = λ l. rw e (at_or_after l); before = λ n f l. rw e (wraps n f l) }
  where
    at_or_after : base ≤ pc → sub_of pc base / 4 ≡ (pc - base) / 4
    at_or_after l = omega arith

    wraps : (n : ℕ) → base + 4 * n ≤ 2 ^ 32 → pc < base → n ≤ sub_of pc base / 4
    wraps n f l = omega arith

module _ (k g h x s : List ℕ) where
  abbrev W : Warp
  W = warp_of g h x s

  stopped : (e b o : Bool) (u : ℕ) → (first (3 ⇒ e ∷ 4 ⇒ b ∷ []) ≡ 0 → ⊥)
      → fetched (first (3 ⇒ e ∷ 4 ⇒ b ∷ [])) 0 ≡ (let c : ℕ = first (3 ⇒ e ∷ 4 ⇒ b ∷ 5 ⇒ o ∷ []) in fetched c (cond (eqb c 0) u 0))
  stopped true b o u n = refl
  stopped false true o u n = refl
  stopped false false o u n = absurd (n refl)

  is_stopped : (ended_in h ≡ 0 → waiting_in h ≡ 0 → ⊥) → first (3 ⇒ is_set (ended_in h) ∷ 4 ⇒ is_set (waiting_in h) ∷ []) ≡ 0 → ⊥
  is_stopped n = go (eqb (ended_in h) 0) (eqb (waiting_in h) 0) refl refl
    where
      go : (a b : Bool) → eqb (ended_in h) 0 ≡ a → eqb (waiting_in h) 0 ≡ b → first (3 ⇒ not a ∷ 4 ⇒ not b ∷ []) ≡ 0 → ⊥
      go true true p q z = n (eqb-true _ _ p) (eqb-true _ _ q)
      go true false p q z = absurd (omega arith)
      go false b p q z = absurd (omega arith)

  pub fetch_stopped : (c : ℕ) → c ≡ first (3 ⇒ is_set (ended_in h) ∷ 4 ⇒ is_set (waiting_in h) ∷ []) → (ended_in h ≡ 0 → waiting_in h ≡ 0 → ⊥) → fetched c 0 ≡ fetch_of k W
  unfolding warp_of fetch_of
  fetch_stopped c e n = rw e (stopped (is_set (ended_in h)) (is_set (waiting_in h)) (not (on_kernel k W)) (get_or k (place_of W) 0) (is_stopped n))

  module _ (a : ended_in h ≡ 0) (b : waiting_in h ≡ 0) (fits : (fixed_in g).codeBase + 4 * length k ≤ 2 ^ 32) (at : ℕ) (lies : Lies (pc_in h) (fixed_in g).codeBase at) where
    pub fetch_off : length k ≤ at → fetched 5 0 ≡ fetch_of k W
    unfolding warp_of fetch_of
    fetch_off m = rw (eq-eqb _ _ a, eq-eqb _ _ b) (go (leb (fixed_in g).codeBase (pc_in h)) refl)
      where
        go : (t : Bool) → leb (fixed_in g).codeBase (pc_in h) ≡ t
            → fetched 5 0 ≡ (let c : ℕ = first (5 ⇒ not (t && ltb ((pc_in h - (fixed_in g).codeBase) / 4) (length k)) ∷ []) in fetched c (cond (eqb c 0) (get_or k ((pc_in h - (fixed_in g).codeBase) / 4) 0) 0))
        go true t = rw (← lies.on (leb-true _ _ t), le-ltb _ _ m)
        go false t = refl

    pub fetch_word : at < length k → fetched 0 (get_or k at 0) ≡ fetch_of k W
    unfolding warp_of fetch_of
    fetch_word m =
        rw (eq-eqb _ _ a, eq-eqb _ _ b) (go (leb (fixed_in g).codeBase (pc_in h)) refl)
      where
        go : (t : Bool) → leb (fixed_in g).codeBase (pc_in h) ≡ t
            → fetched 0 (get_or k at 0) ≡ (let c : ℕ = first (5 ⇒ not (t && ltb ((pc_in h - (fixed_in g).codeBase) / 4) (length k)) ∷ []) in fetched c (cond (eqb c 0) (get_or k ((pc_in h - (fixed_in g).codeBase) / 4) 0) 0))
        go true t = rw (← lies.on (leb-true _ _ t), lt-ltb _ _ m)
        go false t = absurd (omega (arith, lies.before (length k) fits (leb-false _ _ t)))

-- ---- the prefix

pub prefix_bits : (p : Prefix) → prefix_ok_of p ≡ true → p.bits < 2 ^ 12
unfolding prefix_ok_of
prefix_bits p e = ltb-true _ _ (every_at (leb p.kind reg_ext_i ∷ ltb p.bits (2 ^ 12) ∷ (pending p || eqb p.bits 0) ∷ []) e 1)

-- none is pending, the word doesn't take it, or it takes it
pub widens_none : (p : Prefix) (w : ℕ) → w < 2 ^ 32 → p.kind ≡ 0 → Widens p w 0 (plain_wide w)
unfolding prefixed
widens_none p w b z =
    record {
      taken = λ e k i. rw (eq-eqb _ _ z) (read_plain w k b (decode_of w) i (fits_low (decode_of w) (decoded w)));
      number = λ n. absurd (n refl);
      refused = λ n. absurd (n refl);
    }

pub widens_not : (p : Prefix) (w z : ℕ) → Judged false p w → Widens p w 6 z
widens_not p w z j = record { taken = λ e. absurd (omega arith); number = λ n. refl; refused = λ n. j.refused refl }

pub widens_so : (p : Prefix) (w : ℕ) → w < 2 ^ 32 → p.bits < 2 ^ 12 → (p.kind ≡ 0 → ⊥) → Judged true p w → Widens p w 0 (widened p w)
widens_so p w b q n j =
    record {
      taken = λ e k i. read_widened w k b (decode_of w) i p q (scalars_taken p (decode_of w) (rw (ne_eqb _ _ n)) (j.taken refl)) ∙ sym (j.taken refl);
      number = λ n. absurd (n refl);
      refused = λ n. absurd (n refl);
    }

-- where none is pending it is used up already
pub none_goes : (g h x s : List ℕ) → length h ≡ moving_count → length s ≡ flat_count → prefix_in h ≡ no_prefix → Goes (with_prefix no_prefix) g h x s h x s
unfolding warp_of
none_goes g h x s z n e = record { long = z; room = n; sound = λ o. o; goes = ap (λ (p : Prefix). with_prefix p (warp_of g h x s)) e }

-- the instruction that is read is the word's, with the prefix on it
pub own_is : (p : Prefix) (k w c z : ℕ) → Widens p w c z → c ≡ 0 → instr_of k w ≡ decode_of w → wide_of k z ≡ prefixed p (decode_of w)
own_is p k w c z q e i = q.taken e k i

pub pended : (i : Instr) (k n c : ℕ) (g h x s v : List ℕ) (d : Contents) (h' : List ℕ) → c ≡ 0 → Goes (pends k n) g h x s h' x s → first (refusals_of i (state (warp_of g h x s) v d)) ≡ 0
    → effect_of i (state (warp_of g h x s) v d) ≡ goes (pends k n (warp_of g h x s)) → Handles (exec_of i) c (lists g h x s v d) (lists g h' x s v d)
pended i k n c g h x s v d h' z q e f = rw z (moved i (pends k n) g h x s v d h' x s q e f)

-- ---- the step

-- a refused instruction leaves the state
exec_kept : (i : Instr) (m : State) → ((exec_of i m).code ≡ 0 → ⊥) → (exec_of i m).left ≡ m
unfolding exec_of
exec_kept i m n = rw (ne_eqb _ _ n)

module _ (k g h x s v : List ℕ) (d : Contents) (r : Started k (lists g h x s v d)) where
  pub started_code : (fixed_in g).codeBase + 4 * length k ≤ 2 ^ 32
  started_code = (sizes (fixed_in g) k v d r.sizes).code_ok

  pub started_prefix : prefix_ok_of (prefix_in h) ≡ true
  unfolding warp_of
  started_prefix = r.lent.formed.prefix

  pub started_none : get_or h prefix_at 0 ≡ 0 → prefix_in h ≡ no_prefix
  unfolding warp_of
  started_none e = none_pending (warp_of g h x s) r.lent.formed (rw (eq-eqb (get_or h prefix_at 0) 0 e))

  abbrev M : State
  M = state (warp_of g h x s) v d

  formed_well : well_formed_of (warp_of g h x s) ≡ true
  formed_well = well (warp_of g h x s) r.lent.formed

  sizes_at : runs_ok_of (warp_of g h x s).fixed k v d ≡ true
  unfolding warp_of
  sizes_at = r.sizes

  pub step_refused : (c w : ℕ) → fetched c w ≡ fetch_of k (warp_of g h x s) → (c ≡ 0 → ⊥) → Handles (step_of k) c (lists g h x s v d) (lists g h x s v d)
  step_refused c w e z =
      let q : (fetch_of k (warp_of g h x s)).code ≡ c = ap (λ (f : Fetched). f.code) (sym e) in
      record {
        long = r.lent.long;
        room = r.lent.room;
        sound = λ o. o;
        goes = sym (step_unfetched k M sizes_at formed_well (λ y. z (sym q ∙ y)) ∙ ap (λ (n : ℕ). outcome n M) q);
      }

  module _ (c w : ℕ) (e : fetched c w ≡ fetch_of k (warp_of g h x s)) (z : c ≡ 0) where
    abbrev own : Instr
    own = prefixed (prefix_in h) (decode_of w)

    -- what the word does alone, on the state whose prefix is used up
    fetched_step : step_of k M ≡ keeping (exec_of own (used_up M)) M
    unfolding warp_of
    fetched_step =
        let fc : (fetch_of k (warp_of g h x s)).code ≡ 0 = ap (λ (f : Fetched). f.code) (sym e) ∙ z in
        let fw : (fetch_of k (warp_of g h x s)).word ≡ w = ap (λ (f : Fetched). f.word) (sym e) in
        step_fetched k M sizes_at formed_well fc ∙ ap (λ (u : ℕ). keeping (exec_of (prefixed (prefix_in h) (decode_of u)) (used_up M)) M) fw

    -- a word that doesn't take the prefix
    pub step_untaken : (n : ℕ) → n ≡ 6 → own ≡ I.Refused → Handles (step_of k) n (lists g h x s v d) (lists g h x s v d)
    unfolding refusals_of
    step_untaken n six u =
        record {
          long = r.lent.long;
          room = r.lent.room;
          sound = λ o. o;
          goes = rw six (sym (fetched_step ∙ ap (λ (i : Instr). keeping (exec_of i (used_up M)) M) u ∙ ap (λ (o : Outcome). keeping o M) (exec_refused I.Refused (used_up M) 6 (λ y. omega arith) refused_six)));
        }
      where
        refused_six : first (refusals_of I.Refused (used_up M)) ≡ 6
        refused_six = refl

    module _ (h' : List ℕ) (p : Goes (with_prefix no_prefix) g h x s h' x s) where
      pub cleared_ready : Ready (lists g h' x s v d)
      cleared_ready =
          let y = sizes (fixed_in g) k v d r.sizes in
          record {
            lent = record { long = p.long; room = p.room; formed = rw p.goes (formed_unprefixed (warp_of g h x s) r.lent.formed); sound = p.sound r.lent.sound };
            file = y.file_is;
            memories_ok = (y.data_ok, y.local_ok);
          }

      module _ (i : Instr) (n : ℕ) (hb xb sb vb : List ℕ) (db : Contents) (ei : i ≡ own) (q : Handles (exec_of i) n (lists g h' x s v d) (lists g hb xb sb vb db)) where
        abbrev B : State
        B = state (warp_of g hb xb sb) vb db

        carried : outcome n B ≡ exec_of own (used_up M)
        carried = q.goes ∙ ap (λ (u : Warp). exec_of i (state u v d)) p.goes ∙ ap (λ (j : Instr). exec_of j (used_up M)) ei

        as_step : keeping (outcome n B) M ≡ step_of k M
        as_step = ap (λ (o : Outcome). keeping o M) carried ∙ sym fetched_step

        pub step_carried : n ≡ 0 → Handles (step_of k) 0 (lists g h x s v d) (lists g hb xb sb vb db)
        step_carried y =
            let z : outcome 0 B ≡ keeping (outcome n B) M = rw (y) in
            record { long = q.long; room = q.room; sound = λ o. q.sound (p.sound o); goes = z ∙ as_step }

        -- refused: the prefix is put back
        pub step_put_back : (n ≡ 0 → ⊥) → (h'' : List ℕ) → Goes (with_prefix (prefix_in h)) g hb xb sb h'' xb sb → Handles (step_of k) n (lists g h x s v d) (lists g h'' xb sb vb db)
        unfolding warp_of
        step_put_back y h'' u =
            record { long = u.long; room = u.room; sound = λ o. u.sound (q.sound (p.sound o)); goes = put_back ∙ kept_whole ∙ as_step }
          where
            same_state : B ≡ used_up M
            same_state = ap (λ (o : Outcome). o.left) carried ∙ exec_kept own (used_up M) (λ c. y (ap (λ (o : Outcome). o.code) carried ∙ c))

            put_back : outcome n (state (warp_of g h'' xb sb) vb db) ≡ outcome n M
            put_back =
                ap (λ (w : Warp). outcome n (state w vb db)) u.goes
                ∙ ap (λ (m : State). outcome n (state (with_prefix (prefix_in h) m.warp) m.vector m.bytes)) same_state

            kept_whole : outcome n M ≡ keeping (outcome n B) M
            kept_whole = rw (ne_eqb n 0 y)
