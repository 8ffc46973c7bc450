use mathlib.Core.Path.{◌≡◌, sym, ◌∙◌}
use mathlib.Core.Bool.{false}
use mathlib.Core.List.{List}
use Prim.Native.Nat.{ℕ}
use lib.ListN.{replicate}
use Rattle.std.proofs.Common.{rules}
use Rattle.std.specs.Array.{AllOfLen}
use Rattle.std.proofs.lemmas.List.{same_lists, get_or-replicate, length-replicate}
use Rattle.warp.specs.Warp.{zero_warp, zero_split}
use Rattle.warp.proofs.zero_warp.Goals as goal

all_one : {A : Type 0} (a : A) (P : A → Type 0) → ((x : A) → P x → x ≡ a) → (xs : List A) (n : ℕ) → AllOfLen P xs n → xs ≡ replicate n a
all_one a P is xs n h =
    same_lists xs (replicate n a) (h.long ∙ sym (length-replicate n a))
    (λ k d l. is _ (h.at k d (rw (← h.long) l)) ∙ sym (get_or-replicate n k a d (rw (← h.long) l)))

pub returns : goal.returns
unfolding zero_warp
returns c =
    let w = c.default.result in
    let e = c.default.ensures in
    let x : w.x ≡ replicate 64 0 = all_one 0 _ (λ y h. h) w.x 64 e.0 in
    let s : w.splits ≡ replicate 31 zero_split = all_one zero_split (λ y. (y.rpc ≡ 0) × ((y.full ≡ 0) × ((y.elseMask ≡ 0) × ((y.elsePc ≡ 0) × (y.phaseTwo ≡ false))))) (λ y h. search (rules, h)) w.splits 31 e.1.0 in
    search (rules, x, s, e)
