use native.Mathlib.Omega.{arith}
use Prim.Native.Nat.{ℕ, ◌+◌, ◌*◌, ◌/◌, ◌≤◌}
use mathlib.Core.Path.{◌≡◌, sym, ap, ◌∙◌}
use mathlib.Core.Bool.{true}
use mathlib.Core.List.{List}
use lib.ListN.{length, take, replicate}
use Rattle.memory.specs.Memories.{contents}
use Rattle.launch_files.specs.LaunchFiles.{kernel_bytes}
use Rattle.text.proofs.Laws.{puts_as}
use Rattle.lines.specs.Lines.{code_line}
use Rattle.group_print.specs.GroupPrint.{group_files_ok, launched_lines}
use Rattle.group_print.proofs.Laws.{counted, prefix_long, too_many, too_large, files_taken, kernel_fits}
use Rattle.group_print.proofs.print_group.Goals as goal

pub returns-then-cards-gt-CARDS_BYTES : goal.returns-then-cards-gt-CARDS_BYTES
returns-then-cards-gt-CARDS_BYTES c =
    let a = c.args in
    let p = puts_as (too_many a.cards.now a.kernel.now a.bytes.now a.local.now c.if-cards-gt-CARDS_BYTES.true ∙ ap code_line (sym c.number.ensures)) c.put_code_line.ensures.0 in
    (counted p (omega (arith, c.put_code_line.ensures.1)) c.requires, p)

pub returns-then-not-files_ok : goal.returns-then-not-files_ok
returns-then-not-files_ok c =
    let a = c.args in
    let e = too_large a.cards.now a.kernel.now a.bytes.now a.local.now c.if-cards-gt-CARDS_BYTES.false (sym c.files_ok.ensures ∙ c.if-not-files_ok.true) in
    let p = puts_as (e ∙ ap code_line (sym c.cards_code.ensures)) c.put_code_line-then-not-files_ok.ensures.0 in
    (counted p (omega (arith, c.put_code_line-then-not-files_ok.ensures.1)) c.requires, p)

pub kernel_words-kernel-requires : goal.kernel_words-kernel-requires
kernel_words-kernel-requires c =
    let taken : (let a = c.args in group_files_ok a.kernel.now a.bytes.now a.local.now) ≡ true = sym c.files_ok.ensures ∙ c.if-not-files_ok.false in
    let fits : length c.args.kernel.now ≤ kernel_bytes = let a = c.args in kernel_fits a.cards.now a.kernel.now a.bytes.now a.local.now taken in
    omega (arith, fits)

pub slice_bounds-print_launched-end : goal.slice_bounds-print_launched-end
slice_bounds-print_launched-end c =
    prefix_long _ 262144 (omega (arith, c.if-cards-gt-CARDS_BYTES.false))

pub returns : goal.returns
returns c =
    let taken : (let a = c.args in group_files_ok a.kernel.now a.bytes.now a.local.now) ≡ true = sym c.files_ok.ensures ∙ c.if-not-files_ok.false in
    let a = c.args in
    let n : ℕ = length a.cards.now / 50 in
    let f = files_taken a.cards.now a.kernel.now a.bytes.now a.local.now c.if-cards-gt-CARDS_BYTES.false taken in
    let g = ap (λ (ws : List ℕ). launched_lines n a.cards.now ws (take (n * 8192) (replicate 262144 0)) (contents a.bytes.now a.local.now) (take (1 + n * 241) (replicate 7713 0))) (sym c.kernel_words-kernel.ensures) in
    let p = puts_as (f ∙ g) c.print_launched.ensures.0 in
    (counted p c.print_launched.ensures.1 c.requires, p)
