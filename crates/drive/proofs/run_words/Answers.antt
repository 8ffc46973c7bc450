use mathlib.Core.Path.{◌≡◌, refl, sym, ◌∙◌}
use mathlib.Core.Bool.{true}
use Rattle.memory.specs.Memories.{contents}
use Rattle.layout.specs.Words.{fixed_in}
use Rattle.definition.specs.Refuse.{runs_ok_of}
use Rattle.drive.proofs.Runs.{words_size, words_malformed, words_started, words_run}
use Rattle.drive.proofs.run_words.Goals as goal

pub returns-then-not-runs_ok : goal.returns-then-not-runs_ok
returns-then-not-runs_ok c =
    let f = c.fixed_in.ensures in
    let l = c.requires in
    (refl, words_size _ _ _ l.0 l.1 (rw f at (sym c.runs_ok.ensures ∙ c.if-not-runs_ok.true)))

pub returns-then-not-words_ok : goal.returns-then-not-words_ok
returns-then-not-words_ok c =
    let a = c.args in
    let sized : runs_ok_of (fixed_in a.w.now.fixed) a.kernel.now a.vector.now (contents a.bytes.now a.local.now) ≡ true = rw c.fixed_in.ensures at (sym c.runs_ok.ensures ∙ c.if-not-runs_ok.false) in
    let l = c.requires in
    (refl, words_malformed _ _ _ l.0 l.1 sized (sym c.words_ok.ensures ∙ c.if-not-words_ok.true))

pub drive-requires : goal.drive-requires
drive-requires c =
    let a = c.args in
    let sized : runs_ok_of (fixed_in a.w.now.fixed) a.kernel.now a.vector.now (contents a.bytes.now a.local.now) ≡ true = rw c.fixed_in.ensures at (sym c.runs_ok.ensures ∙ c.if-not-runs_ok.false) in
    let l = c.requires in
    words_started _ 0 _ l.0 l.1 sized (sym c.words_ok.ensures ∙ c.if-not-words_ok.false)

pub returns : goal.returns
returns c =
    let a = c.args in
    let sized : runs_ok_of (fixed_in a.w.now.fixed) a.kernel.now a.vector.now (contents a.bytes.now a.local.now) ≡ true = rw c.fixed_in.ensures at (sym c.runs_ok.ensures ∙ c.if-not-runs_ok.false) in
    let l = c.requires in
    (c.drive.ensures.0, words_run _ _ _ l.0 l.1 sized (sym c.words_ok.ensures ∙ c.if-not-words_ok.false) _ _ _ c.drive.ensures.1)
