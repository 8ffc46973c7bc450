use mathlib.Core.Path.{◌≡◌, sym, ◌∙◌, ap}
use Rattle.warp.specs.Warp.{answered}
use Rattle.layout.specs.Words.{warp_in, sound_in}
use Rattle.layout.specs.Parts.{warp_from, sound_from}
use Rattle.saved.proofs.SaveLaws.{restore_size, restore_bad, restore_done}
use Rattle.saved.proofs.restore.Goals as goal

pub returns-then-state-ne-STATE_WORDS : goal.returns-then-state-ne-STATE_WORDS
returns-then-state-ne-STATE_WORDS c = restore_size _ c.if-state-ne-STATE_WORDS.true

pub returns-then-not-sound : goal.returns-then-not-sound
returns-then-not-sound c =
    let t = c.args.state.now in
    let tested : c.sound.result ≡ sound_in t = c.sound.ensures ∙ ap sound_from c.get.ensures in
    restore_bad t c.if-state-ne-STATE_WORDS.false (sym tested ∙ c.if-not-sound.true)

pub returns : goal.returns
returns c =
    let t = c.args.state.now in
    let tested : c.sound.result ≡ sound_in t = c.sound.ensures ∙ ap sound_from c.get.ensures in
    let e : c.warp.result ≡ warp_in t = c.warp.ensures ∙ ap warp_from c.get.ensures in
    ap (answered 0) e ∙ restore_done t c.if-state-ne-STATE_WORDS.false (sym tested ∙ c.if-not-sound.false)
