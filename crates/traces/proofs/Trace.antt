-- The trace cards, which antt computes.
use mathlib.Core.Path.{refl}
use Rattle.definition.proofs.Computes.{computed_words, computes}
use Rattle.traces.specs.Trace.{TraceWords, TraceCards}

pub trace_words : TraceWords
unfolding computed_words
trace_words = (refl, (refl, (refl, tt)))

pub trace_cards : TraceCards
unfolding computes
trace_cards = (refl, (refl, (refl, (refl, (refl, (refl, (refl, (refl, (refl, (refl, (refl, (refl, (refl, (refl, (refl, (refl, (refl, (refl, tt))))))))))))))))))
