-- Two results that a contract allows are equal.
use mathlib.Core.Path.{sym, ◌∙◌}
use Rattle.promises.specs.Determined.{ShowsAll, Determined, DeterminedWhole}

pub determined : {A R S : Type 0} (view : R → S) (f : A → S) → Determined view f
determined view f a r t p q = p ∙ sym q

pub determined_whole : {A R S : Type 0} (view : R → S) (f : A → S) → ShowsAll view → DeterminedWhole view f
determined_whole view f all a r t p q = all r t (p ∙ sym q)
