use Rattle.sheet_lines.proofs.Bytes.{sheet_short, sheet_many, sheet_tests}
use native.Mathlib.Omega.{arith}
use Rattle.sheet_lines.proofs.sheet_ok.Goals as goal

pub returns-then-size-lt-HEAD_SIZE : goal.returns-then-size-lt-HEAD_SIZE
returns-then-size-lt-HEAD_SIZE c = sheet_short _ (omega arith)

pub returns-then-steps-gt-STEP_LIMIT : goal.returns-then-steps-gt-STEP_LIMIT
returns-then-steps-gt-STEP_LIMIT c = sheet_many _ (omega arith)

pub returns : goal.returns
returns c = sheet_tests _ _ _ c.byte_at-version.ensures.0 c.word_at-length.ensures (omega arith) (omega arith)
