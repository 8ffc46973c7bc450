-- The printout: five lines after a run, or the code line alone after a refused card or launch.
use Rattle.std.specs.Prelude.{ℕ, Bool, ◌&&◌, cond, List, eqb, leb, length, replicate}
use Rattle.std.proofs.lemmas.List.Edits.{sets}
use Rattle.lanes.specs.Lanes.{file_words}
use Rattle.memory.specs.Memories.{alone}
use Rattle.warp.specs.declared.Launch.{Launch}
use Rattle.definition.specs.State.{Outcome}
use Rattle.definition.specs.Calls.{launch_of, Ran, run_of}
use Rattle.launch_files.specs.LaunchFiles.{kernel_words_of, read_files_of}
use Rattle.lines.specs.Lines.{code_line, five_lines, room_needed}

-- ---- three files in, lines out

abbrev pub budget : ℕ
budget = 65536

-- the lines, and the vector file and data memory that are left
pub record Report : Type 0 where
  pub lines : List ℕ
  pub vector : List ℕ
  pub bytes : List ℕ

abbrev pub report : List ℕ → List ℕ → List ℕ → Report
report t v d = record { lines = t; vector = v; bytes = d }

abbrev pub ran_report : Ran → Report
ran_report r =
    let m = r.ends.left in
    let w = m.warp in
    report (five_lines r.ends.code r.steps w.pc w.mask w.depth) m.vector m.bytes.data_bytes

-- the kernel k in words
abbrev pub launched_report : List ℕ → Outcome → Report
launched_report k o = cond (eqb o.code 0) (ran_report (run_of k budget o.left)) (report (code_line o.code) o.left.vector o.left.bytes.data_bytes)

unfoldable pub kernel_report : List ℕ → Launch → List ℕ → List ℕ → Report
kernel_report k l v d = launched_report k (launch_of k l v (alone d))

-- the files c, k and d, with the vector file v lent: the files' tests first, then the launch
unfoldable pub report_of : List ℕ → List ℕ → List ℕ → List ℕ → Report
report_of c k v d =
    let r = read_files_of c k d in
    cond (eqb r.number 0) (kernel_report (kernel_words_of k) r.launch v d) (report (code_line r.number) v d)

-- the printout, which the three files alone decide (the law printout_is)
unfoldable pub printout_of : List ℕ → List ℕ → List ℕ → List ℕ
printout_of c k d = (report_of c k (replicate file_words 0) d).lines

-- ---- the call

-- how many bytes of the printout were put, and the lent runs afterwards
pub record Printed : Type 0 where
  pub size : ℕ
  pub out : List ℕ
  pub vector : List ℕ
  pub bytes : List ℕ

abbrev pub printed : ℕ → List ℕ → List ℕ → List ℕ → Printed
printed n o v d = record { size = n; out = o; vector = v; bytes = d }

-- the lines at the start of o
abbrev pub put_into : List ℕ → Report → Printed
put_into o p = printed (length p.lines) (sets o 0 p.lines) p.vector p.bytes

-- a whole vector file, and room for every printout
unfoldable pub buffers_ok_of : List ℕ → List ℕ → Bool
buffers_ok_of v o = eqb (length v) file_words && leb room_needed (length o)

-- refused, nothing is put and nothing changes
unfoldable pub print_files_of : List ℕ → List ℕ → List ℕ → List ℕ → List ℕ → Printed
print_files_of c k d v o = cond (buffers_ok_of v o) (put_into o (report_of c k v d)) (printed 0 o v d)
