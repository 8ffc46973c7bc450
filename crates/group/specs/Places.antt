-- What the test of the warps' places says, in plain terms.
use Rattle.std.specs.Prelude.{ℕ, ◌≡◌}
use Rattle.warp.specs.declared.Fixed.{Fixed}

-- warp i is in its place: WID and NUMW by the group, the rest as warp 0 has it
pub record InPlace (n : ℕ) (zeroth : Fixed) (i : ℕ) (f : Fixed) : Type 0 where
  pub wid : f.wid ≡ i
  pub numw : f.numw ≡ n
  pub numt : f.numt ≡ zeroth.numt
  pub codeBase : f.codeBase ≡ zeroth.codeBase
  pub dataBase : f.dataBase ≡ zeroth.dataBase
  pub lds : f.lds ≡ zeroth.lds
