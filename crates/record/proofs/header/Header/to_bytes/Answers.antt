-- `Header::to_bytes` is safe: a payload that fits has at most 4,096 bytes. Assumes nothing.
use mathlib.Core.Path.{◌≡◌, refl}
use Prim.Native.Nat.{ℕ, ◌/◌, ◌%◌}
use native.Mathlib.Omega.{arith}
use Rattle.record.proofs.Accepted.{fits-most}
use Rattle.record.proofs.header.Header.to_bytes.Goals as goal

pub overflow_cast-self : goal.overflow_cast-self
overflow_cast-self c = let most = fits-most _ _ c.args.self.fits in omega arith

pub returns : goal.returns
returns c =
    let most = fits-most _ _ c.args.self.fits in
    let high : c.args.self.len / 256 % 256 ≡ c.args.self.len / 256 = omega arith in
    rw (c.to_le_bytes.ensures, c.from.ensures, high) refl
