-- `Header::size` is safe: a payload that fits has at most 4,096 bytes. Assumes nothing.
use native.Mathlib.Omega.{arith}
use Rattle.record.proofs.Accepted.{fits-most}
use Rattle.record.proofs.header.Header.size.Goals as goal

pub overflow_add-result : goal.overflow_add-result
overflow_add-result c = let most = fits-most _ _ c.args.self.fits in omega arith
