-- M1 to M6: antt computes each. Assumes nothing.
use Rattle.std.proofs.Common.{refl}
use lib.Ieee.{round, to_bits}
use Rattle.numbers.specs.Narrowing.{narrow_of}
use Rattle.numbers.specs.Marked.{M1, M2, M3, M4, M5, M6}

pub m1 : M1
unfolding narrow_of round
m1 = refl

pub m2 : M2
unfolding narrow_of round
m2 = refl

pub m3 : M3
unfolding narrow_of round
m3 = refl

pub m4 : M4
unfolding narrow_of round to_bits
m4 = (refl, refl)

pub m5 : M5
unfolding narrow_of round
m5 = refl

pub m6 : M6
unfolding narrow_of round
m6 = refl
