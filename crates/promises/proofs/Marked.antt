-- M1 to M12. Assumes nothing.
use Rattle.numbers.proofs.Marked.{m1, m2, m3, m4, m5, m6}
use Rattle.complex_fft.proofs.Marked.{m7}
use Rattle.trig.proofs.Marked.{m8, m9}
use Rattle.rho.proofs.Marked.{m10}
use Rattle.tau_steps.proofs.Marked.{m11}
use Rattle.tau_streams.proofs.Marked.{m12, m12-calls}
use Rattle.promises.specs.Marked.{Marked}

pub marked : Marked
marked = (m1, m2, m3, m4, m5, m6, m7, m8, m9, m10, m11, m12, m12-calls)
