-- The marked cases of document 01, M1 to M12, as a single list. Each is a statement over the definitions of its crate; M12 is one of
-- streams, and of calls too.
use Rattle.numbers.specs.Marked.{M1, M2, M3, M4, M5, M6}
use Rattle.complex_fft.specs.Marked.{M7}
use Rattle.trig.specs.Marked.{M8, M9}
use Rattle.rho.specs.Marked.{M10}
use Rattle.tau_steps.specs.Marked.{M11}
use Rattle.tau_streams.specs.Marked.{M12, M12Calls}

abbrev pub Marked : Type 0
Marked = M1 × M2 × M3 × M4 × M5 × M6 × M7 × M8 × M9 × M10 × M11 × M12 × M12Calls
