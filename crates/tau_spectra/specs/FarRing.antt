-- The ring that the code's `FarRing` lends. Definitions only.
use Rattle.tau_spectra.specs.Ring.{Ring}
use Rattle.tau_spectra.specs.declared.ring.FarRing.{FarRing}

abbrev pub ring_in : FarRing → Ring
ring_in r = record { partitions = r.partitions; head = r.head; spectra = r.spectra.now }
