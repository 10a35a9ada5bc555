use Rattle.std.proofs.Common.{arith, ◌+◌, ◌*◌, ◌≤◌, length}
use Rattle.std.specs.Float.{nan}
use Rattle.laws.specs.Parts.{part-with}
use Rattle.fft.specs.Calls.{spectrum_of}
use Rattle.fft.proofs.Sizes.{spectrum-514}
use Rattle.tau_spectra.specs.Far.{hear_far}
use Rattle.tau_spectra.proofs.far.hear.Goals as goal

pub returns-clause-heard : goal.returns-clause-heard
unfolding hear_far
returns-clause-heard c =
    let spectrum = spectrum_of c.slide.new.window in
    let head = c.next_slot-head.result in
    let within : 514 * head + 514 ≤ length c.args.spectra.now = omega (arith, c.requires.spectra_len, c.next_slot-head.ensures.in_ring) in
    let put = part-with 514 head c.args.spectra.now spectrum nan within (spectrum-514 _) in
    rw (c.far_power_of.ensures, c.keep.ensures, c.store.ensures, put, c.driving.ensures, c.sounding-sounded.ensures, c.peak-peak.ensures, c.energy-energy.ensures, c.next_slot-head.ensures.next, c.slide.ensures)
