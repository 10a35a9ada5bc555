use Rattle.std.proofs.Common.{◌≡◌, ◌*◌, ◌/◌, ◌≤◌, ◌∙◌, sym, length, arith, le_refl}
use Rattle.std.specs.Float.Ieee.{of_bits}
use Rattle.std.proofs.lemmas.Slice.{between_to_end}
use Rattle.rho_taps.proofs.Lanes.{peak-lanes, peak-ring, onward-part}
use Rattle.rho_taps.specs.Peak.{peak_up}
use Rattle.rho_taps.proofs.peak.peak.Goals as goal

pub returns : goal.returns
unfolding of_bits
returns c =
    let h = c.args.history.now in
    let l : 16 * (length h / 16) ≤ length h = omega arith in
    let up : c.onward.result ≡ peak_up h =
    rw (c.onward.ensures, between_to_end h (16 * (length h / 16)) (length h) (le_refl (length h)), onward-part, c.onward-m.ensures, c.lanes-p.ensures)
    (peak-lanes h (length h / 16) l c.type_inv.history) in
    record { value = up; around_ring = λ pos b. up ∙ sym (peak-ring h pos b c.type_inv.history) }
