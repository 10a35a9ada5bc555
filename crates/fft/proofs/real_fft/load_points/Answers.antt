-- The core's passes are the transform of 256 points. Assumes nothing.
use Rattle.std.proofs.Common.{rules}
use Rattle.self_sorting.proofs.Sorting.{inverse-run}
use Rattle.fft.specs.RealFft.{halves_of}
use Rattle.fft.proofs.Sizes.{halves_long}
use Rattle.fft.proofs.real_fft.load_points.Goals as goal

pub returns : goal.returns
returns g c =
    rw (c.all_passes.ensures, c.load_halves.ensures) (inverse-run c.args.table.now (halves_of c.args.table.now (g.B.Bins.in_pairs c.args.spectrum.now)) c.args.z.now (halves_long _ _) (search rules))
