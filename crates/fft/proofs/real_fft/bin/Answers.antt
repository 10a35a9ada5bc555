use Rattle.fft.proofs.Ends.{bin-there}
use Rattle.fft.proofs.real_fft.bin.Goals as goal

pub returns : goal.returns
returns c =
    rw (c.bin_from.ensures, c.get.ensures, c.get_split-2.ensures, c.get_split.ensures) (bin-there c.args.table.now c.args.z.now c.args.k c.args.here c.args.mirror c.requires.places.0 c.requires.places.1)
