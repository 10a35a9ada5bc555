use Rattle.fft.proofs.real_fft.transform_loaded.Goals as goal

pub returns : goal.returns
returns g c = rw (c.recombine.ensures, c.all_passes.ensures)
