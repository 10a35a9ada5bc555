-- `capi::aspeyruni_narrow_kind` gives the number of what `narrow_told` tells. Assumes nothing.
use Rattle.capi.proofs.aspeyruni_narrow_kind.Goals as goal

pub returns : goal.returns
returns c = rw (c.from.ensures, c.narrow_told-told.ensures)
