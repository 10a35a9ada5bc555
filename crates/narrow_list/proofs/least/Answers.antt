-- `narrow_list::least` meets its contract. Assumes nothing.
use Rattle.narrow_list.specs.Lanes.{lesser_of}
use Rattle.narrow_list.proofs.Lanes.{tree-same}
use Rattle.narrow_list.proofs.least.Goals as goal

pub returns : goal.returns
returns c = rw
    (c.lower-6.ensures, c.lower-even.ensures, c.lower.ensures, c.lower-2.ensures, c.lower-5.ensures, c.lower-3.ensures, c.lower-4.ensures)
    (tree-same lesser_of _ _ c.leasts-s.ensures)
