-- What each public function promises: what it is given, then its answer. The contracts cite these names, and crate promises proves that
-- each admits one answer (Answers).
use Rattle.std.specs.Prelude.{◌≡◌, List, Float}
use Rattle.trig.specs.Trig.{det_sin, det_cos}
use Rattle.trig.specs.Tables.{recombination}

abbrev pub DetSin : Float → Float → Type 0
DetSin x r = r ≡ det_sin x

abbrev pub DetCos : Float → Float → Type 0
DetCos x r = r ≡ det_cos x

abbrev pub Recombination : List Float → Type 0
Recombination r = r ≡ recombination
