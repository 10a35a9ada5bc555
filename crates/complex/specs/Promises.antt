-- What each public function promises: what it is given, then its answer. The contracts cite these names, and crate promises proves that
-- each admits one answer (Answers).
use Rattle.std.specs.Prelude.{◌≡◌, Float}
use Rattle.complex.specs.declared.Complex.{Complex}
use Rattle.complex.specs.Complexes.{new_c, conj_c, add_c, sub_c, mul_c, scale_c}

abbrev pub New : Float → Float → Complex → Type 0
New re im r = r ≡ new_c re im

abbrev pub Conj : Complex → Complex → Type 0
Conj z r = r ≡ conj_c z

abbrev pub Add : Complex → Complex → Complex → Type 0
Add a b r = r ≡ add_c a b

abbrev pub Sub : Complex → Complex → Complex → Type 0
Sub a b r = r ≡ sub_c a b

abbrev pub Mul : Complex → Complex → Complex → Type 0
Mul a b r = r ≡ mul_c a b

abbrev pub Scale : Complex → Float → Complex → Type 0
Scale z factor r = r ≡ scale_c z factor
