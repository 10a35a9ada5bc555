-- The last block of two: what `last_of` makes of three, and of a part in which none ran. Assumes nothing.
use mathlib.Core.Path.{◌≡◌, refl}
use Rattle.tau_state.specs.declared.report.Last.{Last}
use Rattle.tau_state.specs.declared.report.Last.TheVariants.{NoneRan, Did}
use Rattle.tau_frame.specs.Pairs.{last_of}

pub last_none : (l : Last) → last_of l NoneRan ≡ l
unfolding last_of
last_none l = refl

pub last-first : (l : Last) → last_of NoneRan l ≡ l
unfolding last_of
last-first NoneRan = refl
last-first (Did told) = refl

pub last-assoc : (a b c : Last) → last_of a (last_of b c) ≡ last_of (last_of a b) c
unfolding last_of
last-assoc a b NoneRan = refl
last-assoc a b (Did told) = refl
