-- A stream cut into parts, and what calls in a row have made, for either engine. Definitions only.
use Rattle.std.specs.Prelude.{◌≡◌, List, [], ◌∷◌, ◌++◌, ℕ, ◌≤◌, Float, length}

-- a part of a stream, and the output buffer that is lent for it
pub record Part : Type 0 where
  pub near : List Float
  pub far : List Float
  pub out : List Float

-- as many near samples as far samples
pub record Level (p : Part) : Type 0 where
  pub level : length p.near ≡ length p.far

-- and at most 4,096 of them
pub record Fair (p : Part) : Type 0 where
  pub level : length p.near ≡ length p.far
  pub few : length p.near ≤ 4096

-- the whole stream's near samples, and its far samples
unfoldable pub all_near : List Part → List Float
all_near [] = []
all_near (p ∷ ps) = p.near ++ all_near ps

unfoldable pub all_far : List Part → List Float
all_far [] = []
all_far (p ∷ ps) = p.far ++ all_far ps

-- What calls one after the other have made: the run of all of them, with the state and the buffers after the last and all delivered samples
-- joined, and each call's refusal. R is the engine's kind of run.
pub record Made (R : Type 0) : Type 0 where
  pub run : R
  pub refusals : List ℕ
