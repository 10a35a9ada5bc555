-- A window of 512 samples that slides by a block of 256, and the half of it that a block reads. Definitions only.
use Rattle.std.specs.Prelude.{List, ◌++◌, drop, Float}

-- "Slide the .. window": its later half, then the block
unfoldable pub slid : List Float → List Float → List Float
slid w b = drop 256 w ++ b

-- "last 256 samples of the inverse"
unfoldable pub latter : List Float → List Float
latter s = drop 256 s
