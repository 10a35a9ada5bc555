use Rattle.std.proofs.Common.{rules}
use Rattle.layout.proofs.Bins.{put_one}
use Rattle.layout.proofs.put.Goals as goal

pub returns : goal.returns
returns c = put_one _ _ _ (search rules) (search rules)
